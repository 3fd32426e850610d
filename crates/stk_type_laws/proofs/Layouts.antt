-- A member lies within its struct, and has a type that an object has (C11 6.7.2.1).
use Rattle.std.proofs.Common.{◌≡◌, ◌≤◌, ◌+◌, ◌⊎◌, ℕ, zero, suc, Bool, true, false, ◌||◌, List, [], ◌∷◌, ◌++◌, Option, Some, None, IsSome, refl, sym, ap, subst, ◌∙◌, inl, inr, arith}
use mathlib.Core.Logic.{⊎_elim}
use Rattle.std.specs.Prelude.{IfSome, if◌then◌else◌, slice_set, unwrap_or}
use Rattle.std.specs.Option.{option_map, option_map_or}
use Rattle.std.proofs.lemmas.Bool.{cases_eq}
use Rattle.std.proofs.lemmas.List.{get_or-set_same, get_or-set_other}
use Rattle.stk_base.specs.Text.{same_text}
use Rattle.stk_ctype.specs.declared.ctype.CType.{CType}
use Rattle.stk_ctype.specs.declared.symbol.MemberInfo.{MemberInfo}
use Rattle.stk_ctype.specs.declared.symbol.NameEntry.{NameEntry}
use Rattle.stk_ctype.specs.declared.symbol.NameEntry.TheVariants as entry
use Rattle.stk_ctype.specs.Types.{TypeTree, void_type, integer_type, pointer_type, array_type, struct_type, function_type, type_of}
use Rattle.stk_ctype.specs.Structs.{Structs, StructLayout, struct_at, size_of, alignment_of, offset_behind, end_behind, offsets_behind, end_of, greatest_alignment, struct_size, laid_out, member_named, member_in, member_of, after, structs_behind, structs_of}
use Rattle.stk_ctype.specs.Sound.{IsOpenArray}
use Rattle.stk_ctype.proofs.Noting.{default-append}
use Rattle.stk_ctype.proofs.Placing.{HaveAlignments, round_up_least}
use Rattle.stk_ctype.proofs.SizesOfTypes.{bytes_least}
use Rattle.stk_type_laws.proofs.Growth.{Keeps, size_stays, stays_then, keeps_once}
use Rattle.stk_type_rules.specs.Types.{is_scalar, is_struct}
use Rattle.stk_type_laws.specs.Orderly.{is_object_type, AreSized, GivesMembers, AreLaidOut}

-- ---- how a struct was laid out

least_alignment : (S : Structs) → HaveAlignments S → (t : TypeTree) → 1 ≤ alignment_of S t
least_alignment S have void_type = omega arith
least_alignment S have (integer_type k) = bytes_least k
least_alignment S have (pointer_type t) = omega arith
least_alignment S have (array_type t count) = least_alignment S have t
least_alignment S have (struct_type id) = by (struct_at S id) (have id)
  where
    by : (o : Option StructLayout) → IfSome o (λ s. 1 ≤ s.alignment) → 1 ≤ option_map_or (λ s. s.alignment) o 1
    by None so = omega arith
    by (Some s) so = so
least_alignment S have (function_type f) = omega arith

greatest_least : (S : Structs) (ms : List MemberInfo) → 1 ≤ greatest_alignment S ms
greatest_least S [] = omega arith
greatest_least S (m ∷ ms) = omega (arith, greatest_least S ms)

-- the structs that there were, and the members that they were given
record Laid (S : Structs) (s : StructLayout) : Type 0 where
  before : Structs
  members : List MemberInfo
  is : s ≡ laid_out before members
  are : AreSized before members
  aligned : HaveAlignments before
  keeps : Keeps before S

AreLaid : Structs → Type 0
AreLaid S = (id : ℕ) → IfSome (struct_at S id) (Laid S)

still_laid : (S T : Structs) (o : Option StructLayout) → Keeps S T → IfSome o (Laid S) → IfSome o (Laid T)
still_laid S T None keeps l = tt
still_laid S T (Some s) keeps l = record { before = l.before; members = l.members; is = l.is; are = l.are; aligned = l.aligned; keeps = λ id. stays_then _ _ _ (l.keeps id) (keeps id) }

laid_aligned : (S : Structs) (o : Option StructLayout) → IfSome o (Laid S) → IfSome o (λ s. 1 ≤ s.alignment)
laid_aligned S None l = tt
laid_aligned S (Some s) l = subst (λ a. 1 ≤ a) (sym (ap (λ (x : StructLayout). x.alignment) l.is)) (greatest_least l.before l.members)

are_aligned : (S : Structs) → AreLaid S → HaveAlignments S
unfolding AreLaid
are_aligned S l id = laid_aligned S (struct_at S id) (l id)

laid_once : (S : Structs) (e : NameEntry) → GivesMembers S e → AreLaid S → AreLaid (after S e)
unfolding AreLaid
laid_once S (entry.Symbol n x) gives l id = l id
laid_once S (entry.Struct t) gives l id =
    subst (λ o. IfSome o (Laid (S ++ None ∷ []))) (sym (default-append S None id)) (still_laid S (S ++ None ∷ []) (struct_at S id) (keeps_once S (entry.Struct t) gives) (l id))
laid_once S (entry.Members i ms) gives l id =
    let new = slice_set S i (Some (laid_out S ms)) in
    let keeps : Keeps S (slice_set S i (Some (laid_out S ms))) = keeps_once S (entry.Members i ms) gives in
    ⊎_elim
    (λ same. subst (λ o. IfSome o (Laid new)) (sym (ap (struct_at new) same ∙ get_or-set_same S i (Some (laid_out S ms)) None gives.0))
    (record { before = S; members = ms; is = refl; are = gives.2; aligned = are_aligned S l; keeps = keeps }))
    (λ other. subst (λ o. IfSome o (Laid new)) (sym (get_or-set_other S i id (Some (laid_out S ms)) None other)) (still_laid S new (struct_at S id) keeps (l id)))
    (cases_eq id i)
laid_once S (entry.Enumeration t) gives l id = l id

laid_behind : (S : Structs) (es : List NameEntry) → AreLaidOut S es → AreLaid S → AreLaid (structs_behind S es)
laid_behind S [] so l = l
laid_behind S (e ∷ es) so l = laid_behind (after S e) es so.1 (laid_once S e so.0 l)

none_laid : AreLaid []
unfolding AreLaid
none_laid id = by id
  where
    by : (i : ℕ) → IfSome (struct_at [] i) (Laid [])
    by zero = tt
    by (suc i) = tt

-- ---- a member of a struct

-- a member has a type that an object has, and lies within its struct where it is a scalar or a struct
pub record Lies (S : Structs) (t : TypeTree) (m : ℕ × CType) : Type 0 where
  pub object : is_object_type (type_of m.1) ≡ true
  pub within : (is_scalar (type_of m.1) || is_struct (type_of m.1)) ≡ true → m.0 + unwrap_or (size_of S (type_of m.1)) 1 ≤ unwrap_or (size_of S t) 1

-- where a member ends that is found among members
record Ending (S : Structs) (m : ℕ × CType) (end : ℕ) : Type 0 where
  last : IsSome (size_of S (type_of m.1)) ⊎ IsOpenArray (type_of m.1)
  within : m.0 + unwrap_or (size_of S (type_of m.1)) 0 ≤ end

end_behind_least : (S : Structs) → HaveAlignments S → (behind : ℕ) (m : MemberInfo) → behind ≤ end_behind S behind m
end_behind_least S have behind m = omega (arith, round_up_least (alignment_of S (type_of m.ty)) behind (least_alignment S have (type_of m.ty)))

end_of_least : (S : Structs) → HaveAlignments S → (behind : ℕ) (ms : List MemberInfo) → behind ≤ end_of S behind ms
end_of_least S have behind [] = omega arith
end_of_least S have behind (m ∷ ms) = omega (arith, end_behind_least S have behind m, end_of_least S have (end_behind S behind m) ms)

first_member : (S : Structs) (m : MemberInfo) (ms : List MemberInfo) → AreSized S (m ∷ ms) → IsSome (size_of S (type_of m.ty)) ⊎ IsOpenArray (type_of m.ty)
first_member S m [] so = so
first_member S m (next ∷ ms) so = inl so.0

rest_members : (S : Structs) (m : MemberInfo) (ms : List MemberInfo) → AreSized S (m ∷ ms) → AreSized S ms
rest_members S m [] so = tt
rest_members S m (next ∷ ms) so = so.1

moved : (S : Structs) (m n : ℕ × CType) (end : ℕ) → m ≡ n → Ending S m end → Ending S n end
moved S m n end same e = subst (λ z. Ending S z end) same e

either : (S : Structs) (name : List ℕ) (m : MemberInfo) (ms : List MemberInfo) (behind : ℕ) (found : ℕ × CType) → HaveAlignments S → AreSized S (m ∷ ms)
    → (member_named name ms (offsets_behind S (end_behind S behind m) ms) ≡ Some found → Ending S found (end_of S (end_behind S behind m) ms))
    → (same : Bool) → (if same then Some (offset_behind S behind m, m.ty) else member_named name ms (offsets_behind S (end_behind S behind m) ms)) ≡ Some found → Ending S found (end_of S (end_behind S behind m) ms)
either S name m ms behind found have are others true e =
    let here : ℕ × CType = (offset_behind S behind m, m.ty) in
    let own : Ending S here (end_of S (end_behind S behind m) ms) = record { last = first_member S m ms are; within = omega (arith, end_of_least S have (end_behind S behind m) ms) } in
    moved S here found (end_of S (end_behind S behind m) ms) (cc) own
either S name m ms behind found have are others false e = others e

ending : (S : Structs) → HaveAlignments S → (name : List ℕ) (ms : List MemberInfo) (behind : ℕ) (found : ℕ × CType) → AreSized S ms → member_named name ms (offsets_behind S behind ms) ≡ Some found → Ending S found (end_of S behind ms)
ending S have name [] behind found are e = absurd cc
ending S have name (m ∷ ms) behind found are e = either S name m ms behind found have are (ending S have name ms (end_behind S behind m) found (rest_members S m ms are)) (same_text m.name name) e

known : (o : Option ℕ) (m : ℕ) → IsSome o → unwrap_or o 0 ≡ unwrap_or o m
known None m some = absurd cc
known (Some n) m some = refl

last_object : (S : Structs) (t : TypeTree) → IsSome (size_of S t) ⊎ IsOpenArray t → is_object_type t ≡ true
last_object S void_type (inl some) = absurd cc
last_object S void_type (inr o) = absurd o
last_object S (integer_type k) h = refl
last_object S (pointer_type t) h = refl
last_object S (array_type t count) h = refl
last_object S (struct_type id) h = refl
last_object S (function_type f) (inl some) = absurd cc
last_object S (function_type f) (inr o) = absurd o

sized : (S : Structs) (t : TypeTree) → IsSome (size_of S t) ⊎ IsOpenArray t → (is_scalar t || is_struct t) ≡ true → IsSome (size_of S t)
sized S t (inl some) e = some
sized S void_type (inr o) e = absurd o
sized S (integer_type k) (inr o) e = absurd o
sized S (pointer_type t) (inr o) e = absurd o
sized S (array_type t count) (inr o) e = absurd cc
sized S (struct_type id) (inr o) e = absurd o
sized S (function_type f) (inr o) e = absurd o

lies_in : (S : Structs) (id : ℕ) (name : List ℕ) (found : ℕ × CType) (o : Option StructLayout) → struct_at S id ≡ o → IfSome o (Laid S) → member_in name o ≡ Some found → Lies S (struct_type id) found
lies_in S id name found None p l e = absurd cc
lies_in S id name found (Some s) p l e =
    let here : member_named name l.members (offsets_behind l.before 0 l.members) ≡ Some found = ap (λ (x : StructLayout). member_named name x.members x.offsets) (sym l.is) ∙ e in
    let end = ending l.before l.aligned name l.members 0 found l.are here in
    let size : size_of S (struct_type id) ≡ Some (struct_size l.before l.members) = ap (option_map (λ (x : StructLayout). x.size)) (p ∙ ap Some l.is) in
    let whole : unwrap_or (size_of S (struct_type id)) 1 ≡ struct_size l.before l.members = ap (λ z. unwrap_or z 1) size in
    record {
      object = last_object l.before (type_of found.1) end.last;
      within = λ part.
          let some = sized l.before (type_of found.1) end.last part in
          let same : unwrap_or (size_of S (type_of found.1)) 1 ≡ unwrap_or (size_of l.before (type_of found.1)) 0 =
          ap (λ z. unwrap_or z 1) (size_stays l.before S l.keeps (type_of found.1) some) ∙ sym (known (size_of l.before (type_of found.1)) 1 some) in
          let up = round_up_least (greatest_alignment l.before l.members) (end_of l.before 0 l.members) (greatest_least l.before l.members) in
          omega (arith, same, whole, up, end.within);
    }

pub member_lies : (es : List NameEntry) → AreLaidOut [] es → (t : TypeTree) (name : List ℕ) (found : ℕ × CType) → member_of (structs_of es) t name ≡ Some found → Lies (structs_of es) t found
unfolding AreLaid
member_lies es so void_type name found e = absurd cc
member_lies es so (integer_type k) name found e = absurd cc
member_lies es so (pointer_type t) name found e = absurd cc
member_lies es so (array_type t count) name found e = absurd cc
member_lies es so (struct_type id) name found e = lies_in (structs_of es) id name found (struct_at (structs_of es) id) refl (laid_behind [] es so none_laid id) e
member_lies es so (function_type f) name found e = absurd cc
