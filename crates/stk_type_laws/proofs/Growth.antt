-- Names in force that grow in order: structs only become complete, and sizes that are known stay.
use Rattle.std.proofs.Common.{◌≡◌, ◌≤◌, ◌+◌, ◌⊎◌, ℕ, Bool, true, false, List, [], ◌∷◌, ◌++◌, Option, Some, None, IsSome, length, refl, sym, ap, subst, ◌∙◌, inl, inr, arith, length-append}
use mathlib.Core.Logic.{⊎_elim}
use Rattle.std.specs.Option.{option_map}
use Rattle.std.proofs.lemmas.Bool.{cases_eq}
use Rattle.std.proofs.lemmas.List.{get_or-set_other, length-set}
use Rattle.stk_ctype.specs.declared.symbol.MemberInfo.{MemberInfo}
use Rattle.stk_ctype.specs.declared.symbol.NameEntry.{NameEntry}
use Rattle.stk_ctype.specs.declared.symbol.NameEntry.TheVariants as entry
use Rattle.stk_ctype.specs.Types.{TypeTree, void_type, integer_type, pointer_type, array_type, struct_type, function_type, type_of}
use Rattle.stk_ctype.specs.Structs.{Structs, StructLayout, struct_at, array_size, size_of, laid_out, after, structs_behind, structs_of}
use Rattle.stk_ctype.specs.Sound.{IsOpenArray}
use Rattle.stk_ctype.proofs.Noting.{default-append, structs_behind-append}
use Rattle.stk_ctype.proofs.Staying.{Stays}
use Rattle.stk_type_laws.specs.Orderly.{DeclaresObject, HaveObjectTypes, AreSized, GivesMembers, AreLaidOut, AreOrderly}

-- ---- structs

abbrev pub Keeps : Structs → Structs → Type 0
Keeps S T = (id : ℕ) → Stays (struct_at S id) (struct_at T id)

struct_size_stays : (before now : Option StructLayout) → Stays before now → IsSome (option_map (λ s. s.size) before) → option_map (λ s. s.size) now ≡ option_map (λ s. s.size) before
struct_size_stays None now stays some = cc
struct_size_stays (Some s) now stays some = ⊎_elim (λ none. cc) (λ same. ap (option_map (λ s. s.size)) same) stays

element_some : (count size : Option ℕ) → IsSome (array_size count size) → IsSome size
element_some None size some = cc
element_some (Some c) None some = cc
element_some (Some c) (Some s) some = refl

pub size_stays : (S T : Structs) → Keeps S T → (t : TypeTree) → IsSome (size_of S t) → size_of T t ≡ size_of S t
size_stays S T keeps void_type some = refl
size_stays S T keeps (integer_type k) some = refl
size_stays S T keeps (pointer_type t) some = refl
size_stays S T keeps (array_type t count) some = ap (array_size count) (size_stays S T keeps t (element_some count (size_of S t) some))
size_stays S T keeps (struct_type id) some = struct_size_stays (struct_at S id) (struct_at T id) (keeps id) some
size_stays S T keeps (function_type f) some = refl

pub stays_then : (a b c : Option StructLayout) → Stays a b → Stays b c → Stays a c
stays_then a b c first second = ⊎_elim (λ none. inl none) (λ same. ⊎_elim (λ none. inl (sym same ∙ none)) (λ next. inr (next ∙ same)) second) first

pub keeps_once : (S : Structs) (e : NameEntry) → GivesMembers S e → Keeps S (after S e)
keeps_once S (entry.Symbol n x) gives id = inr refl
keeps_once S (entry.Struct t) gives id = inr (default-append S None id)
keeps_once S (entry.Members i ms) gives id = ⊎_elim (λ same. inl (ap (struct_at S) same ∙ gives.1)) (λ other. inr (get_or-set_other S i id (Some (laid_out S ms)) None other)) (cases_eq id i)
keeps_once S (entry.Enumeration t) gives id = inr refl

count_once : (S : Structs) (e : NameEntry) → length S ≤ length (after S e)
count_once S (entry.Symbol n x) = omega arith
count_once S (entry.Struct t) = omega (arith, length-append S (None ∷ []))
count_once S (entry.Members id ms) = omega (arith, length-set S id (Some (laid_out S ms)))
count_once S (entry.Enumeration t) = omega arith

laid_append : (S : Structs) (es : List NameEntry) (e : NameEntry) → AreLaidOut S es → GivesMembers (structs_behind S es) e → AreLaidOut S (es ++ e ∷ [])
laid_append S [] e laid gives = (gives, tt)
laid_append S (x ∷ es) e laid gives = (laid.0, laid_append (after S x) es e laid.1 gives)

-- ---- names

objects_append : (es : List NameEntry) (e : NameEntry) → HaveObjectTypes es → DeclaresObject e → HaveObjectTypes (es ++ e ∷ [])
objects_append [] e p q = (q, tt)
objects_append (x ∷ es) e p q = (p.0, objects_append es e p.1 q)

-- the names now are orderly, and have grown from those before
pub record Kept (es now : List NameEntry) : Type 0 where
  pub orderly : AreOrderly now
  pub keeps : Keeps (structs_of es) (structs_of now)
  pub count : length (structs_of es) ≤ length (structs_of now)

pub kept_same : (es : List NameEntry) → AreOrderly es → Kept es es
kept_same es so = record { orderly = so; keeps = λ id. inr refl; count = omega arith }

pub kept_then : (a b c : List NameEntry) → Kept a b → Kept b c → Kept a c
kept_then a b c p q = record { orderly = q.orderly; keeps = λ id. stays_then _ _ _ (p.keeps id) (q.keeps id); count = omega (arith, p.count, q.count) }

pub kept_one : (es : List NameEntry) (e : NameEntry) → AreOrderly es → DeclaresObject e → GivesMembers (structs_of es) e → Kept es (es ++ e ∷ [])
kept_one es e so object gives =
    let same : structs_of (es ++ e ∷ []) ≡ after (structs_of es) e = structs_behind-append [] es e in
    record {
      orderly = record { objects = objects_append es e so.objects object; structs = laid_append [] es e so.structs gives };
      keeps = subst (Keeps (structs_of es)) (sym same) (keeps_once (structs_of es) e gives);
      count = subst (λ S. length (structs_of es) ≤ length S) (sym same) (count_once (structs_of es) e);
    }

-- ---- members so far

-- each is complete
abbrev pub AllSized : Structs → List MemberInfo → Type 0
AllSized S [] = Unit {0}
AllSized S (m ∷ ms) = IsSome (size_of S (type_of m.ty)) × AllSized S ms

-- the same, but that the last one may be an array of unknown size where it is the last
abbrev pub SizedSoFar : Bool → Structs → List MemberInfo → Type 0
SizedSoFar true S ms = AreSized S ms
SizedSoFar false S ms = AllSized S ms

pub all_sized_stays : (S T : Structs) → Keeps S T → (ms : List MemberInfo) → AllSized S ms → AllSized T ms
all_sized_stays S T keeps [] all = tt
all_sized_stays S T keeps (m ∷ ms) all = (subst IsSome (sym (size_stays S T keeps (type_of m.ty) all.0)) all.0, all_sized_stays S T keeps ms all.1)

pub all_sized_append : (S : Structs) (ms : List MemberInfo) (m : MemberInfo) → AllSized S ms → IsSome (size_of S (type_of m.ty)) → AllSized S (ms ++ m ∷ [])
all_sized_append S [] m all some = (some, tt)
all_sized_append S (x ∷ ms) m all some = (all.0, all_sized_append S ms m all.1 some)

pub sized_append : (S : Structs) (ms : List MemberInfo) (m : MemberInfo) → AllSized S ms → IsSome (size_of S (type_of m.ty)) ⊎ IsOpenArray (type_of m.ty) → AreSized S (ms ++ m ∷ [])
sized_append S [] m all last = last
sized_append S (x ∷ []) m all last = (all.0, last)
sized_append S (x ∷ y ∷ ms) m all last = (all.0, sized_append S (y ∷ ms) m all.1 last)

are_sized : (S : Structs) (ms : List MemberInfo) → AllSized S ms → AreSized S ms
are_sized S [] all = tt
are_sized S (m ∷ []) all = inl all.0
are_sized S (m ∷ next ∷ ms) all = (all.0, are_sized S (next ∷ ms) all.1)

pub sized_so_far : (last : Bool) (S : Structs) (ms : List MemberInfo) → AllSized S ms → SizedSoFar last S ms
sized_so_far true S ms all = are_sized S ms all
sized_so_far false S ms all = all
