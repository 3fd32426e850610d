-- Types that are sound stay sound as entries are added.
use Rattle.std.proofs.Common.{◌≡◌, ◌≤◌, ◌<◌, ◌+◌, ◌⊎◌, ℕ, suc, zero, Bool, true, false, cond, List, [], ◌∷◌, ◌++◌, Option, Some, None, IsSome, length, refl, sym, ap, subst, ◌∙◌, inl, inr, arith, length-append}
use mathlib.Core.Logic.{⊎_elim}
use Rattle.std.specs.Prelude.{IfSome, slice_index_or}
use Rattle.std.specs.Option.{option_map}
use Rattle.std.proofs.lemmas.Bool.{cases_eq}
use Rattle.std.proofs.lemmas.List.{get_or-set_other, length-set, get_or_default}
use Rattle.std.proofs.lemmas.List.Sums.{sum_by-cons}
use Rattle.stk_base.specs.Text.{same_text}
use Rattle.stk_ctype.specs.declared.ctype.CType.{CType}
use Rattle.stk_ctype.specs.declared.symbol.MemberInfo.{MemberInfo}
use Rattle.stk_ctype.specs.declared.symbol.Symbol.{Symbol}
use Rattle.stk_ctype.specs.declared.symbol.Symbol.TheVariants as symbol
use Rattle.stk_ctype.specs.declared.symbol.NameEntry.{NameEntry}
use Rattle.stk_ctype.specs.declared.symbol.NameEntry.TheVariants as entry
use Rattle.stk_ctype.specs.declared.symbol.Tag.{Tag}
use Rattle.stk_ctype.specs.declared.symbol.Tag.TheVariants as tag
use Rattle.stk_ctype.specs.declared.facts.Layout.{Layout}
use Rattle.stk_ctype.specs.declared.facts.Facts.{Facts}
use Rattle.stk_ctype.specs.Types.{TypeTree, void_type, integer_type, pointer_type, array_type, struct_type, function_type, SignatureTree, signature, TypeTrees, no_types, then_type, type_of, signature_of}
use Rattle.stk_ctype.specs.Structs.{Structs, StructLayout, struct_at, array_size, size_of, after, structs_behind, structs_of, laid_out, member_named}
use Rattle.stk_ctype.specs.Sound.{IsWithinLimit, IsSound, IsSoundSignature, AreSound, AreMembers, IsSoundSymbol, IsSoundTag, RestsOn, Keeps}
use Rattle.stk_ctype.specs.Names.{later_of, symbol_named, find, structs_in, struct_count, tag_named, tag_behind, tag_of}
use Rattle.stk_ctype.specs.Facts.{AreLawful, AreFactsOf, IsKept}
use Rattle.stk_ctype.proofs.Noting.{default-append, structs_behind-append, facts_of_front}
use Rattle.stk_ctype.proofs.SizesOfTypes.{struct_within, declared_sound}

-- ---- structs only become complete
-- a struct is incomplete at first, or the same
abbrev pub Stays : Option StructLayout → Option StructLayout → Type 0
Stays before now = (before ≡ None) ⊎ (now ≡ before)

pub record Grows (S T : Structs) : Type 0 where
  pub count : length S ≤ length T
  pub each : (id : ℕ) → Stays (struct_at S id) (struct_at T id)

grows_not : (S : Structs) → Grows S S
grows_not S = record { count = omega arith; each = λ id. inr refl }

stays_then : (a b c : Option StructLayout) → Stays a b → Stays b c → Stays a c
stays_then a b c first second =
    ⊎_elim (λ none. inl none) (λ same. ⊎_elim (λ none. inl (sym same ∙ none)) (λ next. inr (next ∙ same)) second) first

grows_then : (S T U : Structs) → Grows S T → Grows T U → Grows S U
grows_then S T U first second = record {
  count = omega (arith, first.count, second.count);
  each = λ id. stays_then _ _ _ (first.each id) (second.each id);
}

grows_once : (S : Structs) (e : NameEntry) → RestsOn S e → Grows S (after S e)
grows_once S (entry.Symbol n x) rests = grows_not S
grows_once S (entry.Struct t) rests = record {
  count = omega (arith, length-append S (None ∷ []));
  each = λ id. inr (default-append S None id);
}
grows_once S (entry.Members id ms) rests = record {
  count = omega (arith, length-set S id (Some (laid_out S ms)));
  each = λ j. ⊎_elim (λ same. inl (ap (struct_at S) same ∙ rests.1)) (λ other. inr (get_or-set_other S id j (Some (laid_out S ms)) None other)) (cases_eq j id);
}
grows_once S (entry.Enumeration t) rests = grows_not S

grows_behind : (S : Structs) (es : List NameEntry) → AreLawful S es → Grows S (structs_behind S es)
grows_behind S [] so = grows_not S
grows_behind S (e ∷ es) so = grows_then S (after S e) (structs_behind (after S e) es) (grows_once S e so.0) (grows_behind (after S e) es so.1)

-- ---- sizes and soundness stay
struct_size_stays : (before now : Option StructLayout) → Stays before now → IsSome (option_map (λ s. s.size) before) → option_map (λ s. s.size) now ≡ option_map (λ s. s.size) before
struct_size_stays None now stays some = cc
struct_size_stays (Some s) now stays some = ⊎_elim (λ none. cc) (λ same. ap (option_map (λ s. s.size)) same) stays

element_some : (count size : Option ℕ) → IsSome (array_size count size) → IsSome size
element_some None size some = cc
element_some (Some c) None some = cc
element_some (Some c) (Some s) some = refl

size_stays : (S T : Structs) → Grows S T → (t : TypeTree) → IsSome (size_of S t) → size_of T t ≡ size_of S t
size_stays S T grows void_type some = refl
size_stays S T grows (integer_type k) some = refl
size_stays S T grows (pointer_type t) some = refl
size_stays S T grows (array_type t count) some = ap (array_size count) (size_stays S T grows t (element_some count (size_of S t) some))
size_stays S T grows (struct_type id) some = struct_size_stays (struct_at S id) (struct_at T id) (grows.each id) some
size_stays S T grows (function_type f) some = refl

-- each struct is within the limit
abbrev pub AreWithin : Structs → Type 0
AreWithin S = (id : ℕ) → IsWithinLimit (size_of S (struct_type id))

mutual
  pub sound_stays : (S T : Structs) → Grows S T → AreWithin T → (t : TypeTree) → IsSound S t → IsSound T t
  sound_stays S T grows within void_type so = tt
  sound_stays S T grows within (integer_type k) so = tt
  sound_stays S T grows within (pointer_type t) so = sound_stays S T grows within t so
  sound_stays S T grows within (array_type t count) so =
      let same = size_stays S T grows t so.1 in
      (sound_stays S T grows within t so.0, subst IsSome (sym same) so.1, so.2, subst (λ o. IsWithinLimit (array_size count o)) (sym same) so.3)
  sound_stays S T grows within (struct_type id) so = (omega (arith, so.0, grows.count), within id)
  sound_stays S T grows within (function_type f) so = signature_stays S T grows within f so

  pub signature_stays : (S T : Structs) → Grows S T → AreWithin T → (f : SignatureTree) → IsSoundSignature S f → IsSoundSignature T f
  signature_stays S T grows within (signature r ps more no_return) so = (sound_stays S T grows within r so.0, row_stays S T grows within ps so.1)

  pub row_stays : (S T : Structs) → Grows S T → AreWithin T → (ts : TypeTrees) → AreSound S ts → AreSound T ts
  row_stays S T grows within no_types so = tt
  row_stays S T grows within (then_type t ts) so = (sound_stays S T grows within t so.0, row_stays S T grows within ts so.1)

symbol_stays : (S T : Structs) → Grows S T → AreWithin T → (x : Symbol) → IsSoundSymbol S x → IsSoundSymbol T x
symbol_stays S T grows within (symbol.TypeDef t) so = sound_stays S T grows within (type_of t) so
symbol_stays S T grows within (symbol.Object t) so = sound_stays S T grows within (type_of t) so
symbol_stays S T grows within (symbol.Function f) so = signature_stays S T grows within (signature_of f) so
symbol_stays S T grows within (symbol.Enumerator v) so = tt

-- ---- what a name means is sound
either_sound : {X : Type 0} (P : X → Type 0) (earlier later : Option X) → IfSome earlier P → IfSome later P → IfSome (later_of earlier later) P
either_sound P earlier None first second = first
either_sound P earlier (Some x) first second = second

own_sound : {X : Type 0} (P : X → Type 0) (b : Bool) (x : X) → P x → IfSome (cond b (Some x) None) P
own_sound P true x so = so
own_sound P false x so = tt

named_sound : (S T : Structs) → Grows S T → AreWithin T → (name : List ℕ) (e : NameEntry) → RestsOn S e → IfSome (symbol_named name e) (IsSoundSymbol T)
named_sound S T grows within name (entry.Symbol n x) rests = own_sound (IsSoundSymbol T) (same_text n name) x (symbol_stays S T grows within x rests)
named_sound S T grows within name (entry.Struct t) rests = tt
named_sound S T grows within name (entry.Members id ms) rests = tt
named_sound S T grows within name (entry.Enumeration t) rests = tt

found_behind : (S : Structs) (es : List NameEntry) → AreLawful S es → AreWithin (structs_behind S es) → (name : List ℕ) → IfSome (find name es) (IsSoundSymbol (structs_behind S es))
found_behind S [] so within name = tt
found_behind S (e ∷ es) so within name =
    either_sound (IsSoundSymbol (structs_behind S (e ∷ es))) (symbol_named name e) (find name es)
    (named_sound S (structs_behind S (e ∷ es)) (grows_behind S (e ∷ es) so) within name e so.0)
    (found_behind (after S e) es so.1 within name)

pub found_sound : (facts : Facts) (es : List NameEntry) → AreFactsOf facts es → (name : List ℕ) → IfSome (find name es) (IsSoundSymbol (structs_of es))
found_sound facts es so name = found_behind [] es so.lawful (struct_within facts es so) name

-- ---- the types of members are sound
-- each of these members has a sound type
abbrev pub HaveSound : Structs → List MemberInfo → Type 0
HaveSound S [] = Unit {0}
HaveSound S (m ∷ ms) = IsSound S (type_of m.ty) × HaveSound S ms

have_sound : (S T : Structs) → Grows S T → AreWithin T → (ms : List MemberInfo) → AreMembers S ms → HaveSound T ms
have_sound S T grows within [] so = tt
have_sound S T grows within (m ∷ []) so = (sound_stays S T grows within (type_of m.ty) so.0, tt)
have_sound S T grows within (m ∷ next ∷ ms) so = (sound_stays S T grows within (type_of m.ty) so.0.0, have_sound S T grows within (next ∷ ms) so.1)

-- the types of the members that an entry gives a struct are sound
abbrev pub HaveSoundIn : Structs → NameEntry → Type 0
HaveSoundIn T (entry.Symbol n x) = Unit {0}
HaveSoundIn T (entry.Struct t) = Unit {0}
HaveSoundIn T (entry.Members id ms) = HaveSound T ms
HaveSoundIn T (entry.Enumeration t) = Unit {0}

entry_sound : (S T : Structs) → Grows S T → AreWithin T → (e : NameEntry) → RestsOn S e → HaveSoundIn T e
entry_sound S T grows within (entry.Symbol n x) rests = tt
entry_sound S T grows within (entry.Struct t) rests = tt
entry_sound S T grows within (entry.Members id ms) rests = have_sound S T grows within ms rests.2
entry_sound S T grows within (entry.Enumeration t) rests = tt

entries_sound : (S : Structs) (es : List NameEntry) → AreLawful S es → AreWithin (structs_behind S es) → (at : ℕ) → HaveSoundIn (structs_behind S es) (slice_index_or es at (entry.Enumeration []))
entries_sound S [] so within at = tt
entries_sound S (e ∷ es) so within zero = entry_sound S (structs_behind S (e ∷ es)) (grows_behind S (e ∷ es) so) within e so.0
entries_sound S (e ∷ es) so within (suc at) = entries_sound (after S e) es so.1 within at

member_test : (T : Structs) (b : Bool) (offset : ℕ) (t : CType) (rest : Option (ℕ × CType)) → IsSound T (type_of t) → IfSome rest (λ p. IsSound T (type_of p.1)) → IfSome (cond b (Some (offset, t)) rest) (λ p. IsSound T (type_of p.1))
member_test T true offset t rest here there = here
member_test T false offset t rest here there = there

member_row_sound : (T : Structs) (name : List ℕ) (ms : List MemberInfo) (offsets : List ℕ) → HaveSound T ms → IfSome (member_named name ms offsets) (λ p. IsSound T (type_of p.1))
member_row_sound T name [] offsets so = tt
member_row_sound T name (m ∷ ms) [] so = tt
member_row_sound T name (m ∷ ms) (offset ∷ offsets) so = member_test T (same_text m.name name) offset m.ty (member_named name ms offsets) so.0 (member_row_sound T name ms offsets so.1)

-- the members of an entry that stands among these
pub listed_sound : (facts : Facts) (es : List NameEntry) (at id : ℕ) (e : NameEntry) (ms : List MemberInfo) (name offsets : List ℕ) → AreFactsOf facts es → at < length es → e ≡ slice_index_or es at e → e ≡ entry.Members id ms
    → IfSome (member_named name ms offsets) (λ p. IsSound (structs_of es) (type_of p.1))
listed_sound facts es at id e ms name offsets so within here is =
    let there = entries_sound [] es so.lawful (struct_within facts es so) at in
    let same = sym (here ∙ get_or_default es at e (entry.Enumeration []) within) ∙ is in
    member_row_sound (structs_of es) name ms offsets (subst (HaveSoundIn (structs_of es)) same there)

-- the same, of what a call found
pub shown_sound : {X : Type 0} (f : X → ℕ × CType) (T : Structs) (o : Option X) (m : Option (ℕ × CType)) → option_map f o ≡ m → IfSome m (λ p. IsSound T (type_of p.1)) → IfSome o (λ x. IsSound T (type_of (f x).1))
shown_sound f T None m is so = tt
shown_sound f T (Some x) m is so = subst (λ n. IfSome n (λ p. IsSound T (type_of p.1))) (sym is) so

-- what is kept of a struct stands among the entries
pub kept_at : (es : List NameEntry) (id : ℕ) (k : Layout) (s : Option StructLayout) → IsKept es id (Some k) s → k.at < length es
kept_at es id k None so = absurd so
kept_at es id k (Some s) so = so.at

-- ---- the struct of a tag is declared
-- the struct of a tag is one of the first
abbrev IsAmong : ℕ → Tag → Type 0
IsAmong n (tag.Struct id) = id < n
IsAmong n tag.Enumeration = Unit {0}

named_among : (count n : ℕ) (name : List ℕ) (e : NameEntry) → count + structs_in e ≤ n → IfSome (tag_named count name e) (IsAmong n)
named_among count n name (entry.Symbol m x) few = tt
named_among count n name (entry.Struct None) few = tt
named_among count n name (entry.Struct (Some t)) few = own_sound (IsAmong n) (same_text t name) (tag.Struct count) (omega (arith, few))
named_among count n name (entry.Members id ms) few = tt
named_among count n name (entry.Enumeration t) few = own_sound (IsAmong n) (same_text t name) tag.Enumeration tt

behind_among : (count n : ℕ) (name : List ℕ) (es : List NameEntry) → count + struct_count es ≤ n → IfSome (tag_behind count name es) (IsAmong n)
behind_among count n name [] few = tt
behind_among count n name (e ∷ es) few =
    let step = sum_by-cons structs_in e es in
    either_sound (IsAmong n) (tag_named count name e) (tag_behind (count + structs_in e) name es)
    (named_among count n name e (omega (arith, few, step)))
    (behind_among (count + structs_in e) n name es (omega (arith, few, step)))

among_sound : (facts : Facts) (es : List NameEntry) → AreFactsOf facts es → (o : Option Tag) → IfSome o (IsAmong (struct_count es)) → IfSome o (IsSoundTag (structs_of es))
among_sound facts es so None among = tt
among_sound facts es so (Some (tag.Struct id)) among = declared_sound facts es id so among
among_sound facts es so (Some tag.Enumeration) among = tt

pub tag_sound : (facts : Facts) (es : List NameEntry) → AreFactsOf facts es → (name : List ℕ) → IfSome (tag_of name es) (IsSoundTag (structs_of es))
tag_sound facts es so name = among_sound facts es so (tag_of name es) (behind_among 0 (struct_count es) name es (omega arith))

-- ---- one entry more
pub added_keeps : (facts : Facts) (es : List NameEntry) (e : NameEntry) → AreFactsOf facts (es ++ e ∷ []) → Keeps (structs_of es) (structs_of (es ++ e ∷ []))
added_keeps facts es e so =
    let grows = subst (Grows (structs_of es)) (sym (structs_behind-append [] es e)) (grows_once (structs_of es) e (facts_of_front facts es e so).rests) in
    record {
      sound = λ t. sound_stays (structs_of es) (structs_of (es ++ e ∷ [])) grows (struct_within facts (es ++ e ∷ []) so) t;
      sizes = λ t. size_stays (structs_of es) (structs_of (es ++ e ∷ [])) grows t;
    }
