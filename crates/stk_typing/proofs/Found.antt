-- The local of a name is one of the locals, so its type is sound where all of theirs are.
use Rattle.std.proofs.Common.{◌≡◌, ◌≤◌, ◌<◌, ◌+◌, ◌-◌, ℕ, zero, suc, Bool, true, false, List, [], ◌∷◌, ◌++◌, length, drop, map, Option, Some, None, MatchOption, refl, ap, subst, sym, ◌∙◌, arith}
use Rattle.std.specs.Prelude.{IfSome, if◌then◌else◌, slice_index_or, nat_le}
use Rattle.std.specs.Option.{option_map, is_some}
use Rattle.std.proofs.lemmas.Bool.{lt-leb, le-leb}
use Rattle.stk_base.specs.Text.{same_text}
use Rattle.stk_ctype.specs.Types.{type_of}
use Rattle.stk_ctype.specs.Structs.{Structs}
use Rattle.stk_ctype.specs.Sound.{IsSound}
use Rattle.stk_ctype.specs.Names.{later_of}
use Rattle.stk_typing.specs.declared.locals.LocalName.{LocalName}
use Rattle.stk_ctype.specs.declared.index.Index.{Index}
use Rattle.stk_ctype.specs.Index.{last_meaning, IsIndexOf}
use Rattle.stk_typing.specs.Places.{local_words, place_of}
use Rattle.stk_typing.specs.Locals.{Local, AreSoundLocals, local_of, local_named, find_local}

IsSoundLocal : Structs → Option Local → Type 0
IsSoundLocal structs o = IfSome o (λ l. IsSound structs l.ty)

later_sound : (structs : Structs) (a b : Option Local) → IsSoundLocal structs a → IsSoundLocal structs b → IsSoundLocal structs (later_of a b)
unfolding IsSoundLocal
later_sound structs a None h k = h
later_sound structs a (Some l) h k = k

one_sound : (structs : Structs) (l : Local) (b : Bool) → IsSound structs l.ty → IsSoundLocal structs (if b then Some l else None)
unfolding IsSoundLocal
one_sound structs l true h = h
one_sound structs l false h = tt

all_sound : (structs : Structs) (name : List ℕ) (ls : List Local) → AreSoundLocals structs ls → IsSoundLocal structs (find_local name ls)
unfolding IsSoundLocal
all_sound structs name [] h = tt
all_sound structs name (l ∷ ls) h = later_sound structs (local_named name l) (find_local name ls) (one_sound structs l (same_text l.name name) h.0) (all_sound structs name ls h.1)

shown : (structs : Structs) (r : Option LocalName) → IsSoundLocal structs (option_map local_of r) → IfSome r (λ l. IsSound structs (type_of l.ty))
unfolding IsSoundLocal
shown structs None h = tt
shown structs (Some l) h = h

pub found_sound : (structs : Structs) (name : List ℕ) (ls : List Local) (r : Option LocalName) → option_map local_of r ≡ find_local name ls → AreSoundLocals structs ls → IfSome r (λ l. IsSound structs (type_of l.ty))
found_sound structs name ls r e h = shown structs r (subst (IsSoundLocal structs) (sym e) (all_sound structs name ls h))

-- ---- where the local of a name stands
-- a place that is found, counted from a first one, is that of the local that the name means
pub record IsPlaceOf (name : List ℕ) (first : ℕ) (ls : List LocalName) (place : ℕ) : Type 0 where
  pub low : first ≤ place
  pub high : place < first + length ls
  pub same : (l : LocalName) → l ≡ slice_index_or ls (place - first) l → find_local name (map local_of ls) ≡ Some (local_of l)
  pub some : is_some (find_local name (map local_of ls)) ≡ true

-- what a place says of the locals
abbrev pub IsPlace : List ℕ → ℕ → List LocalName → Option ℕ → Type 0
IsPlace name first ls place = MatchOption place (find_local name (map local_of ls) ≡ None) (IsPlaceOf name first ls)

later_by : (a : Option Local) (o : Option Local) (l : LocalName) → o ≡ Some (local_of l) → later_of a o ≡ Some (local_of l)
later_by a None l is = cc
later_by a (Some x) l is = is

later-some : (a o : Option Local) → is_some o ≡ true → is_some (later_of a o) ≡ true
later-some a None some = cc
later-some a (Some x) some = refl

behind : (name : List ℕ) (first : ℕ) (x : LocalName) (ls : List LocalName) (place : ℕ) → IsPlaceOf name (first + 1) ls place → IsPlaceOf name first (x ∷ ls) place
behind name first x ls place so =
    let step : place - first ≡ suc (place - (first + 1)) = omega (arith, so.low) in
    record {
      low = omega (arith, so.low);
      high = omega (arith, so.high);
      same = λ l is. later_by (local_named name (local_of x)) (find_local name (map local_of ls)) l (so.same l (is ∙ ap (λ n. slice_index_or (x ∷ ls) n l) step));
      some = later-some (local_named name (local_of x)) (find_local name (map local_of ls)) so.some;
    }

alone : (name : List ℕ) (first : ℕ) (x : LocalName) (ls : List LocalName) (o : Option Local) → find_local name (map local_of ls) ≡ None → o ≡ Some (local_of x) → o ≡ local_named name (local_of x) → IsPlaceOf name first (x ∷ ls) first
alone name first x ls o none is own =
    let none_before : first - first ≡ 0 = omega arith in
    record {
      low = omega arith;
      high = omega arith;
      same = λ l same. ap (later_of (local_named name (local_of x))) none ∙ sym own ∙ is ∙ ap (λ y. Some (local_of y)) (sym (same ∙ ap (λ n. slice_index_or (x ∷ ls) n l) none_before));
      some = ap is_some (ap (later_of (local_named name (local_of x))) none ∙ sym own ∙ is);
    }

place_join : (name : List ℕ) (first : ℕ) (x : LocalName) (ls : List LocalName) (b : Bool) (w : Option ℕ) → b ≡ same_text x.name name → IsPlace name (first + 1) ls w → IsPlace name first (x ∷ ls) (later_of (if b then Some first else None) w)
place_join name first x ls b (Some place) test there = behind name first x ls place there
place_join name first x ls true None test there = alone name first x ls (Some (local_of x)) there refl (ap (λ c. if c then Some (local_of x) else None) test)
place_join name first x ls false None test there = ap (later_of (local_named name (local_of x))) there ∙ sym (ap (λ (c : Bool). if c then Some (local_of x) else None) test)

-- each place that is found is one
pub placed : (name : List ℕ) (first : ℕ) (ls : List LocalName) → IsPlace name first ls (last_meaning name (local_words first ls))
placed name first [] = refl
placed name first (x ∷ ls) = place_join name first x ls (same_text x.name name) (last_meaning name (local_words (first + 1) ls)) refl (placed name (first + 1) ls)

-- ---- whether the local of a name stands behind others
abbrev pub is_behind : ℕ → Option ℕ → Bool
is_behind n None = false
is_behind n (Some i) = nat_le n i

behind_join : (first outer : ℕ) (b : Bool) (w : Option ℕ) → is_behind (first + 1 + outer) w ≡ is_behind (first + suc outer) (later_of (if b then Some first else None) w)
behind_join first outer b (Some i) = let same : first + 1 + outer ≡ first + suc outer = omega arith in ap (λ n. nat_le n i) same
behind_join first outer true None = let less : first < first + suc outer = omega arith in sym (lt-leb (first + suc outer) first less)
behind_join first outer false None = refl

any_behind : (name : List ℕ) (first : ℕ) (ls : List LocalName) (w : Option ℕ) → IsPlace name first ls w → is_some (find_local name (map local_of ls)) ≡ is_behind first w
any_behind name first ls None so = ap is_some so
any_behind name first ls (Some i) so = so.some ∙ sym (le-leb first i so.low)

stands_behind : (name : List ℕ) (first outer : ℕ) (ls : List LocalName) → is_some (find_local name (map local_of (drop outer ls))) ≡ is_behind (first + outer) (last_meaning name (local_words first ls))
stands_behind name first zero ls =
    let same : first ≡ first + 0 = omega arith in
    any_behind name first ls (last_meaning name (local_words first ls)) (placed name first ls) ∙ ap (λ n. is_behind n (last_meaning name (local_words first ls))) same
stands_behind name first (suc outer) [] = refl
stands_behind name first (suc outer) (x ∷ ls) = stands_behind name (first + 1) outer ls ∙ behind_join first outer (same_text x.name name) (last_meaning name (local_words (first + 1) ls))

-- the same from the first local on
pub stands_behind_first : (name : List ℕ) (outer : ℕ) (ls : List LocalName) → is_some (find_local name (map local_of (drop outer ls))) ≡ is_behind outer (place_of name ls)
stands_behind_first name outer ls =
    let same : 0 + outer ≡ outer = omega arith in
    stands_behind name 0 outer ls ∙ ap (λ n. is_behind n (place_of name ls)) same

-- the local at a place that is found
pub found_at : (name : List ℕ) (ls : List LocalName) (i : ℕ) (l : LocalName) → IsPlaceOf name 0 ls i → l ≡ slice_index_or ls i l → find_local name (map local_of ls) ≡ Some (local_of l)
found_at name ls i l at is = let same : i ≡ i - 0 = omega arith in at.same l (is ∙ ap (λ n. slice_index_or ls n l) same)

-- what a place says of the locals that a call found
pub at_place : (name : List ℕ) (ls : List LocalName) (p : Option ℕ) (i : ℕ) → p ≡ place_of name ls → p ≡ Some i → IsPlaceOf name 0 ls i
at_place name ls p i is here = subst (IsPlace name 0 ls) (sym is ∙ here) (placed name 0 ls)

pub no_place : (name : List ℕ) (ls : List LocalName) (p : Option ℕ) → p ≡ place_of name ls → p ≡ None → find_local name (map local_of ls) ≡ None
no_place name ls p is here = subst (IsPlace name 0 ls) (sym is ∙ here) (placed name 0 ls)

-- ---- one local more, and one less
words_append_behind : (at : ℕ) (ls : List LocalName) (l : LocalName) → local_words at (ls ++ l ∷ []) ≡ local_words at ls ++ (l.name, at + length ls) ∷ []
words_append_behind at [] l = let same : at ≡ at + 0 = omega arith in ap (λ n. (l.name, n) ∷ []) same
words_append_behind at (x ∷ ls) l =
    let same : at + 1 + length ls ≡ at + suc (length ls) = omega arith in
    ap (λ ws. (x.name, at) ∷ ws) (words_append_behind (at + 1) ls l ∙ ap (λ n. local_words (at + 1) ls ++ (l.name, n) ∷ []) same)

words_append : (ls : List LocalName) (l : LocalName) → local_words 0 (ls ++ l ∷ []) ≡ local_words 0 ls ++ (l.name, length ls) ∷ []
words_append ls l = let same : 0 + length ls ≡ length ls = omega arith in words_append_behind 0 ls l ∙ ap (λ n. local_words 0 ls ++ (l.name, n) ∷ []) same

pub pushed_place : (old new : Index ℕ) (ls now : List LocalName) (l : LocalName) (word : List ℕ) (place : ℕ) → word ≡ l.name → place ≡ length ls → now ≡ ls ++ l ∷ [] → IsIndexOf old (local_words 0 ls)
    → ((words : List (List ℕ × ℕ)) → IsIndexOf old words → IsIndexOf new (words ++ (word, place) ∷ [])) → IsIndexOf new (local_words 0 now)
pushed_place old new ls now l word place named counted is so step =
    subst (λ ws. IsIndexOf new ws) (ap (λ (p : List ℕ × ℕ). local_words 0 ls ++ p ∷ []) (ap (λ w. (w, place)) named ∙ ap (λ n. (l.name, n)) counted) ∙ sym (words_append ls l) ∙ ap (local_words 0) (sym is)) (step (local_words 0 ls) so)

pub popped_place : (old new : Index ℕ) (ls now : List LocalName) (l : LocalName) (word : List ℕ) → word ≡ l.name → ls ≡ now ++ l ∷ [] → IsIndexOf old (local_words 0 ls)
    → ((words : List (List ℕ × ℕ)) → (meaning : ℕ) → IsIndexOf old (words ++ (word, meaning) ∷ []) → IsIndexOf new words) → IsIndexOf new (local_words 0 now)
popped_place old new ls now l word named is so back =
    back (local_words 0 now) (length now) (subst (λ ws. IsIndexOf old ws) (ap (local_words 0) is ∙ words_append now l ∙ ap (λ w. local_words 0 now ++ (w, length now) ∷ []) (sym named)) so)
