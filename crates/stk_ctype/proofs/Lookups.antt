-- What a look-up finds.
use Rattle.std.proofs.Common.{◌≡◌, ℕ, suc, ◌+◌, ◌-◌, ◌<◌, ◌≤◌, Bool, true, false, cond, List, [], ◌∷◌, ◌++◌, Option, Some, None, IsSome, MatchOption, length, refl, ap, sym, subst, ◌∙◌, arith}
use Rattle.std.specs.Prelude.{slice_index_or}
use Rattle.std.proofs.lemmas.List.{get_or_default}
use Rattle.stk_base.specs.Text.{same_text}
use Rattle.stk_ctype.specs.declared.symbol.Symbol.{Symbol}
use Rattle.stk_ctype.specs.declared.symbol.NameEntry.{NameEntry}
use Rattle.stk_ctype.specs.declared.symbol.NameEntry.TheVariants as entry
use Rattle.stk_ctype.specs.Names.{later_of, symbol_named, find, structs_in, tag_named, tag_behind}
use Rattle.stk_ctype.specs.Index.{meaning_of, last_meaning}
use Rattle.stk_ctype.specs.Facts.{symbol_word, symbol_words, tag_word, tag_words, symbol_in, entry_at}

-- the later of three answers
pub later-assoc : {T : Type 0} (a b c : Option T) → later_of a (later_of b c) ≡ later_of (later_of a b) c
later-assoc a b None = refl
later-assoc a b (Some x) = refl

pub later-none : {T : Type 0} (a : Option T) → later_of None a ≡ a
later-none None = refl
later-none (Some x) = refl

-- ---- tags
pub last-append : {M : Type 0} (word : List ℕ) (xs ys : List (List ℕ × M)) → last_meaning word (xs ++ ys) ≡ later_of (last_meaning word xs) (last_meaning word ys)
last-append word [] ys = sym (later-none (last_meaning word ys))
last-append word (x ∷ xs) ys = ap (later_of (meaning_of word x)) (last-append word xs ys) ∙ later-assoc (meaning_of word x) (last_meaning word xs) (last_meaning word ys)

tag_word-last : (count : ℕ) (name : List ℕ) (e : NameEntry) → last_meaning name (tag_word count e) ≡ tag_named count name e
tag_word-last count name (entry.Symbol n s) = refl
tag_word-last count name (entry.Struct None) = refl
tag_word-last count name (entry.Struct (Some t)) = refl
tag_word-last count name (entry.Members id ms) = refl
tag_word-last count name (entry.Enumeration t) = refl

-- a tag means what the last word of it among the tags means
pub tag_words-last : (count : ℕ) (name : List ℕ) (es : List NameEntry) → last_meaning name (tag_words count es) ≡ tag_behind count name es
tag_words-last count name [] = refl
tag_words-last count name (e ∷ es) =
    last-append name (tag_word count e) (tag_words (count + structs_in e) es)
    ∙ ap (λ a. later_of a (last_meaning name (tag_words (count + structs_in e) es))) (tag_word-last count name e)
    ∙ ap (later_of (tag_named count name e)) (tag_words-last (count + structs_in e) name es)

-- ---- symbols
-- a place that is found, counted from a first one, is that of the entry that gives the name its meaning
pub record IsPlaceOf (name : List ℕ) (first : ℕ) (es : List NameEntry) (place : ℕ) : Type 0 where
  pub low : first ≤ place
  pub high : place < first + length es
  pub same : find name es ≡ symbol_in (entry_at es (place - first))
  pub some : IsSome (find name es)

later-some : {T : Type 0} (a b : Option T) → IsSome b → later_of a b ≡ b
later-some a None some = cc
later-some a (Some x) some = refl

behind : (name : List ℕ) (first : ℕ) (e : NameEntry) (es : List NameEntry) (place : ℕ) → IsPlaceOf name (first + 1) es place → IsPlaceOf name first (e ∷ es) place
behind name first e es place so =
    let step : place - first ≡ suc (place - (first + 1)) = omega (arith, so.low) in
    let keeps = later-some (symbol_named name e) (find name es) so.some in
    record {
      low = omega (arith, so.low);
      high = omega (arith, so.high);
      same = keeps ∙ so.same ∙ ap (λ n. symbol_in (entry_at (e ∷ es) n)) (sym step);
      some = subst IsSome (sym keeps) so.some;
    }

own_test : (b : Bool) (first : ℕ) (s : Symbol) → MatchOption (cond b (Some first) None) (cond b (Some s) None ≡ None) (λ i. (i ≡ first) × (cond b (Some s) None ≡ Some s) × IsSome (cond b (Some s) None))
own_test true first s = (refl, refl, refl)
own_test false first s = refl

own_place : (name : List ℕ) (first : ℕ) (e : NameEntry) → MatchOption (last_meaning name (symbol_word first e)) (symbol_named name e ≡ None) (λ i. (i ≡ first) × (symbol_named name e ≡ symbol_in e) × IsSome (symbol_named name e))
own_place name first (entry.Symbol n s) = own_test (same_text n name) first s
own_place name first (entry.Struct t) = refl
own_place name first (entry.Members id ms) = refl
own_place name first (entry.Enumeration t) = refl

found_join : (name : List ℕ) (first : ℕ) (e : NameEntry) (es : List NameEntry) (own w : Option ℕ)
    → MatchOption own (symbol_named name e ≡ None) (λ i. (i ≡ first) × (symbol_named name e ≡ symbol_in e) × IsSome (symbol_named name e)) → MatchOption w (find name es ≡ None) (IsPlaceOf name (first + 1) es)
    → MatchOption (later_of own w) (later_of (symbol_named name e) (find name es) ≡ None) (IsPlaceOf name first (e ∷ es))
found_join name first e es own (Some place) here there = behind name first e es place there
found_join name first e es None None here there = ap (later_of (symbol_named name e)) there ∙ here
found_join name first e es (Some i) None here there =
    let alone = ap (later_of (symbol_named name e)) there in
    let none : 0 ≡ i - first = omega (arith, here.0) in
    record {
      low = omega (arith, here.0);
      high = omega (arith, here.0);
      same = alone ∙ here.1 ∙ ap (λ n. symbol_in (entry_at (e ∷ es) n)) none;
      some = subst IsSome (sym alone) here.2;
    }

symbol_found : (name : List ℕ) (first : ℕ) (es : List NameEntry) → MatchOption (last_meaning name (symbol_words first es)) (find name es ≡ None) (IsPlaceOf name first es)
symbol_found name first [] = refl
symbol_found name first (e ∷ es) =
    subst (λ w. MatchOption w (find name (e ∷ es) ≡ None) (IsPlaceOf name first (e ∷ es))) (sym (last-append name (symbol_word first e) (symbol_words (first + 1) es)))
    (found_join name first e es (last_meaning name (symbol_word first e)) (last_meaning name (symbol_words (first + 1) es)) (own_place name first e) (symbol_found name (first + 1) es))

place_join : (name : List ℕ) (es : List NameEntry) (p place : Option ℕ) → p ≡ last_meaning name (symbol_words 0 es) → p ≡ place → MatchOption place (find name es ≡ None) (IsPlaceOf name 0 es)
place_join name es p place is here = subst (λ q. MatchOption q (find name es ≡ None) (IsPlaceOf name 0 es)) (sym is ∙ here) (symbol_found name 0 es)

-- a name that has no place means nothing
pub not_found : (name : List ℕ) (es : List NameEntry) (p : Option ℕ) → p ≡ last_meaning name (symbol_words 0 es) → p ≡ None → find name es ≡ None
not_found name es p is here = place_join name es p None is here

-- a name that has a place means what the entry there says
pub found_at : (name : List ℕ) (es : List NameEntry) (p : Option ℕ) (place : ℕ) → p ≡ last_meaning name (symbol_words 0 es) → p ≡ Some place → IsPlaceOf name 0 es place
found_at name es p place is here = place_join name es p (Some place) is here

pub found_means : (name : List ℕ) (es : List NameEntry) (place : ℕ) (e : NameEntry) → IsPlaceOf name 0 es place → e ≡ slice_index_or es place e → symbol_in e ≡ find name es
found_means name es place e so is =
    let same : place - 0 ≡ place = omega arith in
    ap symbol_in (is ∙ get_or_default es place e (entry.Enumeration []) (omega (arith, so.high)) ∙ ap (entry_at es) (sym same)) ∙ sym so.same
