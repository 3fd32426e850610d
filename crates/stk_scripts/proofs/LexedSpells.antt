-- The pass over the bytes of a text gives what the text spells.
use Rattle.std.proofs.Common.{◌⊎◌, inl, inr, ◌≡◌, ℕ, ◌<◌, ◌+◌, Bool, true, false, ◌&&◌, List, [], ◌∷◌, ◌++◌, length, refl, ap, sym, ◌∙◌, append_assoc, append-nil, subst, cond, arith}
use Rattle.std.specs.Prelude.{Option, Some, None, not, nat_eq, if◌then◌else◌}
use Rattle.std.specs.List.{list_all}
use Rattle.std.proofs.lemmas.Bool.Decides.{nat_tests}
use Rattle.stk_scripts.specs.Tokens.{Token, opening, closing, word}
use Rattle.stk_scripts.specs.Texts.{Spells, none, blank, comment, opens, closes, worded, ends_word, ends_comment, ends_line, is_word_byte, is_blank, is_comment_byte}
use Rattle.stk_scripts.specs.Lexing.{Mode, between, in_comment, in_word, before, begun, lexed, lexed_step}
use Rattle.stk_scripts.specs.Laws.{LexedIsSpelled, SpelledIsLexed}
use Rattle.stk_scripts.proofs.Bytes.{and_both, blank_no_word, line_end_blank, chosen_way, cond_true, cond_false}

-- What bytes are that give these tokens, by where the pass is
data Means (ts : List Token) (bs : List ℕ) : Mode → Type 0 where
  free : Spells ts bs → Means ts bs between
  commented : (inside rest : List ℕ) → bs ≡ inside ++ rest → list_all is_comment_byte inside ≡ true → ends_comment rest ≡ true → Spells ts rest → Means ts bs in_comment
  inside_word : {w : List ℕ} (v rest : List ℕ) (us : List Token) → bs ≡ v ++ rest → list_all is_word_byte v ≡ true → ends_word rest ≡ true → ts ≡ word (w ++ v) ∷ us → Spells us rest → Means ts bs (in_word w)

-- the parts of a `before`
of_before : (t : Token) (found : Option (List Token)) (ts : List Token) → before t found ≡ Some ts → (us : List Token) × (found ≡ Some us) × (ts ≡ t ∷ us)
of_before t None ts e = absurd cc
of_before t (Some us) ts e = (us, refl, cc)

-- that each mode gives of bytes what they mean
abbrev Step : List ℕ → Type 0
Step bs = (m : Mode) (us : List Token) → lexed bs m ≡ Some us → Means us bs m

free_of : {ts : List Token} {bs : List ℕ} → Means ts bs between → Spells ts bs
free_of (free s) = s

no_tokens : {ts : List Token} → None ≡ Some ts → ⊥
no_tokens e = cc

from_word : (b : ℕ) (bs : List ℕ) (ts : List Token) → is_word_byte b ≡ true → Means ts bs (in_word (b ∷ [])) → Spells ts (b ∷ bs)
from_word b bs ts h (inside_word v rest us is all ends same s) =
    subst (λ x. Spells x (b ∷ bs)) (sym same) (worded rest (ap (λ x. b ∷ x) is) (omega arith) (subst (λ x. x && list_all is_word_byte v ≡ true) (sym h) all) ends s)

from_comment : (b : ℕ) (bs : List ℕ) (ts : List Token) → b ≡ 59 → Means ts bs in_comment → Spells ts (b ∷ bs)
from_comment b bs ts same (commented inside rest is all ends s) = comment inside rest (ap (λ x. x ∷ bs) same ∙ ap (λ x. 59 ∷ x) is) all ends s

from_opening : (b : ℕ) (bs : List ℕ) (ts us : List Token) → b ≡ 40 → ts ≡ opening ∷ us → Spells us bs → Spells ts (b ∷ bs)
from_opening b bs ts us same is s = subst (λ x. Spells x (b ∷ bs)) (sym is) (subst (λ x. Spells (opening ∷ us) (x ∷ bs)) (sym same) (opens s))

from_closing : (b : ℕ) (bs : List ℕ) (ts us : List Token) → b ≡ 41 → ts ≡ closing ∷ us → Spells us bs → Spells ts (b ∷ bs)
from_closing b bs ts us same is s = subst (λ x. Spells x (b ∷ bs)) (sym is) (subst (λ x. Spells (closing ∷ us) (x ∷ bs)) (sym same) (closes s))

is_it : (b n : ℕ) → nat_eq b n ≡ true → b ≡ n
is_it b n h = grind (arith, nat_tests)

-- what the pass does between tokens, from the last test to the first one
at_closing : (b : ℕ) (bs : List ℕ) (ts : List Token) → Step bs → cond (nat_eq b 41) (before closing (lexed bs between)) None ≡ Some ts → Spells ts (b ∷ bs)
at_closing b bs ts ih e = elim (chosen_way (nat_eq b 41) (before closing (lexed bs between)) None (Some ts) e) [
  | inl h ↦ let p = of_before closing (lexed bs between) ts h.1 in from_closing b bs ts p.0 (is_it b 41 h.0) p.2 (free_of (ih between p.0 p.1))
  | inr h ↦ absurd (no_tokens h.1)
]

at_opening : (b : ℕ) (bs : List ℕ) (ts : List Token) → Step bs → cond (nat_eq b 40) (before opening (lexed bs between)) (cond (nat_eq b 41) (before closing (lexed bs between)) None) ≡ Some ts → Spells ts (b ∷ bs)
at_opening b bs ts ih e = elim (chosen_way (nat_eq b 40) (before opening (lexed bs between)) (cond (nat_eq b 41) (before closing (lexed bs between)) None) (Some ts) e) [
  | inl h ↦ let p = of_before opening (lexed bs between) ts h.1 in from_opening b bs ts p.0 (is_it b 40 h.0) p.2 (free_of (ih between p.0 p.1))
  | inr h ↦ at_closing b bs ts ih h.1
]

begun_means : (b : ℕ) (bs : List ℕ) (ts : List Token) → Step bs → begun b (lexed bs) ≡ Some ts → Spells ts (b ∷ bs)
begun_means b bs ts ih e = elim (chosen_way (is_word_byte b) (lexed bs (in_word (b ∷ []))) _ (Some ts) e) [
  | inl h ↦ from_word b bs ts h.0 (ih (in_word (b ∷ [])) ts h.1)
  | inr h ↦ elim (chosen_way (is_blank b) (lexed bs between) _ (Some ts) h.1) [
    | inl k ↦ blank k.0 (free_of (ih between ts k.1))
    | inr k ↦ elim (chosen_way (nat_eq b 59) (lexed bs in_comment) _ (Some ts) k.1) [
      | inl c ↦ from_comment b bs ts (is_it b 59 c.0) (ih in_comment ts c.1)
      | inr c ↦ at_opening b bs ts ih c.1
    ]
  ]
]

-- in a comment
commented_means : (b : ℕ) (bs : List ℕ) (ts : List Token) → Step bs → cond (ends_line b) (lexed bs between) (lexed bs in_comment) ≡ Some ts → Means ts (b ∷ bs) in_comment
commented_means b bs ts ih e = elim (chosen_way (ends_line b) (lexed bs between) (lexed bs in_comment) (Some ts) e) [
  | inl h ↦ commented [] (b ∷ bs) refl refl h.0 (blank (line_end_blank b h.0) (free_of (ih between ts h.1)))
  | inr h ↦ more b bs ts h.0 (ih in_comment ts h.1)
]
  where
    more : (b : ℕ) (bs : List ℕ) (ts : List Token) → ends_line b ≡ false → Means ts bs in_comment → Means ts (b ∷ bs) in_comment
    more b bs ts it (commented inside rest is all ends s) = commented (b ∷ inside) rest (ap (λ x. b ∷ x) is) (subst (λ x. not x && list_all is_comment_byte inside ≡ true) (sym it) all) ends s

-- in a word
word_means : (b : ℕ) (bs w : List ℕ) (ts : List Token) → Step bs → cond (is_word_byte b) (lexed bs (in_word (w ++ b ∷ []))) (before (word w) (begun b (lexed bs))) ≡ Some ts → Means ts (b ∷ bs) (in_word w)
word_means b bs w ts ih e = elim (chosen_way (is_word_byte b) (lexed bs (in_word (w ++ b ∷ []))) (before (word w) (begun b (lexed bs))) (Some ts) e) [
  | inl h ↦ more b bs w ts h.0 (ih (in_word (w ++ b ∷ [])) ts h.1)
  | inr h ↦ let p = of_before (word w) (begun b (lexed bs)) ts h.1 in
      inside_word [] (b ∷ bs) p.0 refl refl (ap not h.0) (p.2 ∙ ap (λ x. word x ∷ p.0) (sym (append-nil w))) (begun_means b bs p.0 ih p.1)
]
  where
    more : (b : ℕ) (bs w : List ℕ) (ts : List Token) → is_word_byte b ≡ true → Means ts bs (in_word (w ++ b ∷ [])) → Means ts (b ∷ bs) (in_word w)
    more b bs w ts h (inside_word v rest us is all ends same s) =
        inside_word (b ∷ v) rest us (ap (λ x. b ∷ x) is) (subst (λ x. x && list_all is_word_byte v ≡ true) (sym h) all) ends (same ∙ ap (λ x. word x ∷ us) (append_assoc w (b ∷ []) v)) s

nothing : (ts : List Token) → Some [] ≡ Some ts → [] ≡ ts
nothing ts e = cc

one_word : (w : List ℕ) (ts : List Token) → Some (word w ∷ []) ≡ Some ts → ts ≡ word (w ++ []) ∷ []
one_word w ts e = let same : ts ≡ word w ∷ [] = cc in same ∙ ap (λ x. word x ∷ []) (sym (append-nil w))

means : (bs : List ℕ) (m : Mode) (ts : List Token) → lexed bs m ≡ Some ts → Means ts bs m
means [] between ts e = free (subst (λ x. Spells x []) (nothing ts e) none)
means [] in_comment ts e = commented [] [] refl refl refl (subst (λ x. Spells x []) (nothing ts e) none)
means [] (in_word w) ts e = inside_word [] [] [] refl refl refl (one_word w ts e) none
means (b ∷ bs) between ts e = free (begun_means b bs ts (means bs) e)
means (b ∷ bs) in_comment ts e = commented_means b bs ts (means bs) e
means (b ∷ bs) (in_word w) ts e = word_means b bs w ts (means bs) e

pub lexed_is_spelled : LexedIsSpelled
lexed_is_spelled ts bytes e = free_of (means bytes between ts e)

-- The other way

-- a comment is passed over
past_comment : (inside bs : List ℕ) → list_all is_comment_byte inside ≡ true → lexed (inside ++ bs) in_comment ≡ lexed bs in_comment
past_comment [] bs h = refl
past_comment (b ∷ inside) bs h =
    let k = and_both (not (ends_line b)) (list_all is_comment_byte inside) h in
    cond_false (ends_line b) (lexed (inside ++ bs) between) (lexed (inside ++ bs) in_comment) (turned (ends_line b) k.0) ∙ past_comment inside bs k.1
  where
    turned : (x : Bool) → not x ≡ true → x ≡ false
    turned true e = absurd cc
    turned false e = refl

-- at its end the pass goes on as between tokens
comment_ends : (bs : List ℕ) → ends_comment bs ≡ true → lexed bs in_comment ≡ lexed bs between
comment_ends [] h = refl
comment_ends (b ∷ bs) h =
    cond_true (ends_line b) (lexed bs between) (lexed bs in_comment) h
    ∙ sym (cond_false (is_word_byte b) (lexed bs (in_word (b ∷ []))) _ (blank_no_word b (line_end_blank b h)) ∙ cond_true (is_blank b) (lexed bs between) _ (line_end_blank b h))

-- a word is taken whole
past_word : (w v bs : List ℕ) → list_all is_word_byte v ≡ true → lexed (v ++ bs) (in_word w) ≡ lexed bs (in_word (w ++ v))
past_word w [] bs h = ap (λ x. lexed bs (in_word x)) (sym (append-nil w))
past_word w (b ∷ v) bs h =
    let k = and_both (is_word_byte b) (list_all is_word_byte v) h in
    cond_true (is_word_byte b) (lexed (v ++ bs) (in_word (w ++ b ∷ []))) _ k.0 ∙ past_word (w ++ b ∷ []) v bs k.1 ∙ ap (λ x. lexed bs (in_word x)) (append_assoc w (b ∷ []) v)

not_true : (x : Bool) → not x ≡ true → x ≡ false
not_true true e = absurd cc
not_true false e = refl

-- and ends where no byte of a word follows
word_ends : (w bs : List ℕ) → ends_word bs ≡ true → lexed bs (in_word w) ≡ before (word w) (lexed bs between)
word_ends w [] h = refl
word_ends w (b ∷ bs) h = cond_false (is_word_byte b) (lexed bs (in_word (w ++ b ∷ []))) (before (word w) (begun b (lexed bs))) (not_true (is_word_byte b) h)

whole_word : (w bs : List ℕ) → 0 < length w → list_all is_word_byte w ≡ true → ends_word bs ≡ true → lexed (w ++ bs) between ≡ before (word w) (lexed bs between)
whole_word [] bs some h ends = absurd (omega arith)
whole_word (b ∷ v) bs some h ends =
    let k = and_both (is_word_byte b) (list_all is_word_byte v) h in
    cond_true (is_word_byte b) (lexed (v ++ bs) (in_word (b ∷ []))) _ k.0 ∙ past_word (b ∷ []) v bs k.1 ∙ word_ends (b ∷ v) bs ends

lexes : {ts : List Token} {bytes : List ℕ} → Spells ts bytes → lexed bytes between ≡ Some ts
lexes none = refl
lexes (blank {ts} {b} {bs} h s) =
    cond_false (is_word_byte b) (lexed bs (in_word (b ∷ []))) _ (blank_no_word b h) ∙ cond_true (is_blank b) (lexed bs between) _ h ∙ lexes s
lexes (comment inside bs is all ends s) = ap (λ x. lexed x between) is ∙ past_comment inside bs all ∙ comment_ends bs ends ∙ lexes s
lexes (opens s) = ap (before opening) (lexes s)
lexes (closes s) = ap (before closing) (lexes s)
lexes (worded {ts} {w} {text} bs is some all ends s) = ap (λ x. lexed x between) is ∙ whole_word w bs some all ends ∙ ap (before (word w)) (lexes s)

pub spelled_is_lexed : SpelledIsLexed
spelled_is_lexed ts bytes s = lexes s
