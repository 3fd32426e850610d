-- Each text has a cut: at each place a gap or a token begins.
use Rattle.std.proofs.Common.{◌≡◌, ℕ, zero, suc, ◌+◌, ◌-◌, ◌<◌, ◌≤◌, max, Bool, true, false, cond, ◌&&◌, ◌==◌, List, [], ◌∷◌, length, take, drop, refl, sym, subst, ◌⊎◌, inl, inr, arith}
use Rattle.std.proofs.lemmas.Bool.{cases_order}
use Rattle.std.proofs.lemmas.List.{length-drop}
use Rattle.stk_base.specs.declared.token.Class.{Class}
use Rattle.stk_base.specs.declared.token.Class.TheVariants as classes
use Rattle.stk_lex.specs.declared.token.Token.{Token}
use Rattle.stk_lex.specs.Classes.{is_word, is_number, is_character, is_text, is_punctuator, is_digraph}
use Rattle.stk_lex.specs.Lengths.{word_length, number_length, character_length, text_length, punctuator_length, digraph_length, form_length}
use Rattle.stk_lex.specs.Gaps.{line, comment, gap, only_blanks, AreGaps, no_gap, more_gaps}
use Rattle.stk_lex.specs.Cut.{InClass, IsFirst, IsCut, IsCutFrom, begins_comment, begins_quote, digraph}
use Rattle.stk_lex.proofs.Cuts.{cut_behind, cut_more}
use Rattle.stk_lex.proofs.First.{endless, first_form, passes_of, stray_byte, stray_comment, stray_quote}
use Rattle.stk_lex.proofs.GapsLongest.{gap_is_longest}
use Rattle.stk_lex.proofs.Longest.{word_is_longest, number_is_longest, character_is_longest, text_is_longest, punctuator_is_longest, digraph_is_longest}

-- ---- the token at the front

-- some class and some length make the token at the front
record First (bs : List ℕ) : Type 0 where
  class : Class
  size : ℕ
  is : IsFirst bs class size

line_within : (bs : List ℕ) → line bs ≤ length bs
unfolding line
line_within [] = omega arith
line_within (b ∷ bs) = elim (b == 10) as (λ c. cond c 0 (suc (line bs)) ≤ suc (length bs)) [ true ↦ omega arith | false ↦ omega (arith, line_within bs) ]

one_of : (a b n : ℕ) → n ≡ max a b → (n ≡ a) ⊎ (n ≡ b)
one_of a b n e = elim (cases_order a b) [
  | inl same ↦ inl (omega (arith, e, same))
  | inr other ↦ elim other [ inl less ↦ inr (omega (arith, e, less)) | inr more ↦ inl (omega (arith, e, more)) ]
]

-- the class of a text whose length is that of the longest form
InSome : List ℕ → ℕ → Type 0
InSome bs n = (class : Class) × InClass class bs n

form_class : (bs : List ℕ) (n : ℕ) → n ≡ form_length bs → 0 < n → InSome bs n
unfolding InSome
form_class bs n e some = elim (one_of _ (digraph_length bs) n e) [
  | inr d ↦ (classes.Stray, digraph (passes_of is_digraph bs (digraph_length bs) n (digraph_is_longest bs) d some))
  | inl e1 ↦ elim (one_of _ (punctuator_length bs) n e1) [
    | inr d ↦ (classes.Punctuator, passes_of is_punctuator bs (punctuator_length bs) n (punctuator_is_longest bs) d some)
    | inl e2 ↦ elim (one_of _ (text_length bs) n e2) [
      | inr d ↦ (classes.Text, passes_of is_text bs (text_length bs) n (text_is_longest bs) d some)
      | inl e3 ↦ elim (one_of _ (character_length bs) n e3) [
        | inr d ↦ (classes.Character, passes_of is_character bs (character_length bs) n (character_is_longest bs) d some)
        | inl e4 ↦ elim (one_of (word_length bs) (number_length bs) n e4) [
          | inr d ↦ (classes.Number, passes_of is_number bs (number_length bs) n (number_is_longest bs) d some)
          | inl d ↦ (classes.Word, passes_of is_word bs (word_length bs) n (word_is_longest bs) d some)
        ]
      ]
    ]
  ]
]

first_of : (bs : List ℕ) → 0 < length bs → (begins_comment bs ≡ true → comment (drop 2 bs) ≡ 0) → First bs
unfolding InSome
first_of bs some open_comment = by_quote (begins_quote bs && character_length bs == 0 && text_length bs == 0) refl
  where
    by_length : (n : ℕ) → form_length bs ≡ n → (begins_quote bs && character_length bs == 0 && text_length bs == 0) ≡ false → begins_comment bs ≡ false → First bs
    by_length zero e quoted begun = record { class = classes.Stray; size = 1; is = stray_byte bs some e quoted begun }
    by_length (suc n) e quoted begun =
        let k = form_class bs (suc n) (sym e) (omega arith) in
        record { class = k.0; size = suc n; is = first_form bs k.0 (suc n) (sym e) (omega arith) k.1 quoted begun }

    by_comment : (b : Bool) → begins_comment bs ≡ b → (begins_quote bs && character_length bs == 0 && text_length bs == 0) ≡ false → First bs
    by_comment true begun quoted = record { class = classes.Stray; size = length bs; is = stray_comment bs begun (open_comment begun) }
    by_comment false begun quoted = by_length (form_length bs) refl quoted begun

    by_quote : (b : Bool) → (begins_quote bs && character_length bs == 0 && text_length bs == 0) ≡ b → First bs
    by_quote true quoted = record { class = classes.Stray; size = line bs; is = stray_quote bs (line_within bs) quoted }
    by_quote false quoted = by_comment (begins_comment bs) refl quoted

-- ---- the tokens from a place on

Cut : List ℕ → ℕ → Type 0
Cut text at = (tokens : List Token) × IsCutFrom text at tokens

-- the tokens from a place on, where those from each later place on are there
step : (text : List ℕ) (fuel at : ℕ) → at ≤ length text → length text - at < suc fuel → ((next : ℕ) → next ≤ length text → length text - next < fuel → Cut text next) → Cut text at
unfolding Cut
step text fuel at within much from = by_gap (gap text at) refl
  where
    behind : length (drop at text) ≡ length text - at
    behind = length-drop at text

    by_token : First (drop at text) → gap text at ≡ 0 → Cut text at
    by_token f none =
        let further = from (at + f.size) (omega (arith, f.is.within.1, behind, within)) (omega (arith, f.is.within.0, f.is.within.1, behind, much)) in
        (record { class = f.class; span = record { from = at; to = at + f.size } } ∷ further.0, cut_more text at f.size (at + f.size) f.class further.0 none f.is no_gap further.1)

    by_rest : (n : ℕ) → length text - at ≡ n → gap text at ≡ 0 → Cut text at
    by_rest zero e none = let same : at ≡ length text = omega (arith, within, e) in ([], subst (AreGaps text at) same no_gap)
    by_rest (suc n) e none = by_token (first_of (drop at text) (omega (arith, behind, e)) (endless (only_blanks true (take at text)) (drop at text) none)) none

    by_gap : (n : ℕ) → gap text at ≡ n → Cut text at
    by_gap zero none = by_rest (length text - at) refl none
    by_gap (suc n) some =
        let fits = (gap_is_longest text at).within in
        let further = from (at + gap text at) (omega (arith, fits, behind, within)) (omega (arith, fits, behind, some, much)) in
        (further.0, cut_behind text at (at + gap text at) further.0 (more_gaps (omega (arith, some)) no_gap) further.1)

cut_from : (text : List ℕ) (fuel at : ℕ) → at ≤ length text → length text - at < fuel → Cut text at
cut_from text zero at within much = absurd (omega (arith, much))
cut_from text (suc fuel) at within much = step text fuel at within much (λ next inside shorter. cut_from text fuel next inside shorter)

pub cut_of : (text : List ℕ) → (tokens : List Token) × IsCut text tokens
unfolding Cut
cut_of text = cut_from text (suc (length text)) 0 (omega arith) (omega arith)
