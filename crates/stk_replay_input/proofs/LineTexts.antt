-- Texts of lines, one line after the other.
use Rattle.std.proofs.Common.{◌≡◌, ℕ, ◌+◌, ◌<◌, List, [], ◌∷◌, ◌++◌, map, length, drop, get_or, Option, Some, None, slice_get, refl, sym, ap, ◌∙◌, append_assoc}
use Rattle.std.specs.Prelude.{codes}
use Rattle.std.proofs.lemmas.List.{drop_more}
use Rattle.stk_numbers.specs.declared.conditions.Candidate.{Candidate}
use Rattle.stk_replay_text.specs.declared.line.ReplayLine.{ReplayLine}
use Rattle.stk_replay_text.specs.Text.{line_text, lines_text}
use Rattle.stk_replay_input.specs.Lines.{with_some, candidates_at}

-- the text of lines behind others
pub lines_append : (xs ys : List ReplayLine) → lines_text (xs ++ ys) ≡ lines_text xs ++ lines_text ys
lines_append [] ys = refl
lines_append (x ∷ xs) ys =
    ap (λ (t : List ℕ). line_text x ++ codes "\n" ++ t) (lines_append xs ys) ∙ sym (append_assoc (line_text x ++ codes "\n") (lines_text xs) (lines_text ys))

-- one line more is written of what is to be written
one_line : (x : ReplayLine) (xs : List ReplayLine) (before now whole : List ℕ) → before ++ lines_text (x ∷ xs) ≡ whole → now ≡ before ++ lines_text (x ∷ []) → now ++ lines_text xs ≡ whole
one_line x xs before now whole left added =
    ap (λ (t : List ℕ). t ++ lines_text xs) added
    ∙ append_assoc before (lines_text (x ∷ [])) (lines_text xs)
    ∙ ap (λ (t : List ℕ). before ++ t) (sym (lines_append (x ∷ []) xs))
    ∙ left

module _ {A : Type 0} (line : A → ReplayLine) (xs : List A) (i : ℕ) (d : A) (before whole : List ℕ) (within : i < length xs) (left : before ++ lines_text (map line (drop i xs)) ≡ whole) where
  pub next_line : (now : List ℕ) → now ≡ before ++ lines_text (line (get_or xs i d) ∷ []) → now ++ lines_text (map line (drop (i + 1) xs)) ≡ whole
  next_line now added =
      one_line (line (get_or xs i d)) (map line (drop (i + 1) xs)) before now whole
      (ap (λ (ys : List A). before ++ lines_text (map line ys)) (sym (drop_more xs i d within)) ∙ left) added

module _ (line : Candidate → ReplayLine) (cs : List Candidate) (places : List ℕ) (i : ℕ) (d : ℕ) (before whole : List ℕ) (within : i < length places)
    (left : before ++ lines_text (map line (candidates_at cs (drop i places))) ≡ whole) where
  at_next : (o : Option Candidate) → slice_get cs (get_or places i d) ≡ o → before ++ lines_text (map line (with_some o (candidates_at cs (drop (i + 1) places)))) ≡ whole
  at_next o found =
      ap (λ (x : Option Candidate). before ++ lines_text (map line (with_some x (candidates_at cs (drop (i + 1) places))))) (sym found)
      ∙ ap (λ (ys : List ℕ). before ++ lines_text (map line (candidates_at cs ys))) (sym (drop_more places i d within))
      ∙ left

  pub next_hit : (c : Candidate) (now : List ℕ) → slice_get cs (get_or places i d) ≡ Some c → now ≡ before ++ lines_text (line c ∷ []) → now ++ lines_text (map line (candidates_at cs (drop (i + 1) places))) ≡ whole
  next_hit c now found added = one_line (line c) (map line (candidates_at cs (drop (i + 1) places))) before now whole (at_next (Some c) found) added

  pub next_none : slice_get cs (get_or places i d) ≡ None → before ++ lines_text (map line (candidates_at cs (drop (i + 1) places))) ≡ whole
  next_none found = at_next None found

-- three parts, one behind the other
pub three_parts : (first second third : List ReplayLine) (none one two whole : List ℕ) → none ≡ [] → one ≡ none ++ lines_text first → two ≡ one ++ lines_text second → whole ≡ two ++ lines_text third
    → whole ≡ lines_text (first ++ second ++ third)
three_parts first second third none one two whole empty is_one is_two is_whole =
    is_whole
    ∙ ap (λ (t : List ℕ). t ++ lines_text third) (is_two ∙ ap (λ (t : List ℕ). t ++ lines_text second) (is_one ∙ ap (λ (t : List ℕ). t ++ lines_text first) empty))
    ∙ ap (λ (t : List ℕ). t ++ lines_text third) (sym (lines_append first second))
    ∙ sym (lines_append (first ++ second) third)
