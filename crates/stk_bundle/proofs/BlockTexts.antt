-- Lines of texts, and blocks of them.
use Rattle.std.proofs.Common.{◌≡◌, ℕ, ◌+◌, ◌-◌, ◌<◌, Bool, true, false, not, nat_eq, List, [], ◌∷◌, ◌++◌, length, length-append, take, drop, cond, ◌&&◌, append_assoc, refl, sym, ap, ◌∙◌, arith}
use Rattle.std.specs.List.{list_all}
use Rattle.std.proofs.Math.Seq.{take-append_seam}
use Rattle.std.proofs.lemmas.List.{take-append-drop}
use Rattle.std.proofs.lemmas.List.Sums.{sum_by-append}
use Rattle.std.proofs.lemmas.Bool.{and_parts, not-true}
use Rattle.stk_line_reading.specs.Cuts.{is_other}
use Rattle.stk_line_reading.specs.Lines.{IsFirst}
use Rattle.stk_bundle.specs.Blocks.{line_count, ends_line, IsBlock}

-- lines that were passed, and what comes behind them
pub record LinesPassed (text rest : List ℕ) (lines left : ℕ) : Type 0 where
  pub front : List ℕ
  pub whole : text ≡ front ++ rest
  pub count : line_count front + left ≡ lines
  pub ends : ends_line front ≡ true

pub count_append : (a b : List ℕ) → line_count (a ++ b) ≡ line_count a + line_count b
count_append a b = sum_by-append (λ c. cond (nat_eq c 10) 1 0) a b

other_byte : (b : ℕ) → nat_eq b 10 ≡ false → line_count (b ∷ []) ≡ 0
other_byte b e = ap (λ t. 0 + cond t 1 0) e

no_lines : (line : List ℕ) → list_all (is_other 10) line ≡ true → line_count line ≡ 0
no_lines [] h = refl
no_lines (b ∷ bs) h =
    let both = and_parts (is_other 10 b) (list_all (is_other 10) bs) h in
    let one = other_byte b (not-true (nat_eq b 10) both.0) in
    let more : 0 + line_count bs ≡ 0 = omega (arith, no_lines bs both.1) in
    count_append (b ∷ []) bs ∙ (ap (λ n. n + line_count bs) one ∙ more)

-- where no newline comes there is no line
newline_step : (b : ℕ) (bs : List ℕ) (t : Bool) → nat_eq b 10 ≡ t → ((line behind : List ℕ) → IsFirst (b ∷ bs) line behind → ⊥)
    → (((line behind : List ℕ) → IsFirst bs line behind → ⊥) → line_count bs ≡ 0) → line_count (b ∷ bs) ≡ 0
newline_step b bs true e none others =
    let newline : b ≡ 10 = grind (arith, e) in
    absurd (none [] bs (record { whole = ap (λ c. c ∷ bs) newline; others = refl }))
newline_step b bs false e none others =
    let one = other_byte b e in
    let none_more = others (λ line behind h. none (b ∷ line) behind (record { whole = ap (λ t. b ∷ t) h.whole; others = ap (λ t. not t && list_all (is_other 10) line) e ∙ h.others })) in
    let more : 0 + line_count bs ≡ 0 = omega (arith, none_more) in
    count_append (b ∷ []) bs ∙ (ap (λ n. n + line_count bs) one ∙ more)

no_newline : (text : List ℕ) → ((line behind : List ℕ) → IsFirst text line behind → ⊥) → line_count text ≡ 0
no_newline [] none = refl
no_newline (b ∷ bs) none = newline_step b bs (nat_eq b 10) refl none (no_newline bs)

ends_last : (a : List ℕ) → ends_line (a ++ 10 ∷ []) ≡ true
ends_last [] = refl
ends_last (b ∷ []) = refl
ends_last (b ∷ c ∷ bs) = ends_last (c ∷ bs)

-- nothing was passed
pub none_passed : (text : List ℕ) (lines : ℕ) → LinesPassed text text lines lines
none_passed text lines = record { front = []; whole = refl; count = omega arith; ends = refl }

-- one line more
pub one_passed : (text rest line behind : List ℕ) (lines left : ℕ) → LinesPassed text rest lines left → IsFirst rest line behind → 0 < left → LinesPassed text behind lines (left - 1)
one_passed text rest line behind lines left p h some =
    let before = p.count in
    let all = count_append p.front (line ++ 10 ∷ []) in
    let one = count_append line (10 ∷ []) in
    let none = no_lines line h.others in
    let newline : line_count (10 ∷ []) ≡ 1 = refl in
    record {
      front = p.front ++ (line ++ 10 ∷ []);
      whole = p.whole ∙ (ap (λ t. p.front ++ t) (h.whole ∙ sym (append_assoc line (10 ∷ []) behind)) ∙ sym (append_assoc p.front (line ++ 10 ∷ []) behind));
      count = omega (arith, before, all, one, none, newline, some);
      ends = ap ends_line (sym (append_assoc p.front line (10 ∷ []))) ∙ ends_last (p.front ++ line);
    }

-- too few lines
pub too_few : (text rest : List ℕ) (lines left : ℕ) → LinesPassed text rest lines left → ((line behind : List ℕ) → IsFirst rest line behind → ⊥) → 0 < left → line_count text < lines
too_few text rest lines left p none some =
    let before = p.count in
    let all = ap line_count p.whole ∙ count_append p.front rest in
    let nothing = no_newline rest none in
    omega (arith, before, all, nothing, some)

-- a text that is cut at a place
pub both_parts : (text front back : List ℕ) (n : ℕ) → front ≡ take n text → back ≡ drop n text → text ≡ front ++ back
both_parts text front back n e d = sym (ap (λ t. t ++ back) e ∙ (ap (λ t. take n text ++ t) d ∙ take-append-drop n text))

-- all of them
pub all_passed : (text rest front : List ℕ) (lines left : ℕ) → LinesPassed text rest lines left → left ≡ 0 → front ≡ take (length text - length rest) text → IsBlock lines front
all_passed text rest front lines left p e is =
    let long = ap length p.whole ∙ length-append p.front rest in
    let place : length text - length rest ≡ length p.front = omega arith in
    let same : front ≡ p.front = is ∙ (ap (λ n. take n text) place ∙ (ap (take (length p.front)) p.whole ∙ take-append_seam p.front rest)) in
    let before = p.count in
    record { count = ap line_count same ∙ omega (arith, before, e); ends = ap ends_line same ∙ p.ends }
