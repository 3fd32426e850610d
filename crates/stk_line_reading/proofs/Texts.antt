-- Words and numbers of texts, and that a text has them in one way alone.
use Rattle.std.proofs.Common.{◌≡◌, ℕ, ◌<◌, true, ◌&&◌, nat_eq, List, [], ◌∷◌, ◌++◌, refl, sym, ap, ◌∙◌, subst, arith, decimal}
use Rattle.std.specs.List.{list_all}
use Rattle.std.proofs.lemmas.Bool.{true≢false, and_parts, not-true}
use Rattle.std.proofs.lemmas.Fmt.{digits_decimal}
use Rattle.std.proofs.lemmas.Str.Parse.{numerals_by_value, tells_all_ascii_digits}
use Rattle.std.specs.Str.{all_ascii_digits}
use Rattle.std.specs.Char.{is_ascii_digit}
use Rattle.stk_line_reading.specs.Cuts.{is_other, begins_or_ends, IsCut}
use Rattle.stk_line_reading.specs.Numbers.{IsNumber, IsNext}

-- a text is cut in one way alone
pub one_cut : (stop : ℕ) (text a x b y : List ℕ) → IsCut stop text a x → IsCut stop text b y → (a ≡ b) × (x ≡ y)
one_cut stop text [] x [] y c d = (refl, sym c.whole ∙ d.whole)
one_cut stop text [] x (v ∷ b) y c d =
    let begins : begins_or_ends stop (v ∷ (b ++ y)) ≡ true = sym (ap (begins_or_ends stop) (sym c.whole ∙ d.whole)) ∙ c.stops in
    absurd (true≢false (sym begins ∙ not-true (nat_eq v stop) (and_parts (is_other stop v) (list_all (is_other stop) b) d.others).0))
one_cut stop text (u ∷ a) x [] y c d =
    let begins : begins_or_ends stop (u ∷ (a ++ x)) ≡ true = sym (ap (begins_or_ends stop) (sym d.whole ∙ c.whole)) ∙ d.stops in
    absurd (true≢false (sym begins ∙ not-true (nat_eq u stop) (and_parts (is_other stop u) (list_all (is_other stop) a) c.others).0))
one_cut stop text (u ∷ a) x (v ∷ b) y c d =
    let both : u ∷ (a ++ x) ≡ v ∷ (b ++ y) = sym c.whole ∙ d.whole in
    let first : u ≡ v = cc in
    let tails : a ++ x ≡ b ++ y = cc in
    let inner = one_cut stop (a ++ x) a x b y
    (record { whole = refl; others = (and_parts (is_other stop u) _ c.others).1; stops = c.stops })
    (record { whole = tails; others = (and_parts (is_other stop v) _ d.others).1; stops = d.stops }) in
    (ap (λ w. w ∷ a) first ∙ ap (λ w. v ∷ w) inner.0, inner.1)

-- ---- numbers

digit_other : (stop b : ℕ) → stop < 48 → is_ascii_digit b ≡ true → is_other stop b ≡ true
digit_other stop b low e = grind arith

digits_other : (stop : ℕ) (w : List ℕ) → stop < 48 → all_ascii_digits w ≡ true → list_all (is_other stop) w ≡ true
digits_other stop [] low e = refl
digits_other stop (b ∷ bs) low e =
    let both = and_parts (is_ascii_digit b) (all_ascii_digits bs) e in
    ap (λ x. x && list_all (is_other stop) bs) (digit_other stop b low both.0) ∙ digits_other stop bs low both.1

-- a byte below the digits doesn't stand in a number
pub other_number : (stop n : ℕ) → stop < 48 → IsNumber n → list_all (is_other stop) (decimal n) ≡ true
other_number stop n low h = digits_other stop (decimal n) low (digits_decimal (numerals_by_value (λ ds. all_ascii_digits ds ≡ true) tells_all_ascii_digits) n h)

pub plain_number : (n : ℕ) → IsNumber n → list_all (is_other 32) (decimal n) ≡ true
plain_number n h = other_number 32 n (omega arith) h

-- what a text begins with, as a cut of what stands behind its space
pub cut_next : (n : ℕ) (text behind : List ℕ) → IsNext (32 ∷ text) n behind → IsCut 32 text (decimal n) behind
cut_next n text behind h =
    let tails : text ≡ decimal n ++ behind = let whole = h.same in cc in
    record { whole = tails; others = plain_number n h.fits; stops = h.stops }

-- what stands behind a space up to the next one is the number that a text begins with
pub begins_with : (text : List ℕ) (first : ℕ) (behind word rest : List ℕ) (n : ℕ) (other : List ℕ) → text ≡ first ∷ behind → first ≡ 32 → IsCut 32 behind word rest → IsNext text n other → word ≡ decimal n
begins_with text first behind word rest n other e space cut h =
    let at : text ≡ 32 ∷ behind = e ∙ ap (λ b. b ∷ behind) space in
    (one_cut 32 behind word rest (decimal n) other cut (cut_next n behind other (subst (λ t. IsNext t n other) at h))).0
