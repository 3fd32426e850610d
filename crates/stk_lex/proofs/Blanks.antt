-- Looking back for blanks.
use Rattle.std.proofs.Common.{◌≡◌, ℕ, zero, suc, ◌-◌, ◌<◌, ◌≤◌, Bool, true, false, ◌&&◌, ◌||◌, List, [], ◌∷◌, ◌++◌, length, take, refl, ap, ◌∙◌, arith, get_or}
use Rattle.std.specs.Prelude.{◌==◌}
use Rattle.std.proofs.Math.Seq.{take-suc}
use Rattle.std.proofs.lemmas.Bool.{ne_eqb}
use Rattle.stk_lex.specs.Gaps.{is_blank, only_blanks, begins, comment, one_more}

only_blanks-snoc : (s : Bool) (xs : List ℕ) (b : ℕ) → only_blanks s (xs ++ b ∷ []) ≡ (b == 10 || only_blanks s xs && is_blank b)
unfolding only_blanks
only_blanks-snoc s [] b = refl
only_blanks-snoc s (x ∷ xs) b = only_blanks-snoc (x == 10 || s && is_blank x) xs b

-- one byte further back
pub blanks_back : (text : List ℕ) (k : ℕ) → 0 < k → k ≤ length text → only_blanks true (take k text) ≡ (get_or text (k - 1) 0 == 10 || only_blanks true (take (k - 1) text) && is_blank (get_or text (k - 1) 0))
blanks_back text zero positive fits = absurd (omega arith)
blanks_back text (suc k) positive fits =
    let same : suc k - 1 ≡ k = omega arith in
    rw same (ap (only_blanks true) (take-suc text k 0 fits) ∙ only_blanks-snoc true (take k text) (get_or text k 0))

pub blanks_stop : (text : List ℕ) (k : ℕ) → 0 < k → k ≤ length text → get_or text (k - 1) 0 ≡ 10 → only_blanks true (take k text) ≡ true
blanks_stop text k positive fits newline = blanks_back text k positive fits ∙ rw newline refl

last_other : (p : Bool) (b : ℕ) → (b ≡ 10 → ⊥) → is_blank b ≡ false → (b == 10 || p && is_blank b) ≡ false
last_other true b e f = rw (ne_eqb b 10 e, f) refl
last_other false b e f = rw (ne_eqb b 10 e) refl

last_blank : (p : Bool) (b : ℕ) → (b ≡ 10 → ⊥) → is_blank b ≡ true → (b == 10 || p && is_blank b) ≡ p
last_blank true b e f = rw (ne_eqb b 10 e, f) refl
last_blank false b e f = rw (ne_eqb b 10 e) refl

pub blanks_other : (text : List ℕ) (k : ℕ) → 0 < k → k ≤ length text → (get_or text (k - 1) 0 ≡ 10 → ⊥) → is_blank (get_or text (k - 1) 0) ≡ false → only_blanks true (take k text) ≡ false
blanks_other text k positive fits newline blank = blanks_back text k positive fits ∙ last_other (only_blanks true (take (k - 1) text)) (get_or text (k - 1) 0) newline blank

pub blanks_on : (text : List ℕ) (k : ℕ) → 0 < k → k ≤ length text → (get_or text (k - 1) 0 ≡ 10 → ⊥) → is_blank (get_or text (k - 1) 0) ≡ true → only_blanks true (take k text) ≡ only_blanks true (take (k - 1) text)
blanks_on text k positive fits newline blank = blanks_back text k positive fits ∙ last_blank (only_blanks true (take (k - 1) text)) (get_or text (k - 1) 0) newline blank

pub comment_on : (b : ℕ) (bs : List ℕ) → (b == 42 && begins 47 bs) ≡ false → comment (b ∷ bs) ≡ one_more (comment bs)
unfolding comment
comment_on b bs e = rw e refl

pub one_more_none : (n : ℕ) → n ≡ 0 → one_more n ≡ 0
one_more_none zero e = refl
one_more_none (suc n) e = absurd (omega arith)

pub one_more_some : (n : ℕ) → 0 < n → one_more n ≡ suc n
one_more_some zero e = absurd (omega arith)
one_more_some (suc n) e = refl

pub some_one_more : (n : ℕ) → 0 < one_more n → 0 < n
some_one_more zero e = absurd (omega arith)
some_one_more (suc n) e = omega arith
