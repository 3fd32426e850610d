-- What units count for.
use Rattle.std.proofs.Common.{◌≡◌, ℕ, suc, ◌+◌, ◌*◌, ◌<◌, ◌≤◌, ◌^◌, List, [], ◌∷◌, ◌++◌, length, refl, ap, arith}
use Rattle.std.proofs.lemmas.List.{length-append}
use Rattle.stk_numbers.specs.declared.conditions.Candidate.{Candidate}
use Rattle.stk_meaning.specs.declared.finding.Finding.{Finding}
use Rattle.stk_meaning.specs.declared.finding.Finding.TheVariants.{Clear, Unstable, Undecided}
use Rattle.stk_meaning.specs.Findings.{Subject, AreLawful}
use Rattle.stk_records.specs.declared.counts.Counts.{Counts}
use Rattle.stk_records.specs.Counts.{nothing_counted, counts_sum, AreBelow}
use Rattle.stk_units.specs.Counted.{unstable_count, undecided_count, one_skipped, one_judged}

-- ---- findings

-- one finding more
unstable_more : (xs : List Finding) (x : Finding) → unstable_count (xs ++ x ∷ []) ≡ unstable_count xs + unstable_count (x ∷ [])
unstable_more [] x = omega arith
unstable_more (Clear ∷ ys) x = unstable_more ys x
unstable_more (Unstable start needs ∷ ys) x = omega (arith, unstable_more ys x)
unstable_more (Undecided phase ∷ ys) x = unstable_more ys x

undecided_more : (xs : List Finding) (x : Finding) → undecided_count (xs ++ x ∷ []) ≡ undecided_count xs + undecided_count (x ∷ [])
undecided_more [] x = omega arith
undecided_more (Clear ∷ ys) x = undecided_more ys x
undecided_more (Unstable start needs ∷ ys) x = undecided_more ys x
undecided_more (Undecided phase ∷ ys) x = omega (arith, undecided_more ys x)

-- what findings count for, with one more
pub one_more_counted : (counts : Counts) (xs : List Finding) (x : Finding) (r o : ℕ) → counts ≡ one_judged xs → r ≡ unstable_count (x ∷ []) → o ≡ undecided_count (x ∷ [])
    → record { functions = counts.functions; candidates = counts.candidates + 1; unstable = counts.unstable + r; undecided = counts.undecided + o; skipped = counts.skipped } ≡ one_judged (xs ++ x ∷ [])
one_more_counted counts xs x r o same reports undecided =
    let a : counts.functions ≡ 1 = ap (λ k. k.functions) same in
    let b : counts.candidates + 1 ≡ length (xs ++ x ∷ []) = omega (arith, ap (λ k. k.candidates) same, length-append xs (x ∷ [])) in
    let d : counts.unstable + r ≡ unstable_count (xs ++ x ∷ []) = omega (arith, ap (λ k. k.unstable) same, reports, unstable_more xs x) in
    let f : counts.undecided + o ≡ undecided_count (xs ++ x ∷ []) = omega (arith, ap (λ k. k.undecided) same, undecided, undecided_more xs x) in
    let h : counts.skipped ≡ 0 = ap (λ k. k.skipped) same in
    λ i. record { functions = a i; candidates = b i; unstable = d i; undecided = f i; skipped = h i }

pub length_same : (q : Subject) (cs : List Candidate) (xs : List Finding) → AreLawful q cs xs → length xs ≡ length cs
length_same q [] [] p = refl
length_same q [] (y ∷ ys) p = absurd p
length_same q (d ∷ ds) [] p = absurd p
length_same q (d ∷ ds) (y ∷ ys) p = ap suc (length_same q ds ys p.1)

few_reports : (xs : List Finding) → unstable_count xs ≤ length xs
few_reports [] = omega arith
few_reports (Clear ∷ xs) = omega (arith, few_reports xs)
few_reports (Unstable start needs ∷ xs) = omega (arith, few_reports xs)
few_reports (Undecided phase ∷ xs) = omega (arith, few_reports xs)

few_open : (xs : List Finding) → undecided_count xs ≤ length xs
few_open [] = omega arith
few_open (Clear ∷ xs) = omega (arith, few_open xs)
few_open (Unstable start needs ∷ xs) = omega (arith, few_open xs)
few_open (Undecided phase ∷ xs) = omega (arith, few_open xs)

-- fewer than 2^32 findings count for little
pub few_judged : (xs : List Finding) → length xs < 2 ^ 32 → AreBelow (one_judged xs)
few_judged xs h = record { functions = omega arith; candidates = omega (arith, h); unstable = omega (arith, h, few_reports xs); undecided = omega (arith, h, few_open xs); skipped = omega arith }

-- ---- sums

pub nothing_plus : (c : Counts) → counts_sum nothing_counted c ≡ c
nothing_plus c =
    let a : 0 + c.functions ≡ c.functions = omega arith in
    let b : 0 + c.candidates ≡ c.candidates = omega arith in
    let d : 0 + c.unstable ≡ c.unstable = omega arith in
    let e : 0 + c.undecided ≡ c.undecided = omega arith in
    let f : 0 + c.skipped ≡ c.skipped = omega arith in
    λ i. record { functions = a i; candidates = b i; unstable = d i; undecided = e i; skipped = f i }

pub plus_nothing : (c : Counts) → counts_sum c nothing_counted ≡ c
plus_nothing c =
    let a : c.functions + 0 ≡ c.functions = omega arith in
    let b : c.candidates + 0 ≡ c.candidates = omega arith in
    let d : c.unstable + 0 ≡ c.unstable = omega arith in
    let e : c.undecided + 0 ≡ c.undecided = omega arith in
    let f : c.skipped + 0 ≡ c.skipped = omega arith in
    λ i. record { functions = a i; candidates = b i; unstable = d i; undecided = e i; skipped = f i }

pub plus_plus : (x y z : Counts) → counts_sum x (counts_sum y z) ≡ counts_sum (counts_sum x y) z
plus_plus x y z =
    let a : x.functions + (y.functions + z.functions) ≡ x.functions + y.functions + z.functions = omega arith in
    let b : x.candidates + (y.candidates + z.candidates) ≡ x.candidates + y.candidates + z.candidates = omega arith in
    let d : x.unstable + (y.unstable + z.unstable) ≡ x.unstable + y.unstable + z.unstable = omega arith in
    let e : x.undecided + (y.undecided + z.undecided) ≡ x.undecided + y.undecided + z.undecided = omega arith in
    let f : x.skipped + (y.skipped + z.skipped) ≡ x.skipped + y.skipped + z.skipped = omega arith in
    λ i. record { functions = a i; candidates = b i; unstable = d i; undecided = e i; skipped = f i }

-- ---- bounds

-- each count is at most n
pub record AreAtMost (n : ℕ) (counts : Counts) : Type 0 where
  pub functions : counts.functions ≤ n
  pub candidates : counts.candidates ≤ n
  pub unstable : counts.unstable ≤ n
  pub undecided : counts.undecided ≤ n
  pub skipped : counts.skipped ≤ n

pub nothing_most : (n : ℕ) → AreAtMost n nothing_counted
nothing_most n = record { functions = omega arith; candidates = omega arith; unstable = omega arith; undecided = omega arith; skipped = omega arith }

pub skipped_most : (n : ℕ) → 1 ≤ n → AreAtMost n one_skipped
skipped_most n h = record { functions = omega arith; candidates = omega arith; unstable = omega arith; undecided = omega arith; skipped = omega (arith, h) }

pub judged_most : (n : ℕ) (xs : List Finding) → 1 ≤ n → length xs ≤ n → AreAtMost n (one_judged xs)
judged_most n xs h k = record { functions = omega (arith, h); candidates = omega (arith, k); unstable = omega (arith, k, few_reports xs); undecided = omega (arith, k, few_open xs); skipped = omega arith }

-- counts that are at most so many are below 2^63
pub below : (n : ℕ) (c : Counts) → n ≤ 80000 * 16777216 → AreAtMost n c → AreBelow c
below n c h k = record {
  functions = omega (arith, h, k.functions);
  candidates = omega (arith, h, k.candidates);
  unstable = omega (arith, h, k.unstable);
  undecided = omega (arith, h, k.undecided);
  skipped = omega (arith, h, k.skipped);
}

pub most_sum : (n m k : ℕ) (c d : Counts) → n + m ≤ k → AreAtMost n c → AreAtMost m d → AreAtMost k (counts_sum c d)
most_sum n m k c d h p q = record {
  functions = omega (arith, h, p.functions, q.functions);
  candidates = omega (arith, h, p.candidates, q.candidates);
  unstable = omega (arith, h, p.unstable, q.unstable);
  undecided = omega (arith, h, p.undecided, q.undecided);
  skipped = omega (arith, h, p.skipped, q.skipped);
}
