-- What parts of statements cost, beside what the whole may cost.
use Rattle.std.proofs.Common.{ℕ, ◌+◌, ◌≤◌, arith}
use Rattle.stk_tree.specs.Syntax.{SectionTree}
use Rattle.stk_tree.specs.Syntax as s
use Rattle.stk_meaning.specs.Statements.{labels_of}
use Rattle.stk_spending.specs.Statements.{labels_spent, case_spent}

pub some_more : (n m : ℕ) → n ≤ n + m
some_more n m = omega arith

pub none_more : (n : ℕ) → n + 0 ≤ n
none_more n = omega arith

-- a turn without a test
pub none_before : (b t s : ℕ) → b + t + s ≤ 0 + b + t + s
none_before b t s = omega arith

-- a turn behind a test, with a guard before it and one behind it
pub tested_regrouped : (t b s : ℕ) → t + 6 + (b + 3 + s) + 3 ≤ t + 9 + b + 3 + s
tested_regrouped t b s = omega arith

pub five_regrouped : (a b c d e : ℕ) → a + (b + c + d + e) ≤ a + b + c + d + e
five_regrouped a b c d e = omega arith

pub six_regrouped : (a b c d e f : ℕ) → a + (b + c + d + e + f) ≤ a + b + c + d + e + f
six_regrouped a b c d e f = omega arith

-- the labels of a section and its two guards
pub case_within : (n : ℕ) (x : SectionTree) (w : ℕ) → n + labels_spent (labels_of x) w + 6 ≤ n + case_spent x w
case_within n (s.section node ls body) w = omega arith
