-- The left sides of the rules. In the comments c and d are constants, t has width 1, and `ones` has all bits set.
use Rattle.std.specs.Prelude.{ℕ, Bool, false, not, ◌&&◌, ◌||◌, nat_eq}
use Rattle.stk_terms.specs.declared.term.TermOp.{TermOp}
use Rattle.stk_terms.specs.declared.term.TermOp.TheVariants.{Constant, Input, Not, Neg, And, Or, Xor, Add, Sub, Mul, UDiv, URem, Shl, LShr, AShr, Eq, ULt, SLt, Extract, ZeroExt, SignExt, Concat, Ite}
use Rattle.stk_terms.specs.Terms.{Stored, term_at, child}
use Rattle.stk_rewrite.specs.Looks.{Look, is_constant, is_number, is_ones, is_not, is_neg, is_extract, look}

-- two constants: the constant of the operator's value
abbrev pub folds : Look → Look → Bool
folds a b = is_constant a.op && is_constant b.op

-- (c, a), a being no constant: (a, c)
abbrev pub turns : Look → Look → Bool
turns a b = is_constant a.op && not (is_constant b.op)

-- (a, a)
abbrev pub same : Look → Look → Bool
same a b = nat_eq a.id b.id

-- (a, Not(a))
abbrev pub negates : Look → Look → Bool
negates a b = is_not b.op && nat_eq b.first a.id

-- the constant 1 of width 1
abbrev pub is_yes : Look → Bool
is_yes a = nat_eq a.width 1 && is_number 1 a.op

-- the constant 0 of width 1
abbrev pub is_no : Look → Bool
is_no a = nat_eq a.width 1 && is_number 0 a.op

-- Add(a, c) before a constant
abbrev pub adds_before : Look → Look → Bool
adds_before a b = a.adds && is_constant b.op

-- whether an operator over these arguments is the left side of a rule
abbrev pub is_left : TermOp → Look → Look → Look → Bool
is_left (Constant w n) a b c = false
is_left (Input k) a b c = false
-- Not(c); Not(Not(a)): a
is_left Not a b c = is_constant a.op || is_not a.op
-- Neg(c); Neg(Neg(a)): a
is_left Neg a b c = is_constant a.op || is_neg a.op
-- (c, d); (c, a): (a, c); (a, 0): 0; (a, ones): a; (a, a): a; (a, Not(a)): 0
is_left And a b c = folds a b || turns a b || is_number 0 b.op || is_ones b.op || same a b || negates a b
-- (c, d); (c, a): (a, c); (a, 0): a; (a, ones): ones; (a, a): a; (a, Not(a)): ones
is_left Or a b c = folds a b || turns a b || is_number 0 b.op || is_ones b.op || same a b || negates a b
-- (c, d); (c, a): (a, c); (a, 0): a; (a, a): 0; (a, ones): Not(a)
is_left Xor a b c = folds a b || turns a b || is_number 0 b.op || same a b || is_ones b.op
-- (c, d); (c, a): (a, c); (a, 0): a; (Add(a, c), d): Add(a, c + d)
is_left Add a b c = folds a b || turns a b || is_number 0 b.op || adds_before a b
-- (c, d); (a, 0): a; (a, a): 0; (0, a): Neg(a)
is_left Sub a b c = folds a b || is_number 0 b.op || same a b || is_number 0 a.op
-- (c, d); (c, a): (a, c); (a, 0): 0; (a, 1): a
is_left Mul a b c = folds a b || turns a b || is_number 0 b.op || is_number 1 b.op
-- (c, d); (a, 1): a; (a, 0): 0
is_left UDiv a b c = folds a b || is_number 1 b.op || is_number 0 b.op
-- (c, d); (a, 1): 0; (a, 0): a
is_left URem a b c = folds a b || is_number 1 b.op || is_number 0 b.op
-- (c, d); (a, 0): a; (0, a): 0
is_left Shl a b c = folds a b || is_number 0 b.op || is_number 0 a.op
is_left LShr a b c = folds a b || is_number 0 b.op || is_number 0 a.op
is_left AShr a b c = folds a b || is_number 0 b.op || is_number 0 a.op
-- (c, d); (c, a): (a, c); (a, a): 1; width 1: (a, 1): a and (a, 0): Not(a); (Add(a, c), d): Eq(a, d - c)
is_left Eq a b c = folds a b || turns a b || same a b || is_yes b || is_no b || adds_before a b
-- (c, d); (a, a): 0; (a, 0): 0; (ones, a): 0
is_left ULt a b c = folds a b || same a b || is_number 0 b.op || is_ones a.op
-- (c, d); (a, a): 0
is_left SLt a b c = folds a b || same a b
-- Extract(c); from bit 0 to the width of a: a; Extract(m, w) of Extract(n, v) of a: Extract(n + m, w) of a
is_left (Extract low w) a b c = is_constant a.op || (nat_eq low 0 && nat_eq w a.width) || is_extract a.op
-- of c; to the width of a: a
is_left (ZeroExt w) a b c = is_constant a.op || nat_eq w a.width
is_left (SignExt w) a b c = is_constant a.op || nat_eq w a.width
-- (c, d)
is_left Concat a b c = folds a b
-- three constants; (1, a, b): a; (0, a, b): b; (t, a, a): a; (Not(t), a, b): Ite(t, b, a); width 1: (t, 1, 0): t and
-- (t, 0, 1): Not(t)
is_left Ite a b c = (is_constant a.op && folds b c) || is_number 1 a.op || is_number 0 a.op || same b c || is_not a.op || (is_yes b && is_no c) || (is_no b && is_yes c)

-- whether the term at a place is the left side of a rule
abbrev pub is_left_at : Stored → ℕ → Bool
is_left_at s i = is_left (term_at s i).op (look s (child s i 0)) (look s (child s i 1)) (look s (child s i 2))
