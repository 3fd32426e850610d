-- The levels of expressions, from the one that binds the weakest to the one that binds the strongest (C11 6.5).
use Rattle.std.specs.Prelude.{ℕ}

-- `a, b` (C11 6.5.17)
abbrev pub comma_level : ℕ
comma_level = 1

-- `a = b` and the compound assignments (C11 6.5.16)
abbrev pub assignment_level : ℕ
assignment_level = 2

-- `a ? b : c`, and so a constant expression (C11 6.5.15, 6.6)
abbrev pub conditional_level : ℕ
conditional_level = 3

-- `a || b` (C11 6.5.14)
abbrev pub logical_or_level : ℕ
logical_or_level = 4

-- `a && b` (C11 6.5.13)
abbrev pub logical_and_level : ℕ
logical_and_level = 5

-- `a | b` (C11 6.5.12)
abbrev pub or_level : ℕ
or_level = 6

-- `a ^ b` (C11 6.5.11)
abbrev pub xor_level : ℕ
xor_level = 7

-- `a & b` (C11 6.5.10)
abbrev pub and_level : ℕ
and_level = 8

-- `a == b` and `a != b` (C11 6.5.9)
abbrev pub equality_level : ℕ
equality_level = 9

-- `a < b` and its like (C11 6.5.8)
abbrev pub relational_level : ℕ
relational_level = 10

-- `a << b` and `a >> b` (C11 6.5.7)
abbrev pub shift_level : ℕ
shift_level = 11

-- `a + b` and `a - b` (C11 6.5.6)
abbrev pub additive_level : ℕ
additive_level = 12

-- `a * b`, `a / b` and `a % b` (C11 6.5.5)
abbrev pub multiplicative_level : ℕ
multiplicative_level = 13

-- `(type) a` (C11 6.5.4)
abbrev pub cast_level : ℕ
cast_level = 14

-- `-a` and its like, `++a`, `sizeof a` (C11 6.5.3)
abbrev pub unary_level : ℕ
unary_level = 15

-- `a[b]`, `a(b)`, `a.b`, `a->b`, `a++` (C11 6.5.2)
abbrev pub postfix_level : ℕ
postfix_level = 16

-- names, constants, string literals, `(a)` (C11 6.5.1)
abbrev pub primary_level : ℕ
primary_level = 17
