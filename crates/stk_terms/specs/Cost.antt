-- What a term costs as a circuit: the bounds of all terms on which it depends, each once.
use Rattle.std.specs.Prelude.{◌≡◌, ℕ, zero, suc, ◌+◌, ◌*◌, ◌<◌, ◌≤◌, Bool, true, List, [], ◌∷◌, ◌++◌, length, if◌then◌else◌}
use Rattle.stk_terms.specs.declared.term.TermOp.{TermOp}
use Rattle.stk_terms.specs.declared.term.TermOp.TheVariants.{Constant, Input, Not, Neg, And, Or, Xor, Add, Sub, Mul, UDiv, URem, Shl, LShr, AShr, Eq, ULt, SLt, Extract, ZeroExt, SignExt, Concat, Ite}
use Rattle.stk_terms.specs.Terms.{Term, Stored, term_at, child}
use Rattle.stk_terms.specs.Values.{width_of, widths_of, arg_at}
use Rattle.stk_terms.specs.Parts.{is_part}

-- at most so many gates has the operator whose first two arguments have these widths
abbrev pub bound : TermOp → ℕ → ℕ → ℕ
bound (Constant w n) w0 w1 = 0
bound (Input k) w0 w1 = 0
bound Not w0 w1 = 0
bound Neg w0 w1 = 10 * w0
bound And w0 w1 = 3 * w0
bound Or w0 w1 = 3 * w0
bound Xor w0 w1 = 3 * w0
bound Add w0 w1 = 10 * w0
bound Sub w0 w1 = 10 * w0
bound Mul w0 w1 = 6 * w0 * w0 + 6 * w0
bound UDiv w0 w1 = 14 * w0 * w0 + 20 * w0
bound URem w0 w1 = 14 * w0 * w0 + 20 * w0
bound Shl w0 w1 = 24 * w0
bound LShr w0 w1 = 24 * w0
bound AShr w0 w1 = 24 * w0
bound Eq w0 w1 = 4 * w0
bound ULt w0 w1 = 10 * w0
bound SLt w0 w1 = 10 * w0
bound (Extract low w) w0 w1 = 0
bound (ZeroExt w) w0 w1 = 0
bound (SignExt w) w0 w1 = 0
bound Concat w0 w1 = 0
bound Ite w0 w1 = 3 * w1

-- the bound of a term behind terms of the widths ws
abbrev pub bound_of : List ℕ → Term → ℕ
bound_of ws t = bound t.op (arg_at 0 ws t.args 0) (arg_at 0 ws t.args 1)

-- the bound of the term at a place
abbrev pub bound_at : Stored → ℕ → ℕ
bound_at s i = bound_of (widths_of s) (term_at s i)

-- the bounds of the chosen ones of the first n terms
abbrev pub weight : Stored → (ℕ → Bool) → ℕ → ℕ
weight s chosen zero = 0
weight s chosen (suc n) = weight s chosen n + (if chosen n then bound_at s n else 0)

-- the cost of a term: the bounds of its parts, each once
abbrev pub cost : Stored → ℕ → ℕ
cost s i = weight s (is_part s i) (length s.terms)

-- the bounds of terms behind terms of the widths ws
abbrev pub costs : List ℕ → List ℕ → List Term → ℕ
costs inputs ws [] = 0
costs inputs ws (t ∷ ts) = bound_of ws t + costs inputs (ws ++ width_of inputs ws t ∷ []) ts

-- the bounds of all terms of the store
abbrev pub total_cost : Stored → ℕ
total_cost s = costs s.inputs [] s.terms

-- the arguments of each chosen term are chosen
pub record IsClosed (s : Stored) (chosen : ℕ → Bool) : Type 0 where
  pub closed : (i k : ℕ) → chosen i ≡ true → k < length (term_at s i).args → chosen (child s i k) ≡ true

-- a choice in the old store grows by the term v in the new one, for at most n more
pub record Grows (old new : Stored) (chosen : ℕ → Bool) (n v : ℕ) : Type 0 where
  pub more : ℕ → Bool
  pub closed : IsClosed new more
  pub extends : (i : ℕ) → i < length old.terms → chosen i ≡ true → more i ≡ true
  pub has : more v ≡ true
  pub within : weight new more (length new.terms) ≤ weight old chosen (length old.terms) + n
