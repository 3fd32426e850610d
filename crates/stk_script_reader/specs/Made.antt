-- What one more term of a store is, by its operator and its arguments.
use Rattle.std.specs.Prelude.{◌≡◌, ℕ, ◌<◌, List, length, nat_eq, if◌then◌else◌}
use Rattle.stk_terms.specs.declared.term.TermOp.{TermOp}
use Rattle.stk_terms.specs.Terms.{Stored}
use Rattle.stk_terms.specs.Values.{width_at, number_at, width_by, number_by}

pub record IsLeaf (s : Stored) (op : TermOp) (j : ℕ) : Type 0 where
  pub there : j < length s.terms
  pub wide : width_at s j ≡ width_by s.inputs op 0 0
  pub value : (r : List ℕ) → number_at s r j ≡ number_by r op 0 0 0 0 0

pub record IsOne (s : Stored) (op : TermOp) (a j : ℕ) : Type 0 where
  pub there : j < length s.terms
  pub wide : width_at s j ≡ width_by s.inputs op (width_at s a) 0
  pub value : (r : List ℕ) → number_at s r j ≡ number_by r op (width_at s a) 0 (number_at s r a) 0 0

pub record IsTwo (s : Stored) (op : TermOp) (a b j : ℕ) : Type 0 where
  pub there : j < length s.terms
  pub wide : width_at s j ≡ width_by s.inputs op (width_at s a) (width_at s b)
  pub value : (r : List ℕ) → number_at s r j ≡ number_by r op (width_at s a) (width_at s b) (number_at s r a) (number_at s r b) 0

pub record IsChoice (s : Stored) (t a b j : ℕ) : Type 0 where
  pub there : j < length s.terms
  pub wide : width_at s j ≡ width_at s a
  pub value : (r : List ℕ) → number_at s r j ≡ (if nat_eq (number_at s r t) 1 then number_at s r a else number_at s r b)
