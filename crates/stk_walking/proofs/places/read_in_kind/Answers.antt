use Rattle.std.proofs.Common.{ℕ}
use Rattle.std.proofs.lemmas.Result.{IfOk-weaker}
use Rattle.stk_walking.proofs.places.read_in_kind.Goals as goal

pub returns-in-Register-clause-follows : goal.returns-in-Register-clause-follows
returns-in-Register-clause-follows g c = rw c.in-Register.is c.read_named_register.ensures.follows

pub returns-in-Kept-clause-follows : goal.returns-in-Kept-clause-follows
returns-in-Kept-clause-follows g c = rw c.in-Kept.is c.read_named_cell.ensures.follows

pub returns-in-Object-clause-follows : goal.returns-in-Object-clause-follows
returns-in-Object-clause-follows g c = rw c.in-Object.is (IfOk-weaker c.read_loaded.result _ _ (λ v h. λ (a : ℕ). h) c.read_loaded.ensures.follows)

pub returns-in-Unnamed-clause-follows : goal.returns-in-Unnamed-clause-follows
returns-in-Unnamed-clause-follows g c = rw c.in-Unnamed.is (IfOk-weaker c.read_loaded-in-Unnamed.result _ _ (λ v h. λ (a : ℕ). h) c.read_loaded-in-Unnamed.ensures.follows)

pub returns-in-Register-clause-cost : goal.returns-in-Register-clause-cost
returns-in-Register-clause-cost g c = rw c.in-Register.is c.read_named_register.ensures.cost

pub returns-in-Kept-clause-cost : goal.returns-in-Kept-clause-cost
returns-in-Kept-clause-cost g c = rw c.in-Kept.is c.read_named_cell.ensures.cost

pub returns-in-Object-clause-cost : goal.returns-in-Object-clause-cost
returns-in-Object-clause-cost g c = rw c.in-Object.is c.read_loaded.ensures.cost

pub returns-in-Unnamed-clause-cost : goal.returns-in-Unnamed-clause-cost
returns-in-Unnamed-clause-cost g c = rw c.in-Unnamed.is c.read_loaded-in-Unnamed.ensures.cost
