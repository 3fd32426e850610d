use Rattle.std.proofs.Common.{refl, set, Some, ap, length}
use Rattle.stk_meaning.specs.Paths.{all_forgotten}
use Rattle.stk_guarded.specs.Standing.{moved_to}
use Rattle.stk_guarded.proofs.Evaluations.{moves_goes}
use Rattle.stk_walking.proofs.Costing.{costs_only, costs_none}
use Rattle.stk_walking.proofs.places.store_in_kind.Goals as goal

pub returns-in_ok-store_in_register-in-Register-clause-stored : goal.returns-in_ok-store_in_register-in-Register-clause-stored
returns-in_ok-store_in_register-in-Register-clause-stored g c = rw c.in-Register.is (λ m s inputs a x y served hx at. record {
  number = y;
  standing = moved_to (set s.numbers c.in-Register.at x) s.kept s;
  value = refl;
  stands = c.in_ok-store_in_register-in-Register.ensures.stands m s x served hx at;
  goes = moves_goes y (set s.numbers c.in-Register.at x) s.kept s;
})

pub returns-in_ok-store_in_cell-in-Kept-clause-stored : goal.returns-in_ok-store_in_cell-in-Kept-clause-stored
returns-in_ok-store_in_cell-in-Kept-clause-stored g c = rw c.in-Kept.is (λ m s inputs a x y served hx at. record {
  number = y;
  standing = moved_to s.numbers (set s.kept c.in-Kept.at (Some x)) s;
  value = refl;
  stands = c.in_ok-store_in_cell-in-Kept.ensures.stands m s x served hx at;
  goes = moves_goes y s.numbers (set s.kept c.in-Kept.at (Some x)) s;
})

pub returns-in_ok-forget-in-Unnamed-clause-stored : goal.returns-in_ok-forget-in-Unnamed-clause-stored
returns-in_ok-forget-in-Unnamed-clause-stored g c = rw c.in-Unnamed.is (λ m s inputs a x y served hx at. record {
  number = y;
  standing = moved_to s.numbers (all_forgotten s.kept) s;
  value = refl;
  stands = c.in_ok-forget-in-Unnamed.ensures.stands m s served at;
  goes = moves_goes y s.numbers (all_forgotten s.kept) s;
})

pub returns-in_ok-store_in_register-in-Register-clause-cost : goal.returns-in_ok-store_in_register-in-Register-clause-cost
returns-in_ok-store_in_register-in-Register-clause-cost g c = rw c.in-Register.is (λ kept. costs_only (ap length c.in_ok-store_in_register-in-Register.ensures.cells) c.in_ok-store_in_register-in-Register.ensures.charge)

pub returns-in_ok-store_in_cell-in-Kept-clause-cost : goal.returns-in_ok-store_in_cell-in-Kept-clause-cost
returns-in_ok-store_in_cell-in-Kept-clause-cost g c = rw c.in-Kept.is c.in_ok-store_in_cell-in-Kept.ensures.cost

pub returns-in-Object-clause-cost : goal.returns-in-Object-clause-cost
returns-in-Object-clause-cost g c = rw c.in-Object.is (λ kept. costs_none)

pub returns-in_ok-forget-in-Unnamed-clause-cost : goal.returns-in_ok-forget-in-Unnamed-clause-cost
returns-in_ok-forget-in-Unnamed-clause-cost g c = rw c.in-Unnamed.is c.in_ok-forget-in-Unnamed.ensures.cost
