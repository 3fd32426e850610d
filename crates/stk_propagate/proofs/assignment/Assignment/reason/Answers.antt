use Rattle.std.proofs.Common.{◌≡◌, ℕ, ap, get_or, None}
use Rattle.stk_propagate.proofs.Dropping.{one_place}
use Rattle.stk_propagate.proofs.assignment.Assignment.reason.Goals as goal

pub returns-in-Some-clause-known : goal.returns-in-Some-clause-known
returns-in-Some-clause-known c = λ k lt e.
    let a = c.args.self.now in
    let p = c.in-Some.ensures in
    let same : c.in-Some.place ≡ k = one_place a.literals c.args.lit c.in-Some.place k c.reasons-reasons.ensures.facts.fresh p.0 lt p.1 e in
    rw c.reasons-reasons.ensures.reasons (ap (λ (n : ℕ). get_or a.reasons n None) same)
