use Rattle.std.proofs.Common.{rules, ◌≡◌, to_z, of_z}
use Rattle.std.specs.Int.{w128}
use Rattle.stk_statements.proofs.labels.Labels.add_case.Goals as goal

pub returns-in-Some : goal.returns-in-Some
returns-in-Some c =
    let number : to_z w128 (of_z w128 c.in-Number.number) ≡ c.in-Number.number = search rules in
    let same : to_z w128 (of_z w128 c.promoted.result) ≡ c.promoted.result = search rules in
    rw (c.in-Number.is, c.in-Some.is) (rw (same, c.promoted.ensures, number) at c.add_number.ensures)
