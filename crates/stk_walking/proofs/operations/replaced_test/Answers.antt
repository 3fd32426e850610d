use Rattle.std.proofs.Common.{◌+◌, ◌*◌, ◌≤◌, sym, subst, arith}
use Rattle.stk_ctype.specs.declared.kind.IntKind.{IntKind}
use Rattle.stk_numbers.specs.Kinds.{width_of}
use Rattle.stk_values.specs.Charges.{convert_charge}
use Rattle.stk_walking.proofs.Costing.{replaced_within}
use Rattle.stk_walking.proofs.operations.replaced_test.Goals as goal

pub returns-clause-charge : goal.returns-clause-charge
returns-clause-charge g c =
    let a = c.args.operand.kind in
    let most = subst (λ (k : IntKind). convert_charge a k + 10 * width_of k ≤ 640) (sym c.common-kind.ensures) (replaced_within a c.args.kept) in
    omega (arith, c.in_ok-y.ensures.charge, c.in_ok-none.ensures.charge, c.in_ok-found.ensures.charge, most)
