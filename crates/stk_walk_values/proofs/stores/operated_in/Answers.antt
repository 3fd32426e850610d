use Rattle.std.proofs.Common.{sym, subst}
use Rattle.stk_ctype.specs.declared.kind.IntKind.{IntKind}
use Rattle.stk_meaning.specs.Operations.{operated}
use Rattle.stk_operators.specs.Shown.{operation_shown}
use Rattle.stk_walking.proofs.Costing.{plus}
use Rattle.stk_walk_values.proofs.stores.operated_in.Goals as goal

pub returns-clause-value : goal.returns-clause-value
returns-clause-value g c = λ m x y served hx hy.
    let shows = g.V.Values.shows in
    let z = operated (operation_shown c.args.operation.now) x y in
    let a = c.in_ok-number.ensures.value m x y served hx hy in
    c.in_ok-found.ensures.value m z (c.operated.ensures.keeps.served m served) (subst (λ (k : IntKind). shows c.operated.new.values m k c.in_ok-number.number z) (sym c.operation_kind-from.ensures) a)

pub returns-clause-charge : goal.returns-clause-charge
returns-clause-charge g c = plus _ _ _ c.in_ok-number.ensures.charge (rw c.operation_kind-from.ensures at c.in_ok-found.ensures.charge)
