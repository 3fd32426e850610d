use Rattle.std.proofs.Common.{◌^◌, ◌-◌, false, ℕ, ℤ, pos, ap, ◌∙◌, subst, arith}
use Rattle.std.proofs.lemmas.Int.{ints}
use Rattle.stk_ctype.specs.declared.kind.IntKind.TheVariants.{ULong}
use Rattle.stk_numbers.specs.Values.{moved}
use Rattle.stk_numbers.proofs.Bounds.{within_ends}
use Rattle.stk_numbers.proofs.Machine.{again, same}
use Rattle.stk_meaning.specs.Operations.{to_address}
use Rattle.stk_walk_values.proofs.Naming.{bytes_behind}
use Rattle.stk_walking.proofs.Costing.{free_first, at_most}
use Rattle.stk_walk_values.proofs.Spending.{one_move}
use Rattle.stk_walk_values.proofs.steps.behind.Goals as goal

pub returns-clause-value : goal.returns-clause-value
returns-clause-value g c = λ m x served hx.
    let V = g.V.Values in
    let k1 = c.constant.ensures.keeps in
    let n = c.args.bytes in
    let same = ap again c.from.ensures ∙ same ULong (pos n) (within_ends (pos 0) (pos (2 ^ 64 - 1)) (pos n) (omega (arith, ints)) (omega (arith, ints, c.ranges.bytes))) in
    let step = subst (λ (z : ℤ). V.shows c.constant.new.self m ULong c.in_ok-value.value z) same (c.in_ok-value.ensures.value m served) in
    let found = c.in_ok-found.ensures.value m x (pos c.args.bytes) (k1.served m served) (k1.shown m _ _ _ hx) step in
    subst (λ (n : ℕ). V.shows c.moved_address.new.values m ULong c.in_ok-found.found (pos n)) (ap (λ z. moved (to_address x) (pos n) z false) c.new.ensures ∙ bytes_behind (to_address x) n) found

pub returns-clause-charge : goal.returns-clause-charge
returns-clause-charge g c = free_first _ c.in_ok-value.ensures.charge (at_most _ c.in_ok-found.ensures.charge (one_move c.new.result c.new.ensures))
