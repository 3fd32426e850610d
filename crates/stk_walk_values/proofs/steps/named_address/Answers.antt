use Rattle.std.proofs.Common.{ℤ, pos, ap, sym, ◌∙◌, subst}
use Rattle.stk_ctype.specs.declared.kind.IntKind.TheVariants.{ULong}
use Rattle.stk_meaning.specs.Operations.{to_address}
use Rattle.stk_meaning.specs.Keys.{address_key}
use Rattle.stk_walk_values.proofs.Naming.{address_stays}
use Rattle.stk_walk_values.proofs.steps.named_address.Goals as goal

pub returns-clause-value : goal.returns-clause-value
returns-clause-value g c = λ m served.
    let V = g.V.Values in
    let now = c.input_value.new.values in
    let v = c.in_ok-found.found in
    let z = g.O.WalkSetting.under c.args.out.now m (address_key c.args.object) in
    let at = c.in_ok-found.ensures.value m served in
    let whole = g.met.V.Values.has_number now m ULong v (c.in_ok-found.ensures.keeps.served m served) c.in_ok-found.ensures.makes in
    let same = g.met.V.Values.one_number now m ULong v z whole.0 at whole.1 in
    let is = same ∙ sym (address_stays whole.0 whole.2) ∙ ap (λ x. pos (to_address x)) (sym same) in
    subst (λ (x : ℤ). V.shows now m ULong v x) is at
