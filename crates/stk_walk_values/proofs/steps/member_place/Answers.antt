use Rattle.std.proofs.Common.{◌+◌, ◌^◌, ℕ, pos, ap, ◌∙◌, subst}
use Rattle.std.proofs.Math.Nat.{mod-add-mod}
use Rattle.stk_ctype.specs.declared.kind.IntKind.TheVariants.{ULong}
use Rattle.stk_meaning.specs.Operations.{to_address}
use Rattle.stk_walk_values.proofs.steps.member_place.Goals as goal

pub returns-clause-value : goal.returns-clause-value
returns-clause-value g c = λ m a served ha.
    let V = g.V.Values in
    let G = g.O.RunSetting.setting c.args.out.now in
    let found = c.in_ok-found.ensures.value m (pos a) served ha in
    let is = mod-add-mod a (2 ^ 64) c.offset.result ∙ ap (λ n. to_address (pos (a + n))) c.offset.ensures in
    subst (λ (n : ℕ). V.shows c.behind.new.values m ULong c.in_ok-found.found (pos n)) is found
