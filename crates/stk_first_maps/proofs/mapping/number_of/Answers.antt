use Rattle.std.proofs.Common.{rules, ◌≡◌, true, ℤ, sym, ◌∙◌, subst, to_z, of_z}
use Rattle.std.specs.Int.{w128}
use Rattle.stk_numbers.specs.Kinds.{fits}
use Rattle.stk_numbers.proofs.Wrapping.{wrap_in_range}
use Rattle.stk_first_maps.proofs.mapping.number_of.Goals as goal

pub returns : goal.returns
returns c =
    let same : to_z w128 (of_z w128 c.wrap.result) ≡ c.wrap.result = search rules in
    subst (λ (z : ℤ). fits c.args.info.now.kind z ≡ true) (sym (same ∙ c.wrap.ensures)) (wrap_in_range c.args.info.now.kind (to_z w128 c.match-info.number-bits))
