use Rattle.std.proofs.Common.{rules, ◌≡◌, ℤ, [], ◌∷◌, ◌++◌, ap, ◌∙◌, take, to_z, of_z}
use Rattle.std.specs.Int.{w128}
use Rattle.std.proofs.lemmas.List.{take_more}
use Rattle.stk_first_maps.proofs.Ranges.{next_in_range}
use Rattle.stk_first_maps.proofs.mapping.map_of_choice.Goals as goal

pub loop-info-preserved : goal.loop-info-preserved
loop-info-preserved c =
    let same : to_z w128 (of_z w128 c.number_of.result) ≡ c.number_of.result = search rules in
    next_in_range (take c.loop-info.info-index c.args.keys.now) _ _ c.loop-info.numbers.items c.push.new.self.items c.number_of.result c.loop-info.invariant (take_more c.args.keys.now c.loop-info.info-index _ c.loop-info-test.true) c.number_of.ensures
    (c.in_ok-push.ensures.items ∙ ap (λ (z : ℤ). c.loop-info.numbers.items ++ z ∷ []) same)
