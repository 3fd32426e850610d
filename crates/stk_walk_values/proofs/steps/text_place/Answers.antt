use Rattle.stk_meaning.specs.Paths.{path_world}
use Rattle.stk_walking.proofs.Walking.{walks_alone}
use Rattle.std.proofs.Common.{refl}
use Rattle.stk_walking.proofs.Costing.{costs_free}
use Rattle.stk_walk_values.proofs.steps.text_place.Goals as goal

pub returns-clause-walks : goal.returns-clause-walks
returns-clause-walks g c = walks_alone (λ m. (path_world (g.O.WalkSetting.under c.args.out.now m)).address c.args.node) c.in_ok-found.ensures.makes c.requires.ready.values_made c.in_ok-found.ensures.keeps (λ m served h. c.in_ok-found.ensures.value m served)

pub returns-clause-cost : goal.returns-clause-cost
returns-clause-cost g c = costs_free refl c.in_ok-found.ensures.charge
