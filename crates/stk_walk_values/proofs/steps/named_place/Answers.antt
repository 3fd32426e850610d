use Rattle.std.proofs.Common.{List, ℤ, sym, ◌∙◌, refl}
use Rattle.stk_meaning.specs.Paths.{path_world}
use Rattle.stk_meaning.specs.Places.{target_at, object_named}
use Rattle.stk_meaning.specs.Expressions.{address_of}
use Rattle.stk_walking.proofs.Walking.{walks_alone, walks_as}
use Rattle.stk_tree.specs.Syntax as s
use Rattle.stk_meaning.specs.Expressions.{name_meaning}
use Rattle.stk_walk_values.proofs.Naming.{name_cut, name_found}
use Rattle.stk_walking.proofs.Costing.{costs_free}
use Rattle.stk_walk_values.proofs.steps.named_place.Goals as goal

pub returns-in_ok-none-in-Some-clause-walks : goal.returns-in_ok-none-in-Some-clause-walks
returns-in_ok-none-in-Some-clause-walks g c = λ accessed.
    let G = g.O.RunSetting.setting c.args.out.now in
    walks_as (λ m. (name_meaning G (path_world (g.O.WalkSetting.under c.args.out.now m)) c.args.node (s.name c.args.name) (object_named G c.args.node c.args.name) (G.typing.number_at c.args.node)).place accessed) c.in_ok-none-in-Some.ensures.walks
    (λ m r k. name_cut G (path_world (g.O.WalkSetting.under c.args.out.now m)) c.args.node (s.name c.args.name) (object_named G c.args.node c.args.name) (G.typing.number_at c.args.node) _ _ (sym c.in-Some.is ∙ c.own_number.ensures) accessed r k)

pub returns-in_ok-found-in-None-clause-walks : goal.returns-in_ok-found-in-None-clause-walks
returns-in_ok-found-in-None-clause-walks g c = λ accessed.
    let G = g.O.RunSetting.setting c.args.out.now in
    let W = λ (m : List ℤ). path_world (g.O.WalkSetting.under c.args.out.now m) in
    let object = c.object_named.result in
    walks_as (λ m. (name_meaning G (W m) c.args.node (s.name c.args.name) (object_named G c.args.node c.args.name) (G.typing.number_at c.args.node)).place accessed)
    (walks_alone (λ m. address_of (W m) (target_at G object) object) c.in_ok-found-in-None.ensures.makes c.requires.ready.values_made c.in_ok-found-in-None.ensures.keeps (λ m served h. c.in_ok-found-in-None.ensures.value m served))
    (λ m r k. name_found G (W m) c.args.node (s.name c.args.name) object (object_named G c.args.node c.args.name) (G.typing.number_at c.args.node) _ (sym c.in-None.is ∙ c.own_number.ensures) c.object_named.ensures accessed r k)

pub returns-in_ok-none-in-Some-clause-cost : goal.returns-in_ok-none-in-Some-clause-cost
returns-in_ok-none-in-Some-clause-cost g c = c.in_ok-none-in-Some.ensures.cost

pub returns-in_ok-found-in-None-clause-cost : goal.returns-in_ok-found-in-None-clause-cost
returns-in_ok-found-in-None-clause-cost g c = costs_free refl c.in_ok-found-in-None.ensures.charge
