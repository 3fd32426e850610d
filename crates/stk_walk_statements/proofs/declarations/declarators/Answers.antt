use Rattle.std.proofs.Common.{◌≡◌, ◌+◌, ◌++◌, [], ◌∷◌, drop, map, List, refl, ◌∙◌, append_assoc, arith, length, ap}
use Rattle.std.proofs.lemmas.List.{drop_all}
use Rattle.stk_tree.specs.View.{view_declarator, declarators}
use Rattle.stk_meaning.specs.Typings.{declarator_node}
use Rattle.stk_meaning.specs.Visits.{declared_by}
use Rattle.stk_meaning.specs.Worlds.{Normal, gives}
use Rattle.stk_meaning.specs.Paths.{path_world}
use Rattle.stk_meaning.specs.Declarations.{declarators_run, declarator_run}
use Rattle.stk_guarded.proofs.Evaluations.{gives_goes}
use Rattle.stk_guarded.proofs.Statements.{declares_then, goes_declares}
use Rattle.stk_exec_stmt.proofs.Flowing.{next_of}
use Rattle.stk_walking.specs.declared.state.Event.{Event}
use Rattle.stk_walking.specs.StatementEvents.{declarators_events, declarator_events}
use Rattle.stk_walk_statements.proofs.Kinding.{kinded_declarator}
use Rattle.stk_walk_statements.proofs.Walking.{walked_none, walked_then, walked_end, there_still}
use Rattle.stk_spending.specs.Statements.{declarators_spent}
use Rattle.stk_walking.proofs.Costing.{costs_none, costs_then, one_completes, spent_all}
use Rattle.stk_walk_statements.proofs.declarations.declarators.Goals as goal

pub loop-d-init : goal.loop-d-init
loop-d-init g c =
    let V = g.V.Values in
    ([], refl, walked_none V.serves V.has_key V.made V.shows (g.O.RunSetting.setting c.args.out.now) _ c.args.values.now c.args.state.now c.requires.made (λ m s u h. h), record { so_far = 0; costs = costs_none; completes = omega arith })

pub declarator-requires-clause-kinded : goal.declarator-requires-clause-kinded
declarator-requires-clause-kinded g c = kinded_declarator (g.O.RunSetting.setting c.args.out.now) c.args.lasts c.args.list.now c.loop-d.d-index c.d-item.result c.loop-d-test.true c.d-item.is c.requires.kinded

pub declarator-requires-clause-keys : goal.declarator-requires-clause-keys
declarator-requires-clause-keys g c =
    let V = g.V.Values in
    there_still V.serves V.has_key V.made V.shows c.args.values.now c.loop-d.values (g.O.WalkSetting.kinds c.args.out.now) c.loop-d.invariant.2.keeps c.requires.keys

pub declarator-requires-clause-made : goal.declarator-requires-clause-made
declarator-requires-clause-made g c = c.loop-d.invariant.2.made

pub loop-d-preserved : goal.loop-d-preserved
loop-d-preserved g c =
    let V = g.V.Values in
    let G = g.O.RunSetting.setting c.args.out.now in
    let lasts = c.args.lasts in
    let list = c.args.list.now in
    let i = c.loop-d.d-index in
    let so_far = c.loop-d.invariant in
    let step = next_of list i c.d-item.result c.loop-d-test.true c.d-item.is in
    let d = view_declarator c.d-item.result in
    let ds = declarators (map view_declarator (drop (i + 1) list)) in
    let es : List Event = so_far.0 in
    let whole : es ++ declarators_events G lasts (declarators (map view_declarator (c.d-item.result ∷ drop (i + 1) list))) ≡ declarators_events G lasts (declarators (map view_declarator list)) = rw step at so_far.1 in
    let spent = so_far.3 in
    let completes : spent.so_far + declarators_spent G lasts (declarators (map view_declarator (c.d-item.result ∷ drop (i + 1) list))) ≡ declarators_spent G lasts (declarators (map view_declarator list)) = rw step at spent.completes in (
      es ++ declarator_events G lasts d,
      append_assoc es (declarator_events G lasts d) (declarators_events G lasts ds) ∙ whole,
      walked_then V.serves V.has_key V.made V.shows G es (declarator_events G lasts d) _ _ _ c.args.values.now c.loop-d.values c.declarator.new.values c.args.state.now c.loop-d.state c.declarator.new.state
          (λ m s t u p q. λ v h.
          let W = path_world (g.O.WalkSetting.under c.args.out.now m) in
          p v (rw step (declares_then (declarator_node d ∷ []) (declared_by ds) (declarator_run G W lasts d t.numbers t.kept) (λ flow r k. declarators_run G W lasts ds r k) Normal Normal t u v q h)))
          so_far.2 c.in_ok-declarator.ensures.walked,
      record { so_far = _; costs = costs_then spent.costs c.in_ok-declarator.ensures.cost; completes = one_completes _ _ _ _ completes },
    )

pub returns-clause-walked : goal.returns-clause-walked
returns-clause-walked g c =
    let V = g.V.Values in
    let G = g.O.RunSetting.setting c.args.out.now in
    let list = c.args.list.now in
    let so_far = c.loop-d.invariant in
    let none : drop c.loop-d.d-index list ≡ [] = drop_all c.loop-d.d-index list (omega arith) in
    let es : List Event = so_far.0 in
    let all = declarators_events G c.args.lasts (declarators (map view_declarator list)) in
    let whole : es ++ [] ≡ all = rw none at so_far.1 in
    walked_end V.serves V.has_key V.made V.shows G es all _ _ c.args.values.now c.loop-d.values c.args.state.now c.loop-d.state whole
    (λ m s t p. p t (rw none (goes_declares [] (gives Normal t.numbers t.kept) Normal t t (gives_goes Normal t)))) so_far.2

pub returns-clause-cost : goal.returns-clause-cost
returns-clause-cost g c =
    let G = g.O.RunSetting.setting c.args.out.now in
    let list = c.args.list.now in
    let none : drop c.loop-d.d-index list ≡ [] = drop_all c.loop-d.d-index list (omega arith) in
    let rest : declarators_spent G c.args.lasts (declarators (map view_declarator (drop c.loop-d.d-index list))) ≡ 0 = ap (λ z. declarators_spent G c.args.lasts (declarators (map view_declarator z))) none in
    spent_all rest c.loop-d.invariant.3
