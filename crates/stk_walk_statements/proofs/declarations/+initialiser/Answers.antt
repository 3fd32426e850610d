use Rattle.std.proofs.Common.{◌≡◌, ◌+◌, ◌++◌, [], ◌∷◌, drop, map, List, refl, ◌∙◌, append_assoc, arith, rules, length, ap}
use Rattle.std.proofs.lemmas.List.{drop_all}
use Rattle.stk_tree.specs.View.{view_expression, view_item, items}
use Rattle.stk_meaning.specs.Typings.{type_in, number_kind}
use Rattle.stk_meaning.specs.Worlds.{Normal}
use Rattle.stk_meaning.specs.Paths.{path_world}
use Rattle.stk_meaning.specs.Expressions.{value_of}
use Rattle.stk_meaning.specs.Declarations.{items_run, item_run}
use Rattle.stk_guarded.proofs.Evaluations.{then_goes, gives_goes}
use Rattle.stk_tree.proofs.declaration.Item.TheLaws.{the_size as item_size}
use Rattle.stk_exec_stmt.proofs.Depths.{element_below}
use Rattle.stk_exec_stmt.proofs.Flowing.{next_of}
use Rattle.stk_exec_stmt.proofs.InitialViews.{at_plain}
use Rattle.stk_walking.specs.declared.state.Event.{Event}
use Rattle.stk_walking.specs.ExpressionEvents.{value_events}
use Rattle.stk_walking.specs.StatementEvents.{items_events, item_events}
use Rattle.stk_walk_statements.proofs.Kinding.{kinded_item}
use Rattle.stk_walk_statements.proofs.Walking.{walked_value, walked_none, walked_then, walked_end, there_still}
use Rattle.stk_spending.specs.Statements.{items_spent}
use Rattle.stk_walking.proofs.Costing.{costs_none, costs_then, one_completes, spent_all}
use Rattle.stk_walk_statements.proofs.declarations.+initialiser.Goals as goal

pub initialiser-returns-in_ok-_number-in-Plain-clause-walked : goal.initialiser-returns-in_ok-_number-in-Plain-clause-walked
initialiser-returns-in_ok-_number-in-Plain-clause-walked g t c =
    let V = g.V.Values in
    let G = g.O.RunSetting.setting c.args.out.now in
    let e = view_expression c.in-Plain.e in
    let n = c.in_ok-_number-in-Plain in
    rw (at_plain c.args.x.now c.in-Plain.e c.in-Plain.is)
    (walked_value V.serves V.has_key V.made V.shows G (value_events G e) (λ m. value_of G (path_world (g.O.WalkSetting.under c.args.out.now m)) e) (λ m x. V.shows c.value.new.values m (number_kind (type_in G.typing e)) n._number x)
    c.args.values.now c.value.new.values c.args.state.now c.value.new.state n.ensures.made n.ensures.events n.ensures.follows n.ensures.keeps)

pub items-item-requires : goal.items-item-requires
items-item-requires g t c κs within =
    let V = g.V.Values in
    let G = g.O.RunSetting.setting c.args.out.now in
    let so_far = c.loop-x.invariant in
    let list = c.args.list.now in
    let kinded = kinded_item G list c.loop-x.x-index c.x-item.result c.loop-x-test.true c.x-item.is c.requires.kinded in
    let keys = there_still V.serves V.has_key V.made V.shows c.args.values.now c.loop-x.values (g.O.WalkSetting.kinds c.args.out.now) so_far.2.keeps c.requires.keys in
    let deep = element_below item_size list c.loop-x.x-index c.x-item.result c.loop-x-test.true c.x-item.is in
    (omega (arith, deep, c.decreases), (search rules, (search rules, (search rules, (kinded, (keys, so_far.2.made))))))

pub items-loop-x-init : goal.items-loop-x-init
items-loop-x-init g t c =
    let V = g.V.Values in
    ([], refl, walked_none V.serves V.has_key V.made V.shows (g.O.RunSetting.setting c.args.out.now) _ c.args.values.now c.args.state.now c.requires.made (λ m s u h. h), record { so_far = 0; costs = costs_none; completes = omega arith })

pub items-loop-x-preserved : goal.items-loop-x-preserved
items-loop-x-preserved g t c =
    let V = g.V.Values in
    let G = g.O.RunSetting.setting c.args.out.now in
    let list = c.args.list.now in
    let i = c.loop-x.x-index in
    let so_far = c.loop-x.invariant in
    let step = next_of list i c.x-item.result c.loop-x-test.true c.x-item.is in
    let x = view_item c.x-item.result in
    let xs = items (map view_item (drop (i + 1) list)) in
    let es : List Event = so_far.0 in
    let whole : es ++ items_events G (items (map view_item (c.x-item.result ∷ drop (i + 1) list))) ≡ items_events G (items (map view_item list)) = rw step at so_far.1 in
    let spent = so_far.3 in
    let completes : spent.so_far + items_spent G (items (map view_item (c.x-item.result ∷ drop (i + 1) list))) ≡ items_spent G (items (map view_item list)) = rw step at spent.completes in (
      es ++ item_events G x,
      append_assoc es (item_events G x) (items_events G xs) ∙ whole,
      walked_then V.serves V.has_key V.made V.shows G es (item_events G x) _ _ _ c.args.values.now c.loop-x.values c.item.new.values c.args.state.now c.loop-x.state c.item.new.state
          (λ m s t u p q. λ v h.
          let W = path_world (g.O.WalkSetting.under c.args.out.now m) in
          p v (rw step (then_goes (item_run G W x t.numbers t.kept) (λ flow r k. items_run G W xs r k) Normal Normal t u v q h)))
          so_far.2 c.in_ok-item.ensures.walked,
      record { so_far = _; costs = costs_then spent.costs c.in_ok-item.ensures.cost; completes = one_completes _ _ _ _ completes },
    )

pub items-returns-clause-walked : goal.items-returns-clause-walked
items-returns-clause-walked g t c =
    let V = g.V.Values in
    let G = g.O.RunSetting.setting c.args.out.now in
    let list = c.args.list.now in
    let so_far = c.loop-x.invariant in
    let none : drop c.loop-x.x-index list ≡ [] = drop_all c.loop-x.x-index list (omega arith) in
    let es : List Event = so_far.0 in
    let whole : es ++ [] ≡ items_events G (items (map view_item list)) = rw none at so_far.1 in
    walked_end V.serves V.has_key V.made V.shows G es (items_events G (items (map view_item list))) _ _ c.args.values.now c.loop-x.values c.args.state.now c.loop-x.state whole
    (λ m s t p. p t (rw none (gives_goes Normal t))) so_far.2

pub items-returns-clause-cost : goal.items-returns-clause-cost
items-returns-clause-cost g t c =
    let G = g.O.RunSetting.setting c.args.out.now in
    let list = c.args.list.now in
    let none : drop c.loop-x.x-index list ≡ [] = drop_all c.loop-x.x-index list (omega arith) in
    let rest : items_spent G (items (map view_item (drop c.loop-x.x-index list))) ≡ 0 = ap (λ z. items_spent G (items (map view_item z))) none in
    spent_all rest c.loop-x.invariant.3

pub initialiser-returns-in_ok-_number-in-Plain-clause-cost : goal.initialiser-returns-in_ok-_number-in-Plain-clause-cost
initialiser-returns-in_ok-_number-in-Plain-clause-cost g t c = rw (at_plain c.args.x.now c.in-Plain.e c.in-Plain.is) c.in_ok-_number-in-Plain.ensures.cost
