use Rattle.std.proofs.Common.{refl, ◌≡◌, ◌+◌, ◌++◌, ◌∷◌, [], List, ℤ, ℕ, Bool, ◌&&◌, true, false, not, pos, Option, Some, None, map, drop, sym, ap, ◌∙◌, subst, arith, rules, negsuc, ◌-ℤ◌, length}
use Rattle.std.specs.Prelude.{if◌then◌else◌, option_map}
use Rattle.std.proofs.lemmas.List.{append-nil, drop_all}
use Rattle.stk_ctype.specs.declared.kind.IntKind.{IntKind}
use Rattle.stk_ctype.specs.declared.kind.IntKind.TheVariants.{Int, ULong}
use Rattle.stk_tree.specs.View.{view_expression, expressions}
use Rattle.stk_tree.specs.declared.expression.UnaryOp.TheVariants as unary
use Rattle.stk_tree.specs.Syntax as s
use Rattle.stk_tree.specs.Syntax.{ExprTree, then_expression}
use Rattle.stk_tree.proofs.expression.Expr.TheLaws.{the_size}
use Rattle.stk_tree.specs.Parts.{bare}
use Rattle.stk_numbers.specs.Kinds.{wrap, promote}
use Rattle.stk_numbers.specs.Values.{moved}
use Rattle.stk_numbers.specs.declared.conditions.CandKind.TheVariants.{Arm}
use Rattle.stk_numbers.specs.declared.operators.ArithOp.TheVariants.{Sub}
use Rattle.stk_meaning.specs.declared.entry.Entry.TheVariants.{Enter}
use Rattle.stk_meaning.specs.Typings.{type_in, node_of, number_kind, converted, is_array, pointed, stride_in}
use Rattle.stk_meaning.specs.Operations.{Operation, BinarySort, operates, arithmetic, shifting, joins, or_else, and_also, comparing, sort_of, operation_of, operation_tests, assigned_operator, operated, in_kind, to_address, truth, bit}
use Rattle.stk_meaning.specs.Libraries.{Library, called_signature, parameters_in}
use Rattle.stk_meaning.specs.Conditions.{binary_tests, assigned_tests}
use Rattle.stk_meaning.specs.Replacements.{replacement}
use Rattle.stk_meaning.specs.Places.{target_of, unnamed, target_at, object_named}
use Rattle.stk_meaning.specs.Worlds.{Ran, Went, and_then, gives}
use Rattle.stk_meaning.specs.Paths.{KeptNumbers, path_world}
use Rattle.stk_meaning.specs.Expressions as runs
use Rattle.stk_meaning.specs.Expressions.{breaks, operate, seen, test_of, name_meaning, binary_meaning, unary_meaning, arguments_values, branch_value, right_operand, indexed_from, assigned_value, place_value}
use Rattle.stk_operators.specs.Shown.{operator_shown, sort_shown, operation_shown, library_shown}
use Rattle.stk_eval_expr.specs.Leaving.{meaning_in}
use Rattle.stk_eval_expr.specs.Parts.{step_end, call_end, compound_end, plain_end, comparison_end, place_end}
use Rattle.stk_eval_expr.proofs.Arms.{next_of}
use Rattle.stk_eval_expr.proofs.Alone.{sides_alone}
use Rattle.stk_eval_expr.proofs.Views.{at_name, at_index, at_call, at_dot, at_arrow, at_step, at_unary, at_cast, at_binary, at_choice, at_assign, at_text}
use Rattle.stk_kinded.specs.Kinds.{operation_kind}
use Rattle.stk_kinded.specs.Kinded.{UnaryHasKind, BinaryHasKind}
use Rattle.stk_guarded.specs.Standing.{added}
use Rattle.stk_walking.specs.Events.{events_in, hit}
use Rattle.stk_walking.specs.ExpressionEvents.{expression_events, condition_events, unary_events}
use Rattle.stk_walking.specs.Stands.{Stands}
use Rattle.stk_walking.proofs.Carried.{keeps_none, keeps_then, is_made_still, is_made_guarded}
use Rattle.stk_walking.proofs.Walking.{ready_keeps, ready_walked, walks_then, walks_value, walks_under, walks_behind, walks_as, walks_marked, walks_entered, walks_branch, walks_either, walks_follows}
use Rattle.stk_walk_values.specs.Parts.{Finds, WalksBehind}
use Rattle.stk_walk_values.specs.Sided.{SidesMade}
use Rattle.stk_walk_values.proofs.Composing.{walks_one, walks_next, walks_two}
use Rattle.stk_walk_values.proofs.Depths.{element_below}
use Rattle.stk_walk_values.proofs.Forms.{placed_as, if_opposite, side_of, side_with, indexed_array, indexed_array_events}
use Rattle.stk_walk_values.proofs.Lasting.{arguments_shown}
use Rattle.stk_walk_values.proofs.Naming.{array_kind}
use Rattle.stk_walk_values.specs.Arguments.{Takes}
use Rattle.stk_walk_values.proofs.Storing.{operation_shifts}
use Rattle.stk_walk_values.proofs.Taking.{takes_called}
use Rattle.stk_walk_values.proofs.Collecting.{Passed, passed_none, passed_more, passed_all, kinded_argument, arguments_made_still}
use Rattle.stk_walking.proofs.Costing.{costs_then, costs_more, costs_within, costs_cells, costs_store, costs_after, costs_before, costs_none, one_completes, spent_all}
use Rattle.stk_walk_values.proofs.Spending.{zero_least, none_more, more_none, itself, three_regrouped, four_regrouped, joined_regrouped, choice_regrouped, named_within, placed_costs}
use Rattle.stk_spending.specs.Expressions.{arguments_spent}
use Rattle.stk_walk_values.proofs.expressions.+expression.Goals as goal

pub cast-value-requires : goal.cast-value-requires
cast-value-requires g t c κs within =
    (omega (arith, c.decreases), (search rules, (search rules, (search rules, (c.requires.kinded, c.requires.ready)))))

pub cast-converted-requires : goal.cast-converted-requires
cast-converted-requires g t c =
    let V = g.V.Values in
    let G = g.O.RunSetting.setting c.args.out.now in
    let kind = c.kind_at.ensures ∙ ap (λ i. number_kind (G.typing.type_at i)) c.node_of.ensures in
    subst (λ (k : IntKind). V.made c.value.new.values k c.in_ok-n.n) (sym kind) c.in_ok-n.ensures.walks.answered

pub cast-returns-clause-walks : goal.cast-returns-clause-walks
cast-returns-clause-walks g t c =
    let V = g.V.Values in
    let G = g.O.RunSetting.setting c.args.out.now in
    let e = view_expression c.args.e.now in
    let n = c.in_ok-n.n in
    let v = c.in_ok-found.found in
    let t1 = G.typing.type_at c.args.k in
    let kind : c.kind_at.result ≡ number_kind (type_in G.typing e) = c.kind_at.ensures ∙ ap (λ i. number_kind (G.typing.type_at i)) c.node_of.ensures in
    walks_value (λ m x. converted t1 x) c.in_ok-n.ensures.walks c.in_ok-found.ensures.keeps (subst (λ (k : IntKind). V.made c.converted.new.values k v) c.kind_at-2.ensures c.in_ok-found.ensures.makes)
    (λ m x before h served hx. subst (λ (k : IntKind). V.shows c.converted.new.values m k v (wrap k x)) c.kind_at-2.ensures (c.in_ok-found.ensures.value m x served (subst (λ (k : IntKind). V.shows c.value.new.values m k n x) (sym kind) hx)))

pub tested-value-requires : goal.tested-value-requires
tested-value-requires g t c κs within =
    (omega (arith, c.decreases), (search rules, (search rules, (search rules, (c.requires.kinded, c.requires.ready)))))

pub tested-seen_test-requires-clause-value : goal.tested-seen_test-requires-clause-value
tested-seen_test-requires-clause-value g t c =
    c.in_ok-n.ensures.walks.answered

pub tested-seen_test-requires-clause-ready : goal.tested-seen_test-requires-clause-ready
tested-seen_test-requires-clause-ready g t c =
    ready_walked c.requires.ready c.in_ok-n.ensures.walks

pub tested-returns-clause-walks : goal.tested-returns-clause-walks
tested-returns-clause-walks g t c =
    let G = g.O.RunSetting.setting c.args.out.now in
    let e = view_expression c.args.e.now in
    walks_one (λ x m r i. Went x r i (seen (bare e) x)) (pos 0) c.in_ok-n.ensures.walks (λ x. c.in_ok-test.ensures.walks x)

pub right_operand-value-requires : goal.right_operand-value-requires
right_operand-value-requires g t c κs within =
    (omega (arith, c.decreases), (search rules, (search rules, (search rules, (c.requires.kinded, record { keys = c.requires.ready.keys; values_made = c.in_ok-enter.ensures.made (g.O.RunSetting.setting c.args.out.now) c.requires.ready.values_made })))))

pub right_operand-is_true-requires : goal.right_operand-is_true-requires
right_operand-is_true-requires g t c =
    let V = g.V.Values in
    let G = g.O.RunSetting.setting c.args.out.now in
    let kind = c.kind_at.ensures ∙ ap (λ i. number_kind (G.typing.type_at i)) c.node_of-2.ensures in
    subst (λ (k : IntKind). V.made c.value.new.values k c.in_ok-n.n) (sym kind) c.in_ok-n.ensures.walks.answered

pub right_operand-returns-clause-walks : goal.right_operand-returns-clause-walks
right_operand-returns-clause-walks g t c =
    let V = g.V.Values in
    let G = g.O.RunSetting.setting c.args.out.now in
    let e = view_expression c.args.e.now in
    let n = c.in_ok-n.n in
    let old = c.args.values.now in
    let w0 = c.args.state.now in
    let w1 = c.enter.new.state in
    let at : c.node_of.result ≡ node_of e = c.node_of.ensures in
    let events = subst (λ (i : ℕ). events_in w1.steps.items ≡ events_in w0.steps.items ++ hit i Arm ∷ []) at c.in_ok-enter.ensures.events in
    let kind : c.kind_at.result ≡ number_kind (type_in G.typing e) = c.kind_at.ensures ∙ ap (λ i. number_kind (G.typing.type_at i)) c.node_of-2.ensures in
    walks_entered (node_of e) events (λ m s h. subst (λ (i : ℕ). Stands (V.shows old m) G w1 (added (Enter i ∷ []) s)) at (c.in_ok-enter.ensures.stands G m s h))
    (walks_value (λ m x. bit (truth x)) c.in_ok-n.ensures.walks c.in_ok-test.ensures.keeps c.in_ok-test.ensures.makes
    (λ m x before h served hx. c.in_ok-test.ensures.value m x served (subst (λ (k : IntKind). V.shows c.value.new.values m k n x) (sym kind) hx)))

pub branch-value-requires : goal.branch-value-requires
branch-value-requires g t c κs within =
    (omega (arith, c.decreases), (search rules, (search rules, (search rules, (c.requires.kinded, record { keys = c.requires.ready.keys; values_made = c.in_ok-enter.ensures.made (g.O.RunSetting.setting c.args.out.now) c.requires.ready.values_made })))))

pub branch-converted-requires : goal.branch-converted-requires
branch-converted-requires g t c =
    let V = g.V.Values in
    let G = g.O.RunSetting.setting c.args.out.now in
    let kind = c.kind_at.ensures ∙ ap (λ i. number_kind (G.typing.type_at i)) c.node_of-2.ensures in
    subst (λ (k : IntKind). V.made c.value.new.values k c.in_ok-n.n) (sym kind) c.in_ok-n.ensures.walks.answered

pub branch-returns-clause-walks : goal.branch-returns-clause-walks
branch-returns-clause-walks g t c =
    let V = g.V.Values in
    let G = g.O.RunSetting.setting c.args.out.now in
    let e = view_expression c.args.e.now in
    let n = c.in_ok-n.n in
    let old = c.args.values.now in
    let w0 = c.args.state.now in
    let w1 = c.enter.new.state in
    let at : c.node_of.result ≡ node_of e = c.node_of.ensures in
    let events = subst (λ (i : ℕ). events_in w1.steps.items ≡ events_in w0.steps.items ++ hit i Arm ∷ []) at c.in_ok-enter.ensures.events in
    let kind : c.kind_at.result ≡ number_kind (type_in G.typing e) = c.kind_at.ensures ∙ ap (λ i. number_kind (G.typing.type_at i)) c.node_of-2.ensures in
    walks_entered (node_of e) events (λ m s h. subst (λ (i : ℕ). Stands (V.shows old m) G w1 (added (Enter i ∷ []) s)) at (c.in_ok-enter.ensures.stands G m s h))
    (walks_value (λ m x. converted (G.typing.type_at c.args.k) x) c.in_ok-n.ensures.walks c.in_ok-found.ensures.keeps (subst (λ (k : IntKind). V.made c.converted.new.values k c.in_ok-found.found) c.kind_at-2.ensures c.in_ok-found.ensures.makes)
    (λ m x before h served hx. subst (λ (k : IntKind). V.shows c.converted.new.values m k c.in_ok-found.found (wrap k x)) c.kind_at-2.ensures (c.in_ok-found.ensures.value m x served (subst (λ (k : IntKind). V.shows c.value.new.values m k n x) (sym kind) hx))))

pub member-place-requires : goal.member-place-requires
member-place-requires g t c κs within =
    (omega (arith, c.decreases), (search rules, (search rules, (search rules, (c.requires.kinded, c.requires.ready)))))

pub member-member_place-requires : goal.member-member_place-requires
member-member_place-requires g t c =
    c.in_ok-address.ensures.walks.answered

pub member-returns-clause-walks : goal.member-returns-clause-walks
member-returns-clause-walks g t c =
    let V = g.V.Values in
    let G = g.O.RunSetting.setting c.args.out.now in
    let e = view_expression c.args.e.now in
    let at : c.node_of.result ≡ node_of e = c.node_of.ensures in
    let v = c.in_ok-found.found in
    walks_value (λ m x. to_address (pos (x + G.typing.offset_of (type_in G.typing e) c.args.name))) c.in_ok-address.ensures.walks c.in_ok-found.ensures.keeps c.in_ok-found.ensures.makes
    (λ m x before h served hx. subst (λ (i : ℕ). V.shows c.member_place.new.values m ULong v (pos (to_address (pos (x + G.typing.offset_of (G.typing.type_at i) c.args.name))))) at (c.in_ok-found.ensures.value m x served hx))

pub target-value-requires : goal.target-value-requires
target-value-requires g t c κs within =
    (omega (arith, c.decreases), (search rules, (search rules, (search rules, (c.requires.kinded, c.requires.ready)))))

pub target-target_place-requires-clause-pointer : goal.target-target_place-requires-clause-pointer
target-target_place-requires-clause-pointer g t c =
    let V = g.V.Values in
    let G = g.O.RunSetting.setting c.args.out.now in
    let e = view_expression c.args.e.now in
    let kind : c.kind_at-kind.result ≡ number_kind (type_in G.typing e) = c.kind_at-kind.ensures ∙ ap (λ i. number_kind (G.typing.type_at i)) c.node_of.ensures in
    subst (λ (k : IntKind). V.made c.value.new.values k c.in_ok-value.value) (sym kind) c.in_ok-value.ensures.walks.answered

pub target-target_place-requires-clause-ready : goal.target-target_place-requires-clause-ready
target-target_place-requires-clause-ready g t c =
    ready_walked c.requires.ready c.in_ok-value.ensures.walks

pub target-returns-clause-walks : goal.target-returns-clause-walks
target-returns-clause-walks g t c =
    let V = g.V.Values in
    let G = g.O.RunSetting.setting c.args.out.now in
    let e = view_expression c.args.e.now in
    let kind : c.kind_at-kind.result ≡ number_kind (type_in G.typing e) = c.kind_at-kind.ensures ∙ ap (λ i. number_kind (G.typing.type_at i)) c.node_of.ensures in
    let n = c.in_ok-value.value in
    walks_one (λ x m r i. Went (to_address x) r i (breaks G c.args.k c.args.accessed (s.unary unary.Deref e) x (pos 0) (pos 0))) (pos 0) c.in_ok-value.ensures.walks
    (λ x. walks_under (c.in_ok-found.ensures.walks e x) (λ m hx. subst (λ (k : IntKind). V.shows c.value.new.values m k n x) (sym kind) hx))

pub target_value-target-requires : goal.target_value-target-requires
target_value-target-requires g t c κs within =
    (omega (arith, c.decreases), (search rules, (search rules, (search rules, (c.requires.kinded, c.requires.ready)))))

pub target_value-place_number-requires-clause-suits : goal.target_value-place_number-requires-clause-suits
target_value-place_number-requires-clause-suits g t c =
    tt

pub target_value-place_number-requires-clause-address : goal.target_value-place_number-requires-clause-address
target_value-place_number-requires-clause-address g t c =
    c.in_ok-address.ensures.walks.answered

pub target_value-place_number-requires-clause-ready : goal.target_value-place_number-requires-clause-ready
target_value-place_number-requires-clause-ready g t c =
    ready_walked c.requires.ready c.in_ok-address.ensures.walks

pub target_value-returns-clause-walks : goal.target_value-returns-clause-walks
target_value-returns-clause-walks g t c =
    let V = g.V.Values in
    let G = g.O.RunSetting.setting c.args.out.now in
    let I = g.O.WalkSetting.under c.args.out.now in
    let e = view_expression c.args.e.now in
    let k = c.args.k in
    let f = s.unary unary.Deref e in
    let P = λ (m : List ℤ). (unary_meaning G (path_world (I m)) k unary.Deref e (meaning_in G (I m) e)).place in
    let E1 = (unary_events G k unary.Deref e (expression_events G e)).place in
    let accessed : not c.is_array_at.result ≡ not (is_array (G.typing.type_at k)) = ap not c.is_array_at.ensures in
    let p = subst (λ (b : Bool). Finds V.serves V.has_key V.made V.shows G c.in_ok-address.address (λ m. P m b) (E1 b) c.args.values.now c.target.new.values c.args.state.now c.target.new.state) accessed c.in_ok-address.ensures.walks in
    walks_marked (walks_as (λ m. (unary_meaning G (path_world (I m)) k unary.Deref e (meaning_in G (I m) e)).value) (walks_one (λ x m. place_end G (path_world (I m)) k unnamed x) 0 p (λ x. c.in_ok-found.ensures.walks x)) (λ m r i. placed_as G (I m) unnamed k (P m) r i)) (append-nil (E1 (not (is_array (G.typing.type_at k)))))

pub place_value-place-requires : goal.place_value-place-requires
place_value-place-requires g t c κs within =
    (omega (arith, c.decreases), (search rules, (search rules, (search rules, (c.requires.kinded, c.requires.ready)))))

pub place_value-place_number-requires-clause-suits : goal.place_value-place_number-requires-clause-suits
place_value-place_number-requires-clause-suits g t c =
    let V = g.V.Values in
    let G = g.O.RunSetting.setting c.args.out.now in
    let e = view_expression c.args.e.now in
    let at : c.node_of-k.result ≡ node_of e = c.node_of-k.ensures in
    rw (c.target_of.ensures, at) c.requires.suits

pub place_value-place_number-requires-clause-address : goal.place_value-place_number-requires-clause-address
place_value-place_number-requires-clause-address g t c =
    c.in_ok-address.ensures.walks.answered

pub place_value-place_number-requires-clause-ready : goal.place_value-place_number-requires-clause-ready
place_value-place_number-requires-clause-ready g t c =
    ready_walked c.requires.ready c.in_ok-address.ensures.walks

pub place_value-returns-clause-walks : goal.place_value-returns-clause-walks
place_value-returns-clause-walks g t c =
    let V = g.V.Values in
    let G = g.O.RunSetting.setting c.args.out.now in
    let I = g.O.WalkSetting.under c.args.out.now in
    let e = view_expression c.args.e.now in
    let at : c.node_of-k.result ≡ node_of e = c.node_of-k.ensures in
    let k = node_of e in
    let P = λ (m : List ℤ). (meaning_in G (I m) e).place in
    let E1 = (expression_events G e).place in
    let target = target_of G e in
    let accessed : not c.is_array_at.result ≡ not (is_array (type_in G.typing e)) = ap not c.is_array_at.ensures ∙ ap (λ i. not (is_array (G.typing.type_at i))) at in
    let p = subst (λ (b : Bool). Finds V.serves V.has_key V.made V.shows G c.in_ok-address.address (λ m. P m b) (E1 b) c.args.values.now c.place.new.values c.args.state.now c.place.new.state) accessed c.in_ok-address.ensures.walks in
    let q : (a : ℕ) → WalksBehind V.serves V.has_key V.made V.shows G (λ m. V.shows c.place.new.values m ULong c.in_ok-address.address (pos a)) (number_kind (type_in G.typing e)) c.in_ok-found.found (λ m. place_end G (path_world (I m)) k target a) [] c.place.new.values c.place_number.new.values c.place.new.state c.place_number.new.state = rw (c.target_of.ensures, at) at c.in_ok-found.ensures.walks in
    walks_marked (walks_as (λ m. place_value (path_world (I m)) target k (type_in G.typing e) (P m)) (walks_one (λ x m. place_end G (path_world (I m)) k target x) 0 p q) (λ m r i. placed_as G (I m) target k (P m) r i)) (append-nil (E1 (not (is_array (type_in G.typing e)))))

pub index_place-indexed-requires : goal.index_place-indexed-requires
index_place-indexed-requires g t c κs within =
    (omega (arith, c.decreases), (search rules, (search rules, (search rules, (c.requires.first, c.requires.ready)))))

pub index_place-value-requires : goal.index_place-value-requires
index_place-value-requires g t c κs within =
    (omega (arith, c.decreases), (search rules, (search rules, (search rules, (c.requires.second, ready_walked c.requires.ready c.in_ok-x.ensures.walks)))))

pub index_place-indexed_place-requires-clause-first : goal.index_place-indexed_place-requires-clause-first
index_place-indexed_place-requires-clause-first g t c =
    let V = g.V.Values in
    let G = g.O.RunSetting.setting c.args.out.now in
    let a = view_expression c.args.a.now in
    let b = view_expression c.args.b.now in
    let ka : c.kind_at.result ≡ number_kind (type_in G.typing a) = c.kind_at.ensures ∙ ap (λ i. number_kind (G.typing.type_at i)) c.node_of.ensures in
    let kb : c.kind_at-2.result ≡ number_kind (type_in G.typing b) = c.kind_at-2.ensures ∙ ap (λ i. number_kind (G.typing.type_at i)) c.node_of-2.ensures in
    subst (λ (k : IntKind). V.made c.value.new.values k c.in_ok-x.x) (sym ka) (c.in_ok-y.ensures.walks.keeps.made_still _ _ c.in_ok-x.ensures.walks.answered)

pub index_place-indexed_place-requires-clause-second : goal.index_place-indexed_place-requires-clause-second
index_place-indexed_place-requires-clause-second g t c =
    let V = g.V.Values in
    let G = g.O.RunSetting.setting c.args.out.now in
    let a = view_expression c.args.a.now in
    let b = view_expression c.args.b.now in
    let ka : c.kind_at.result ≡ number_kind (type_in G.typing a) = c.kind_at.ensures ∙ ap (λ i. number_kind (G.typing.type_at i)) c.node_of.ensures in
    let kb : c.kind_at-2.result ≡ number_kind (type_in G.typing b) = c.kind_at-2.ensures ∙ ap (λ i. number_kind (G.typing.type_at i)) c.node_of-2.ensures in
    subst (λ (k : IntKind). V.made c.value.new.values k c.in_ok-y.y) (sym kb) c.in_ok-y.ensures.walks.answered

pub index_place-indexed_place-requires-clause-ready : goal.index_place-indexed_place-requires-clause-ready
index_place-indexed_place-requires-clause-ready g t c =
    ready_walked (ready_walked c.requires.ready c.in_ok-x.ensures.walks) c.in_ok-y.ensures.walks

pub index_place-returns-clause-walks : goal.index_place-returns-clause-walks
index_place-returns-clause-walks g t c =
    let V = g.V.Values in
    let G = g.O.RunSetting.setting c.args.out.now in
    let a = view_expression c.args.a.now in
    let b = view_expression c.args.b.now in
    let ka : c.kind_at.result ≡ number_kind (type_in G.typing a) = c.kind_at.ensures ∙ ap (λ i. number_kind (G.typing.type_at i)) c.node_of.ensures in
    let kb : c.kind_at-2.result ≡ number_kind (type_in G.typing b) = c.kind_at-2.ensures ∙ ap (λ i. number_kind (G.typing.type_at i)) c.node_of-2.ensures in
    walks_two (λ x y m r i. Went (moved (to_address x) y (stride_in G.typing (type_in G.typing a)) false) r i (breaks G c.args.k c.args.accessed (s.index a b) x y (pos 0))) (pos 0) (pos 0) c.in_ok-x.ensures.walks c.in_ok-y.ensures.walks
    (λ x y. walks_under (c.in_ok-found.ensures.walks b x y) (λ m h. (subst (λ (k : IntKind). V.shows c.value.new.values m k c.in_ok-x.x x) (sym ka) h.0, subst (λ (k : IntKind). V.shows c.value.new.values m k c.in_ok-y.y y) (sym kb) h.1)))
    (λ m x hx. c.in_ok-y.ensures.walks.keeps.shown m _ _ _ hx)

pub compared_value-sides-requires : goal.compared_value-sides-requires
compared_value-sides-requires g t c κs within =
    (omega (arith, c.decreases), (search rules, (search rules, (search rules, (c.requires.first, c.requires.ready)))))

pub compared_value-compared_number-requires-clause-first : goal.compared_value-compared_number-requires-clause-first
compared_value-compared_number-requires-clause-first g t c =
    let k2 = c.in_ok-y.ensures.walks.keeps in
    let s1 = c.in_ok-x.ensures.walks.answered in
    record { number = k2.made_still _ _ s1.number; left = k2.made_still _ _ s1.left; right = k2.made_still _ _ s1.right }

pub compared_value-compared_number-requires-clause-second : goal.compared_value-compared_number-requires-clause-second
compared_value-compared_number-requires-clause-second g t c =
    c.in_ok-y.ensures.walks.answered

pub compared_value-compared_number-requires-clause-ready : goal.compared_value-compared_number-requires-clause-ready
compared_value-compared_number-requires-clause-ready g t c =
    ready_walked (ready_walked c.requires.ready c.in_ok-x.ensures.walks) c.in_ok-y.ensures.walks

pub compared_value-returns-clause-walks : goal.compared_value-returns-clause-walks
compared_value-returns-clause-walks g t c =
    let V = g.V.Values in
    let G = g.O.RunSetting.setting c.args.out.now in
    let a = view_expression c.args.a.now in
    let b = view_expression c.args.b.now in
    let how = c.args.how in
    let r = replacement G.typing a b in
    let o = operation_of G.typing (comparing how) (type_in G.typing a) (type_in G.typing b) in
    let none : runs.Sides = record { number = pos 0; left = pos 0; right = pos 0 } in
    let k2 = c.in_ok-y.ensures.walks.keeps in
    walks_two (λ x y m. comparison_end G c.args.k how o r x y) none none c.in_ok-x.ensures.walks c.in_ok-y.ensures.walks (λ x y. c.in_ok-found.ensures.walks x y)
    (λ m x hx. record { number = k2.shown m _ _ _ hx.number; left = k2.shown m _ _ _ hx.left; right = k2.shown m _ _ _ hx.right })

pub operator_sides-value-requires : goal.operator_sides-value-requires
operator_sides-value-requires g t c κs within =
    (omega (arith, c.decreases), (search rules, (search rules, (search rules, (c.requires.first, c.requires.ready)))))

pub operator_sides-operated_number-requires-clause-first : goal.operator_sides-operated_number-requires-clause-first
operator_sides-operated_number-requires-clause-first g t c =
    let V = g.V.Values in
    let G = g.O.RunSetting.setting c.args.out.now in
    let a = view_expression c.args.a.now in
    let b = view_expression c.args.b.now in
    let ka : c.kind_at.result ≡ number_kind (type_in G.typing a) = c.kind_at.ensures ∙ ap (λ i. number_kind (G.typing.type_at i)) c.node_of.ensures in
    let kb : c.kind_at-2.result ≡ number_kind (type_in G.typing b) = c.kind_at-2.ensures ∙ ap (λ i. number_kind (G.typing.type_at i)) c.node_of-2.ensures in
    subst (λ (k : IntKind). V.made c.value-2.new.values k c.in_ok-x.x) (sym ka) (c.in_ok-y.ensures.walks.keeps.made_still _ _ c.in_ok-x.ensures.walks.answered)

pub operator_sides-operated_number-requires-clause-second : goal.operator_sides-operated_number-requires-clause-second
operator_sides-operated_number-requires-clause-second g t c =
    let V = g.V.Values in
    let G = g.O.RunSetting.setting c.args.out.now in
    let a = view_expression c.args.a.now in
    let b = view_expression c.args.b.now in
    let ka : c.kind_at.result ≡ number_kind (type_in G.typing a) = c.kind_at.ensures ∙ ap (λ i. number_kind (G.typing.type_at i)) c.node_of.ensures in
    let kb : c.kind_at-2.result ≡ number_kind (type_in G.typing b) = c.kind_at-2.ensures ∙ ap (λ i. number_kind (G.typing.type_at i)) c.node_of-2.ensures in
    subst (λ (k : IntKind). V.made c.value-2.new.values k c.in_ok-y.y) (sym kb) c.in_ok-y.ensures.walks.answered

pub operator_sides-operated_number-requires-clause-shifts : goal.operator_sides-operated_number-requires-clause-shifts
operator_sides-operated_number-requires-clause-shifts g t c =
    let V = g.V.Values in
    let G = g.O.RunSetting.setting c.args.out.now in
    let a = view_expression c.args.a.now in
    let b = view_expression c.args.b.now in
    let ka : c.kind_at.result ≡ number_kind (type_in G.typing a) = c.kind_at.ensures ∙ ap (λ i. number_kind (G.typing.type_at i)) c.node_of.ensures in
    let kb : c.kind_at-2.result ≡ number_kind (type_in G.typing b) = c.kind_at-2.ensures ∙ ap (λ i. number_kind (G.typing.type_at i)) c.node_of-2.ensures in
    let how = operator_shown c.args.how in
    let ta = type_in G.typing a in
    let tb = type_in G.typing b in
    let o = operation_of G.typing how ta tb in
    let same : operation_shown c.operation-operation.result ≡ o = c.operation-operation.ensures ∙ ap (λ i. operation_of G.typing how (G.typing.type_at i) (G.typing.type_at c.node_of-4.result)) c.node_of-3.ensures ∙ ap (λ i. operation_of G.typing how ta (G.typing.type_at i)) c.node_of-4.ensures in
    rw (same, ka) (operation_shifts G.typing how ta tb)

pub operator_sides-operated_number-requires-clause-ready : goal.operator_sides-operated_number-requires-clause-ready
operator_sides-operated_number-requires-clause-ready g t c =
    ready_walked (ready_walked c.requires.ready c.in_ok-x.ensures.walks) c.in_ok-y.ensures.walks

pub operator_sides-returns-clause-value : goal.operator_sides-returns-clause-value
operator_sides-returns-clause-value g t c =
    let V = g.V.Values in
    let G = g.O.RunSetting.setting c.args.out.now in
    let a = view_expression c.args.a.now in
    let b = view_expression c.args.b.now in
    let ka : c.kind_at.result ≡ number_kind (type_in G.typing a) = c.kind_at.ensures ∙ ap (λ i. number_kind (G.typing.type_at i)) c.node_of.ensures in
    let kb : c.kind_at-2.result ≡ number_kind (type_in G.typing b) = c.kind_at-2.ensures ∙ ap (λ i. number_kind (G.typing.type_at i)) c.node_of-2.ensures in
    let how = operator_shown c.args.how in
    let ta = type_in G.typing a in
    let tb = type_in G.typing b in
    let o = operation_of G.typing how ta tb in
    let same : operation_shown c.operation-operation.result ≡ o = c.operation-operation.ensures ∙ ap (λ i. operation_of G.typing how (G.typing.type_at i) (G.typing.type_at c.node_of-4.result)) c.node_of-3.ensures ∙ ap (λ i. operation_of G.typing how ta (G.typing.type_at i)) c.node_of-4.ensures in
    let f = s.binary c.args.op a b in
    let v = c.in_ok-number.number in
    let mid = c.value-2.new.values in
    let now = c.operated_number.new.values in
    let asked = ap (λ u. binary_tests G.typing u ta tb) c.requires.sort ∙ ap operation_tests (sym same) in
    let e3 = λ (x y : ℤ). walks_under (subst (λ (u : Operation). WalksBehind V.serves V.has_key V.made V.shows G (λ m. V.shows mid m c.kind_at.result c.in_ok-x.x x × V.shows mid m c.kind_at-2.result c.in_ok-y.y y) (operation_kind u) v (λ m. operate G c.args.k f u x y) (condition_events G c.args.k true f) mid now c.value-2.new.state c.operated_number.new.state) same (c.in_ok-number.ensures.walks f x y asked))
    (λ m (h : V.shows mid m (number_kind ta) c.in_ok-x.x x × V.shows mid m (number_kind tb) c.in_ok-y.y y). (subst (λ (k : IntKind). V.shows mid m k c.in_ok-x.x x) (sym ka) h.0, subst (λ (k : IntKind). V.shows mid m k c.in_ok-y.y y) (sym kb) h.1)) in
    walks_two (λ x y m. operate G c.args.k f o x y) (pos 0) (pos 0) c.in_ok-x.ensures.walks c.in_ok-y.ensures.walks e3 (λ m x hx. c.in_ok-y.ensures.walks.keeps.shown m _ _ _ hx)

pub operator_sides-returns-clause-sides : goal.operator_sides-returns-clause-sides
operator_sides-returns-clause-sides g t c =
    let V = g.V.Values in
    let G = g.O.RunSetting.setting c.args.out.now in
    let a = view_expression c.args.a.now in
    let b = view_expression c.args.b.now in
    let ka : c.kind_at.result ≡ number_kind (type_in G.typing a) = c.kind_at.ensures ∙ ap (λ i. number_kind (G.typing.type_at i)) c.node_of.ensures in
    let kb : c.kind_at-2.result ≡ number_kind (type_in G.typing b) = c.kind_at-2.ensures ∙ ap (λ i. number_kind (G.typing.type_at i)) c.node_of-2.ensures in
    let how = operator_shown c.args.how in
    let ta = type_in G.typing a in
    let tb = type_in G.typing b in
    let o = operation_of G.typing how ta tb in
    let same : operation_shown c.operation-operation.result ≡ o = c.operation-operation.ensures ∙ ap (λ i. operation_of G.typing how (G.typing.type_at i) (G.typing.type_at c.node_of-4.result)) c.node_of-3.ensures ∙ ap (λ i. operation_of G.typing how ta (G.typing.type_at i)) c.node_of-4.ensures in
    let f = s.binary c.args.op a b in
    let v = c.in_ok-number.number in
    let mid = c.value-2.new.values in
    let now = c.operated_number.new.values in
    let asked = ap (λ u. binary_tests G.typing u ta tb) c.requires.sort ∙ ap operation_tests (sym same) in
    let e3 = λ (x y : ℤ). walks_under (subst (λ (u : Operation). WalksBehind V.serves V.has_key V.made V.shows G (λ m. V.shows mid m c.kind_at.result c.in_ok-x.x x × V.shows mid m c.kind_at-2.result c.in_ok-y.y y) (operation_kind u) v (λ m. operate G c.args.k f u x y) (condition_events G c.args.k true f) mid now c.value-2.new.state c.operated_number.new.state) same (c.in_ok-number.ensures.walks f x y asked))
    (λ m (h : V.shows mid m (number_kind ta) c.in_ok-x.x x × V.shows mid m (number_kind tb) c.in_ok-y.y y). (subst (λ (k : IntKind). V.shows mid m k c.in_ok-x.x x) (sym ka) h.0, subst (λ (k : IntKind). V.shows mid m k c.in_ok-y.y y) (sym kb) h.1)) in
    let k3 = (e3 (pos 0) (pos 0)).keeps in
    let k23 = keeps_then V.serves V.has_key V.made V.shows c.value.new.values mid now c.in_ok-y.ensures.walks.keeps k3 in
    let made : SidesMade (V.made now) (operation_kind o) (record { number = v; left = record { kind = c.kind_at.result; value = c.in_ok-x.x }; right = record { kind = c.kind_at-2.result; value = c.in_ok-y.y } }) = record { number = (e3 (pos 0) (pos 0)).answered; left = subst (λ (k : IntKind). V.made now k c.in_ok-x.x) (sym ka) (k23.made_still _ _ c.in_ok-x.ensures.walks.answered); right = subst (λ (k : IntKind). V.made now k c.in_ok-y.y) (sym kb) (k3.made_still _ _ c.in_ok-y.ensures.walks.answered) } in
    walks_two (λ x y m r i. and_then (operate G c.args.k f o x y r i) (λ z. gives (side_with z x y))) (pos 0) (pos 0) c.in_ok-x.ensures.walks c.in_ok-y.ensures.walks
    (λ x y. walks_value (λ m z. side_with z x y) (e3 x y) (keeps_none V.serves V.has_key V.made V.shows now) made
    (λ m z before h served hz. record { number = hz; left = subst (λ (k : IntKind). V.shows now m k c.in_ok-x.x x) (sym ka) (k3.shown m _ _ _ h.0); right = subst (λ (k : IntKind). V.shows now m k c.in_ok-y.y y) (sym kb) (k3.shown m _ _ _ h.1) }))
    (λ m x hx. c.in_ok-y.ensures.walks.keeps.shown m _ _ _ hx)

pub right_behind-parted-requires-clause-guard : goal.right_behind-parted-requires-clause-guard
right_behind-parted-requires-clause-guard g t c =
    c.requires.ready.values_made.guard

pub right_behind-right_operand-requires : goal.right_behind-right_operand-requires
right_behind-right_operand-requires g t c κs within =
    let V = g.V.Values in
    let G = g.O.RunSetting.setting c.args.out.now in
    (omega (arith, c.decreases), (search rules, (search rules, (search rules, (c.requires.kinded, record { keys = (ready_keeps c.requires.ready c.in_ok-first.ensures.keeps).keys; values_made = is_made_guarded (V.made c.parted.new.values) G c.args.state.now c.in_ok-first.first (ready_keeps c.requires.ready c.in_ok-first.ensures.keeps).values_made c.in_ok-first.ensures.first })))))

pub right_behind-either-requires-clause-left : goal.right_behind-either-requires-clause-left
right_behind-either-requires-clause-left g t c =
    c.in_ok-right.ensures.walks.keeps.made_still _ _ c.in_ok-first.ensures.second

pub right_behind-either-requires-clause-right : goal.right_behind-either-requires-clause-right
right_behind-either-requires-clause-right g t c =
    c.in_ok-right.ensures.walks.values_made.guard

pub right_behind-choose-requires-clause-test : goal.right_behind-choose-requires-clause-test
right_behind-choose-requires-clause-test g t c =
    let k1 = c.in_ok-first.ensures.keeps in
    let k2 = c.in_ok-right.ensures.walks.keeps in
    let k3 = c.in_ok-end.ensures.keeps in
    k3.made_still _ _ (k2.made_still _ _ (k1.made_still _ _ c.requires.test))

pub right_behind-choose-requires-clause-first : goal.right_behind-choose-requires-clause-first
right_behind-choose-requires-clause-first g t c =
    let k1 = c.in_ok-first.ensures.keeps in
    let k2 = c.in_ok-right.ensures.walks.keeps in
    let k3 = c.in_ok-end.ensures.keeps in
    k3.made_still _ _ c.in_ok-right.ensures.walks.answered

pub right_behind-choose-requires-clause-second : goal.right_behind-choose-requires-clause-second
right_behind-choose-requires-clause-second g t c =
    let k1 = c.in_ok-first.ensures.keeps in
    let k2 = c.in_ok-right.ensures.walks.keeps in
    let k3 = c.in_ok-end.ensures.keeps in
    k3.made_still _ _ (k2.made_still _ _ (k1.made_still _ _ c.requires.other))

pub right_behind-returns-clause-walks : goal.right_behind-returns-clause-walks
right_behind-returns-clause-walks g t c =
    λ d o.
    let V = g.V.Values in
    let G = g.O.RunSetting.setting c.args.out.now in
    let e = view_expression c.args.e.now in
    let k1 = c.in_ok-first.ensures.keeps in
    let k2 = c.in_ok-right.ensures.walks.keeps in
    let k3 = c.in_ok-end.ensures.keeps in
    let k4 = c.in_ok-found.ensures.keeps in
    let k34 = keeps_then V.serves V.has_key V.made V.shows c.right_operand.new.values c.either.new.values c.choose.new.self k3 k4 in
    walks_branch d o c.in_ok-first.first c.in_ok-end.end k1 c.in_ok-right.ensures.walks k34 c.in_ok-found.ensures.makes (k4.made_still _ _ c.in_ok-end.ensures.makes) (λ m served h. tt)
    (λ m s served h at. (c.in_ok-first.ensures.value m s.alive d served at.guard h.0).0)
    (λ m s u served h at ended.
    let second = (c.in_ok-first.ensures.value m s.alive d served at.guard h.0).1 in
    k4.shown m _ _ _ (c.in_ok-end.ensures.value m (s.alive && not d) u.alive (k2.served m (k1.served m served)) (k2.shown m _ _ _ second) ended))
    (λ m x served h hx.
    let test = k3.shown m _ _ _ (k2.shown m _ _ _ (k1.shown m _ _ _ h.0)) in
    let other = k3.shown m _ _ _ (k2.shown m _ _ _ (k1.shown m _ _ _ h.1)) in
    c.in_ok-found.ensures.value m d x o (k3.served m (k2.served m (k1.served m served))) test (k3.shown m _ _ _ hx) other)

pub choice-parted-requires-clause-guard : goal.choice-parted-requires-clause-guard
choice-parted-requires-clause-guard g t c =
    c.requires.ready.values_made.guard

pub choice-branch-out-requires : goal.choice-branch-out-requires
choice-branch-out-requires g t c κs within =
    let V = g.V.Values in
    let G = g.O.RunSetting.setting c.args.out.now in
    (omega (arith, c.decreases), (search rules, (search rules, (search rules, (c.requires.first, record { keys = (ready_keeps c.requires.ready c.in_ok-first.ensures.keeps).keys; values_made = is_made_guarded (V.made c.parted.new.values) G c.args.state.now c.in_ok-first.first (ready_keeps c.requires.ready c.in_ok-first.ensures.keeps).values_made c.in_ok-first.ensures.first })))))

pub choice-either-requires-clause-left : goal.choice-either-requires-clause-left
choice-either-requires-clause-left g t c =
    c.in_ok-y.ensures.walks.keeps.made_still _ _ c.in_ok-x.ensures.walks.values_made.guard

pub choice-either-requires-clause-right : goal.choice-either-requires-clause-right
choice-either-requires-clause-right g t c =
    c.in_ok-y.ensures.walks.values_made.guard

pub choice-choose-requires-clause-test : goal.choice-choose-requires-clause-test
choice-choose-requires-clause-test g t c =
    let k1 = c.in_ok-first.ensures.keeps in
    let k2 = c.in_ok-x.ensures.walks.keeps in
    let k3 = c.in_ok-y.ensures.walks.keeps in
    let k4 = c.in_ok-end.ensures.keeps in
    k4.made_still _ _ (k3.made_still _ _ (k2.made_still _ _ (k1.made_still _ _ c.requires.test)))

pub choice-choose-requires-clause-first : goal.choice-choose-requires-clause-first
choice-choose-requires-clause-first g t c =
    let V = g.V.Values in
    let k1 = c.in_ok-first.ensures.keeps in
    let k2 = c.in_ok-x.ensures.walks.keeps in
    let k3 = c.in_ok-y.ensures.walks.keeps in
    let k4 = c.in_ok-end.ensures.keeps in
    subst (λ (k : IntKind). V.made c.either.new.values k c.in_ok-x.x) (sym c.kind_at.ensures) (k4.made_still _ _ (k3.made_still _ _ c.in_ok-x.ensures.walks.answered))

pub choice-choose-requires-clause-second : goal.choice-choose-requires-clause-second
choice-choose-requires-clause-second g t c =
    let V = g.V.Values in
    let k1 = c.in_ok-first.ensures.keeps in
    let k2 = c.in_ok-x.ensures.walks.keeps in
    let k3 = c.in_ok-y.ensures.walks.keeps in
    let k4 = c.in_ok-end.ensures.keeps in
    subst (λ (k : IntKind). V.made c.either.new.values k c.in_ok-y.y) (sym c.kind_at.ensures) (k4.made_still _ _ c.in_ok-y.ensures.walks.answered)

pub choice-returns-clause-walks : goal.choice-returns-clause-walks
choice-returns-clause-walks g t c =
    λ d.
    let V = g.V.Values in
    let G = g.O.RunSetting.setting c.args.out.now in
    let k1 = c.in_ok-first.ensures.keeps in
    let k2 = c.in_ok-x.ensures.walks.keeps in
    let k3 = c.in_ok-y.ensures.walks.keeps in
    let k4 = c.in_ok-end.ensures.keeps in
    let k5 = c.in_ok-found.ensures.keeps in
    let k45 = keeps_then V.serves V.has_key V.made V.shows c.branch-out-2.new.values c.either.new.values c.choose.new.self k4 k5 in
    let v = c.in_ok-found.found in
    let now = c.choose.new.self in
    let to = c.kind_at.ensures in
    walks_either d c.in_ok-first.first c.in_ok-first.second c.in_ok-end.end k1 c.in_ok-x.ensures.walks c.in_ok-y.ensures.walks k45 (subst (λ (k : IntKind). V.made now k v) to c.in_ok-found.ensures.makes) (k5.made_still _ _ c.in_ok-end.ensures.makes)
    (λ m served h. tt) (λ m served h. tt)
    (λ m s served h at. (c.in_ok-first.ensures.value m s.alive d served at.guard h).0) (λ m s served h at. (c.in_ok-first.ensures.value m s.alive d served at.guard h).1)
    (λ m t u served ht hu. k5.shown m _ _ _ (c.in_ok-end.ensures.value m t.alive u.alive (k3.served m (k2.served m (k1.served m served))) (k3.shown m _ _ _ ht) hu))
    (λ m x y served h hx hy.
    let test = k4.shown m _ _ _ (k3.shown m _ _ _ (k2.shown m _ _ _ (k1.shown m _ _ _ h))) in
    let x4 = subst (λ (k : IntKind). V.shows c.either.new.values m k c.in_ok-x.x x) (sym to) (k4.shown m _ _ _ (k3.shown m _ _ _ hx)) in
    let y4 = subst (λ (k : IntKind). V.shows c.either.new.values m k c.in_ok-y.y y) (sym to) (k4.shown m _ _ _ hy) in
    subst (λ (k : IntKind). V.shows now m k v (if d then x else y)) to (c.in_ok-found.ensures.value m d x y (k4.served m (k3.served m (k2.served m (k1.served m served)))) test x4 y4))

pub and_also-tested-requires : goal.and_also-tested-requires
and_also-tested-requires g t c κs within =
    (omega (arith, c.decreases), (search rules, (search rules, (search rules, (c.requires.first, c.requires.ready)))))

pub or_else-tested-requires : goal.or_else-tested-requires
or_else-tested-requires g t c κs within =
    (omega (arith, c.decreases), (search rules, (search rules, (search rules, (c.requires.first, c.requires.ready)))))

pub and_also-right_behind-requires : goal.and_also-right_behind-requires
and_also-right_behind-requires g t c κs within =
    (omega (arith, c.decreases), (search rules, (search rules, (search rules, (c.in_ok-none.ensures.keeps.made_still _ _ c.in_ok-test.ensures.walks.answered, (c.in_ok-none.ensures.makes, (c.requires.second, ready_keeps (ready_walked c.requires.ready c.in_ok-test.ensures.walks) c.in_ok-none.ensures.keeps)))))))

pub and_also-returns-clause-walks : goal.and_also-returns-clause-walks
and_also-returns-clause-walks g t c =
    let V = g.V.Values in
    let G = g.O.RunSetting.setting c.args.out.now in
    let I = g.O.WalkSetting.under c.args.out.now in
    let a = view_expression c.args.a.now in
    let b = view_expression c.args.b.now in
    let k2 = c.in_ok-none.ensures.keeps in
    walks_then (λ x m r i. if truth x then right_operand (node_of b) (meaning_in G (I m) b) r i else gives (pos 0) r i) (pos 0) c.in_ok-test.ensures.walks
    (λ x. walks_behind {Q = λ m. V.shows c.tested.new.values m Int c.in_ok-test.test (bit (truth x))} k2 (c.in_ok-found.ensures.walks (truth x) (pos 0)) (λ m served h. (k2.shown m _ _ _ h, c.in_ok-none.ensures.value m served))) (λ m x served h hx. hx)

pub or_else-opposite-requires : goal.or_else-opposite-requires
or_else-opposite-requires g t c =
    c.in_ok-one.ensures.keeps.made_still _ _ c.in_ok-test.ensures.walks.answered

pub or_else-right_behind-requires : goal.or_else-right_behind-requires
or_else-right_behind-requires g t c κs within =
    let k2 = c.in_ok-one.ensures.keeps in
    let k3 = c.in_ok-opposite.ensures.keeps in
    (omega (arith, c.decreases), (search rules, (search rules, (search rules, (c.in_ok-opposite.ensures.makes, (k3.made_still _ _ c.in_ok-one.ensures.makes, (c.requires.second, ready_keeps (ready_keeps (ready_walked c.requires.ready c.in_ok-test.ensures.walks) k2) k3)))))))

pub or_else-returns-clause-walks : goal.or_else-returns-clause-walks
or_else-returns-clause-walks g t c =
    let V = g.V.Values in
    let G = g.O.RunSetting.setting c.args.out.now in
    let I = g.O.WalkSetting.under c.args.out.now in
    let a = view_expression c.args.a.now in
    let b = view_expression c.args.b.now in
    let k2 = c.in_ok-one.ensures.keeps in
    let k3 = c.in_ok-opposite.ensures.keeps in
    let k23 = keeps_then V.serves V.has_key V.made V.shows c.tested.new.values c.constant.new.self c.opposite.new.self k2 k3 in
    walks_then (λ x m r i. if truth x then gives (pos 1) r i else right_operand (node_of b) (meaning_in G (I m) b) r i) (pos 0) c.in_ok-test.ensures.walks
    (λ x. walks_as (λ m r i. if truth x then gives (pos 1) r i else right_operand (node_of b) (meaning_in G (I m) b) r i)
    (walks_behind {Q = λ m. V.shows c.tested.new.values m Int c.in_ok-test.test (bit (truth x))} k23 (c.in_ok-found.ensures.walks (not (truth x)) (pos 1))
    (λ m served h. (c.in_ok-opposite.ensures.value m (truth x) (k2.served m served) (k2.shown m _ _ _ h), k3.shown m _ _ _ (c.in_ok-one.ensures.value m served))))
    (λ m r i. if_opposite (truth x) (right_operand (node_of b) (meaning_in G (I m) b) r i) (gives (pos 1) r i))) (λ m x served h hx. hx)

pub indexed-place-requires : goal.indexed-place-requires
indexed-place-requires g t c κs within =
    (omega (arith, c.decreases), (search rules, (search rules, (search rules, (c.requires.kinded, c.requires.ready)))))

pub indexed-value-requires : goal.indexed-value-requires
indexed-value-requires g t c κs within =
    (omega (arith, c.decreases), (search rules, (search rules, (search rules, (c.requires.kinded, c.requires.ready)))))

pub indexed-returns-in_ok-address-clause-walks : goal.indexed-returns-in_ok-address-clause-walks
indexed-returns-in_ok-address-clause-walks g t c =
    let V = g.V.Values in
    let G = g.O.RunSetting.setting c.args.out.now in
    let I = g.O.WalkSetting.under c.args.out.now in
    let e = view_expression c.args.e.now in
    let at : c.node_of.result ≡ node_of e = c.node_of.ensures in
    let t1 = type_in G.typing e in
    let array : is_array t1 ≡ true = ap (λ i. is_array (G.typing.type_at i)) (sym at) ∙ sym c.is_array_at.ensures ∙ c.if-is_array_at.true in
    let kind = sym (array_kind t1 array) in
    let v = c.in_ok-address.address in
    let now = c.place.new.values in
    let acc = c.args.accessed in
    walks_marked (walks_as (λ m. indexed_from t1 acc (meaning_in G (I m) e))
    (walks_value (λ m x. pos x) c.in_ok-address.ensures.walks (keeps_none V.serves V.has_key V.made V.shows now) (subst (λ (k : IntKind). V.made now k v) kind c.in_ok-address.ensures.walks.answered)
    (λ m x before h served hx. subst (λ (k : IntKind). V.shows now m k v (pos x)) kind hx))
    (λ m r i. indexed_array t1 array acc (meaning_in G (I m) e) r i)) (indexed_array_events t1 array acc (expression_events G e))

pub stepped_value-place-requires : goal.stepped_value-place-requires
stepped_value-place-requires g t c κs within =
    (omega (arith, c.decreases), (search rules, (search rules, (search rules, (c.requires.kinded, c.requires.ready)))))

pub stepped_value-stepped_number-requires-clause-keys : goal.stepped_value-stepped_number-requires-clause-keys
stepped_value-stepped_number-requires-clause-keys g t c =
    (ready_walked c.requires.ready c.in_ok-_place.ensures.walks).keys

pub stepped_value-stepped_number-requires-clause-made : goal.stepped_value-stepped_number-requires-clause-made
stepped_value-stepped_number-requires-clause-made g t c =
    c.in_ok-_place.ensures.walks.values_made

pub stepped_value-returns-clause-walks : goal.stepped_value-returns-clause-walks
stepped_value-returns-clause-walks g t c =
    let V = g.V.Values in
    let G = g.O.RunSetting.setting c.args.out.now in
    let I = g.O.WalkSetting.under c.args.out.now in
    let e = view_expression c.args.e.now in
    let k = c.args.k in
    let op = c.args.op in
    let n = c.in_ok-found.ensures in
    walks_then {Q = λ x m. Unit {0}} (λ x m. step_end G (path_world (I m)) k op e x) 0 c.in_ok-_place.ensures.walks
    (λ x. record { answered = n.makes; values_made = n.made; events = n.events; leads = λ m s served h at. n.follows x m s served at; keeps = n.keeps }) (λ m x served h hx. tt)

pub assigned_value-value-requires : goal.assigned_value-value-requires
assigned_value-value-requires g t c κs within =
    (omega (arith, c.decreases), (search rules, (search rules, (search rules, (c.requires.second, c.requires.ready)))))

pub assigned_value-place-requires : goal.assigned_value-place-requires
assigned_value-place-requires g t c κs within =
    (omega (arith, c.decreases), (search rules, (search rules, (search rules, (c.requires.first, ready_walked c.requires.ready c.in_ok-value.ensures.walks)))))

pub assigned_value-assigned_number-requires-clause-number : goal.assigned_value-assigned_number-requires-clause-number
assigned_value-assigned_number-requires-clause-number g t c =
    let V = g.V.Values in
    let G = g.O.RunSetting.setting c.args.out.now in
    let a = view_expression c.args.a.now in
    let b = view_expression c.args.b.now in
    let kind : c.kind_at-kind.result ≡ number_kind (type_in G.typing b) = c.kind_at-kind.ensures ∙ ap (λ i. number_kind (G.typing.type_at i)) c.node_of.ensures in
    subst (λ (k : IntKind). V.made c.place.new.values k c.in_ok-value.value) (sym kind) (c.in_ok-_place.ensures.walks.keeps.made_still _ _ c.in_ok-value.ensures.walks.answered)

pub assigned_value-assigned_number-requires-clause-made : goal.assigned_value-assigned_number-requires-clause-made
assigned_value-assigned_number-requires-clause-made g t c =
    c.in_ok-_place.ensures.walks.values_made

pub assigned_value-compound_number-requires-clause-number : goal.assigned_value-compound_number-requires-clause-number
assigned_value-compound_number-requires-clause-number g t c =
    let V = g.V.Values in
    let G = g.O.RunSetting.setting c.args.out.now in
    let a = view_expression c.args.a.now in
    let b = view_expression c.args.b.now in
    let kind : c.kind_at-kind.result ≡ number_kind (type_in G.typing b) = c.kind_at-kind.ensures ∙ ap (λ i. number_kind (G.typing.type_at i)) c.node_of.ensures in
    subst (λ (k : IntKind). V.made c.place.new.values k c.in_ok-value.value) (sym kind) (c.in_ok-_place.ensures.walks.keeps.made_still _ _ c.in_ok-value.ensures.walks.answered)

pub assigned_value-compound_number-requires-clause-made : goal.assigned_value-compound_number-requires-clause-made
assigned_value-compound_number-requires-clause-made g t c =
    c.in_ok-_place.ensures.walks.values_made

pub assigned_value-compound_number-requires-clause-keys : goal.assigned_value-compound_number-requires-clause-keys
assigned_value-compound_number-requires-clause-keys g t c =
    (ready_walked (ready_walked c.requires.ready c.in_ok-value.ensures.walks) c.in_ok-_place.ensures.walks).keys

pub assigned_value-compound_number-requires-clause-shifts : goal.assigned_value-compound_number-requires-clause-shifts
assigned_value-compound_number-requires-clause-shifts g t c =
    let V = g.V.Values in
    let G = g.O.RunSetting.setting c.args.out.now in
    let a = view_expression c.args.a.now in
    let b = view_expression c.args.b.now in
    let how = operator_shown c.in-Some.how in
    let ta = type_in G.typing a in
    let tb = type_in G.typing b in
    let o = operation_of G.typing how ta tb in
    let same : operation_shown c.operation-operation.result ≡ o = c.operation-operation.ensures ∙ ap (λ i. operation_of G.typing how (G.typing.type_at i) (G.typing.type_at c.node_of-in-Some-2.result)) c.node_of-in-Some.ensures ∙ ap (λ i. operation_of G.typing how ta (G.typing.type_at i)) c.node_of-in-Some-2.ensures in
    rw same (operation_shifts G.typing how ta tb)

pub assigned_value-returns-in_ok-found-in-None-clause-walks : goal.assigned_value-returns-in_ok-found-in-None-clause-walks
assigned_value-returns-in_ok-found-in-None-clause-walks g t c =
    let V = g.V.Values in
    let G = g.O.RunSetting.setting c.args.out.now in
    let I = g.O.WalkSetting.under c.args.out.now in
    let a = view_expression c.args.a.now in
    let b = view_expression c.args.b.now in
    let kind : c.kind_at-kind.result ≡ number_kind (type_in G.typing b) = c.kind_at-kind.ensures ∙ ap (λ i. number_kind (G.typing.type_at i)) c.node_of.ensures in
    let none : None ≡ assigned_operator c.args.op = sym (ap (option_map operator_shown) c.in-None.is) ∙ c.assigned_operator.ensures in
    let n = c.in_ok-found-in-None.ensures in
    let k2 = c.in_ok-_place.ensures.walks.keeps in
    rw (sym none)
    (walks_marked (walks_two (λ x y m. plain_end G (path_world (I m)) a x y) (pos 0) 0 c.in_ok-value.ensures.walks c.in_ok-_place.ensures.walks
    (λ x y. walks_follows (λ m. plain_end G (path_world (I m)) a x y) n.makes n.made n.events (λ m s served h at. n.follows x y m s (served, subst (λ (k : IntKind). V.shows c.place.new.values m k c.in_ok-value.value x) (sym kind) h.0) at) n.keeps)
    (λ m x hx. k2.shown m _ _ _ hx)) (ap (λ z. (expression_events G b).value ++ z) (append-nil ((expression_events G a).place true))))

pub assigned_value-returns-in_ok-found-in-Some-clause-walks : goal.assigned_value-returns-in_ok-found-in-Some-clause-walks
assigned_value-returns-in_ok-found-in-Some-clause-walks g t c =
    let V = g.V.Values in
    let G = g.O.RunSetting.setting c.args.out.now in
    let I = g.O.WalkSetting.under c.args.out.now in
    let a = view_expression c.args.a.now in
    let b = view_expression c.args.b.now in
    let kind : c.kind_at-kind.result ≡ number_kind (type_in G.typing b) = c.kind_at-kind.ensures ∙ ap (λ i. number_kind (G.typing.type_at i)) c.node_of.ensures in
    let how = operator_shown c.in-Some.how in
    let ta = type_in G.typing a in
    let tb = type_in G.typing b in
    let o = operation_of G.typing how ta tb in
    let same : operation_shown c.operation-operation.result ≡ o = c.operation-operation.ensures ∙ ap (λ i. operation_of G.typing how (G.typing.type_at i) (G.typing.type_at c.node_of-in-Some-2.result)) c.node_of-in-Some.ensures ∙ ap (λ i. operation_of G.typing how ta (G.typing.type_at i)) c.node_of-in-Some-2.ensures in
    let some : Some how ≡ assigned_operator c.args.op = sym (ap (option_map operator_shown) c.in-Some.is) ∙ c.assigned_operator.ensures in
    let f = s.assign c.args.op a b in
    let asked = ap (λ u. assigned_tests G.typing u ta tb) (sym some) ∙ ap operation_tests (sym same) in
    let n = c.in_ok-found-in-Some.ensures in
    let k2 = c.in_ok-_place.ensures.walks.keeps in
    rw (sym some)
    (walks_two (λ x y m. compound_end G (path_world (I m)) c.args.k f o a x y) (pos 0) 0 c.in_ok-value.ensures.walks c.in_ok-_place.ensures.walks
    (λ x y. walks_as (λ m. compound_end G (path_world (I m)) c.args.k f o a x y) (record { answered = n.makes; values_made = n.made; events = n.events f asked; leads = λ m s served h at. n.follows f x y asked m s (served, subst (λ (k : IntKind). V.shows c.place.new.values m k c.in_ok-value.value x) (sym kind) h.0) at; keeps = n.keeps })
    (λ m r i. ap (λ (u : Operation). compound_end G (path_world (I m)) c.args.k f u a x y r i) same))
    (λ m x hx. k2.shown m _ _ _ hx))

pub arguments-loop-e-init : goal.arguments-loop-e-init
arguments-loop-e-init g t c =
    let V = g.V.Values in
    let G = g.O.RunSetting.setting c.args.out.now in
    let k0 = c.in_ok-found.ensures.keeps in
    let new = c.no_arguments.new.values in
    (passed_none (expressions (map view_expression c.args.list.now)) c.in_ok-found.ensures.makes (λ m served. c.in_ok-found.ensures.shown m (k0.served_before m served)) (is_made_still (V.made c.args.values.now) (V.made new) k0.made_still G c.args.state.now c.requires.ready.values_made) (keeps_none V.serves V.has_key V.made V.shows new), record { so_far = 0; costs = costs_none; completes = omega arith })

pub arguments-value-requires : goal.arguments-value-requires
arguments-value-requires g t c κs within =
    let G = g.O.RunSetting.setting c.args.out.now in
    let so_far = c.loop-e.invariant.0 in
    let k0 = c.in_ok-found.ensures.keeps in
    let kinded = kinded_argument G c.args.list.now c.loop-e.e-index c.e-item.result c.loop-e-test.true c.e-item.is c.requires.kinded in
    let below = element_below the_size c.args.list.now c.loop-e.e-index c.e-item.result c.loop-e-test.true c.e-item.is in
    (omega (arith, below, c.decreases), (search rules, (search rules, (search rules, (kinded, record { keys = λ key j h. so_far.keeps.keys key j (k0.keys key j (c.requires.ready.keys key j h)); values_made = so_far.values_made })))))

pub arguments-passed-requires-clause-arguments : goal.arguments-passed-requires-clause-arguments
arguments-passed-requires-clause-arguments g t c =
    let V = g.V.Values in
    let so_far = c.loop-e.invariant.0 in
    arguments_made_still (V.made c.loop-e.values) (V.made c.value.new.values) (option_map library_shown c.args.library) c.loop-e.found c.in_ok-value.ensures.walks.keeps.made_still so_far.answered

pub arguments-passed-requires-clause-argument : goal.arguments-passed-requires-clause-argument
arguments-passed-requires-clause-argument g t c =
    let V = g.V.Values in
    let G = g.O.RunSetting.setting c.args.out.now in
    let e = view_expression c.e-item.result in
    let kind : c.kind_at-kind.result ≡ number_kind (type_in G.typing e) = c.kind_at-kind.ensures ∙ ap (λ i. number_kind (G.typing.type_at i)) c.node_of.ensures in
    subst (λ (k : IntKind). V.made c.value.new.values k c.in_ok-value.value) (sym kind) c.in_ok-value.ensures.walks.answered

pub arguments-loop-e-preserved : goal.arguments-loop-e-preserved
arguments-loop-e-preserved g t c =
    let V = g.V.Values in
    let G = g.O.RunSetting.setting c.args.out.now in
    let so_far = c.loop-e.invariant.0 in
    let e = view_expression c.e-item.result in
    let kind : c.kind_at-kind.result ≡ number_kind (type_in G.typing e) = c.kind_at-kind.ensures ∙ ap (λ i. number_kind (G.typing.type_at i)) c.node_of.ensures in
    let list = c.args.list.now in
    let i = c.loop-e.e-index in
    let step = next_of list i c.e-item.result c.loop-e-test.true c.e-item.is in
    let es = expressions (map view_expression (drop (i + 1) list)) in
    let v = c.in_ok-value.value in
    let p : Passed V.serves V.has_key V.made V.shows G (g.O.WalkSetting.under c.args.out.now) (option_map library_shown c.args.library) c.loop-e.found (expressions (map view_expression list)) (then_expression e es) c.no_arguments.new.values c.loop-e.values c.args.state.now c.loop-e.state = rw step at so_far in
    let l = option_map library_shown c.args.library in
    let spent = c.loop-e.invariant.1 in
    let rest : arguments_spent (g.O.RunSetting.setting c.args.out.now) l (expressions (map view_expression (drop i list))) ≡ arguments_spent (g.O.RunSetting.setting c.args.out.now) l (then_expression e es) = ap (λ zs. arguments_spent (g.O.RunSetting.setting c.args.out.now) l (expressions (map view_expression zs))) step in (
      passed_more e es p c.in_ok-value.ensures.walks c.in_ok-more.ensures.makes
          (λ m ts xs x served takes h hx. c.in_ok-more.ensures.shown m ts xs x served takes h (subst (λ (k : IntKind). V.shows c.value.new.values m k v x) (sym kind) hx))
          (λ m xs h. arguments_shown (V.shows c.loop-e.values m) (V.shows c.value.new.values m) (c.in_ok-value.ensures.walks.keeps.shown m) (option_map library_shown c.args.library) c.loop-e.found xs h) c.in_ok-more.ensures.keeps,
      record { so_far = _; costs = costs_then spent.costs (costs_more _ c.in_ok-value.ensures.cost c.in_ok-more.ensures.charge); completes = one_completes spent.so_far _ _ _ (ap (λ z. spent.so_far + z) (sym rest) ∙ spent.completes) },
    )

pub arguments-returns-clause-walks : goal.arguments-returns-clause-walks
arguments-returns-clause-walks g t c =
    let V = g.V.Values in
    let G = g.O.RunSetting.setting c.args.out.now in
    let so_far = c.loop-e.invariant.0 in
    let list = c.args.list.now in
    let rest = expressions (map view_expression (drop c.loop-e.e-index list)) in
    let none : drop c.loop-e.e-index list ≡ [] = drop_all c.loop-e.e-index list (omega arith) in
    let p : Passed V.serves V.has_key V.made V.shows G (g.O.WalkSetting.under c.args.out.now) (option_map library_shown c.args.library) c.loop-e.found (expressions (map view_expression list)) rest c.no_arguments.new.values c.loop-e.values c.args.state.now c.loop-e.state = so_far in
    λ ts takes. walks_behind c.in_ok-found.ensures.keeps (passed_all rest (ap (λ z. expressions (map view_expression z)) none) p ts takes) (λ m served h. tt)

pub call_value-arguments-requires : goal.call_value-arguments-requires
call_value-arguments-requires g t c κs within =
    (omega (arith, c.decreases), (search rules, (search rules, (search rules, (c.requires.kinded, c.requires.ready)))))

pub call_value-called_number-requires-clause-library : goal.call_value-called_number-requires-clause-library
call_value-called_number-requires-clause-library g t c =
    let G = g.O.RunSetting.setting c.args.out.now in
    c.library-library.ensures

pub call_value-called_number-requires-clause-arguments : goal.call_value-called_number-requires-clause-arguments
call_value-called_number-requires-clause-arguments g t c =
    let G = g.O.RunSetting.setting c.args.out.now in
    let callee = view_expression c.args.callee.now in
    let l = option_map library_shown c.library-library.result in
    let ts = parameters_in (called_signature G.typing callee) in
    let takes : Takes l ts = subst (λ (o : Option Library). Takes o ts) (sym c.library-library.ensures) (takes_called G.typing callee) in
    let p = c.in_ok-found.ensures.walks ts takes in
    p.answered

pub call_value-called_number-requires-clause-keys : goal.call_value-called_number-requires-clause-keys
call_value-called_number-requires-clause-keys g t c =
    let G = g.O.RunSetting.setting c.args.out.now in
    let callee = view_expression c.args.callee.now in
    let l = option_map library_shown c.library-library.result in
    let ts = parameters_in (called_signature G.typing callee) in
    let takes : Takes l ts = subst (λ (o : Option Library). Takes o ts) (sym c.library-library.ensures) (takes_called G.typing callee) in
    let p = c.in_ok-found.ensures.walks ts takes in
    λ key j h. p.keeps.keys key j (c.requires.ready.keys key j h)

pub call_value-called_number-requires-clause-made : goal.call_value-called_number-requires-clause-made
call_value-called_number-requires-clause-made g t c =
    let G = g.O.RunSetting.setting c.args.out.now in
    let callee = view_expression c.args.callee.now in
    let l = option_map library_shown c.library-library.result in
    let ts = parameters_in (called_signature G.typing callee) in
    let takes : Takes l ts = subst (λ (o : Option Library). Takes o ts) (sym c.library-library.ensures) (takes_called G.typing callee) in
    let p = c.in_ok-found.ensures.walks ts takes in
    p.values_made

pub call_value-returns-clause-walks : goal.call_value-returns-clause-walks
call_value-returns-clause-walks g t c =
    let V = g.V.Values in
    let G = g.O.RunSetting.setting c.args.out.now in
    let I = g.O.WalkSetting.under c.args.out.now in
    let callee = view_expression c.args.callee.now in
    let l = option_map library_shown c.library-library.result in
    let ts = parameters_in (called_signature G.typing callee) in
    let takes : Takes l ts = subst (λ (o : Option Library). Takes o ts) (sym c.library-library.ensures) (takes_called G.typing callee) in
    let p = c.in_ok-found.ensures.walks ts takes in
    let es = expressions (map view_expression c.args.list.now) in
    let n = c.in_ok-number.ensures in
    walks_one (λ xs m. call_end G (path_world (I m)) c.args.k callee es xs) [] p
    (λ xs. record { answered = n.makes; values_made = n.made; events = n.events es; leads = λ m s served h at. n.follows es xs m s (served, h) at; keeps = n.keeps })

pub value-returns-in-Cast-clause-walks : goal.value-returns-in-Cast-clause-walks
value-returns-in-Cast-clause-walks g t c =
    rw (at_cast c.args.e.now c.in-Cast.field-0 c.in-Cast.x c.in-Cast.is, ← c.get-in-Cast.ensures) c.cast.ensures.walks

pub value-returns-in_ok-found-in-Choice-clause-walks : goal.value-returns-in_ok-found-in-Choice-clause-walks
value-returns-in_ok-found-in-Choice-clause-walks g t c =
    let G = g.O.RunSetting.setting c.args.out.now in
    let I = g.O.WalkSetting.under c.args.out.now in
    let a = view_expression c.get-in-Choice.result.now in
    let b = view_expression c.get-in-Choice-2.result.now in
    let d = view_expression c.get-in-Choice-3.result.now in
    let t1 = G.typing.type_at c.args.e.now.node.number in
    rw (at_choice c.args.e.now c.in-Choice.a c.in-Choice.b c.in-Choice.c c.in-Choice.is, ← c.get-in-Choice.ensures, ← c.get-in-Choice-2.ensures, ← c.get-in-Choice-3.ensures)
    (walks_then (λ x m r i. if truth x then branch_value t1 (node_of b) (meaning_in G (I m) b) r i else branch_value t1 (node_of d) (meaning_in G (I m) d) r i) (pos 0) c.in_ok-test-in-Choice.ensures.walks
    (λ x. c.in_ok-found-in-Choice.ensures.walks (truth x)) (λ m x served h hx. hx))

pub value-returns-in-Binary-clause-walks : goal.value-returns-in-Binary-clause-walks
value-returns-in-Binary-clause-walks g t c =
    rw (at_binary c.args.e.now c.in-Binary.op c.in-Binary.a c.in-Binary.b c.in-Binary.is, ← c.get-in-Binary.ensures, ← c.get-in-Binary-2.ensures) c.binary_value.ensures.walks

pub value-returns-in-Assign-clause-walks : goal.value-returns-in-Assign-clause-walks
value-returns-in-Assign-clause-walks g t c =
    rw (at_assign c.args.e.now c.in-Assign.op c.in-Assign.a c.in-Assign.b c.in-Assign.is, ← c.get-in-Assign.ensures, ← c.get-in-Assign-2.ensures) c.assigned_value.ensures.walks

pub value-returns-in-Unary-clause-walks : goal.value-returns-in-Unary-clause-walks
value-returns-in-Unary-clause-walks g t c =
    rw (at_unary c.args.e.now c.in-Unary.op c.in-Unary.x c.in-Unary.is, ← c.get-in-Unary.ensures) c.unary_value.ensures.walks

pub value-returns-in-Step-clause-walks : goal.value-returns-in-Step-clause-walks
value-returns-in-Step-clause-walks g t c =
    rw (at_step c.args.e.now c.in-Step.op c.in-Step.x c.in-Step.is, ← c.get-in-Step.ensures) c.stepped_value.ensures.walks

pub value-returns-in-Call-clause-walks : goal.value-returns-in-Call-clause-walks
value-returns-in-Call-clause-walks g t c =
    rw (at_call c.args.e.now c.in-Call.f c.in-Call.list c.in-Call.is, ← c.get-in-Call.ensures, ← c.as_slice.ensures) c.call_value.ensures.walks

pub place-returns-in_ok-found-in-Name-clause-walks : goal.place-returns-in_ok-found-in-Name-clause-walks
place-returns-in_ok-found-in-Name-clause-walks g t c =
    rw (at_name c.args.e.now c.in-Name.name c.in-Name.is) (c.in_ok-found-in-Name.ensures.walks c.args.accessed)

pub place-returns-in_ok-found-in-Arrow-clause-walks : goal.place-returns-in_ok-found-in-Arrow-clause-walks
place-returns-in_ok-found-in-Arrow-clause-walks g t c =
    let G = g.O.RunSetting.setting c.args.out.now in
    let e = view_expression c.get-x.result.now in
    let f = s.arrow e c.in-Arrow.name in
    let k = c.args.e.now.node.number in
    rw (at_arrow c.args.e.now c.in-Arrow.x c.in-Arrow.name c.in-Arrow.is, ← c.get-x.ensures)
    (walks_one (λ x m r i. Went (to_address (pos (to_address x + G.typing.offset_of (pointed (type_in G.typing e)) c.in-Arrow.name))) r i (breaks G k c.args.accessed f x (pos 0) (pos 0))) (pos 0) c.in_ok-n-in-Arrow.ensures.walks (λ x. c.in_ok-found-in-Arrow.ensures.walks x))

pub place-returns-in-Dot-clause-walks : goal.place-returns-in-Dot-clause-walks
place-returns-in-Dot-clause-walks g t c =
    rw (at_dot c.args.e.now c.in-Dot.x c.in-Dot.name c.in-Dot.is, ← c.get-in-Dot.ensures) c.member.ensures.walks

pub place-returns-in-Index-clause-walks : goal.place-returns-in-Index-clause-walks
place-returns-in-Index-clause-walks g t c =
    rw (at_index c.args.e.now c.in-Index.a c.in-Index.b c.in-Index.is, ← c.get-in-Index.ensures, ← c.get-in-Index-2.ensures) c.index_place.ensures.walks

pub place-returns-in-Unary-clause-walks : goal.place-returns-in-Unary-clause-walks
place-returns-in-Unary-clause-walks g t c =
    rw (at_unary c.args.e.now c.in-Unary.op c.in-Unary.x c.in-Unary.is, ← c.get-in-Unary.ensures) c.unary_place.ensures.walks

pub binary_value-returns-in-Operates-Comparing-clause-walks : goal.binary_value-returns-in-Operates-Comparing-clause-walks
binary_value-returns-in-Operates-Comparing-clause-walks g t c =
    let V = g.V.Values in
    let G = g.O.RunSetting.setting c.args.out.now in
    let a = view_expression c.args.a.now in
    let b = view_expression c.args.b.now in
    let sort : sort_of c.args.op ≡ operates (comparing c.in-Operates-Comparing.how) = sym c.sort_of.ensures ∙ ap sort_shown c.in-Operates-Comparing.is ∙ ap (λ u. operates (operator_shown u)) c.in-Operates-Comparing.field-0-is in
    let kind : number_kind (G.typing.type_at c.args.k) ≡ Int = subst (λ (u : BinarySort). BinaryHasKind G.typing c.args.k u a b) sort c.requires.kind in
    rw (sort, kind) c.compared_value.ensures.walks

pub binary_value-returns-in_ok-found-in-Operates-Arithmetic-clause-walks : goal.binary_value-returns-in_ok-found-in-Operates-Arithmetic-clause-walks
binary_value-returns-in_ok-found-in-Operates-Arithmetic-clause-walks g t c =
    let V = g.V.Values in
    let G = g.O.RunSetting.setting c.args.out.now in
    let a = view_expression c.args.a.now in
    let b = view_expression c.args.b.now in
    let sort : sort_of c.args.op ≡ operates (arithmetic c.in-Operates-Arithmetic.how) = sym c.sort_of.ensures ∙ ap sort_shown c.in-Operates-Arithmetic.is ∙ ap (λ u. operates (operator_shown u)) c.in-Operates-Arithmetic.field-0-is in
    let kind : number_kind (G.typing.type_at c.args.k) ≡ operation_kind (operation_of G.typing (arithmetic c.in-Operates-Arithmetic.how) (type_in G.typing a) (type_in G.typing b)) = subst (λ (u : BinarySort). BinaryHasKind G.typing c.args.k u a b) sort c.requires.kind in
    rw (sort, kind) c.in_ok-found-in-Operates-Arithmetic.ensures.value

pub binary_sides-returns-in-Operates-Arithmetic-clause-walks : goal.binary_sides-returns-in-Operates-Arithmetic-clause-walks
binary_sides-returns-in-Operates-Arithmetic-clause-walks g t c =
    let V = g.V.Values in
    let G = g.O.RunSetting.setting c.args.out.now in
    let a = view_expression c.args.a.now in
    let b = view_expression c.args.b.now in
    let sort : sort_of c.args.op ≡ operates (arithmetic c.in-Operates-Arithmetic.how) = sym c.sort_of.ensures ∙ ap sort_shown c.in-Operates-Arithmetic.is ∙ ap (λ u. operates (operator_shown u)) c.in-Operates-Arithmetic.field-0-is in
    let kind : number_kind (G.typing.type_at c.args.k) ≡ operation_kind (operation_of G.typing (arithmetic c.in-Operates-Arithmetic.how) (type_in G.typing a) (type_in G.typing b)) = subst (λ (u : BinarySort). BinaryHasKind G.typing c.args.k u a b) sort c.requires.kind in
    rw (sort, kind) c.operator_sides.ensures.sides

pub binary_value-returns-in_ok-found-in-Operates-Shifting-clause-walks : goal.binary_value-returns-in_ok-found-in-Operates-Shifting-clause-walks
binary_value-returns-in_ok-found-in-Operates-Shifting-clause-walks g t c =
    let V = g.V.Values in
    let G = g.O.RunSetting.setting c.args.out.now in
    let a = view_expression c.args.a.now in
    let b = view_expression c.args.b.now in
    let sort : sort_of c.args.op ≡ operates (shifting c.in-Operates-Shifting.how) = sym c.sort_of.ensures ∙ ap sort_shown c.in-Operates-Shifting.is ∙ ap (λ u. operates (operator_shown u)) c.in-Operates-Shifting.field-0-is in
    let kind : number_kind (G.typing.type_at c.args.k) ≡ operation_kind (operation_of G.typing (shifting c.in-Operates-Shifting.how) (type_in G.typing a) (type_in G.typing b)) = subst (λ (u : BinarySort). BinaryHasKind G.typing c.args.k u a b) sort c.requires.kind in
    rw (sort, kind) c.in_ok-found-in-Operates-Shifting.ensures.value

pub binary_sides-returns-in-Operates-Shifting-clause-walks : goal.binary_sides-returns-in-Operates-Shifting-clause-walks
binary_sides-returns-in-Operates-Shifting-clause-walks g t c =
    let V = g.V.Values in
    let G = g.O.RunSetting.setting c.args.out.now in
    let a = view_expression c.args.a.now in
    let b = view_expression c.args.b.now in
    let sort : sort_of c.args.op ≡ operates (shifting c.in-Operates-Shifting.how) = sym c.sort_of.ensures ∙ ap sort_shown c.in-Operates-Shifting.is ∙ ap (λ u. operates (operator_shown u)) c.in-Operates-Shifting.field-0-is in
    let kind : number_kind (G.typing.type_at c.args.k) ≡ operation_kind (operation_of G.typing (shifting c.in-Operates-Shifting.how) (type_in G.typing a) (type_in G.typing b)) = subst (λ (u : BinarySort). BinaryHasKind G.typing c.args.k u a b) sort c.requires.kind in
    rw (sort, kind) c.operator_sides-in-Operates-Shifting.ensures.sides

pub binary_value-returns-in_ok-found-in-Joins-clause-walks : goal.binary_value-returns-in_ok-found-in-Joins-clause-walks
binary_value-returns-in_ok-found-in-Joins-clause-walks g t c =
    let V = g.V.Values in
    let G = g.O.RunSetting.setting c.args.out.now in
    let a = view_expression c.args.a.now in
    let b = view_expression c.args.b.now in
    let sort : sort_of c.args.op ≡ joins = sym c.sort_of.ensures ∙ ap sort_shown c.in-Joins.is in
    let kind : number_kind (G.typing.type_at c.args.k) ≡ number_kind (type_in G.typing b) = subst (λ (u : BinarySort). BinaryHasKind G.typing c.args.k u a b) sort c.requires.kind in
    rw (sort, kind) (walks_next (pos 0) c.in_ok-_left-in-Joins.ensures.walks c.in_ok-found-in-Joins.ensures.walks)

pub binary_value-returns-in-OrElse-clause-walks : goal.binary_value-returns-in-OrElse-clause-walks
binary_value-returns-in-OrElse-clause-walks g t c =
    let V = g.V.Values in
    let G = g.O.RunSetting.setting c.args.out.now in
    let a = view_expression c.args.a.now in
    let b = view_expression c.args.b.now in
    let sort : sort_of c.args.op ≡ or_else = sym c.sort_of.ensures ∙ ap sort_shown c.in-OrElse.is in
    let kind : number_kind (G.typing.type_at c.args.k) ≡ Int = subst (λ (u : BinarySort). BinaryHasKind G.typing c.args.k u a b) sort c.requires.kind in
    rw (sort, kind) c.or_else.ensures.walks

pub binary_value-returns-in-AndAlso-clause-walks : goal.binary_value-returns-in-AndAlso-clause-walks
binary_value-returns-in-AndAlso-clause-walks g t c =
    let V = g.V.Values in
    let G = g.O.RunSetting.setting c.args.out.now in
    let a = view_expression c.args.a.now in
    let b = view_expression c.args.b.now in
    let sort : sort_of c.args.op ≡ and_also = sym c.sort_of.ensures ∙ ap sort_shown c.in-AndAlso.is in
    let kind : number_kind (G.typing.type_at c.args.k) ≡ Int = subst (λ (u : BinarySort). BinaryHasKind G.typing c.args.k u a b) sort c.requires.kind in
    rw (sort, kind) c.and_also.ensures.walks

pub sides-returns-in_ok-found-in-Name-clause-walks : goal.sides-returns-in_ok-found-in-Name-clause-walks
sides-returns-in_ok-found-in-Name-clause-walks g t c =
    let V = g.V.Values in
    let G = g.O.RunSetting.setting c.args.out.now in
    let I = g.O.WalkSetting.under c.args.out.now in
    let e = view_expression c.args.e.now in
    let k1 = number_kind (type_in G.typing e) in
    walks_as (λ m. (meaning_in G (I m) e).sides) (walks_value (λ m x. side_of x) c.in_ok-n-in-Name.ensures.walks c.in_ok-found-in-Name.ensures.keeps (c.in_ok-found-in-Name.ensures.makes k1 c.in_ok-n-in-Name.ensures.walks.answered)
    (λ m x before h served hx. c.in_ok-found-in-Name.ensures.value m k1 x served hx))
    (λ m r i. ap (λ (f : List ℤ → KeptNumbers → Ran runs.Sides KeptNumbers). f r i) (sym (sides_alone G (path_world (I m)) c.args.e.now c.in-Name.is)))

pub sides-returns-in-Binary-clause-walks : goal.sides-returns-in-Binary-clause-walks
sides-returns-in-Binary-clause-walks g t c =
    rw (at_binary c.args.e.now c.in-Binary.op c.in-Binary.a c.in-Binary.b c.in-Binary.is, ← c.get-in-Binary.ensures, ← c.get-in-Binary-2.ensures) c.binary_sides.ensures.walks

pub binary_sides-returns-in_ok-found-in-Operates-Comparing-clause-walks : goal.binary_sides-returns-in_ok-found-in-Operates-Comparing-clause-walks
binary_sides-returns-in_ok-found-in-Operates-Comparing-clause-walks g t c =
    let V = g.V.Values in
    let G = g.O.RunSetting.setting c.args.out.now in
    let I = g.O.WalkSetting.under c.args.out.now in
    let a = view_expression c.args.a.now in
    let b = view_expression c.args.b.now in
    let sort : sort_of c.args.op ≡ operates (comparing c.in-Operates-Comparing.field-0-0) = sym c.sort_of.ensures ∙ ap sort_shown c.in-Operates-Comparing.is ∙ ap (λ u. operates (operator_shown u)) c.in-Operates-Comparing.field-0-is in
    let k1 = number_kind (G.typing.type_at c.args.k) in
    let n = rw sort at c.in_ok-n-in-Operates-Comparing.ensures.walks in
    rw sort (walks_value (λ m x. side_of x) n c.in_ok-found-in-Operates-Comparing.ensures.keeps (c.in_ok-found-in-Operates-Comparing.ensures.makes k1 n.answered) (λ m x before h served hx. c.in_ok-found-in-Operates-Comparing.ensures.value m k1 x served hx))

pub binary_sides-returns-in_ok-found-in-Joins-clause-walks : goal.binary_sides-returns-in_ok-found-in-Joins-clause-walks
binary_sides-returns-in_ok-found-in-Joins-clause-walks g t c =
    let V = g.V.Values in
    let G = g.O.RunSetting.setting c.args.out.now in
    let I = g.O.WalkSetting.under c.args.out.now in
    let a = view_expression c.args.a.now in
    let b = view_expression c.args.b.now in
    let sort : sort_of c.args.op ≡ joins = sym c.sort_of.ensures ∙ ap sort_shown c.in-Joins.is in
    let k1 = number_kind (G.typing.type_at c.args.k) in
    let n = rw sort at c.in_ok-n-in-Joins.ensures.walks in
    rw sort (walks_value (λ m x. side_of x) n c.in_ok-found-in-Joins.ensures.keeps (c.in_ok-found-in-Joins.ensures.makes k1 n.answered) (λ m x before h served hx. c.in_ok-found-in-Joins.ensures.value m k1 x served hx))

pub binary_sides-returns-in_ok-found-in-OrElse-clause-walks : goal.binary_sides-returns-in_ok-found-in-OrElse-clause-walks
binary_sides-returns-in_ok-found-in-OrElse-clause-walks g t c =
    let V = g.V.Values in
    let G = g.O.RunSetting.setting c.args.out.now in
    let I = g.O.WalkSetting.under c.args.out.now in
    let a = view_expression c.args.a.now in
    let b = view_expression c.args.b.now in
    let sort : sort_of c.args.op ≡ or_else = sym c.sort_of.ensures ∙ ap sort_shown c.in-OrElse.is in
    let k1 = number_kind (G.typing.type_at c.args.k) in
    let n = rw sort at c.in_ok-n-in-OrElse.ensures.walks in
    rw sort (walks_value (λ m x. side_of x) n c.in_ok-found-in-OrElse.ensures.keeps (c.in_ok-found-in-OrElse.ensures.makes k1 n.answered) (λ m x before h served hx. c.in_ok-found-in-OrElse.ensures.value m k1 x served hx))

pub binary_sides-returns-in_ok-found-in-AndAlso-clause-walks : goal.binary_sides-returns-in_ok-found-in-AndAlso-clause-walks
binary_sides-returns-in_ok-found-in-AndAlso-clause-walks g t c =
    let V = g.V.Values in
    let G = g.O.RunSetting.setting c.args.out.now in
    let I = g.O.WalkSetting.under c.args.out.now in
    let a = view_expression c.args.a.now in
    let b = view_expression c.args.b.now in
    let sort : sort_of c.args.op ≡ and_also = sym c.sort_of.ensures ∙ ap sort_shown c.in-AndAlso.is in
    let k1 = number_kind (G.typing.type_at c.args.k) in
    let n = rw sort at c.in_ok-n-in-AndAlso.ensures.walks in
    rw sort (walks_value (λ m x. side_of x) n c.in_ok-found-in-AndAlso.ensures.keeps (c.in_ok-found-in-AndAlso.ensures.makes k1 n.answered) (λ m x before h served hx. c.in_ok-found-in-AndAlso.ensures.value m k1 x served hx))

pub unary_value-returns-in_ok-address-in-Address-clause-walks : goal.unary_value-returns-in_ok-address-in-Address-clause-walks
unary_value-returns-in_ok-address-in-Address-clause-walks g t c =
    let V = g.V.Values in
    let G = g.O.RunSetting.setting c.args.out.now in
    let e = view_expression c.args.e.now in
    let kind : number_kind (G.typing.type_at c.args.k) ≡ ULong = subst (λ o. UnaryHasKind G.typing c.args.k (number_kind (type_in G.typing e)) o) c.in-Address.is c.requires.kind in
    let p = c.in_ok-address-in-Address.ensures.walks in
    rw (c.in-Address.is, kind) (walks_value (λ m x. pos x) p (keeps_none V.serves V.has_key V.made V.shows c.place.new.values) p.answered (λ m x before h served hx. hx))

pub unary_value-returns-in-Deref-clause-walks : goal.unary_value-returns-in-Deref-clause-walks
unary_value-returns-in-Deref-clause-walks g t c =
    rw c.in-Deref.is c.target_value.ensures.walks

pub unary_value-returns-in-Plus-clause-walks : goal.unary_value-returns-in-Plus-clause-walks
unary_value-returns-in-Plus-clause-walks g t c =
    rw c.in-Plus.is c.cast.ensures.walks

pub unary_value-returns-in_ok-found-in-Minus-clause-walks : goal.unary_value-returns-in_ok-found-in-Minus-clause-walks
unary_value-returns-in_ok-found-in-Minus-clause-walks g t c =
    let V = g.V.Values in
    let G = g.O.RunSetting.setting c.args.out.now in
    let e = view_expression c.args.e.now in
    let kind : number_kind (G.typing.type_at c.args.k) ≡ promote (number_kind (type_in G.typing e)) = subst (λ o. UnaryHasKind G.typing c.args.k (number_kind (type_in G.typing e)) o) c.in-Minus.is c.requires.kind in
    let j = promote (number_kind (type_in G.typing e)) in
    let f = s.unary unary.Minus e in
    rw (c.in-Minus.is, kind) (walks_one (λ x m r i. Went (operated (in_kind Sub j) (pos 0) x) r i (breaks G c.args.k true f x (pos 0) (pos 0))) (pos 0) c.in_ok-n-in-Minus.ensures.walks (λ x. c.in_ok-found-in-Minus.ensures.walks x))

pub unary_value-returns-in_ok-found-in-Flip-clause-walks : goal.unary_value-returns-in_ok-found-in-Flip-clause-walks
unary_value-returns-in_ok-found-in-Flip-clause-walks g t c =
    let V = g.V.Values in
    let G = g.O.RunSetting.setting c.args.out.now in
    let e = view_expression c.args.e.now in
    let kind : number_kind (G.typing.type_at c.args.k) ≡ promote (number_kind (type_in G.typing e)) = subst (λ o. UnaryHasKind G.typing c.args.k (number_kind (type_in G.typing e)) o) c.in-Flip.is c.requires.kind in
    let j = promote (number_kind (type_in G.typing e)) in
    let n = c.in_ok-found-in-Flip.ensures in
    rw (c.in-Flip.is, kind) (walks_value (λ m x. wrap j (negsuc 0 -ℤ x)) c.in_ok-n-in-Flip.ensures.walks n.keeps n.makes (λ m x before h served hx. n.value m x served hx))

pub unary_value-returns-in_ok-found-in-Not-clause-walks : goal.unary_value-returns-in_ok-found-in-Not-clause-walks
unary_value-returns-in_ok-found-in-Not-clause-walks g t c =
    let V = g.V.Values in
    let G = g.O.RunSetting.setting c.args.out.now in
    let e = view_expression c.args.e.now in
    let kind : number_kind (G.typing.type_at c.args.k) ≡ Int = subst (λ o. UnaryHasKind G.typing c.args.k (number_kind (type_in G.typing e)) o) c.in-Not.is c.requires.kind in
    let n = c.in_ok-found-in-Not.ensures in
    rw (c.in-Not.is, kind) (walks_value (λ m x. bit (not (truth x))) c.in_ok-n-in-Not.ensures.walks n.keeps n.makes (λ m x before h served hx. n.value m x served hx))

pub unary_place-returns-in-Deref-clause-walks : goal.unary_place-returns-in-Deref-clause-walks
unary_place-returns-in-Deref-clause-walks g t c =
    rw c.in-Deref.is c.target.ensures.walks

pub cast-returns-clause-cost : goal.cast-returns-clause-cost
cast-returns-clause-cost g t c =
    let G = g.O.RunSetting.setting c.args.out.now in
    let e = view_expression c.args.e.now in
    let kind : c.kind_at.result ≡ number_kind (type_in G.typing e) = c.kind_at.ensures ∙ ap (λ i. number_kind (G.typing.type_at i)) c.node_of.ensures in
    costs_more _ c.in_ok-n.ensures.cost (rw (kind, c.kind_at-2.ensures) at c.in_ok-found.ensures.charge)

pub tested-returns-clause-cost : goal.tested-returns-clause-cost
tested-returns-clause-cost g t c = costs_then c.in_ok-n.ensures.cost c.in_ok-test.ensures.cost

pub right_operand-returns-clause-cost : goal.right_operand-returns-clause-cost
right_operand-returns-clause-cost g t c =
    let G = g.O.RunSetting.setting c.args.out.now in
    let e = view_expression c.args.e.now in
    let kind : c.kind_at.result ≡ number_kind (type_in G.typing e) = c.kind_at.ensures ∙ ap (λ i. number_kind (G.typing.type_at i)) c.node_of-2.ensures in
    costs_cells (ap length c.in_ok-enter.ensures.cells) (costs_more _ c.in_ok-n.ensures.cost (rw kind at c.in_ok-test.ensures.charge))

pub branch-returns-clause-cost : goal.branch-returns-clause-cost
branch-returns-clause-cost g t c =
    let G = g.O.RunSetting.setting c.args.out.now in
    let e = view_expression c.args.e.now in
    let kind : c.kind_at.result ≡ number_kind (type_in G.typing e) = c.kind_at.ensures ∙ ap (λ i. number_kind (G.typing.type_at i)) c.node_of-2.ensures in
    costs_cells (ap length c.in_ok-enter.ensures.cells) (costs_more _ c.in_ok-n.ensures.cost (rw (kind, c.kind_at-2.ensures) at c.in_ok-found.ensures.charge))

pub member-returns-clause-cost : goal.member-returns-clause-cost
member-returns-clause-cost g t c = costs_more _ c.in_ok-address.ensures.cost c.in_ok-found.ensures.charge

pub target-returns-clause-cost : goal.target-returns-clause-cost
target-returns-clause-cost g t c =
    let G = g.O.RunSetting.setting c.args.out.now in
    let e = view_expression c.args.e.now in
    let kind : c.kind_at-kind.result ≡ number_kind (type_in G.typing e) = c.kind_at-kind.ensures ∙ ap (λ i. number_kind (G.typing.type_at i)) c.node_of.ensures in
    costs_then c.in_ok-value.ensures.cost (rw kind at c.in_ok-found.ensures.cost)

pub target_value-returns-clause-cost : goal.target_value-returns-clause-cost
target_value-returns-clause-cost g t c = costs_within _ (none_more _) (costs_then c.in_ok-address.ensures.cost c.in_ok-found.ensures.cost)

pub place_value-returns-clause-cost : goal.place_value-returns-clause-cost
place_value-returns-clause-cost g t c =
    let G = g.O.RunSetting.setting c.args.out.now in
    let e = view_expression c.args.e.now in
    let at : c.node_of-k.result ≡ node_of e = c.node_of-k.ensures in
    costs_then c.in_ok-address.ensures.cost (rw (c.target_of.ensures, at) at c.in_ok-found.ensures.cost)

pub index_place-returns-clause-cost : goal.index_place-returns-clause-cost
index_place-returns-clause-cost g t c =
    let G = g.O.RunSetting.setting c.args.out.now in
    let a = view_expression c.args.a.now in
    let b = view_expression c.args.b.now in
    let ka : c.kind_at.result ≡ number_kind (type_in G.typing a) = c.kind_at.ensures ∙ ap (λ i. number_kind (G.typing.type_at i)) c.node_of.ensures in
    costs_within _ (four_regrouped _ _ _ _) (costs_then (costs_then c.in_ok-x.ensures.cost c.in_ok-y.ensures.cost) (rw ka at c.in_ok-found.ensures.cost))

pub indexed-returns-in_ok-address-clause-cost : goal.indexed-returns-in_ok-address-clause-cost
indexed-returns-in_ok-address-clause-cost g t c =
    let G = g.O.RunSetting.setting c.args.out.now in
    let e = view_expression c.args.e.now in
    let at : c.node_of.result ≡ node_of e = c.node_of.ensures in
    let t1 = type_in G.typing e in
    let array : is_array t1 ≡ true = ap (λ i. is_array (G.typing.type_at i)) (sym at) ∙ sym c.is_array_at.ensures ∙ c.if-is_array_at.true in
    rw array c.in_ok-address.ensures.cost

pub indexed-returns-in_ok-n-clause-cost : goal.indexed-returns-in_ok-n-clause-cost
indexed-returns-in_ok-n-clause-cost g t c =
    let G = g.O.RunSetting.setting c.args.out.now in
    let e = view_expression c.args.e.now in
    let at : c.node_of.result ≡ node_of e = c.node_of.ensures in
    let t1 = type_in G.typing e in
    let array : is_array t1 ≡ false = ap (λ i. is_array (G.typing.type_at i)) (sym at) ∙ sym c.is_array_at.ensures ∙ c.if-is_array_at.false in
    rw array c.in_ok-n.ensures.cost

pub unary_place-returns-in-Deref-clause-cost : goal.unary_place-returns-in-Deref-clause-cost
unary_place-returns-in-Deref-clause-cost g t c = rw c.in-Deref.is c.target.ensures.cost

pub unary_value-returns-in_ok-address-in-Address-clause-cost : goal.unary_value-returns-in_ok-address-in-Address-clause-cost
unary_value-returns-in_ok-address-in-Address-clause-cost g t c = rw c.in-Address.is c.in_ok-address-in-Address.ensures.cost

pub unary_value-returns-in-Deref-clause-cost : goal.unary_value-returns-in-Deref-clause-cost
unary_value-returns-in-Deref-clause-cost g t c = rw c.in-Deref.is c.target_value.ensures.cost

pub unary_value-returns-in-Plus-clause-cost : goal.unary_value-returns-in-Plus-clause-cost
unary_value-returns-in-Plus-clause-cost g t c = rw c.in-Plus.is c.cast.ensures.cost

pub unary_value-returns-in_ok-found-in-Minus-clause-cost : goal.unary_value-returns-in_ok-found-in-Minus-clause-cost
unary_value-returns-in_ok-found-in-Minus-clause-cost g t c = rw c.in-Minus.is (costs_then c.in_ok-n-in-Minus.ensures.cost c.in_ok-found-in-Minus.ensures.cost)

pub unary_value-returns-in_ok-found-in-Flip-clause-cost : goal.unary_value-returns-in_ok-found-in-Flip-clause-cost
unary_value-returns-in_ok-found-in-Flip-clause-cost g t c = rw c.in-Flip.is (costs_within _ (three_regrouped _ _ _) (costs_more _ c.in_ok-n-in-Flip.ensures.cost c.in_ok-found-in-Flip.ensures.charge))

pub unary_value-returns-in_ok-found-in-Not-clause-cost : goal.unary_value-returns-in_ok-found-in-Not-clause-cost
unary_value-returns-in_ok-found-in-Not-clause-cost g t c = rw c.in-Not.is (costs_more _ c.in_ok-n-in-Not.ensures.cost c.in_ok-found-in-Not.ensures.charge)

pub right_behind-returns-clause-cost : goal.right_behind-returns-clause-cost
right_behind-returns-clause-cost g t c = costs_more _ (costs_more _ (costs_then (costs_store c.in_ok-first.ensures.charge) c.in_ok-right.ensures.cost) c.in_ok-end.ensures.charge) c.in_ok-found.ensures.charge

pub choice-returns-clause-cost : goal.choice-returns-clause-cost
choice-returns-clause-cost g t c = costs_more _ (costs_more _ (costs_then (costs_then (costs_store c.in_ok-first.ensures.charge) c.in_ok-x.ensures.cost) c.in_ok-y.ensures.cost) c.in_ok-end.ensures.charge) (rw c.kind_at.ensures at c.in_ok-found.ensures.charge)

pub binary_value-returns-in-Operates-Comparing-clause-cost : goal.binary_value-returns-in-Operates-Comparing-clause-cost
binary_value-returns-in-Operates-Comparing-clause-cost g t c =
    let sort : sort_of c.args.op ≡ operates (comparing c.in-Operates-Comparing.how) = sym c.sort_of.ensures ∙ ap sort_shown c.in-Operates-Comparing.is ∙ ap (λ u. operates (operator_shown u)) c.in-Operates-Comparing.field-0-is in
    rw sort c.compared_value.ensures.cost

pub binary_value-returns-in_ok-found-in-Operates-Arithmetic-clause-cost : goal.binary_value-returns-in_ok-found-in-Operates-Arithmetic-clause-cost
binary_value-returns-in_ok-found-in-Operates-Arithmetic-clause-cost g t c =
    let sort : sort_of c.args.op ≡ operates (arithmetic c.in-Operates-Arithmetic.how) = sym c.sort_of.ensures ∙ ap sort_shown c.in-Operates-Arithmetic.is ∙ ap (λ u. operates (operator_shown u)) c.in-Operates-Arithmetic.field-0-is in
    rw sort c.in_ok-found-in-Operates-Arithmetic.ensures.cost

pub binary_sides-returns-in-Operates-Arithmetic-clause-cost : goal.binary_sides-returns-in-Operates-Arithmetic-clause-cost
binary_sides-returns-in-Operates-Arithmetic-clause-cost g t c =
    let sort : sort_of c.args.op ≡ operates (arithmetic c.in-Operates-Arithmetic.how) = sym c.sort_of.ensures ∙ ap sort_shown c.in-Operates-Arithmetic.is ∙ ap (λ u. operates (operator_shown u)) c.in-Operates-Arithmetic.field-0-is in
    rw sort c.operator_sides.ensures.cost

pub binary_value-returns-in_ok-found-in-Operates-Shifting-clause-cost : goal.binary_value-returns-in_ok-found-in-Operates-Shifting-clause-cost
binary_value-returns-in_ok-found-in-Operates-Shifting-clause-cost g t c =
    let sort : sort_of c.args.op ≡ operates (shifting c.in-Operates-Shifting.how) = sym c.sort_of.ensures ∙ ap sort_shown c.in-Operates-Shifting.is ∙ ap (λ u. operates (operator_shown u)) c.in-Operates-Shifting.field-0-is in
    rw sort c.in_ok-found-in-Operates-Shifting.ensures.cost

pub binary_sides-returns-in-Operates-Shifting-clause-cost : goal.binary_sides-returns-in-Operates-Shifting-clause-cost
binary_sides-returns-in-Operates-Shifting-clause-cost g t c =
    let sort : sort_of c.args.op ≡ operates (shifting c.in-Operates-Shifting.how) = sym c.sort_of.ensures ∙ ap sort_shown c.in-Operates-Shifting.is ∙ ap (λ u. operates (operator_shown u)) c.in-Operates-Shifting.field-0-is in
    rw sort c.operator_sides-in-Operates-Shifting.ensures.cost

pub binary_value-returns-in_ok-found-in-Joins-clause-cost : goal.binary_value-returns-in_ok-found-in-Joins-clause-cost
binary_value-returns-in_ok-found-in-Joins-clause-cost g t c =
    let sort : sort_of c.args.op ≡ joins = sym c.sort_of.ensures ∙ ap sort_shown c.in-Joins.is in
    rw sort (costs_within _ (more_none _) (costs_then c.in_ok-_left-in-Joins.ensures.cost c.in_ok-found-in-Joins.ensures.cost))

pub binary_value-returns-in-OrElse-clause-cost : goal.binary_value-returns-in-OrElse-clause-cost
binary_value-returns-in-OrElse-clause-cost g t c =
    let sort : sort_of c.args.op ≡ or_else = sym c.sort_of.ensures ∙ ap sort_shown c.in-OrElse.is in
    rw sort c.or_else.ensures.cost

pub binary_value-returns-in-AndAlso-clause-cost : goal.binary_value-returns-in-AndAlso-clause-cost
binary_value-returns-in-AndAlso-clause-cost g t c =
    let sort : sort_of c.args.op ≡ and_also = sym c.sort_of.ensures ∙ ap sort_shown c.in-AndAlso.is in
    rw sort c.and_also.ensures.cost

pub binary_sides-returns-in_ok-found-in-Operates-Comparing-clause-cost : goal.binary_sides-returns-in_ok-found-in-Operates-Comparing-clause-cost
binary_sides-returns-in_ok-found-in-Operates-Comparing-clause-cost g t c = costs_before c.in_ok-n-in-Operates-Comparing.ensures.cost c.in_ok-found-in-Operates-Comparing.ensures.charge

pub binary_sides-returns-in_ok-found-in-Joins-clause-cost : goal.binary_sides-returns-in_ok-found-in-Joins-clause-cost
binary_sides-returns-in_ok-found-in-Joins-clause-cost g t c = costs_before c.in_ok-n-in-Joins.ensures.cost c.in_ok-found-in-Joins.ensures.charge

pub binary_sides-returns-in_ok-found-in-OrElse-clause-cost : goal.binary_sides-returns-in_ok-found-in-OrElse-clause-cost
binary_sides-returns-in_ok-found-in-OrElse-clause-cost g t c = costs_before c.in_ok-n-in-OrElse.ensures.cost c.in_ok-found-in-OrElse.ensures.charge

pub binary_sides-returns-in_ok-found-in-AndAlso-clause-cost : goal.binary_sides-returns-in_ok-found-in-AndAlso-clause-cost
binary_sides-returns-in_ok-found-in-AndAlso-clause-cost g t c = costs_before c.in_ok-n-in-AndAlso.ensures.cost c.in_ok-found-in-AndAlso.ensures.charge

pub compared_value-returns-clause-cost : goal.compared_value-returns-clause-cost
compared_value-returns-clause-cost g t c = costs_then (costs_then c.in_ok-x.ensures.cost c.in_ok-y.ensures.cost) c.in_ok-found.ensures.cost

pub or_else-returns-clause-cost : goal.or_else-returns-clause-cost
or_else-returns-clause-cost g t c = costs_within _ (joined_regrouped _ _ _ _) (costs_then c.in_ok-test.ensures.cost (costs_after c.in_ok-one.ensures.charge (costs_after c.in_ok-opposite.ensures.charge c.in_ok-found.ensures.cost)))

pub and_also-returns-clause-cost : goal.and_also-returns-clause-cost
and_also-returns-clause-cost g t c = costs_within _ (joined_regrouped _ _ _ _) (costs_then c.in_ok-test.ensures.cost (costs_after c.in_ok-none.ensures.charge c.in_ok-found.ensures.cost))

pub operator_sides-returns-clause-cost : goal.operator_sides-returns-clause-cost
operator_sides-returns-clause-cost g t c =
    let G = g.O.RunSetting.setting c.args.out.now in
    let a = view_expression c.args.a.now in
    let b = view_expression c.args.b.now in
    let ka : c.kind_at.result ≡ number_kind (type_in G.typing a) = c.kind_at.ensures ∙ ap (λ i. number_kind (G.typing.type_at i)) c.node_of.ensures in
    let kb : c.kind_at-2.result ≡ number_kind (type_in G.typing b) = c.kind_at-2.ensures ∙ ap (λ i. number_kind (G.typing.type_at i)) c.node_of-2.ensures in
    let how = operator_shown c.args.how in
    let ta = type_in G.typing a in
    let tb = type_in G.typing b in
    let o = operation_of G.typing how ta tb in
    let same : operation_shown c.operation-operation.result ≡ o = c.operation-operation.ensures ∙ ap (λ i. operation_of G.typing how (G.typing.type_at i) (G.typing.type_at c.node_of-4.result)) c.node_of-3.ensures ∙ ap (λ i. operation_of G.typing how ta (G.typing.type_at i)) c.node_of-4.ensures in
    costs_then (costs_then c.in_ok-x.ensures.cost c.in_ok-y.ensures.cost) (rw (same, ka, kb) at c.in_ok-number.ensures.cost)

pub sides-returns-in_ok-found-in-Name-clause-cost : goal.sides-returns-in_ok-found-in-Name-clause-cost
sides-returns-in_ok-found-in-Name-clause-cost g t c = costs_before c.in_ok-n-in-Name.ensures.cost c.in_ok-found-in-Name.ensures.charge

pub sides-returns-in-Binary-clause-cost : goal.sides-returns-in-Binary-clause-cost
sides-returns-in-Binary-clause-cost g t c = rw (at_binary c.args.e.now c.in-Binary.op c.in-Binary.a c.in-Binary.b c.in-Binary.is, ← c.get-in-Binary.ensures, ← c.get-in-Binary-2.ensures) c.binary_sides.ensures.cost

pub stepped_value-returns-clause-cost : goal.stepped_value-returns-clause-cost
stepped_value-returns-clause-cost g t c = costs_then c.in_ok-_place.ensures.cost c.in_ok-found.ensures.cost

pub assigned_value-returns-in_ok-found-in-None-clause-cost : goal.assigned_value-returns-in_ok-found-in-None-clause-cost
assigned_value-returns-in_ok-found-in-None-clause-cost g t c =
    let G = g.O.RunSetting.setting c.args.out.now in
    let a = view_expression c.args.a.now in
    let b = view_expression c.args.b.now in
    let kind : c.kind_at-kind.result ≡ number_kind (type_in G.typing b) = c.kind_at-kind.ensures ∙ ap (λ i. number_kind (G.typing.type_at i)) c.node_of.ensures in
    let none : None ≡ assigned_operator c.args.op = sym (ap (option_map operator_shown) c.in-None.is) ∙ c.assigned_operator.ensures in
    let found = rw (kind, c.requires.kind) at c.in_ok-found-in-None.ensures.cost in
    rw (sym none) (costs_then (costs_then c.in_ok-value.ensures.cost c.in_ok-_place.ensures.cost) found)

pub assigned_value-returns-in_ok-found-in-Some-clause-cost : goal.assigned_value-returns-in_ok-found-in-Some-clause-cost
assigned_value-returns-in_ok-found-in-Some-clause-cost g t c =
    let G = g.O.RunSetting.setting c.args.out.now in
    let a = view_expression c.args.a.now in
    let b = view_expression c.args.b.now in
    let kind : c.kind_at-kind.result ≡ number_kind (type_in G.typing b) = c.kind_at-kind.ensures ∙ ap (λ i. number_kind (G.typing.type_at i)) c.node_of.ensures in
    let how = operator_shown c.in-Some.how in
    let ta = type_in G.typing a in
    let tb = type_in G.typing b in
    let o = operation_of G.typing how ta tb in
    let same : operation_shown c.operation-operation.result ≡ o = c.operation-operation.ensures ∙ ap (λ i. operation_of G.typing how (G.typing.type_at i) (G.typing.type_at c.node_of-in-Some-2.result)) c.node_of-in-Some.ensures ∙ ap (λ i. operation_of G.typing how ta (G.typing.type_at i)) c.node_of-in-Some-2.ensures in
    let some : Some how ≡ assigned_operator c.args.op = sym (ap (option_map operator_shown) c.in-Some.is) ∙ c.assigned_operator.ensures in
    rw (sym some) (costs_then (costs_then c.in_ok-value.ensures.cost c.in_ok-_place.ensures.cost) (rw (same, kind) at c.in_ok-found-in-Some.ensures.cost))

pub call_value-returns-clause-cost : goal.call_value-returns-clause-cost
call_value-returns-clause-cost g t c = costs_then (rw c.library-library.ensures at c.in_ok-found.ensures.cost) c.in_ok-number.ensures.cost

pub arguments-returns-clause-cost : goal.arguments-returns-clause-cost
arguments-returns-clause-cost g t c =
    let G = g.O.RunSetting.setting c.args.out.now in
    let so_far = c.loop-e.invariant.1 in
    let list = c.args.list.now in
    let l = option_map library_shown c.args.library in
    let none : drop c.loop-e.e-index list ≡ [] = drop_all c.loop-e.e-index list (omega arith) in
    let rest : arguments_spent G l (expressions (map view_expression (drop c.loop-e.e-index list))) ≡ 0 = ap (λ z. arguments_spent G l (expressions (map view_expression z))) none in
    costs_after c.in_ok-found.ensures.charge (spent_all rest so_far)

pub value-returns-in-Cast-clause-cost : goal.value-returns-in-Cast-clause-cost
value-returns-in-Cast-clause-cost g t c = rw (at_cast c.args.e.now c.in-Cast.field-0 c.in-Cast.x c.in-Cast.is, ← c.get-in-Cast.ensures) c.cast.ensures.cost

pub value-returns-in_ok-found-in-Choice-clause-cost : goal.value-returns-in_ok-found-in-Choice-clause-cost
value-returns-in_ok-found-in-Choice-clause-cost g t c =
    rw (at_choice c.args.e.now c.in-Choice.a c.in-Choice.b c.in-Choice.c c.in-Choice.is, ← c.get-in-Choice.ensures, ← c.get-in-Choice-2.ensures, ← c.get-in-Choice-3.ensures)
    (costs_within _ (choice_regrouped _ _ _ _ _ _ _) (costs_then c.in_ok-test-in-Choice.ensures.cost c.in_ok-found-in-Choice.ensures.cost))

pub value-returns-in-Binary-clause-cost : goal.value-returns-in-Binary-clause-cost
value-returns-in-Binary-clause-cost g t c = rw (at_binary c.args.e.now c.in-Binary.op c.in-Binary.a c.in-Binary.b c.in-Binary.is, ← c.get-in-Binary.ensures, ← c.get-in-Binary-2.ensures) c.binary_value.ensures.cost

pub value-returns-in-Assign-clause-cost : goal.value-returns-in-Assign-clause-cost
value-returns-in-Assign-clause-cost g t c = rw (at_assign c.args.e.now c.in-Assign.op c.in-Assign.a c.in-Assign.b c.in-Assign.is, ← c.get-in-Assign.ensures, ← c.get-in-Assign-2.ensures) c.assigned_value.ensures.cost

pub value-returns-in-Unary-clause-cost : goal.value-returns-in-Unary-clause-cost
value-returns-in-Unary-clause-cost g t c = rw (at_unary c.args.e.now c.in-Unary.op c.in-Unary.x c.in-Unary.is, ← c.get-in-Unary.ensures) c.unary_value.ensures.cost

pub value-returns-in-Step-clause-cost : goal.value-returns-in-Step-clause-cost
value-returns-in-Step-clause-cost g t c = rw (at_step c.args.e.now c.in-Step.op c.in-Step.x c.in-Step.is, ← c.get-in-Step.ensures) c.stepped_value.ensures.cost

pub value-returns-in-Call-clause-cost : goal.value-returns-in-Call-clause-cost
value-returns-in-Call-clause-cost g t c = rw (at_call c.args.e.now c.in-Call.f c.in-Call.list c.in-Call.is, ← c.get-in-Call.ensures, ← c.as_slice.ensures) c.call_value.ensures.cost

pub value-returns-in-Text-clause-cost : goal.value-returns-in-Text-clause-cost
value-returns-in-Text-clause-cost g t c =
    let G = g.O.RunSetting.setting c.args.out.now in
    let w = c.args.e.now in
    placed_costs _ _ _ _ _ _ c.place_value-in-Text.result G (view_expression w) w.node (s.text c.in-Text.field-0) (at_text w c.in-Text.field-0 c.in-Text.is) (none_more _) c.place_value-in-Text.ensures.cost

pub value-returns-in-Index-clause-cost : goal.value-returns-in-Index-clause-cost
value-returns-in-Index-clause-cost g t c =
    let G = g.O.RunSetting.setting c.args.out.now in
    let w = c.args.e.now in
    placed_costs _ _ _ _ _ _ c.place_value-in-Index.result G (view_expression w) w.node (s.index (view_expression c.in-Index.field-0) (view_expression c.in-Index.field-1)) (at_index w c.in-Index.field-0 c.in-Index.field-1 c.in-Index.is) (none_more _) c.place_value-in-Index.ensures.cost

pub value-returns-in-Arrow-clause-cost : goal.value-returns-in-Arrow-clause-cost
value-returns-in-Arrow-clause-cost g t c =
    let G = g.O.RunSetting.setting c.args.out.now in
    let w = c.args.e.now in
    placed_costs _ _ _ _ _ _ c.place_value-in-Arrow.result G (view_expression w) w.node (s.arrow (view_expression c.in-Arrow.field-0) c.in-Arrow.field-1) (at_arrow w c.in-Arrow.field-0 c.in-Arrow.field-1 c.in-Arrow.is) (none_more _) c.place_value-in-Arrow.ensures.cost

pub value-returns-in-Dot-clause-cost : goal.value-returns-in-Dot-clause-cost
value-returns-in-Dot-clause-cost g t c =
    let G = g.O.RunSetting.setting c.args.out.now in
    let w = c.args.e.now in
    placed_costs _ _ _ _ _ _ c.place_value-in-Dot.result G (view_expression w) w.node (s.dot (view_expression c.in-Dot.field-0) c.in-Dot.field-1) (at_dot w c.in-Dot.field-0 c.in-Dot.field-1 c.in-Dot.is) (itself _) c.place_value-in-Dot.ensures.cost

pub value-returns-in-None-clause-cost : goal.value-returns-in-None-clause-cost
value-returns-in-None-clause-cost g t c =
    let G = g.O.RunSetting.setting c.args.out.now in
    let w = c.args.e.now in
    placed_costs _ _ _ _ _ _ c.place_value.result G (view_expression w) w.node (s.name c.in-Name.field-0) (at_name w c.in-Name.field-0 c.in-Name.is) (named_within G w.node.number (target_at G (object_named G w.node.number c.in-Name.field-0)) (G.typing.number_at w.node.number) _ (sym c.in-None.is ∙ c.own_number.ensures)) c.place_value.ensures.cost

pub place-returns-in_ok-found-in-Name-clause-cost : goal.place-returns-in_ok-found-in-Name-clause-cost
place-returns-in_ok-found-in-Name-clause-cost g t c = rw (at_name c.args.e.now c.in-Name.name c.in-Name.is) (costs_within _ (zero_least _) c.in_ok-found-in-Name.ensures.cost)

pub place-returns-in_ok-found-in-Arrow-clause-cost : goal.place-returns-in_ok-found-in-Arrow-clause-cost
place-returns-in_ok-found-in-Arrow-clause-cost g t c = rw (at_arrow c.args.e.now c.in-Arrow.x c.in-Arrow.name c.in-Arrow.is, ← c.get-x.ensures) (costs_within _ (three_regrouped _ _ _) (costs_then c.in_ok-n-in-Arrow.ensures.cost c.in_ok-found-in-Arrow.ensures.cost))

pub place-returns-in-Dot-clause-cost : goal.place-returns-in-Dot-clause-cost
place-returns-in-Dot-clause-cost g t c = rw (at_dot c.args.e.now c.in-Dot.x c.in-Dot.name c.in-Dot.is, ← c.get-in-Dot.ensures) c.member.ensures.cost

pub place-returns-in-Index-clause-cost : goal.place-returns-in-Index-clause-cost
place-returns-in-Index-clause-cost g t c = rw (at_index c.args.e.now c.in-Index.a c.in-Index.b c.in-Index.is, ← c.get-in-Index.ensures, ← c.get-in-Index-2.ensures) c.index_place.ensures.cost

pub place-returns-in-Unary-clause-cost : goal.place-returns-in-Unary-clause-cost
place-returns-in-Unary-clause-cost g t c = rw (at_unary c.args.e.now c.in-Unary.op c.in-Unary.x c.in-Unary.is, ← c.get-in-Unary.ensures) c.unary_place.ensures.cost
