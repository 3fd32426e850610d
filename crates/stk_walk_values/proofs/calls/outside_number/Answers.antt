use Rattle.std.proofs.Common.{true, false, pos, subst, length}
use Rattle.stk_ctype.specs.declared.kind.IntKind.{IntKind}
use Rattle.stk_tree.specs.View.{view_expression}
use Rattle.stk_meaning.specs.Typings.{number_kind}
use Rattle.stk_meaning.specs.Libraries.{called_signature, result_in}
use Rattle.stk_meaning.specs.Keys.{call_key}
use Rattle.stk_walk_values.proofs.Lasting.{still_made, still_stands}
use Rattle.stk_walk_values.proofs.Calling.{outside_leads}
use Rattle.stk_walking.proofs.Costing.{costs_before}
use Rattle.stk_walk_values.proofs.calls.outside_number.Goals as goal

pub returns-in_ok-nothing-clause-made : goal.returns-in_ok-nothing-clause-made
returns-in_ok-nothing-clause-made g c = still_made c.in_ok-nothing.ensures.keeps c.in_ok-forget.ensures.made

pub returns-in_ok-number-clause-made : goal.returns-in_ok-number-clause-made
returns-in_ok-number-clause-made g c = still_made c.in_ok-number.ensures.keeps c.in_ok-forget.ensures.made

pub returns-in_ok-nothing-clause-follows : goal.returns-in_ok-nothing-clause-follows
returns-in_ok-nothing-clause-follows g c = λ xs m s served at.
    let G = g.O.RunSetting.setting c.args.out.now in
    let t = result_in (called_signature G.typing (view_expression c.args.callee.now)) in
    let now = g.V.Values.shows c.zero.new.values m in
    let k = c.in_ok-nothing.ensures.keeps in
    let v = c.in_ok-nothing.nothing in
    let shown = subst (λ (j : IntKind). now j v (pos 0)) c.kind_at-kind.ensures (c.in_ok-nothing.ensures.value m (c.in_ok-forget.ensures.keeps.served m served)) in
    outside_leads now G (g.O.WalkSetting.under c.args.out.now m) c.args.node t xs true s c.forget.new.state (λ x. now (number_kind (G.typing.type_at c.args.node)) v x) c.if-gives_nothing.ensures shown
    (still_stands k m (c.in_ok-forget.ensures.stands m s served at))

pub returns-in_ok-number-clause-follows : goal.returns-in_ok-number-clause-follows
returns-in_ok-number-clause-follows g c = λ xs m s served at.
    let G = g.O.RunSetting.setting c.args.out.now in
    let inputs = g.O.WalkSetting.under c.args.out.now m in
    let t = result_in (called_signature G.typing (view_expression c.args.callee.now)) in
    let now = g.V.Values.shows c.input_value.new.values m in
    let k = c.in_ok-number.ensures.keeps in
    let v = c.in_ok-number.number in
    let shown = subst (λ (j : IntKind). now j v (inputs (call_key c.args.node))) c.kind_at-kind.ensures (c.in_ok-number.ensures.value m (c.in_ok-forget.ensures.keeps.served m served)) in
    outside_leads now G inputs c.args.node t xs false s c.forget.new.state (λ x. now (number_kind (G.typing.type_at c.args.node)) v x) c.if-gives_nothing.ensures shown
    (still_stands k m (c.in_ok-forget.ensures.stands m s served at))

pub returns-in_ok-nothing-clause-cost : goal.returns-in_ok-nothing-clause-cost
returns-in_ok-nothing-clause-cost g c = costs_before (c.in_ok-forget.ensures.cost (length (g.O.RunSetting.setting c.args.out.now).kept)) c.in_ok-nothing.ensures.charge

pub returns-in_ok-number-clause-cost : goal.returns-in_ok-number-clause-cost
returns-in_ok-number-clause-cost g c = costs_before (c.in_ok-forget.ensures.cost (length (g.O.RunSetting.setting c.args.out.now).kept)) c.in_ok-number.ensures.charge
