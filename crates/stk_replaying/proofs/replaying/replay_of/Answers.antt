use Rattle.std.proofs.Common.{◌≡◌, ◌<◌, ◌≤◌, List, length, ℤ, option_map, ap, subst, ◌∙◌, arith}
use Rattle.stk_tree.specs.View.{view_function}
use Rattle.stk_meaning.specs.Worlds.{Ran, Flow, trace_of}
use Rattle.stk_meaning.specs.Executions.{Outside}
use Rattle.stk_eval_expr.specs.Shown.{flow_shown}
use Rattle.stk_function_types.specs.Nodes.{typing_in}
use Rattle.stk_function_env.specs.Settings.{setting_in}
use Rattle.stk_memory.specs.Image.{memory_of}
use Rattle.stk_replaying.specs.Replaying.{ran_in, flow_end_of, end_of}
use Rattle.stk_replaying.proofs.Whole.{begun_run, ran_is, whole_trace, whole_end, whole_long}
use Rattle.stk_replaying.proofs.replaying.replay_of.Goals as goal

pub returns-then-len-most-clause-long : goal.returns-then-len-most-clause-long
returns-then-len-most-clause-long c = λ refused.
    let x = c.args.execution.now in
    let tree = view_function c.args.f.now in
    let places = c.args.tables.now.places in
    let run = c.in_ok-run.run' in
    let flow = option_map flow_shown run.flow in
    let r : List ℤ = c.in_ok-registers.registers.items in
    let memory = memory_of c.in_ok-of.field-0 in
    let ty = typing_in places.types in
    let R = begun_run (setting_in places) places.keys tree x r memory in
    let is : R ≡ ran_in ty places.without tree x = ran_is ty places.without tree (setting_in places) places.keys x r memory c.requires.tables.setting c.requires.tables.keys c.in_ok-registers.ensures c.in_ok-of.ensures in
    let many : c.args.most < length run.entries.items = omega (arith, c.if-len-most.true, c.len.ensures) in
    subst (λ (run : Ran Flow Outside). c.args.most < length (trace_of run)) is (whole_long R c.args.most run.entries.items flow many c.in_ok-run.ensures)

pub returns-clause-trace : goal.returns-clause-trace
returns-clause-trace c =
    let x = c.args.execution.now in
    let tree = view_function c.args.f.now in
    let places = c.args.tables.now.places in
    let run = c.in_ok-run.run' in
    let flow = option_map flow_shown run.flow in
    let r : List ℤ = c.in_ok-registers.registers.items in
    let memory = memory_of c.in_ok-of.field-0 in
    let ty = typing_in places.types in
    let R = begun_run (setting_in places) places.keys tree x r memory in
    let is : R ≡ ran_in ty places.without tree x = ran_is ty places.without tree (setting_in places) places.keys x r memory c.requires.tables.setting c.requires.tables.keys c.in_ok-registers.ensures c.in_ok-of.ensures in
    let few : length run.entries.items ≤ c.args.most = omega (arith, c.if-len-most.false, c.len.ensures) in
    c.from_vec.ensures ∙ whole_trace R c.args.most run.entries.items flow few c.in_ok-run.ensures ∙ ap trace_of is

pub returns-clause-end : goal.returns-clause-end
returns-clause-end c =
    let x = c.args.execution.now in
    let tree = view_function c.args.f.now in
    let places = c.args.tables.now.places in
    let run = c.in_ok-run.run' in
    let flow = option_map flow_shown run.flow in
    let r : List ℤ = c.in_ok-registers.registers.items in
    let memory = memory_of c.in_ok-of.field-0 in
    let ty = typing_in places.types in
    let R = begun_run (setting_in places) places.keys tree x r memory in
    let is : R ≡ ran_in ty places.without tree x = ran_is ty places.without tree (setting_in places) places.keys x r memory c.requires.tables.setting c.requires.tables.keys c.in_ok-registers.ensures c.in_ok-of.ensures in
    let few : length run.entries.items ≤ c.args.most = omega (arith, c.if-len-most.false, c.len.ensures) in
    c.end_of_flow.ensures ∙ ap flow_end_of (whole_end R c.args.most run.entries.items flow few c.in_ok-run.ensures) ∙ ap end_of is
