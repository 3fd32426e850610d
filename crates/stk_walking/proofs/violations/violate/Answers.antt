use Rattle.std.proofs.Common.{List, ◌++◌, sym, ap, ◌∙◌, subst, refl}
use Rattle.stk_ctype.specs.declared.kind.IntKind.TheVariants.{Int}
use Rattle.stk_meaning.specs.Operations.{Test}
use Rattle.stk_operators.specs.Checked.{tests_of}
use Rattle.stk_kinded.specs.Kinds.{register_kind, cell_kind}
use Rattle.stk_walking.specs.Events.{Live, events_of, events_in}
use Rattle.stk_walking.specs.NodeTests.{kept_of, test_events}
use Rattle.stk_walking.proofs.Carried.{row_made, cells_made, row_shown, cells_shown}
use Rattle.stk_walking.proofs.Violated.{events_broken}
use Rattle.stk_walking.proofs.violations.violate.Goals as goal

pub returns-clause-made : goal.returns-clause-made
returns-clause-made g c =
    let G = g.O.RunSetting.setting c.args.out.now in
    let old = g.V.Values.made c.args.values.now in
    let now = g.V.Values.made c.push_tests.new.values in
    let keep = c.push_tests.ensures.keeps.made_still in
    let a = c.requires.made in
    record {
      guard = keep _ _ a.guard;
      broken = keep _ _ a.broken;
      continued = keep _ _ a.continued;
      registers = row_made old now keep (register_kind G) 0 c.args.state.now.registers.items a.registers;
      cells = cells_made old now keep (cell_kind G) 0 c.args.state.now.cells.items a.cells;
      steps = c.in_ok-push_tests.ensures.made;
    }

pub returns-clause-events : goal.returns-clause-events
returns-clause-events g c = λ accessed f same.
    let G = g.O.RunSetting.setting c.args.out.now in
    let n = c.args.node in
    let before = events_in c.args.state.now.steps.items in
    c.in_ok-push_tests.ensures.events
    ∙ ap (λ w. before ++ test_events n (kept_of w (tests_of c.args.tests))) c.without-without.ensures
    ∙ ap (λ (l : List Test). before ++ test_events n (kept_of G.without l)) (sym same)

pub returns-clause-stands : goal.returns-clause-stands
returns-clause-stands g c = λ m s x y z accessed f served hx same a.
    let G = g.O.RunSetting.setting c.args.out.now in
    let old = g.V.Values.shows c.args.values.now m in
    let now = g.V.Values.shows c.push_tests.new.values m in
    let keep = c.push_tests.ensures.keeps.shown m in
    let live = c.in_ok-push_tests.ensures.live m s.alive x y z (events_of s.entries) served a.guard hx a.events in
    record {
      guard = keep _ _ _ a.guard;
      broken = keep _ _ _ a.broken;
      continued = keep _ _ _ a.continued;
      numbers = row_shown old now keep (register_kind G) 0 c.args.state.now.registers.items s.numbers a.numbers;
      kept = cells_shown old now keep (cell_kind G) 0 c.args.state.now.cells.items s.kept a.kept;
      events = subst (Live (now Int) c.push_tests.new.steps.items) (events_broken G c.without-without.result c.args.node (tests_of c.args.tests) accessed f x y z s.alive s.entries c.without-without.ensures same) live;
    }

pub returns-clause-charge : goal.returns-clause-charge
returns-clause-charge g c = c.in_ok-push_tests.ensures.charge

pub returns-clause-cells : goal.returns-clause-cells
returns-clause-cells g c = refl
