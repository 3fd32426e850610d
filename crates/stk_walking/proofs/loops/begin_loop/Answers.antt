use Rattle.std.specs.Prelude.{if◌then◌else◌}
use Rattle.stk_tree.specs.View.{view_statement_form}
use Rattle.stk_meaning.specs.Changes.{assigned_in}
use Rattle.stk_meaning.specs.Paths.{reset_all}
use Rattle.stk_kinded.specs.Kinds.{register_kind, cell_kind}
use Rattle.stk_walking.proofs.Carried.{is_made_still, stands_still, row_made, row_shown}
use Rattle.std.proofs.Common.{length}
use Rattle.stk_walking.proofs.Costing.{costs_then, costs_store}
use Rattle.stk_walking.proofs.loops.begin_loop.Goals as goal

pub begin_cells-requires-clause-row : goal.begin_cells-requires-clause-row
begin_cells-requires-clause-row g c =
    let made = g.V.Values.made in
    let G = g.O.RunSetting.setting c.args.out.now in
    (cell_kind G, (is_made_still (made c.args.values.now) (made c.begin_registers.new.values) c.in_ok-begin_registers.ensures.keeps.made_still G c.args.state.now c.requires.made).cells)

pub returns-clause-made : goal.returns-clause-made
returns-clause-made g c =
    let made = g.V.Values.made in
    let G = g.O.RunSetting.setting c.args.out.now in
    let k1 = c.in_ok-begin_registers.ensures.keeps in
    let k2 = c.in_ok-begin_cells.ensures.keeps in
    let first = is_made_still (made c.args.values.now) (made c.begin_registers.new.values) k1.made_still G c.args.state.now c.requires.made in
    let second = is_made_still (made c.begin_registers.new.values) (made c.begin_cells.new.values) k2.made_still G c.args.state.now first in
    record {
      guard = second.guard;
      broken = second.broken;
      continued = second.continued;
      registers = row_made (made c.begin_registers.new.values) (made c.begin_cells.new.values) k2.made_still (register_kind G) 0 c.begin_registers.new.registers.items c.in_ok-begin_registers.ensures.made;
      cells = c.in_ok-begin_cells.ensures.made (cell_kind G) first.cells;
      steps = second.steps;
    }

pub returns-clause-stands : goal.returns-clause-stands
returns-clause-stands g c = λ m s served at.
    let shows = g.V.Values.shows in
    let G = g.O.RunSetting.setting c.args.out.now in
    let I = g.O.WalkSetting.under c.args.out.now m in
    let k1 = c.in_ok-begin_registers.ensures.keeps in
    let k2 = c.in_ok-begin_cells.ensures.keeps in
    let first = stands_still (shows c.args.values.now m) (shows c.begin_registers.new.values m) (k1.shown m) G c.args.state.now s at in
    let second = stands_still (shows c.begin_registers.new.values m) (shows c.begin_cells.new.values m) (k2.shown m) G c.args.state.now s first in
    let numbers = c.in_ok-begin_registers.ensures.shown m s.alive s.numbers served at.guard at.numbers in
    record {
      guard = second.guard;
      broken = second.broken;
      continued = second.continued;
      numbers = row_shown (shows c.begin_registers.new.values m) (shows c.begin_cells.new.values m) (k2.shown m) (register_kind G) 0 c.begin_registers.new.registers.items
          (if s.alive then reset_all I c.args.node (assigned_in G (view_statement_form c.args.form.now)) s.numbers else s.numbers) numbers;
      kept = c.in_ok-begin_cells.ensures.shown m (cell_kind G) s.alive s.kept (k1.served m served) first.guard first.kept;
      events = second.events;
    }

pub returns-clause-cost : goal.returns-clause-cost
returns-clause-cost g c = costs_then (costs_store c.in_ok-begin_registers.ensures.charge) (c.in_ok-begin_cells.ensures.cost (length (g.O.RunSetting.setting c.args.out.now).kept))
