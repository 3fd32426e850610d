use Rattle.std.proofs.Common.{Bool, [], ◌∷◌, ◌++◌, Option, sym, subst, refl}
use Rattle.std.specs.Prelude.{if◌then◌else◌}
use Rattle.stk_ctype.specs.declared.kind.IntKind.TheVariants.{Int}
use Rattle.stk_meaning.specs.declared.entry.Entry.TheVariants.{Seen}
use Rattle.stk_kinded.specs.Kinds.{register_kind, cell_kind}
use Rattle.stk_walking.specs.Events.{Live, events_of}
use Rattle.stk_walking.proofs.Carried.{row_made, cells_made, row_shown, cells_shown, events_replaced}
use Rattle.stk_walking.proofs.Seeing.{seen_alone, other_shown}
use Rattle.stk_walking.proofs.steps.see.Goals as goal

pub returns-in_ok-push_truth-in-None-clause-made : goal.returns-in_ok-push_truth-in-None-clause-made
returns-in_ok-push_truth-in-None-clause-made g c = λ G a.
    let old = g.V.Values.made c.args.values.now in
    let now = g.V.Values.made c.push_truth.new.values in
    let keep = c.push_truth.ensures.keeps.made_still in
    record {
      guard = keep _ _ a.guard;
      broken = keep _ _ a.broken;
      continued = keep _ _ a.continued;
      registers = row_made old now keep (register_kind G) 0 c.args.state.now.registers.items a.registers;
      cells = cells_made old now keep (cell_kind G) 0 c.args.state.now.cells.items a.cells;
      steps = c.in_ok-push_truth-in-None.ensures.made;
    }

pub returns-in_ok-push_replaced-in-Some-clause-made : goal.returns-in_ok-push_replaced-in-Some-clause-made
returns-in_ok-push_replaced-in-Some-clause-made g c = λ G a.
    let old = g.V.Values.made c.args.values.now in
    let now = g.V.Values.made c.push_replaced.new.values in
    let keep = c.push_replaced.ensures.keeps.made_still in
    record {
      guard = keep _ _ a.guard;
      broken = keep _ _ a.broken;
      continued = keep _ _ a.continued;
      registers = row_made old now keep (register_kind G) 0 c.args.state.now.registers.items a.registers;
      cells = cells_made old now keep (cell_kind G) 0 c.args.state.now.cells.items a.cells;
      steps = c.in_ok-push_replaced-in-Some.ensures.made;
    }

pub returns-in_ok-push_truth-in-None-clause-stands : goal.returns-in_ok-push_truth-in-None-clause-stands
returns-in_ok-push_truth-in-None-clause-stands g c = λ G m s b other served ht ho a.
    let old = g.V.Values.shows c.args.values.now m in
    let now = g.V.Values.shows c.push_truth.new.values m in
    let keep = c.push_truth.ensures.keeps.shown m in
    let live = c.in_ok-push_truth-in-None.ensures.live m s.alive b (events_of s.entries) served a.guard ht a.events in
    record {
      guard = keep _ _ _ a.guard;
      broken = keep _ _ _ a.broken;
      continued = keep _ _ _ a.continued;
      numbers = row_shown old now keep (register_kind G) 0 c.args.state.now.registers.items s.numbers a.numbers;
      kept = cells_shown old now keep (cell_kind G) 0 c.args.state.now.cells.items s.kept a.kept;
      events = seen_alone (old Int) (now Int) c.push_truth.new.steps.items s.alive b s.entries c.args.node c.args.replaced other c.in-None.is ho live;
    }

pub returns-in_ok-push_replaced-in-Some-clause-stands : goal.returns-in_ok-push_replaced-in-Some-clause-stands
returns-in_ok-push_replaced-in-Some-clause-stands g c = λ G m s b other served ht ho a.
    let old = g.V.Values.shows c.args.values.now m in
    let now = g.V.Values.shows c.push_replaced.new.values m in
    let keep = c.push_replaced.ensures.keeps.shown m in
    let found = other_shown (old Int) c.args.replaced c.in-Some.other other c.in-Some.is ho in
    let live = c.in_ok-push_replaced-in-Some.ensures.live m s.alive b found.0 (events_of s.entries) served a.guard ht found.1 a.events in
    let items = c.push_replaced.new.steps.items in
    record {
      guard = keep _ _ _ a.guard;
      broken = keep _ _ _ a.broken;
      continued = keep _ _ _ a.continued;
      numbers = row_shown old now keep (register_kind G) 0 c.args.state.now.registers.items s.numbers a.numbers;
      kept = cells_shown old now keep (cell_kind G) 0 c.args.state.now.cells.items s.kept a.kept;
      events = subst (λ (z : Option Bool). Live (now Int) items (events_of (s.entries ++ (if s.alive then Seen c.args.node b z ∷ [] else [])))) (sym found.2)
          (subst (Live (now Int) items) (events_replaced s.alive b found.0 s.entries c.args.node) live);
    }

pub returns-in_ok-push_truth-in-None-clause-charge : goal.returns-in_ok-push_truth-in-None-clause-charge
returns-in_ok-push_truth-in-None-clause-charge g c = rw c.in-None.is c.in_ok-push_truth-in-None.ensures.charge

pub returns-in_ok-push_replaced-in-Some-clause-charge : goal.returns-in_ok-push_replaced-in-Some-clause-charge
returns-in_ok-push_replaced-in-Some-clause-charge g c = rw c.in-Some.is c.in_ok-push_replaced-in-Some.ensures.charge

pub returns-in_ok-push_truth-in-None-clause-cells : goal.returns-in_ok-push_truth-in-None-clause-cells
returns-in_ok-push_truth-in-None-clause-cells g c = refl

pub returns-in_ok-push_replaced-in-Some-clause-cells : goal.returns-in_ok-push_replaced-in-Some-clause-cells
returns-in_ok-push_replaced-in-Some-clause-cells g c = refl
