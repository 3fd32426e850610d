use Rattle.std.proofs.Common.{[], ℕ, List, pos, replicate, length, None, refl, sym, subst, ap, ◌∙◌, arith}
use Rattle.stk_meaning.specs.Keys.{parameter_key}
use Rattle.stk_meaning.specs.Paths.{with_parameters}
use Rattle.stk_kinded.specs.Kinds.{register_kind, cell_kind}
use Rattle.stk_walking.specs.declared.state.GuardedEvent.{GuardedEvent}
use Rattle.stk_walking.specs.Events.{Live}
use Rattle.stk_walking.specs.Stands.{StepsMade}
use Rattle.stk_ctype.specs.declared.kind.IntKind.TheVariants.{Int}
use Rattle.stk_walking.proofs.Carried.{keeps_then, row_made, row_shown, cells_made, cells_shown}
use Rattle.stk_walk.proofs.start.start.Goals as goal

pub returns-clause-keeps : goal.returns-clause-keeps
returns-clause-keeps g c =
    let V = g.V.Values in
    let k36 = keeps_then V.serves V.has_key V.made V.shows c.empty_cells.new.values c.constant.new.self c.zero-2.new.values c.constant.ensures.keeps (keeps_then V.serves V.has_key V.made V.shows c.constant.new.self c.zero.new.values c.zero-2.new.values c.zero.ensures.keeps c.zero-2.ensures.keeps) in
    let k26 = keeps_then V.serves V.has_key V.made V.shows c.set_parameters.new.values c.empty_cells.new.values c.zero-2.new.values c.in_ok-cells.ensures.keeps k36 in
    let k16 = keeps_then V.serves V.has_key V.made V.shows c.zeros.new.values c.set_parameters.new.values c.zero-2.new.values c.in_ok-set_parameters.ensures.keeps k26 in
    keeps_then V.serves V.has_key V.made V.shows c.args.values.now c.zeros.new.values c.zero-2.new.values c.in_ok-registers.ensures.keeps k16

pub returns-clause-made : goal.returns-clause-made
returns-clause-made g c =
    let V = g.V.Values in
    let made = g.V.Values.made in
    let G = g.O.RunSetting.setting c.args.out.now in
    let k46 = keeps_then V.serves V.has_key V.made V.shows c.constant.new.self c.zero.new.values c.zero-2.new.values c.zero.ensures.keeps c.zero-2.ensures.keeps in
    let k36 = keeps_then V.serves V.has_key V.made V.shows c.empty_cells.new.values c.constant.new.self c.zero-2.new.values c.constant.ensures.keeps k46 in
    let k26 = keeps_then V.serves V.has_key V.made V.shows c.set_parameters.new.values c.empty_cells.new.values c.zero-2.new.values c.in_ok-cells.ensures.keeps k36 in
    record {
      guard = k46.made_still _ _ c.in_ok-guard.ensures.makes;
      broken = c.zero-2.ensures.keeps.made_still _ _ c.in_ok-broken.ensures.makes;
      continued = c.in_ok-continued.ensures.makes;
      registers = row_made (made c.set_parameters.new.values) (made c.zero-2.new.values) k26.made_still (register_kind G) 0 c.set_parameters.new.row.items c.in_ok-set_parameters.ensures.made;
      cells = cells_made (made c.empty_cells.new.values) (made c.zero-2.new.values) k36.made_still (cell_kind G) 0 c.in_ok-cells.cells.items c.in_ok-cells.ensures.makes;
      steps = subst (λ (xs : List (GuardedEvent g.row.V-Value.Denot)). StepsMade (made c.zero-2.new.values) xs) (sym c.new.ensures.items) tt;
    }

pub returns-clause-stands : goal.returns-clause-stands
returns-clause-stands g c = λ m served.
    let V = g.V.Values in
    let shows = g.V.Values.shows in
    let now = shows c.zero-2.new.values m in
    let G = g.O.RunSetting.setting c.args.out.now in
    let sizes = c.args.sizes.now in
    let numbers = λ (k : ℕ). g.O.WalkSetting.under c.args.out.now m (parameter_key k) in
    let zeros = replicate sizes.registers (pos 0) in
    let k1 = c.in_ok-registers.ensures.keeps in
    let k2 = c.in_ok-set_parameters.ensures.keeps in
    let k3 = c.in_ok-cells.ensures.keeps in
    let k4 = c.constant.ensures.keeps in
    let k46 = keeps_then V.serves V.has_key V.made V.shows c.constant.new.self c.zero.new.values c.zero-2.new.values c.zero.ensures.keeps c.zero-2.ensures.keeps in
    let k36 = keeps_then V.serves V.has_key V.made V.shows c.empty_cells.new.values c.constant.new.self c.zero-2.new.values k4 k46 in
    let k26 = keeps_then V.serves V.has_key V.made V.shows c.set_parameters.new.values c.empty_cells.new.values c.zero-2.new.values k3 k36 in
    let s1 = k1.served m served in
    let s2 = k2.served m s1 in
    let s3 = k3.served m s2 in
    let s4 = k4.served m s3 in
    record {
      guard = k46.shown m _ _ _ (c.in_ok-guard.ensures.value m s3);
      broken = c.zero-2.ensures.keeps.shown m _ _ _ (c.in_ok-broken.ensures.value m s4);
      continued = c.in_ok-continued.ensures.value m (c.zero.ensures.keeps.served m s4);
      numbers = row_shown (shows c.set_parameters.new.values m) now (k26.shown m) (register_kind G) 0 c.set_parameters.new.row.items (with_parameters sizes.parameters.now numbers zeros) (c.in_ok-set_parameters.ensures.value m zeros s1 (c.in_ok-registers.ensures.value m served));
      kept = cells_shown (shows c.empty_cells.new.values m) now (k36.shown m) (cell_kind G) 0 c.in_ok-cells.cells.items (replicate (length sizes.kept.now) None) (c.in_ok-cells.ensures.value m s2);
      events = subst (λ (xs : List (GuardedEvent g.row.V-Value.Denot)). Live (now Int) xs []) (sym c.new.ensures.items) refl;
    }

pub returns-clause-cells : goal.returns-clause-cells
returns-clause-cells g c = c.in_ok-cells.ensures.count ∙ ap length c.requires.kept

pub returns-clause-charge : goal.returns-clause-charge
returns-clause-charge g c = omega (arith, c.in_ok-registers.ensures.charge, c.in_ok-set_parameters.ensures.charge, c.in_ok-cells.ensures.charge, c.in_ok-guard.ensures.charge, c.in_ok-broken.ensures.charge, c.in_ok-continued.ensures.charge)
