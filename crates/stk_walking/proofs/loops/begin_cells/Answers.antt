use Rattle.std.proofs.Common.{◌≡◌, length, refl, ap, ◌∙◌, subst, arith, ◌≤◌}
use Rattle.stk_tree.specs.View.{view_statement_form}
use Rattle.stk_meaning.specs.Changes.{forgotten_in}
use Rattle.stk_meaning.specs.Paths.{KeptNumbers}
use Rattle.stk_walking.specs.Stands.{CellsShow}
use Rattle.stk_walking.proofs.Carried.{cells_made, cells_shown, keeps_then}
use Rattle.stk_walking.proofs.KeptCells.{cells_length}
use Rattle.stk_walking.proofs.Removing.{first_removed, next_removed, each_removed}
use Rattle.stk_walking.proofs.Costing.{costs_counted}
use Rattle.stk_walking.proofs.loops.begin_cells.Goals as goal

pub loop-place-init : goal.loop-place-init
loop-place-init g c =
    let made = g.V.Values.made in
    let shows = g.V.Values.shows in
    let k1 = c.opposite.ensures.keeps in (
      refl,
      k1,
      c.in_ok-stays.ensures.makes,
      (λ m b served hg. c.in_ok-stays.ensures.value m b served hg),
      (λ row h. cells_made (made c.args.values.now) (made c.opposite.new.self) k1.made_still row 0 c.args.cells.now.items h),
      (λ m row b kept served hg h. cells_shown (shows c.args.values.now m) (shows c.opposite.new.self m) (k1.shown m) row 0 c.args.cells.now.items kept h),
      omega (arith, c.in_ok-stays.ensures.charge),
    )

pub loop-place-preserved : goal.loop-place-preserved
loop-place-preserved g c =
    let V = g.V.Values in
    let shows = g.V.Values.shows in
    let so_far = c.loop-place.invariant in
    let k2 = c.begin_cell.ensures.keeps in (
      c.in_ok-begin_cell.ensures.length ∙ so_far.0,
      keeps_then V.serves V.has_key V.made V.shows c.args.values.now c.loop-place.values c.begin_cell.new.values so_far.1 k2,
      k2.made_still _ _ so_far.2,
      (λ m b served hg. k2.shown m _ _ _ (so_far.3 m b served hg)),
      (λ row h. c.in_ok-begin_cell.ensures.made row (so_far.4 row h)),
      (λ m row b kept served hg h.
          subst (λ (z : KeptNumbers). CellsShow (shows c.begin_cell.new.values m) row 0 c.begin_cell.new.cells.items z) (next_removed c.loop-place.place b (forgotten_in (g.O.RunSetting.setting c.args.out.now) (view_statement_form c.args.form.now)) kept)
          (c.in_ok-begin_cell.ensures.shown m row b (first_removed c.loop-place.place 0 b (forgotten_in (g.O.RunSetting.setting c.args.out.now) (view_statement_form c.args.form.now)) kept) (so_far.1.served m served) (so_far.3 m b served hg) (so_far.5 m row b kept served hg h))),
      omega (arith, so_far.6, c.in_ok-begin_cell.ensures.charge),
    )

pub returns-clause-shown : goal.returns-clause-shown
returns-clause-shown g c = λ m row b kept served hg h.
    let shows = g.V.Values.shows in
    let size = cells_length (shows c.args.values.now m) row 0 c.args.cells.now.items kept h in
    let n : c.loop-place.place ≡ length kept = omega (arith, c.loop-place.auto.place-end, size, c.args.cells.now.ok.0) in
    subst (λ (z : KeptNumbers). CellsShow (shows c.loop-place.values m) row 0 c.loop-place.cells.items z) (ap (λ k. first_removed k 0 b (forgotten_in (g.O.RunSetting.setting c.args.out.now) (view_statement_form c.args.form.now)) kept) n ∙ each_removed b (forgotten_in (g.O.RunSetting.setting c.args.out.now) (view_statement_form c.args.form.now)) kept)
    (c.loop-place.invariant.5 m row b kept served hg h)

pub returns-clause-cost : goal.returns-clause-cost
returns-clause-cost g c =
    λ kept.
    let n : c.loop-place.place ≤ length c.args.cells.now.items = omega (arith, c.loop-place.auto.place-end, c.args.cells.now.ok.0) in
    costs_counted c.loop-place.place c.loop-place.invariant.0 n c.loop-place.invariant.6
