use Rattle.std.proofs.Common.{◌≡◌, ◌<◌, ℤ, List, length, get_or, ap, ◌∙◌, subst, arith}
use Rattle.std.specs.Prelude.{if◌then◌else◌}
use Rattle.std.proofs.lemmas.Option.{slice_get-get_or}
use Rattle.stk_tree.specs.View.{view_statement_form}
use Rattle.stk_meaning.specs.Changes.{assigned_in}
use Rattle.stk_kinded.specs.Kinds.{register_kind}
use Rattle.stk_walking.specs.Stands.{RowShows}
use Rattle.stk_walking.proofs.Carried.{keeps_none, keeps_then}
use Rattle.stk_walking.proofs.Resetting.{first_reset, next_reset, none_reset, all_reset}
use Rattle.stk_walking.proofs.loop_registers.begin_registers.Goals as goal

pub loop-at-init : goal.loop-at-init
loop-at-init g c =
    let V = g.V.Values in
    let G = g.O.RunSetting.setting c.args.out.now in (
      keeps_none V.serves V.has_key V.made V.shows c.args.values.now,
      c.requires.row,
      (λ m b xs served hg h.
          subst (λ (ys : List ℤ). RowShows (V.shows c.args.values.now m) (register_kind G) 0 c.args.registers.now.items ys) (none_reset b (g.O.WalkSetting.under c.args.out.now m) c.args.node (assigned_in G (view_statement_form c.args.form.now)) xs) h),
      omega arith,
    )

pub loop-at-preserved : goal.loop-at-preserved
loop-at-preserved g c =
    let V = g.V.Values in
    let G = g.O.RunSetting.setting c.args.out.now in
    let js = assigned_in G (view_statement_form c.args.form.now) in
    let so_far = c.loop-at.invariant in
    let within : c.loop-at.at < length js = omega (arith, c.count_slots-at-end.ensures) in
    let there = slice_get-get_or js c.loop-at.at 0 within in (
      keeps_then V.serves V.has_key V.made V.shows c.args.values.now c.loop-at.values c.begin_register.new.values so_far.0 c.begin_register.ensures.keeps,
      c.in_ok-begin_register.ensures.made,
      (λ m b xs served hg h.
          let I = g.O.WalkSetting.under c.args.out.now m in
          subst (λ (ys : List ℤ). RowShows (V.shows c.begin_register.new.values m) (register_kind G) 0 c.begin_register.new.registers.items ys) (next_reset b I c.args.node c.loop-at.at js (get_or js c.loop-at.at 0) xs there)
          (c.in_ok-begin_register.ensures.shown m (get_or js c.loop-at.at 0) b (if b then first_reset I c.args.node c.loop-at.at js xs else xs) there (so_far.0.served m served) (so_far.0.shown m _ _ _ hg) (so_far.2 m b xs served hg h))),
      omega (arith, so_far.3, c.in_ok-begin_register.ensures.charge),
    )

pub returns-clause-shown : goal.returns-clause-shown
returns-clause-shown g c = λ m b xs served hg h.
    let V = g.V.Values in
    let G = g.O.RunSetting.setting c.args.out.now in
    let I = g.O.WalkSetting.under c.args.out.now m in
    let js = assigned_in G (view_statement_form c.args.form.now) in
    let n : c.loop-at.at ≡ length js = omega (arith, c.count_slots-at-end.ensures) in
    subst (λ (ys : List ℤ). RowShows (V.shows c.loop-at.values m) (register_kind G) 0 c.loop-at.registers.items (if b then ys else xs)) (ap (λ k. first_reset I c.args.node k js xs) n ∙ all_reset I c.args.node js xs)
    (c.loop-at.invariant.2 m b xs served hg h)

pub returns-clause-charge : goal.returns-clause-charge
returns-clause-charge g c =
    let G = g.O.RunSetting.setting c.args.out.now in
    let js = assigned_in G (view_statement_form c.args.form.now) in
    let n : c.loop-at.at ≡ length js = omega (arith, c.count_slots-at-end.ensures) in
    omega (arith, n, c.loop-at.invariant.3)
