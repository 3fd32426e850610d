use Rattle.std.proofs.Common.{ℕ, subst, sym, refl, arith}
use Rattle.stk_solver.specs.declared.marks.Marks.{Marks}
use Rattle.stk_solver.proofs.Leading.{IsShorter, guided_lower, shorter_step}
use Rattle.stk_solver.proofs.marks.Marks.shorten.Goals.{then-place-bound+in_ok-step_over, else-place-bound}
use Rattle.stk_solver.proofs.marks.Marks.shorten.Goals as goal

pub loop-place-init : goal.loop-place-init
loop-place-init c =
    let q = c.requires in
    record {
      noted = q.noted;
      vars = refl;
      bound_low = omega arith;
      guided = guided_lower c.args.store.now c.args.trail.now.assigned.literals c.args.low c.args.point c.args.self.now.marked.items c.args.self.now.hints.items q.point.late q.guided;
      point = q.point;
    }

pub loop-place-preserved : goal.loop-place-preserved
loop-place-preserved c =
    let t = c.args.trail.now.assigned.literals in
    let cs = c.args.store.now in
    let out : Marks → ℕ → Type 0 = λ f b. IsShorter cs t c.args.self.now.vars c.args.low c.args.point b f in
    elim c.if-place-bound.branch [
      | then-place-bound+in_ok-step_over w ↦
          let e = w.in_ok-step_over.ensures in
          let step = shorter_step cs t c.args.self.now.vars c.args.low c.args.point c.loop-place.bound _ c.loop-place.self w.step_over.new.self c.assigned.ensures.facts.fresh w.if-place-bound.true e.noted e.vars e.guided e.within c.loop-place.invariant in
          subst (λ f. out f c.if-place-bound.bound) (sym w.self-is) (subst (λ b. out w.step_over.new.self b) (sym w.bound-is) step)
      | else-place-bound w ↦ subst (λ f. out f c.if-place-bound.bound) (sym w.self-is) (subst (λ b. out c.loop-place.self b) (sym w.bound-is) c.loop-place.invariant)
    ]
