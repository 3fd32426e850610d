use Rattle.std.proofs.Common.{◌++◌, get_or, take, subst, sym, ◌∙◌, arith, inl, inr}
use Rattle.std.proofs.lemmas.Bool.{false≢true, cases_eq}
use Rattle.std.proofs.lemmas.List.{get_or_default}
use Rattle.std.proofs.lemmas.List.Elements.{All-push}
use Rattle.stk_clauses.specs.Literals.{AreBelow}
use Rattle.stk_clauses.specs.declared.derivation.Derived.{Derived}
use Rattle.stk_clauses.specs.Derivations.{clauses_of_steps, IsStep}
use Rattle.stk_clauses.proofs.Steps.{clauses_more}
use Rattle.stk_check.proofs.checking.refutes.Goals as goal

pub returns-then-not-is_step : goal.returns-then-not-is_step
returns-then-not-is_step c =
    let i = c.loop-i.i in
    let s = c.index-steps-i.result in
    let earlier = take i c.args.steps.now in (
      λ e. absurd (false≢true e),
      λ r.
          let t : IsStep c.args.vars c.args.given.now earlier s = subst (λ x. IsStep c.args.vars c.args.given.now earlier x) (sym c.index-steps-i.is) (r.each i s c.loop-i-test.true) in
          let u = c.is_step.ensures.holds.1 t in cc (u, c.if-not-is_step.true),
    )

pub loop-i-preserved : goal.loop-i-preserved
loop-i-preserved c =
    let i = c.loop-i.i in
    let s = c.index-steps-i.result in
    let steps = c.args.steps.now in
    let t : IsStep c.args.vars c.args.given.now (take i steps) s = c.is_step.ensures.holds.0 c.if-not-is_step.false in
    record {
      steps = λ k d lt. elim (cases_eq k i) [
        | inl e ↦ subst (λ n. IsStep c.args.vars c.args.given.now (take n steps) (get_or steps n d)) (sym e)
            (subst (λ x. IsStep c.args.vars c.args.given.now (take i steps) x) (c.index-steps-i.is ∙ get_or_default steps i s d c.loop-i-test.true) t)
        | inr n ↦ c.loop-i.invariant.steps k d (omega (arith, lt, n))
      ];
      below = rw (clauses_more c.args.given.now steps i s c.loop-i-test.true)
          (All-push (AreBelow c.args.vars) (c.args.given.now ++ clauses_of_steps (take i steps)) (get_or steps i s).clause c.loop-i.invariant.below (subst (λ (x : Derived). AreBelow c.args.vars x.clause) c.index-steps-i.is t.0));
      fresh = c.is_step.ensures.bounded;
      sized = omega (arith, c.loop-i.invariant.sized);
    }

pub returns : goal.returns
returns c =
    let steps = c.args.steps.now in (
      (λ e.
          let h = c.ends_empty.ensures.0 e in
          record { some = h.0; each = λ k d lt. c.loop-i.invariant.steps k d (omega (arith, lt, c.loop-i-test.false)); empty = h.1 }),
      (λ r. c.ends_empty.ensures.1 (r.some, r.empty)),
    )
