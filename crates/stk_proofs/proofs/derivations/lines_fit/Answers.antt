use Rattle.std.proofs.Common.{[], length, subst, sym, ◌∙◌, refl}
use Rattle.std.proofs.lemmas.Bool.{false≢true}
use Rattle.std.specs.List.{All}
use Rattle.std.proofs.lemmas.List.{take_all, get_or_read_under}
use Rattle.std.proofs.lemmas.List.Elements.{All-more}
use Rattle.stk_proofs.specs.Lrat.{FitsLratLine}
use Rattle.stk_proofs.proofs.derivations.lines_fit.Goals as goal

pub loop-step-preserved : goal.loop-step-preserved
loop-step-preserved c =
    let is = get_or_read_under c.args.steps.now c.loop-step.step-index (length c.args.steps.now) c.step-item.result (record { clause = []; hints = [] }) c.step-item.is c.loop-step-test.true refl in
    All-more FitsLratLine c.args.steps.now c.loop-step.step-index (record { clause = []; hints = [] }) c.loop-step-test.true c.loop-step.invariant (subst FitsLratLine is (c.line_fits.ensures.0 c.if-not-line_fits.false))

pub returns : goal.returns
returns c = ((λ _. subst (All FitsLratLine) (take_all c.loop-step.step-index c.args.steps.now c.loop-step-test.false) c.loop-step.invariant), (λ _. refl))

pub returns-then-not-line_fits : goal.returns-then-not-line_fits
returns-then-not-line_fits c = (
  (λ e. absurd (false≢true e)),
  (λ all. sym c.if-not-line_fits.true ∙ c.line_fits.ensures.1 (subst FitsLratLine (sym c.step-item.is) (all c.loop-step.step-index c.step-item.result c.loop-step-test.true))),
)
