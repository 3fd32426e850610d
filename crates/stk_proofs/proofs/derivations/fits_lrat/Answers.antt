use Rattle.stk_proofs.proofs.Fitting.{fits_from, lines_from}
use Rattle.stk_proofs.proofs.derivations.fits_lrat.Goals as goal

pub returns-then-ids_fit : goal.returns-then-ids_fit
returns-then-ids_fit c = (
  (λ e. fits_from c.args.given c.args.derivation.now c.as_slice-steps.result.now c.as_slice-steps.ensures (c.ids_fit.ensures.0 c.if-ids_fit.true) (c.lines_fit.ensures.0 e)),
  (λ h. c.lines_fit.ensures.1 (lines_from c.args.given c.args.derivation.now c.as_slice-steps.result.now c.as_slice-steps.ensures h)),
)
