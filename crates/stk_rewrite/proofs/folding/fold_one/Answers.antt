use Rattle.std.proofs.Common.{◌∙◌, sym, ap, []}
use Rattle.stk_terms.specs.Values.{width_by, number_by}
use Rattle.stk_rewrite.proofs.Folds.{fold_one}
use Rattle.stk_rewrite.proofs.folding.fold_one.Goals as goal

pub returns : goal.returns
returns c = fold_one c.args.terms.now c.requires.sound c.args.op c.args.a c.requires.exists c.args.x c.requires.first c.single_width.result c.apply-number.result c.requires.arity c.requires.fits
    (λ i v. ap (λ k. width_by i c.args.op k v) (sym c.width-width.ensures.is) ∙ c.single_width.ensures i v)
    (c.apply-number.ensures ∙ ap (λ k. number_by [] c.args.op k 0 c.args.x 0 0) c.width-width.ensures.is)
