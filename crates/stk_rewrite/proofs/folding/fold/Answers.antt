use Rattle.std.proofs.Common.{◌∙◌, sym, []}
use Rattle.stk_terms.specs.Values.{width_by, number_by}
use Rattle.stk_rewrite.proofs.Folds.{fold_two}
use Rattle.stk_rewrite.proofs.folding.fold.Goals as goal

pub returns : goal.returns
returns c = fold_two c.args.terms.now c.requires.sound c.args.op c.args.a c.requires.exists c.args.x c.requires.first c.args.b c.args.y c.pair_width.result c.apply-number.result c.requires.second c.requires.arity c.requires.fits
    (λ i. (λ j. width_by i c.args.op (sym c.width-first.ensures.is j) (sym c.width-second.ensures.is j)) ∙ c.pair_width.ensures i)
    (c.apply-number.ensures ∙ (λ j. number_by [] c.args.op (c.width-first.ensures.is j) (c.width-second.ensures.is j) c.args.x c.args.y 0))
