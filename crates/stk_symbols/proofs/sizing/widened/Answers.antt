use Rattle.std.proofs.Common.{◌∙◌, sym, ap}
use Rattle.stk_symbols.proofs.Made.{obeys_before as B, term_below}
use Rattle.stk_numbers.specs.Kinds.{residue, decoded}
use Rattle.stk_symbols.proofs.Sizes.{signs_in_front, zeros_in_front}
use Rattle.stk_symbols.proofs.sizing.widened.Goals as goal

pub returns-in_ok-v-clause-value : goal.returns-in_ok-v-clause-value
returns-in_ok-v-clause-value c = λ numbers o.
    let n = numbers c.args.value.0 in
    let h = term_below c.args.terms.now numbers c.args.from c.args.value.0 (B _ _ _ numbers c.in_ok-v.ensures.grown o) c.requires.term in
    c.in_ok-v.ensures.value numbers o ∙ (signs_in_front c.args.from c.args.to n h c.requires.wider ∙ ap (λ s. residue c.args.to (decoded s c.args.from n)) (sym c.if-sign.true))

pub returns-in_ok-v-2-clause-value : goal.returns-in_ok-v-2-clause-value
returns-in_ok-v-2-clause-value c = λ numbers o.
    let n = numbers c.args.value.0 in
    let h = term_below c.args.terms.now numbers c.args.from c.args.value.0 (B _ _ _ numbers c.in_ok-v-2.ensures.grown o) c.requires.term in
    c.in_ok-v-2.ensures.value numbers o ∙ (zeros_in_front c.args.from c.args.to n h c.requires.wider ∙ ap (λ s. residue c.args.to (decoded s c.args.from n)) (sym c.if-sign.false))
