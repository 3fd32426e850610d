use Rattle.std.proofs.Common.{◌∙◌, ◌*◌, ◌^◌, pos, sym, ap}
use Rattle.stk_numbers.specs.Kinds.{residue}
use Rattle.stk_numbers.specs.Values.{exact_move}
use Rattle.stk_symbols.proofs.Made.{obeys_before as B, term_below}
use Rattle.stk_symbols.proofs.Moves.{plus_once, minus_once}
use Rattle.stk_symbols.proofs.moving.moved_once.Goals as goal

pub returns-in_ok-v-clause-value : goal.returns-in_ok-v-clause-value
returns-in_ok-v-clause-value c = λ numbers o.
    let w = c.args.width in
    let b = numbers c.args.base.0 in
    let s = numbers c.args.step.0 * 2 ^ c.args.place in
    let o_s = B _ _ _ numbers c.in_ok-v.ensures.grown o in
    let o_old = B _ _ _ numbers c.in_ok-s.ensures.grown o_s in
    let h = term_below c.args.terms.now numbers _ c.args.base.0 o_old c.requires.base in
    c.in_ok-v.ensures.value numbers o ∙ (minus_once w b s (numbers c.in_ok-s.s.0) h (c.in_ok-s.ensures.value numbers o_s) ∙ ap (λ m. residue w (exact_move b (pos s) 1 m)) (sym c.if-minus.true))

pub returns-in_ok-v-2-clause-value : goal.returns-in_ok-v-2-clause-value
returns-in_ok-v-2-clause-value c = λ numbers o.
    let w = c.args.width in
    let b = numbers c.args.base.0 in
    let s = numbers c.args.step.0 * 2 ^ c.args.place in
    let o_s = B _ _ _ numbers c.in_ok-v-2.ensures.grown o in
    let o_old = B _ _ _ numbers c.in_ok-s.ensures.grown o_s in
    let h = term_below c.args.terms.now numbers _ c.args.base.0 o_old c.requires.base in
    c.in_ok-v-2.ensures.value numbers o ∙ (plus_once w b s (numbers c.in_ok-s.s.0) h (c.in_ok-s.ensures.value numbers o_s) ∙ ap (λ m. residue w (exact_move b (pos s) 1 m)) (sym c.if-minus.false))
