use Rattle.std.proofs.Common.{◌∙◌, pos, ap}
use Rattle.stk_terms.specs.Values.{bit}
use Rattle.stk_numbers.specs.Kinds.{residue, decoded}
use Rattle.stk_values.specs.Standing.{stands}
use Rattle.stk_symbols.proofs.Made.{obeys_before as B, term_below}
use Rattle.stk_values.proofs.InRange.{stands_fits}
use Rattle.stk_symbols.proofs.Moves.{move_alike, residue_again, leaving_bits}
use Rattle.stk_symbols.proofs.moving.breaks_move.Goals as goal

pub returns-clause-value : goal.returns-clause-value
returns-clause-value c = λ numbers o.
    let k = c.args.kind in
    let p = numbers c.args.base.0 in
    let n = numbers c.args.step.0 in
    let x = stands k n in
    let o_t = B _ _ _ numbers c.in_ok-v.ensures.grown o in
    let o_r = B _ _ _ numbers c.in_ok-t.ensures.grown o_t in
    let o_s = B _ _ _ numbers c.in_ok-r.ensures.grown o_r in
    let o_b = B _ _ _ numbers c.in_ok-s.ensures.grown o_s in
    let o_old = B _ _ _ numbers c.in_ok-b.ensures.grown o_b in
    let h = term_below c.args.terms.now numbers _ c.args.base.0 o_old c.requires.base in
    let l = term_below c.args.terms.now numbers _ c.args.step.0 o_old c.requires.step in
    let b = c.in_ok-b.ensures.value numbers o_b in
    let s = c.in_ok-s.ensures.value numbers o_s ∙ (λ j. residue 96 (decoded (c.signed.ensures j) (c.width.ensures j) n)) in
    let r = c.in_ok-r.ensures.value numbers o_r
    ∙ move_alike 96 (numbers c.in_ok-b.b.0) p (pos (numbers c.in_ok-s.s.0)) x c.args.size c.args.minus (ap (λ m. residue 96 (pos m)) b ∙ residue_again 96 (pos p)) (ap (λ m. residue 96 (pos m)) s ∙ residue_again 96 x) in
    c.in_ok-v.ensures.value numbers o
    ∙ (c.in_ok-t.ensures.value numbers o_t ∙ ap bit (leaving_bits p x c.args.size c.args.minus k (numbers c.in_ok-r.r.0) h (stands_fits k n l) c.requires.size r))
