use Rattle.std.proofs.Common.{◌∙◌, pos, refl, ap}
use Rattle.stk_numbers.specs.Kinds.{residue, decoded}
use Rattle.stk_values.specs.Standing.{stands}
use Rattle.stk_symbols.proofs.Made.{obeys_before as B}
use Rattle.stk_symbols.proofs.Moves.{move_alike, residue_again}
use Rattle.stk_symbols.proofs.moving.moved.Goals as goal

pub returns-clause-value : goal.returns-clause-value
returns-clause-value c = λ numbers o.
    let b = numbers c.args.base.0 in
    let n = numbers c.args.step.0 in
    let x = stands c.args.kind n in
    let o_s = B _ _ _ numbers c.in_ok-v.ensures.grown o in
    let s = c.in_ok-s.ensures.value numbers o_s ∙ (λ j. residue 64 (decoded (c.signed.ensures j) (c.width.ensures j) n)) in
    c.in_ok-v.ensures.value numbers o
    ∙ move_alike 64 b b (pos (numbers c.in_ok-s.s.0)) x c.args.size c.args.minus refl (ap (λ k. residue 64 (pos k)) s ∙ residue_again 64 x)
