use Rattle.std.proofs.Common.{arith}
use Rattle.stk_symbols.proofs.Made.{term_below}
use Rattle.stk_symbols.proofs.Moves.{goes_on, failed_grown, ended_value}
use Rattle.stk_symbols.proofs.moving.moved_by.Goals as goal

pub returns-in_err-sum-clause-grown : goal.returns-in_err-sum-clause-grown
returns-in_err-sum-clause-grown c =
    let a = c.args in
    let l = c.loop-place in
    failed_grown a.width a.base.0 a.step.0 a.size a.minus a.terms.now l.terms c.moved_by_bit.new.terms l.sum.0 l.rest l.place l.invariant c.in_err-sum.ensures.grown

pub loop-place-preserved : goal.loop-place-preserved
loop-place-preserved c =
    let a = c.args in
    let l = c.loop-place in
    let g = c.in_ok-sum.ensures in
    goes_on a.width a.base.0 a.step.0 a.size a.minus a.terms.now l.terms c.moved_by_bit.new.terms l.sum.0 c.in_ok-sum.sum.0 l.rest l.place (omega arith) l.invariant g.grown g.made g.value

pub returns-clause-value : goal.returns-clause-value
returns-clause-value c = λ numbers o.
    let a = c.args in
    let l = c.loop-place in
    let h = term_below l.terms numbers a.width l.sum.0 o l.invariant.term in
    ended_value a.width a.base.0 a.step.0 a.size a.minus a.terms.now l.terms l.sum.0 l.rest l.place (omega arith) l.invariant numbers o h
