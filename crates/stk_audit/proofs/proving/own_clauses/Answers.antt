use Rattle.std.proofs.Common.{Some, refl, subst}
use Rattle.stk_audit.specs.Stepping.{IsCompared}
use Rattle.stk_audit.proofs.Closing.{clauses_unread, clauses_other, clauses_same}
use Rattle.stk_audit.proofs.proving.own_clauses.Goals as goal

pub returns-in-Unread-clause-step : goal.returns-in-Unread-clause-step
returns-in-Unread-clause-step g c = λ lines.
    clauses_unread (g.A.Answering.world (g.A.Answering.about c.args.answering.now)) c.args.progress.now c.args.candidate (g.A.Answering.hand c.args.answering.now) c.requires.hand c.requires.shown lines c.args.block.now c.fails.result c.fails.ensures (subst (IsCompared c.args.block.now c.in_ok-own.own) c.in-Unread.is c.in_ok-compare.ensures)

pub returns-in-Other-clause-step : goal.returns-in-Other-clause-step
returns-in-Other-clause-step g c = λ lines.
    let found = subst (IsCompared c.args.block.now c.in_ok-own.own) c.in-Other.is c.in_ok-compare.ensures in
    clauses_other (g.A.Answering.world (g.A.Answering.about c.args.answering.now)) c.args.progress.now c.args.candidate (g.A.Answering.hand c.args.answering.now) c.requires.hand c.requires.shown lines c.args.block.now c.fails-in-Other.result c.deref.result.now c.in_ok-own.own found.0 c.deref.ensures.value c.in_ok-own.ensures.stand c.fails-in-Other.ensures found.1 found.2

pub returns-in-Same-clause-step : goal.returns-in-Same-clause-step
returns-in-Same-clause-step g c = λ lines.
    clauses_same (g.A.Answering.world (g.A.Answering.about c.args.answering.now)) c.args.progress.now c.args.candidate (g.A.Answering.hand c.args.answering.now) c.requires.hand c.requires.shown lines c.args.block.now (record c.args.progress.now { clauses = Some c.in_ok-own.own }) c.deref.result.now c.in_ok-own.own c.deref.ensures.value c.in_ok-own.ensures.stand
    (subst (IsCompared c.args.block.now c.in_ok-own.own) c.in-Same.is c.in_ok-compare.ensures) refl refl
