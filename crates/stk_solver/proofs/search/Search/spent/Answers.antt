use Rattle.std.proofs.Common.{length, drop, subst, sym, arith}
use Rattle.std.proofs.lemmas.Result.{IfOk-weaker}
use Rattle.stk_clauses.specs.Derivations.{ConflictStands, IsSpentLog}
use Rattle.stk_solver.specs.Searching.{learnt_steps}
use Rattle.stk_solver.proofs.Logging.{steps_length, learnt_count}
use Rattle.stk_solver.proofs.Spending.{turns_of, conflict_stands}
use Rattle.stk_solver.proofs.search.Search.spent.Goals as goal

pub returns : goal.returns
returns c =
    let s = c.args.self in
    let q = c.requires.search in
    let given = c.args.given.now in
    let ls = s.levels.items in
    let st = conflict_stands s.trail s.store ls q.fits q.levels q.assigned.fresh c.args._conflict c.requires.some (q.full c.requires.some) c.requires.exists c.requires.falsified in
    let made : IsSpentLog s.vars given (length s.log.items) (learnt_steps s given) = record {
      exact = steps_length s.log.items (drop (length given) s.store) (omega (arith, learnt_count given s.store s.log.items q.logged));
      each = q.steps;
      fresh = q.fresh;
      conflict = (turns_of s.trail.assigned.literals ls, subst (λ cs. ConflictStands cs (turns_of s.trail.assigned.literals ls)) q.clauses st);
    } in
    IfOk-weaker c.steps_of_log.result _ _ (λ d e. subst (λ ds. IsSpentLog s.vars given (length s.log.items) ds) (sym e) made) c.steps_of_log.ensures
