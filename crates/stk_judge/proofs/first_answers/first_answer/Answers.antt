use Rattle.std.proofs.Common.{◌≡◌, ℕ, subst, Option}
use Rattle.std.specs.Prelude.{MatchOption}
use Rattle.stk_hits.specs.Queries.{NoneIsFree, IsFirstFree}
use Rattle.stk_hits.proofs.Starts.{no_answer, first_answer}
use Rattle.stk_judge.proofs.first_answers.first_answer.Goals as goal

pub returns-in-None : goal.returns-in-None
returns-in-None c runs k all d many same =
    no_answer c.args.kinds.now runs all k c.args.set.now
    (subst (λ (o : Option ℕ). MatchOption o (NoneIsFree runs k c.args.set.now) (IsFirstFree runs k c.args.set.now)) c.in-None.is (c.in_ok-first_free.ensures runs k d same))

pub returns-in_ok-start-in-Some : goal.returns-in_ok-start-in-Some
returns-in_ok-start-in-Some c runs k all d many same =
    first_answer c.args.kinds.now runs all k c.args.set.now c.in-Some.number c.in_ok-start-in-Some.start.numbers many c.in_ok-start-in-Some.ensures
    (subst (λ (o : Option ℕ). MatchOption o (NoneIsFree runs k c.args.set.now) (IsFirstFree runs k c.args.set.now)) c.in-Some.is (c.in_ok-first_free.ensures runs k d same))
