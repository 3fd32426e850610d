use Rattle.std.proofs.Common.{◌≡◌, ◌+◌, ◌<◌, ◌^◌, length, map, slice_get, Some, sym, ap, subst, ◌∙◌}
use Rattle.std.specs.Prelude.{sum, IfOk}
use Rattle.stk_numbers.specs.Kinds.{width_of}
use Rattle.stk_meaning.specs.Lists.{candidates}
use Rattle.stk_terms.specs.Terms.{Stored}
use Rattle.stk_terms.specs.Values.{width_at}
use Rattle.stk_terms.specs.Cost.{cost}
use Rattle.stk_rewrite.specs.Normal.{IsNormal}
use Rattle.stk_findings.specs.Asked.{AskedFunction, AreNever, typing_asked, without_asked, tree_asked}
use Rattle.stk_goals.specs.Queries.{IsGoalOf}
use Rattle.stk_findings.specs.Answers.{IsRightAnswer}
use Rattle.stk_goals.proofs.Answered.{has_room}
use Rattle.stk_findings.proofs.Nevers.{nevers_stay}
use Rattle.stk_findings.proofs.goals.FunctionGoals.ask.Goals as goal

pub add_goal-requires-clause-goals : goal.add_goal-requires-clause-goals
add_goal-requires-clause-goals g c = c.self.invariant.goals

pub add_goal-requires-clause-at : goal.add_goal-requires-clause-at
add_goal-requires-clause-at g c = subst (λ (a : AskedFunction). slice_get (candidates (typing_asked a) (tree_asked a)) c.args.query.now.position ≡ Some c.args.query.now.candidate) (sym c.self.view_is) c.requires.at

pub invariant_of-self : goal.invariant_of-self
invariant_of-self g c = record {
  kinds_are = c.self.invariant.kinds_are;
  goals = c.in_err-term.ensures.goals;
  never = nevers_stay _ _ c.in_err-term.ensures.stays _ c.self.invariant.never;
}

pub answered-requires-clause-exists : goal.answered-requires-clause-exists
answered-requires-clause-exists g c = subst (λ (s : Stored). c.in_ok-term.term.0 < length s.terms) (sym c.terms.ensures.same) c.in_ok-term.ensures.normal.exists_

pub answered-requires-clause-one : goal.answered-requires-clause-one
answered-requires-clause-one g c = subst (λ (s : Stored). width_at s c.in_ok-term.term.0 ≡ 1) (sym c.terms.ensures.same) c.in_ok-term.ensures.one

pub answered-requires-clause-normal : goal.answered-requires-clause-normal
answered-requires-clause-normal g c = subst (λ (s : Stored). IsNormal s c.in_ok-term.term.0) (sym c.terms.ensures.same) c.in_ok-term.ensures.normal

pub answered-requires-clause-room : goal.answered-requires-clause-room
answered-requires-clause-room g c =
    let a : AskedFunction = record { tables = c.self.inside.tables.now; function = c.self.inside.function.now } in
    let q = c.args.query.now in
    subst (λ (s : Stored). sum s.inputs + cost s c.in_ok-term.term.0 < 2 ^ 29) (sym c.terms.ensures.same)
    (has_room (typing_asked a) (without_asked a) (tree_asked a) q.candidate q.set.now c.add_goal.new.symbols.terms c.in_ok-term.term.0 c.in_ok-term.ensures.goal c.in_ok-term.ensures.goals.light)

pub answered-requires-clause-inputs : goal.answered-requires-clause-inputs
answered-requires-clause-inputs g c =
    ap (λ (s : Stored). s.inputs) c.terms.ensures.same ∙ c.in_ok-term.ensures.goal.inputs ∙ ap (map width_of) (sym (c.as_slice.ensures.value ∙ c.self.invariant.kinds_are))

pub answered-requires-clause-never : goal.answered-requires-clause-never
answered-requires-clause-never g c = subst (λ (s : Stored). AreNever s c.self.inside.asked.nevers.items) (sym c.terms.ensures.same) (nevers_stay _ _ c.in_ok-term.ensures.stays _ c.self.invariant.never)

pub invariant_of-self-2 : goal.invariant_of-self-2
invariant_of-self-2 g c = record {
  kinds_are = c.self.invariant.kinds_are;
  goals = c.in_ok-term.ensures.goals;
  never = subst (λ (s : Stored). AreNever s c.answered.new.asked.nevers.items) c.terms.ensures.same c.answered.ensures.never;
}

pub returns-clause-right : goal.returns-clause-right
returns-clause-right g c =
    let a : AskedFunction = record { tables = c.self.inside.tables.now; function = c.self.inside.function.now } in
    let q = c.args.query.now in
    let there = subst (λ (s : Stored). IsGoalOf (typing_asked a) (without_asked a) (tree_asked a) q.candidate q.set.now s c.in_ok-term.term.0) (sym c.terms.ensures.same) c.in_ok-term.ensures.goal in
    let right = c.answered.ensures.right (typing_asked a) (without_asked a) (tree_asked a) q.candidate q.set.now (c.as_slice.ensures.value ∙ c.self.invariant.kinds_are) there in
    subst (λ (x : AskedFunction). IfOk c.answered.result (IsRightAnswer (typing_asked x) (without_asked x) (tree_asked x) q.candidate q.set.now c.args.budget)) c.self.view_is right
