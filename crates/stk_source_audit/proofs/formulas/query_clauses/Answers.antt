use Rattle.std.proofs.Common.{sym, subst}
use Rattle.stk_tree.specs.View.{view_function}
use Rattle.stk_function_types.specs.Nodes.{typing_in}
use Rattle.stk_terms.specs.Terms.{Stored}
use Rattle.stk_goals.specs.Queries.{IsGoalOf}
use Rattle.stk_source_audit.proofs.Clauses.{formula_of_goal}
use Rattle.stk_source_audit.proofs.formulas.query_clauses.Goals as goal

pub returns-clause-formula : goal.returns-clause-formula
returns-clause-formula c =
    let p = c.args.tables.now.places in
    let q = c.args.query.now in
    let ty = typing_in p.types in
    let f = view_function c.args.f.now in
    let i = c.in_ok-goal.goal.term.0 in
    let there = subst (λ (s : Stored). IsGoalOf ty p.without f q.candidate q.set.now s i) (sym c.terms.ensures.same) c.in_ok-goal.ensures.goal in
    formula_of_goal ty p.without f q.candidate q.set.now c.terms.result.now i there c.in_ok-own.own c.in_ok-own.ensures.stands c.in_ok-own.ensures.within
