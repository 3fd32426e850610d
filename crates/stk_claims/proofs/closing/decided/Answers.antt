use Rattle.std.proofs.Common.{inl, inr, subst}
use Rattle.stk_meaning.specs.Findings.{members}
use Rattle.stk_terms.specs.Terms.{Stored}
use Rattle.stk_query.specs.Verdicts.{IsVerdict}
use Rattle.stk_claims.specs.Closing.{typing_of, without_of, tree_of}
use Rattle.stk_claims.proofs.Asked.{proved, spent, no_start, not_tried}
use Rattle.stk_claims.proofs.closing.decided.Goals as goal

pub returns-in-Refuted-clause-closes : goal.returns-in-Refuted-clause-closes
returns-in-Refuted-clause-closes g c =
    let x = c.args.function.now in
    let r = c.args.report.now in
    let own = c.in_ok-own.own in
    let v = c.in_ok-verdict.verdict in
    let is = subst (λ (s : Stored). IsVerdict s own.term.0 x.budget v) c.terms.ensures.same c.in_ok-verdict.ensures.verdict in
    proved (typing_of x) (without_of x) (tree_of x) r.candidate (members r.needs.now) own.symbols.terms own.term.0 c.in_ok-own.ensures.goal x.budget v is c.in-Refuted.list c.in-Refuted.derivation c.in-Refuted.is

pub returns-in-Undecided-clause-closes : goal.returns-in-Undecided-clause-closes
returns-in-Undecided-clause-closes g c =
    let x = c.args.function.now in
    let r = c.args.report.now in
    let own = c.in_ok-own.own in
    let v = c.in_ok-verdict.verdict in
    let is = subst (λ (s : Stored). IsVerdict s own.term.0 x.budget v) c.terms.ensures.same c.in_ok-verdict.ensures.verdict in
    spent (typing_of x) (without_of x) (tree_of x) r.candidate (members r.needs.now) own.symbols.terms own.term.0 c.in_ok-own.ensures.goal x.budget v is c.in-Undecided.field-0 c.in-Undecided.field-1 c.in-Undecided.is

pub unreachable-requires : goal.unreachable-requires
unreachable-requires g c =
    let x = c.args.function.now in
    let r = c.args.report.now in
    let own = c.in_ok-own.own in
    let v = c.in_ok-verdict.verdict in
    let is = subst (λ (s : Stored). IsVerdict s own.term.0 x.budget v) c.terms.ensures.same c.in_ok-verdict.ensures.verdict in
    elim c.in-Satisfied.is [
      | inl h ↦ no_start (typing_of x) (without_of x) (tree_of x) r.candidate (members r.needs.now) own.symbols.terms own.term.0 c.in_ok-own.ensures.goal x.budget v is h.0 h.1 c.requires.none
      | inr e ↦ not_tried (typing_of x) (without_of x) (tree_of x) r.candidate (members r.needs.now) own.symbols.terms own.term.0 c.in_ok-own.ensures.goal x.budget v is e c.requires.wide
    ]
