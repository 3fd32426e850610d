use Rattle.std.proofs.Common.{sym, ◌∙◌, arith, refl}
use Rattle.stk_clauses.proofs.Same.{all_same, false_true, not_same, one_same, same_length}
use Rattle.stk_clauses.proofs.comparing.same_store.Goals as goal

pub returns-then-count : goal.returns-then-count
returns-then-count c =
    (λ e. absurd (false_true e), λ e. absurd (same_length c.args.a.now c.args.b.now (λ l. c.if-count.true (c.count.ensures.count ∙ (l ∙ sym c.count-2.ensures.count))) e))

pub returns-then-not-same_clause : goal.returns-then-not-same_clause
returns-then-not-same_clause c = (
  λ e. absurd (false_true e),
  λ e. absurd (not_same c.args.a.now c.args.b.now c.loop-id.id (λ l. false_true (sym c.if-not-same_clause.true ∙ c.same_clause.ensures.1 (c.clause.ensures.clause ∙ (l ∙ sym c.clause-in-loop-id.ensures.clause)))) e),
)

pub loop-id-preserved : goal.loop-id-preserved
loop-id-preserved c =
    one_same c.args.a.now c.args.b.now c.loop-id.id c.loop-id.invariant (sym c.clause.ensures.clause ∙ (c.same_clause.ensures.0 c.if-not-same_clause.false ∙ c.clause-in-loop-id.ensures.clause))

pub returns : goal.returns
returns c =
    let first = c.count.ensures.count in
    let second = c.count-2.ensures.count in
    let third = c.count-id-end.ensures.count in
    let stopped = c.loop-id-test.false in
    let same = c.if-count.false in
    (λ e. all_same c.args.a.now c.args.b.now (omega (arith, first, second, same)) (λ k l. c.loop-id.invariant k (omega (arith, third, stopped, l))), λ e. refl)
