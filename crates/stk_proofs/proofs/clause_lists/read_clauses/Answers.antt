use Rattle.std.proofs.Common.{◌≡◌, suc, ◌+◌, ◌-◌, ◌^◌, min, List, [], ◌∷◌, ◌++◌, length, length-append, arith, ap, ◌∙◌}
use Rattle.stk_clauses.specs.declared.literal.Lit.{Lit}
use Rattle.stk_proofs.specs.Words.{words_of}
use Rattle.stk_proofs.specs.Distinct.{distinct}
use Rattle.stk_proofs.proofs.Clauses.{clause_step}
use Rattle.std.proofs.lemmas.Grind.{common_steps}
use Rattle.stk_proofs.proofs.Fitting.{clauses_fit}
use Rattle.stk_proofs.proofs.clause_lists.read_clauses.Goals as goal

pub loop-left-preserved : goal.loop-left-preserved
loop-left-preserved c =
    let some : c.loop-left.left ≡ suc (c.loop-left.left - 1) = omega (arith, c.loop-left-test.true) in
    let grown = c.in_ok-push.ensures.pushed ∙ ap (λ (x : List Lit). c.loop-left.store ++ x ∷ []) (c.deref-in-loop-left.ensures.value ∙ (c.in_ok-distinct.ensures.distinct ∙ ap distinct c.deref.ensures.value)) in
    let counted : c.min-total.result ≡ min (c.loop-left.total + length c.read_literals.new.found.items) (2 ^ 31) = omega (arith, c.min-total.ensures, c.len.ensures) in
    let longer = ap length c.in_ok-push.ensures.pushed ∙ length-append c.loop-left.store (c.deref-in-loop-left.result.now ∷ []) in
    record {
      same = clause_step c.args.vars c.loop-left.total c.min-total.result c.loop-left.left (c.loop-left.left - 1) c.loop-left.store c.push.new.self c.read_literals.new.found.items (words_of c.loop-left.rest.now) (words_of c.in_ok-rest.rest.now) _ some c.in_ok-rest.ensures.read grown counted c.loop-left.invariant.same;
      few = omega (arith, longer, c.loop-left.invariant.few, c.loop-left-test.true);
      capped = omega (arith, counted);
    }

pub returns-clause-fits : goal.returns-clause-fits
returns-clause-fits c = clauses_fit c.args.vars c.args.count (words_of c.args.text.now) _ c.requires.vars c.requires.few (grind (arith, common_steps))
