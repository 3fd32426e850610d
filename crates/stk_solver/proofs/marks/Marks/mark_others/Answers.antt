use Rattle.std.proofs.Common.{◌≡◌, ◌⊎◌, ◌↔◌, ◌∙◌, get_or, subst}
use Rattle.std.proofs.lemmas.List.{take_all}
use Rattle.stk_clauses.specs.declared.literal.Lit.{Lit}
use Rattle.stk_solver.specs.Marking.{Marked}
use Rattle.stk_solver.proofs.Marking.{AreMarkedToo, too_skipped, too_more}
use Rattle.stk_solver.proofs.marks.Marks.mark_others.Goals as goal

abbrev zero_lit : Lit
zero_lit = record { 0 = 0 }

pub loop-lit-preserved-then-is_it : goal.loop-lit-preserved-then-is_it
loop-lit-preserved-then-is_it c =
    let s = c.loop-lit.invariant in
    record {
      noted = s.noted;
      vars = s.vars;
      hints = s.hints;
      done = too_skipped c.args.self.now.marked.items c.loop-lit.self.marked.items c.loop-lit.self.marked.items c.args.clause.now c.loop-lit.lit-index zero_lit c.args.but c.loop-lit-test.true s.done (c.is_it.ensures.0 c.if-is_it.true);
    }

pub loop-lit-preserved : goal.loop-lit-preserved
loop-lit-preserved c =
    let s = c.loop-lit.invariant in
    let e = c.in_ok-mark.ensures in
    let x : Lit = get_or c.args.clause.now c.loop-lit.lit-index zero_lit in
    let step = subst (λ (y : Lit). (m : Lit) → Marked c.mark.new.self.marked.items m ↔ (Marked c.loop-lit.self.marked.items m ⊎ (m ≡ y))) c.negated-other.ensures e.marked in
    record {
      noted = e.noted;
      vars = e.vars ∙ s.vars;
      hints = e.hints ∙ s.hints;
      done = too_more c.args.self.now.marked.items c.loop-lit.self.marked.items c.mark.new.self.marked.items c.args.clause.now c.loop-lit.lit-index zero_lit c.args.but c.loop-lit-test.true s.done
          (λ f. let h = c.is_it.ensures.1 f in cc (h, c.if-is_it.false)) step;
    }

pub returns-clause-marked : goal.returns-clause-marked
returns-clause-marked c = subst (λ xs. AreMarkedToo c.args.self.now.marked.items c.loop-lit.self.marked.items xs c.args.but) (take_all c.loop-lit.lit-index c.args.clause.now c.loop-lit-test.false) c.loop-lit.invariant.done
