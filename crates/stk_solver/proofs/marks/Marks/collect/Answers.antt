use Rattle.std.proofs.Common.{◌≡◌, ◌+◌, ◌*◌, ◌<◌, ◌≤◌, ◌++◌, ◌∷◌, ◌∙◌, [], List, length, get_or, ap, subst, sym, arith}
use Rattle.stk_clauses.specs.declared.literal.Lit.{Lit}
use Rattle.stk_clauses.specs.Literals.{negated}
use Rattle.stk_solver.specs.declared.marks.Marks.{Marks}
use Rattle.stk_solver.specs.Marking.{Marked}
use Rattle.stk_solver.proofs.Collecting.{IsTaking, taking_clean, taking_more, taking_on, collected_each}
use Rattle.stk_solver.proofs.marks.Marks.collect.Goals.{then-is_marked+in_ok-push-2, else-is_marked}
use Rattle.stk_solver.proofs.marks.Marks.collect.Goals as goal

abbrev zero_lit : Lit
zero_lit = record { 0 = 0 }

pub loop-at-preserved : goal.loop-at-preserved
loop-at-preserved c =
    let f = c.args.self.now in
    let s = c.loop-at.invariant in
    let at = c.loop-at.at in
    let x = c.index-lit.result.now in
    let ex : x ≡ get_or f.noted.items at x = c.index-lit.ensures ∙ ap (λ v. get_or v.items at x) s.list in
    let lt : at < length f.noted.items = omega (arith, c.loop-at-test.true, c.len-at-end.ensures, ap (λ v. length v.items) c.unmark.ensures.list, c.unmark.new.self.noted.ok.0) in
    let out : Marks → List Lit → Type 0 = λ g y. IsTaking f c.args.point (at + 1) g y in
    elim c.if-is_marked.branch [
      | then-is_marked+in_ok-push-2 w ↦
          let u = w.unmark-then-is_marked.ensures in
          let marked : Marked c.loop-at.self.marked.items x = c.is_marked.ensures.0 w.if-is_marked.true in
          let below : x.0 < length c.loop-at.self.marked.items = omega (arith, subst (λ (y : Lit). y.0 < 2 * f.vars) (sym ex) (c.requires.noted.within at x lt), s.vars, s.noted.sized) in
          let ec : w.push-then-is_marked.new.self.items ≡ c.loop-at.clause.items ++ negated x ∷ [] = w.in_ok-push-2.ensures.items ∙ ap (λ y. c.loop-at.clause.items ++ y ∷ []) w.negated-then-is_marked.ensures in
          let step = taking_more f c.args.point at c.loop-at.self w.unmark-then-is_marked.new.self c.loop-at.clause.items w.push-then-is_marked.new.self.items x x lt ex below marked u.noted u.list u.hints u.vars u.marked ec s in
          subst (λ g. out g c.if-is_marked.clause.items) (sym w.self-is) (subst (λ v. out w.unmark-then-is_marked.new.self v.items) (sym w.clause-is) step)
      | else-is_marked w ↦
          let step = taking_on f c.args.point at c.loop-at.self c.loop-at.clause.items x lt (λ h. let y = c.is_marked.ensures.1 (subst (λ z. Marked c.loop-at.self.marked.items z) (sym ex) h) in cc (y, w.if-is_marked.false)) s in
          subst (λ g. out g c.if-is_marked.clause.items) (sym w.self-is) (subst (λ v. out c.loop-at.self v.items) (sym w.clause-is) step)
    ]

pub returns-clause-clean : goal.returns-clause-clean
returns-clause-clean c =
    let f = c.args.self.now in
    let le : length f.noted.items ≤ c.loop-at.at = omega (arith, c.loop-at-test.false, c.len-at-end.ensures, ap (λ v. length v.items) c.unmark.ensures.list, c.unmark.new.self.noted.ok.0) in
    taking_clean f c.args.point c.loop-at.at c.loop-at.self c.loop-at.clause.items le c.loop-at.invariant

pub returns-clause-each : goal.returns-clause-each
returns-clause-each c =
    let f = c.args.self.now in
    let s = c.loop-at.invariant in
    let le : length f.noted.items ≤ c.loop-at.at = omega (arith, c.loop-at-test.false, c.len-at-end.ensures, ap (λ v. length v.items) c.unmark.ensures.list, c.unmark.new.self.noted.ok.0) in
    collected_each f.marked.items c.loop-at.self.marked.items f.noted.items c.loop-at.at c.loop-at.clause.items (taking_clean f c.args.point c.loop-at.at c.loop-at.self c.loop-at.clause.items le s).none s.collected
