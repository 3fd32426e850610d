use Rattle.std.proofs.Common.{◌≡◌, ◌++◌, ◌∷◌, ◌∙◌, [], length, ap, subst, sym}
use Rattle.stk_solver.specs.Learnt.{AreLevels}
use Rattle.stk_solver.proofs.Leveling.{levels_pushed, none_empty}
use Rattle.stk_solver.proofs.search.Search.decide.Goals as goal

pub returns-clause-search : goal.returns-clause-search
returns-clause-search c =
    let s = c.args.self.now in
    let q = c.requires.search in
    let p = c.assume.ensures in
    let a = s.trail.assigned in
    let e : c.push.new.self.items ≡ s.levels.items ++ length a.literals ∷ [] = c.in_ok-push.ensures.items ∙ ap (λ ts. s.levels.items ++ length ts ∷ []) c.assigned.ensures.literals in
    record {
      clauses = q.clauses;
      logged = q.logged;
      small = q.small;
      steps = q.steps;
      fresh = q.fresh;
      fits = p.fits;
      assigned = c.assigned-2.ensures.facts;
      same_vars = p.vars ∙ q.same_vars;
      levels = subst (λ ls. AreLevels c.assume.new.self.assigned ls) (sym e) (levels_pushed a c.assume.new.self.assigned s.levels.items c.args.lit q.assigned.paired p.literals p.reasons q.levels);
      full = λ _. none_empty a.literals s.store c.requires.quiet;
      analysed = q.analysed;
    }
