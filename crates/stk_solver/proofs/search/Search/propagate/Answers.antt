use Rattle.std.proofs.Common.{◌∙◌}
use Rattle.stk_solver.proofs.Leveling.{levels_grown}
use Rattle.stk_solver.proofs.search.Search.propagate.Goals as goal

pub returns-clause-search : goal.returns-clause-search
returns-clause-search c =
    let q = c.requires in
    let p = c.propagate-found.ensures in
    let a = c.args.self.now.trail.assigned in
    let b = c.propagate-found.new.self.assigned in
    record {
      clauses = q.clauses;
      logged = q.logged;
      small = q.small;
      steps = q.steps;
      fresh = q.fresh;
      fits = p.fits;
      assigned = c.assigned-2.ensures.facts;
      same_vars = p.grown.vars ∙ q.same_vars;
      levels = levels_grown a b c.args.self.now.levels.items q.assigned.paired c.assigned-2.ensures.facts.paired p.grown q.levels;
      full = q.full;
      analysed = q.analysed;
    }
