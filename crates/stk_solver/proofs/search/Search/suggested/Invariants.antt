use Rattle.std.proofs.Common.{◌≡◌}
use Rattle.stk_solver.specs.Searching.{IsSearch}
use Rattle.stk_solver.proofs.search.Search.suggested.Given as goal

abbrev pub invariant-loop-turn : goal.invariant-loop-turn
invariant-loop-turn l = record {
  search : IsSearch l.self l._given;
  vars : l.self.vars ≡ l.fn.self.vars;
  trail : l.self.trail ≡ l.fn.self.trail;
  store : l.self.store ≡ l.fn.self.store;
  levels : l.self.levels ≡ l.fn.self.levels;
  log : l.self.log ≡ l.fn.self.log;
}
