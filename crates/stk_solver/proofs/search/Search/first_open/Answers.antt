use Rattle.std.proofs.Common.{◌≡◌, ◌*◌, arith, inl, inr}
use Rattle.std.proofs.lemmas.Bool.{cases_lt}
use Rattle.stk_solver.proofs.Valuing.{known_cases}
use Rattle.stk_solver.proofs.search.Search.first_open.Goals as goal

pub loop-variable-preserved : goal.loop-variable-preserved
loop-variable-preserved c v lt =
    let t = c.args.self.now.trail.assigned.literals in
    elim (cases_lt v c.loop-variable.variable) [
      | inl a ↦ c.loop-variable.invariant v a
      | inr a ↦
          let e : c.new-lit.result.0 ≡ 2 * v = omega (arith, c.new-lit.ensures, a, lt) in
          known_cases c.value.result t c.new-lit.result v e c.in_default.not-None c.value.ensures
    ]

pub returns : goal.returns
returns c v lt = c.loop-variable.invariant v (omega (arith, lt, c.loop-variable-test.false))
