use Rattle.std.proofs.Common.{take, ◌++◌, ◌≡◌, length, drop, subst, sym, ◌∙◌, arith}
use Rattle.stk_cnf.specs.Marks.{AreMarked}
use Rattle.stk_cnf.proofs.Down.{goal_marked, taken}
use Rattle.stk_cnf.proofs.depending.depending.Goals as goal

pub loop-gate-init : goal.loop-gate-init
loop-gate-init c =
    let blank = c.deref_mut-marks.ensures.value ∙ c.in_ok-owned.ensures.items_if_clones_equal (λ y e. e) in
    record {
      marked = goal_marked c.args.gates.now c.args.goal c.deref_mut-marks.result.now c.count-count.result c.requires c.count-count.ensures.count blank;
      within = omega (arith, c.count-count.ensures.count);
    }

pub returns : goal.returns
returns c =
    let m = c.loop-gate.invariant.marked in
    let marks = c.loop-gate.marks in
    let e : take c.in_ok-owned.owned.len (marks ++ drop (length marks) c.in_ok-owned.owned.items) ≡ marks = taken c.in_ok-owned.owned.len marks (drop (length marks) c.in_ok-owned.owned.items) (omega (arith, m.sized, c.count-count.ensures.count, c.in_ok-owned.ensures.len, c.in_ok-owned.owned.ok.0)) in
    let at : AreMarked c.args.gates.now c.args.goal marks 0 = subst (λ k. AreMarked c.args.gates.now c.args.goal marks k) (omega arith) m in
    subst (λ xs. AreMarked c.args.gates.now c.args.goal xs 0) (sym e) at
