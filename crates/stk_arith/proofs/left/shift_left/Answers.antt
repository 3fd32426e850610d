use Rattle.std.proofs.Common.{◌≡◌, ◌+◌, ◌*◌, ◌^◌, ◌≤◌, if◌then◌else◌, ◌++◌, length, take, get_or, replicate, nat_lt, refl, subst, sym, ap, ◌∙◌, arith}
use Rattle.stk_gates.specs.declared.edge.Edge.{Edge}
use Rattle.stk_gates.specs.Edges.{edge_value}
use Rattle.stk_gates.specs.Tables.{gate_count}
use Rattle.stk_gates.proofs.Edges.{edge_value-false}
use Rattle.stk_gates.proofs.Growth.{obeys_before, extends_twice, extends_same}
use Rattle.stk_arith.specs.Rows.{number, AreEdges}
use Rattle.stk_arith.specs.Shifts.{shifted_left}
use Rattle.stk_arith.proofs.LeftShifts.{left_step, left_none, left_end}
use Rattle.stk_arith.proofs.Shifting.{stage_by, stages_cost}
use Rattle.stk_arith.proofs.left.shift_left.Goals as goal

pub stage_left-requires-clause-within : goal.stage_left-requires-clause-within
stage_left-requires-clause-within c =
    let by = stage_by c.loop-k.k c.stages-count.result (length c.args.a.now) (omega arith) c.stages-count.ensures.few c.stages-count.ensures.below in
    let same = ap length c.deref.ensures.value in
    let long = c.loop-k.invariant.long in
    let is = by.0 in
    let within = by.1 in
    omega arith

pub loop-k-init : goal.loop-k-init
loop-k-init c =
    let a = c.args.a.now in
    let copy : c.extend_from_slice.new.self.items ≡ a = c.in_ok-extend_from_slice.ensures.items ∙ ap (λ l. l ++ a) c.new-row.ensures.items in
    record {
      long = ap length copy;
      edges = subst (AreEdges c.args.gates.now) (sym copy) c.requires.a;
      value = λ gates o. ap (number gates) copy ∙ left_none gates a;
      extends = extends_same _;
      adds = omega arith;
    }

pub loop-k-preserved : goal.loop-k-preserved
loop-k-preserved c =
    let old = c.loop-k.invariant in
    let w = length c.args.a.now in
    let k = c.loop-k.k in
    let slice = c.deref.ensures.value in
    let long : length c.deref.result.now ≡ w = ap length slice ∙ old.long in
    let grown = c.stage_left.ensures.extends in
    let by = stage_by k c.stages-count.result w (omega arith) c.stages-count.ensures.few c.stages-count.ensures.below in
    record {
      long = c.in_ok-row.ensures.length ∙ long;
      edges = c.in_ok-row.ensures.edges;
      value = λ gates o.
          let none : Edge = record { 0 = 0 } in
          let test = edge_value gates (get_or c.args.b.now k none) in
          let x = number gates c.loop-k.row.items in
          let step : number gates c.in_ok-row.row.items ≡ (if test then shifted_left w x (2 ^ k) else x) =
          c.in_ok-row.ensures.value gates o ∙ (λ j. if test then shifted_left (long j) (number gates (slice j)) (by.0 j) else number gates (slice j)) in
          step ∙ left_step gates c.args.b.now w x (number gates c.args.a.now) k none (omega arith) (old.value gates (obeys_before _ _ gates grown o));
      extends = extends_twice _ _ _ old.extends grown;
      adds = stages_cost k (k + 1) _ _ _ (3 * w) refl old.adds (subst (λ n. gate_count c.stage_left.new.gates ≤ gate_count c.loop-k.gates + 3 * n) long c.stage_left.ensures.adds);
    }

pub returns-clause-value : goal.returns-clause-value
returns-clause-value c gates o =
    let w = length c.args.a.now in
    let b = c.args.b.now in
    let n = c.stages-count.result in
    let k = c.loop-k.k in
    let none : Edge = record { 0 = 0 } in
    let done : k ≡ n = omega arith in
    let o2 = obeys_before _ _ gates c.finished.ensures.extends o in
    let o1 = obeys_before _ _ gates c.any.ensures.extends o2 in
    let over = edge_value gates c.in_ok-over.over in
    let slice = c.deref-2.ensures.value in
    let long : length c.deref-2.result.now ≡ w = ap length slice ∙ c.loop-k.invariant.long in
    let high = c.split_at.ensures.back in
    let value = subst (λ m. number gates c.loop-k.row.items ≡ shifted_left w (number gates c.args.a.now) (number gates (take m b))) done (c.loop-k.invariant.value gates o1) in
    ap (number gates) c.from_vec.ensures ∙
    left_end gates b c.loop-k.row.items c.in_ok-all.all.items over none w n (number gates c.args.a.now) (edge_value-false _ gates o) c.stages-count.ensures.covers
    (let l = c.stages-count.ensures.within in let s = c.requires.same in omega arith)
    (c.in_ok-over.ensures.value gates o2 ∙ (λ j. nat_lt 0 (number gates (high j)))) value
    (c.in_ok-all.ensures.value gates o ∙ (λ j. if over then number gates (replicate (long j) none) else number gates (slice j)))
