use Rattle.std.proofs.Common.{◌≡◌, ◌+◌, ◌-◌, ◌*◌, ◌^◌, ◌≤◌, if◌then◌else◌, ◌/◌, ◌++◌, length, take, get_or, replicate, refl, subst, sym, ap, ◌∙◌, arith}
use Rattle.stk_gates.specs.Edges.{edge_value}
use Rattle.stk_gates.specs.Tables.{gate_count}
use Rattle.stk_arith.specs.Rows.{number, AreEdges}
use Rattle.stk_gates.proofs.Growth.{obeys_before, extends_twice, extends_same}
use Rattle.stk_arith.proofs.Numbers.{number-below}
use Rattle.std.proofs.Common.{nat_lt}
use Rattle.std.proofs.Math.Nat.{div-one}
use Rattle.std.proofs.lemmas.List.{length-drop}
use Rattle.stk_arith.specs.Shifts.{signed_bits}
use Rattle.stk_arith.proofs.Shifting.{stage_by, shift_step, shift_end, stages_cost, cost_all}
use Rattle.stk_arith.proofs.right.filling_right.Goals as goal

pub stage_right-requires-clause-within : goal.stage_right-requires-clause-within
stage_right-requires-clause-within c =
    let by = stage_by c.loop-k.k c.stages-count.result (length c.args.a.now) (omega arith) c.stages-count.ensures.few c.stages-count.ensures.below in
    let same = ap length c.deref.ensures.value in
    let long = c.loop-k.invariant.long in
    let is = by.0 in
    let within = by.1 in
    omega arith

pub loop-k-init : goal.loop-k-init
loop-k-init c =
    let a = c.args.a.now in
    let copy : c.extend_from_slice.new.self.items ≡ a = c.in_ok-extend_from_slice.ensures.items ∙ ap (λ l. l ++ a) c.new-row.ensures.items in
    record {
      long = ap length copy;
      edges = subst (AreEdges c.args.gates.now) (sym copy) c.requires.a;
      value = λ gates o. ap (λ l. signed_bits (edge_value gates c.args.fill) (length a) (number gates l)) copy ∙ sym (div-one _);
      extends = extends_same _;
      adds = omega arith;
    }

pub loop-k-preserved : goal.loop-k-preserved
loop-k-preserved c =
    let old = c.loop-k.invariant in
    let w = length c.args.a.now in
    let k = c.loop-k.k in
    let slice = c.deref.ensures.value in
    let long : length c.deref.result.now ≡ w = ap length slice ∙ old.long in
    let grown = c.stage_right.ensures.extends in
    let by = stage_by k c.stages-count.result w (omega arith) c.stages-count.ensures.few c.stages-count.ensures.below in
    record {
      long = c.in_ok-row.ensures.length ∙ long;
      edges = c.in_ok-row.ensures.edges;
      value = λ gates o.
          let v = edge_value gates c.args.fill in
          let test = edge_value gates (get_or c.args.b.now k (record { 0 = 0 })) in
          let x = signed_bits v w (number gates c.loop-k.row.items) in
          let step : signed_bits v w (number gates c.in_ok-row.row.items) ≡ (if test then x / 2 ^ (2 ^ k) else x) =
          (λ j. signed_bits v (sym long j) (number gates c.in_ok-row.row.items)) ∙ (c.in_ok-row.ensures.value gates o ∙ (λ j. if test then signed_bits v (long j) (number gates (slice j)) / 2 ^ (by.0 j) else signed_bits v (long j) (number gates (slice j)))) in
          step ∙ shift_step gates c.args.b.now x (signed_bits v w (number gates c.args.a.now)) k (record { 0 = 0 }) (omega arith) (old.value gates (obeys_before _ _ gates grown o));
      extends = extends_twice _ _ _ old.extends grown;
      adds = stages_cost k (k + 1) _ _ _ (3 * w) refl old.adds (subst (λ n. gate_count c.stage_right.new.gates ≤ gate_count c.loop-k.gates + 3 * n) long c.stage_right.ensures.adds);
    }

pub returns-clause-value : goal.returns-clause-value
returns-clause-value c gates o =
    let w = length c.args.a.now in
    let b = c.args.b.now in
    let n = c.stages-count.result in
    let k = c.loop-k.k in
    let done : k ≡ n = omega arith in
    let o2 = obeys_before _ _ gates c.finished.ensures.extends o in
    let o1 = obeys_before _ _ gates c.any.ensures.extends o2 in
    let v = edge_value gates c.args.fill in
    let over = edge_value gates c.in_ok-over.over in
    let slice = c.deref-2.ensures.value in
    let long : length c.deref-2.result.now ≡ w = ap length slice ∙ c.loop-k.invariant.long in
    let high = c.split_at.ensures.back in
    let value = subst (λ m. signed_bits v w (number gates c.loop-k.row.items) ≡ signed_bits v w (number gates c.args.a.now) / 2 ^ number gates (take m b)) done (c.loop-k.invariant.value gates o1) in
    ap (number gates) c.from_vec.ensures ∙
    shift_end gates b c.loop-k.row.items c.in_ok-all.all.items v over c.args.fill w n (number gates c.args.a.now) refl (c.in_ok-all.ensures.length ∙ long) (number-below gates c.args.a.now) c.stages-count.ensures.covers
    (let l = c.stages-count.ensures.within in let s = c.requires.same in omega arith)
    (c.in_ok-over.ensures.value gates o2 ∙ (λ j. nat_lt 0 (number gates (high j)))) value
    (c.in_ok-all.ensures.value gates o ∙ (λ j. if over then number gates (replicate (long j) c.args.fill) else number gates (slice j)))

pub returns-clause-adds : goal.returns-clause-adds
returns-clause-adds c =
    let w = length c.args.a.now in
    let n = c.stages-count.result in
    let done : c.loop-k.k ≡ n = omega arith in
    let first = subst (λ m. gate_count c.loop-k.gates ≤ gate_count c.args.gates.now + m * (3 * w)) done c.loop-k.invariant.adds in
    let size : length c.split_at.result.1.now ≡ w - n = ap length c.split_at.ensures.back ∙ (length-drop n c.args.b.now ∙ ap (λ m. m - n) c.requires.same) in
    let second = c.any.ensures.adds in
    let long : length c.deref-2.result.now ≡ w = ap length c.deref-2.ensures.value ∙ c.loop-k.invariant.long in
    let third = c.finished.ensures.adds in
    cost_all w n (gate_count c.args.gates.now) (gate_count c.finished.new.gates) c.stages-count.ensures.few c.stages-count.ensures.within c.requires.some (omega arith)
