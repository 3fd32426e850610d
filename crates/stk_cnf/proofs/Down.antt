-- Marks of the gates on which an edge depends, from its gate down.
use Rattle.std.proofs.Common.{◌≡◌, ◌⊎◌, ℕ, ◌+◌, ◌-◌, ◌/◌, ◌<◌, ◌≤◌, Bool, true, false, List, Option, Some, None, ◌++◌, take, replicate, zero, suc, length, set, slice_get, sym, ap, ◌∙◌, subst, arith, inl, inr}
use Rattle.std.proofs.lemmas.Bool.{cases_eq, cases_lt, false≢true}
use Rattle.std.proofs.lemmas.List.{get_or-set_same, get_or-set_other, take-append-le, take_all}
use Rattle.std.proofs.Math.ListN.{length-set, length-replicate}
use Rattle.std.proofs.lemmas.Option.{slice_get_within}
use Rattle.stk_gates.specs.declared.edge.Edge.{Edge}
use Rattle.stk_gates.specs.Tables.{Table, gate_count, IsOrdered, IsEdge}
use Rattle.stk_cnf.specs.Marks.{IsMarked, AreMarked}
use Rattle.stk_cnf.specs.Standing.{Needs, itself, first, second}

pub marked_here : (marks : List Bool) (i : ℕ) → i < length marks → IsMarked (set marks i true) i
marked_here marks i lt = get_or-set_same marks i true false lt

pub marked_kept : (marks : List Bool) (i n : ℕ) → i < length marks → IsMarked marks n → IsMarked (set marks i true) n
marked_kept marks i n lt h =
    elim (cases_eq n i) [
      | inl e ↦ subst (λ m. IsMarked (set marks i true) m) (sym e) (marked_here marks i lt)
      | inr ne ↦ get_or-set_other marks i n true false ne ∙ h
    ]

pub marked_back : (marks : List Bool) (i n : ℕ) → IsMarked (set marks i true) n → (n ≡ i) ⊎ IsMarked marks n
marked_back marks i n h =
    elim (cases_eq n i) [ inl e ↦ inl e | inr ne ↦ inr (sym (get_or-set_other marks i n true false ne) ∙ h) ]

-- the operands of one marked gate more are marked
pub operands_marked : (t : Table) (goal : Edge) (marks : List Bool) (gate k : ℕ) (p : Edge × Edge) → gate ≡ 1 + t.inputs + k → slice_get t.pairs k ≡ Some p → p.0.0 / 2 < gate → p.1.0 / 2 < gate → gate < length marks → IsMarked marks gate → AreMarked t goal marks (gate + 1) → AreMarked t goal (set (set marks (p.0.0 / 2) true) (p.1.0 / 2) true) gate
operands_marked t goal marks gate k p is at la lb lt here m =
    let a : ℕ = p.0.0 / 2 in
    let b : ℕ = p.1.0 / 2 in
    let one : List Bool = set marks a true in
    let two : List Bool = set one b true in
    let s : length one ≡ length marks = length-set marks a true in
    let s' : length two ≡ length one = length-set one b true in
    let lta : a < length marks = omega (arith, la, lt) in
    let ltb : b < length one = omega (arith, lb, lt, s) in
    let keep : (n : ℕ) → IsMarked marks n → IsMarked two n = λ n h. marked_kept one b n ltb (marked_kept marks a n lta h) in
    let need : Needs t goal (1 + t.inputs + k) = subst (λ n. Needs t goal n) is (m.sound gate here) in
    let hasa : IsMarked two a = marked_kept one b a ltb (marked_here marks a lta) in
    let hasb : IsMarked two b = marked_here one b ltb in
    record {
      sized = s' ∙ s ∙ m.sized;
      itself = keep (goal.0 / 2) m.itself;
      sound = λ n h. elim (marked_back one b n h) [
        | inl e ↦ subst (λ x. Needs t goal x) (sym e) (second k p need at)
        | inr h' ↦ elim (marked_back marks a n h') [
          | inl e ↦ subst (λ x. Needs t goal x) (sym e) (first k p need at)
          | inr h'' ↦ m.sound n h''
        ]
      ];
      closed = λ j q low h at'.
          let old : IsMarked marks (1 + t.inputs + j) = elim (marked_back one b (1 + t.inputs + j) h) [
            | inl e ↦ absurd (omega (arith, e, low, lb))
            | inr h' ↦ elim (marked_back marks a (1 + t.inputs + j) h') [ inl e ↦ absurd (omega (arith, e, low, la)) | inr h'' ↦ h'' ]
          ] in
          elim (cases_eq j k) [
            | inl e ↦
                let same : Some q ≡ Some p = sym at' ∙ ap (slice_get t.pairs) e ∙ at in
                let q' : q ≡ p = cc in
                (subst (λ (x : Edge × Edge). IsMarked two (x.0.0 / 2)) (sym q') hasa, subst (λ (x : Edge × Edge). IsMarked two (x.1.0 / 2)) (sym q') hasb)
            | inr ne ↦ let r = m.closed j q (omega (arith, low, ne, is)) old at' in (keep (q.0.0 / 2) r.0, keep (q.1.0 / 2) r.1)
          ];
    }

-- where all gates have been gone through, what is needed is marked
pub needs_marked : (t : Table) (goal : Edge) (marks : List Bool) → AreMarked t goal marks 0 → (n : ℕ) → Needs t goal n → IsMarked marks n
needs_marked t goal marks m n itself = m.itself
needs_marked t goal marks m n (first k p need at) = (m.closed k p (omega arith) (needs_marked t goal marks m (1 + t.inputs + k) need) at).0
needs_marked t goal marks m n (second k p need at) = (m.closed k p (omega arith) (needs_marked t goal marks m (1 + t.inputs + k) need) at).1

-- the two edges of a gate that has operands, and that they stand on lower gates
pub pair_at : (t : Table) (gate : ℕ) (a b : Edge) (r : Option (Edge × Edge)) → r ≡ Some (a, b) → (gate ≤ t.inputs → r ≡ None) → ((k : ℕ) → gate ≡ 1 + t.inputs + k → r ≡ slice_get t.pairs k) → IsOrdered t → (gate ≡ 1 + t.inputs + (gate - (1 + t.inputs))) × (slice_get t.pairs (gate - (1 + t.inputs)) ≡ Some (a, b)) × (a.0 / 2 < gate) × (b.0 / 2 < gate)
pair_at t gate a b r is below within ordered =
    elim (cases_lt t.inputs gate) [
      | inl lt ↦
          let k : ℕ = gate - (1 + t.inputs) in
          let e : gate ≡ 1 + t.inputs + k = omega (arith, lt) in
          let at : slice_get t.pairs k ≡ Some (a, b) = sym (within k e) ∙ is in
          let o = ordered k (a, b) at in
          (e, at, omega (arith, o.0, e), omega (arith, o.1, e))
      | inr ge ↦ let n = below ge in absurd cc
    ]

-- what a vector holds where a slice of all of it was written to
pub taken : (n : ℕ) (xs zs : List Bool) → n ≡ length xs → take n (xs ++ zs) ≡ xs
taken n xs zs e = take-append-le n xs zs (omega arith) ∙ take_all n xs (omega arith)

none_marked : (n k : ℕ) → IsMarked (replicate n false) k → ⊥
none_marked zero k h = false≢true h
none_marked (suc n) zero h = false≢true h
none_marked (suc n) (suc k) h = none_marked n k h

-- the goal's gate alone is marked
pub goal_marked : (t : Table) (goal : Edge) (marks : List Bool) (count : ℕ) → IsEdge t goal → count ≡ gate_count t → marks ≡ replicate count false → AreMarked t goal (set marks (goal.0 / 2) true) count
goal_marked t goal marks count edge all blank =
    let g : ℕ = goal.0 / 2 in
    let long : length marks ≡ count = ap length blank ∙ length-replicate count false in
    let none : (n : ℕ) → IsMarked marks n → ⊥ = λ n h. none_marked count n (subst (λ xs. IsMarked xs n) blank h) in
    record {
      sized = length-set marks g true ∙ long ∙ all;
      itself = marked_here marks g (omega (arith, edge, long, all));
      sound = λ n h. elim (marked_back marks g n h) [ inl e ↦ subst (λ x. Needs t goal x) (sym e) itself | inr h' ↦ absurd (none n h') ];
      closed = λ k p low h at. absurd (omega (arith, low, all, slice_get_within t.pairs k p at));
    }
