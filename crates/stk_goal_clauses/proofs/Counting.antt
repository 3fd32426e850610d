-- How many gates an edge needs, and a row of one as a number.
use Rattle.std.proofs.Common.{◌≡◌, ◌↔◌, ℕ, zero, suc, ◌+◌, ◌*◌, ◌<◌, ◌≤◌, Bool, true, false, List, [], ◌∷◌, length, get_or, refl, arith}
use Rattle.std.proofs.lemmas.List.Elements.{Contains-get_or}
use Rattle.stk_gates.specs.declared.edge.Edge.{Edge}
use Rattle.stk_gates.specs.Edges.{edge_value}
use Rattle.stk_gates.specs.Tables.{Table, IsOrdered, IsEdge, gate_count}
use Rattle.stk_arith.specs.Rows.{bit, number}
use Rattle.stk_clauses.specs.declared.store.Cnf.{Cnf}
use Rattle.stk_cnf.specs.Standing.{Needs, itself, first, second, StandsFor}

-- a gate that an edge needs is one of the table
needs_within : (t : Table) (goal : Edge) → IsOrdered t → IsEdge t goal → (n : ℕ) → Needs t goal n → n < gate_count t
needs_within t goal o e n itself = omega (arith, e)
needs_within t goal o e n (first k p h s) = omega (arith, (o k p s).0, needs_within t goal o e (1 + t.inputs + k) h)
needs_within t goal o e n (second k p h s) = omega (arith, (o k p s).1, needs_within t goal o e (1 + t.inputs + k) h)

-- in an ascending list the number at a place is at least as far above the first one's bound
climbs : (ns : List ℕ) (low : ℕ) → ((i j : ℕ) → i < j → j < length ns → get_or ns i 0 < get_or ns j 0) → ((j : ℕ) → j < length ns → low ≤ get_or ns j 0) → (j : ℕ) → j < length ns → low + j ≤ get_or ns j 0
climbs ns low rising least zero lt = omega (arith, least 0 lt)
climbs ns low rising least (suc j) lt =
    let before = climbs ns low rising least j (omega (arith, lt)) in
    omega (arith, before, rising j (suc j) (omega arith) lt)

-- there are at most as many as numbers from low up to the end
few : (ns : List ℕ) (low end : ℕ) → low ≤ end → ((i j : ℕ) → i < j → j < length ns → get_or ns i 0 < get_or ns j 0) → ((j : ℕ) → j < length ns → (low ≤ get_or ns j 0) × (get_or ns j 0 < end)) → low + length ns ≤ end
few [] low end le rising between = omega arith
few (n ∷ ns) low end le rising between =
    let lt : length ns < length (n ∷ ns) = omega arith in
    omega (arith, climbs (n ∷ ns) low rising (λ j l. (between j l).0) (length ns) lt, (between (length ns) lt).1)

-- clauses that stand for an edge have at most as many variables as there are gates beside the constant
pub vars_within : (t : Table) (goal : Edge) (cnf : Cnf) → IsOrdered t → IsEdge t goal → StandsFor t goal cnf → cnf.vars < gate_count t
vars_within t goal cnf o e s =
    let between : (j : ℕ) → j < length s.ands → (1 + t.inputs ≤ get_or s.ands j 0) × (get_or s.ands j 0 < gate_count t) = λ j lt.
    let h = (s.needed (get_or s.ands j 0)).0 (Contains-get_or s.ands j 0 lt) in
    (omega (arith, h.1), needs_within t goal o e (get_or s.ands j 0) h.0) in
    omega (arith, s.count, few s.ands (1 + t.inputs) (gate_count t) (omega arith) s.ascending between)

-- a row of one edge is 1 where the edge is true
pub one_edge : (gates : ℕ → Bool) (e : Edge) → (edge_value gates e ≡ true) ↔ (number gates (e ∷ []) ≡ 1)
one_edge gates e = at (edge_value gates e)
  where
    at : (b : Bool) → (b ≡ true) ↔ (bit b + 2 * 0 ≡ 1)
    at true = ((λ h. refl), (λ h. refl))
    at false = ((λ h. absurd (cc)), (λ h. absurd (omega (arith, h))))
