-- What clauses that stand for a goal say of it.
use Rattle.std.proofs.Common.{◌≡◌, ◌↔◌, ℕ, ◌+◌, ◌≤◌, true, false, List, [], ◌∷◌, sym, ap, subst, ◌∙◌, arith}
use Rattle.std.specs.Prelude.{sum, slice_index_or}
use Rattle.stk_gates.specs.declared.edge.Edge.{Edge}
use Rattle.stk_gates.specs.Edges.{edge_value}
use Rattle.stk_gates.specs.Tables.{Table, IsOrdered, IsEdge, gate_count}
use Rattle.stk_gates.specs.Laws.{values_for}
use Rattle.stk_gates.proofs.Decided.{every_input}
use Rattle.stk_arith.specs.Rows.{number, AreEdges}
use Rattle.stk_clauses.specs.declared.store.Cnf.{Cnf}
use Rattle.stk_terms.specs.Terms.{Stored}
use Rattle.stk_terms.specs.Fitting.{AreResidues}
use Rattle.stk_terms.specs.Values.{number_at}
use Rattle.stk_terms.specs.Cost.{cost}
use Rattle.stk_blast.specs.Rows.{IsRow}
use Rattle.stk_blast.specs.Laws.{input_bits}
use Rattle.stk_blast.proofs.InputBits.{enough, terms}
use Rattle.stk_cnf.specs.Standing.{StandsFor, variables}
use Rattle.stk_goal_clauses.specs.Standing.{StandsForGoal, IsWithinBound}
use Rattle.stk_goal_clauses.specs.Reading.{residues_in}
use Rattle.stk_goal_clauses.specs.Laws.{SatisfiedMakesOne, UnsatisfiableIsNever}
use Rattle.stk_goal_clauses.proofs.Counting.{vars_within, one_edge}
use Rattle.stk_goal_clauses.proofs.Bits.{in_range, read_bits}

-- the edge of a term's row of one is true exactly for the inputs that make the term 1
exact_edge : (t : Table) (s : Stored) (i : ℕ) (row : List Edge) (e : Edge) → IsOrdered t → t.inputs ≡ sum s.inputs → IsRow t s i row → row ≡ e ∷ []
    → (rs : List ℕ) → AreResidues s.inputs rs → (edge_value (values_for t (input_bits s.inputs rs)) e ≡ true) ↔ (number_at s rs i ≡ 1)
exact_edge t s i row e o b r is rs h =
    let g = values_for t (input_bits s.inputs rs) in
    let v : number g (e ∷ []) ≡ number_at s rs i = ap (number g) (sym is) ∙ terms t s i row rs o b r h in
    let one = one_edge g e in
    ((λ x. sym v ∙ one.0 x), (λ x. one.1 (v ∙ x)))

-- the edge of a row of one is one of the table
edge_among : (t : Table) (s : Stored) (i : ℕ) (row : List Edge) (e : Edge) → IsRow t s i row → row ≡ e ∷ [] → IsEdge t e
edge_among t s i row e r is = (subst (AreEdges t) is r.edges) 0 e (omega arith)

-- clauses that stand for the edge of a goal's row stand for the goal
pub goal_stands : (t : Table) (s : Stored) (i : ℕ) (row : List Edge) (e : Edge) (cnf : Cnf) → IsOrdered t → t.inputs ≡ sum s.inputs → IsRow t s i row → row ≡ e ∷ [] → StandsFor t e cnf → StandsForGoal s i cnf
goal_stands t s i row e cnf o b r is stands = record {
  table = t;
  edge = e;
  ordered = o;
  among = edge_among t s i row e r is;
  bits = b;
  exact = exact_edge t s i row e o b r is;
  stands = stands;
}

-- where blasting added no more gates than the goal costs, the clauses are within the bound
pub goal_within : (t : Table) (s : Stored) (i : ℕ) (row : List Edge) (e : Edge) (cnf : Cnf) → IsOrdered t → IsRow t s i row → row ≡ e ∷ [] → StandsFor t e cnf → gate_count t ≤ 1 + sum s.inputs + cost s i → IsWithinBound s i cnf
goal_within t s i row e cnf o r is stands few = omega (arith, few, vars_within t e cnf o (edge_among t s i row e r is) stands)

pub satisfied : SatisfiedMakesOne
satisfied s i cnf values st sat =
    let rs = residues_in s.inputs values in
    let h : AreResidues s.inputs rs = in_range s.inputs values in
    let bits = input_bits s.inputs rs in
    let both = every_input st.table bits st.ordered (enough s.inputs rs h ∙ sym st.bits) in
    let alone = st.stands.alone (λ v. slice_index_or values v false) (values_for st.table bits) sat both.0
    (λ k l. both.1.each k l ∙ read_bits s.inputs values k (omega (arith, l, st.bits))) in
    record { fit = h; one = (st.exact rs h).0 alone.0 }

pub never : UnsatisfiableIsNever
never s i cnf st unsat rs h one =
    let bits = input_bits s.inputs rs in
    let g = values_for st.table bits in
    let both = every_input st.table bits st.ordered (enough s.inputs rs h ∙ sym st.bits) in
    unsat (variables st.table st.stands.ands g) (st.stands.extensions g both.0 ((st.exact rs h).1 one))
