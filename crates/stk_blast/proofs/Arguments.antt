-- The rows of arguments.
use Rattle.std.proofs.Common.{◌≡◌, ℕ, zero, suc, ◌<◌, ◌≤◌, Bool, true, false, nat_lt, List, [], length, refl, sym, ap, subst, ◌∙◌, arith}
use Rattle.std.proofs.lemmas.Bool.{ltb-true, ltb-false}
use Rattle.stk_gates.specs.declared.edge.Edge.{Edge}
use Rattle.stk_gates.specs.Tables.{Table, Obeys, Extends}
use Rattle.stk_gates.proofs.Growth.{obeys_before}
use Rattle.stk_arith.specs.Rows.{number, AreEdges}
use Rattle.stk_arith.proofs.Numbers.{edges_kept}
use Rattle.stk_terms.specs.declared.term.TermOp.{TermOp}
use Rattle.stk_terms.specs.declared.term.TermId.{TermId}
use Rattle.stk_terms.specs.declared.term.TermOp.TheVariants.{Constant, Input}
use Rattle.stk_terms.specs.Terms.{Stored, term_at, child}
use Rattle.stk_terms.specs.Fitting.{AreBelow, IsSound, WidthsFit, arity}
use Rattle.stk_terms.specs.Values.{Bits, none, arg_at, width_by, number_by, widths_of, meanings, width_at, number_at}
use Rattle.stk_terms.specs.Cost.{bound, bound_at}
use Rattle.stk_terms.proofs.Growing.{arg_width, widths_same}
use Rattle.stk_terms.proofs.Args.{wider}
use Rattle.stk_terms.proofs.Reading.{arg_nth, arg_none, below_own, child_below, fits, least, means, most, width_means}
use Rattle.stk_blast.specs.Inputs.{residues_of}
use Rattle.stk_blast.specs.Rows.{IsRow}

-- a row of a term stays one
pub row_kept : (t u : Table) (s : Stored) (i : ℕ) (row : List Edge) → Extends t u → IsRow t s i row → IsRow u s i row
row_kept t u s i row x r = record {
  long = r.long;
  edges = edges_kept t u row x r.edges;
  value = λ values o. r.value values (obeys_before t u values x o);
}

-- what the rows of a term's arguments are for its operator, and what a row is that the operator's circuit gives
pub record Operation (t : Table) (s : Stored) (i : ℕ) (inputs : List ℕ) (op : TermOp) (x y z : List Edge) : Type 0 where
  pub fit : WidthsFit inputs op (length x) (length y) (length z)
  pub some : 0 < arity op → 0 < length x
  pub few : length x ≤ 128
  pub x_edges : AreEdges t x
  pub y_edges : AreEdges t y
  pub z_edges : AreEdges t z
  pub charge : bound op (length x) (length y) ≡ bound_at s i
  pub made : (u : Table) (row : List Edge) → Extends t u → length row ≡ width_by inputs op (length x) (length y) → AreEdges u row
      → ((values : ℕ → Bool) → Obeys u values → number values row ≡ number_by (residues_of inputs values) op (length x) (length y) (number values x) (number values y) (number values z)) → IsRow u s i row

-- the arguments of a term are terms of the store
pub args_below : (s : Stored) → IsSound s → (i : ℕ) → i < length s.terms → AreBelow (length s.terms) (term_at s i).args
args_below s sound i h = wider i (length s.terms) (term_at s i).args (omega arith) (below_own s sound i h)

most_args : (op : TermOp) → arity op ≤ 3
most_args (Constant w n) = omega arith
most_args (Input k) = omega arith
most_args _ = omega arith

-- the first three of a list that goes on with nothing
abbrev three : List Edge → List Edge → List Edge → ℕ → List Edge
three x y z zero = x
three x y z (suc zero) = y
three x y z (suc (suc zero)) = z
three x y z (suc (suc (suc k))) = []

module _ (s : Stored) (sound : IsSound s) (i : ℕ) (h : i < length s.terms) (t : Table) (x y z : List Edge) (first : 0 < length (term_at s i).args → IsRow t s (child s i 0) x) (second : 1 < length (term_at s i).args → IsRow t s (child s i 1) y) (third : 2 < length (term_at s i).args → IsRow t s (child s i 2) z) (no_first : length (term_at s i).args ≤ 0 → x ≡ []) (no_second : length (term_at s i).args ≤ 1 → y ≡ []) (no_third : length (term_at s i).args ≤ 2 → z ≡ []) where
  abbrev args : List TermId
  args = (term_at s i).args

  abbrev row_at : ℕ → List Edge
  row_at k = three x y z k

  each : (k : ℕ) → k < length args → IsRow t s (child s i k) (row_at k)
  each zero l = first l
  each (suc zero) l = second l
  each (suc (suc zero)) l = third l
  each (suc (suc (suc k))) l = absurd (omega (arith, l, (fits s sound i h).arity_is, most_args (term_at s i).op))

  empty : (k : ℕ) → length args ≤ k → row_at k ≡ []
  empty zero l = no_first l
  empty (suc zero) l = no_second l
  empty (suc (suc zero)) l = no_third l
  empty (suc (suc (suc k))) l = refl

  wide : (k : ℕ) → length (row_at k) ≡ arg_at 0 (widths_of s) args k
  wide k = by (nat_lt k (length args)) refl
    where
      by : (b : Bool) → nat_lt k (length args) ≡ b → length (row_at k) ≡ arg_at 0 (widths_of s) args k
      by true e = let l = ltb-true k (length args) e in (each k l).long ∙ sym (arg_nth 0 (widths_of s) args k l)
      by false e = let l = ltb-false k (length args) e in ap length (empty k l) ∙ sym (arg_none 0 (widths_of s) args k l)

  are_edges : (k : ℕ) → AreEdges t (row_at k)
  are_edges k = by (nat_lt k (length args)) refl
    where
      by : (b : Bool) → nat_lt k (length args) ≡ b → AreEdges t (row_at k)
      by true e = (each k (ltb-true k (length args) e)).edges
      by false e = subst (AreEdges t) (sym (empty k (ltb-false k (length args) e))) (λ j d l. absurd (omega arith))

  meant : (values : ℕ → Bool) → Obeys t values → (k : ℕ) → number values (row_at k) ≡ (arg_at none (meanings s (residues_of s.inputs values)) args k).number
  meant values o k = by (nat_lt k (length args)) refl
    where
      by : (b : Bool) → nat_lt k (length args) ≡ b → number values (row_at k) ≡ (arg_at none (meanings s (residues_of s.inputs values)) args k).number
      by true e = let l = ltb-true k (length args) e in (each k l).value values o ∙ sym (ap (λ (b : Bits). b.number) (arg_nth none (meanings s (residues_of s.inputs values)) args k l))
      by false e = let l = ltb-false k (length args) e in ap (number values) (empty k l) ∙ sym (ap (λ (b : Bits). b.number) (arg_none none (meanings s (residues_of s.inputs values)) args k l))

  wide_meant : (r : List ℕ) (k : ℕ) → length (row_at k) ≡ (arg_at none (meanings s r) args k).width
  wide_meant r k = wide k ∙ sym (sym (arg_width (meanings s r) args k) ∙ ap (λ l. arg_at 0 l args k) (widths_same s.inputs r [] s.terms))

  fit : WidthsFit s.inputs (term_at s i).op (length (row_at 0)) (length (row_at 1)) (length (row_at 2))
  fit = rw (wide 0, wide 1, wide 2) (fits s sound i h).widths_fit

  charge : bound (term_at s i).op (length (row_at 0)) (length (row_at 1)) ≡ bound_at s i
  charge = λ j. bound (term_at s i).op (wide 0 j) (wide 1 j)

  width_is : width_by s.inputs (term_at s i).op (length (row_at 0)) (length (row_at 1)) ≡ width_at s i
  width_is = (λ j. width_by s.inputs (term_at s i).op (wide 0 j) (wide 1 j)) ∙ sym (width_means s sound i h)

  value_is : (values : ℕ → Bool) → Obeys t values
      → number_by (residues_of s.inputs values) (term_at s i).op (length (row_at 0)) (length (row_at 1)) (number values (row_at 0)) (number values (row_at 1)) (number values (row_at 2)) ≡ number_at s (residues_of s.inputs values) i
  value_is values o =
      let r = residues_of s.inputs values in
      (λ j. number_by r (term_at s i).op (wide_meant r 0 j) (wide_meant r 1 j) (meant values o 0 j) (meant values o 1 j) (meant values o 2 j)) ∙ sym (ap (λ (b : Bits). b.number) (means s sound r i h))

  few : length x ≤ 128
  few = by (nat_lt 0 (length args)) refl
    where
      by : (b : Bool) → nat_lt 0 (length args) ≡ b → length x ≤ 128
      by true e = omega (arith, (first (ltb-true 0 (length args) e)).long, most s sound (child s i 0))
      by false e = let d = ap length (no_first (ltb-false 0 (length args) e)) in omega (arith, d)

  some : 0 < length args → 0 < length x
  some l = omega (arith, (first l).long, least s sound (child s i 0) (omega (arith, child_below s sound i 0 h l)))

  operation_here : Operation t s i s.inputs (term_at s i).op (row_at 0) (row_at 1) (row_at 2)
  operation_here = record {
    fit = fit;
    some = λ l. some (omega (arith, (fits s sound i h).arity_is));
    few = few;
    x_edges = are_edges 0;
    y_edges = are_edges 1;
    z_edges = are_edges 2;
    charge = charge;
    made = λ u row x long edges value. record {
      long = long ∙ width_is;
      edges = edges;
      value = λ values o. value values o ∙ value_is values (obeys_before t u values x o);
    };
  }

  pub operation : (inputs : List ℕ) (op : TermOp) → inputs ≡ s.inputs → op ≡ (term_at s i).op → Operation t s i inputs op x y z
  operation inputs op is_inputs is_op = subst (λ l. Operation t s i l op x y z) (sym is_inputs) (subst (λ o. Operation t s i s.inputs o x y z) (sym is_op) operation_here)
