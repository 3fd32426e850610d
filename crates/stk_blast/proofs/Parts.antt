-- The rows of the parts of a term, one after the other.
use Rattle.std.proofs.Common.{◌≡◌, ℕ, ◌+◌, ◌<◌, ◌≤◌, Bool, true, false, nat_lt, List, [], ◌∷◌, ◌++◌, length, get_or, refl, sym, ap, subst, ◌∙◌, arith}
use Rattle.std.proofs.lemmas.Bool.{ltb-false, ltb-true}
use Rattle.std.proofs.lemmas.List.{get_or_append_left}
use Rattle.std.proofs.Math.Seq.{get_or-append_seam}
use Rattle.stk_gates.specs.declared.edge.Edge.{Edge}
use Rattle.stk_gates.specs.Tables.{Table, Extends}
use Rattle.stk_terms.specs.declared.term.TermId.{TermId}
use Rattle.stk_terms.specs.declared.term.TermOp.{TermOp}
use Rattle.stk_terms.specs.Terms.{Stored, term_at, nth}
use Rattle.stk_terms.specs.Fitting.{IsSound}
use Rattle.stk_terms.specs.Orders.{HasBefore, Rises}
use Rattle.stk_blast.specs.Rows.{IsRow, IsRowOf}
use Rattle.stk_blast.proofs.Arguments.{Operation, operation, row_kept}

-- the row of a place
pub row_is : (t : Table) (s : Stored) (ps : List ℕ) (rows : List (List Edge)) (j : ℕ) (row : List Edge) → ((m : ℕ) → m < length rows → IsRow t s (get_or ps m 0) (get_or rows m [])) → IsRowOf ps rows j row → IsRow t s j row
row_is t s ps rows j row made r = subst (IsRow t s j) (sym r.is) (subst (λ n. IsRow t s n (get_or rows r.at [])) r.place (made r.at r.before))

-- one more row
pub made_more : (t u : Table) (s : Stored) (ps : List ℕ) (rows items : List (List Edge)) (row : List Edge) (i : ℕ) → items ≡ rows ++ row ∷ [] → length rows ≡ i → Extends t u
    → ((m : ℕ) → m < i → IsRow t s (get_or ps m 0) (get_or rows m [])) → IsRow u s (get_or ps i 0) row → (m : ℕ) → m < i + 1 → IsRow u s (get_or ps m 0) (get_or items m [])
made_more t u s ps rows items row i is long x made newest m l = by (nat_lt m i) refl
  where
    by : (b : Bool) → nat_lt m i ≡ b → IsRow u s (get_or ps m 0) (get_or items m [])
    by true e =
        let below = ltb-true m i e in
        let same : get_or items m [] ≡ get_or rows m [] = ap (λ l. get_or l m []) is ∙ get_or_append_left rows (row ∷ []) [] m (omega (arith, below, long)) in
        subst (IsRow u s (get_or ps m 0)) (sym same) (row_kept t u s (get_or ps m 0) (get_or rows m []) x (made m below))
    by false e =
        let above = ltb-false m i e in
        let here : m ≡ i = omega (arith, above, l) in
        let same : get_or items i [] ≡ row = ap (λ l. get_or l i []) is ∙ (ap (λ n. get_or (rows ++ row ∷ []) n []) (sym long) ∙ get_or-append_seam rows row [] []) in
        subst (λ n. IsRow u s (get_or ps n 0) (get_or items n [])) (sym here) (subst (IsRow u s (get_or ps i 0)) (sym same) newest)

-- a place that is among the first ones stands where it is found
pub found_before : (ps : List ℕ) (n i j : ℕ) → Rises ps → i < length ps → get_or ps i 0 ≡ j → HasBefore ps n j → n ≤ length ps → i < n
found_before ps n i j rise within here b few = by (nat_lt i n) refl
  where
    by : (t : Bool) → nat_lt i n ≡ t → i < n
    by true e = ltb-true i n e
    by false e =
        let above = ltb-false i n e in
        let less = rise b.at i (let l = b.before in omega (arith, l, above)) within in
        let there = b.is in
        absurd (omega (arith, less, there, here))

-- the row of an argument, where it is given as one of the rows of the first places
row_given : (t : Table) (s : Stored) (ps : List ℕ) (rows : List (List Edge)) (given args : List TermId) (k : ℕ) (row : List Edge) → given ≡ args → ((m : ℕ) → m < length rows → IsRow t s (get_or ps m 0) (get_or rows m []))
    → (k < length given → IsRowOf ps rows (nth given k) row) → k < length args → IsRow t s (nth args k) row
row_given t s ps rows given args k row is made r l = row_is t s ps rows (nth args k) row made (subst (λ gs. k < length gs → IsRowOf ps rows (nth gs k) row) is r l)

none_given : (given args : List TermId) (k : ℕ) (row : List Edge) → given ≡ args → (length given ≤ k → row ≡ []) → length args ≤ k → row ≡ []
none_given given args k row is r = subst (λ gs. length gs ≤ k → row ≡ []) is r

-- what a term's operator is given
pub operation_given : (s : Stored) (sound : IsSound s) (i : ℕ) (h : i < length s.terms) (t : Table) (ps : List ℕ) (rows : List (List Edge)) (given : List TermId) (x y z : List Edge) (inputs : List ℕ) (op : TermOp)
    → inputs ≡ s.inputs → op ≡ (term_at s i).op → given ≡ (term_at s i).args → ((m : ℕ) → m < length rows → IsRow t s (get_or ps m 0) (get_or rows m []))
    → (0 < length given → IsRowOf ps rows (nth given 0) x) → (length given ≤ 0 → x ≡ []) → (1 < length given → IsRowOf ps rows (nth given 1) y) → (length given ≤ 1 → y ≡ []) → (2 < length given → IsRowOf ps rows (nth given 2) z) → (length given ≤ 2 → z ≡ [])
    → Operation t s i inputs op x y z
operation_given s sound i h t ps rows given x y z inputs op is_inputs is_op is made x_row x_none y_row y_none z_row z_none =
    let args = (term_at s i).args in
    operation s sound i h t x y z (row_given t s ps rows given args 0 x is made x_row) (row_given t s ps rows given args 1 y is made y_row) (row_given t s ps rows given args 2 z is made z_row)
    (none_given given args 0 x is x_none) (none_given given args 1 y is y_none) (none_given given args 2 z is z_none) inputs op is_inputs is_op
