-- Clauses over named gates say exactly what the table says.
use Rattle.std.proofs.Common.{◌≡◌, inl, inr, ℕ, zero, suc, ◌+◌, ◌-◌, ◌/◌, ◌<◌, ◌≤◌, Bool, true, false, not, ◌&&◌, if◌then◌else◌, nat_eq, List, [], ◌∷◌, Some, length, slice_get, get_or, refl, sym, ap, ◌∙◌, subst, arith, eqb-true}
use Rattle.std.proofs.lemmas.Option.{slice_get-get_or}
use Rattle.std.proofs.lemmas.Bool.{le-ltb, lt-ltb}
use Rattle.stk_gates.specs.declared.edge.Edge.{Edge}
use Rattle.stk_gates.specs.Edges.{edge_value}
use Rattle.stk_gates.specs.Tables.{Table, Obeys, IsOrdered}
use Rattle.stk_gates.proofs.Decided.{edge_same}
use Rattle.stk_cnf.specs.Clauses.{named, ties, tied_by, all_tied}
use Rattle.stk_cnf.specs.Standing.{variables}
use Rattle.stk_cnf.proofs.Literals.{and_left, and_right, both_true}
use Rattle.stk_cnf.specs.Naming.{IsNaming, IsAmong, IsClosed}

from_ties : (g x y : Bool) → ties g x y ≡ true → g ≡ x && y
from_ties true x y e = sym e
from_ties false x y e = by (x && y) e
  where
    by : (b : Bool) → not b ≡ true → false ≡ b
    by true h = absurd cc
    by false h = refl

to_ties : (g x y : Bool) → g ≡ x && y → ties g x y ≡ true
to_ties true x y e = sym e
to_ties false x y e = ap not (sym e)

pub tied_here : (t : Table) (gates : ℕ → Bool) (ns : List ℕ) (j : ℕ) → all_tied t gates ns ≡ true → j < length ns → tied_by gates (get_or ns j 0) (slice_get t.pairs (get_or ns j 0 - (1 + t.inputs))) ≡ true
tied_here t gates [] j e h = absurd (omega arith)
tied_here t gates (n ∷ ns) zero e h = and_right _ _ e
tied_here t gates (n ∷ ns) (suc j) e h = tied_here t gates ns j (and_left _ _ e) (omega arith)

pub tied_all : (t : Table) (gates : ℕ → Bool) (ns : List ℕ) → ((j : ℕ) → j < length ns → tied_by gates (get_or ns j 0) (slice_get t.pairs (get_or ns j 0 - (1 + t.inputs))) ≡ true) → all_tied t gates ns ≡ true
tied_all t gates [] f = refl
tied_all t gates (n ∷ ns) f = both_true _ _ (tied_all t gates ns (λ j h. f (suc j) (omega arith))) (f zero (omega arith))

below_all : (P : ℕ → Type 0) → ((n : ℕ) → ((m : ℕ) → m < n → P m) → P n) → (n m : ℕ) → m < n → P m
below_all P step zero m h = absurd (omega arith)
below_all P step (suc n) m h = step m (λ j l. below_all P step n j (omega arith))

named_later : (names : List ℕ) (v : ℕ → Bool) (n : ℕ) → 0 < n → named names v n ≡ v (get_or names n 0)
named_later names v zero h = absurd (omega arith)
named_later names v (suc n) h = by (nat_eq (suc n) 0) refl
  where
    by : (b : Bool) → nat_eq (suc n) 0 ≡ b → (if b then false else v (get_or names (suc n) 0)) ≡ v (get_or names (suc n) 0)
    by true e = let no_way = eqb-true (suc n) 0 e in absurd (omega arith)
    by false e = refl

module _ (t : Table) (ands names : List ℕ) (goal : Edge) (ordered : IsOrdered t) (naming : IsNaming t ands names) (closed : IsClosed t ands goal) where
  pair_of : ℕ → Edge × Edge
  pair_of n = get_or t.pairs (n - (1 + t.inputs)) (record { 0 = 0 }, record { 0 = 0 })

  at_gate : (j : ℕ) → j < length ands → slice_get t.pairs (get_or ands j 0 - (1 + t.inputs)) ≡ Some (pair_of (get_or ands j 0))
  unfolding pair_of
  at_gate j h = let w = closed.within j h in let above = w.0 in let below = w.1 in slice_get-get_or t.pairs (get_or ands j 0 - (1 + t.inputs)) (record { 0 = 0 }, record { 0 = 0 }) (omega arith)

  gate_is : (gates : ℕ → Bool) → Obeys t gates → (j : ℕ) → j < length ands → gates (get_or ands j 0) ≡ edge_value gates (pair_of (get_or ands j 0)).0 && edge_value gates (pair_of (get_or ands j 0)).1
  gate_is gates o j h =
      let w = closed.within j h in
      let above = w.0 in
      let shape : get_or ands j 0 ≡ 1 + t.inputs + (get_or ands j 0 - (1 + t.inputs)) = omega arith in
      ap gates shape ∙ o.ands (get_or ands j 0 - (1 + t.inputs)) (pair_of (get_or ands j 0)) (at_gate j h)

  operands_low : (j : ℕ) → j < length ands → ((pair_of (get_or ands j 0)).0.0 / 2 < get_or ands j 0) × ((pair_of (get_or ands j 0)).1.0 / 2 < get_or ands j 0)
  operands_low j h =
      let w = closed.within j h in
      let above = w.0 in
      let l = ordered (get_or ands j 0 - (1 + t.inputs)) (pair_of (get_or ands j 0)) (at_gate j h) in
      (let first = l.0 in omega arith, let second = l.1 in omega arith)

  -- the constant and the inputs
  low_same : (v gates : ℕ → Bool) → Obeys t gates → ((k : ℕ) → k < t.inputs → gates (1 + k) ≡ v k) → (n : ℕ) → n ≤ t.inputs → named names v n ≡ gates n
  low_same v gates o inputs zero h = sym o.constant
  low_same v gates o inputs (suc k) h =
      let shape : suc k ≡ 1 + k = omega arith in
      named_later names v (suc k) (omega arith) ∙ (ap (λ m. v (get_or names m 0)) shape ∙ (ap v (naming.inputs k (omega arith)) ∙ (sym (inputs k (omega arith)) ∙ ap gates (sym shape))))

  only_same : (v gates : ℕ → Bool) → Obeys t gates → ((k : ℕ) → k < t.inputs → gates (1 + k) ≡ v k) → all_tied t (named names v) ands ≡ true → (n : ℕ) → IsAmong t ands n → named names v n ≡ gates n
  only_same v gates o inputs tied n among = below_all (λ m. IsAmong t ands m → named names v m ≡ gates m) step (suc n) n (omega arith) among
    where
      step : (n : ℕ) → ((m : ℕ) → m < n → IsAmong t ands m → named names v m ≡ gates m) → IsAmong t ands n → named names v n ≡ gates n
      step n before (inl l) = low_same v gates o inputs n l
      step n before (inr f) =
          let j = f.0 in
          let p = pair_of (get_or ands j 0) in
          let low = operands_low j f.1 in
          let are = closed.operands j p f.1 (at_gate j f.1) in
          let is = f.2 in
          let first = edge_same (named names v) gates p.0 (before (p.0.0 / 2) (let l = low.0 in omega arith) are.0) in
          let second = edge_same (named names v) gates p.1 (before (p.1.0 / 2) (let l = low.1 in omega arith) are.1) in
          let here = subst (λ o. tied_by (named names v) (get_or ands j 0) o ≡ true) (at_gate j f.1) (tied_here t (named names v) ands j tied f.1) in
          ap (named names v) (sym f.2) ∙ (from_ties (named names v (get_or ands j 0)) (edge_value (named names v) p.0) (edge_value (named names v) p.1) here ∙ ((λ i. first i && second i) ∙ (sym (gate_is gates o j f.1) ∙ ap gates f.2)))

  and_variable : (v gates : ℕ → Bool) (j : ℕ) → j < length ands → named names v (get_or ands j 0) ≡ v (t.inputs + j)
  and_variable v gates j h = let w = closed.within j h in let above = w.0 in named_later names v (get_or ands j 0) (omega arith) ∙ ap v (naming.gate_names j h)

  each_same : (gates : ℕ → Bool) → Obeys t gates → (n : ℕ) → IsAmong t ands n → named names (variables t ands gates) n ≡ gates n
  each_same gates o n (inl l) = low_same (variables t ands gates) gates o (λ k h. sym (ap (λ b. if b then gates (1 + k) else gates (get_or ands (k - t.inputs) 0)) (lt-ltb k t.inputs h))) n l
  each_same gates o n (inr f) =
      let j = f.0 in
      let back : t.inputs + j - t.inputs ≡ j = omega arith in
      ap (named names (variables t ands gates)) (sym f.2) ∙ (and_variable (variables t ands gates) gates j f.1 ∙ (ap (λ b. if b then gates (1 + (t.inputs + j)) else gates (get_or ands (t.inputs + j - t.inputs) 0)) (le-ltb (t.inputs + j) t.inputs (omega arith)) ∙ (ap (λ m. gates (get_or ands m 0)) back ∙ ap gates f.2)))

  each_tied : (gates : ℕ → Bool) → Obeys t gates → all_tied t (named names (variables t ands gates)) ands ≡ true
  each_tied gates o = tied_all t (named names (variables t ands gates)) ands (λ j h.
      let p = pair_of (get_or ands j 0) in
      let are = closed.operands j p h (at_gate j h) in
      let f = named names (variables t ands gates) in
      let first = edge_same f gates p.0 (each_same gates o (p.0.0 / 2) are.0) in
      let second = edge_same f gates p.1 (each_same gates o (p.1.0 / 2) are.1) in
      subst (λ q. tied_by f (get_or ands j 0) q ≡ true) (sym (at_gate j h)) (to_ties (f (get_or ands j 0)) (edge_value f p.0) (edge_value f p.1) (each_same gates o (get_or ands j 0) (inr (j, h, refl)) ∙ (gate_is gates o j h ∙ sym (λ i. first i && second i)))))

-- what satisfies the clauses is an extension of its inputs, and makes the edge true
pub only_extensions : (t : Table) (ands names : List ℕ) (goal : Edge) (v gates : ℕ → Bool) → IsOrdered t → IsNaming t ands names → IsClosed t ands goal → all_tied t (named names v) ands && edge_value (named names v) goal ≡ true → Obeys t gates → ((k : ℕ) → k < t.inputs → gates (1 + k) ≡ v k) → (edge_value gates goal ≡ true) × ((j : ℕ) → j < length ands → v (t.inputs + j) ≡ gates (get_or ands j 0))
only_extensions t ands names goal v gates ordered naming closed sat o inputs =
    let tied = and_left _ _ sat in
    let same = only_same t ands names goal ordered naming closed v gates o inputs tied in (
      sym (edge_same (named names v) gates goal (same (goal.0 / 2) closed.goal_among)) ∙ and_right _ _ sat,
      λ j h. sym (and_variable t ands names goal ordered naming closed v gates j h) ∙ same (get_or ands j 0) (inr (j, h, refl)),
    )

-- each extension of inputs that makes the edge true satisfies the clauses
pub each_extension : (t : Table) (ands names : List ℕ) (goal : Edge) (gates : ℕ → Bool) → IsOrdered t → IsNaming t ands names → IsClosed t ands goal → Obeys t gates → edge_value gates goal ≡ true → all_tied t (named names (variables t ands gates)) ands && edge_value (named names (variables t ands gates)) goal ≡ true
each_extension t ands names goal gates ordered naming closed o holds =
    both_true _ _ (each_tied t ands names goal ordered naming closed gates o) (edge_same (named names (variables t ands gates)) gates goal (each_same t ands names goal ordered naming closed gates o (goal.0 / 2) closed.goal_among) ∙ holds)
