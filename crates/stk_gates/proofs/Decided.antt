-- Inputs decide the values of all edges.
use Rattle.std.proofs.Common.{◌≡◌, ℕ, zero, suc, ◌+◌, ◌-◌, ◌*◌, ◌/◌, ◌%◌, ◌<◌, ◌≤◌, Bool, false, not, ◌&&◌, if◌then◌else◌, List, [], ◌∷◌, ◌++◌, Some, length, slice_get, get_or, refl, sym, ap, ◌∙◌, subst, arith, nat_eq}
use Rattle.std.proofs.Common.{◌⊎◌, inl, inr}
use Rattle.std.proofs.lemmas.Bool.{cases_lt}
use Rattle.std.proofs.Math.ListN.{get_or-append, length-append}
use Rattle.std.proofs.Math.Seq.{get_or-append_seam}
use Rattle.std.proofs.lemmas.Option.{slice_get-get_or}
use Rattle.stk_gates.specs.declared.edge.Edge.{Edge}
use Rattle.stk_gates.specs.Tables.{Table, gate_count, IsEdge, Obeys, HasInputs, IsOrdered}
use Rattle.stk_gates.specs.Edges.{edge_value}
use Rattle.stk_gates.specs.Laws.{known_as, gate_values, values_for}
use Rattle.stk_gates.specs.Laws.{EveryInputGives, InputsDecide, OlderEdgesKeep}
use Rattle.stk_gates.proofs.Growth.{obeys_before}

pub edge_same : (f g : ℕ → Bool) (e : Edge) → f (e.0 / 2) ≡ g (e.0 / 2) → edge_value f e ≡ edge_value g e
edge_same f g e h = ap (λ x. if nat_eq (e.0 % 2) 0 then x else not x) h

-- a bounded course of values
below_all : (P : ℕ → Type 0) → ((n : ℕ) → ((m : ℕ) → m < n → P m) → P n) → (n m : ℕ) → m < n → P m
below_all P step zero m h = absurd (omega arith)
below_all P step (suc n) m h = step m (λ j l. below_all P step n j (omega arith))

module _ (t : Table) (f g : ℕ → Bool) (ordered : IsOrdered t) (o : Obeys t f) (p : Obeys t g) (inputs : (k : ℕ) → k < t.inputs → f (1 + k) ≡ g (1 + k)) where
  gate_same : (n : ℕ) → ((m : ℕ) → m < n → m < gate_count t → f m ≡ g m) → n < gate_count t → f n ≡ g n
  gate_same zero before h = o.constant ∙ sym p.constant
  gate_same (suc n) before h = by (cases_lt n t.inputs)
    where
      by : (n < t.inputs) ⊎ (t.inputs ≤ n) → f (suc n) ≡ g (suc n)
      by (inl l) = let shape : suc n ≡ 1 + n = omega arith in ap f shape ∙ (inputs n l ∙ ap g (sym shape))
      by (inr l) =
          let k = n - t.inputs in
          let shape : suc n ≡ 1 + t.inputs + k = omega arith in
          let within : k < length t.pairs = omega arith in
          let none : Edge = record { 0 = 0 } in
          let pair = get_or t.pairs k (none, none) in
          let at : slice_get t.pairs k ≡ Some pair = slice_get-get_or t.pairs k (none, none) within in
          let low = ordered k pair at in
          let first = edge_same f g pair.0 (before (pair.0.0 / 2) (let l0 = low.0 in omega arith) (let l0 = low.0 in omega arith)) in
          let second = edge_same f g pair.1 (before (pair.1.0 / 2) (let l1 = low.1 in omega arith) (let l1 = low.1 in omega arith)) in
          ap f shape ∙ (o.ands k pair at ∙ ((λ j. first j && second j) ∙ (sym (p.ands k pair at) ∙ ap g (sym shape))))

  pub all_same : (e : Edge) → IsEdge t e → edge_value f e ≡ edge_value g e
  all_same e h = edge_same f g e (below_all (λ n. n < gate_count t → f n ≡ g n) gate_same (suc (e.0 / 2)) (e.0 / 2) (omega arith) (omega arith))

-- what is known stays
pub known_kept : (known : List Bool) (ps : List (Edge × Edge)) (n : ℕ) → n < length known → known_as (gate_values known ps) n ≡ known_as known n
known_kept known [] n h = refl
known_kept known (p ∷ ps) n h =
    let v = edge_value (known_as known) p.0 && edge_value (known_as known) p.1 in
    known_kept (known ++ v ∷ []) ps n (omega (arith, length-append known (v ∷ []))) ∙ get_or-append known (v ∷ []) false n h

-- the k-th gate's value is the AND of its edges' values
pub known_ands : (known : List Bool) (ps : List (Edge × Edge)) (k : ℕ) (p : Edge × Edge) → slice_get ps k ≡ Some p → ((j : ℕ) (q : Edge × Edge) → slice_get ps j ≡ Some q → (q.0.0 < 2 * (length known + j)) × (q.1.0 < 2 * (length known + j)))
    → known_as (gate_values known ps) (length known + k) ≡ edge_value (known_as (gate_values known ps)) p.0 && edge_value (known_as (gate_values known ps)) p.1
known_ands known [] k p h low = absurd cc
known_ands known (q ∷ ps) zero p h low =
    let v = edge_value (known_as known) q.0 && edge_value (known_as known) q.1 in
    let all = gate_values known (q ∷ ps) in
    let same : q ≡ p = cc in
    let l = low zero q refl in
    let more : length known < length (known ++ v ∷ []) = omega (arith, length-append known (v ∷ [])) in
    let shape : length known + 0 ≡ length known = omega arith in
    let first : edge_value (known_as known) q.0 ≡ edge_value (known_as all) q.0 = sym (edge_same (known_as all) (known_as known) q.0 (known_kept known (q ∷ ps) (q.0.0 / 2) (let l0 = l.0 in omega arith))) in
    let second : edge_value (known_as known) q.1 ≡ edge_value (known_as all) q.1 = sym (edge_same (known_as all) (known_as known) q.1 (known_kept known (q ∷ ps) (q.1.0 / 2) (let l1 = l.1 in omega arith))) in
    ap (known_as all) shape ∙ (known_kept (known ++ v ∷ []) ps (length known) more ∙ (get_or-append_seam known v [] false ∙ ((λ j. first j && second j) ∙ ap (λ r. edge_value (known_as all) r.0 && edge_value (known_as all) r.1) same)))
known_ands known (q ∷ ps) (suc k) p h low =
    let v = edge_value (known_as known) q.0 && edge_value (known_as known) q.1 in
    let size : length (known ++ v ∷ []) ≡ length known + 1 = length-append known (v ∷ []) in
    let shape : length known + suc k ≡ length (known ++ v ∷ []) + k = omega arith in
    ap (known_as (gate_values known (q ∷ ps))) shape ∙ known_ands (known ++ v ∷ []) ps k p h (λ j r g. let l = low (suc j) r g in (let l0 = l.0 in omega arith, let l1 = l.1 in omega arith))

pub every_input : EveryInputGives
every_input t inputs ordered size =
    let first : List Bool = false ∷ inputs in
    let long : length first ≡ 1 + t.inputs = omega arith in (
      record {
        constant = known_kept first t.pairs 0 (omega arith);
        ands = λ k p h. subst (λ n. values_for t inputs (n + k) ≡ edge_value (values_for t inputs) p.0 && edge_value (values_for t inputs) p.1) long
            (known_ands first t.pairs k p h (λ j q g. let l = ordered j q g in (let l0 = l.0 in omega arith, let l1 = l.1 in omega arith)));
      },
      record { many = size; each = λ k h. known_kept first t.pairs (1 + k) (omega arith) ∙ shift k },
    )
  where
    shift : (k : ℕ) → known_as (false ∷ inputs) (1 + k) ≡ get_or inputs k false
    shift k = let shape : 1 + k ≡ suc k = omega arith in ap (known_as (false ∷ inputs)) shape

pub inputs_decide : InputsDecide
inputs_decide t f g ordered o p inputs e h = all_same t f g ordered o p inputs e h

pub older_edges : OlderEdgesKeep
older_edges s t inputs e os ot grown size h =
    let wide : length inputs ≡ t.inputs = size ∙ sym grown.inputs in
    let new = every_input t inputs ot wide in
    let old = every_input s inputs os size in
    all_same s (values_for t inputs) (values_for s inputs) os (obeys_before s t (values_for t inputs) grown new.0) old.0 (λ k l. new.1.each k (subst (λ n. k < n) (sym grown.inputs) l) ∙ sym (old.1.each k l)) e h

-- the value for some inputs is that of any values that the table has for them
pub decided : (t : Table) (bits : List Bool) (gates : ℕ → Bool) (e : Edge) → IsOrdered t → length bits ≡ t.inputs → IsEdge t e → Obeys t gates → HasInputs t gates bits → edge_value (values_for t bits) e ≡ edge_value gates e
decided t bits gates e ordered size h o has =
    let all = every_input t bits ordered size in
    all_same t (values_for t bits) gates ordered all.0 o (λ k l. all.1.each k l ∙ sym (has.each k l)) e h
