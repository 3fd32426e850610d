-- Tables that grow.
use Rattle.std.proofs.Common.{◌≡◌, ℕ, ◌+◌, ◌<◌, ◌≤◌, Bool, true, false, ◌&&◌, if◌then◌else◌, List, [], ◌∷◌, ◌++◌, Some, length, slice_get, drop, refl, sym, ap, ◌∙◌, subst, arith}
use Rattle.std.specs.List.{list_any}
use Rattle.std.proofs.lemmas.List.{drop_all}
use Rattle.std.proofs.lemmas.Option.{slice_get_within, get_or_from_slice_get, slice_get-get_or}
use Rattle.std.proofs.Math.ListN.{get_or-append, length-append}
use Rattle.indexmap.specs.IndexSet.{insert_key}
use Rattle.stk_gates.specs.declared.edge.Edge.{Edge}
use Rattle.stk_gates.specs.Tables.{Table, Obeys, Extends}
use Rattle.stk_gates.specs.Edges.{edge_value}
use Rattle.stk_gates.specs.Laws.{known_as, gate_values}

pub extends_same : (t : Table) → Extends t t
extends_same t = record { inputs = refl; longer = omega arith; kept = λ k p h. h }

pub extends_twice : (s t u : Table) → Extends s t → Extends t u → Extends s u
extends_twice s t u a b = record { inputs = b.inputs ∙ a.inputs; longer = let x = a.longer in let y = b.longer in omega arith; kept = λ k p h. b.kept k p (a.kept k p h) }

-- what obeys the larger table obeys the smaller one
pub obeys_before : (s t : Table) (gates : ℕ → Bool) → Extends s t → Obeys t gates → Obeys s gates
obeys_before s t gates e o = record { constant = o.constant; ands = λ k p h. subst (λ n. gates (1 + n + k) ≡ edge_value gates p.0 && edge_value gates p.1) e.inputs (o.ands k p (e.kept k p h)) }

pub slice_get_kept : {X : Type 0} (xs ys : List X) (k : ℕ) (x : X) → slice_get xs k ≡ Some x → slice_get (xs ++ ys) k ≡ Some x
slice_get_kept xs ys k x h =
    let within = slice_get_within xs k x h in
    let longer : k < length (xs ++ ys) = omega (arith, length-append xs ys) in
    slice_get-get_or (xs ++ ys) k x longer ∙ ap Some (get_or-append xs ys x k within ∙ get_or_from_slice_get xs k x x h)

pub extends_inserted : (n : ℕ) (eq : Edge × Edge → Edge × Edge → Bool) (ks ms : List (Edge × Edge)) (p : Edge × Edge) → ms ≡ insert_key eq ks p → Extends (record { inputs = n; pairs = ks }) (record { inputs = n; pairs = ms })
extends_inserted n eq ks ms p e =
    subst (λ l. Extends (record { inputs = n; pairs = ks }) (record { inputs = n; pairs = l })) (sym e) (by (list_any (eq p) ks))
  where
    by : (b : Bool) → Extends (record { inputs = n; pairs = ks }) (record { inputs = n; pairs = if b then ks else ks ++ p ∷ [] })
    by true = extends_same _
    by false = record { inputs = refl; longer = omega (arith, length-append ks (p ∷ [])); kept = λ k x h. slice_get_kept ks (p ∷ []) k x h }

pub ruleset growth = (extends_same, extends_twice, obeys_before)

-- the end of the pass over the gates
pub eval_end : (slice known all : List Bool) (ps : List (Edge × Edge)) (i : ℕ) (e : Edge) → slice ≡ known → length ps ≤ i → gate_values known (drop i ps) ≡ all → edge_value (known_as slice) e ≡ edge_value (known_as all) e
eval_end slice known all ps i e s h r = ap (λ v. edge_value (known_as v) e) (s ∙ (sym (ap (gate_values known) (drop_all i ps h)) ∙ r))
