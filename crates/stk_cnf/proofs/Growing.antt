-- Lists of clauses and of gates that grow at their end.
use Rattle.std.proofs.Common.{◌≡◌, ℕ, ◌+◌, ◌<◌, Bool, true, false, not, ◌&&◌, ◌||◌, List, [], ◌∷◌, ◌++◌, length, take, get_or, refl, sym, ap, ◌∙◌}
use Rattle.std.proofs.lemmas.List.{take_more}
use Rattle.stk_gates.specs.declared.edge.Edge.{Edge}
use Rattle.std.proofs.Common.{slice_get, ◌-◌}
use Rattle.stk_gates.specs.Edges.{edge_value}
use Rattle.stk_gates.specs.Tables.{Table}
use Rattle.stk_clauses.specs.declared.literal.Lit.{Lit}
use Rattle.stk_cnf.specs.Clauses.{clause_value, cnf_value, named, ties, tied_by, all_tied}

pub or_true : (x : Bool) → x || true ≡ true
or_true true = refl
or_true false = refl

pub edge_false : (names : List ℕ) (v : ℕ → Bool) (e : Edge) → e.0 ≡ 0 → edge_value (named names v) e ≡ false
edge_false names v e h = ap (λ n. edge_value (named names v) (record { 0 = n })) h

and_between : (x y z : Bool) → (x && y) && z ≡ (x && z) && y
and_between true true z = sym (and_true z)
  where
    and_true : (x : Bool) → x && true ≡ x
    and_true true = refl
    and_true false = refl
and_between true false z = sym (and_false z)
  where
    and_false : (x : Bool) → x && false ≡ false
    and_false true = refl
    and_false false = refl
and_between false y z = refl

pub cnf_push : (v : ℕ → Bool) (cs : List (List Lit)) (c : List Lit) → cnf_value v (cs ++ c ∷ []) ≡ cnf_value v cs && clause_value v c
cnf_push v [] c = refl
cnf_push v (d ∷ cs) c = ap (λ x. x && clause_value v d) (cnf_push v cs c) ∙ and_between (cnf_value v cs) (clause_value v c) (clause_value v d)

tied : (p g x y : Bool) → ((p && ((false || x) || not g)) && ((false || y) || not g)) && (((false || not y) || not x) || g) ≡ p && ties g x y
tied true true true true = refl
tied true true true false = refl
tied true true false true = refl
tied true true false false = refl
tied true false true true = refl
tied true false true false = refl
tied true false false true = refl
tied true false false false = refl
tied false g x y = refl

-- three clauses tie a gate to its edges
pub ties_of : (p g x y ig ix iy q r s : Bool) → ig ≡ not g → ix ≡ not x → iy ≡ not y → q ≡ p && ((false || x) || ig) → r ≡ q && ((false || y) || ig) → s ≡ r && (((false || iy) || ix) || g) → s ≡ p && ties g x y
ties_of p g x y ig ix iy q r s e f h first second third =
    third ∙ ((λ j. second j && (((false || h j) || f j) || g)) ∙ ((λ j. (first j && ((false || y) || e j)) && (((false || not y) || not x) || g)) ∙ ((λ j. ((p && ((false || x) || e j)) && ((false || y) || not g)) && (((false || not y) || not x) || g)) ∙ tied p g x y)))

pub ties_same : (g h x y z w : Bool) → g ≡ h → x ≡ y → z ≡ w → ties g x z ≡ ties h y w
ties_same g h x y z w e f i = (λ j. ties (e j) (f j) (i j))

pub tied_push : (t : Table) (gates : ℕ → Bool) (ns : List ℕ) (n : ℕ) → all_tied t gates (ns ++ n ∷ []) ≡ all_tied t gates ns && tied_by gates n (slice_get t.pairs (n - (1 + t.inputs)))
tied_push t gates [] n = refl
tied_push t gates (m ∷ ns) n = ap (λ x. x && tied_by gates m (slice_get t.pairs (m - (1 + t.inputs)))) (tied_push t gates ns n) ∙ and_between (all_tied t gates ns) (tied_by gates n (slice_get t.pairs (n - (1 + t.inputs)))) (tied_by gates m (slice_get t.pairs (m - (1 + t.inputs))))

pub tied_more : (t : Table) (gates : ℕ → Bool) (ns : List ℕ) (i : ℕ) (d : ℕ) (old new : Bool) → i < length ns → old ≡ all_tied t gates (take i ns) → new ≡ old && tied_by gates (get_or ns i d) (slice_get t.pairs (get_or ns i d - (1 + t.inputs))) → new ≡ all_tied t gates (take (i + 1) ns)
tied_more t gates ns i d old new h before is = is ∙ (ap (λ x. x && tied_by gates (get_or ns i d) (slice_get t.pairs (get_or ns i d - (1 + t.inputs)))) before ∙ sym (ap (all_tied t gates) (take_more ns i d h) ∙ tied_push t gates (take i ns) (get_or ns i d)))
