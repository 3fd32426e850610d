-- Goals that no inputs make 1 are remembered, and stay so as the store grows.
use Rattle.std.proofs.Common.{ℕ, ◌<◌, List, [], ◌∷◌, length, sym, ap, subst, ◌∙◌, arith}
use Rattle.std.specs.List.{Contains}
use Rattle.std.proofs.lemmas.List.Elements.{All-nil, All-cons, All-head, All-tail, All-contains}
use Rattle.stk_terms.specs.Terms.{Stored}
use Rattle.stk_terms.specs.Fitting.{AreResidues}
use Rattle.stk_terms.specs.Growth.{Keeps}
use Rattle.stk_goal_clauses.specs.Laws.{IsNever}
use Rattle.stk_findings.specs.Asked.{AreNever}

-- what is said of each place that is remembered
abbrev Said : Stored → ℕ → Type 0
Said s i = (i < length s.terms) × IsNever s i

module _ (old now : Stored) (grown : Keeps old now) where
  never_stays : (i : ℕ) → Said old i → Said now i
  never_stays i h =
      let longer = grown.longer in
      let at = h.0 in
      (omega (arith, at, longer), λ residues fit one. h.1 residues (subst (λ ws. AreResidues ws residues) grown.inputs_stay fit) (sym (ap (λ m. m.number) (grown.meant residues i h.0)) ∙ one))

  pub nevers_stay : (places : List ℕ) → AreNever old places → AreNever now places
  nevers_stay [] h = All-nil (Said now)
  nevers_stay (i ∷ places) h = All-cons (Said now) i places (never_stays i (All-head (Said old) i places h)) (nevers_stay places (All-tail (Said old) i places h))

-- no inputs make a goal 1 whose place is remembered
pub remembered_never : (s : Stored) (places : List ℕ) (i : ℕ) → AreNever s places → Contains places i → IsNever s i
remembered_never s places i h among = (All-contains (Said s) places i h among).1

-- a store of which nothing is remembered
pub none_remembered : (s : Stored) → AreNever s []
none_remembered s = All-nil (Said s)
