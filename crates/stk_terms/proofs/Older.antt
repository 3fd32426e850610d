-- What older terms are after others were made.
use Rattle.std.proofs.Common.{◌≡◌, ℕ, zero, suc, ◌<◌, List, [], ◌∷◌, length, get_or, sym, ap, subst, ◌∙◌, arith}
use Rattle.std.proofs.lemmas.Option.{none-some}
use Rattle.stk_terms.specs.declared.term.TermId.{TermId}
use Rattle.stk_terms.specs.Terms.{Stored, Term, StandsAt, term_at, nth, child}
use Rattle.stk_terms.specs.Fitting.{IsSound, AreBelow}
use Rattle.stk_terms.specs.Growth.{Keeps}
use Rattle.stk_terms.specs.Parts.{IsPart, Whole, Within}
use Rattle.stk_terms.specs.Values.{Bits, number_at}
use Rattle.stk_terms.proofs.Args.{wider}
use Rattle.stk_terms.proofs.Sharing.{some_one}
use Rattle.stk_terms.proofs.Reading.{there, below_own}

-- the term that stands at a place
pub got : (ts : List Term) (i : ℕ) (d t : Term) → StandsAt ts i t → get_or ts i d ≡ t
got [] i d t h = absurd (none-some _ h)
got (u ∷ ts) zero d t h = some_one h
got (u ∷ ts) (suc i) d t h = got ts i d t h

nth_within : (n : ℕ) (args : List TermId) (k : ℕ) → 0 < n → AreBelow n args → nth args k < n
nth_within n [] k h b = h
nth_within n (a ∷ args) zero h b = b.0
nth_within n (a ∷ args) (suc k) h b = nth_within n args k h b.1

module _ (old new : Stored) (sound : IsSound old) (keeps : Keeps old new) where
  pub term_kept : (i : ℕ) → i < length old.terms → term_at new i ≡ term_at old i
  term_kept i h = got new.terms i _ (term_at old i) (keeps.stand i (term_at old i) (there old sound i h))

  pub child_within : (i k : ℕ) → i < length old.terms → child old i k < length old.terms
  child_within i k h = nth_within (length old.terms) (term_at old i).args k (omega arith) (wider i (length old.terms) (term_at old i).args (omega arith) (below_own old sound i h))

  pub child_kept : (i k : ℕ) → i < length old.terms → child new i k ≡ child old i k
  child_kept i k h = ap (λ t. nth t.args k) (term_kept i h)

  pub part_kept : (j i : ℕ) → IsPart new j i → i < length old.terms → IsPart old j i × (j < length old.terms)
  part_kept j _ (Whole i e) h = (Whole i e, subst (λ k. k < length old.terms) e h)
  part_kept j _ (Within i k l p) h =
      let c : child new i k ≡ child old i k = child_kept i k h in
      let q = part_kept j (child new i k) p (subst (λ m. m < length old.terms) (sym c) (child_within i k h)) in
      (Within i k (subst (λ t. k < length t.args) (term_kept i h) l) (subst (λ m. IsPart old j m) c q.0), q.1)

  pub number_kept : (r : List ℕ) (i : ℕ) → i < length old.terms → number_at new r i ≡ number_at old r i
  number_kept r i h = ap (λ (b : Bits). b.number) (keeps.meant r i h)

pub keeps_then : (s t u : Stored) → Keeps s t → Keeps t u → Keeps s u
keeps_then s t u g h = record {
  inputs_stay = h.inputs_stay ∙ g.inputs_stay;
  longer = omega (arith, g.longer, h.longer);
  stand = λ i x p. h.stand i x (g.stand i x p);
  meant = λ r i p. h.meant r i (longer i p) ∙ g.meant r i p;
  wide = λ i p. h.wide i (longer i p) ∙ g.wide i p;
}
  where
    longer : (i : ℕ) → i < length s.terms → i < length t.terms
    longer i p = omega (arith, g.longer)
