-- What a store keeps where its terms grow, and the numbers of its values.
use Rattle.std.proofs.Common.{◌≡◌, ℕ, ◌+◌, ◌<◌, ◌≤◌, List, ℤ, true, length, refl, sym, ap, subst, ◌∙◌}
use Rattle.stk_ctype.specs.declared.kind.IntKind.{IntKind}
use Rattle.stk_numbers.specs.Kinds.{width_of, fits}
use Rattle.stk_numbers.specs.Values.{bits_of}
use Rattle.stk_terms.specs.declared.term.TermId.{TermId}
use Rattle.stk_terms.specs.Terms.{Stored}
use Rattle.stk_terms.specs.Fitting.{IsSound, AreResidues}
use Rattle.stk_terms.specs.Values.{Bits, number_at}
use Rattle.stk_terms.specs.Cost.{total_cost}
use Rattle.stk_terms.proofs.Reading.{below}
use Rattle.stk_values.specs.Keeping.{Keeps}
use Rattle.stk_values.specs.Standing.{stands}
use Rattle.stk_symbols.specs.Valued.{IsTerm, Obeys, Grown}
use Rattle.stk_symbols.proofs.Made.{term_kept}
use Rattle.stk_values.proofs.InRange.{stands_back}
use Rattle.stk_symbols.specs.Symbolic.{Symbolic, residues_of, Serves, HasKey, IsMade, Shows}
use Rattle.stk_symbols.specs.Laws.{served_residues}

abbrev pub over : List IntKind → Stored → Symbolic
over ks t = record { kinds = ks; terms = t }

-- the numbers of the terms under a map
abbrev pub under : List IntKind → Stored → List ℤ → ℕ → ℕ
under ks t m i = number_at t (residues_of ks m) i

module _ (ks : List IntKind) (old new : Stored) (c : ℕ) (grown : Grown old new c) (sound : IsSound new) where
  pub made_of : (k : IntKind) (v : TermId) → IsTerm new (width_of k) v.0 → IsMade (over ks new) k v
  made_of k v t = record { term = t; sound = sound }

  number_kept : (m : List ℤ) (i : ℕ) → i < length old.terms → under ks new m i ≡ under ks old m i
  number_kept m i h = ap (λ (b : Bits). b.number) (grown.keeps.meant (residues_of ks m) i h)

  shown_still : (m : List ℤ) (k : IntKind) (v : TermId) (z : ℤ) → Shows (over ks old) m k v z → Shows (over ks new) m k v z
  shown_still m k v z p = record { term = term_kept old new c (width_of k) v.0 grown p.term; is = p.is ∙ ap (stands k) (sym (number_kept m v.0 p.term.exists_)) }

  pub keeps_of : Keeps Serves HasKey IsMade Shows (over ks old) (over ks new)
  keeps_of = record {
    served = λ m h. record { covers = h.covers; inputs_are = grown.keeps.inputs_stay ∙ h.inputs_are };
    served_before = λ m h. record { covers = h.covers; inputs_are = sym grown.keeps.inputs_stay ∙ h.inputs_are };
    keys = λ key k h. record { known = h.known; inputs_are = grown.keeps.inputs_stay ∙ h.inputs_are };
    keys_before = λ key k h. record { known = h.known; inputs_are = sym grown.keeps.inputs_stay ∙ h.inputs_are };
    made_still = λ k v h. record { term = term_kept old new c (width_of k) v.0 grown h.term; sound = sound };
    shown = shown_still;
  }

  pub charge_of : total_cost new ≤ total_cost old + c
  charge_of = grown.costs

  abbrev pub obeyed : (m : List ℤ) → Serves (over ks old) m → Obeys new (under ks new m)
  obeyed m h =
      let r : AreResidues new.inputs (residues_of ks m) = subst (λ i. AreResidues i (residues_of ks m)) (sym grown.keeps.inputs_stay) (served_residues (over ks old) m h) in
      record {
        residues = residues_of ks m;
        in_range = r;
        are = λ i l. refl;
        below = λ i l. below new sound (residues_of ks m) i r;
      }

  -- what an operand shows is what its bits stand for now
  pub operand : (m : List ℤ) (k : IntKind) (v : TermId) (z : ℤ) → Shows (over ks old) m k v z → z ≡ stands k (under ks new m v.0)
  operand m k v z p = (shown_still m k v z p).is

  -- an answer shows the number whose bits it has
  pub answer : (m : List ℤ) (k : IntKind) (v : TermId) (z : ℤ) → IsTerm new (width_of k) v.0 → fits k z ≡ true → under ks new m v.0 ≡ bits_of k z → Shows (over ks new) m k v z
  answer m k v z t f e = record { term = t; is = sym (ap (stands k) e ∙ stands_back k z f) }

-- what later calls find of earlier ones
pub made_later : (old new : Symbolic) (k : IntKind) (v : TermId) → Keeps Serves HasKey IsMade Shows old new → IsMade old k v → IsMade new k v
made_later old new k v h t = h.made_still k v t

pub key_later : (old new : Symbolic) (key : ℕ) (k : IntKind) → Keeps Serves HasKey IsMade Shows old new → HasKey old key k → HasKey new key k
key_later old new key k h t = h.keys key k t

pub ruleset later = (made_later, key_later)
