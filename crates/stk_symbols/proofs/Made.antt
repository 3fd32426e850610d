-- What a term that was made is, over numbers that obey the store; and what stays when a store grows.
use Rattle.std.proofs.Common.{◌≡◌, ℕ, ◌+◌, ◌^◌, ◌<◌, ◌≤◌, List, length, sym, ap, subst, ◌∙◌, arith, nat_eq, if◌then◌else◌}
use Rattle.stk_terms.specs.declared.term.TermId.{TermId}
use Rattle.stk_terms.specs.declared.term.TermOp.{TermOp}
use Rattle.stk_terms.specs.Terms.{Stored}
use Rattle.stk_terms.specs.Fitting.{AreResidues}
use Rattle.stk_terms.specs.Growth.{Keeps}
use Rattle.stk_terms.specs.Values.{Bits, width_by, number_by, width_at, number_at}
use Rattle.stk_rewrite.specs.Rights.{IsBuilt}
use Rattle.stk_rewrite.specs.declared.right.Right.TheVariants.{Number, One, Two, Chosen}
use Rattle.stk_terms.proofs.Adding.{keeps_same}
use Rattle.stk_terms.proofs.Older.{keeps_then}
use Rattle.stk_symbols.specs.Valued.{IsTerm, Obeys, Grown}

module _ (old new : Stored) (keeps : Keeps old new) (v : ℕ) (numbers : ℕ → ℕ) (o : Obeys new numbers) where
  before : AreResidues old.inputs o.residues
  before = subst (λ i. AreResidues i o.residues) keeps.inputs_stay o.in_range

  argument : (a w : ℕ) → IsTerm old w a → number_at old o.residues a ≡ numbers a
  argument a w t =
      let later : a < length new.terms = omega (arith, t.exists_, keeps.longer) in
      sym (ap (λ (b : Bits). b.number) (keeps.meant o.residues a t.exists_)) ∙ sym (o.are a later)

  pub number_valued : (w n : ℕ) → IsBuilt old new (Number w n) v → numbers v ≡ n
  number_valued w n b = o.are v b.normal.exists_ ∙ b.value o.residues before

  pub one_valued : (op : TermOp) (a : TermId) (w : ℕ) → IsTerm old w a.0 → IsBuilt old new (One op a) v → numbers v ≡ number_by o.residues op w 0 (numbers a.0) 0 0
  one_valued op a w t b = o.are v b.normal.exists_ ∙ (b.value o.residues before ∙ (λ j. number_by o.residues op (t.wide j) 0 (argument a.0 w t j) 0 0))

  pub two_valued : (op : TermOp) (a b : TermId) (w x : ℕ) → IsTerm old w a.0 → IsTerm old x b.0 → IsBuilt old new (Two op a b) v → numbers v ≡ number_by o.residues op w x (numbers a.0) (numbers b.0) 0
  two_valued op a b w x t u y = o.are v y.normal.exists_ ∙ (y.value o.residues before ∙ (λ j. number_by o.residues op (t.wide j) (u.wide j) (argument a.0 w t j) (argument b.0 x u j) 0))

  pub three_valued : (a b c : TermId) (w x : ℕ) → IsTerm old w a.0 → IsTerm old x b.0 → IsTerm old x c.0 → IsBuilt old new (Chosen a b c) v → numbers v ≡ (if nat_eq (numbers a.0) 1 then numbers b.0 else numbers c.0)
  three_valued a b c w x t u z y = o.are v y.normal.exists_ ∙ (y.value o.residues before ∙ (λ j. if nat_eq (argument a.0 w t j) 1 then argument b.0 x u j else argument c.0 x z j))

-- what is made has its width
module _ (old new : Stored) (v : ℕ) where
  pub number_term : (w n : ℕ) → IsBuilt old new (Number w n) v → IsTerm new w v
  number_term w n b = record { exists_ = b.normal.exists_; wide = b.wide }

  pub one_term : (op : TermOp) (a : TermId) (w : ℕ) → IsTerm old w a.0 → IsBuilt old new (One op a) v → IsTerm new (width_by old.inputs op w 0) v
  one_term op a w t b = record { exists_ = b.normal.exists_; wide = b.wide ∙ ap (λ x. width_by old.inputs op x 0) t.wide }

  pub two_term : (op : TermOp) (a b : TermId) (w x : ℕ) → IsTerm old w a.0 → IsTerm old x b.0 → IsBuilt old new (Two op a b) v → IsTerm new (width_by old.inputs op w x) v
  two_term op a b w x t u y = record { exists_ = y.normal.exists_; wide = y.wide ∙ (λ j. width_by old.inputs op (t.wide j) (u.wide j)) }

  pub three_term : (a b c : TermId) (x : ℕ) → IsTerm old x b.0 → IsBuilt old new (Chosen a b c) v → IsTerm new x v
  three_term a b c x u y = record { exists_ = y.normal.exists_; wide = y.wide ∙ u.wide }

-- what stays
pub term_kept : (old new : Stored) (c w v : ℕ) → Grown old new c → IsTerm old w v → IsTerm new w v
term_kept old new c w v g t = record { exists_ = omega (arith, g.keeps.longer, t.exists_); wide = g.keeps.wide v t.exists_ ∙ t.wide }

-- numbers that obey a store obey it as it was before
pub obeys_before : (old new : Stored) (c : ℕ) (numbers : ℕ → ℕ) → Grown old new c → Obeys new numbers → Obeys old numbers
obeys_before old new c numbers g o = record {
  residues = o.residues;
  in_range = subst (λ i. AreResidues i o.residues) g.keeps.inputs_stay o.in_range;
  are = λ i h. o.are i (omega (arith, g.keeps.longer, h)) ∙ ap (λ (b : Bits). b.number) (g.keeps.meant o.residues i h);
  below = λ i h. subst (λ w. numbers i < 2 ^ w) (g.keeps.wide i h) (o.below i (omega (arith, g.keeps.longer, h)));
}

pub grown_same : (s : Stored) (c : ℕ) → Grown s s c
grown_same s c = record { keeps = keeps_same s; costs = omega arith }

pub grown_then : (s t u : Stored) (c d e : ℕ) → Grown s t c → Grown t u d → c + d ≤ e → Grown s u e
grown_then s t u c d e g h l = record { keeps = keeps_then s t u g.keeps h.keeps; costs = omega (arith, g.costs, h.costs, l) }

pub term_below : (s : Stored) (numbers : ℕ → ℕ) (w v : ℕ) → Obeys s numbers → IsTerm s w v → numbers v < 2 ^ w
term_below s numbers w v o t = subst (λ x. numbers v < 2 ^ x) t.wide (o.below v t.exists_)

pub ruleset kept = (term_kept, obeys_before, grown_then, grown_same)
