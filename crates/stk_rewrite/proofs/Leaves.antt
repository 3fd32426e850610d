-- Right sides that are there, that are numbers, or that were found for another one.
use Rattle.std.proofs.Common.{◌≡◌, ℕ, ◌≤◌, Bool, true, List, ◌∙◌, arith}
use Rattle.stk_terms.specs.declared.term.TermId.{TermId}
use Rattle.stk_terms.specs.Terms.{Stored}
use Rattle.stk_terms.specs.Fitting.{AreResidues}
use Rattle.stk_terms.specs.Cost.{IsClosed}
use Rattle.stk_terms.specs.Values.{width_at, number_at}
use Rattle.stk_rewrite.specs.Normal.{IsNormal}
use Rattle.stk_rewrite.specs.declared.right.Right.{Right}
use Rattle.stk_rewrite.specs.declared.right.Right.TheVariants.{Old, Number}
use Rattle.stk_rewrite.specs.Rights.{Replaces, IsBuilt, HasAll, IsWritten, right_width, right_number, right_bound}
use Rattle.stk_terms.proofs.Weighing.{grow_wider}

pub old_for : (s : Stored) (q : Right) (a : TermId) → IsNormal s a.0 → width_at s a.0 ≡ right_width s q → ((r : List ℕ) → AreResidues s.inputs r → number_at s r a.0 ≡ right_number s r q) → ((c : ℕ → Bool) → IsClosed s c → HasAll c q → c a.0 ≡ true) → Replaces s q (Old a)
old_for s q a n w v f = record { built = n; wide = w; value = v; cheap = omega arith; from = f }

pub number_for : (s : Stored) (q : Right) (w n : ℕ) → IsWritten w n → w ≡ right_width s q → ((r : List ℕ) → AreResidues s.inputs r → n ≡ right_number s r q) → Replaces s q (Number w n)
number_for s q w n h e v = record { built = h; wide = e; value = v; cheap = omega arith; from = λ c l k. tt }

pub via : (s : Stored) (p q r : Right) → Replaces s p r → right_width s p ≡ right_width s q → ((l : List ℕ) → AreResidues s.inputs l → right_number s l p ≡ right_number s l q) → right_bound s p ≤ right_bound s q → ((c : ℕ → Bool) → IsClosed s c → HasAll c q → HasAll c p) → Replaces s q r
via s p q r h w v c f = record { built = h.built; wide = h.wide ∙ w; value = λ l k. h.value l k ∙ v l k; cheap = omega (arith, h.cheap); from = λ d l k. h.from d l (f d l k) }

-- what is made of a right side is what the other one says
pub built_for : (old new : Stored) (q r : Right) (v : ℕ) → Replaces old q r → IsBuilt old new r v → IsBuilt old new q v
built_for old new q r v h b = record {
  normal = b.normal;
  wide = b.wide ∙ h.wide;
  value = λ l k. b.value l k ∙ h.value l k;
  grows = λ c l k. grow_wider old new c (right_bound old r) (right_bound old q) v h.cheap (b.grows c l (h.from c l k));
}
