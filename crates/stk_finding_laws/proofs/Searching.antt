-- The first number below a bound that passes, by trying each.
use Rattle.std.proofs.Common.{◌≡◌, ℕ, zero, suc, ◌<◌, ◌⊎◌, inl, inr, subst, arith}

-- the first number below a bound that passes, or none does
pub data FirstBelow (n : ℕ) (P : ℕ → Type 0) : Type 0 where
  first_below : (m : ℕ) → m < n → P m → ((l : ℕ) → l < m → P l → ⊥) → FirstBelow n P
  none_below : ((m : ℕ) → m < n → P m → ⊥) → FirstBelow n P

below_or_at : (m n : ℕ) → m < suc n → (m < n) ⊎ (m ≡ n)
below_or_at m n h = grind arith

one_more : (n : ℕ) (P : ℕ → Type 0) → FirstBelow n P → P n ⊎ (P n → ⊥) → FirstBelow (suc n) P
one_more n P (first_below m less p before) here = first_below m (omega (arith, less)) p before
one_more n P (none_below none) (inl p) = first_below n (omega arith) p none
one_more n P (none_below none) (inr never) = none_below (λ m less p. elim (below_or_at m n less) [ inl l ↦ none m l p | inr same ↦ never (subst P same p) ])

pub search_below : (n : ℕ) (P : ℕ → Type 0) → ((m : ℕ) → P m ⊎ (P m → ⊥)) → FirstBelow n P
search_below zero P decide = none_below (λ m less p. absurd (omega (arith, less)))
search_below (suc n) P decide = one_more n P (search_below n P decide) (decide n)
