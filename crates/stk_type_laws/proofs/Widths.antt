-- How wide promoted and common kinds are, by all kinds and all pairs of kinds.
use Rattle.std.proofs.Common.{◌≡◌, ℕ, ◌==◌, Bool, true, false, not, ◌&&◌, List, [], ◌∷◌, refl, sym, subst, inl, inr, arith}
use Rattle.std.specs.Prelude.{max}
use Rattle.std.specs.List.{list_all}
use Rattle.std.proofs.lemmas.Grind.{common_steps}
use Rattle.stk_ctype.specs.declared.kind.IntKind.{IntKind}
use Rattle.stk_ctype.specs.declared.kind.IntKind.TheVariants as kind
use Rattle.stk_numbers.specs.Kinds.{width_of, is_bool, promote, common}
use Rattle.stk_run_laws.specs.Visits.{IsIn}
use Rattle.stk_type_laws.specs.Widths.{KindsAreWide}

-- all kinds
abbrev kinds : List IntKind
kinds = kind.Bool ∷ kind.Char ∷ kind.SChar ∷ kind.UChar ∷ kind.Short ∷ kind.UShort ∷ kind.Int ∷ kind.UInt ∷ kind.Long ∷ kind.ULong ∷ kind.LLong ∷ kind.ULLong ∷ []

listed : (k : IntKind) → IsIn k kinds
listed kind.Bool = inl refl
listed kind.Char = inr (inl refl)
listed kind.SChar = inr (inr (inl refl))
listed kind.UChar = inr (inr (inr (inl refl)))
listed kind.Short = inr (inr (inr (inr (inl refl))))
listed kind.UShort = inr (inr (inr (inr (inr (inl refl)))))
listed kind.Int = inr (inr (inr (inr (inr (inr (inl refl))))))
listed kind.UInt = inr (inr (inr (inr (inr (inr (inr (inl refl)))))))
listed kind.Long = inr (inr (inr (inr (inr (inr (inr (inr (inl refl))))))))
listed kind.ULong = inr (inr (inr (inr (inr (inr (inr (inr (inr (inl refl)))))))))
listed kind.LLong = inr (inr (inr (inr (inr (inr (inr (inr (inr (inr (inl refl))))))))))
listed kind.ULLong = inr (inr (inr (inr (inr (inr (inr (inr (inr (inr (inr (inl refl)))))))))))

both_true : (a b : Bool) → a && b ≡ true → (a ≡ true) × (b ≡ true)
both_true true true e = (refl, refl)
both_true true false e = absurd cc
both_true false b e = absurd cc

all_at : (p : IntKind → Bool) (k : IntKind) (xs : List IntKind) → list_all p xs ≡ true → IsIn k xs → p k ≡ true
all_at p k [] h i = absurd i
all_at p k (x ∷ xs) h (inl e) = subst (λ z. p z ≡ true) (sym e) (both_true (p x) (list_all p xs) h).0
all_at p k (x ∷ xs) h (inr i) = all_at p k xs (both_true (p x) (list_all p xs) h).1 i

-- what holds of each kind, and of each pair
each : (p : IntKind → Bool) → list_all p kinds ≡ true → (k : IntKind) → p k ≡ true
each p h k = all_at p k kinds h (listed k)

each_pair : (p : IntKind → IntKind → Bool) → list_all (λ a. list_all (λ b. p a b) kinds) kinds ≡ true → (a b : IntKind) → p a b ≡ true
each_pair p h a b = each (λ c. p a c) (each (λ d. list_all (λ c. p d c) kinds) h a) b

same : (a b : ℕ) → a == b ≡ true → a ≡ b
same a b h = grind (arith, common_steps)

denied : (a : Bool) → not a ≡ true → a ≡ false
denied true e = absurd cc
denied false e = refl

pub kinds_are_wide : KindsAreWide
kinds_are_wide = record {
  promoted_width = λ k. same (width_of (promote k)) (max (width_of k) 32) (each (λ k. width_of (promote k) == max (width_of k) 32) refl k);
  promoted_number = λ k. denied (is_bool (promote k)) (each (λ k. not (is_bool (promote k))) refl k);
  common_width = λ a b. same (width_of (common a b)) (max (max (width_of a) (width_of b)) 32) (each_pair (λ a b. width_of (common a b) == max (max (width_of a) (width_of b)) 32) refl a b);
  common_number = λ a b. denied (is_bool (common a b)) (each_pair (λ a b. not (is_bool (common a b))) refl a b);
}
