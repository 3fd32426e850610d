-- Cells behind those whose addresses were seen.
use Rattle.std.proofs.Common.{◌≡◌, ◌↔◌, ℕ, ◌+◌, ◌<◌, ◌^◌, ◌%◌, Bool, true, false, List, [], ◌∷◌, Option, Some, None, length, get_or, drop, refl, sym, ap, ◌∙◌, subst, cond, arith}
use Rattle.std.specs.Prelude.{nat_eq, if◌then◌else◌}
use Rattle.std.proofs.lemmas.List.{drop_more}
use Rattle.std.proofs.lemmas.Bool.Decides.{nat_tests}
use Rattle.stk_memory.specs.declared.image.Cell.{Cell}
use Rattle.stk_memory.specs.Image.{IsFree, AreApart}

-- no cell has an address that was seen
abbrev pub AreNew : (ℕ → Option ℕ) → List Cell → Type 0
AreNew seen [] = Unit {0}
AreNew seen (c ∷ cs) = (seen (c.at % 2 ^ 64) ≡ None) × AreNew seen cs

-- what is left to show of cells: that their addresses differ from each other, and from those that were seen
abbrev pub AreLeft : (ℕ → Option ℕ) → List Cell → Type 0
AreLeft seen cs = AreApart cs × AreNew seen cs

-- at first none was seen
pub all_new : (seen : ℕ → Option ℕ) (cs : List Cell) → ((a : ℕ) → seen a ≡ None) → AreNew seen cs
all_new seen [] h = tt
all_new seen (c ∷ cs) h = (h (c.at % 2 ^ 64), all_new seen cs h)

-- what was seen behind one address more
abbrev pub IsNoted : (ℕ → Option ℕ) → ℕ → ℕ → (ℕ → Option ℕ) → Type 0
IsNoted seen at byte now = (a : ℕ) → now a ≡ (if nat_eq at a then Some byte else seen a)

module _ (seen now : ℕ → Option ℕ) (at byte : ℕ) (noted : IsNoted seen at byte now) where
  put_one : (t : Bool) (a : ℕ) → nat_eq at a ≡ t → (a ≡ at → ⊥) → seen a ≡ None → now a ≡ None
  put_one true a e ne h = absurd (ne (grind (arith, nat_tests)))
  put_one false a e ne h = noted a ∙ ap (λ t. cond t (Some byte) (seen a)) e ∙ h

  take_one : (t : Bool) (a : ℕ) → nat_eq at a ≡ t → now a ≡ None → (a ≡ at → ⊥) × (seen a ≡ None)
  take_one true a e h = let some : Some byte ≡ None = sym (noted a ∙ ap (λ t. cond t (Some byte) (seen a)) e) ∙ h in cc
  take_one false a e h = (λ same. grind (arith, nat_tests), sym (noted a ∙ ap (λ t. cond t (Some byte) (seen a)) e) ∙ h)

  new_behind : (cs : List Cell) → IsFree at cs → AreNew seen cs → AreNew now cs
  new_behind [] f h = tt
  new_behind (c ∷ cs) f h = (put_one (nat_eq at (c.at % 2 ^ 64)) (c.at % 2 ^ 64) refl f.0 h.0, new_behind cs f.1 h.1)

  new_before : (cs : List Cell) → AreNew now cs → IsFree at cs × AreNew seen cs
  new_before [] h = (tt, tt)
  new_before (c ∷ cs) h =
      let one = take_one (nat_eq at (c.at % 2 ^ 64)) (c.at % 2 ^ 64) refl h.0 in
      let more = new_before cs h.1 in
      ((one.0, more.0), (one.1, more.1))

-- a cell with a new address
one_new : (seen now : ℕ → Option ℕ) (c : Cell) (cs : List Cell) → seen (c.at % 2 ^ 64) ≡ None → IsNoted seen (c.at % 2 ^ 64) c.byte now → AreLeft seen (c ∷ cs) ↔ AreLeft now cs
one_new seen now c cs h noted =
    (λ k. (k.0.1, new_behind seen now (c.at % 2 ^ 64) c.byte noted cs k.0.0 k.1.1), λ k. let before = new_before seen now (c.at % 2 ^ 64) c.byte noted cs k.1 in ((before.0, k.0), (h, before.1)))

module _ (seen : ℕ → Option ℕ) (whole cs : List Cell) (i : ℕ) (d : Cell) (within : i < length cs) (small : (get_or cs i d).at % 2 ^ 64 ≡ (get_or cs i d).at) (before : AreApart whole ↔ AreLeft seen (drop i cs)) where
  here : AreApart whole ↔ AreLeft seen (get_or cs i d ∷ drop (i + 1) cs)
  here = subst (λ xs. AreApart whole ↔ AreLeft seen xs) (drop_more cs i d within) before

  pub next_left : (now : ℕ → Option ℕ) → seen (get_or cs i d).at ≡ None → IsNoted seen (get_or cs i d).at (get_or cs i d).byte now → AreApart whole ↔ AreLeft now (drop (i + 1) cs)
  next_left now h noted =
      let fresh : seen ((get_or cs i d).at % 2 ^ 64) ≡ None = subst (λ a. seen a ≡ None) (sym small) h in
      let noted' : IsNoted seen ((get_or cs i d).at % 2 ^ 64) (get_or cs i d).byte now = subst (λ a. IsNoted seen a (get_or cs i d).byte now) (sym small) noted in
      let step = one_new seen now (get_or cs i d) (drop (i + 1) cs) fresh noted' in
      (λ k. step.0 (here.0 k), λ k. here.1 (step.1 k))

  pub not_left : (seen (get_or cs i d).at ≡ None → ⊥) → AreApart whole → ⊥
  not_left ne k = ne (subst (λ a. seen a ≡ None) small (here.0 k).1.0)
