-- What follows a run, and what doesn't.
use Rattle.std.proofs.Common.{◌≡◌, ℕ, zero, suc, true, false, [], ◌∷◌, ℤ, pos, refl, ap}
use Rattle.std.specs.Prelude.{get_or}
use Rattle.stk_meaning.specs.declared.entry.Entry.TheVariants.{Enter}
use Rattle.stk_meaning.specs.Typings.{is_among}
use Rattle.stk_meaning.specs.Worlds.{Ran, Went, Normal, Break, Return, gives}
use Rattle.stk_meaning.specs.Paths.{KeptNumbers}
use Rattle.stk_guarded.specs.Standing.{Standing, live, gone, Goes}
use Rattle.stk_guarded.specs.Statements.{Flows, breaking}
use Rattle.stk_guarded.proofs.Statements.{break_flows}

-- the run has come here, or hasn't, with one register that is 0
abbrev here : Standing
here = record { alive = true; broken = false; continued = false; numbers = pos 0 ∷ []; kept = []; entries = [] }

abbrev elsewhere : Standing
elsewhere = live false here

-- a run that gives 1, enters a branch and sets the register to 5
abbrev entering : Ran ℤ KeptNumbers
entering = Went (pos 1) (pos 5 ∷ []) [] (Enter 3 ∷ [])

-- it is followed by what has all of that
follows : Goes entering (pos 1) here (record { alive = true; broken = false; continued = false; numbers = pos 5 ∷ []; kept = []; entries = Enter 3 ∷ [] })
follows = record { on = λ h. (refl, refl); off = λ h. absurd cc }

-- and neither by another number, nor without the entry or the register
other_number : Goes entering (pos 2) here (gone (pos 5 ∷ []) [] (Enter 3 ∷ []) here) → ⊥
other_number h = let e : pos 2 ≡ pos 1 = (h.on refl).0 in absurd cc

no_entry : Goes entering (pos 1) here (gone (pos 5 ∷ []) [] [] here) → ⊥
no_entry h = let e : [] ≡ Enter 3 ∷ [] = ap (λ (s : Standing). s.entries) (h.on refl).1 in absurd cc

no_store : Goes entering (pos 1) here (gone (pos 0 ∷ []) [] (Enter 3 ∷ []) here) → ⊥
no_store h = let e : pos 0 ≡ pos 5 = ap (λ (s : Standing). get_or s.numbers 0 (pos 0)) (h.on refl).1 in absurd cc

-- where the run hasn't come, nothing changes, whatever it would do
passed_over : Goes entering (pos 7) elsewhere elsewhere
passed_over = record { on = λ h. absurd cc; off = λ h. refl }

set_elsewhere : Goes entering (pos 1) elsewhere (live false (gone (pos 5 ∷ []) [] [] here)) → ⊥
set_elsewhere h = let e : pos 5 ≡ pos 0 = ap (λ (s : Standing). get_or s.numbers 0 (pos 0)) (h.off refl) in absurd cc

-- a `break` is told to the statement that it leaves, and nothing goes on; a `return` tells nothing
broken_here : Flows [] (gives Break (pos 0 ∷ []) []) here (breaking here)
broken_here = break_flows here

returned : Flows [] (gives Return (pos 0 ∷ []) []) here (breaking here) → ⊥
returned h = let e : true ≡ false = (h.on refl).broken in absurd cc

-- a declarator that isn't run may set its own register
declared_elsewhere : Flows (0 ∷ []) (gives Normal (pos 5 ∷ []) []) elsewhere (live false (gone (pos 5 ∷ []) [] [] here))
declared_elsewhere = record {
  on = λ h. absurd cc;
  off = λ h. record { alive = refl; broken = refl; continued = refl; numbers = record { length = refl; at = λ i e. others i e }; kept = refl; entries = refl };
}
  where
    others : (i : ℕ) → is_among i (0 ∷ []) ≡ false → get_or (pos 5 ∷ []) i (pos 0) ≡ get_or (pos 0 ∷ []) i (pos 0)
    others zero e = absurd cc
    others (suc i) e = refl

-- and no other one
set_unnamed : Flows [] (gives Normal (pos 5 ∷ []) []) elsewhere (live false (gone (pos 5 ∷ []) [] [] here)) → ⊥
set_unnamed h = let e : pos 5 ≡ pos 0 = (h.off refl).numbers.at 0 refl in absurd cc
