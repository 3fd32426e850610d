-- What is kept of registers.
use Rattle.std.proofs.Common.{ℕ, zero, suc, ◌≡◌, ◌+◌, ◌<◌, ◌≤◌, ◌==◌, Bool, true, false, if◌then◌else◌, List, [], ◌∷◌, ◌++◌, get_or, refl, sym, ap, ◌∙◌, subst, arith}
use Rattle.stk_weights.specs.declared.counting.Register.{Register}
use Rattle.stk_weights.specs.Counting.{nothing, times_in, AllBelow}

pub nothing_behind : (rows : List Register) (r : ℕ) → get_or (rows ++ nothing ∷ []) r nothing ≡ get_or rows r nothing
nothing_behind [] zero = refl
nothing_behind [] (suc r) = refl
nothing_behind (x ∷ rows) zero = refl
nothing_behind (x ∷ rows) (suc r) = nothing_behind rows r

-- ---- the registers of a function
one_counted : (k r old rest whole : ℕ) (b : Bool) → (k == r) ≡ b → old + (if k == r then suc rest else rest) ≡ whole → (if k == r then old + 1 else old) + rest ≡ whole
one_counted k r old rest whole true e h = let more : old + suc rest ≡ whole = subst (λ c. old + (if c then suc rest else rest) ≡ whole) e h in rw e (omega (arith, more))
one_counted k r old rest whole false e h = let more : old + rest ≡ whole = subst (λ c. old + (if c then suc rest else rest) ≡ whole) e h in rw e more

times_next : (k r : ℕ) (rs : List ℕ) (b : Bool) → (k == r) ≡ b → times_in r (k ∷ rs) ≡ (if k == r then suc (times_in r rs) else times_in r rs)
times_next k r rs true e = rw e refl
times_next k r rs false e = rw e refl

pub counted_next : (k r old new whole : ℕ) (left rest : List ℕ) → left ≡ k ∷ rest → new ≡ (if k == r then old + 1 else old) → old + times_in r left ≡ whole → new + times_in r rest ≡ whole
counted_next k r old new whole left rest e n h =
    let whole_left : old + (if k == r then suc (times_in r rest) else times_in r rest) ≡ whole = ap (λ c. old + c) (sym (times_next k r rest (k == r) refl)) ∙ ap (λ xs. old + times_in r xs) (sym e) ∙ h in
    ap (λ c. c + times_in r rest) n ∙ one_counted k r old (times_in r rest) whole (k == r) refl whole_left

few_counted : (old i : ℕ) (b : Bool) → old ≤ i → (if b then old + 1 else old) ≤ i + 1
few_counted old i true h = omega (arith, h)
few_counted old i false h = omega (arith, h)

pub few_next : (k r old new i : ℕ) → new ≡ (if k == r then old + 1 else old) → old ≤ i → new ≤ i + 1
few_next k r old new i n h = let few : (if k == r then old + 1 else old) ≤ i + 1 = few_counted old i (k == r) h in omega (arith, n, few)

pub below_next : (k n : ℕ) (left rest whole : List ℕ) → left ≡ k ∷ rest → k < n → (AllBelow n left → AllBelow n whole) → AllBelow n rest → AllBelow n whole
below_next k n left rest whole e h so below = so (subst (AllBelow n) (sym e) (h, below))
