-- How kept numbers go on agreeing with a memory.
use Rattle.std.proofs.Common.{◌≡◌, ℕ, zero, suc, ◌+◌, ◌<◌, ◌^◌, ◌==◌, ◌⊎◌, inl, inr, Bool, true, false, [], ◌∷◌, ℤ, Some, None, refl, sym, ap, ◌∙◌, subst, arith, get_or, set}
use Rattle.std.specs.Prelude.{if◌then◌else◌, replicate}
use Rattle.std.proofs.lemmas.Grind.{common_steps}
use Rattle.stk_ctype.specs.declared.kind.IntKind.{IntKind}
use Rattle.stk_ctype.specs.Kinds.{bytes_of}
use Rattle.stk_numbers.specs.Kinds.{width_of, residue, wrap}
use Rattle.stk_meaning.specs.Memory.{Memory, shown, number_at, stored}
use Rattle.stk_meaning.specs.Paths.{KeptNumbers, forgotten_from, forgotten}
use Rattle.stk_run_laws.specs.Held.{Held, IsClear, AreHeld, Agrees, Unmoved, WhatIsStoredIsReadBack, KeptNumbersGoOnAgreeing}
use Rattle.stk_run_laws.proofs.Bytes.{same_read, untouched, number_stored}

-- ---- kept numbers alone

-- the answer is the number set, or one that was kept
record IsSet (o p : ℕ) (x y : ℤ) : Type 0 where
  place : p ≡ o
  number : x ≡ y

set_gives : (kept : KeptNumbers) (o : ℕ) (x : ℤ) (p : ℕ) (y : ℤ) → get_or (set kept o (Some x)) p None ≡ Some y → IsSet o p x y ⊎ ((p ≡ o → ⊥) × (get_or kept p None ≡ Some y))
set_gives [] o x p y h = absurd cc
set_gives (c ∷ kept) zero x zero y h = inl (record { place = refl; number = cc })
set_gives (c ∷ kept) zero x (suc p) y h = inr ((λ e. absurd (omega arith)), h)
set_gives (c ∷ kept) (suc o) x zero y h = inr ((λ e. absurd (omega arith)), h)
set_gives (c ∷ kept) (suc o) x (suc p) y h =
    elim (set_gives kept o x p y h) [
      | inl i ↦ inl (record { place = ap suc i.place; number = i.number })
      | inr i ↦ inr ((λ e. i.0 (omega arith)), i.1)
    ]

forget_gives : (kept : KeptNumbers) (j : ℕ) (q : ℕ → Bool) (o : ℕ) (x : ℤ) → get_or (forgotten_from j q kept) o None ≡ Some x → (q (j + o) ≡ false) × (get_or kept o None ≡ Some x)
forget_gives [] j q o x h = absurd cc
forget_gives (c ∷ kept) j q zero x h = one (q j) refl h
  where
    one : (b : Bool) → q j ≡ b → (if b then None else c) ≡ Some x → (q (j + 0) ≡ false) × (c ≡ Some x)
    one true e h = absurd cc
    one false e h = (let z : j + 0 ≡ j = omega arith in ap q z ∙ e, h)
forget_gives (c ∷ kept) j q (suc o) x h =
    let a = forget_gives kept (j + 1) q o x h in
    (let z : j + suc o ≡ (j + 1) + o = omega arith in ap q z ∙ a.0, a.1)

none_gives : (n o : ℕ) (x : ℤ) → get_or (replicate n None) o None ≡ Some x → ⊥
none_gives zero o x h = cc
none_gives (suc n) zero x h = cc
none_gives (suc n) (suc o) x h = none_gives n o x h

dropped : (kept : KeptNumbers) (o p : ℕ) (x : ℤ) → get_or (set kept o None) p None ≡ Some x → get_or kept p None ≡ Some x
dropped [] o p x h = absurd cc
dropped (c ∷ kept) zero zero x h = absurd cc
dropped (c ∷ kept) zero (suc p) x h = h
dropped (c ∷ kept) (suc o) zero x h = h
dropped (c ∷ kept) (suc o) (suc p) x h = dropped kept o p x h

-- ---- memory

pub unmoved_refl : (h : Held) (q : ℕ → Bool) (m : Memory) → Unmoved h q m m
unmoved_refl h q m = record { same = λ o k e. refl }

pub unmoved_trans : (h : Held) (q : ℕ → Bool) (m m' m'' : Memory) → Unmoved h q m m' → Unmoved h q m' m'' → Unmoved h q m m''
unmoved_trans h q m m' m'' x y = record { same = λ o k e. y.same o k e ∙ x.same o k e }

-- what a part passes over more, the whole passes over too
pub unmoved_part : (h : Held) (p q : ℕ → Bool) (m m' : Memory) → ((o : ℕ) → q o ≡ false → p o ≡ false) → Unmoved h p m m' → Unmoved h q m m'
unmoved_part h p q m m' f x = record { same = λ o k e. x.same o k (f o e) }

-- whatever happens, where nothing is passed over
pub unmoved_all : (h : Held) (q : ℕ → Bool) (m m' : Memory) → ((o : ℕ) → q o ≡ true) → Unmoved h q m m'
unmoved_all h q m m' f = record { same = λ o k e. let t = f o in absurd cc }

-- a store into bytes that a kept object has none of
clear_store : (h : Held) → AreHeld h → (q a : ℕ) (k : IntKind) (z : ℤ) (m : Memory) → q < h.count → a + bytes_of k < 2 ^ 64 → IsClear h q a (bytes_of k) → number_at (h.kind q) (h.address q) (stored k a z m) ≡ number_at (h.kind q) (h.address q) m
clear_store h v q a k z m is_kept fits clear =
    let l = v.last q is_kept in
    ap (shown (h.kind q)) (same_read (bytes_of (h.kind q)) (h.address q) (stored k a z m) m (omega arith)
    (λ b from to. untouched (bytes_of k) a (residue (width_of k) (wrap k z)) m b fits (λ f t. clear.by b f t from to)))

pub unmoved_clear : (h : Held) → AreHeld h → (a : ℕ) (k : IntKind) (z : ℤ) (test : ℕ → Bool) (m : Memory) → a + bytes_of k < 2 ^ 64 → ((q : ℕ) → q < h.count → test q ≡ false → IsClear h q a (bytes_of k)) → Unmoved h test m (stored k a z m)
unmoved_clear h v a k z test m fits clear = record { same = λ q is_kept e. clear_store h v q a k z m is_kept fits (clear q is_kept e) }

-- a store to a kept object moves that object alone
pub unmoved_store : (h : Held) → AreHeld h → (q : ℕ) (z : ℤ) (m : Memory) → q < h.count → Unmoved h (λ p. q == p) m (stored (h.kind q) (h.address q) z m)
unmoved_store h v q z m is_kept =
    let l = v.last q is_kept in
    unmoved_clear h v (h.address q) (h.kind q) z (λ p. q == p) m (omega arith) (λ p k e. v.apart p q k is_kept (λ same. differs p e same))
  where
    differs : (p : ℕ) → (q == p) ≡ false → p ≡ q → ⊥
    differs p e same = grind (arith, common_steps)

-- ---- kept numbers and memory

pub agrees_none : (h : Held) (n : ℕ) (m : Memory) → Agrees h (replicate n None) m
agrees_none h n m = record { is_kept = λ o x e. absurd (none_gives n o x e); number = λ o x e. absurd (none_gives n o x e) }

-- the numbers of what moved are forgotten
pub agrees_forget : (h : Held) (q : ℕ → Bool) (kept : KeptNumbers) (m m' : Memory) → Agrees h kept m → Unmoved h q m m' → Agrees h (forgotten q kept) m'
agrees_forget h q kept m m' g u = record {
  is_kept = λ o x e. g.is_kept o x (forget_gives kept 0 q o x e).1;
  number = λ o x e.
      let f = forget_gives kept 0 q o x e in
      let z : o ≡ 0 + o = omega arith in
      u.same o (g.is_kept o x f.1) (ap q z ∙ f.0) ∙ g.number o x f.1;
}

-- nothing that is kept has moved
pub agrees_unmoved : (h : Held) (kept : KeptNumbers) (m m' : Memory) → Agrees h kept m → Unmoved h (λ q. false) m m' → Agrees h kept m'
agrees_unmoved h kept m m' g u = record { is_kept = g.is_kept; number = λ o x e. u.same o (g.is_kept o x e) refl ∙ g.number o x e }

-- a number is kept of an object that moved
pub agrees_set : (h : Held) (o : ℕ) (x : ℤ) (kept : KeptNumbers) (m m' : Memory) → o < h.count → number_at (h.kind o) (h.address o) m' ≡ x → Agrees h kept m → Unmoved h (λ p. o == p) m m' → Agrees h (set kept o (Some x)) m'
agrees_set h o x kept m m' k here g u = record {
  is_kept = λ p y e. elim (set_gives kept o x p y e) [ inl i ↦ subst (λ p. p < h.count) (sym i.place) k | inr i ↦ g.is_kept p y i.1 ];
  number = λ p y e. elim (set_gives kept o x p y e) [
    | inl i ↦ subst (λ p. number_at (h.kind p) (h.address p) m' ≡ y) (sym i.place) (here ∙ i.number)
    | inr i ↦ u.same p (g.is_kept p y i.1) (differs p i.0) ∙ g.number p y i.1
  ];
}
  where
    differs : (p : ℕ) → (p ≡ o → ⊥) → (o == p) ≡ false
    differs p h = grind (arith, common_steps)

-- a store by name to a kept object
pub agrees_store : (h : Held) → AreHeld h → (o : ℕ) (z : ℤ) (kept : KeptNumbers) (m : Memory) → o < h.count → Agrees h kept m → Agrees h (set kept o (Some (wrap (h.kind o) z))) (stored (h.kind o) (h.address o) z m)
agrees_store h v o z kept m k g =
    let l = v.last o k in
    agrees_set h o (wrap (h.kind o) z) kept m (stored (h.kind o) (h.address o) z m) k (number_stored (h.kind o) (h.address o) z m (omega arith)) g (unmoved_store h v o z m k)

-- a read by name without a kept number
pub agrees_read : (h : Held) (o : ℕ) (kept : KeptNumbers) (m : Memory) → o < h.count → Agrees h kept m → Agrees h (set kept o (Some (number_at (h.kind o) (h.address o) m))) m
agrees_read h o kept m k g = agrees_set h o (number_at (h.kind o) (h.address o) m) kept m m k refl g (unmoved_refl h (λ p. o == p) m)

-- a kept number is removed
pub agrees_drop : (h : Held) (o : ℕ) (kept : KeptNumbers) (m : Memory) → Agrees h kept m → Agrees h (set kept o None) m
agrees_drop h o kept m g = record { is_kept = λ p x e. g.is_kept p x (dropped kept o p x e); number = λ p x e. g.number p x (dropped kept o p x e) }

-- all kept numbers are removed, and the memory is another
pub agrees_all : (h : Held) (kept : KeptNumbers) (m m' : Memory) → Agrees h kept m → Agrees h (forgotten (λ q. true) kept) m'
agrees_all h kept m m' g = agrees_forget h (λ q. true) kept m m' g (unmoved_all h (λ q. true) m m' (λ q. refl))

-- ---- the laws

pub what_is_stored_is_read_back : WhatIsStoredIsReadBack
what_is_stored_is_read_back k a z m h = number_stored k a z m (omega arith)

pub kept_numbers_go_on_agreeing : KeptNumbersGoOnAgreeing
kept_numbers_go_on_agreeing h kept m v g = record {
  stored_to = λ q z l. agrees_store h v q z kept m l g;
  beside = λ k a z fits clear. agrees_unmoved h kept m (stored k a z m) g (unmoved_clear h v a k z (λ q. false) m (omega arith) (λ q l e. clear q l));
  changed = λ test other u. agrees_forget h test kept m other g u;
}
