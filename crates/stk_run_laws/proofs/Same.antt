-- An execution of a part changes no register and no kept object that the part passes over, and registers stay in range.
use Rattle.std.proofs.Common.{◌≡◌, ℕ, zero, suc, Bool, true, false, ◌||◌, List, [], ◌∷◌, length, ℤ, pos, refl, ap, ◌∙◌, subst, get_or, set}
use Rattle.std.proofs.Math.ListN.{length-set}
use Rattle.std.proofs.lemmas.List.{get_or-set_other}
use Rattle.stk_ctype.specs.declared.kind.IntKind.{IntKind}
use Rattle.stk_numbers.specs.Kinds.{fits}
use Rattle.stk_meaning.specs.declared.entry.Entry.{Entry}
use Rattle.stk_meaning.specs.Typings.{number_kind, is_among}
use Rattle.stk_meaning.specs.Changes.{Spot, register_spot, kept_spot}
use Rattle.stk_meaning.specs.Worlds.{Ran, Went, Cut, after}
use Rattle.stk_meaning.specs.Executions.{Outside}
use Rattle.stk_run_laws.specs.Held.{Unmoved}
use Rattle.stk_run_laws.proofs.Keeping.{unmoved_refl, unmoved_trans, unmoved_part}
use Rattle.stk_run_laws.proofs.Maps.{Ground, held}

-- registers in range
pub record Fit (c : Ground) (r : List ℤ) : Type 0 where
  pub at : (i : ℕ) → fits (number_kind (c.setting.typing.type_at i)) (get_or r i (pos 0)) ≡ true

-- what the test passes over is the same, and so is what is no register
pub record Same (c : Ground) (p : Spot → Bool) (r : List ℤ) (s : Outside) (r' : List ℤ) (s' : Outside) : Type 0 where
  pub size : length r' ≡ length r
  pub registers : (i : ℕ) → p (register_spot i) ≡ false → get_or r' i (pos 0) ≡ get_or r i (pos 0)
  pub others : (i : ℕ) → is_among i c.setting.registers ≡ false → get_or r' i (pos 0) ≡ get_or r i (pos 0)
  pub fits : Fit c r → Fit c r'
  pub objects : Unmoved (held c) (λ q. p (kept_spot q)) s.memory s'.memory

abbrev pub SameBy : {A : Type 0} → Ground → (Spot → Bool) → List ℤ → Outside → Ran A Outside → Type 0
SameBy c p r s (Went x r' s' t) = Same c p r s r' s'
SameBy c p r s (Cut t) = Unit {0}

pub same_refl : (c : Ground) (p : Spot → Bool) (r : List ℤ) (s : Outside) → Same c p r s r s
same_refl c p r s = record { size = refl; registers = λ i h. refl; others = λ i h. refl; fits = λ f. f; objects = unmoved_refl (held c) (λ q. p (kept_spot q)) s.memory }

pub same_trans : (c : Ground) (p : Spot → Bool) (r : List ℤ) (s : Outside) (r' : List ℤ) (s' : Outside) (r'' : List ℤ) (s'' : Outside) → Same c p r s r' s' → Same c p r' s' r'' s'' → Same c p r s r'' s''
same_trans c p r s r' s' r'' s'' a b = record {
  size = b.size ∙ a.size;
  registers = λ i h. b.registers i h ∙ a.registers i h;
  others = λ i h. b.others i h ∙ a.others i h;
  fits = λ f. b.fits (a.fits f);
  objects = unmoved_trans (held c) (λ q. p (kept_spot q)) s.memory s'.memory s''.memory a.objects b.objects;
}

pub or_left : (a b : Bool) → (a || b) ≡ false → a ≡ false
or_left true b h = h
or_left false b h = refl

pub or_right : (a b : Bool) → (a || b) ≡ false → b ≡ false
or_right true b h = absurd cc
or_right false b h = h

-- what a part passes over more, the whole passes over too
pub same_part : (c : Ground) (p q : Spot → Bool) (r : List ℤ) (s : Outside) (r' : List ℤ) (s' : Outside) → ((x : Spot) → q x ≡ false → p x ≡ false) → Same c p r s r' s' → Same c q r s r' s'
same_part c p q r s r' s' h k = record {
  size = k.size;
  registers = λ i e. k.registers i (h (register_spot i) e);
  others = k.others;
  fits = k.fits;
  objects = unmoved_part (held c) (λ o. p (kept_spot o)) (λ o. q (kept_spot o)) s.memory s'.memory (λ o. h (kept_spot o)) k.objects;
}

pub by_part : {A : Type 0} (c : Ground) (p q : Spot → Bool) (r : List ℤ) (s : Outside) (x : Ran A Outside) → ((y : Spot) → q y ≡ false → p y ≡ false) → SameBy c p r s x → SameBy c q r s x
by_part c p q r s (Went x r' s' t) h k = same_part c p q r s r' s' h k
by_part c p q r s (Cut t) h k = tt

pub by_after : {A : Type 0} (c : Ground) (p : Spot → Bool) (r : List ℤ) (s : Outside) (t : List Entry) (x : Ran A Outside) → SameBy c p r s x → SameBy c p r s (after t x)
by_after c p r s t (Went x r' s' u) k = k
by_after c p r s t (Cut u) k = tt

-- from the registers and memory that a first part leaves
pub by_from : {A : Type 0} (c : Ground) (p : Spot → Bool) (r : List ℤ) (s : Outside) (r' : List ℤ) (s' : Outside) (x : Ran A Outside) → Same c p r s r' s' → SameBy c p r' s' x → SameBy c p r s x
by_from c p r s r' s' (Went x r'' s'' t) a b = same_trans c p r s r' s' r'' s'' a b
by_from c p r s r' s' (Cut t) a b = tt

pub fit_set : (c : Ground) (r : List ℤ) (i : ℕ) (x : ℤ) → fits (number_kind (c.setting.typing.type_at i)) x ≡ true → Fit c r → Fit c (set r i x)
fit_set c r i x h f = record { at = λ j. one (number_kind (c.setting.typing.type_at j)) r i j (λ e. subst (λ k. fits (number_kind (c.setting.typing.type_at k)) x ≡ true) e h) (f.at j) }
  where
    one : (kind : IntKind) (r : List ℤ) (i j : ℕ) → (i ≡ j → fits kind x ≡ true) → fits kind (get_or r j (pos 0)) ≡ true → fits kind (get_or (set r i x) j (pos 0)) ≡ true
    one kind [] i j h f = f
    one kind (y ∷ r) zero zero h f = h refl
    one kind (y ∷ r) zero (suc j) h f = f
    one kind (y ∷ r) (suc i) zero h f = f
    one kind (y ∷ r) (suc i) (suc j) h f = one kind r i j (λ e. h (ap suc e)) f

-- a register that is set
pub same_set : (c : Ground) (p : Spot → Bool) (j : ℕ) (r : List ℤ) (s : Outside) (x : ℤ) → fits (number_kind (c.setting.typing.type_at j)) x ≡ true → is_among j c.setting.registers ≡ true → ((y : Spot) → p y ≡ false → (y ≡ register_spot j → ⊥)) → Same c p r s (set r j x) s
same_set c p j r s x range register h = record {
  size = length-set r j x;
  registers = λ i e. get_or-set_other r j i x (pos 0) (λ same. h (register_spot i) e (ap register_spot same));
  others = λ i e. get_or-set_other r j i x (pos 0) (λ same. let k = ap (λ z. is_among z c.setting.registers) same in absurd cc);
  fits = fit_set c r j x range;
  objects = unmoved_refl (held c) (λ q. p (kept_spot q)) s.memory;
}

-- memory alone has changed
pub same_memory : (c : Ground) (p : Spot → Bool) (r : List ℤ) (s s' : Outside) → Unmoved (held c) (λ q. p (kept_spot q)) s.memory s'.memory → Same c p r s r s'
same_memory c p r s s' u = record { size = refl; registers = λ i h. refl; others = λ i h. refl; fits = λ f. f; objects = u }
