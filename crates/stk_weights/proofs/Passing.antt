-- What is passed between the beginning and the end of a part.
use Rattle.std.proofs.Common.{ℕ, ◌≡◌, ◌+◌, ◌-◌, ◌≤◌, ◌==◌, min, Bool, true, false, ◌||◌, List, [], ◌∷◌, ◌++◌, map, refl, sym, ap, ◌∙◌, arith, append_assoc}
use Rattle.stk_address_taken.specs.Sets.{is_listed}
use Rattle.stk_weights.specs.declared.events.Event.{Event}
use Rattle.stk_weights.specs.declared.events.Event.TheVariants as event
use Rattle.stk_weights.specs.Events.{Stand, stepped, passed, one_where}

abbrev stand : ℕ → ℕ → ℕ → Stand
stand d m s = record { depth = d; marked = m; sum = s }

-- where a register stands behind a part: in which it was assigned, or not
abbrev pub marked_by : Bool → ℕ → ℕ → ℕ
marked_by true d m = d
marked_by false d m = m

abbrev pub gained_by : Bool → ℕ → ℕ → ℕ
gained_by true d m = d - m
gained_by false d m = 0

-- what a part adds to how often a register counts
pub record Adds (r : ℕ) (es : List Event) (is_assigned : Bool) (inner : ℕ) : Type 0 where
  pub by : (rest : List Event) (d m s : ℕ) → m ≤ d → passed r (es ++ rest) (stand d m s) ≡ passed r rest (stand d (marked_by is_assigned d m) (s + inner + gained_by is_assigned d m))

stand_same : (d m n s t : ℕ) → m ≡ n → s ≡ t → stand d m s ≡ stand d n t
stand_same d m n s t e f = rw (e, f) refl

pub adds_none : (r : ℕ) → Adds r [] false 0
adds_none r = record { by = λ rest d m s h. ap (λ x. passed r rest x) (stand_same d m m s (s + 0 + 0) refl (omega arith)) }

one_step : (r k d m s : ℕ) (b : Bool) → (r == k) ≡ b → stepped r (event.Assigns k) (stand d m s) ≡ stand d (marked_by b d m) (s + 0 + gained_by b d m)
one_step r k d m s true e = rw e (stand_same d d d (s + (d - m)) (s + 0 + (d - m)) refl (omega arith))
one_step r k d m s false e = rw e (stand_same d m m s (s + 0 + 0) refl (omega arith))

pub adds_one : (r k : ℕ) → Adds r (event.Assigns k ∷ []) (r == k) 0
adds_one r k = record { by = λ rest d m s h. ap (λ x. passed r rest x) (one_step r k d m s (r == k) refl) }

both_marked : (a b : Bool) (d m : ℕ) → marked_by b d (marked_by a d m) ≡ marked_by (a || b) d m
both_marked true true d m = refl
both_marked true false d m = refl
both_marked false true d m = refl
both_marked false false d m = refl

both_gained : (a b : Bool) (d m s x y : ℕ) → m ≤ d → s + x + gained_by a d m + y + gained_by b d (marked_by a d m) ≡ s + (x + y) + gained_by (a || b) d m
both_gained true true d m s x y h = omega (arith, h)
both_gained true false d m s x y h = omega (arith, h)
both_gained false true d m s x y h = omega (arith, h)
both_gained false false d m s x y h = omega (arith, h)

marked_few : (a : Bool) (d m : ℕ) → m ≤ d → marked_by a d m ≤ d
marked_few true d m h = omega arith
marked_few false d m h = h

pub adds_both : (r : ℕ) (es fs : List Event) (a b : Bool) (x y : ℕ) → Adds r es a x → Adds r fs b y → Adds r (es ++ fs) (a || b) (x + y)
adds_both r es fs a b x y p q = record {
  by = λ rest d m s h.
      ap (λ all. passed r all (stand d m s)) (append_assoc es fs rest)
      ∙ p.by (fs ++ rest) d m s h
      ∙ q.by rest d (marked_by a d m) (s + x + gained_by a d m) (marked_few a d m h)
      ∙ ap (λ z. passed r rest z) (stand_same d _ _ _ _ (both_marked a b d m) (both_gained a b d m s x y h));
}

closed_marked : (a : Bool) (d m : ℕ) → m ≤ d → min (marked_by a (d + 1) m) (d + 1 - 1) ≡ marked_by a d m
closed_marked true d m h = omega arith
closed_marked false d m h = omega (arith, h)

closed_gained : (a : Bool) (d m s x : ℕ) → m ≤ d → s + x + gained_by a (d + 1) m ≡ s + (x + one_where a) + gained_by a d m
closed_gained true d m s x h = omega (arith, h)
closed_gained false d m s x h = omega (arith, h)

closed : (a : Bool) (d m s x : ℕ) (r : ℕ) → m ≤ d → stepped r event.Ends (stand (d + 1) (marked_by a (d + 1) m) (s + x + gained_by a (d + 1) m)) ≡ stand d (marked_by a d m) (s + (x + one_where a) + gained_by a d m)
closed a d m s x r h =
    let e : d + 1 - 1 ≡ d = omega arith in
    ap (λ n. stand n (min (marked_by a (d + 1) m) (d + 1 - 1)) (s + x + gained_by a (d + 1) m)) e ∙ stand_same d _ _ _ _ (closed_marked a d m h) (closed_gained a d m s x h)

-- a branch or a loop counts once where the register is assigned in it
pub adds_bracketed : (r : ℕ) (es : List Event) (a : Bool) (x : ℕ) → Adds r es a x → Adds r (event.Begins ∷ es ++ event.Ends ∷ []) a (x + one_where a)
adds_bracketed r es a x p = record {
  by = λ rest d m s h.
      ap (λ all. passed r all (stand (d + 1) m s)) (append_assoc es (event.Ends ∷ []) rest)
      ∙ p.by (event.Ends ∷ rest) (d + 1) m s (omega (arith, h))
      ∙ ap (λ z. passed r rest z) (closed a d m s x r h);
}

pub adds_assigned : (r : ℕ) (ks : List ℕ) → Adds r (map event.Assigns ks) (is_listed r ks) 0
adds_assigned r [] = adds_none r
adds_assigned r (k ∷ ks) = adds_both r (event.Assigns k ∷ []) (map event.Assigns ks) (r == k) (is_listed r ks) 0 0 (adds_one r k) (adds_assigned r ks)

pub listed-append : (r : ℕ) (a b : List ℕ) → is_listed r (a ++ b) ≡ (is_listed r a || is_listed r b)
listed-append r [] b = refl
listed-append r (k ∷ a) b = ap (λ v. r == k || v) (listed-append r a b) ∙ sym (or-assoc (r == k) (is_listed r a) (is_listed r b))
  where
    or-assoc : (a b c : Bool) → ((a || b) || c) ≡ (a || (b || c))
    or-assoc true b c = refl
    or-assoc false b c = refl
