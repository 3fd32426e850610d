-- Choices of terms, what they weigh, and the cost of a term as the least of them.
use Rattle.std.proofs.Common.{◌≡◌, ℕ, zero, suc, ◌+◌, ◌-◌, ◌<◌, ◌≤◌, Bool, true, false, ◌&&◌, ◌||◌, ◌⊎◌, inl, inr, List, [], ◌∷◌, length, get_or, refl, sym, ap, subst, ◌∙◌, arith, nat_eq, nat_lt, if◌then◌else◌}
use Rattle.std.proofs.lemmas.Bool.{eqb-true, eq-eqb}
use Rattle.stk_terms.specs.declared.term.TermId.{TermId}
use Rattle.stk_terms.specs.Terms.{Stored, term_at, child, nth}
use Rattle.stk_terms.specs.Fitting.{IsSound, AreBelow}
use Rattle.stk_terms.specs.Growth.{Keeps}
use Rattle.stk_terms.specs.Values.{widths_of, arg_at}
use Rattle.stk_terms.specs.Cost.{bound, bound_of, bound_at, IsClosed, weight, Grows, cost}
use Rattle.stk_terms.proofs.Args.{wider}
use Rattle.stk_terms.specs.Parts.{is_part}
use Rattle.stk_terms.proofs.Reading.{below_own, child_below}
use Rattle.stk_terms.proofs.Older.{term_kept}
use Rattle.stk_terms.proofs.Parting.{or_first, or_second, or_cases, part_chosen, reached}

below_true : (m n : ℕ) → m < n → nat_lt m n ≡ true
below_true m n h = grind arith

below_false : (m n : ℕ) → n ≤ m → nat_lt m n ≡ false
below_false m n h = grind arith

true_below : (m n : ℕ) → nat_lt m n ≡ true → m < n
true_below m n h = grind arith

apart : (a b : ℕ) → (a ≡ b → ⊥) → nat_eq a b ≡ false
apart a b f = grind arith

both_first : (x y : Bool) → (x && y) ≡ true → x ≡ true
both_first true y h = refl
both_first false y h = absurd (cc)

both_second : (x y : Bool) → (x && y) ≡ true → y ≡ true
both_second true y h = h
both_second false y h = absurd (cc)

both : (x y : Bool) → x ≡ true → y ≡ true → (x && y) ≡ true
both true y h k = k
both false y h k = absurd (cc)

with_true : (x y : Bool) → y ≡ true → (x && y) ≡ x
with_true true y h = h
with_true false y h = refl

with_false : (x y : Bool) → y ≡ false → (x && y) ≡ false
with_false true y h = h
with_false false y h = refl

or_false : (x y : Bool) → y ≡ false → (x || y) ≡ x
or_false true y h = refl
or_false false y h = h

at_most : (b : Bool) (n : ℕ) → (if b then n else 0) ≤ n
at_most true n = omega arith
at_most false n = omega arith

arg_same : (ws us : List ℕ) (n : ℕ) (args : List TermId) (k : ℕ) → ((i : ℕ) → i < n → get_or ws i 0 ≡ get_or us i 0) → AreBelow n args → arg_at 0 ws args k ≡ arg_at 0 us args k
arg_same ws us n [] k f b = refl
arg_same ws us n (a ∷ args) zero f b = f a.0 b.0
arg_same ws us n (a ∷ args) (suc k) f b = arg_same ws us n args k f b.1

-- nothing weighs nothing
pub weight_none : (s : Stored) (n : ℕ) → weight s (λ _. false) n ≡ 0
weight_none s zero = refl
weight_none s (suc n) = let h = weight_none s n in omega (arith, h)

pub weight_grows : (s : Stored) (c : ℕ → Bool) (d n m : ℕ) → m ≡ n + d → weight s c n ≤ weight s c m
weight_grows s c zero n m e = let f : m ≡ n = omega arith in subst (λ k. weight s c n ≤ weight s c k) (sym f) (omega arith)
weight_grows s c (suc d) n zero e = absurd (omega arith)
weight_grows s c (suc d) n (suc m) e = let h = weight_grows s c d n m (omega arith) in omega (arith, h)

module _ (s : Stored) (c : ℕ → Bool) (v : ℕ) where
  abbrev with_one : ℕ → Bool
  with_one = λ i. c i || nat_eq i v

  before_one : (n : ℕ) → n ≤ v → weight s with_one n ≡ weight s c n
  before_one zero h = refl
  before_one (suc m) h =
      let e : with_one m ≡ c m = or_false (c m) (nat_eq m v) (apart m v (λ f. absurd (omega (arith, f, h)))) in
      (λ j. before_one m (omega arith) j + (if e j then bound_at s m else 0))

  next_one : (m : ℕ) (b : Bool) → nat_eq m v ≡ b → weight s with_one m ≤ weight s c m + bound_at s v → weight s with_one (suc m) ≤ weight s c (suc m) + bound_at s v
  next_one m true e ih =
      let f : m ≡ v = eqb-true m v e in
      let h : weight s with_one m ≡ weight s c m = before_one m (omega (arith, f)) in
      let k : (if with_one m then bound_at s m else 0) ≤ bound_at s m = at_most (with_one m) (bound_at s m) in
      let g : bound_at s m ≡ bound_at s v = ap (bound_at s) f in
      omega (arith, h, k, g)
  next_one m false e ih =
      let k : (if with_one m then bound_at s m else 0) ≡ (if c m then bound_at s m else 0) = ap (λ b. if b then bound_at s m else 0) (or_false (c m) (nat_eq m v) e) in
      omega (arith, ih, k)

  pub one_weighs : (n : ℕ) → weight s with_one n ≤ weight s c n + bound_at s v
  one_weighs zero = omega arith
  one_weighs (suc m) = next_one m (nat_eq m v) refl (one_weighs m)

module _ (old new : Stored) (sound : IsSound old) (keeps : Keeps old new) (c : ℕ → Bool) (closed : IsClosed old c) where
  pub bound_kept : (i : ℕ) → i < length old.terms → bound_at new i ≡ bound_at old i
  bound_kept i h =
      let t = term_at old i in
      let b : AreBelow (length old.terms) t.args = wider i (length old.terms) t.args (omega arith) (below_own old sound i h) in
      (λ j. bound_of (widths_of new) (term_kept old new sound keeps i h j))
      ∙ (λ j. bound t.op (arg_same (widths_of new) (widths_of old) (length old.terms) t.args 0 keeps.wide b j) (arg_same (widths_of new) (widths_of old) (length old.terms) t.args 1 keeps.wide b j))

  abbrev pub only : ℕ → Bool
  only = λ i. c i && nat_lt i (length old.terms)

  only_weighs : (n : ℕ) → n ≤ length old.terms → weight new only n ≡ weight old c n
  only_weighs zero h = refl
  only_weighs (suc m) h =
      let l : m < length old.terms = omega arith in
      (λ j. only_weighs m (omega arith) j + (if with_true (c m) (nat_lt m (length old.terms)) (below_true m (length old.terms) l) j then bound_kept m l j else 0))

  beyond : (d n : ℕ) → n ≡ length old.terms + d → weight new only n ≤ weight old c (length old.terms)
  beyond zero n e = let f : n ≡ length old.terms = omega arith in let g : weight new only n ≡ weight old c (length old.terms) = only_weighs n (omega arith) ∙ ap (weight old c) f in omega (arith, g)
  beyond (suc d) zero e = absurd (omega arith)
  beyond (suc d) (suc m) e =
      let h = beyond d m (omega arith) in
      let k : (if only m then bound_at new m else 0) ≡ 0 = ap (λ b. if b then bound_at new m else 0) (with_false (c m) (nat_lt m (length old.terms)) (below_false m (length old.terms) (omega arith))) in
      omega (arith, h, k)

  pub all_weighs : weight new only (length new.terms) ≤ weight old c (length old.terms)
  all_weighs =
      let l = keeps.longer in
      let n = length new.terms - length old.terms in
      beyond n (length new.terms) (omega arith)

  pub only_closed : IsClosed new only
  only_closed = record {
    closed = λ i k q l.
        let ci = both_first (c i) (nat_lt i (length old.terms)) q in
        let li = true_below i (length old.terms) (both_second (c i) (nat_lt i (length old.terms)) q) in
        let t = term_kept old new sound keeps i li in
        let m = subst (λ u. k < length u.args) t l in
        let e : child new i k ≡ child old i k = ap (λ u. nth u.args k) t in
        let b : child old i k < i = child_below old sound i k li m in
        subst (λ n. only n ≡ true) (sym e) (both (c (child old i k)) (nat_lt (child old i k) (length old.terms)) (closed.closed i k ci m) (below_true (child old i k) (length old.terms) (omega (arith, b, li))));
  }

  pub only_has : (i : ℕ) → i < length old.terms → c i ≡ true → only i ≡ true
  only_has i h q = both (c i) (nat_lt i (length old.terms)) q (below_true i (length old.terms) h)

  -- a term over chosen ones
  pub grow : (v n : ℕ) → ((k : ℕ) → k < length (term_at new v).args → only (child new v k) ≡ true) → bound_at new v ≡ n → Grows old new c n v
  grow v n kids e = record {
    more = with_one new only v;
    closed = record { closed = λ i k q l. by i k (or_cases (only i) (nat_eq i v) q) l };
    extends = λ i h q. or_first (only i) (nat_eq i v) (only_has i h q);
    has = or_second (only v) (nat_eq v v) (eq-eqb v v refl);
    within = (let h = one_weighs new only v (length new.terms) in omega (arith, h, all_weighs, e));
  }
    where
      by : (i k : ℕ) → ((only i ≡ true) ⊎ (nat_eq i v ≡ true)) → k < length (term_at new i).args → with_one new only v (child new i k) ≡ true
      by i k (inl q) l = or_first (only (child new i k)) (nat_eq (child new i k) v) (only_closed.closed i k q l)
      by i k (inr q) l =
          let e : i ≡ v = eqb-true i v q in
          subst (λ n. with_one new only v (child new n k) ≡ true) (sym e) (or_first (only (child new v k)) (nat_eq (child new v k) v) (kids k (subst (λ n. k < length (term_at new n).args) e l)))

heavier : (x y : Bool) (n : ℕ) → (x ≡ true → y ≡ true) → (if x then n else 0) ≤ (if y then n else 0)
heavier true y n f = subst (λ b. n ≤ (if b then n else 0)) (sym (f refl)) (omega arith)
heavier false y n f = omega arith

pub weight_less : (s : Stored) (c d : ℕ → Bool) → ((j : ℕ) → c j ≡ true → d j ≡ true) → (n : ℕ) → weight s c n ≤ weight s d n
weight_less s c d f zero = omega arith
weight_less s c d f (suc n) = let h = weight_less s c d f n in let k = heavier (c n) (d n) (bound_at s n) (f n) in omega (arith, h, k)

-- a term costs no more than any closed choice that has it weighs
pub cost_least : (s : Stored) (c : ℕ → Bool) (i : ℕ) → IsClosed s c → c i ≡ true → cost s i ≤ weight s c (length s.terms)
cost_least s c i closed h = weight_less s (is_part s i) c (λ j q. part_chosen s c closed j i (reached i s i j q) h) (length s.terms)

-- so what a choice grows by bounds the cost of the term that was made
pub cost_grown : (old new : Stored) (c : ℕ → Bool) (n v : ℕ) → Grows old new c n v → cost new v ≤ weight old c (length old.terms) + n
cost_grown old new c n v g = let h = cost_least new g.more v g.closed g.has in omega (arith, h, g.within)

-- a term that is chosen
pub grow_there : (s : Stored) (c : ℕ → Bool) (v : ℕ) → IsClosed s c → c v ≡ true → Grows s s c 0 v
grow_there s c v closed h = record { more = c; closed = closed; extends = λ i l q. q; has = h; within = omega arith }

pub grow_wider : (old new : Stored) (c : ℕ → Bool) (n m v : ℕ) → n ≤ m → Grows old new c n v → Grows old new c m v
grow_wider old new c n m v h g = record { more = g.more; closed = g.closed; extends = g.extends; has = g.has; within = omega (arith, g.within) }
