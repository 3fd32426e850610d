-- Numbers in an interval that ascend.
use Rattle.std.proofs.Common.{◌≡◌, ℕ, ◌+◌, ◌<◌, ◌≤◌, List, [], ◌∷◌, ◌++◌, refl, sym, subst, inl, inr, arith}
use Rattle.stk_run_laws.specs.Visits.{IsBelow, IsIn, Ascends}
use Rattle.stk_run_laws.proofs.Nodes.{in_either}

below_append : (k : ℕ) (a b : List ℕ) → IsBelow k a → IsBelow k b → IsBelow k (a ++ b)
below_append k [] b p q = q
below_append k (x ∷ a) b p q = (p.0, below_append k a b p.1 q)

below_all : (k : ℕ) (a : List ℕ) → ((j : ℕ) → IsIn j a → k < j) → IsBelow k a
below_all k [] h = tt
below_all k (x ∷ a) h = (h x (inl refl), below_all k a (λ j i. h j (inr i)))

ascends_append : (a b : List ℕ) → Ascends a → Ascends b → ((i j : ℕ) → IsIn i a → IsIn j b → i < j) → Ascends (a ++ b)
ascends_append [] b p q h = q
ascends_append (x ∷ a) b p q h = (below_append x a b p.0 (below_all x b (λ j i. h x j (inl refl) i)), ascends_append a b p.1 q (λ i j m n. h i j (inr m) n))

-- the numbers ascend, and lie from lo to below hi
pub record Within (lo hi : ℕ) (ks : List ℕ) : Type 0 where
  pub ascends : Ascends ks
  pub low : (k : ℕ) → IsIn k ks → lo ≤ k
  pub high : (k : ℕ) → IsIn k ks → k < hi

pub nothing : (lo hi : ℕ) → Within lo hi []
nothing lo hi = record { ascends = tt; low = λ k h. absurd h; high = λ k h. absurd h }

pub wider : (lo hi lo' hi' : ℕ) (ks : List ℕ) → lo' ≤ lo → hi ≤ hi' → Within lo hi ks → Within lo' hi' ks
wider lo hi lo' hi' ks p q w = record { ascends = w.ascends; low = λ k h. let l = w.low k h in omega arith; high = λ k h. let l = w.high k h in omega arith }

pub joined : (lo mid mid' hi : ℕ) (a b : List ℕ) → lo ≤ mid → mid ≤ mid' → mid' ≤ hi → Within lo mid a → Within mid' hi b → Within lo hi (a ++ b)
joined lo mid mid' hi a b p q r x y = record {
  ascends = ascends_append a b x.ascends y.ascends (λ i j m n. let l = x.high i m in let h = y.low j n in omega arith);
  low = λ k h. elim (in_either k a b h) [ inl i ↦ x.low k i | inr i ↦ let l = y.low k i in omega arith ];
  high = λ k h. elim (in_either k a b h) [ inl i ↦ let l = x.high k i in omega arith | inr i ↦ y.high k i ];
}

pub single : (lo hi k : ℕ) → lo ≤ k → k < hi → Within lo hi (k ∷ [])
single lo hi k p q = record { ascends = (tt, tt); low = low; high = high }
  where
    low : (j : ℕ) → IsIn j (k ∷ []) → lo ≤ j
    low j (inl e) = subst (λ z. lo ≤ z) (sym e) p
    low j (inr h) = absurd h

    high : (j : ℕ) → IsIn j (k ∷ []) → j < hi
    high j (inl e) = subst (λ z. z < hi) (sym e) q
    high j (inr h) = absurd h

-- a node behind those of its parts
pub own : (lo k : ℕ) (a : List ℕ) → lo ≤ k → Within lo k a → Within lo (k + 1) (a ++ k ∷ [])
own lo k a p w = joined lo k k (k + 1) a (k ∷ []) p (omega arith) (omega arith) w (single k (k + 1) k (omega arith) (omega arith))

pub empty : (lo hi : ℕ) (a : List ℕ) → a ≡ [] → Within lo hi a
empty lo hi a e = subst (Within lo hi) (sym e) (nothing lo hi)

-- what has no numbers before a part
pub behind_none : (lo hi : ℕ) (a b : List ℕ) → a ≡ [] → Within lo hi b → Within lo hi (a ++ b)
behind_none lo hi a b e w = subst (λ z. Within lo hi (z ++ b)) (sym e) w

-- two parts one after the other, and three
pub pair : (n x y : ℕ) (a b : List ℕ) → Within n (n + x) a → Within (n + x) (n + x + y) b → Within n (n + (x + y)) (a ++ b)
pair n x y a b p q = wider n (n + x + y) n (n + (x + y)) (a ++ b) (omega arith) (omega arith) (joined n (n + x) (n + x) (n + x + y) a b (omega arith) (omega arith) (omega arith) p q)

pub triple : (n x y z : ℕ) (a b c : List ℕ) → Within n (n + x) a → Within (n + x) (n + x + y) b → Within (n + x + y) (n + x + y + z) c → Within n (n + (x + y + z)) (a ++ (b ++ c))
triple n x y z a b c p q r =
    wider n (n + x + (y + z)) n (n + (x + y + z)) (a ++ (b ++ c)) (omega arith) (omega arith)
    (joined n (n + x) (n + x) (n + x + (y + z)) a (b ++ c) (omega arith) (omega arith) (omega arith) p (pair (n + x) y z b c q r))
