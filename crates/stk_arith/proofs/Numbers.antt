-- Numbers of rows that grow at their end, and of parts of rows.
use Rattle.std.proofs.Common.{◌≡◌, ℕ, ◌+◌, ◌*◌, ◌/◌, ◌%◌, ◌^◌, ◌<◌, ◌≤◌, Bool, true, false, ◌||◌, nat_lt, refl, List, [], ◌∷◌, ◌++◌, length, take, drop, get_or, sym, ap, ◌∙◌, subst, arith, mul_assoc}
use Rattle.std.proofs.lemmas.List.{take_more, drop_more, length-take-le, take-append-drop}
use Rattle.std.proofs.lemmas.List.Elements.{All-weaker, All-get_or, All-push, All-take, All-drop, All-append}
use Rattle.std.proofs.lemmas.Nat.{mod_low, shr_high, pow_pos}
use Rattle.std.proofs.lemmas.Bool.{lt-ltb}
use Rattle.std.proofs.Math.Nat.{pow-succ'}
use Rattle.stk_gates.specs.declared.edge.Edge.{Edge}
use Rattle.stk_gates.specs.Tables.{Table, IsEdge, Extends}
use Rattle.stk_gates.specs.Edges.{edge_value}
use Rattle.stk_gates.proofs.Growth.{extends_same, extends_twice}
use Rattle.stk_arith.specs.Rows.{bit, number, AreEdges}

-- an older row stays one
pub edges_kept : (s t : Table) (row : List Edge) → Extends s t → AreEdges s row → AreEdges t row
edges_kept s t row x h = All-weaker (IsEdge s) (IsEdge t) (λ e k. let i = x.inputs in let l = x.longer in omega arith) row h

pub edge_kept : (s t : Table) (e : Edge) → Extends s t → IsEdge s e → IsEdge t e
edge_kept s t e x k = let i = x.inputs in let l = x.longer in omega arith

-- an edge of an older row
pub edge_at : (s t : Table) (row : List Edge) (i : ℕ) (d : Edge) → i < length row → Extends s t → AreEdges s row → IsEdge t (get_or row i d)
edge_at s t row i d h x k = All-get_or (IsEdge t) row i d h (edges_kept s t row x k)

-- a longer row
pub edges_push : (s t : Table) (row : List Edge) (e : Edge) → Extends s t → AreEdges s row → IsEdge t e → AreEdges t (row ++ e ∷ [])
edges_push s t row e x k h = All-push (IsEdge t) row e (edges_kept s t row x k) h

pub edges_take : (t : Table) (n : ℕ) (row : List Edge) → AreEdges t row → AreEdges t (take n row)
edges_take t n row h = All-take (IsEdge t) n row h

pub edges_drop : (t : Table) (n : ℕ) (row : List Edge) → AreEdges t row → AreEdges t (drop n row)
edges_drop t n row h = All-drop (IsEdge t) n row h

pub edges_append : (t : Table) (xs ys : List Edge) → AreEdges t xs → AreEdges t ys → AreEdges t (xs ++ ys)
edges_append t xs ys h k = All-append (IsEdge t) xs ys h k

pub ruleset kept = (edges_kept, edge_kept, edge_at, edges_push, extends_same, extends_twice)

pub ruleset parts_of_rows = (edges_kept, edge_kept, edge_at, edges_push, extends_same, extends_twice, edges_take, edges_drop, edges_append)

module _ (gates : ℕ → Bool) where
  pub bit_below : (b : Bool) → bit b < 2
  bit_below true = omega arith
  bit_below false = omega arith

  horner : (b p n m : ℕ) → b + 2 * (n + p * m) ≡ b + 2 * n + 2 * p * m
  horner b p n m = grind (arith, mul_assoc)

  pub number-append : (xs ys : List Edge) → number gates (xs ++ ys) ≡ number gates xs + 2 ^ length xs * number gates ys
  number-append [] ys = omega arith
  number-append (x ∷ xs) ys =
      let more : 2 ^ length (x ∷ xs) ≡ 2 * 2 ^ length xs = pow-succ' 2 (length xs) in
      ap (λ n. bit (edge_value gates x) + 2 * n) (number-append xs ys) ∙ (horner _ _ _ _ ∙ ap (λ p. bit (edge_value gates x) + 2 * number gates xs + p * number gates ys) (sym more))

  pub number-push : (xs : List Edge) (e : Edge) → number gates (xs ++ e ∷ []) ≡ number gates xs + 2 ^ length xs * bit (edge_value gates e)
  number-push xs e = number-append xs (e ∷ []) ∙ ap (λ n. number gates xs + 2 ^ length xs * n) (let one : bit (edge_value gates e) + 2 * 0 ≡ bit (edge_value gates e) = omega arith in one)

  pub number-below : (xs : List Edge) → number gates xs < 2 ^ length xs
  number-below [] = omega arith
  number-below (x ∷ xs) =
      let more : 2 ^ length (x ∷ xs) ≡ 2 * 2 ^ length xs = pow-succ' 2 (length xs) in
      let rest = number-below xs in
      let b = bit_below (edge_value gates x) in
      omega arith

  pub number-take_more : (xs : List Edge) (i : ℕ) (d : Edge) → i < length xs → number gates (take (i + 1) xs) ≡ number gates (take i xs) + 2 ^ i * bit (edge_value gates (get_or xs i d))
  number-take_more xs i d h =
      ap (number gates) (take_more xs i d h) ∙ (number-push (take i xs) (get_or xs i d) ∙ ap (λ n. number gates (take i xs) + 2 ^ n * bit (edge_value gates (get_or xs i d))) (length-take-le i xs (omega arith)))

  pub number-drop_more : (xs : List Edge) (i : ℕ) (d : Edge) → i < length xs → number gates (drop i xs) ≡ bit (edge_value gates (get_or xs i d)) + 2 * number gates (drop (i + 1) xs)
  number-drop_more xs i d h = ap (number gates) (drop_more xs i d h)

  -- a row is its first k bits and the others
  pub number-split : (xs : List Edge) (k : ℕ) → k ≤ length xs → number gates xs ≡ number gates (take k xs) + 2 ^ k * number gates (drop k xs)
  number-split xs k h =
      ap (number gates) (sym (take-append-drop k xs)) ∙ (number-append (take k xs) (drop k xs) ∙ ap (λ n. number gates (take k xs) + 2 ^ n * number gates (drop k xs)) (length-take-le k xs h))

  pub number-take_below : (xs : List Edge) (k : ℕ) → k ≤ length xs → number gates (take k xs) < 2 ^ k
  number-take_below xs k h = subst (λ n. number gates (take k xs) < 2 ^ n) (length-take-le k xs h) (number-below (take k xs))

  turned : (a b p : ℕ) → a + p * b ≡ b * p + a
  turned a b p = grind arith

  pub number-take : (xs : List Edge) (k : ℕ) → k ≤ length xs → number gates (take k xs) ≡ number gates xs % 2 ^ k
  number-take xs k h = sym (ap (λ n. n % 2 ^ k) (number-split xs k h ∙ turned _ _ _) ∙ mod_low (number gates (drop k xs)) k (number gates (take k xs)) (number-take_below xs k h))

  pub number-drop : (xs : List Edge) (k : ℕ) → k ≤ length xs → number gates (drop k xs) ≡ number gates xs / 2 ^ k
  number-drop xs k h = sym (ap (λ n. n / 2 ^ k) (number-split xs k h ∙ turned _ _ _) ∙ shr_high (number gates (drop k xs)) k (number gates (take k xs)) (number-take_below xs k h))

  -- whether one of the first places is true
  pub any_step : (row : List Edge) (i : ℕ) (d : Edge) (v : Bool) → i < length row → v ≡ nat_lt 0 (number gates (take i row)) → v || edge_value gates (get_or row i d) ≡ nat_lt 0 (number gates (take (i + 1) row))
  any_step row i d v h e = ap (λ u. u || edge_value gates (get_or row i d)) e ∙ (by (number gates (take i row)) (edge_value gates (get_or row i d)) ∙ sym (ap (nat_lt 0) (number-take_more row i d h)))
    where
      by : (n : ℕ) (x : Bool) → nat_lt 0 n || x ≡ nat_lt 0 (n + 2 ^ i * bit x)
      by n true = let pos = pow_pos i in let all : 0 < n + 2 ^ i * 1 = omega arith in or_true (nat_lt 0 n) ∙ sym (lt-ltb 0 (n + 2 ^ i * 1) all)
        where
          or_true : (b : Bool) → b || true ≡ true
          or_true true = refl
          or_true false = refl
      by n false = or_false (nat_lt 0 n) ∙ ap (nat_lt 0) (omega arith)
        where
          or_false : (b : Bool) → b || false ≡ b
          or_false true = refl
          or_false false = refl
