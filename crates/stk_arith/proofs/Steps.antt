-- Rows that grow by one edge.
use Rattle.std.proofs.Common.{◌≡◌, ℕ, zero, suc, ◌+◌, ◌*◌, ◌/◌, ◌%◌, ◌^◌, ◌<◌, Bool, true, false, not, ◌&&◌, ◌||◌, if◌then◌else◌, List, [], ◌∷◌, ◌++◌, length, take, get_or, nat_eq, bit_and, bit_or, bit_xor, refl, sym, ap, ◌∙◌, arith}
use Rattle.std.proofs.lemmas.Bool.{eqb-true, eq-eqb, eqb-false}
use Rattle.std.proofs.lemmas.Nat.{and_block, or_block, xor_block, mod-pow-add}
use Rattle.std.proofs.Math.Nat.{mul-zero}
use Rattle.stk_gates.specs.declared.edge.Edge.{Edge}
use Rattle.stk_gates.specs.Edges.{edge_value}
use Rattle.stk_gates.specs.Tables.{Table, Obeys}
use Rattle.stk_gates.proofs.Edges.{edge_value-false, edge_value-true}
use Rattle.stk_arith.specs.Rows.{bit, number}
use Rattle.stk_arith.proofs.Numbers.{number-push, number-take_more, number-take_below}
use Rattle.stk_arith.specs.Words.{row_from}

grown : (gates : ℕ → Bool) (row items : List Edge) (i : ℕ) (e : Edge) → items ≡ row ++ e ∷ [] → length row ≡ i → number gates items ≡ number gates row + 2 ^ i * bit (edge_value gates e)
grown gates row items i e is long = ap (number gates) is ∙ (number-push gates row e ∙ ap (λ n. number gates row + 2 ^ n * bit (edge_value gates e)) long)

turned : (a b p : ℕ) → a + p * b ≡ b * p + a
turned a b p = grind arith

constant_bit : (t : Table) (gates : ℕ → Bool) → Obeys t gates → (n : ℕ) → n < 2 → bit (edge_value gates (record { 0 = n })) ≡ n
constant_bit t gates o zero h = ap bit (edge_value-false t gates o)
constant_bit t gates o (suc zero) h = ap bit (edge_value-true t gates o)
constant_bit t gates o (suc (suc n)) h = absurd (omega arith)

-- one more bit of a constant
pub constant_step : (t : Table) (gates : ℕ → Bool) (row items : List Edge) (v i n : ℕ) → Obeys t gates → items ≡ row ++ record { 0 = n } ∷ [] → n ≡ v / 2 ^ i % 2 → length row ≡ i → number gates row ≡ v % 2 ^ i
    → number gates items ≡ v % 2 ^ (i + 1)
constant_step t gates row items v i n o is e long before =
    let low : v / 2 ^ i % 2 < 2 = omega arith in
    let value : bit (edge_value gates (record { 0 = n })) ≡ v / 2 ^ i % 2 = constant_bit t gates o n (omega arith) ∙ e in
    let parts : v % 2 ^ (i + 1) ≡ (v / 2 ^ i % 2) * 2 ^ i + v % 2 ^ i = ap (λ m. v % 2 ^ m) (let c : i + 1 ≡ 1 + i = omega arith in c) ∙ mod-pow-add v 1 i in
    grown gates row items i (record { 0 = n }) is long ∙ ((λ j. before j + 2 ^ i * value j) ∙ (turned (v % 2 ^ i) (v / 2 ^ i % 2) (2 ^ i) ∙ sym parts))

-- one more gate of those that follow one another
pub row_from-more : (first n : ℕ) → row_from first (suc n) ≡ row_from first n ++ record { 0 = 2 * (first + n) } ∷ []
row_from-more first zero = let e : 2 * first ≡ 2 * (first + 0) = omega arith in λ i. record { 0 = e i } ∷ []
row_from-more first (suc n) =
    let e : 2 * (first + 1 + n) ≡ 2 * (first + suc n) = omega arith in
    ap (λ l. record { 0 = 2 * first } ∷ l) (row_from-more (first + 1) n ∙ (λ i. row_from (first + 1) n ++ record { 0 = e i } ∷ []))

module _ (f : ℕ → ℕ → ℕ) (g : Bool → Bool → Bool) (block : (k a b r s : ℕ) → r < 2 ^ k → s < 2 ^ k → f (a * 2 ^ k + r) (b * 2 ^ k + s) ≡ f a b * 2 ^ k + f r s) (bits : (x y : Bool) → f (bit x) (bit y) ≡ bit (g x y)) where
  -- one more place of an operator that goes bit by bit
  place : (gates : ℕ → Bool) (a b row items : List Edge) (i : ℕ) (d h e : Edge) → items ≡ row ++ e ∷ [] → length row ≡ i → i < length a → i < length b
      → edge_value gates e ≡ g (edge_value gates (get_or a i d)) (edge_value gates (get_or b i h)) → number gates row ≡ f (number gates (take i a)) (number gates (take i b))
      → number gates items ≡ f (number gates (take (i + 1) a)) (number gates (take (i + 1) b))
  place gates a b row items i d h e is long la lb value before =
      let x = edge_value gates (get_or a i d) in
      let y = edge_value gates (get_or b i h) in
      let low = number gates (take i a) in
      let low_b = number gates (take i b) in
      let p = 2 ^ i in
      let left : number gates (take (i + 1) a) ≡ bit x * p + low = number-take_more gates a i d la ∙ turned low (bit x) p in
      let right : number gates (take (i + 1) b) ≡ bit y * p + low_b = number-take_more gates b i h lb ∙ turned low_b (bit y) p in
      let both = block i (bit x) (bit y) low low_b (number-take_below gates a i (omega arith)) (number-take_below gates b i (omega arith)) in
      grown gates row items i e is long ∙ ((λ j. before j + p * bit (value j)) ∙ (turned (f low low_b) (bit (g x y)) p ∙ (ap (λ n. n * p + f low low_b) (sym (bits x y)) ∙ (sym both ∙ sym (λ j. f (left j) (right j))))))

and_bits : (x y : Bool) → bit_and (bit x) (bit y) ≡ bit (x && y)
and_bits true true = refl
and_bits true false = refl
and_bits false true = refl
and_bits false false = refl

or_bits : (x y : Bool) → bit_or (bit x) (bit y) ≡ bit (x || y)
or_bits true true = refl
or_bits true false = refl
or_bits false true = refl
or_bits false false = refl

xor_bits : (x y : Bool) → bit_xor (bit x) (bit y) ≡ bit (if x then not y else y)
xor_bits true true = refl
xor_bits true false = refl
xor_bits false true = refl
xor_bits false false = refl

pub and_step : (gates : ℕ → Bool) (a b row items : List Edge) (i : ℕ) (d h e : Edge) → items ≡ row ++ e ∷ [] → length row ≡ i → i < length a → i < length b
    → edge_value gates e ≡ edge_value gates (get_or a i d) && edge_value gates (get_or b i h) → number gates row ≡ bit_and (number gates (take i a)) (number gates (take i b))
    → number gates items ≡ bit_and (number gates (take (i + 1) a)) (number gates (take (i + 1) b))
and_step = place bit_and (λ x y. x && y) and_block and_bits

pub or_step : (gates : ℕ → Bool) (a b row items : List Edge) (i : ℕ) (d h e : Edge) → items ≡ row ++ e ∷ [] → length row ≡ i → i < length a → i < length b
    → edge_value gates e ≡ edge_value gates (get_or a i d) || edge_value gates (get_or b i h) → number gates row ≡ bit_or (number gates (take i a)) (number gates (take i b))
    → number gates items ≡ bit_or (number gates (take (i + 1) a)) (number gates (take (i + 1) b))
or_step = place bit_or (λ x y. x || y) or_block or_bits

pub xor_step : (gates : ℕ → Bool) (a b row items : List Edge) (i : ℕ) (d h e : Edge) → items ≡ row ++ e ∷ [] → length row ≡ i → i < length a → i < length b
    → edge_value gates e ≡ (if edge_value gates (get_or a i d) then not (edge_value gates (get_or b i h)) else edge_value gates (get_or b i h)) → number gates row ≡ bit_xor (number gates (take i a)) (number gates (take i b))
    → number gates items ≡ bit_xor (number gates (take (i + 1) a)) (number gates (take (i + 1) b))
xor_step = place bit_xor (λ x y. if x then not y else y) xor_block xor_bits

unequal : (m n : ℕ) → (m ≡ n → ⊥) → nat_eq m n ≡ false
unequal m n h = grind arith

same_test : (m n k l : ℕ) → (m ≡ n → k ≡ l) → (k ≡ l → m ≡ n) → nat_eq m n ≡ nat_eq k l
same_test m n k l there back = by (nat_eq m n) refl
  where
    by : (b : Bool) → nat_eq m n ≡ b → nat_eq m n ≡ nat_eq k l
    by true e = e ∙ sym (eq-eqb k l (there (eqb-true m n e)))
    by false e = let apart = eqb-false m n e in e ∙ sym (unequal k l (λ h. apart (back h)))

or_true : (b : Bool) → b || true ≡ true
or_true true = refl
or_true false = refl

or_false : (b : Bool) → b || false ≡ b
or_false true = refl
or_false false = refl

-- two numbers with one more bit before each are apart where they were, or the bits are
apart_bits : (p m n : ℕ) (x y : Bool) → m < p → n < p → not (nat_eq m n) || (if x then not y else y) ≡ not (nat_eq (m + p * bit x) (n + p * bit y))
apart_bits p m n true true h k = or_false (not (nat_eq m n)) ∙ ap not (same_test m n (m + p * 1) (n + p * 1) (λ e. omega arith) (λ e. omega arith))
apart_bits p m n true false h k = or_true (not (nat_eq m n)) ∙ sym (ap not (unequal (m + p * 1) (n + p * 0) (λ e. let none = mul-zero p in omega arith)))
apart_bits p m n false true h k = or_true (not (nat_eq m n)) ∙ sym (ap not (unequal (m + p * 0) (n + p * 1) (λ e. let none = mul-zero p in omega arith)))
apart_bits p m n false false h k = or_false (not (nat_eq m n)) ∙ ap not (same_test m n (m + p * 0) (n + p * 0) (λ e. omega arith) (λ e. let none = mul-zero p in omega arith))

-- one more place of a comparison
pub apart_step : (gates : ℕ → Bool) (a b : List Edge) (i : ℕ) (d h : Edge) (v w z : Bool) → i < length a → i < length b → v ≡ not (nat_eq (number gates (take i a)) (number gates (take i b)))
    → w ≡ (if edge_value gates (get_or a i d) then not (edge_value gates (get_or b i h)) else edge_value gates (get_or b i h)) → z ≡ v || w
    → z ≡ not (nat_eq (number gates (take (i + 1) a)) (number gates (take (i + 1) b)))
apart_step gates a b i d h v w z la lb e f g =
    g ∙ ((λ j. e j || f j) ∙ (apart_bits (2 ^ i) (number gates (take i a)) (number gates (take i b)) (edge_value gates (get_or a i d)) (edge_value gates (get_or b i h)) (number-take_below gates a i (omega arith)) (number-take_below gates b i (omega arith))
    ∙ sym (λ j. not (nat_eq (number-take_more gates a i d la j) (number-take_more gates b i h lb j)))))

pub not_not : (b : Bool) → not (not b) ≡ b
not_not true = refl
not_not false = refl
