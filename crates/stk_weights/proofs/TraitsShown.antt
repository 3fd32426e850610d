-- The pairs of objects, counted from the back.
use Rattle.std.proofs.Common.{ℕ, ◌≡◌, ◌+◌, ◌≤◌, Bool, true, false, ◌&&◌, ◌||◌, List, [], ◌∷◌, ◌++◌, length, map, refl, sym, ap, ◌∙◌, arith}
use Rattle.std.specs.Prelude.{if◌then◌else◌, filter}
use Rattle.stk_meaning.specs.Keys.{Object}
use Rattle.stk_meaning.specs.Weights.{is_pair, pairs_among}
use Rattle.stk_weights.specs.declared.objects.ObjectTraits.{ObjectTraits}
use Rattle.stk_weights.specs.declared.objects.Counts.{Counts}
use Rattle.stk_weights.specs.Sums.{capped}
use Rattle.stk_weights.specs.Traits.{traits_of, are_pair, pairs_of, one_where, pairs_with, counts_of}

pub map_append : {A B : Type 0} (f : A → B) (xs ys : List A) → map f (xs ++ ys) ≡ map f xs ++ map f ys
map_append f [] ys = refl
map_append f (x ∷ xs) ys = ap (λ zs. f x ∷ zs) (map_append f xs ys)

-- how many elements pass a test, one more in front
length-if : {A : Type 0} (b : Bool) (x : A) (xs : List A) → length (if b then x ∷ xs else xs) ≡ one_where b + length xs
length-if true x xs = omega arith
length-if false x xs = omega arith

-- ---- the counts are those of the objects
pub kept_counted : (ms : List ObjectTraits) → (counts_of ms).kept ≡ length (filter (λ (p : ObjectTraits). p.is_kept) ms)
kept_counted [] = refl
kept_counted (m ∷ ms) = ap (λ n. one_where m.is_kept + n) (kept_counted ms) ∙ sym (length-if m.is_kept m (filter (λ (p : ObjectTraits). p.is_kept) ms))

pub plain_counted : (ms : List ObjectTraits) → (counts_of ms).plain ≡ length (filter (λ (p : ObjectTraits). p.is_plain) ms)
plain_counted [] = refl
plain_counted (m ∷ ms) = ap (λ n. one_where m.is_plain + n) (plain_counted ms) ∙ sym (length-if m.is_plain m (filter (λ (p : ObjectTraits). p.is_plain) ms))

pub either_counted : (ms : List ObjectTraits) → (counts_of ms).either ≡ length (filter (λ (p : ObjectTraits). p.is_kept || p.is_plain) ms)
either_counted [] = refl
either_counted (m ∷ ms) = ap (λ n. one_where (m.is_kept || m.is_plain) + n) (either_counted ms) ∙ sym (length-if (m.is_kept || m.is_plain) m (filter (λ (p : ObjectTraits). p.is_kept || p.is_plain) ms))

-- lengths of filters by tests that agree
filter-alike : (p q : ObjectTraits → Bool) (ms : List ObjectTraits) → ((m : ObjectTraits) → p m ≡ q m) → length (filter p ms) ≡ length (filter q ms)
filter-alike p q [] h = refl
filter-alike p q (m ∷ ms) h = length-if (p m) m (filter p ms) ∙ ap (λ b. one_where b + length (filter p ms)) (h m) ∙ ap (λ n. one_where (q m) + n) (filter-alike p q ms h) ∙ sym (length-if (q m) m (filter q ms))

filter-none : (ms : List ObjectTraits) → length (filter (λ (m : ObjectTraits). false) ms) ≡ 0
filter-none [] = refl
filter-none (m ∷ ms) = filter-none ms

both_sides : (b c : Bool) → ((true && c) || (b && true)) ≡ (b || c)
both_sides true true = refl
both_sides true false = refl
both_sides false true = refl
both_sides false false = refl

left_side : (b c : Bool) → ((true && c) || (b && false)) ≡ c
left_side true true = refl
left_side true false = refl
left_side false true = refl
left_side false false = refl

right_side : (b c : Bool) → ((false && c) || (b && true)) ≡ b
right_side true true = refl
right_side true false = refl
right_side false true = refl
right_side false false = refl

no_side : (b c : Bool) → ((false && c) || (b && false)) ≡ false
no_side true true = refl
no_side true false = refl
no_side false true = refl
no_side false false = refl

-- the pairs with one object more in front
pairs_by : (k p : Bool) (ms : List ObjectTraits) → pairs_with k p (counts_of ms) ≡ length (filter (λ (m : ObjectTraits). (k && m.is_plain) || (m.is_kept && p)) ms)
pairs_by true true ms = either_counted ms ∙ filter-alike _ _ ms (λ (m : ObjectTraits). sym (both_sides m.is_kept m.is_plain))
pairs_by true false ms = plain_counted ms ∙ filter-alike _ _ ms (λ (m : ObjectTraits). sym (left_side m.is_kept m.is_plain))
pairs_by false true ms = kept_counted ms ∙ filter-alike _ _ ms (λ (m : ObjectTraits). sym (right_side m.is_kept m.is_plain))
pairs_by false false ms = sym (filter-none ms) ∙ filter-alike _ _ ms (λ (m : ObjectTraits). sym (no_side m.is_kept m.is_plain))

right_capped : (a b c d : ℕ) → a ≡ b → c ≡ capped d → capped (a + c) ≡ capped (b + d)
right_capped a b c d e f = omega (arith, e, f)

pub pairs_counted : (ms : List ObjectTraits) → (counts_of ms).pairs ≡ capped (pairs_of ms)
pairs_counted [] = refl
pairs_counted (m ∷ ms) = right_capped (pairs_with m.is_kept m.is_plain (counts_of ms)) (length (filter (are_pair m) ms)) (counts_of ms).pairs (pairs_of ms) (pairs_by m.is_kept m.is_plain ms) (pairs_counted ms)

-- ---- no count is greater than the number of objects
filter-few : (p : ObjectTraits → Bool) (ms : List ObjectTraits) → length (filter p ms) ≤ length ms
filter-few p [] = omega arith
filter-few p (m ∷ ms) = omega (arith, length-if (p m) m (filter p ms), filter-few p ms, one-few (p m))
  where
    one-few : (b : Bool) → one_where b ≤ 1
    one-few true = omega arith
    one-few false = omega arith

pub record AreFew (n : ℕ) (c : Counts) : Type 0 where
  pub kept : c.kept ≤ n
  pub plain : c.plain ≤ n
  pub either : c.either ≤ n

pub few_counts : (ms : List ObjectTraits) → AreFew (length ms) (counts_of ms)
few_counts ms = record {
  kept = omega (arith, kept_counted ms, filter-few (λ (p : ObjectTraits). p.is_kept) ms);
  plain = omega (arith, plain_counted ms, filter-few (λ (p : ObjectTraits). p.is_plain) ms);
  either = omega (arith, either_counted ms, filter-few (λ (p : ObjectTraits). p.is_kept || p.is_plain) ms);
}

-- ---- the pairs of traits are those of the objects
pub length-map : {A B : Type 0} (f : A → B) (xs : List A) → length (map f xs) ≡ length xs
length-map f [] = refl
length-map f (x ∷ xs) = omega (arith, length-map f xs)

marked-with : (kept : List ℕ) (o : Object) (os : List Object) → length (filter (are_pair (traits_of kept o)) (map (traits_of kept) os)) ≡ length (filter (is_pair kept o) os)
marked-with kept o [] = refl
marked-with kept o (p ∷ os) =
    length-if (is_pair kept o p) (traits_of kept p) (filter (are_pair (traits_of kept o)) (map (traits_of kept) os)) ∙ ap (λ n. one_where (is_pair kept o p) + n) (marked-with kept o os) ∙ sym (length-if (is_pair kept o p) p (filter (is_pair kept o) os))

pub pairs-marked : (kept : List ℕ) (os : List Object) → pairs_of (map (traits_of kept) os) ≡ pairs_among kept os
pairs-marked kept [] = refl
pairs-marked kept (o ∷ os) = ap (λ n. n + pairs_of (map (traits_of kept) os)) (marked-with kept o os) ∙ ap (λ n. length (filter (is_pair kept o) os) + n) (pairs-marked kept os)
