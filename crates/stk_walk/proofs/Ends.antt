-- The ends of objects that lie in memory are the same modulo 2^64.
use Rattle.std.proofs.Common.{ℕ, ◌≡◌, ◌+◌, ◌-◌, ◌^◌, ◌%◌, Bool, true, false, not, ◌&&◌, List, [], ◌∷◌, refl, ap, ◌∙◌, arith}
use Rattle.std.specs.Prelude.{nat_le, nat_lt}
use Rattle.stk_walk.specs.declared.objects.WalkObject.{WalkObject}
use Rattle.stk_walk.specs.Validity.{lies_in_memory, all_lie, is_pair, share, stands_apart, all_apart, end_of, addresses_valid}
use Rattle.stk_walk.specs.Located.{wrapped_end}

both_true : (a b : Bool) → a && b ≡ true → (a ≡ true) × (b ≡ true)
both_true true true e = (refl, refl)
both_true true false e = absurd cc
both_true false b e = absurd cc

small_stays : (n : ℕ) → nat_le n (2 ^ 64 - 1) ≡ true → n % 2 ^ 64 ≡ n
small_stays n e = grind (arith, e)

same_end : (a : ℕ → ℕ) (o : WalkObject) → lies_in_memory a o ≡ true → wrapped_end a o ≡ end_of a o
same_end a o e = small_stays (a o.node + o.size) ((both_true (nat_le 1 (a o.node)) (nat_le (a o.node + o.size) (2 ^ 64 - 1)) e).1)

stands_same : (a : ℕ → ℕ) (o : WalkObject) (os : List WalkObject) → lies_in_memory a o ≡ true → all_lie a os ≡ true → stands_apart a (wrapped_end a) o os ≡ stands_apart a (end_of a) o os
stands_same a o [] e h = refl
stands_same a o (p ∷ ps) e h =
    let own = both_true (lies_in_memory a p) (all_lie a ps) h in
    let one = ap (λ z. not (is_pair o p && (nat_lt (a o.node) z && nat_lt (a p.node) (wrapped_end a o))) && stands_apart a (wrapped_end a) o ps) (same_end a p own.0) in
    let two = ap (λ z. not (is_pair o p && (nat_lt (a o.node) (end_of a p) && nat_lt (a p.node) z)) && stands_apart a (wrapped_end a) o ps) (same_end a o e) in
    one ∙ two ∙ ap (λ z. not (is_pair o p && share a (end_of a) o p) && z) (stands_same a o ps e own.1)

apart_same : (a : ℕ → ℕ) (os : List WalkObject) → all_lie a os ≡ true → all_apart a (wrapped_end a) os ≡ all_apart a (end_of a) os
apart_same a [] h = refl
apart_same a (o ∷ os) h =
    let own = both_true (lies_in_memory a o) (all_lie a os) h in
    ap (λ z. z && all_apart a (wrapped_end a) os) (stands_same a o os own.0 own.1) ∙ ap (λ z. stands_apart a (end_of a) o os && z) (apart_same a os own.1)

where_true : (b x y : Bool) → (b ≡ true → x ≡ y) → b && x ≡ b && y
where_true true x y h = h refl
where_true false x y h = refl

pub valid_wrapped : (a : ℕ → ℕ) (os : List WalkObject) → all_lie a os && all_apart a (wrapped_end a) os ≡ addresses_valid a os
valid_wrapped a os = where_true (all_lie a os) (all_apart a (wrapped_end a) os) (all_apart a (end_of a) os) (apart_same a os)
