-- The addresses of objects are valid, object by object with all others, where they are pair by pair.
use Rattle.std.proofs.Common.{ℕ, ◌≡◌, ◌+◌, ◌==◌, Bool, true, false, not, ◌&&◌, ◌||◌, List, [], ◌∷◌, map, refl, ap, ◌∙◌, arith}
use Rattle.std.specs.Prelude.{nat_lt}
use Rattle.std.specs.List.{list_all}
use Rattle.stk_meaning.specs.Typings.{is_among}
use Rattle.stk_meaning.specs.Keys.{Object}
use Rattle.stk_meaning.specs.Maps as maps
use Rattle.stk_walk.specs.Validity.{walk_object, all_lie, is_pair, share, stands_apart, all_apart, end_of, addresses_valid, AreDistinct, IsOther}

-- what one and the other side of a pair ask of two objects, that share a byte or not
both_sides : (ko kp po pp s : Bool) → (not ko || (not pp || not s)) && (not kp || (not po || not s)) ≡ not (((ko && pp) || (kp && po)) && s)
both_sides false false po pp s = refl
both_sides false true false pp s = refl
both_sides false true true pp s = refl
both_sides true false po false s = refl
both_sides true false po true false = refl
both_sides true false po true true = refl
both_sides true true false false s = refl
both_sides true true true false s = refl
both_sides true true false true false = refl
both_sides true true false true true = refl
both_sides true true true true false = refl
both_sides true true true true true = refl

and_comm : (x y : Bool) → x && y ≡ y && x
and_comm false false = refl
and_comm false true = refl
and_comm true false = refl
and_comm true true = refl

-- what is asked of each of a list twice
swapped : (a b c d : Bool) → (a && b) && (c && d) ≡ (a && c) && (b && d)
swapped false b c d = refl
swapped true false false d = refl
swapped true false true d = refl
swapped true true c d = refl

with_more : (k q rest : Bool) → not k || (q && rest) ≡ (not k || q) && (not k || rest)
with_more false q rest = refl
with_more true q rest = refl

all_and : {A : Type 0} (f h : A → Bool) (xs : List A) → list_all (λ x. f x && h x) xs ≡ list_all f xs && list_all h xs
all_and f h [] = refl
all_and f h (x ∷ xs) = ap (λ z. (f x && h x) && z) (all_and f h xs) ∙ swapped (f x) (h x) (list_all f xs) (list_all h xs)

all_same : {A : Type 0} (f h : A → Bool) → ((x : A) → f x ≡ h x) → (xs : List A) → list_all f xs ≡ list_all h xs
all_same f h e [] = refl
all_same f h e (x ∷ xs) = ap (λ z. z && list_all f xs) (e x) ∙ ap (λ z. h x && z) (all_same f h e xs)

and_assoc : (a b c : Bool) → a && (b && c) ≡ (a && b) && c
and_assoc false b c = refl
and_assoc true b c = refl

or_all : {A : Type 0} (k : Bool) (f : A → Bool) (xs : List A) → not k || list_all f xs ≡ list_all (λ x. not k || f x) xs
or_all true f xs = refl
or_all false f [] = refl
or_all false f (x ∷ xs) = or_all false f xs

same_node : (k : ℕ) → (k == k) ≡ true
same_node k = grind arith

other_node : (k j : ℕ) → (k == j) ≡ false → (j == k) ≡ false
other_node k j e = grind (arith, e)

-- what an object asks of another, where it is kept
abbrev asks : (ℕ → ℕ) → Object → Object → Bool
asks a o p = o.node == p.node || (not p.is_plain || not (maps.shares_byte a o p))

abbrev asks_where : List ℕ → (ℕ → ℕ) → Object → Object → Bool
asks_where kept a o p = not (is_among o.node kept) || asks a o p

two_sides : (kept : List ℕ) (a : ℕ → ℕ) (o p : Object) → (o.node == p.node) ≡ false → asks_where kept a o p && asks_where kept a p o ≡ not (is_pair (walk_object kept o) (walk_object kept p) && share a (end_of a) (walk_object kept o) (walk_object kept p))
two_sides kept a o p e =
    let ko = is_among o.node kept in
    let kp = is_among p.node kept in
    let s = maps.shares_byte a o p in
    let first = nat_lt (a o.node) (a p.node + p.size) in
    let second = nat_lt (a p.node) (a o.node + o.size) in
    let one : asks_where kept a o p ≡ not ko || (not p.is_plain || not s) = ap (λ z. not ko || (z || (not p.is_plain || not s))) e in
    let other : asks_where kept a p o ≡ not kp || (not o.is_plain || not s) = ap (λ z. not kp || (z || (not o.is_plain || not (maps.shares_byte a p o)))) (other_node o.node p.node e) ∙ ap (λ z. not kp || (not o.is_plain || not z)) (and_comm second first) in
    ap (λ z. z && asks_where kept a p o) one ∙ ap (λ z. (not ko || (not p.is_plain || not s)) && z) other ∙ both_sides ko kp o.is_plain p.is_plain s

from_others : (kept : List ℕ) (a : ℕ → ℕ) (o : Object) (ps : List Object) → IsOther o ps → list_all (λ p. asks_where kept a o p) ps && list_all (λ p. asks_where kept a p o) ps ≡ stands_apart a (end_of a) (walk_object kept o) (map (walk_object kept) ps)
from_others kept a o [] h = refl
from_others kept a o (p ∷ ps) h =
    let pair = not (is_pair (walk_object kept o) (walk_object kept p) && share a (end_of a) (walk_object kept o) (walk_object kept p)) in
    let behind = list_all (λ q. asks_where kept a o q) ps && list_all (λ q. asks_where kept a q o) ps in
    swapped (asks_where kept a o p) (list_all (λ q. asks_where kept a o q) ps) (asks_where kept a p o) (list_all (λ q. asks_where kept a q o) ps)
    ∙ ap (λ z. z && behind) (two_sides kept a o p h.0) ∙ ap (λ z. pair && z) (from_others kept a o ps h.1)

-- each kept object stands apart from all of a list
abbrev each_apart : List ℕ → (ℕ → ℕ) → List Object → List Object → Bool
each_apart kept a ys xs = list_all (λ o. not (is_among o.node kept) || maps.stands_apart a ys o) xs

one_more : (kept : List ℕ) (a : ℕ → ℕ) (o : Object) (os xs : List Object) → each_apart kept a (o ∷ os) xs ≡ list_all (λ q. asks_where kept a q o) xs && each_apart kept a os xs
one_more kept a o os xs =
    all_same (λ q. not (is_among q.node kept) || maps.stands_apart a (o ∷ os) q) (λ q. asks_where kept a q o && (not (is_among q.node kept) || maps.stands_apart a os q)) (λ q. with_more (is_among q.node kept) (asks a q o) (maps.stands_apart a os q)) xs
    ∙ all_and (λ q. asks_where kept a q o) (λ q. not (is_among q.node kept) || maps.stands_apart a os q) xs

pairs_apart : (kept : List ℕ) (a : ℕ → ℕ) (os : List Object) → AreDistinct os → each_apart kept a os os ≡ all_apart a (end_of a) (map (walk_object kept) os)
pairs_apart kept a [] h = refl
pairs_apart kept a (o ∷ os) h =
    let ko = is_among o.node kept in
    let own : not ko || maps.stands_apart a (o ∷ os) o ≡ list_all (λ p. asks_where kept a o p) os = ap (λ z. not ko || ((z || (not o.is_plain || not (maps.shares_byte a o o))) && maps.stands_apart a os o)) (same_node o.node) ∙ or_all ko (asks a o) os in
    let others = list_all (λ q. asks_where kept a q o) os in
    let behind = each_apart kept a os os in
    ap (λ z. z && each_apart kept a (o ∷ os) os) own ∙ ap (λ z. list_all (λ p. asks_where kept a o p) os && z) (one_more kept a o os os)
    ∙ and_assoc (list_all (λ p. asks_where kept a o p) os) others behind ∙ ap (λ z. z && behind) (from_others kept a o os h.0)
    ∙ ap (λ z. stands_apart a (end_of a) (walk_object kept o) (map (walk_object kept) os) && z) (pairs_apart kept a os h.1)

lies_alike : (kept : List ℕ) (a : ℕ → ℕ) (os : List Object) → list_all (λ o. maps.lies_in_memory a o) os ≡ all_lie a (map (walk_object kept) os)
lies_alike kept a [] = refl
lies_alike kept a (o ∷ os) = ap (λ z. maps.lies_in_memory a o && z) (lies_alike kept a os)

pub valid_by_pairs : (kept : List ℕ) (os : List Object) (a : ℕ → ℕ) → AreDistinct os → maps.are_valid kept os a ≡ addresses_valid a (map (walk_object kept) os)
valid_by_pairs kept os a h =
    all_and (λ o. maps.lies_in_memory a o) (λ o. not (is_among o.node kept) || maps.stands_apart a os o) os
    ∙ ap (λ z. z && each_apart kept a os os) (lies_alike kept a os) ∙ ap (λ z. all_lie a (map (walk_object kept) os) && z) (pairs_apart kept a os h)
