-- Objects at addresses are valid exactly where these are.
use Rattle.std.proofs.Common.{◌≡◌, ℕ, Bool, List, [], ◌∷◌, ◌++◌, map, refl, sym, ap, ◌∙◌}
use Rattle.std.specs.Prelude.{not, ◌&&◌, ◌||◌}
use Rattle.std.specs.List.{list_all}
use Rattle.stk_meaning.specs.Typings.{is_among}
use Rattle.stk_meaning.specs.Keys.{Object}
use Rattle.stk_meaning.specs.Maps as maps
use Rattle.stk_first_maps.specs.declared.placed.PlacedObject.{PlacedObject}
use Rattle.stk_first_maps.specs.Placed.{placed_object, lies_in_memory, is_apart, is_placed, are_placed}

pub map_append : {A B : Type 0} (f : A → B) (xs ys : List A) → map f (xs ++ ys) ≡ map f xs ++ map f ys
map_append f [] ys = refl
map_append f (x ∷ xs) ys = ap (λ zs. f x ∷ zs) (map_append f xs ys)

all_mapped : {A B : Type 0} (test : B → Bool) (f : A → B) (xs : List A) → list_all test (map f xs) ≡ list_all (λ x. test (f x)) xs
all_mapped test f [] = refl
all_mapped test f (x ∷ xs) = ap (λ b. test (f x) && b) (all_mapped test f xs)

all_same : {A : Type 0} (f h : A → Bool) → ((x : A) → f x ≡ h x) → (xs : List A) → list_all f xs ≡ list_all h xs
all_same f h e [] = refl
all_same f h e (x ∷ xs) = ap (λ z. z && list_all f xs) (e x) ∙ ap (λ z. h x && z) (all_same f h e xs)

pub placed_valid : (kept : List ℕ) (os : List Object) (a : ℕ → ℕ) → are_placed (map (placed_object kept a) os) ≡ maps.are_valid kept os a
placed_valid kept os a =
    all_mapped (is_placed (map (placed_object kept a) os)) (placed_object kept a) os
    ∙ all_same (λ o. is_placed (map (placed_object kept a) os) (placed_object kept a o)) (λ o. maps.lies_in_memory a o && (not (is_among o.node kept) || maps.stands_apart a os o))
    (λ o. ap (λ z. maps.lies_in_memory a o && (not (is_among o.node kept) || z)) (all_mapped (is_apart (placed_object kept a o)) (placed_object kept a) os)) os
