-- The places of keys.
use Rattle.std.proofs.Common.{ℕ, suc, ◌≡◌, ◌∙◌, ◌<◌, Bool, true, false, List, [], ◌∷◌, length, map, refl, ap, subst, Option, Some, None, ℤ, arith}
use Rattle.std.specs.Prelude.{if◌then◌else◌, slice_get}
use Rattle.std.specs.Option.{option_map}
use Rattle.std.proofs.lemmas.Option.{none-some, same_Some}
use Rattle.stk_ctype.specs.declared.kind.IntKind.{IntKind}
use Rattle.stk_meaning.specs.Places.{Setting}
use Rattle.stk_meaning.specs.Keys.{Key, KeyInfo}
use Rattle.stk_meaning.specs.Paths.{same_key, number_under}
use Rattle.stk_run_laws.proofs.Maps.{same_is}
use Rattle.stk_kinded.specs.Kinds.{key_kind}
use Rattle.stk_kinded.specs.Keys.{HaveKeyKinds}
use Rattle.stk_walking.specs.Keyed.{placed}
use Rattle.stk_path_runs.specs.Places.{key_place, number_in}
use Rattle.stk_path_runs.proofs.Placed.{number_under-in}

-- the place of a key is a place of the list
pub place_within : (key : Key) (keys : List KeyInfo) (p : ℕ) → key_place key keys ≡ Some p → p < length keys
place_within key [] p e = absurd (none-some p e)
place_within key (x ∷ xs) p e = by (same_key x.key key) (place_within key xs) e
  where
    behind : (o : Option ℕ) → key_place key xs ≡ o → ((q : ℕ) → key_place key xs ≡ Some q → q < length xs) → option_map suc o ≡ Some p → p < suc (length xs)
    behind None h rest i = absurd (none-some p i)
    behind (Some q) h rest i = let same : suc q ≡ p = same_Some (suc q) p i in omega (arith, rest q h)

    by : (b : Bool) → ((q : ℕ) → key_place key xs ≡ Some q → q < length xs) → (if b then Some 0 else option_map suc (key_place key xs)) ≡ Some p → p < suc (length xs)
    by true rest i = let same : 0 ≡ p = same_Some 0 p i in omega arith
    by false rest i = behind (key_place key xs) refl rest i

-- the kind there is the one that its form says
kind_there : (g : Setting) (key : Key) (keys : List KeyInfo) (p : ℕ) → key_place key keys ≡ Some p → slice_get (map (λ (x : KeyInfo). key_kind g x.key) keys) p ≡ Some (key_kind g key)
kind_there g key [] p e = absurd (none-some p e)
kind_there g key (x ∷ xs) p e = by (same_key x.key key) refl (kind_there g key xs) e
  where
    ks : List IntKind
    ks = map (λ (y : KeyInfo). key_kind g y.key) xs

    behind : (o : Option ℕ) → key_place key xs ≡ o → ((q : ℕ) → key_place key xs ≡ Some q → slice_get ks q ≡ Some (key_kind g key)) → option_map suc o ≡ Some p → slice_get (key_kind g x.key ∷ ks) p ≡ Some (key_kind g key)
    behind None h rest i = absurd (none-some p i)
    behind (Some q) h rest i = subst (λ r. slice_get (key_kind g x.key ∷ ks) r ≡ Some (key_kind g key)) (same_Some (suc q) p i) (rest q h)

    by : (b : Bool) → same_key x.key key ≡ b → ((q : ℕ) → key_place key xs ≡ Some q → slice_get ks q ≡ Some (key_kind g key)) → (if b then Some 0 else option_map suc (key_place key xs)) ≡ Some p → slice_get (key_kind g x.key ∷ ks) p ≡ Some (key_kind g key)
    by true h rest i = subst (λ r. slice_get (key_kind g x.key ∷ ks) r ≡ Some (key_kind g key)) (same_Some 0 p i) (ap (λ k. Some (key_kind g k)) (same_is x.key key h))
    by false h rest i = behind (key_place key xs) refl rest i

pub kind_found : (g : Setting) (key : Key) (keys : List KeyInfo) (p : ℕ) → HaveKeyKinds g keys → key_place key keys ≡ Some p → slice_get (map (λ (x : KeyInfo). x.kind) keys) p ≡ Some (key_kind g key)
kind_found g key keys p kinded e = ap (λ ks. slice_get ks p) kinded ∙ kind_there g key keys p e

-- the number under a key is the one in its place
number_placed : (place : Option ℕ) (m : List ℤ) → number_in place m ≡ placed place m
number_placed None m = refl
number_placed (Some p) m = refl

pub number_found : (key : Key) (keys : List KeyInfo) (place : Option ℕ) (m : List ℤ) → key_place key keys ≡ place → number_under keys m key ≡ placed place m
number_found key keys place m e = number_under-in keys m key ∙ ap (λ p. number_in p m) e ∙ number_placed place m
