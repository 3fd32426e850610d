-- Watch lists as lists of numbers.
use Rattle.std.proofs.Common.{◌≡◌, ◌≢◌, ℕ, zero, suc, ◌<◌, ◌≤◌, List, [], ◌∷◌, ◌++◌, length, get_or, drop, set, map, sym, ◌∙◌, ap, subst, refl, arith, length-append}
use Rattle.std.specs.List.{Contains}
use Rattle.std.proofs.lemmas.Bool.{lt-ltb, le-ltb}
use Rattle.std.proofs.lemmas.List.{length-set, length-map, get_or-set_other, get_or_append_left, get_or-map, ext_get_or}
use Rattle.stk_propagate.specs.declared.watch_lists.WatchLists.TheInside.{Inside}
use Rattle.stk_propagate.specs.WatchLists.{Chained, AreApart}
use Rattle.stk_propagate.specs.WatchListInside.{chain_from, seen_as, IsChain, AreChains, IsInside}
use Rattle.stk_propagate.proofs.Numbers.{in_head, in_tail, once_short}

chain_is : (nexts xs : List ℕ) (fuel at : ℕ) → length nexts ≤ 4294967295 → IsChain nexts at xs → length xs ≤ fuel → chain_from nexts fuel at ≡ xs
chain_is nexts [] zero at few c le = refl
chain_is nexts [] (suc n) at few c le = let h : length nexts ≤ at = omega (arith, few, c) in rw (le-ltb at (length nexts) h) refl
chain_is nexts (x ∷ xs) zero at few c le = absurd (omega (arith, le))
chain_is nexts (x ∷ xs) (suc n) at few c le =
    let h : at < length nexts = omega (arith, c.0, c.1) in
    let rest : chain_from nexts n (get_or nexts x 0) ≡ xs = chain_is nexts xs n (get_or nexts x 0) few c.2 (omega (arith, le)) in
    rw (lt-ltb at (length nexts) h) (rw c.0 (ap (λ (ys : List ℕ). x ∷ ys) rest))

-- a chain that begins with the end is empty
pub chain_end : (nexts xs : List ℕ) (at : ℕ) → length nexts ≤ 4294967295 → at ≡ 4294967295 → IsChain nexts at xs → xs ≡ []
chain_end nexts [] at few e c = refl
chain_end nexts (x ∷ xs) at few e c = absurd (omega (arith, few, e, c.0, c.1))

-- what a chain that doesn't begin with the end is
pub chain_first : (nexts xs : List ℕ) (at : ℕ) → at ≢ 4294967295 → IsChain nexts at xs → (xs ≡ at ∷ drop 1 xs) × (at < length nexts) × IsChain nexts (get_or nexts at 0) (drop 1 xs)
chain_first nexts [] at n c = absurd (n c)
chain_first nexts (x ∷ xs) at n c = (ap (λ (y : ℕ). y ∷ xs) (sym c.0), omega (arith, c.0, c.1), subst (λ y. IsChain nexts (get_or nexts y 0) xs) (sym c.0) c.2)

pub chain_set : (nexts xs : List ℕ) (at v y : ℕ) → (Contains xs v → ⊥) → IsChain nexts at xs → IsChain (set nexts v y) at xs
chain_set nexts [] at v y out c = c
chain_set nexts (x ∷ xs) at v y out c =
    let ne : x ≢ v = λ e. out (subst (λ z. Contains (x ∷ xs) z) e (in_head x xs)) in
    (c.0, omega (arith, length-set nexts v y, c.1), rw (get_or-set_other nexts v x y 0 ne) (chain_set nexts xs (get_or nexts x 0) v y (λ h. out (in_tail x xs v h)) c.2))

pub chain_more : (nexts ys xs : List ℕ) (at : ℕ) → IsChain nexts at xs → IsChain (nexts ++ ys) at xs
chain_more nexts ys [] at c = c
chain_more nexts ys (x ∷ xs) at c = (c.0, omega (arith, length-append nexts ys, c.1), rw (get_or_append_left nexts ys 0 x c.1) (chain_more nexts ys xs (get_or nexts x 0) c.2))

abbrev pub chained : List (List ℕ) → ℕ → Chained
chained chains numbers = record { chains = chains; numbers = numbers }

-- the fields that hold these chains are seen as these
pub seen_is : (g : Inside) (chains : List (List ℕ)) (n : ℕ) → length g.nexts.items ≡ n → n ≤ 4294967295 → length g.firsts.items ≡ length chains → AreChains g.firsts.items g.nexts.items chains → AreApart (chained chains n) → seen_as g ≡ chained chains n
seen_is g chains n en few el each apart =
    let firsts : List ℕ = g.firsts.items in
    let nexts : List ℕ = g.nexts.items in
    let f : ℕ → List ℕ = chain_from nexts (length nexts) in
    let few' : length nexts ≤ 4294967295 = omega (arith, en, few) in
    let same : map f firsts ≡ chains = ext_get_or [] (map f firsts) chains (length-map firsts f ∙ el) (λ i lt.
    let lt' : i < length firsts = omega (arith, lt, length-map firsts f) in
    get_or-map f firsts i 0 [] lt' ∙ chain_is nexts (get_or chains i []) (length nexts) (get_or firsts i 0) few' (each i lt') (once_short (get_or chains i []) (length nexts) (apart.once i) (λ q h. omega (arith, apart.within i q h, en)))) in
    ap (λ (cs : List (List ℕ)). chained cs (length nexts)) same ∙ ap (λ (k : ℕ). chained chains k) en

pub inside_is : (g : Inside) (chains : List (List ℕ)) (n : ℕ) → length g.nexts.items ≡ n → n ≤ 4294967295 → length g.firsts.items ≡ length chains → AreChains g.firsts.items g.nexts.items chains → AreApart (chained chains n) → IsInside g
inside_is g chains n en few el each apart =
    let e = seen_is g chains n en few el each apart in
    record {
      few = omega (arith, en, few);
      each = subst (λ (c : Chained). AreChains g.firsts.items g.nexts.items c.chains) (sym e) each;
      apart = subst AreApart (sym e) apart;
    }
