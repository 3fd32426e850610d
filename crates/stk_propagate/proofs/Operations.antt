-- What each call makes of the chains.
use Rattle.std.proofs.Common.{◌≡◌, ◌≢◌, ℕ, ◌+◌, ◌<◌, ◌≤◌, List, [], ◌∷◌, ◌++◌, length, get_or, drop, set, replicate, sym, ◌∙◌, ap, subst, inl, inr, refl, arith, length-append}
use Rattle.std.specs.List.{Contains}
use Rattle.std.proofs.lemmas.Bool.{cases_eq}
use Rattle.std.proofs.lemmas.List.{length-set, length-map, length-replicate, get_or-set_same, get_or-set_other, get_or-replicate}
use Rattle.stk_propagate.specs.declared.watch_lists.WatchLists.TheInside.{Inside}
use Rattle.stk_propagate.specs.WatchLists.{AreApart}
use Rattle.stk_propagate.specs.WatchListInside.{chain_from, seen_as, IsChain, AreChains, IsInside}
use Rattle.stk_propagate.proofs.Following.{chained, chain_end, chain_first, chain_set, chain_more, seen_is, inside_is}
use Rattle.stk_propagate.proofs.Apart.{apart_rest, free_rest, apart_link, swapped, swapped_below, exchanged, at_exchanged, apart_exchanged, at_empty, apart_empty, apart_more}

-- the fields are seen as these chains, and hold what they must
abbrev pub Becomes : Inside → List (List ℕ) → ℕ → Type 0
Becomes g chains n = (seen_as g ≡ chained chains n) × IsInside g

becomes : (g : Inside) (chains : List (List ℕ)) (n : ℕ) → length g.nexts.items ≡ n → n ≤ 4294967295 → length g.firsts.items ≡ length chains → AreChains g.firsts.items g.nexts.items chains → AreApart (chained chains n) → Becomes g chains n
becomes g chains n en few el each apart = (seen_is g chains n en few el each apart, inside_is g chains n en few el each apart)

abbrev pub chains_of : Inside → List (List ℕ)
chains_of f = (seen_as f).chains

pub as_many : (f : Inside) → length f.firsts.items ≡ length (chains_of f)
as_many f = sym (length-map f.firsts.items (chain_from f.nexts.items (length f.nexts.items)))

module _ (f : Inside) (s : IsInside f) (l : ℕ) (lt : l < length f.firsts.items) where
  inside_chains : l < length (chains_of f)
  inside_chains = omega (arith, lt, as_many f)

  -- an empty chain
  pub none_first : get_or f.firsts.items l 0 ≡ 4294967295 → get_or (chains_of f) l [] ≡ []
  none_first e = chain_end f.nexts.items (get_or (chains_of f) l []) (get_or f.firsts.items l 0) s.few e (s.each l lt)

  -- the first number, and what is left
  pub some_first : get_or f.firsts.items l 0 ≢ 4294967295 → (get_or (chains_of f) l [] ≡ get_or f.firsts.items l 0 ∷ drop 1 (get_or (chains_of f) l [])) × (get_or f.firsts.items l 0 < length f.nexts.items)
  some_first ne = let c = chain_first f.nexts.items (get_or (chains_of f) l []) (get_or f.firsts.items l 0) ne (s.each l lt) in (c.0, c.1)

  pub taken : (g : Inside) (x : ℕ) → get_or f.firsts.items l 0 ≡ x → x ≢ 4294967295 → g.firsts.items ≡ set f.firsts.items l (get_or f.nexts.items x 0) → g.nexts.items ≡ f.nexts.items
      → Becomes g (set (chains_of f) l (drop 1 (get_or (chains_of f) l []))) (length f.nexts.items)
  taken g x ex ne ef en =
      let firsts : List ℕ = f.firsts.items in
      let nexts : List ℕ = f.nexts.items in
      let cs : List (List ℕ) = chains_of f in
      let ys : List ℕ = drop 1 (get_or cs l []) in
      let y : ℕ = get_or nexts x 0 in
      let c = chain_first nexts (get_or cs l []) (get_or firsts l 0) (λ e. ne (sym ex ∙ e)) (s.each l lt) in
      let here : IsChain nexts y ys = subst (λ z. IsChain nexts (get_or nexts z 0) ys) ex c.2 in
      let each : AreChains (set firsts l y) nexts (set cs l ys) = λ m h. elim (cases_eq m l) [
        | inl e ↦ rw (e, get_or-set_same firsts l y 0 lt, get_or-set_same cs l ys [] inside_chains) here
        | inr n ↦ rw (get_or-set_other firsts l m y 0 n, get_or-set_other cs l m ys [] n) (s.each m (omega (arith, h, length-set firsts l y)))
      ] in
      becomes g (set cs l ys) (length nexts) (ap length en) s.few (ap length ef ∙ length-set firsts l y ∙ as_many f ∙ sym (length-set cs l ys))
      (subst (λ zs. AreChains zs g.nexts.items (set cs l ys)) (sym ef) (subst (λ zs. AreChains (set firsts l y) zs (set cs l ys)) (sym en) each))
      (apart_rest cs (length nexts) l inside_chains s.apart)

  pub taken_free : (x : ℕ) → get_or (chains_of f) l [] ≡ x ∷ drop 1 (get_or (chains_of f) l []) → (m : ℕ) → Contains (get_or (set (chains_of f) l (drop 1 (get_or (chains_of f) l []))) m []) x → ⊥
  taken_free x e = free_rest (chains_of f) (length f.nexts.items) l inside_chains x s.apart e

  pub linked : (g : Inside) (x first : ℕ) → get_or f.firsts.items l 0 ≡ first → x < length f.nexts.items → ((m : ℕ) → Contains (get_or (chains_of f) m []) x → ⊥) → g.firsts.items ≡ set f.firsts.items l x → g.nexts.items ≡ set f.nexts.items x first
      → Becomes g (set (chains_of f) l (x ∷ get_or (chains_of f) l [])) (length f.nexts.items)
  linked g x first ex below free ef en =
      let firsts : List ℕ = f.firsts.items in
      let nexts : List ℕ = f.nexts.items in
      let cs : List (List ℕ) = chains_of f in
      let ys : List ℕ = x ∷ get_or cs l [] in
      let old : (m : ℕ) → m < length firsts → IsChain (set nexts x first) (get_or firsts m 0) (get_or cs m []) = λ m h. chain_set nexts (get_or cs m []) (get_or firsts m 0) x first (free m) (s.each m h) in
      let front : IsChain (set nexts x first) (get_or (set nexts x first) x 0) (get_or cs l []) = rw (get_or-set_same nexts x first 0 below) (subst (λ z. IsChain (set nexts x first) z (get_or cs l [])) ex (old l lt)) in
      let here : IsChain (set nexts x first) x ys = (refl, omega (arith, length-set nexts x first, below), front) in
      let each : AreChains (set firsts l x) (set nexts x first) (set cs l ys) = λ m h. elim (cases_eq m l) [
        | inl e ↦ rw (e, get_or-set_same firsts l x 0 lt, get_or-set_same cs l ys [] inside_chains) here
        | inr n ↦ rw (get_or-set_other firsts l m x 0 n, get_or-set_other cs l m ys [] n) (old m (omega (arith, h, length-set firsts l x)))
      ] in
      becomes g (set cs l ys) (length nexts) (ap length en ∙ length-set nexts x first) s.few (ap length ef ∙ length-set firsts l x ∙ as_many f ∙ sym (length-set cs l ys))
      (subst (λ zs. AreChains zs g.nexts.items (set cs l ys)) (sym ef) (subst (λ zs. AreChains (set firsts l x) zs (set cs l ys)) (sym en) each))
      (apart_link cs (length nexts) l inside_chains x below free s.apart)

pub exchange_is : (f g : Inside) (a b : ℕ) → IsInside f → a < length f.firsts.items → b < length f.firsts.items → g.firsts.items ≡ exchanged f.firsts.items a b 0 → g.nexts.items ≡ f.nexts.items → Becomes g (exchanged (chains_of f) a b []) (length f.nexts.items)
exchange_is f g a b s ha hb ef en =
    let firsts : List ℕ = f.firsts.items in
    let nexts : List ℕ = f.nexts.items in
    let cs : List (List ℕ) = chains_of f in
    let long : length (exchanged firsts a b 0) ≡ length firsts = length-set (set firsts a (get_or firsts b 0)) b (get_or firsts a 0) ∙ length-set firsts a (get_or firsts b 0) in
    let long' : length (exchanged cs a b []) ≡ length cs = length-set (set cs a (get_or cs b [])) b (get_or cs a []) ∙ length-set cs a (get_or cs b []) in
    let ha' : a < length cs = omega (arith, ha, as_many f) in
    let hb' : b < length cs = omega (arith, hb, as_many f) in
    let each : AreChains (exchanged firsts a b 0) nexts (exchanged cs a b []) = λ m h.
    let h' : m < length firsts = omega (arith, h, long) in
    rw (at_exchanged firsts a b m 0 ha hb, at_exchanged cs a b m [] ha' hb') (s.each (swapped a b m) (swapped_below a b m (length firsts) ha hb h')) in
    becomes g (exchanged cs a b []) (length nexts) (ap length en) s.few (ap length ef ∙ long ∙ as_many f ∙ sym long')
    (subst (λ zs. AreChains zs g.nexts.items (exchanged cs a b [])) (sym ef) (subst (λ zs. AreChains (exchanged firsts a b 0) zs (exchanged cs a b [])) (sym en) each))
    (apart_exchanged cs (length nexts) a b ha' hb' s.apart)

pub grown : (f g : Inside) (x y : ℕ) → IsInside f → length f.nexts.items + 2 < 4294967296 → g.firsts.items ≡ f.firsts.items → g.nexts.items ≡ f.nexts.items ++ x ∷ y ∷ [] → Becomes g (chains_of f) (length f.nexts.items + 2)
grown f g x y s few ef en =
    let nexts : List ℕ = f.nexts.items in
    let two : length g.nexts.items ≡ length nexts + 2 = ap length en ∙ length-append nexts (x ∷ y ∷ []) in
    let each : AreChains f.firsts.items (nexts ++ x ∷ y ∷ []) (chains_of f) = λ m h. chain_more nexts (x ∷ y ∷ []) (get_or (chains_of f) m []) (get_or f.firsts.items m 0) (s.each m h) in
    becomes g (chains_of f) (length nexts + 2) two (omega (arith, few)) (ap length ef ∙ as_many f)
    (subst (λ zs. AreChains zs g.nexts.items (chains_of f)) (sym ef) (subst (λ zs. AreChains f.firsts.items zs (chains_of f)) (sym en) each))
    (apart_more (chains_of f) (length nexts) (length nexts + 2) (omega arith) s.apart)

pub kept : (f g : Inside) → IsInside f → g.firsts.items ≡ f.firsts.items → g.nexts.items ≡ f.nexts.items → Becomes g (chains_of f) (length f.nexts.items)
kept f g s ef en =
    becomes g (chains_of f) (length f.nexts.items) (ap length en) s.few (ap length ef ∙ as_many f)
    (subst (λ zs. AreChains zs g.nexts.items (chains_of f)) (sym ef) (subst (λ zs. AreChains f.firsts.items zs (chains_of f)) (sym en) s.each)) s.apart

pub emptied : (g : Inside) (count n : ℕ) → n ≤ 4294967295 → g.firsts.items ≡ replicate count 4294967295 → g.nexts.items ≡ replicate n 4294967295 → Becomes g (replicate count []) n
emptied g count n few ef en =
    let each : AreChains (replicate count 4294967295) g.nexts.items (replicate count []) = λ m h.
    let lt : m < count = omega (arith, h, length-replicate {A = ℕ} count 4294967295) in
    rw (get_or-replicate {A = ℕ} count m 4294967295 0 lt, at_empty count m) refl in
    becomes g (replicate count []) n (ap length en ∙ length-replicate {A = ℕ} n 4294967295) few (ap length ef ∙ length-replicate {A = ℕ} count 4294967295 ∙ sym (length-replicate {A = List ℕ} count []))
    (subst (λ zs. AreChains zs g.nexts.items (replicate count [])) (sym ef) each)
    (apart_empty count n)
