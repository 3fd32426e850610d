-- Lists as syntax: what a loop over a list keeps, where it replaces one element after another.
use Rattle.std.proofs.Common.{◌≡◌, ℕ, ◌+◌, ◌<◌, List, [], ◌∷◌, ◌++◌, length, map, take, drop, set, get_or, refl, ap, arith, ◌∙◌, sym}
use Rattle.std.proofs.lemmas.Grind.{common_steps}
use Rattle.std.proofs.lemmas.List.{map-append, take_more_set, drop-set-lt}
use Rattle.stk_tree.specs.View.{chained}

-- two lists, one after the other
pub chained_append : {X T : Type 0} (add : X → T → T) (none : T) (xs ys : List X) → chained add none (xs ++ ys) ≡ chained add (chained add none ys) xs
chained_append add none [] ys = refl
chained_append add none (x ∷ xs) ys = ap (add x) (chained_append add none xs ys)

-- the elements up to the one that was just replaced, and then the rest
pub chained_set : {X Y T : Type 0} (add : Y → T → T) (rest : T) (view : X → Y) (xs : List X) (i : ℕ) (v : X) → i < length xs →
    chained add rest (map view (take (i + 1) (set xs i v))) ≡ chained add (add (view v) rest) (map view (take i xs))
chained_set add rest view xs i v h =
    ap (λ l. chained add rest (map view l)) (take_more_set xs i v h) ∙ ap (chained add rest) (map-append view (take i xs) (v ∷ [])) ∙ chained_append add rest (map view (take i xs)) (view v ∷ [])

-- what is left of a list, from an element on
pub rest_of : {X : Type 0} (xs : List X) (i : ℕ) (d : X) → i < length xs → drop i xs ≡ get_or xs i d ∷ drop (i + 1) xs
rest_of xs i d h = grind (arith, common_steps)

-- what a replaced element leaves behind it
pub rest_after : {X : Type 0} (xs : List X) (i : ℕ) (v : X) → drop (i + 1) (set xs i v) ≡ drop (i + 1) xs
rest_after xs i v = drop-set-lt (i + 1) xs i v (grind (arith, common_steps))

-- one more element is laid out, right behind the last one
pub laid_next : {X Y T : Type 0} (add : Y → T → T) (none : T) (view : X → Y) (lay : ℕ → ℕ → Y → Y) (lays : ℕ → ℕ → T → T) (nodes width : Y → ℕ) →
    ((n t : ℕ) (y : Y) (ys : T) → lays n t (add y ys) ≡ add (lay n t y) (lays (n + nodes y) (t + width y) ys)) →
    (all : T) (xs : List X) (i : ℕ) (d v : X) (n t m u : ℕ) → i < length xs →
    view v ≡ lay n t (view (get_or xs i d)) → m ≡ n + nodes (view (get_or xs i d)) → u ≡ t + width (view (get_or xs i d)) →
    all ≡ chained add (lays n t (chained add none (map view (drop i xs)))) (map view (take i xs)) →
    all ≡ chained add (lays m u (chained add none (map view (drop (i + 1) (set xs i v))))) (map view (take (i + 1) (set xs i v)))
laid_next add none view lay lays nodes width step all xs i d v n t m u h laid number token before =
    let left = chained add none (map view (drop (i + 1) xs)) in
    let split : chained add none (map view (drop i xs)) ≡ add (view (get_or xs i d)) left = ap (λ l. chained add none (map view l)) (rest_of xs i d h) in
    let moved : lays n t (add (view (get_or xs i d)) left) ≡ add (view v) (lays m u left) = rw (laid, number, token) (step n t (view (get_or xs i d)) left) in
    before ∙ ap (λ l. chained add (lays n t l) (map view (take i xs))) split ∙ ap (λ l. chained add l (map view (take i xs))) moved
    ∙ sym (chained_set add (lays m u left) view xs i v h)
    ∙ ap (λ l. chained add (lays m u (chained add none (map view l))) (map view (take (i + 1) (set xs i v)))) (sym (rest_after xs i v))

-- the same, with a comma between each two
pub laid_past_comma : {X Y T : Type 0} (add : Y → T → T) (none : T) (view : X → Y) (lay : ℕ → ℕ → Y → Y) (lays : ℕ → ℕ → T → T) (nodes width : Y → ℕ) →
    ((n t : ℕ) (y : Y) (ys : T) → lays n t (add y ys) ≡ add (lay n t y) (lays (n + nodes y) (t + width y + 1) ys)) →
    (all : T) (xs : List X) (i : ℕ) (d v : X) (n t m u : ℕ) → i < length xs →
    view v ≡ lay n t (view (get_or xs i d)) → m ≡ n + nodes (view (get_or xs i d)) → u ≡ t + width (view (get_or xs i d)) →
    all ≡ chained add (lays n t (chained add none (map view (drop i xs)))) (map view (take i xs)) →
    all ≡ chained add (lays m (u + 1) (chained add none (map view (drop (i + 1) (set xs i v))))) (map view (take (i + 1) (set xs i v)))
laid_past_comma add none view lay lays nodes width step all xs i d v n t m u h laid number token before =
    let left = chained add none (map view (drop (i + 1) xs)) in
    let split : chained add none (map view (drop i xs)) ≡ add (view (get_or xs i d)) left = ap (λ l. chained add none (map view l)) (rest_of xs i d h) in
    let moved : lays n t (add (view (get_or xs i d)) left) ≡ add (view v) (lays m (u + 1) left) = rw (laid, number, token) (step n t (view (get_or xs i d)) left) in
    before ∙ ap (λ l. chained add (lays n t l) (map view (take i xs))) split ∙ ap (λ l. chained add l (map view (take i xs))) moved
    ∙ sym (chained_set add (lays m (u + 1) left) view xs i v h)
    ∙ ap (λ l. chained add (lays m (u + 1) (chained add none (map view l))) (map view (take (i + 1) (set xs i v)))) (sym (rest_after xs i v))

-- what is counted so far and what is left, where one more element is counted
pub counted_more : {X Y T : Type 0} (add : Y → T → T) (none : T) (view : X → Y) (count : Y → ℕ) (counts : T → ℕ) →
    ((y : Y) (ys : T) → counts (add y ys) ≡ count y + counts ys) →
    (xs : List X) (i : ℕ) (d v : X) (all so_far next : ℕ) → i < length xs → next ≡ so_far + count (view (get_or xs i d)) →
    so_far + counts (chained add none (map view (drop i xs))) ≡ all →
    next + counts (chained add none (map view (drop (i + 1) (set xs i v)))) ≡ all
counted_more add none view count counts step xs i d v all so_far next h more before =
    let r = rw (rest_of xs i d h, step (view (get_or xs i d)) (chained add none (map view (drop (i + 1) xs)))) at before in
    rw (rest_after xs i v, more) (omega (arith, r))
