-- Words as a list of items, from one item to the next.
use Rattle.std.proofs.Common.{◌≡◌, ℕ, ◌<◌, true, false, List, [], ◌∷◌, length, refl, sym, ap, ◌∙◌, subst, arith}
use Rattle.stk_records.specs.declared.options.Options.{Options}
use Rattle.stk_records.specs.declared.options.Item.{Item}
use Rattle.stk_records.specs.declared.options.Seen.{Seen}
use Rattle.stk_records.specs.Words.{with_item, has_come, stand_together, IsItem, by_itself, apart, joined, IsItemAlone, AreItems, no_more, then_item}

none_in : {x : Item} {left : List (List ℕ)} (words : List (List ℕ)) → words ≡ [] → IsItem words x left → ⊥
none_in words e (by_itself g f i) = cc
none_in words e (apart g f t) = cc
none_in words e (joined g s f t) = cc

-- what follows the item in front
pub goes_down : {seen : Seen} {words left : List (List ℕ)} {x : Item} {o : Options} → IsItemAlone words x left → AreItems seen words o → (words ≡ [] → ⊥) → has_come seen x ≡ false × AreItems (with_item seen x) left o
goes_down a (no_more p e) some = absurd (some refl)
goes_down {seen = seen} {left = left} {o = o} a (then_item {left = other} {x = y} i free rest) some =
    let one = a.alone y other i in
    (ap (has_come seen) (sym one.0) ∙ free, subst (λ u. AreItems (with_item seen u) left o) one.0 (subst (λ u. AreItems (with_item seen y) u o) one.1 rest))

-- no item stands in front
pub no_items : {seen : Seen} {words : List (List ℕ)} {o : Options} → ((x : Item) (left : List (List ℕ)) → IsItem words x left → ⊥) → (words ≡ [] → ⊥) → AreItems seen words o → ⊥
no_items none some (no_more p e) = some refl
no_items none some (then_item {left = left} {x = x} i free rest) = none x left i

-- behind the last item those that have come may stand together
pub paired : {seen : Seen} {words : List (List ℕ)} {o : Options} → words ≡ [] → AreItems seen words o → stand_together seen ≡ true
paired e (no_more p d) = p
paired {words = words} e (then_item i free rest) = absurd (none_in words e i)

-- an item takes a word
pub shorter : {words left : List (List ℕ)} {x : Item} → IsItem words x left → length left < length words
shorter (by_itself g f i) = omega arith
shorter (apart g f t) = omega arith
shorter (joined g s f t) = omega arith

pub some_word : {w : List ℕ} {ws : List (List ℕ)} → w ∷ ws ≡ [] → ⊥
some_word e = cc

pub none_left : {A : Type 0} (xs : List A) → length xs ≡ 0 → xs ≡ []
none_left [] e = refl
none_left (x ∷ xs) e = absurd (omega arith)
