-- What skimming keeps and notes is what stretches give, and nothing else is.
use Rattle.std.proofs.Common.{◌≡◌, ℕ, zero, suc, ◌-◌, ◌<◌, ◌≤◌, Bool, true, false, cond, ◌&&◌, ◌||◌, ◌==◌, not, List, [], ◌∷◌, ◌++◌, length, take, drop, refl, sym, ap, subst, ◌∙◌, ◌⊎◌, inl, inr, take-append-drop, arith}
use Rattle.std.specs.List.{list_any}
use Rattle.std.proofs.lemmas.Bool.{false≢true, eqb-true}
use Rattle.std.proofs.lemmas.List.{length-drop}
use Rattle.stk_lex.specs.declared.token.Token.{Token}
use Rattle.stk_lex.specs.Gaps.{one_more}
use Rattle.stk_lex.specs.Spelled.{opens_parenthesis, depth_behind, is_dropped_word, is_attribute_word, is_assembly_word, is_changing_word}
use Rattle.stk_lex.specs.Skimming.{closing, group, drops_group, dropped, note_of, kept, noted}
use Rattle.stk_lex.proofs.Closings.{suc_test}
use Rattle.stk_lex.proofs.Kept.{kept_keep, kept_drop, noted_keep, noted_drop}
use Rattle.stk_text_laws.specs.Stretches.{Closes, IsGroup, IsDropped, word, attribute, assembly, NoneDropped, IsSkimmed, ends, keeps, drops}

-- ---- lists and tests

either_of : (p q : Bool) → (p || q) ≡ true → (p ≡ true) ⊎ (q ≡ true)
either_of true q e = inl refl
either_of false q e = inr e

both_of : (p q : Bool) → (p && q) ≡ true → (p ≡ true) × (q ≡ true)
both_of true q e = (refl, e)
both_of false q e = absurd (false≢true e)

not_of : (p : Bool) → not p ≡ true → p ≡ false
not_of true e = absurd (false≢true e)
not_of false e = refl

or_right : (p : Bool) → (p || true) ≡ true
or_right true = refl
or_right false = refl

shorter : (n : ℕ) (xs : List Token) → length (drop n xs) ≤ length xs
shorter n xs = omega (arith, length-drop n xs)

take_front : (xs ys : List Token) → take (length xs) (xs ++ ys) ≡ xs
take_front [] ys = refl
take_front (x ∷ xs) ys = ap (λ zs. x ∷ zs) (take_front xs ys)

drop_front : (xs ys : List Token) → drop (length xs) (xs ++ ys) ≡ ys
drop_front [] ys = refl
drop_front (x ∷ xs) ys = drop_front xs ys

more_than_one : (n m : ℕ) → one_more n ≡ suc m → (n ≡ m) × (0 < m)
more_than_one zero m e = absurd (omega (arith, e))
more_than_one (suc n) m e = (omega (arith, e), omega (arith, e))

-- ---- groups

-- one token more in front, behind which the depth isn't 0
closes_more : (bytes : List ℕ) (t : Token) (ts : List Token) (depth : ℕ) → 0 < depth_behind bytes depth t → Closes bytes (depth_behind bytes depth t) ts → Closes bytes depth (t ∷ ts)
unfolding Closes
closes_more bytes t [] depth some c = absurd c
closes_more bytes t (u ∷ us) depth some c = (some, c)

closing_end : (bytes : List ℕ) (t : Token) (ts : List Token) (depth : ℕ) → depth_behind bytes depth t ≡ 0 → closing bytes depth (t ∷ ts) ≡ 1
unfolding closing
closing_end bytes t ts depth e = rw e refl

closing_more : (bytes : List ℕ) (t : Token) (ts : List Token) (depth at : ℕ) → depth_behind bytes depth t ≡ suc at → closing bytes depth (t ∷ ts) ≡ one_more (closing bytes (depth_behind bytes depth t) ts)
unfolding closing
closing_more bytes t ts depth at e = rw (e, suc_test at) refl

no_closing : (bytes : List ℕ) (depth : ℕ) → closing bytes depth [] ≡ 0
unfolding closing
no_closing bytes depth = refl

one_closes : (bytes : List ℕ) (t : Token) (depth : ℕ) → depth_behind bytes depth t ≡ 0 → Closes bytes depth (t ∷ [])
unfolding Closes
one_closes bytes t depth e = e

-- the first token, where what closing counts behind it closes
closes_step : (bytes : List ℕ) (t : Token) (ts : List Token) (depth n : ℕ) → closing bytes depth (t ∷ ts) ≡ suc n
    → ((at m : ℕ) → closing bytes at ts ≡ suc m → Closes bytes at (take (suc m) ts)) → Closes bytes depth (take (suc n) (t ∷ ts))
closes_step bytes t ts depth n e behind = by_depth (depth_behind bytes depth t) refl
  where
    by_rest : (at m : ℕ) → depth_behind bytes depth t ≡ suc at → closing bytes (depth_behind bytes depth t) ts ≡ m → 0 < m → Closes bytes depth (t ∷ take m ts)
    by_rest at zero d c some = absurd (omega (arith, some))
    by_rest at (suc m) d c some = closes_more bytes t (take (suc m) ts) depth (omega (arith, d)) (behind (depth_behind bytes depth t) m c)

    by_depth : (d : ℕ) → depth_behind bytes depth t ≡ d → Closes bytes depth (take (suc n) (t ∷ ts))
    by_depth zero d =
        let first : n ≡ 0 = omega (arith, e, closing_end bytes t ts depth d) in
        rw first (one_closes bytes t depth d)
    by_depth (suc at) d =
        let k = more_than_one (closing bytes (depth_behind bytes depth t) ts) n (sym (closing_more bytes t ts depth at d) ∙ e) in
        by_rest at n d k.0 k.1

-- what closing counts closes
closes_of : (bytes : List ℕ) (ts : List Token) (depth n : ℕ) → closing bytes depth ts ≡ suc n → Closes bytes depth (take (suc n) ts)
closes_of bytes [] depth n e = absurd (omega (arith, e, no_closing bytes depth))
closes_of bytes (t ∷ ts) depth n e = closes_step bytes t ts depth n e (λ at m c. closes_of bytes ts at m c)

-- what closes is counted
count_of : (bytes : List ℕ) (g rest : List Token) (depth : ℕ) → Closes bytes depth g → (closing bytes depth (g ++ rest) ≡ length g) × (0 < length g)
unfolding Closes
count_of bytes [] rest depth c = absurd c
count_of bytes (t ∷ []) rest depth c = (closing_end bytes t rest depth c, omega arith)
count_of bytes (t ∷ u ∷ us) rest depth c =
    let further = count_of bytes (u ∷ us) rest (depth_behind bytes depth t) c.1 in
    let behind = depth_behind bytes depth t in
    let above : behind ≡ suc (behind - 1) = omega (arith, c.0) in
    (closing_more bytes t (u ∷ us ++ rest) depth (behind - 1) above ∙ ap one_more further.0, omega arith)

group_of : (bytes : List ℕ) (ts : List Token) (n : ℕ) → group bytes ts ≡ suc n → IsGroup bytes (take (suc n) ts)
unfolding group IsGroup
group_of bytes [] n e = absurd (omega (arith, e))
group_of bytes (t ∷ ts) n e = by_open (opens_parenthesis bytes t) refl
  where
    by_size : (m : ℕ) → closing bytes 1 ts ≡ m → 0 < m → Closes bytes 1 (take m ts)
    by_size zero c none = absurd (omega (arith, none))
    by_size (suc m) c some = closes_of bytes ts 1 m c

    by_open : (b : Bool) → opens_parenthesis bytes t ≡ b → (opens_parenthesis bytes t ≡ true) × Closes bytes 1 (take n ts)
    by_open false o = let none : 0 ≡ suc n = ap (λ (c : Bool). cond c (one_more (closing bytes 1 ts)) 0) (sym o) ∙ e in absurd (omega (arith, none))
    by_open true o =
        let some : one_more (closing bytes 1 ts) ≡ suc n = ap (λ (c : Bool). cond c (one_more (closing bytes 1 ts)) 0) (sym o) ∙ e in
        let k = more_than_one (closing bytes 1 ts) n some in
        (o, by_size n k.0 k.1)

group_count : (bytes : List ℕ) (g rest : List Token) → IsGroup bytes g → group bytes (g ++ rest) ≡ length g
unfolding group IsGroup
group_count bytes [] rest is = absurd is
group_count bytes (t ∷ ts) rest is =
    let k = count_of bytes ts rest 1 is.1 in
    ap (λ (c : Bool). cond c (one_more (closing bytes 1 (ts ++ rest))) 0) is.0 ∙ ap one_more k.0 ∙ more (length ts) k.1
  where
    more : (n : ℕ) → 0 < n → one_more n ≡ suc n
    more zero some = absurd (omega (arith, some))
    more (suc n) some = refl

-- a group has a token, so with the word before it there is one more
one_group : (bytes : List ℕ) (g : List Token) → IsGroup bytes g → one_more (length g) ≡ suc (length g)
unfolding IsGroup
one_group bytes [] is = absurd is
one_group bytes (t ∷ ts) is = refl

-- ---- what is dropped

dropped_word : (bytes : List ℕ) (depth : ℕ) (t : Token) (ts : List Token) → is_dropped_word bytes t ≡ true → dropped bytes depth (t ∷ ts) ≡ 1
unfolding dropped
dropped_word bytes depth t ts e = rw e refl

dropped_group : (bytes : List ℕ) (depth : ℕ) (t : Token) (ts : List Token) → is_dropped_word bytes t ≡ false → dropped bytes depth (t ∷ ts) ≡ cond (drops_group bytes depth t ts) (one_more (group bytes ts)) 0
unfolding dropped
dropped_group bytes depth t ts e = rw e refl

-- what is counted as dropped is dropped
is_dropped : (bytes : List ℕ) (depth n : ℕ) (t : Token) (ts : List Token) → dropped bytes depth (t ∷ ts) ≡ suc n → IsDropped bytes depth (take (suc n) (t ∷ ts))
is_dropped bytes depth n t ts e = by_word (is_dropped_word bytes t) refl
  where
    with_group : (m : ℕ) → n ≡ suc m → is_dropped_word bytes t ≡ false → drops_group bytes depth t ts ≡ true → group bytes ts ≡ suc m → IsDropped bytes depth (t ∷ take (suc m) ts)
    with_group m size other d g = elim (either_of (is_attribute_word bytes t && not (list_any (is_changing_word bytes) (take (group bytes ts) ts))) (depth == 0 && is_assembly_word bytes t) d) [
      | inl attributes ↦ (let p = both_of (is_attribute_word bytes t) (not (list_any (is_changing_word bytes) (take (group bytes ts) ts))) attributes in
          attribute other p.0 (group_of bytes ts m g) (rw g at (not_of (list_any (is_changing_word bytes) (take (group bytes ts) ts)) p.1)))
      | inr outer ↦ (let p = both_of (depth == 0) (is_assembly_word bytes t) outer in assembly other (eqb-true depth 0 p.0) p.1 (group_of bytes ts m g))
    ]

    by_size : (m : ℕ) → n ≡ m → 0 < m → is_dropped_word bytes t ≡ false → drops_group bytes depth t ts ≡ true → group bytes ts ≡ m → IsDropped bytes depth (t ∷ take m ts)
    by_size zero e' some other d g = absurd (omega (arith, some))
    by_size (suc m) e' some other d g = with_group m e' other d g

    by_group : (b : Bool) → drops_group bytes depth t ts ≡ b → is_dropped_word bytes t ≡ false → IsDropped bytes depth (take (suc n) (t ∷ ts))
    by_group false d other =
        let none : 0 ≡ suc n = ap (λ (c : Bool). cond c (one_more (group bytes ts)) 0) (sym d) ∙ sym (dropped_group bytes depth t ts other) ∙ e in
        absurd (omega (arith, none))
    by_group true d other =
        let some : one_more (group bytes ts) ≡ suc n = ap (λ (c : Bool). cond c (one_more (group bytes ts)) 0) (sym d) ∙ sym (dropped_group bytes depth t ts other) ∙ e in
        let k = more_than_one (group bytes ts) n some in
        by_size n refl k.1 other d k.0

    by_word : (b : Bool) → is_dropped_word bytes t ≡ b → IsDropped bytes depth (take (suc n) (t ∷ ts))
    by_word true w =
        let first : n ≡ 0 = omega (arith, e, dropped_word bytes depth t ts w) in
        rw first (word w)
    by_word false w = by_group (drops_group bytes depth t ts) refl w

-- what is dropped is counted as dropped, and is something
dropped_count : {bytes : List ℕ} {depth : ℕ} {stretch : List Token} (rest : List Token) → IsDropped bytes depth stretch → (dropped bytes depth (stretch ++ rest) ≡ length stretch) × (0 < length stretch)
dropped_count {bytes = bytes} {depth = depth} rest (word {t = t} w) = (dropped_word bytes depth t rest w, omega arith)
dropped_count {bytes = bytes} {depth = depth} rest (attribute {t = t} {group = g} other a is unchanged) =
    let count = group_count bytes g rest is in
    let drops : drops_group bytes depth t (g ++ rest) ≡ true = rw (count, take_front g rest, a, unchanged) refl in
    (dropped_group bytes depth t (g ++ rest) other ∙ ap (λ (c : Bool). cond c (one_more (group bytes (g ++ rest))) 0) drops ∙ ap one_more count ∙ one_group bytes g is, omega arith)
dropped_count {bytes = bytes} {depth = depth} rest (assembly {t = t} {group = g} other outer a is) =
    let count = group_count bytes g rest is in
    let drops : drops_group bytes depth t (g ++ rest) ≡ true = rw (outer, a) (or_right (is_attribute_word bytes t && not (list_any (is_changing_word bytes) (take (group bytes (g ++ rest)) (g ++ rest))))) in
    (dropped_group bytes depth t (g ++ rest) other ∙ ap (λ (c : Bool). cond c (one_more (group bytes (g ++ rest))) 0) drops ∙ ap one_more count ∙ one_group bytes g is, omega arith)

-- ---- all of the tokens

none_skimmed : (bytes : List ℕ) (depth : ℕ) → IsSkimmed bytes depth [] (kept bytes [] depth 0) (noted bytes [] depth 0)
unfolding kept noted
none_skimmed bytes depth = ends

-- the tokens from the first one on, where fewer tokens are skimmed
skim_step : (bytes : List ℕ) (t : Token) (ts : List Token) (depth : ℕ)
    → ((us : List Token) (at : ℕ) → length us ≤ length ts → IsSkimmed bytes at us (kept bytes us at 0) (noted bytes us at 0))
    → IsSkimmed bytes depth (t ∷ ts) (kept bytes (t ∷ ts) depth 0) (noted bytes (t ∷ ts) depth 0)
skim_step bytes t ts depth fewer = by_count (dropped bytes depth (t ∷ ts)) refl
  where
    none_dropped : dropped bytes depth (t ∷ ts) ≡ 0 → NoneDropped bytes depth (t ∷ ts)
    none_dropped e stretch rest same d =
        let k = dropped_count rest d in
        let none : length stretch ≡ 0 = sym k.0 ∙ ap (dropped bytes depth) (sym same) ∙ e in
        omega (arith, none, k.1)

    by_count : (n : ℕ) → dropped bytes depth (t ∷ ts) ≡ n → IsSkimmed bytes depth (t ∷ ts) (kept bytes (t ∷ ts) depth 0) (noted bytes (t ∷ ts) depth 0)
    by_count zero e =
        rw (kept_keep bytes t ts depth e, noted_keep bytes t ts depth e) (keeps (none_dropped e) (fewer ts (depth_behind bytes depth t) (omega arith)))
    by_count (suc n) e =
        let whole : take (suc n) (t ∷ ts) ++ drop n ts ≡ t ∷ ts = take-append-drop (suc n) (t ∷ ts) in
        let further = fewer (drop n ts) depth (shorter n ts) in
        rw (kept_drop bytes t ts depth n e, noted_drop bytes t ts depth n e)
        (subst (λ (us : List Token). IsSkimmed bytes depth us (kept bytes (drop n ts) depth 0) (note_of bytes depth (take (suc n) (t ∷ ts)) ++ noted bytes (drop n ts) depth 0)) whole
        (drops (is_dropped bytes depth n t ts e) further))

skimmed_with : (bytes : List ℕ) (fuel : ℕ) (ts : List Token) (depth : ℕ) → length ts ≤ fuel → IsSkimmed bytes depth ts (kept bytes ts depth 0) (noted bytes ts depth 0)
skimmed_with bytes fuel [] depth few = none_skimmed bytes depth
skimmed_with bytes zero (t ∷ ts) depth few = absurd (omega (arith, few))
skimmed_with bytes (suc fuel) (t ∷ ts) depth few = skim_step bytes t ts depth (λ us at less. skimmed_with bytes fuel us at (omega (arith, few, less)))

pub skimmed : (bytes : List ℕ) (ts : List Token) (depth : ℕ) → IsSkimmed bytes depth ts (kept bytes ts depth 0) (noted bytes ts depth 0)
skimmed bytes ts depth = skimmed_with bytes (length ts) ts depth (omega arith)

-- the token at the front of tokens of which no stretch is dropped
kept_count : (bytes : List ℕ) (depth : ℕ) (t : Token) (ts : List Token) → NoneDropped bytes depth (t ∷ ts) → dropped bytes depth (t ∷ ts) ≡ 0
kept_count bytes depth t ts none = by_count (dropped bytes depth (t ∷ ts)) refl
  where
    by_count : (n : ℕ) → dropped bytes depth (t ∷ ts) ≡ n → dropped bytes depth (t ∷ ts) ≡ 0
    by_count zero e = e
    by_count (suc n) e = absurd (none (take (suc n) (t ∷ ts)) (drop n ts) (sym (take-append-drop (suc n) (t ∷ ts))) (is_dropped bytes depth n t ts e))

Same : List ℕ → ℕ → List Token → List Token → List ℕ → Type 0
Same bytes depth ts kept_ts notes = (kept_ts ≡ kept bytes ts depth 0) × (notes ≡ noted bytes ts depth 0)

-- a stretch in front, which is dropped
same_behind : (bytes : List ℕ) (depth : ℕ) (stretch rest kept_ts : List Token) (notes : List ℕ) → dropped bytes depth (stretch ++ rest) ≡ length stretch → 0 < length stretch → Same bytes depth rest kept_ts notes
    → Same bytes depth (stretch ++ rest) kept_ts (note_of bytes depth stretch ++ notes)
unfolding Same
same_behind bytes depth [] rest kept_ts notes count some same = absurd (omega (arith, some))
same_behind bytes depth (t ∷ ts) rest kept_ts notes count some same =
    let k : kept bytes (t ∷ ts ++ rest) depth 0 ≡ kept bytes rest depth 0 = kept_drop bytes t (ts ++ rest) depth (length ts) count ∙ ap (λ (us : List Token). kept bytes us depth 0) (drop_front ts rest) in
    let n : noted bytes (t ∷ ts ++ rest) depth 0 ≡ note_of bytes depth (t ∷ ts) ++ noted bytes rest depth 0 =
    noted_drop bytes t (ts ++ rest) depth (length ts) count
    ∙ ap (λ (us : List Token). note_of bytes depth us ++ noted bytes (drop (length ts) (ts ++ rest)) depth 0) (take_front (t ∷ ts) rest)
    ∙ ap (λ (us : List Token). note_of bytes depth (t ∷ ts) ++ noted bytes us depth 0) (drop_front ts rest) in
    (same.0 ∙ sym k, ap (λ (ns : List ℕ). note_of bytes depth (t ∷ ts) ++ ns) same.1 ∙ sym n)

one_with : {bytes : List ℕ} {depth : ℕ} {ts kept_ts : List Token} {notes : List ℕ} → IsSkimmed bytes depth ts kept_ts notes → Same bytes depth ts kept_ts notes
unfolding Same kept noted
one_with ends = (refl, refl)
one_with {bytes = bytes} {depth = depth} (keeps {t = t} {ts = ts} none s) =
    let e = kept_count bytes depth t ts none in
    let further = one_with s in
    (ap (λ (us : List Token). t ∷ us) further.0 ∙ sym (kept_keep bytes t ts depth e), further.1 ∙ sym (noted_keep bytes t ts depth e))
one_with {bytes = bytes} {depth = depth} (drops {stretch = stretch} {rest = rest} {kept = kept_ts} {notes = notes} d s) =
    let k = dropped_count rest d in
    same_behind bytes depth stretch rest kept_ts notes k.0 k.1 (one_with s)

pub one_skimmed : (bytes : List ℕ) (depth : ℕ) (ts kept_ts : List Token) (notes : List ℕ) → IsSkimmed bytes depth ts kept_ts notes → (kept_ts ≡ kept bytes ts depth 0) × (notes ≡ noted bytes ts depth 0)
unfolding Same
one_skimmed bytes depth ts kept_ts notes s = one_with s
