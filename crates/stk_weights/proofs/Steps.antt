-- What one more event changes in what is kept of registers.
use Rattle.std.proofs.Common.{ℕ, suc, ◌≡◌, ◌+◌, ◌-◌, ◌*◌, ◌^◌, ◌<◌, ◌≤◌, ◌==◌, min, Bool, true, false, if◌then◌else◌, List, [], ◌∷◌, length, get_or, set, take, refl, sym, ap, ◌∙◌, subst, arith, eqb-true}
use Rattle.std.specs.Prelude.{ltb}
use Rattle.std.specs.List.Sorted.{IsPartitionedBy, IsPartitionPoint}
use Rattle.std.proofs.lemmas.Bool.{ltb-true, ltb-false, lt-ltb, eqb-false}
use Rattle.std.proofs.lemmas.List.{get_or_default, get_or-take, get_or-set_same, get_or-set_other, length-set, length-take-le}
use Rattle.stk_weights.specs.declared.events.Event.{Event}
use Rattle.stk_weights.specs.declared.events.Event.TheVariants as event
use Rattle.stk_weights.specs.declared.counting.Register.{Register}
use Rattle.stk_weights.specs.Sums.{capped}
use Rattle.stk_weights.specs.Events.{Stand, stepped, passed}
use Rattle.stk_weights.specs.Counting.{nothing, count_in, last_in, times_in, AllBelow, total, passed_sum, IsMarked, IsCounting}

-- ---- the branches and loops that began before a place

-- one that began before it is among the first
first_of : (xs : List ℕ) (last m j : ℕ) → IsMarked xs last m → j < length xs → get_or xs j 0 < last → j < m
first_of xs last m j h there below = by (ltb j m) refl where
  by : (b : Bool) → ltb j m ≡ b → j < m
  by true e = ltb-true j m e
  by false e = let late : last ≤ get_or xs j 0 = h.behind j (ltb-false j m e) there in absurd (omega (arith, below, late))

pub partitioned : (xs : List ℕ) (last m : ℕ) → IsMarked xs last m → IsPartitionedBy (λ y. ltb y last) xs
partitioned xs last m h i j d order there e =
    let below : get_or xs j d < last = ltb-true (get_or xs j d) last e in
    let same : get_or xs j d ≡ get_or xs j 0 = get_or_default xs j d 0 there in
    let alike : get_or xs i d ≡ get_or xs i 0 = get_or_default xs i d 0 (omega (arith, order, there)) in
    let inside : j < m = first_of xs last m j h there (omega (arith, below, same)) in
    let early : get_or xs i 0 < last = h.before i (omega (arith, order, inside)) in
    lt-ltb (get_or xs i d) last (omega (arith, alike, early))

pub point_is : (xs : List ℕ) (last m i : ℕ) → i ≤ length xs → IsMarked xs last m → IsPartitionPoint (λ y. ltb y last ≡ true) (λ y. ltb y last ≡ false) xs i → i ≡ m
point_is xs last m i few h p = by (ltb i m) (ltb m i) refl refl where
  by : (a b : Bool) → ltb i m ≡ a → ltb m i ≡ b → i ≡ m
  by true b e f =
      let inside : i < m = ltb-true i m e in
      let early : get_or xs i 0 < last = h.before i inside in
      let late : last ≤ get_or xs i 0 = ltb-false (get_or xs i 0) last (p.1 i 0 (omega arith) (omega (arith, inside, h.few))) in
      absurd (omega (arith, early, late))
  by false true e f =
      let behind : m < i = ltb-true m i f in
      let late : last ≤ get_or xs m 0 = h.behind m (omega arith) (omega (arith, behind, few)) in
      let early : get_or xs m 0 < last = ltb-true (get_or xs m 0) last (p.0 m 0 (omega arith) behind) in
      absurd (omega (arith, early, late))
  by false false e f = omega (arith, ltb-false i m e, ltb-false m i f)

-- ---- one that ends
pub marked_end : (xs : List ℕ) (last m : ℕ) → IsMarked xs last m → IsMarked (take (length xs - 1) xs) last (min m (length xs - 1))
marked_end xs last m h =
    let size : length (take (length xs - 1) xs) ≡ length xs - 1 = length-take-le (length xs - 1) xs (omega arith) in
    record {
      few = omega (arith, size);
      before = λ j e. subst (λ n. n < last) (sym (get_or-take (length xs - 1) xs j 0 (omega (arith, e)))) (h.before j (omega (arith, e)));
      behind = λ j e f. subst (λ n. last ≤ n) (sym (get_or-take (length xs - 1) xs j 0 (omega (arith, f, size)))) (h.behind j (omega (arith, e, f, size)) (omega (arith, f, size)));
    }

pub ended : (rs : List ℕ) (es rest : List Event) (place : ℕ) (rows : List Register) (xs : List ℕ) (sum : ℕ) → IsCounting rs es (event.Ends ∷ rest) place rows xs sum → IsCounting rs es rest (place + 1) rows (take (length xs - 1) xs) sum
ended rs es rest place rows xs sum h =
    let size : length (take (length xs - 1) xs) ≡ length xs - 1 = length-take-le (length xs - 1) xs (omega arith) in
    record {
      each = h.each;
      marked = λ r. min (h.marked r) (length xs - 1);
      ahead = λ r e. h.ahead r e ∙ ap (λ n. passed r rest (record { depth = n; marked = min (h.marked r) (length xs - 1); sum = h.each r })) (sym size);
      stands = λ r e. marked_end xs (last_in rows r) (h.marked r) (h.stands r e);
      past = λ r e. omega (arith, h.past r e);
      opened = λ j e. subst (λ n. n ≤ place + 1) (sym (get_or-take (length xs - 1) xs j 0 (omega (arith, e, size)))) (omega (arith, h.opened j (omega (arith, e, size))));
      counted = h.counted;
      known = h.known;
      summed = h.summed;
    }

-- ---- a register that is assigned
all_marked : (xs : List ℕ) (place : ℕ) → ((j : ℕ) → j < length xs → get_or xs j 0 ≤ place) → IsMarked xs (place + 1) (length xs)
all_marked xs place h = record {
  few = omega arith;
  before = λ j e. omega (arith, h j e);
  behind = λ j e f. absurd (omega (arith, e, f));
}

abbrev gain_if : Bool → ℕ → ℕ
gain_if true x = x
gain_if false x = 0

more_times : (n x : ℕ) → suc n * x ≡ n * x + x
more_times n x = grind arith

one_more : (a x t u n : ℕ) (b : Bool) → t ≡ u + n * x → a + gain_if b x + t ≡ a + u + (if b then suc n else n) * x
one_more a x t u n true e = omega (arith, e, more_times n x)
one_more a x t u n false e = omega (arith, e)

times_cons : (k r : ℕ) (rs : List ℕ) (b : Bool) → (r == k) ≡ b → times_in k (r ∷ rs) ≡ (if (r == k) then suc (times_in k rs) else times_in k rs)
times_cons k r rs true e = rw e refl
times_cons k r rs false e = rw e refl

-- each number adds what it gains, so the sum has that once for each time that the number is there
total_more : (f : ℕ → ℕ) (k x : ℕ) (rs : List ℕ) → total (λ r. f r + gain_if (r == k) x) rs ≡ total f rs + times_in k rs * x
total_more f k x [] = omega arith
total_more f k x (r ∷ rs) =
    one_more (f r) x (total (λ r. f r + gain_if (r == k) x) rs) (total f rs) (times_in k rs) (r == k) (total_more f k x rs)
    ∙ ap (λ n. f r + total f rs + n * x) (sym (times_cons k r rs (r == k) refl))

none_here : (k r n : ℕ) (b : Bool) → (r == k) ≡ b → r < n → n ≤ k → b ≡ false
none_here k r n true e h f = let same : r ≡ k = eqb-true r k e in absurd (omega (arith, same, h, f))
none_here k r n false e h f = refl

none_of : (n k : ℕ) (rs : List ℕ) → AllBelow n rs → n ≤ k → times_in k rs ≡ 0
none_of n k [] h e = refl
none_of n k (r ∷ rs) h e = times_cons k r rs (r == k) refl ∙ ap (λ b. if b then suc (times_in k rs) else times_in k rs) (none_here k r n (r == k) refl h.0 e) ∙ none_of n k rs h.1 e

sum_more : (sum t p more : ℕ) → sum ≡ capped t → more ≡ capped p → min (sum + more) (2 ^ 64 - 1) ≡ capped (t + p)
sum_more sum t p more e f = omega (arith, e, f)

abbrev stand : ℕ → ℕ → ℕ → Stand
stand d m s = record { depth = d; marked = m; sum = s }

stand_same : (d m n s t : ℕ) → m ≡ n → s ≡ t → stand d m s ≡ stand d n t
stand_same d m n s t e f = rw (e, f) refl

abbrev traits_if : Bool → ℕ → ℕ → ℕ
traits_if b d m = if b then d else m

one_assigned : (k r d s : ℕ) (marked : ℕ → ℕ) (b : Bool) → (r == k) ≡ b → stepped r (event.Assigns k) (stand d (marked r) s) ≡ stand d (traits_if (r == k) d (marked r)) (s + gain_if (r == k) (d - marked k))
one_assigned k r d s marked true e =
    let same : r ≡ k = eqb-true r k e in
    rw e (stand_same d d d (s + (d - marked r)) (s + (d - marked k)) refl (ap (λ j. s + (d - marked j)) same))
one_assigned k r d s marked false e = rw e (stand_same d (marked r) (marked r) s (s + 0) refl (omega arith))

abbrev row_at : List Register → ℕ → ℕ → Register
row_at rows k place = record { count = count_in rows k; last = place + 1 }

-- of the register itself, and of another one
row_same : (rows : List Register) (k r place : ℕ) → r ≡ k → r < length rows → get_or (set rows k (row_at rows k place)) r nothing ≡ row_at rows k place
row_same rows k r place e h = ap (λ j. get_or (set rows k (row_at rows k place)) j nothing) e ∙ get_or-set_same rows k (row_at rows k place) nothing (omega (arith, e, h))

row_other : (rows : List Register) (k r place : ℕ) → (r == k) ≡ false → get_or (set rows k (row_at rows k place)) r nothing ≡ get_or rows r nothing
row_other rows k r place e = get_or-set_other rows k r (row_at rows k place) nothing (eqb-false r k e)

marked_row : (rows : List Register) (xs : List ℕ) (k r place m : ℕ) (b : Bool) → (r == k) ≡ b → r < length rows → ((j : ℕ) → j < length xs → get_or xs j 0 ≤ place) → IsMarked xs (last_in rows r) m → IsMarked xs (last_in (set rows k (row_at rows k place)) r) (traits_if (r == k) (length xs) m)
marked_row rows xs k r place m true e h opened old =
    rw (ap (λ (x : Register). x.last) (row_same rows k r place (eqb-true r k e) h), e) (all_marked xs place opened)
marked_row rows xs k r place m false e h opened old =
    rw (ap (λ (x : Register). x.last) (row_other rows k r place e), e) old

past_row : (rows : List Register) (k r place : ℕ) (b : Bool) → (r == k) ≡ b → r < length rows → last_in rows r ≤ place → last_in (set rows k (row_at rows k place)) r ≤ place + 1
past_row rows k r place true e h old = omega (arith, ap (λ (x : Register). x.last) (row_same rows k r place (eqb-true r k e) h))
past_row rows k r place false e h old = omega (arith, old, ap (λ (x : Register). x.last) (row_other rows k r place e))

count_row : (rows : List Register) (k r place : ℕ) (b : Bool) → (r == k) ≡ b → r < length rows → count_in (set rows k (row_at rows k place)) r ≡ count_in rows r
count_row rows k r place true e h = let same : r ≡ k = eqb-true r k e in ap (λ (x : Register). x.count) (row_same rows k r place same h) ∙ ap (λ j. count_in rows j) (sym same)
count_row rows k r place false e h = ap (λ (x : Register). x.count) (row_other rows k r place e)

zero_product : (x : ℕ) → 0 ≡ capped (0 * x)
zero_product x = omega arith

product_same : (a b x more : ℕ) → a ≡ b → more ≡ capped (a * x) → more ≡ capped (b * x)
product_same a b x more e f = f ∙ ap (λ n. capped (n * x)) e

pub assigned : (rs : List ℕ) (es rest : List Event) (k place : ℕ) (rows : List Register) (xs : List ℕ) (sum more : ℕ) → IsCounting rs es (event.Assigns k ∷ rest) place rows xs sum
    → ((m : ℕ) → k < length rows → IsMarked xs (last_in rows k) m → more ≡ capped (count_in rows k * (length xs - m))) → (length rows ≤ k → more ≡ 0)
    → IsCounting rs es rest (place + 1) (set rows k (row_at rows k place)) xs (min (sum + more) (2 ^ 64 - 1))
assigned rs es rest k place rows xs sum more h known unknown =
    let size : length (set rows k (row_at rows k place)) ≡ length rows = length-set rows k (row_at rows k place) in
    let gain = length xs - h.marked k in
    record {
      each = λ r. h.each r + gain_if (r == k) gain;
      marked = λ r. traits_if (r == k) (length xs) (h.marked r);
      ahead = λ r e. h.ahead r (omega (arith, e, size)) ∙ ap (λ x. passed r rest x) (one_assigned k r (length xs) (h.each r) h.marked (r == k) refl);
      stands = λ r e. marked_row rows xs k r place (h.marked r) (r == k) refl (omega (arith, e, size)) h.opened (h.stands r (omega (arith, e, size)));
      past = λ r e. past_row rows k r place (r == k) refl (omega (arith, e, size)) (h.past r (omega (arith, e, size)));
      opened = λ j e. omega (arith, h.opened j e);
      counted = λ r e. count_row rows k r place (r == k) refl (omega (arith, e, size)) ∙ h.counted r (omega (arith, e, size));
      known = subst (λ n. AllBelow n rs) (sym size) h.known;
      summed = sum_more sum (total h.each rs) (times_in k rs * gain) more h.summed (by (ltb k (length rows)) refl) ∙ ap capped (sym (total_more h.each k gain rs));
    }
  where
    by : (b : Bool) → ltb k (length rows) ≡ b → more ≡ capped (times_in k rs * (length xs - h.marked k))
    by true e =
        let there : k < length rows = ltb-true k (length rows) e in
        product_same (count_in rows k) (times_in k rs) (length xs - h.marked k) more (h.counted k there) (known (h.marked k) there (h.stands k there))
    by false e =
        let beyond : length rows ≤ k = ltb-false k (length rows) e in
        unknown beyond ∙ zero_product (length xs - h.marked k) ∙ ap (λ n. capped (n * (length xs - h.marked k))) (sym (none_of (length rows) k rs h.known beyond))

-- the same where the branches and loops are those of a slice
pub assigned_slice : (rs : List ℕ) (es rest : List Event) (k place : ℕ) (rows : List Register) (xs ys : List ℕ) (sum more : ℕ) → ys ≡ xs → IsCounting rs es (event.Assigns k ∷ rest) place rows xs sum
    → ((m : ℕ) → k < length rows → IsMarked ys (last_in rows k) m → more ≡ capped (count_in rows k * (length ys - m))) → (length rows ≤ k → more ≡ 0)
    → IsCounting rs es rest (place + 1) (set rows k (row_at rows k place)) xs (min (sum + more) (2 ^ 64 - 1))
assigned_slice rs es rest k place rows xs ys sum more e h known unknown =
    assigned rs es rest k place rows xs sum more h (λ m there traits. subst (λ zs. more ≡ capped (count_in rows k * (length zs - m))) e (known m there (subst (λ zs. IsMarked zs (last_in rows k) m) (sym e) traits))) unknown

-- ---- the beginning and the end of a walk
pub none_passed : (rs : List ℕ) (es : List Event) (rows : List Register) → ((r : ℕ) → count_in rows r ≡ times_in r rs) → ((r : ℕ) → last_in rows r ≡ 0) → AllBelow (length rows) rs → IsCounting rs es es 0 rows [] 0
none_passed rs es rows counts lasts known = record {
  each = λ r. 0;
  marked = λ r. 0;
  ahead = λ r e. refl;
  stands = λ r e. record { few = omega arith; before = λ j h. absurd (omega (arith, h)); behind = λ j h f. absurd (omega (arith, f)) };
  past = λ r e. omega (arith, lasts r);
  opened = λ j h. absurd (omega (arith, h));
  counted = λ r e. counts r;
  known = known;
  summed = nothing_summed rs;
}
  where
    all_none : (rs : List ℕ) → total (λ r. 0) rs ≡ 0
    all_none [] = refl
    all_none (r ∷ rs) = omega (arith, all_none rs)

    nothing_summed : (rs : List ℕ) → 0 ≡ capped (total (λ r. 0) rs)
    nothing_summed rs = let none : total (λ r. 0) rs ≡ 0 = all_none rs in omega (arith, none)

total_same : (f g : ℕ → ℕ) (n : ℕ) (rs : List ℕ) → AllBelow n rs → ((r : ℕ) → r < n → f r ≡ g r) → total f rs ≡ total g rs
total_same f g n [] h same = refl
total_same f g n (r ∷ rs) h same = omega (arith, same r h.0, total_same f g n rs h.1 same)

pub all_passed : (rs : List ℕ) (es : List Event) (place : ℕ) (rows : List Register) (xs : List ℕ) (sum : ℕ) → IsCounting rs es [] place rows xs sum → sum ≡ capped (total (passed_sum es) rs)
all_passed rs es place rows xs sum h =
    h.summed ∙ ap capped (sym (total_same (passed_sum es) h.each (length rows) rs h.known (λ r e. ap (λ (x : Stand). x.sum) (h.ahead r e))))
