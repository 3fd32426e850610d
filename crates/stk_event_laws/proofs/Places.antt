-- The laws of positions.
use Rattle.std.proofs.Common.{◌≡◌, ℕ, zero, suc, ◌+◌, ◌<◌, Bool, true, false, not, List, [], ◌∷◌, ◌++◌, length, get_or, Option, Some, None, refl, sym, ap, ◌∙◌, subst, inl, inr, arith}
use Rattle.std.proofs.Math.Numerals.{one-add}
use Rattle.std.proofs.lemmas.List.{map-append}
use Rattle.std.specs.Prelude.{if◌then◌else◌, cond, map, filter}
use Rattle.stk_numbers.specs.declared.conditions.CandKind.{CandKind}
use Rattle.stk_numbers.specs.declared.conditions.CandKind.TheVariants.{Arm, AlwaysTrue, AlwaysFalse, Algebra}
use Rattle.stk_numbers.specs.declared.conditions.Candidate.{Candidate}
use Rattle.stk_meaning.specs.declared.entry.Entry.{Entry}
use Rattle.stk_meaning.specs.declared.entry.Entry.TheVariants.{Ub, Enter, Seen}
use Rattle.stk_meaning.specs.Lists.{candidate, candidates}
use Rattle.stk_meaning.specs.Hits.{hits, seen_hits, is_arm}
use Rattle.stk_run_laws.specs.Visits.{IsIn}
use Rattle.stk_run_laws.specs.Listed.{CandidateBefore, IsBeforeAll, AreInOrder}
use Rattle.stk_run_laws.proofs.Lists.{same_of, candidates_in_order}
use Rattle.stk_values.specs.Walks.{is_hit}
use Rattle.stk_walking.specs.declared.state.Event.TheVariants.{Hit}
use Rattle.stk_walking.specs.Events.{entry_events, events_of}
use Rattle.stk_event_laws.specs.Listed.{StandOnce}
use Rattle.stk_event_laws.specs.Positions.{same_candidate, position_in, hit_positions, listed_entry, listed_events, listed_event, TracesAreListed, CandidatesStandAtPositions}
use Rattle.stk_event_laws.proofs.Alike.{number_itself, candidate_is, candidate_itself, before_of, once_of}
use Rattle.stk_event_laws.proofs.EventLaws.{candidate_apart}

-- ---- where candidates stand

position_here : (c d : Candidate) (cs : List Candidate) → same_candidate d c ≡ true → position_in (d ∷ cs) c ≡ 0
position_here c d cs e = ap (λ b. cond (not b) (1 + position_in cs c) 0) e

position_behind : (c d : Candidate) (cs : List Candidate) → same_candidate d c ≡ false → position_in (d ∷ cs) c ≡ 1 + position_in cs c
position_behind c d cs e = ap (λ b. cond (not b) (1 + position_in cs c) 0) e

is_same : (c d : Candidate) → c ≡ d → same_candidate d c ≡ true
is_same c d e = subst (λ z. same_candidate d z ≡ true) (sym e) (candidate_itself d)

-- a candidate that stands behind another one isn't that one
position_later : (d : Candidate) (cs : List Candidate) → StandOnce (d ∷ cs) → (c : Candidate) → IsIn c cs → position_in (d ∷ cs) c ≡ 1 + position_in cs c
position_later d cs once c i = by (same_candidate d c) refl
  where
    by : (b : Bool) → same_candidate d c ≡ b → position_in (d ∷ cs) c ≡ 1 + position_in cs c
    by true e = absurd (once.0 (subst (λ z. IsIn z cs) (sym (candidate_is d c e)) i))
    by false e = position_behind c d cs e

first_step : (c d x : Candidate) (cs : List Candidate) (p : ℕ) → get_or cs p x ≡ c → get_or (d ∷ cs) (1 + p) x ≡ c
first_step c d x cs p e = rw one-add e

-- a candidate of a list stands at its position
pub record IsAt (cs : List Candidate) (c : Candidate) : Type 0 where
  pub within : position_in cs c < length cs
  pub there : (d : Candidate) → get_or cs (position_in cs c) d ≡ c

pub is_at : (cs : List Candidate) (c : Candidate) → IsIn c cs → IsAt cs c
is_at [] c i = absurd i
is_at (d ∷ cs) c i = by (same_candidate d c) refl (λ e. is_at cs c (rest i e))
  where
    rest : IsIn c (d ∷ cs) → same_candidate d c ≡ false → IsIn c cs
    rest (inl e) h = let t = is_same c d e in absurd cc
    rest (inr j) h = j

    by : (b : Bool) → same_candidate d c ≡ b → (same_candidate d c ≡ false → IsAt cs c) → IsAt (d ∷ cs) c
    by true e more =
        let p = position_here c d cs e in
        record { within = rw p (omega arith); there = λ x. rw p (candidate_is d c e) }
    by false e more =
        let p = position_behind c d cs e in
        let m = more e in
        let l = m.within in
        record { within = rw p (omega arith); there = λ x. rw p (first_step c d x cs (position_in cs c) (m.there x)) }

get_in : (cs : List Candidate) (i : ℕ) (d : Candidate) → i < length cs → IsIn (get_or cs i d) cs
get_in [] i d h = absurd (omega arith)
get_in (c ∷ cs) zero d h = inl refl
get_in (c ∷ cs) (suc i) d h = inr (get_in cs i d (omega arith))

only_one : (cs : List Candidate) → StandOnce cs → (j : ℕ) (d : Candidate) → j < length cs → position_in cs (get_or cs j d) ≡ j
only_one [] once j d h = absurd (omega arith)
only_one (c ∷ cs) once zero d h = position_here c c cs (candidate_itself c)
only_one (c ∷ cs) once (suc i) d h =
    let less : i < length cs = omega arith in
    let later = position_later c cs once (get_or cs i d) (get_in cs i d less) in
    let rest = only_one cs once.1 i d less in
    later ∙ (ap (λ n. 1 + n) rest ∙ one-add i)

pub candidates_at_positions : CandidatesStandAtPositions
candidates_at_positions ty f numbered =
    let once = once_of CandidateBefore candidate_apart (candidates ty f) (candidates_in_order ty f numbered) in
    record {
      within = λ c i. (is_at (candidates ty f) c i).within;
      there = λ c d i. (is_at (candidates ty f) c i).there d;
      only = λ j d h. only_one (candidates ty f) once j d h;
    }

-- ---- lists that are filtered

record Passes {A : Type 0} (p : A → Bool) (xs : List A) (x : A) : Type 0 where
  there : IsIn x xs
  passes : p x ≡ true

in_filter : {A : Type 0} (p : A → Bool) (xs : List A) (x : A) → IsIn x (filter p xs) → Passes p xs x
in_filter p [] x i = absurd i
in_filter p (y ∷ ys) x i = by (p y) refl i (λ j. in_filter p ys x j)
  where
    by : (b : Bool) → p y ≡ b → IsIn x (if b then y ∷ filter p ys else filter p ys) → (IsIn x (filter p ys) → Passes p ys x) → Passes p (y ∷ ys) x
    by true e (inl h) more = record { there = inl h; passes = ap p h ∙ e }
    by true e (inr h) more = let m = more h in record { there = inr m.there; passes = m.passes }
    by false e h more = let m = more h in record { there = inr m.there; passes = m.passes }

filter_in : {A : Type 0} (p : A → Bool) (xs : List A) (x : A) → IsIn x xs → p x ≡ true → IsIn x (filter p xs)
filter_in p [] x i e = absurd i
filter_in p (y ∷ ys) x (inl h) e = subst (λ b. IsIn x (if b then y ∷ filter p ys else filter p ys)) (sym (ap p (sym h) ∙ e)) (inl h)
filter_in p (y ∷ ys) x (inr h) e = by (p y) (filter_in p ys x h e)
  where
    by : (b : Bool) → IsIn x (filter p ys) → IsIn x (if b then y ∷ filter p ys else filter p ys)
    by true i = inr i
    by false i = i

filter_before : {A : Type 0} (Before : A → A → Type 0) (p : A → Bool) (x : A) (ys : List A) → IsBeforeAll Before x ys → IsBeforeAll Before x (filter p ys)
filter_before Before p x [] h = tt
filter_before Before p x (y ∷ ys) h = by (p y) h.0 (filter_before Before p x ys h.1)
  where
    by : (b : Bool) → Before x y → IsBeforeAll Before x (filter p ys) → IsBeforeAll Before x (if b then y ∷ filter p ys else filter p ys)
    by true a i = (a, i)
    by false a i = i

filter_order : {A : Type 0} (Before : A → A → Type 0) (p : A → Bool) (xs : List A) → AreInOrder Before xs → AreInOrder Before (filter p xs)
filter_order Before p [] h = tt
filter_order Before p (x ∷ xs) h = by (p x) (filter_before Before p x xs h.0) (filter_order Before p xs h.1)
  where
    by : (b : Bool) → IsBeforeAll Before x (filter p xs) → AreInOrder Before (filter p xs) → AreInOrder Before (if b then x ∷ filter p xs else filter p xs)
    by true a i = (a, i)
    by false a i = i

-- two lists in order with the same elements are one
module _ {A : Type 0} (Before : A → A → Type 0) (apart : (x y : A) → Before x y → Before y x → ⊥) where
  first_same : (x y : A) (xs ys : List A) → IsBeforeAll Before x xs → IsBeforeAll Before y ys → IsIn x (y ∷ ys) → IsIn y (x ∷ xs) → x ≡ y
  first_same x y xs ys h k (inl e) j = e
  first_same x y xs ys h k (inr i) (inl e) = sym e
  first_same x y xs ys h k (inr i) (inr j) = absurd (apart x y (before_of Before x y xs h j) (before_of Before y x ys k i))

  rest_in : (x y z : A) (xs ys : List A) → x ≡ y → IsBeforeAll Before x xs → IsIn z xs → IsIn z (y ∷ ys) → IsIn z ys
  rest_in x y z xs ys e h i (inl same) = let own : Before x x = subst (Before x) (same ∙ sym e) (before_of Before x z xs h i) in absurd (apart x x own own)
  rest_in x y z xs ys e h i (inr j) = j

  same_ordered : (xs ys : List A) → AreInOrder Before xs → AreInOrder Before ys → ((x : A) → IsIn x xs → IsIn x ys) → ((x : A) → IsIn x ys → IsIn x xs) → xs ≡ ys
  same_ordered [] [] p q m n = refl
  same_ordered [] (y ∷ ys) p q m n = absurd (n y (inl refl))
  same_ordered (x ∷ xs) [] p q m n = absurd (m x (inl refl))
  same_ordered (x ∷ xs) (y ∷ ys) p q m n =
      let e = first_same x y xs ys p.0 q.0 (m x (inl refl)) (n y (inl refl)) in
      ap (λ z. z ∷ xs) e
      ∙ ap (λ zs. y ∷ zs) (same_ordered xs ys p.1 q.1 (λ z i. rest_in x y z xs ys e p.0 i (m z (inr i))) (λ z i. rest_in y x z ys xs (sym e) q.0 i (n z (inr i))))

map_same : {A B : Type 0} (f h : A → B) (xs : List A) → ((x : A) → IsIn x xs → f x ≡ h x) → map f xs ≡ map h xs
map_same f h [] same = refl
map_same f h (x ∷ xs) same = ap (λ y. y ∷ map f xs) (same x (inl refl)) ∙ ap (λ ys. h x ∷ ys) (map_same f h xs (λ y i. same y (inr i)))

-- ---- what an entry hits

candidates_apart : (x y : Candidate) → CandidateBefore x y → CandidateBefore y x → ⊥
candidates_apart x y (inl h) (inl k) = omega arith
candidates_apart x y (inl h) (inr k) = omega (arith, k.0)
candidates_apart x y (inr h) (inl k) = omega (arith, h.0)
candidates_apart x y (inr h) (inr k) = omega (arith, h.1, k.1)

-- the positions of those that an entry hits, from j on
hits_at : (cs : List Candidate) → StandOnce cs → (e : Entry) (j : ℕ) → hit_positions j cs e ≡ map (λ c. is_hit (j + position_in cs c)) (filter (λ c. hits c e) cs)
hits_at [] once e j = refl
hits_at (c ∷ cs) once e j = by (hits c e) (rest (hits_at cs once.1 e (j + 1)))
  where
    later : (d : Candidate) → IsIn d (filter (λ c. hits c e) cs) → is_hit (j + 1 + position_in cs d) ≡ is_hit (j + position_in (c ∷ cs) d)
    later d i =
        let p = position_later c cs once d (in_filter (λ c. hits c e) cs d i).there in
        let same : j + 1 + position_in cs d ≡ j + position_in (c ∷ cs) d = omega arith in
        ap (λ n. is_hit n) same

    rest : hit_positions (j + 1) cs e ≡ map (λ d. is_hit (j + 1 + position_in cs d)) (filter (λ c. hits c e) cs) → hit_positions (j + 1) cs e ≡ map (λ d. is_hit (j + position_in (c ∷ cs) d)) (filter (λ c. hits c e) cs)
    rest is = is ∙ map_same (λ d. is_hit (j + 1 + position_in cs d)) (λ d. is_hit (j + position_in (c ∷ cs) d)) (filter (λ c. hits c e) cs) later

    by : (b : Bool) → hit_positions (j + 1) cs e ≡ map (λ d. is_hit (j + position_in (c ∷ cs) d)) (filter (λ c. hits c e) cs) → (if b then is_hit j ∷ [] else []) ++ hit_positions (j + 1) cs e ≡ map (λ d. is_hit (j + position_in (c ∷ cs) d)) (if b then c ∷ filter (λ c. hits c e) cs else filter (λ c. hits c e) cs)
    by true more =
        let p = position_here c c cs (candidate_itself c) in
        let same : j ≡ j + position_in (c ∷ cs) c = omega arith in
        ap (λ n. is_hit n ∷ hit_positions (j + 1) cs e) same ∙ ap (λ t. is_hit (j + position_in (c ∷ cs) c) ∷ t) more
    by false more = more

-- all that may be candidates of a node
abbrev four : ℕ → List Candidate
four n = candidate n Arm ∷ candidate n AlwaysTrue ∷ candidate n AlwaysFalse ∷ candidate n Algebra ∷ []

four_order : (n : ℕ) → AreInOrder CandidateBefore (four n)
four_order n = ((inr (refl, omega arith), (inr (refl, omega arith), (inr (refl, omega arith), tt))), ((inr (refl, omega arith), (inr (refl, omega arith), tt)), ((inr (refl, omega arith), tt), (tt, tt))))

in_four : (n : ℕ) (kind : CandKind) → IsIn (candidate n kind) (four n)
in_four n Arm = inl refl
in_four n AlwaysTrue = inr (inl refl)
in_four n AlwaysFalse = inr (inr (inl refl))
in_four n Algebra = inr (inr (inr (inl refl)))

-- what an entry says are those that it hits among these
enter_says : (n : ℕ) → entry_events (Enter n) ≡ map (λ c. Hit c) (filter (λ c. hits c (Enter n)) (four n))
enter_says n = rw (number_itself n)

seen_says : (n : ℕ) (truth : Bool) (other : Option Bool) → entry_events (Seen n truth other) ≡ map (λ c. Hit c) (filter (λ c. hits c (Seen n truth other)) (four n))
seen_says n true None = rw (number_itself n)
seen_says n true (Some true) = rw (number_itself n)
seen_says n true (Some false) = rw (number_itself n)
seen_says n false None = rw (number_itself n)
seen_says n false (Some true) = rw (number_itself n)
seen_says n false (Some false) = rw (number_itself n)

map_hits : (cs xs : List Candidate) → map (λ c. is_hit (position_in cs c)) xs ≡ map (listed_event cs) (map (λ c. Hit c) xs)
map_hits cs [] = refl
map_hits cs (x ∷ xs) = ap (λ t. is_hit (position_in cs x) ∷ t) (map_hits cs xs)

module _ (cs : List Candidate) (order : AreInOrder CandidateBefore cs) where
  hits_said : (n : ℕ) (e : Entry) → entry_events e ≡ map (λ c. Hit c) (filter (λ c. hits c e) (four n)) → ((c : Candidate) → hits c e ≡ true → n ≡ c.node) → ((c : Candidate) → hits c e ≡ true → IsIn c cs) → hit_positions 0 cs e ≡ map (listed_event cs) (entry_events e)
  hits_said n e said at_node listed =
      let p = λ (c : Candidate). hits c e in
      let once = once_of CandidateBefore candidate_apart cs order in
      let same : filter p cs ≡ filter p (four n) =
      same_ordered CandidateBefore candidates_apart (filter p cs) (filter p (four n)) (filter_order CandidateBefore p cs order) (filter_order CandidateBefore p (four n) (four_order n))
      (λ c i. let f = in_filter p cs c i in filter_in p (four n) c (subst (λ k. IsIn c (four k)) (sym (at_node c f.passes)) (in_four c.node c.kind)) f.passes)
      (λ c i. let f = in_filter p (four n) c i in filter_in p cs c (listed c f.passes) f.passes) in
      hits_at cs once e 0
      ∙ (map_same (λ c. is_hit (0 + position_in cs c)) (λ c. is_hit (position_in cs c)) (filter p cs) (λ c i. let z : 0 + position_in cs c ≡ position_in cs c = omega arith in ap (λ k. is_hit k) z)
      ∙ (map_hits cs (filter p cs)
      ∙ (ap (λ xs. map (listed_event cs) (map (λ c. Hit c) xs)) same
      ∙ ap (λ xs. map (listed_event cs) xs) (sym said))))

  entry_said : (e : Entry) → ((c : Candidate) → hits c e ≡ true → IsIn c cs) → listed_entry cs e ≡ map (listed_event cs) (entry_events e)
  entry_said (Ub k) listed = refl
  entry_said (Enter n) listed = hits_said n (Enter n) (enter_says n) (λ c h. same_of n c.node (is_arm c.kind) h) listed
  entry_said (Seen n truth other) listed = hits_said n (Seen n truth other) (seen_says n truth other) (λ c h. same_of n c.node (seen_hits c.kind truth other) h) listed

  trace_said : (t : List Entry) → ((c : Candidate) (e : Entry) → IsIn e t → hits c e ≡ true → IsIn c cs) → listed_events cs t ≡ map (listed_event cs) (events_of t)
  trace_said [] listed = refl
  trace_said (e ∷ t) listed =
      ap (λ xs. xs ++ listed_events cs t) (entry_said e (λ c h. listed c e (inl refl) h))
      ∙ (ap (λ xs. map (listed_event cs) (entry_events e) ++ xs) (trace_said t (λ c d i h. listed c d (inr i) h))
      ∙ sym (map-append (listed_event cs) (entry_events e) (events_of t)))

pub traces_listed : TracesAreListed
traces_listed ty without f numbered trace listed = trace_said (candidates ty f) (candidates_in_order ty f numbered) trace listed.hit
