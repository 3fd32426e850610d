-- A table goes on by an entry of a run, and to the next run.
use Rattle.std.proofs.Common.{◌≡◌, ℕ, zero, suc, ◌≤◌, ◌<◌, ◌⊎◌, inl, inr, Bool, true, false, not, ◌&&◌, ◌==◌, List, [], ◌∷◌, ◌++◌, length, slice_get, Option, Some, None, refl, sym, ap, ◌∙◌, subst, arith, append_assoc, eqb-true}
use Rattle.std.proofs.lemmas.Option.{none-some}
use Rattle.std.proofs.lemmas.Bool.{true≢false, eq-eqb}
use Rattle.stk_numbers.specs.declared.conditions.CandKind.{CandKind}
use Rattle.stk_numbers.specs.declared.conditions.CandKind.TheVariants.{Arm, AlwaysTrue, AlwaysFalse, Algebra}
use Rattle.stk_numbers.specs.declared.conditions.Candidate.{Candidate}
use Rattle.stk_meaning.specs.declared.entry.Entry.{Entry}
use Rattle.stk_meaning.specs.declared.entry.Entry.TheVariants.{Ub, Enter, Seen}
use Rattle.stk_meaning.specs.Hits.{hits, is_arm, seen_hits, differs}
use Rattle.stk_hits.specs.declared.hit_table.Hit.{Hit}
use Rattle.stk_hits.specs.declared.hit_table.Step.{Step}
use Rattle.stk_hits.specs.declared.condition_ids.ConditionId.{ConditionId}
use Rattle.stk_hits.specs.ConditionIds.{entry_condition_ids, condition_ids_of}
use Rattle.stk_hits.specs.Tables.{Table, IsNumberOf, nothing, Stands, hit_of, IsHitOf, IsTold, Describes}
use Rattle.stk_hits.specs.Recording.{seen_kind, plain_hit, replaced_at, replaced_hit, noted, noted_of, KeepsSteps, GoesOn}
use Rattle.stk_hits.proofs.Numbers.{some_one, stays}
use Rattle.stk_hits.proofs.Noting.{keeps, comes, has}

-- ---- which candidates an entry hits

and_both : (a b : Bool) → a && b ≡ true → (a ≡ true) × (b ≡ true)
and_both true b e = (refl, e)
and_both false b e = absurd cc

-- an entry hits no candidate but these two
pub one_of_both : (c : Candidate) (e : Entry) → hits c e ≡ true → (plain_hit e ≡ Some c) ⊎ (replaced_hit e ≡ Some c)
one_of_both c (Ub k) h = absurd (true≢false (sym h))
one_of_both c (Enter n) h =
    let both = and_both (n == c.node) _ h in
    inl (by c.kind both.1 refl (eqb-true _ _ both.0))
  where
    by : (k : CandKind) → is_arm k ≡ true → c.kind ≡ k → n ≡ c.node → Some (record { node = n; kind = Arm }) ≡ Some c
    by Arm a is e = λ i. Some (record { node = e i; kind = sym is i })
    by AlwaysTrue a is e = absurd (true≢false (sym a))
    by AlwaysFalse a is e = absurd (true≢false (sym a))
    by Algebra a is e = absurd (true≢false (sym a))
one_of_both c (Seen n truth other) h =
    let both = and_both (n == c.node) _ h in
    by c.kind truth both.1 refl (eqb-true _ _ both.0)
  where
    by : (k : CandKind) (t : Bool) → seen_hits k t other ≡ true → c.kind ≡ k → n ≡ c.node → (Some (record { node = n; kind = seen_kind t }) ≡ Some c) ⊎ (replaced_at n (differs t other) ≡ Some c)
    by Arm t a is e = absurd (true≢false (sym a))
    by AlwaysTrue true a is e = absurd (true≢false (sym a))
    by AlwaysTrue false a is e = inl (λ i. Some (record { node = e i; kind = sym is i }))
    by AlwaysFalse true a is e = inl (λ i. Some (record { node = e i; kind = sym is i }))
    by AlwaysFalse false a is e = absurd (true≢false (sym a))
    by Algebra t a is e = inr (ap (replaced_at n) a ∙ (λ i. Some (record { node = e i; kind = sym is i })))

same_node : (n : ℕ) → n == n ≡ true
same_node n = eq-eqb n n refl

-- and it hits both
pub plain_hits : (c : Candidate) (e : Entry) → plain_hit e ≡ Some c → hits c e ≡ true
plain_hits c (Ub k) h = absurd (none-some _ h)
plain_hits c (Enter n) h = subst (λ d. hits d (Enter n) ≡ true) (some_one h) (ap (λ b. b && true) (same_node n))
plain_hits c (Seen n true other) h = subst (λ d. hits d (Seen n true other) ≡ true) (some_one h) (ap (λ b. b && true) (same_node n))
plain_hits c (Seen n false other) h = subst (λ d. hits d (Seen n false other) ≡ true) (some_one h) (ap (λ b. b && true) (same_node n))

pub replaced_hits : (c : Candidate) (e : Entry) → replaced_hit e ≡ Some c → hits c e ≡ true
replaced_hits c (Ub k) h = absurd (none-some _ h)
replaced_hits c (Enter n) h = absurd (none-some _ h)
replaced_hits c (Seen n truth other) h = by (differs truth other) refl h
  where
    by : (b : Bool) → differs truth other ≡ b → replaced_at n b ≡ Some c → hits c (Seen n truth other) ≡ true
    by true e h = subst (λ d. hits d (Seen n truth other) ≡ true) (some_one h) (ap (λ b. b && differs truth other) (same_node n) ∙ e)
    by false e h = absurd (none-some _ h)

-- ---- entries of longer runs

-- a list with one more at its end is cut before that one, or behind it
last_or_before : (a b c : List Entry) (x y : Entry) → a ++ x ∷ [] ≡ b ++ y ∷ c → ((a ≡ b) × (x ≡ y)) ⊎ ((d : List Entry) × (a ≡ b ++ y ∷ d))
last_or_before [] [] c x y e = inl (refl, head_of e)
  where
    head_of : {u v : List Entry} → x ∷ u ≡ y ∷ v → x ≡ y
    head_of h = cc
last_or_before [] (z ∷ b) c x y e = absurd (by b (tail_of e))
  where
    tail_of : {u v : List Entry} → x ∷ u ≡ z ∷ v → u ≡ v
    tail_of h = cc

    by : (b : List Entry) → [] ≡ b ++ y ∷ c → ⊥
    by [] h = cc
    by (w ∷ b) h = cc
last_or_before (w ∷ a) [] c x y e = inr (a, by e)
  where
    by : {u v : List Entry} → w ∷ u ≡ y ∷ v → w ∷ a ≡ y ∷ a
    by h = let same : w ≡ y = cc in ap (λ z. z ∷ a) same
last_or_before (w ∷ a) (z ∷ b) c x y e =
    elim (last_or_before a b c x y (tail_of e)) [ inl g ↦ inl (joined (head_of e) g.0, g.1) | inr g ↦ inr (g.0, joined (head_of e) g.1) ]
  where
    head_of : {u v : List Entry} → w ∷ u ≡ z ∷ v → w ≡ z
    head_of h = cc

    tail_of : {u v : List Entry} → w ∷ u ≡ z ∷ v → u ≡ v
    tail_of h = cc

    joined : {u v : List Entry} → w ≡ z → u ≡ v → w ∷ u ≡ z ∷ v
    joined p q = λ i. p i ∷ q i

-- what stands in the part of a run stands in a longer part
pub longer : {runs : List (Option (List Entry))} {begun before : List Entry} {f : ℕ} {x : Entry} (e : Entry) → Stands runs begun f before x → Stands runs (begun ++ e ∷ []) f before x
longer {runs = runs} {begun = begun} {before = before} {f = f} {x = x} e s = elim s.is [
  | inl g ↦ record { behind = s.behind; is = inl g }
  | inr g ↦ record { behind = s.behind ++ e ∷ []; is = inr (g.0, ap (λ t. t ++ e ∷ []) g.1 ∙ append_assoc before (x ∷ s.behind) (e ∷ [])) }
]

hit_longer : {runs : List (Option (List Entry))} {begun : List Entry} {steps : List Step} {h : Hit} {f : ℕ} (e : Entry) → IsHitOf runs begun steps h f → IsHitOf runs (begun ++ e ∷ []) steps h f
hit_longer e x = record { candidate = x.candidate; before = x.before; entry = x.entry; stands = longer e x.stands; hit = x.hit; set = x.set; is = x.is; set_is = x.set_is }

-- the last entry of a part that has been begun
pub last : (runs : List (Option (List Entry))) (begun : List Entry) (e : Entry) → Stands runs (begun ++ e ∷ []) (length runs) begun e
last runs begun e = record { behind = []; is = inr (refl, refl) }

-- ---- hits that come in

-- the hits of a table, of the first runs and a part of the next one's, those of earlier runs first
pub record AreHits (runs : List (Option (List Entry))) (begun : List Entry) (steps : List Step) (es : List (Hit × ℕ)) : Type 0 where
  pub sound : (j f : ℕ) (h : Hit) → slice_get es j ≡ Some (h, f) → IsHitOf runs begun steps h f
  pub ascending : (i j f g : ℕ) (h k : Hit) → i ≤ j → slice_get es i ≡ Some (h, f) → slice_get es j ≡ Some (k, g) → f ≤ g

-- a run's number is below that of the map behind the runs, or is it
bounded : (runs : List (Option (List Entry))) (f : ℕ) (x : Option (List Entry)) → slice_get runs f ≡ Some x → f < length runs
bounded [] f x h = absurd (none-some _ h)
bounded (r ∷ rs) zero x h = omega arith
bounded (r ∷ rs) (suc f) x h = let b = bounded rs f x h in omega arith

pub at_most : {runs : List (Option (List Entry))} {begun before : List Entry} {f : ℕ} {x : Entry} → Stands runs begun f before x → f ≤ length runs
at_most {runs = runs} {f = f} s = elim s.is [ inl g ↦ (let b = bounded runs f _ g in omega arith) | inr g ↦ (let b = g.0 in omega arith) ]

abbrev run_of : Hit × ℕ → ℕ
run_of p = p.1

second : {h k : Hit} (f g : ℕ) → ◌≡◌ {A = Hit × ℕ} (h, f) (k, g) → f ≡ g
second f g e = ap run_of e

slice_below : (es : List (Hit × ℕ)) (j : ℕ) (x : Hit × ℕ) → slice_get es j ≡ Some x → j < length es
slice_below [] j x h = absurd (none-some _ h)
slice_below (e ∷ es) zero x h = omega arith
slice_below (e ∷ es) (suc j) x h = let b = slice_below es j x h in omega arith

pub with_hit : (runs : List (Option (List Entry))) (begun : List Entry) (steps : List Step) (es : List (Hit × ℕ)) (h : Hit) → AreHits runs begun steps es → IsHitOf runs begun steps h (length runs) → AreHits runs begun steps (noted es h (length runs))
with_hit runs begun steps es h are is = record {
  sound = λ j f k at. elim (comes es h (length runs) j (k, f) at) [
    | inl g ↦ are.sound j f k g
    | inr g ↦ subst (λ x. IsHitOf runs begun steps x.0 x.1) (sym g.1) is
  ];
  ascending = λ i j f g k l le at here. elim (comes es h (length runs) i (k, f) at) [
    | inl p ↦ elim (comes es h (length runs) j (l, g) here) [
      | inl q ↦ are.ascending i j f g k l le p q
      | inr q ↦ (let most = at_most (are.sound i f k p).stands in let same : g ≡ length runs = second g (length runs) q.1 in omega arith)
    ]
    | inr p ↦ elim (comes es h (length runs) j (l, g) here) [
      | inl q ↦ (let under = slice_below es j (l, g) q in let same : i ≡ length es = p.0 in absurd (omega arith))
      | inr q ↦ (let one : f ≡ length runs = second f (length runs) p.1 in let two : g ≡ length runs = second g (length runs) q.1 in omega arith)
    ]
  ];
}

-- a candidate that is told of stays so
abbrev pub table_of : List Step → List (Hit × ℕ) → Table
table_of steps es = record { steps = steps; hits = es }

pub told_behind : {steps : List Step} {es : List (Hit × ℕ)} {c : Candidate} {before : List Entry} {f : ℕ} (h : Hit) (n : ℕ) → IsTold (table_of steps es) c before f → IsTold (table_of steps (noted es h n)) c before f
told_behind {es = es} h n t = record { place = t.place; set = t.set; first = t.first; row = keeps es h n t.place _ t.row; set_is = t.set_is; early = t.early }

-- a hit that was noted is told of
pub told_now : (runs : List (Option (List Entry))) (begun part : List Entry) (steps : List Step) (es : List (Hit × ℕ)) (c : Candidate) (set : ℕ) → IsNumberOf steps set (condition_ids_of begun)
    → AreHits runs part steps (noted es (hit_of c set) (length runs)) → IsTold (table_of steps (noted es (hit_of c set) (length runs))) c begun (length runs)
told_now runs begun part steps es c set number are =
    let there = has es (hit_of c set) (length runs) in
    record { place = there.place; set = set; first = there.first; row = there.row; set_is = number; early = at_most (are.sound there.place there.first (hit_of c set) there.row).stands }

-- ---- the hits of one entry

-- what is known of hits behind one entry of the run with this number: the candidates so far that it hits are told of
pub record IsHalfway (runs : List (Option (List Entry))) (begun : List Entry) (e : Entry) (steps : List Step) (old es : List (Hit × ℕ)) : Type 0 where
  pub are : AreHits runs (begun ++ e ∷ []) steps es
  pub keep : {c : Candidate} {before : List Entry} {f : ℕ} → IsTold (table_of steps old) c before f → IsTold (table_of steps es) c before f

pub noting : (runs : List (Option (List Entry))) (begun : List Entry) (e : Entry) (steps : List Step) (old es : List (Hit × ℕ)) (c : Candidate) (set : ℕ) → IsNumberOf steps set (condition_ids_of begun) → hits c e ≡ true
    → IsHalfway runs begun e steps old es → IsHalfway runs begun e steps old (noted es (hit_of c set) (length runs))
noting runs begun e steps old es c set number hit half = record {
  are = with_hit runs (begun ++ e ∷ []) steps es (hit_of c set) half.are (record { candidate = c; before = begun; entry = e; stands = last runs begun e; hit = hit; set = set; is = refl; set_is = number });
  keep = λ t. told_behind (hit_of c set) (length runs) (half.keep t);
}

-- the same for a candidate that may be missing
pub noting_of : (runs : List (Option (List Entry))) (begun : List Entry) (e : Entry) (steps : List Step) (old es : List (Hit × ℕ)) (found : Option Candidate) (set : ℕ) → IsNumberOf steps set (condition_ids_of begun)
    → ((c : Candidate) → found ≡ Some c → hits c e ≡ true) → IsHalfway runs begun e steps old es → IsHalfway runs begun e steps old (noted_of es found set (length runs))
noting_of runs begun e steps old es None set number hit half = half
noting_of runs begun e steps old es (Some c) set number hit half = noting runs begun e steps old es c set number (hit c refl) half

-- and it is told of then
told_of : (runs : List (Option (List Entry))) (begun part : List Entry) (steps : List Step) (es : List (Hit × ℕ)) (found : Option Candidate) (c : Candidate) (set : ℕ) → IsNumberOf steps set (condition_ids_of begun)
    → found ≡ Some c → AreHits runs part steps (noted_of es found set (length runs)) → IsTold (table_of steps (noted_of es found set (length runs))) c begun (length runs)
told_of runs begun part steps es None c set number is are = absurd (none-some c is)
told_of runs begun part steps es (Some d) c set number is are =
    subst (λ x. IsTold (table_of steps (noted es (hit_of d set) (length runs))) x begun (length runs)) (some_one is) (told_now runs begun part steps es d set number are)

-- a table with these hits, over the same steps, describes the run as far as the entry
pub passed : (runs : List (Option (List Entry))) (begun : List Entry) (e : Entry) (t : Table) (set : ℕ) → Describes runs begun t → IsNumberOf t.steps set (condition_ids_of begun)
    → Describes runs (begun ++ e ∷ []) (table_of t.steps (noted_of (noted_of t.hits (plain_hit e) set (length runs)) (replaced_hit e) set (length runs)))
passed runs begun e t set d number =
    let n = length runs in
    let one = noted_of t.hits (plain_hit e) set n in
    let two = noted_of one (replaced_hit e) set n in
    let start : IsHalfway runs begun e t.steps t.hits t.hits = record {
      are = record { sound = λ j f h at. hit_longer e (d.sound j f h at); ascending = d.ascending };
      keep = λ x. x;
    } in
    let first : IsHalfway runs begun e t.steps t.hits one = noting_of runs begun e t.steps t.hits t.hits (plain_hit e) set number (λ c is. plain_hits c e is) start in
    let second : IsHalfway runs begun e t.steps t.hits two = noting_of runs begun e t.steps t.hits one (replaced_hit e) set number (λ c is. replaced_hits c e is) first in
    let later : IsHalfway runs begun e t.steps one two = noting_of runs begun e t.steps one one (replaced_hit e) set number (λ c is. replaced_hits c e is) (record { are = first.are; keep = λ x. x }) in
    record {
      sound = second.are.sound;
      ascending = second.are.ascending;
      complete = λ f before x c stands hit. elim stands.is [
        | inl g ↦ second.keep (d.complete f before x c (record { behind = stands.behind; is = inl g }) hit)
        | inr g ↦ elim (last_or_before begun before stands.behind e x g.1) [
          | inl h ↦ (
              let here : hits c e ≡ true = subst (λ u. hits c u ≡ true) (sym h.1) hit in
              let told : IsTold (table_of t.steps two) c begun n = elim (one_of_both c e here) [
                | inl p ↦ later.keep (told_of runs begun (begun ++ e ∷ []) t.steps t.hits (plain_hit e) c set number p first.are)
                | inr p ↦ told_of runs begun (begun ++ e ∷ []) t.steps one (replaced_hit e) c set number p second.are
              ] in
              subst (λ u. IsTold (table_of t.steps two) c before u) (sym g.0) (subst (λ u. IsTold (table_of t.steps two) c u n) h.0 told))
          | inr h ↦ second.keep (d.complete f before x c (record { behind = h.0; is = inr (g.0, h.1) }) hit)
        ]
      ];
    }

hit_over : {runs : List (Option (List Entry))} {begun : List Entry} {old new : List Step} {h : Hit} {f : ℕ} → ((j : ℕ) (s : Step) → slice_get old j ≡ Some s → slice_get new j ≡ Some s) → IsHitOf runs begun old h f → IsHitOf runs begun new h f
hit_over keep x = record { candidate = x.candidate; before = x.before; entry = x.entry; stands = x.stands; hit = x.hit; set = x.set; is = x.is; set_is = stays keep x.set_is }

-- more steps, with the same hits
pub with_steps : {runs : List (Option (List Entry))} {begun : List Entry} {old new : Table} → KeepsSteps old new → Describes runs begun old → Describes runs begun new
with_steps {runs = runs} {begun = begun} {old = old} {new = new} k d =
    let same : old.hits ≡ new.hits = sym k.hits in
    record {
      sound = λ j f h at. hit_over k.steps (d.sound j f h (ap (λ es. slice_get es j) same ∙ at));
      ascending = λ i j f g h l le at here. d.ascending i j f g h l le (ap (λ es. slice_get es i) same ∙ at) (ap (λ es. slice_get es j) same ∙ here);
      complete = λ f before x c stands hit.
          let t = d.complete f before x c stands hit in
          record { place = t.place; set = t.set; first = t.first; row = ap (λ es. slice_get es t.place) k.hits ∙ t.row; set_is = stays k.steps t.set_is; early = t.early };
    }

-- ---- whole runs

condition_ids_last : (t : List Entry) (e : Entry) → condition_ids_of (t ++ e ∷ []) ≡ condition_ids_of t ++ entry_condition_ids e
condition_ids_last [] e = by (entry_condition_ids e)
  where
    by : (ms : List ConditionId) → ms ++ [] ≡ ms
    by [] = refl
    by (m ∷ ms) = ap (λ u. m ∷ u) (by ms)
condition_ids_last (x ∷ t) e = ap (λ u. entry_condition_ids x ++ u) (condition_ids_last t e) ∙ sym (append_assoc (entry_condition_ids x) (condition_ids_of t) (entry_condition_ids e))

pub number_behind : {steps : List Step} {i : ℕ} (t : List Entry) (e : Entry) → IsNumberOf steps i (condition_ids_of t ++ entry_condition_ids e) → IsNumberOf steps i (condition_ids_of (t ++ e ∷ []))
number_behind {steps = steps} {i = i} t e n = subst (IsNumberOf steps i) (sym (condition_ids_last t e)) n

-- the runs with one more
get_before : (runs : List (Option (List Entry))) (last x : Option (List Entry)) (f : ℕ) → slice_get runs f ≡ Some x → slice_get (runs ++ last ∷ []) f ≡ Some x
get_before [] last x f h = absurd (none-some _ h)
get_before (r ∷ rs) last x zero h = h
get_before (r ∷ rs) last x (suc f) h = get_before rs last x f h

get_last : (runs : List (Option (List Entry))) (last : Option (List Entry)) → slice_get (runs ++ last ∷ []) (length runs) ≡ Some last
get_last [] last = refl
get_last (r ∷ rs) last = get_last rs last

get_either : (runs : List (Option (List Entry))) (last x : Option (List Entry)) (f : ℕ) → slice_get (runs ++ last ∷ []) f ≡ Some x → (slice_get runs f ≡ Some x) ⊎ ((f ≡ length runs) × (last ≡ x))
get_either [] last x zero h = inr (refl, some_one h)
get_either [] last x (suc f) h = absurd (none-some _ h)
get_either (r ∷ rs) last x zero h = inl h
get_either (r ∷ rs) last x (suc f) h = elim (get_either rs last x f h) [ inl g ↦ inl g | inr g ↦ inr (ap suc g.0, g.1) ]

pub none_here : (before behind : List Entry) (e : Entry) → [] ≡ before ++ e ∷ behind → ⊥
none_here [] behind e h = cc
none_here (x ∷ before) behind e h = cc

stands_whole : {runs : List (Option (List Entry))} {trace before : List Entry} {f : ℕ} {x : Entry} → Stands runs trace f before x → Stands (runs ++ Some trace ∷ []) [] f before x
stands_whole {runs = runs} {trace = trace} {before = before} {f = f} {x = x} s = elim s.is [
  | inl g ↦ record { behind = s.behind; is = inl (get_before runs (Some trace) _ f g) }
  | inr g ↦ record { behind = s.behind; is = inl (subst (λ u. slice_get (runs ++ Some trace ∷ []) u ≡ Some (Some (before ++ x ∷ s.behind))) (sym g.0) (get_last runs (Some trace) ∙ ap (λ u. Some (Some u)) g.1)) }
]

stands_part : {runs : List (Option (List Entry))} {trace before : List Entry} {f : ℕ} {x : Entry} → Stands (runs ++ Some trace ∷ []) [] f before x → Stands runs trace f before x
stands_part {runs = runs} {trace = trace} {before = before} {f = f} {x = x} s = elim s.is [
  | inl g ↦ elim (get_either runs (Some trace) _ f g) [
    | inl h ↦ record { behind = s.behind; is = inl h }
    | inr h ↦ record { behind = s.behind; is = inr (h.0, some_one h.1) }
  ]
  | inr g ↦ absurd (none_here _ _ _ g.1)
]

-- a run that has been passed whole is one of the runs
pub finished : (runs : List (Option (List Entry))) (trace : List Entry) (t : Table) → Describes runs trace t → Describes (runs ++ Some trace ∷ []) [] t
finished runs trace t d = record {
  sound = λ j f h at. let x = d.sound j f h at in record { candidate = x.candidate; before = x.before; entry = x.entry; stands = stands_whole x.stands; hit = x.hit; set = x.set; is = x.is; set_is = x.set_is };
  ascending = d.ascending;
  complete = λ f before x c stands hit. d.complete f before x c (stands_part stands) hit;
}

-- a map without a run
stands_more : {runs : List (Option (List Entry))} {before : List Entry} {f : ℕ} {x : Entry} → Stands runs [] f before x → Stands (runs ++ None ∷ []) [] f before x
stands_more {runs = runs} {f = f} s = elim s.is [
  | inl g ↦ record { behind = s.behind; is = inl (get_before runs None _ f g) }
  | inr g ↦ absurd (none_here _ _ _ g.1)
]

stands_fewer : {runs : List (Option (List Entry))} {before : List Entry} {f : ℕ} {x : Entry} → Stands (runs ++ None ∷ []) [] f before x → Stands runs [] f before x
stands_fewer {runs = runs} {f = f} s = elim s.is [
  | inl g ↦ elim (get_either runs None _ f g) [
    | inl h ↦ record { behind = s.behind; is = inl h }
    | inr h ↦ absurd (none-some _ h.1)
  ]
  | inr g ↦ absurd (none_here _ _ _ g.1)
]

pub skipped : (runs : List (Option (List Entry))) (t : Table) → Describes runs [] t → Describes (runs ++ None ∷ []) [] t
skipped runs t d = record {
  sound = λ j f h at. let x = d.sound j f h at in record { candidate = x.candidate; before = x.before; entry = x.entry; stands = stands_more x.stands; hit = x.hit; set = x.set; is = x.is; set_is = x.set_is };
  ascending = d.ascending;
  complete = λ f before x c stands hit. d.complete f before x c (stands_fewer stands) hit;
}

-- no runs
pub none_described : (steps : List Step) (es : List (Hit × ℕ)) → es ≡ [] → Describes [] [] (table_of steps es)
none_described steps es none = subst (λ u. Describes [] [] (table_of steps u)) (sym none) (record {
  sound = λ j f h at. absurd (none-some _ at);
  ascending = λ i j f g h k le at here. absurd (none-some _ at);
  complete = λ f before x c stands hit. elim stands.is [ inl g ↦ absurd (none-some _ g) | inr g ↦ absurd (none_here _ _ _ g.1) ];
})

-- one entry taken up, step by step
pub passed_on : (runs : List (Option (List Entry))) (begun : List Entry) (e : Entry) (old one two new : Table) (set n behind : ℕ) (plain other : Option Candidate) → Describes runs begun old → IsNumberOf old.steps set (condition_ids_of begun) → n ≡ length runs
    → one.steps ≡ old.steps → one.hits ≡ noted_of old.hits plain set n → two.steps ≡ one.steps → two.hits ≡ noted_of one.hits other set n → plain ≡ plain_hit e → other ≡ replaced_hit e → GoesOn two new set e behind
    → Describes runs (begun ++ e ∷ []) new × IsNumberOf new.steps behind (condition_ids_of (begun ++ e ∷ []))
passed_on runs begun e old one two new set n behind plain other d number is steps hits_one steps_two hits_two is_plain is_other goes =
    let all : two.steps ≡ old.steps = steps_two ∙ steps in
    let made : two.hits ≡ noted_of (noted_of old.hits (plain_hit e) set (length runs)) (replaced_hit e) set (length runs) =
    hits_two ∙ (ap (λ u. noted_of u other set n) (hits_one ∙ ap (λ u. noted_of old.hits u set n) is_plain) ∙ (ap (λ u. noted_of (noted_of old.hits (plain_hit e) set n) u set n) is_other ∙ ap (λ u. noted_of (noted_of old.hits (plain_hit e) set u) (replaced_hit e) set u) is)) in
    let whole : two ≡ table_of old.steps (noted_of (noted_of old.hits (plain_hit e) set (length runs)) (replaced_hit e) set (length runs)) = λ i. record { steps = all i; hits = made i } in
    let described : Describes runs (begun ++ e ∷ []) two = subst (λ t. Describes runs (begun ++ e ∷ []) t) (sym whole) (passed runs begun e old set d number) in
    (with_steps goes.keeps described, number_behind begun e (goes.is (condition_ids_of begun) (subst (λ s. IsNumberOf s set (condition_ids_of begun)) (sym all) number)))
