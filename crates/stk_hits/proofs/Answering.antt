-- What the first hit free of a set is.
use Rattle.std.proofs.Common.{◌≡◌, ℕ, zero, suc, ◌≤◌, ◌<◌, ◌+◌, ◌⊎◌, inl, inr, Bool, true, false, not, ◌&&◌, ◌||◌, nat_eq, List, [], ◌∷◌, ◌++◌, length, take, drop, slice_get, Option, Some, None, refl, sym, ap, ◌∙◌, subst, arith, if◌then◌else◌, eqb-true}
use Rattle.std.specs.List.{list_any}
use Rattle.std.proofs.lemmas.Option.{none-some}
use Rattle.std.proofs.lemmas.Bool.{true≢false, eq-eqb, cases_lt}
use Rattle.indexmap.specs.IndexSet.{contains}
use Rattle.stk_numbers.specs.declared.conditions.CandKind.{CandKind}
use Rattle.stk_numbers.specs.declared.conditions.CandKind.TheVariants.{Arm, AlwaysTrue, AlwaysFalse, Algebra}
use Rattle.stk_numbers.specs.declared.conditions.Candidate.{Candidate}
use Rattle.stk_numbers.specs.declared.conditions.Condition.{Condition}
use Rattle.stk_meaning.specs.declared.entry.Entry.{Entry}
use Rattle.stk_meaning.specs.declared.entry.Entry.TheVariants.{Ub, Enter, Seen}
use Rattle.stk_meaning.specs.Hits.{hits, has, breaks, free_of, HitsFree}
use Rattle.stk_hits.specs.declared.condition_ids.ConditionId.{ConditionId}
use Rattle.stk_hits.specs.declared.hit_table.Hit.{Hit}
use Rattle.stk_hits.specs.declared.hit_table.Row.{Row}
use Rattle.stk_hits.specs.declared.hit_table.Step.{Step}
use Rattle.stk_hits.specs.ConditionIds.{condition_id_of, kind_number, condition_ids_of}
use Rattle.stk_hits.specs.Tables.{Table, IsNumberOf, Stands, hit_of, IsHitOf, IsTold, Describes, is_of, rows_of}
use Rattle.stk_hits.specs.Queries.{IsTestOf, IsFree, NoneIsFree, IsFirstFree}
use Rattle.stk_hits.proofs.Numbers.{some_one}
use Rattle.stk_hits.proofs.Passing.{none_here}

-- entries are free of a set exactly where no condition_id of theirs passes its test
pub free_condition_ids : (test : ConditionId → Bool) (set : List Condition) → IsTestOf test set → (t : List Entry) → free_of set t ≡ not (list_any test (condition_ids_of t))
free_condition_ids test set is [] = refl
free_condition_ids test set is (Ub k ∷ t) = ap (λ b. not (has set k) && b) (free_condition_ids test set is t) ∙ (ap (λ b. not b && not (list_any test (condition_ids_of t))) (sym (is k)) ∙ by (test (condition_id_of k)) (list_any test (condition_ids_of t)))
  where
    by : (a b : Bool) → not a && not b ≡ not (a || b)
    by true b = refl
    by false b = refl
free_condition_ids test set is (Enter n ∷ t) = free_condition_ids test set is t
free_condition_ids test set is (Seen n truth other ∷ t) = free_condition_ids test set is t

-- ---- the rows of a candidate

-- a row is that of a hit of the table
pub record IsRow (c : Candidate) (es : List (Hit × ℕ)) (r : Row) : Type 0 where
  pub place : ℕ
  pub hit : Hit
  pub at : slice_get es place ≡ Some (hit, r.first)
  pub own : is_of c hit ≡ true
  pub set : hit.set ≡ r.set

row_behind : {c : Candidate} {es : List (Hit × ℕ)} {r : Row} (x : Hit × ℕ) → IsRow c es r → IsRow c (x ∷ es) r
row_behind x i = record { place = suc i.place; hit = i.hit; at = i.at; own = i.own; set = i.set }

pub row_is : (c : Candidate) (es : List (Hit × ℕ)) (j : ℕ) (r : Row) → slice_get (rows_of c es) j ≡ Some r → IsRow c es r
row_is c [] j r h = absurd (none-some _ h)
row_is c (x ∷ es) j r h = by (is_of c x.0) refl j h (λ k. row_is c es k r)
  where
    by : (b : Bool) → is_of c x.0 ≡ b → (j : ℕ) → slice_get (if b then record { set = x.0.set; first = x.1 } ∷ rows_of c es else rows_of c es) j ≡ Some r → ((k : ℕ) → slice_get (rows_of c es) k ≡ Some r → IsRow c es r) → IsRow c (x ∷ es) r
    by true own zero h rest = subst (IsRow c (x ∷ es)) (some_one h) (record { place = 0; hit = x.0; at = refl; own = own; set = refl })
    by true own (suc j) h rest = row_behind x (rest j h)
    by false own j h rest = row_behind x (rest j h)

-- a hit of the candidate has its row
pub record HasRow (c : Candidate) (es : List (Hit × ℕ)) (r : Row) : Type 0 where
  pub index : ℕ
  pub at : slice_get (rows_of c es) index ≡ Some r

pub has_row : (c : Candidate) (es : List (Hit × ℕ)) (place : ℕ) (h : Hit) (f : ℕ) → slice_get es place ≡ Some (h, f) → is_of c h ≡ true → HasRow c es (record { set = h.set; first = f })
has_row c [] place h f at own = absurd (none-some _ at)
has_row c (x ∷ es) zero h f at own = record { index = 0; at = by (is_of c x.0) (ap (λ p. is_of c p.0) (some_one at) ∙ own) }
  where
    by : (b : Bool) → b ≡ true → slice_get (if b then record { set = x.0.set; first = x.1 } ∷ rows_of c es else rows_of c es) 0 ≡ Some (record { set = h.set; first = f })
    by true e = ap (λ p. Some (record { set = p.0.set; first = p.1 })) (some_one at)
    by false e = absurd (true≢false (sym e))
has_row c (x ∷ es) (suc place) h f at own = by (is_of c x.0) refl (has_row c es place h f at own)
  where
    by : (b : Bool) → is_of c x.0 ≡ b → HasRow c es (record { set = h.set; first = f }) → HasRow c (x ∷ es) (record { set = h.set; first = f })
    by true e rest = record { index = suc rest.index; at = ap (λ b. slice_get (if b then record { set = x.0.set; first = x.1 } ∷ rows_of c es else rows_of c es) (suc rest.index)) e ∙ rest.at }
    by false e rest = record { index = rest.index; at = ap (λ b. slice_get (if b then record { set = x.0.set; first = x.1 } ∷ rows_of c es else rows_of c es) rest.index) e ∙ rest.at }

-- rows stand in the order of their hits
pub record InOrder (es : List (Hit × ℕ)) (r q : Row) : Type 0 where
  pub first : ℕ
  pub second : ℕ
  pub h : Hit
  pub k : Hit
  pub order : first ≤ second
  pub at_first : slice_get es first ≡ Some (h, r.first)
  pub at_second : slice_get es second ≡ Some (k, q.first)

later : {es : List (Hit × ℕ)} {r q : Row} (x : Hit × ℕ) → InOrder es r q → InOrder (x ∷ es) r q
later x o = record { first = suc o.first; second = suc o.second; h = o.h; k = o.k; order = (let l = o.order in omega arith); at_first = o.at_first; at_second = o.at_second }

abbrev row_at : Hit × ℕ → Row
row_at x = record { set = x.0.set; first = x.1 }

pub in_order : (c : Candidate) (es : List (Hit × ℕ)) (i j : ℕ) (r q : Row) → i ≤ j → slice_get (rows_of c es) i ≡ Some r → slice_get (rows_of c es) j ≡ Some q → InOrder es r q
in_order c [] i j r q le at here = absurd (none-some _ at)
in_order c (x ∷ es) i j r q le at here = by (is_of c x.0) i j le at here (λ a b. in_order c es a b r q)
  where
    by : (b : Bool) (i j : ℕ) → i ≤ j → slice_get (if b then row_at x ∷ rows_of c es else rows_of c es) i ≡ Some r → slice_get (if b then row_at x ∷ rows_of c es else rows_of c es) j ≡ Some q
        → ((a b : ℕ) → a ≤ b → slice_get (rows_of c es) a ≡ Some r → slice_get (rows_of c es) b ≡ Some q → InOrder es r q) → InOrder (x ∷ es) r q
    by true zero zero le at here rest = record { first = 0; second = 0; h = x.0; k = x.0; order = omega arith; at_first = ap (λ u. Some (x.0, u.first)) (some_one at); at_second = ap (λ u. Some (x.0, u.first)) (some_one here) }
    by true zero (suc j) le at here rest =
        let i = row_is c es j q here in
        record { first = 0; second = suc i.place; h = x.0; k = i.hit; order = omega arith; at_first = ap (λ u. Some (x.0, u.first)) (some_one at); at_second = i.at }
    by true (suc i) zero le at here rest = absurd (omega arith)
    by true (suc i) (suc j) le at here rest = later x (rest i j (omega arith) at here)
    by false i j le at here rest = later x (rest i j le at here)

-- ---- the first row that is free

-- the candidates at hand are one where their hits are
kind_at : ℕ → CandKind
kind_at k = if nat_eq k 1 then Arm else (if nat_eq k 2 then AlwaysTrue else (if nat_eq k 3 then AlwaysFalse else Algebra))

kind_back : (k : CandKind) → kind_at (kind_number k) ≡ k
unfolding kind_at
kind_back Arm = refl
kind_back AlwaysTrue = refl
kind_back AlwaysFalse = refl
kind_back Algebra = refl

and_both : (a b : Bool) → a && b ≡ true → (a ≡ true) × (b ≡ true)
and_both true b e = (refl, e)
and_both false b e = absurd cc

same_candidate : (c d : Candidate) (set : ℕ) → is_of c (hit_of d set) ≡ true → d ≡ c
same_candidate c d set h =
    let both = and_both (nat_eq d.node c.node) _ h in
    let node : d.node ≡ c.node = eqb-true _ _ both.0 in
    let number : kind_number d.kind ≡ kind_number c.kind = eqb-true _ _ both.1 in
    let kind : d.kind ≡ c.kind = sym (kind_back d.kind) ∙ (ap kind_at number ∙ kind_back c.kind) in
    λ i. record { node = node i; kind = kind i }

own_hit : (c : Candidate) (set : ℕ) → is_of c (hit_of c set) ≡ true
own_hit c set = ap (λ b. b && nat_eq (kind_number c.kind) (kind_number c.kind)) (eq-eqb c.node c.node refl) ∙ eq-eqb (kind_number c.kind) (kind_number c.kind) refl

-- whether a row's set has a condition that passes a test
abbrev pub Meets : List Step → (ConditionId → Bool) → Row → Bool → Type 0
Meets steps test r b = (ms : List ConditionId) → IsNumberOf steps r.set ms → b ≡ list_any test ms

-- all rows before an index have one
abbrev pub AllMeet : List Step → (ConditionId → Bool) → List Row → ℕ → Type 0
AllMeet steps test rows i = (k : ℕ) (r : Row) → k < i → slice_get rows k ≡ Some r → Meets steps test r true

-- what a run that is free has in the table: a row that has none, of its map or an earlier one
record IsFreeRow (t : Table) (test : ConditionId → Bool) (c : Candidate) (f : ℕ) : Type 0 where
  index : ℕ
  row : Row
  at : slice_get (rows_of c t.hits) index ≡ Some row
  condition_ids : List ConditionId
  number : IsNumberOf t.steps row.set condition_ids
  none : list_any test condition_ids ≡ false
  early : row.first ≤ f

not_true : (b : Bool) → not b ≡ true → b ≡ false
not_true true e = absurd cc
not_true false e = refl

module _ (runs : List (Option (List Entry))) (t : Table) (c : Candidate) (set : List Condition) (test : ConditionId → Bool) (d : Describes runs [] t) (is : IsTestOf test set) where
  free_row : (f : ℕ) → IsFree runs c set f → IsFreeRow t test c f
  free_row f free =
      let h = free.hits in
      let stands : Stands runs [] f h.before h.entry = record { behind = h.behind; is = inl (free.is ∙ ap (λ u. Some (Some u)) h.is) } in
      let told = d.complete f h.before h.entry c stands h.hit in
      let r = has_row c t.hits told.place (hit_of c told.set) told.first told.row (own_hit c told.set) in
      record {
        index = r.index;
        row = record { set = told.set; first = told.first };
        at = r.at;
        condition_ids = condition_ids_of h.before;
        number = told.set_is;
        none = not_true _ (sym (free_condition_ids test set is h.before) ∙ h.free);
        early = told.early;
      }

  -- no run is free where all rows have one
  pub none_free : (rows : List Row) (i : ℕ) → rows ≡ rows_of c t.hits → length rows ≤ i → AllMeet t.steps test rows i → NoneIsFree runs c set
  none_free rows i same all met f free =
      let r = free_row f free in
      let at : slice_get rows r.index ≡ Some r.row = ap (λ u. slice_get u r.index) same ∙ r.at in
      let under = row_below rows r.index r.row at in
      true≢false (met r.index r.row (omega arith) at r.condition_ids r.number ∙ r.none)
    where
      row_below : (rows : List Row) (j : ℕ) (x : Row) → slice_get rows j ≡ Some x → j < length rows
      row_below [] j x h = absurd (none-some _ h)
      row_below (y ∷ ys) zero x h = omega arith
      row_below (y ∷ ys) (suc j) x h = let b = row_below ys j x h in omega arith

  -- the first row that has none is that of the first run that is free
  pub first_free : (rows : List Row) (i : ℕ) (r : Row) → rows ≡ rows_of c t.hits → slice_get rows i ≡ Some r → AllMeet t.steps test rows i → Meets t.steps test r false → IsFirstFree runs c set r.first
  first_free rows i r same at met free =
      let here : slice_get (rows_of c t.hits) i ≡ Some r = ap (λ u. slice_get u i) (sym same) ∙ at in
      let row = row_is c t.hits i r here in
      let x = d.sound row.place r.first row.hit row.at in
      let candidate : x.candidate ≡ c = same_candidate c x.candidate x.set (subst (λ h. is_of c h ≡ true) x.is row.own) in
      let number : IsNumberOf t.steps r.set (condition_ids_of x.before) = subst (λ k. IsNumberOf t.steps k (condition_ids_of x.before)) (sym (ap (λ h. h.set) x.is) ∙ row.set) x.set_is in
      let none : list_any test (condition_ids_of x.before) ≡ false = sym (free (condition_ids_of x.before) number) in
      let hit : hits c x.entry ≡ true = subst (λ u. hits u x.entry ≡ true) candidate x.hit in
      record {
        free = elim x.stands.is [
          | inl g ↦ record { trace = x.before ++ x.entry ∷ x.stands.behind; is = g; hits = record { before = x.before; entry = x.entry; behind = x.stands.behind; is = refl; hit = hit; free = free_condition_ids test set is x.before ∙ ap not none } }
          | inr g ↦ absurd (none_here _ _ _ g.1)
        ];
        first = λ f lower other.
            let q = free_row f other in
            elim (cases_lt q.index i) [
              | inl less ↦ true≢false (met q.index q.row less (ap (λ u. slice_get u q.index) same ∙ q.at) q.condition_ids q.number ∙ q.none)
              | inr more ↦ (
                  let o = in_order c t.hits i q.index r q.row more here q.at in
                  let up = d.ascending o.first o.second r.first q.row.first o.h o.k o.order o.at_first o.at_second in
                  let early = q.early in
                  absurd (omega arith))
            ];
      }

-- the rows before an index and the one at it
pub one_more_meets : (steps : List Step) (test : ConditionId → Bool) (rows : List Row) (i : ℕ) (r : Row) → slice_get rows i ≡ Some r → AllMeet steps test rows i → Meets steps test r true → AllMeet steps test rows (i + 1)
one_more_meets steps test rows i r here met this k q less at = elim (cases_lt k i) [
  | inl before ↦ met k q before at
  | inr behind ↦ (
      let same : k ≡ i = omega arith in
      let one : r ≡ q = some_one (sym here ∙ (ap (slice_get rows) (sym same) ∙ at)) in
      subst (λ u. Meets steps test u true) one this)
]
