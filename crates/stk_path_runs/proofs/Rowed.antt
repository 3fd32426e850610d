-- Rows of loops.
use Rattle.std.proofs.Common.{ℕ, zero, suc, ◌≡◌, ◌∙◌, ◌<◌, ◌≤◌, ◌+◌, Bool, true, false, nat_lt, ◌==◌, ◌||◌, ◌&&◌, arith, eqb-true, List, [], ◌∷◌, ◌++◌, length, map, get_or, set, refl, sym, ap, subst, Option, Some, None, ℤ, pos, append_assoc, append-nil}
use Rattle.std.specs.Prelude.{if◌then◌else◌, slice_get, option_and_then}
use Rattle.std.proofs.lemmas.Bool.{eqb-false, lt-ltb, ltb-true, ltb-false, le-ltb}
use Rattle.std.specs.Option.{option_map, is_some}
use Rattle.stk_tree.specs.Syntax.{StmtFormTree}
use Rattle.stk_tree.specs.Syntax as s
use Rattle.stk_meaning.specs.Places.{Setting}
use Rattle.stk_meaning.specs.Visits.{Visits, turn_visits}
use Rattle.stk_meaning.specs.Changes.{kept_spot, changes, assigned_in, forgotten_in}
use Rattle.stk_meaning.specs.Keys.{loop_key, KeyInfo}
use Rattle.stk_meaning.specs.Paths.{number_under, reset_all}
use Rattle.stk_function_types.specs.declared.visits.VisitForm.{VisitForm}
use Rattle.stk_function_types.specs.declared.visits.Visit as visit
use Rattle.stk_function_types.specs.Visits.{marked_visit, visit_in}
use Rattle.stk_function_types.specs.Gathered.{given}
use Rattle.stk_path_runs.specs.Places.{first_place, first_of, key_place, slot_in, number_in}
use Rattle.stk_path_runs.specs.Rows.{loop_slots, slots_set, forgets_in, IsRowOf, AreRowsOf, AddsRows, row_at, AreRowPlaces, form_loops, visit_loops, is_loop}
use Rattle.stk_path_runs.specs.declared.loop_rows.LoopSlot.{LoopSlot}
use Rattle.stk_path_runs.specs.declared.loop_rows.LoopRow.{LoopRow}
use Rattle.stk_path_runs.specs.declared.loop_rows.LoopRows.{LoopRows}
use Rattle.stk_path_runs.proofs.Placed.{first_place-push, number_under-in}
use Rattle.stk_path_runs.proofs.Far.{far_changes}

-- ---- one row
first_there : (o : Option ℕ) (p : ℕ) → is_some (first_of o p) ≡ true
first_there None p = refl
first_there (Some q) p = refl

-- a position that is noted, and one that isn't
pub position_noted : (position q : ℕ) (forgets : Bool) (o now : Option ℕ) → forgets ≡ true → now ≡ (if position == q then first_of o 0 else o) → is_some now ≡ ((position == q && forgets) || is_some o)
position_noted position q forgets o now h e = ap is_some e ∙ by (position == q) ∙ ap (λ b. (position == q && b) || is_some o) (sym h)
  where
    by : (b : Bool) → is_some (if b then first_of o 0 else o) ≡ ((b && true) || is_some o)
    by true = first_there o 0
    by false = refl

pub position_left : (position q : ℕ) (forgets : Bool) (o : Option ℕ) → forgets ≡ false → is_some o ≡ ((position == q && forgets) || is_some o)
position_left position q forgets o h = by (position == q) ∙ ap (λ b. (position == q && b) || is_some o) (sym h)
  where
    by : (b : Bool) → is_some o ≡ ((b && false) || is_some o)
    by true = refl
    by false = refl

or-false : (b : Bool) → (b || false) ≡ b
or-false true = refl
or-false false = refl

-- the positions below one more
pub one_position : (forgets : ℕ → Bool) (n q : ℕ) (before now : Bool) → before ≡ (nat_lt q n && forgets q) → now ≡ ((n == q && forgets n) || before) → now ≡ (nat_lt q (n + 1) && forgets q)
one_position forgets n q before now old e = e ∙ ap (λ b. (n == q && forgets n) || b) old ∙ by (n == q) refl
  where
    by : (b : Bool) → (n == q) ≡ b → ((b && forgets n) || (nat_lt q n && forgets q)) ≡ (nat_lt q (n + 1) && forgets q)
    by true h =
        let same : n ≡ q = eqb-true n q h in
        let not_below : nat_lt q n ≡ false = (let le : n ≤ q = omega arith in le-ltb q n le) in
        let below : nat_lt q (n + 1) ≡ true = (let lt : q < n + 1 = omega arith in lt-ltb q (n + 1) lt) in
        ap (λ b. (true && forgets n) || (b && forgets q)) not_below ∙ or-false (forgets n) ∙ ap forgets same ∙ sym (ap (λ b. b && forgets q) below)
    by false h = ap (λ b. b && forgets q) (by_order (nat_lt q n) refl)
      where
        by_order : (c : Bool) → nat_lt q n ≡ c → nat_lt q n ≡ nat_lt q (n + 1)
        by_order true d = let lt : q < n + 1 = (let first : q < n = ltb-true q n d in omega arith) in d ∙ sym (lt-ltb q (n + 1) lt)
        by_order false d =
            let apart : n ≡ q → ⊥ = eqb-false n q h in
            let le : n ≤ q = ltb-false q n d in
            let more : n + 1 ≤ q = omega arith in
            d ∙ sym (le-ltb q (n + 1) more)

-- what a row has as changed is what the loop forgets
pub kept_exact : (g : Setting) (f : StmtFormTree) (each : Bool) (slots : ℕ → Bool) → length g.kept ≤ 32 → each ≡ forgotten_in g f 32 → (each ≡ false → (q : ℕ) → slots q ≡ (nat_lt q (length g.kept) && forgotten_in g f q)) → (q : ℕ) → (each || slots q) ≡ forgotten_in g f q
kept_exact g f each slots few e s q = by each refl
  where
    far : (p : ℕ) → length g.kept ≤ p → forgotten_in g f p ≡ true → (q : ℕ) → forgotten_in g f q ≡ true
    far p h t q = far_changes g (turn_visits g.typing f) p q h t

    by_place : (c : Bool) → nat_lt q (length g.kept) ≡ c → (b : Bool) → forgotten_in g f q ≡ b → each ≡ false → (c && b) ≡ b
    by_place true d b t h = refl
    by_place false d true t h =
        let le : length g.kept ≤ q = ltb-false q (length g.kept) d in
        let contrary : true ≡ false = sym (far q le t 32) ∙ sym e ∙ h in
        cc
    by_place false d false t h = refl

    by : (b : Bool) → each ≡ b → (b || slots q) ≡ forgotten_in g f q
    by true h = sym (far 32 few (sym e ∙ h) q)
    by false h =
        s h q ∙ (let whole = by_place (nat_lt q (length g.kept)) refl (forgotten_in g f q) refl h in whole)

pub row_from : (g : Setting) (keys : List KeyInfo) (k : ℕ) (f : StmtFormTree) (registers : List ℕ) (row : LoopRow)
    → length g.kept ≤ 32 → registers ≡ assigned_in g f
    → row.node ≡ k → row.registers.items ≡ loop_slots keys k registers → row.each_kept ≡ forgotten_in g f 32
    → (row.each_kept ≡ false → (q : ℕ) → is_some (slot_in row.kept q) ≡ (nat_lt q (length g.kept) && forgotten_in g f q))
    → IsRowOf g keys k f row
row_from g keys k f registers row few er en es ee ek = record {
  node = en;
  registers = es ∙ ap (loop_slots keys k) er;
  kept = kept_exact g f row.each_kept (λ q. is_some (slot_in row.kept q)) few ee ek;
}

-- registers that are set slot by slot are those that a loop sets
pub slots-reset : (keys : List KeyInfo) (xs : List ℤ) (k : ℕ) (js : List ℕ) (r : List ℤ) → slots_set (loop_slots keys k js) xs r ≡ reset_all (number_under keys xs) k js r
slots-reset keys xs k [] r = refl
slots-reset keys xs k (j ∷ js) r =
    slots-reset keys xs k js (set r j (number_in (key_place (loop_key k j) keys) xs)) ∙ ap (λ (z : ℤ). reset_all (number_under keys xs) k js (set r j z)) (sym (number_under-in keys xs (loop_key k j)))

-- ---- rows in order
pub are_rows-append : (g : Setting) (keys : List KeyInfo) (a b : List (ℕ × StmtFormTree)) (rs ss : List LoopRow) → AreRowsOf g keys a rs → AreRowsOf g keys b ss → AreRowsOf g keys (a ++ b) (rs ++ ss)
are_rows-append g keys [] b [] ss x y = y
are_rows-append g keys [] b (r ∷ rs) ss x y = absurd x
are_rows-append g keys (l ∷ a) b [] ss x y = absurd x
are_rows-append g keys (l ∷ a) b (r ∷ rs) ss x y = (x.0, are_rows-append g keys a b rs ss x.1 y)

pub adds_none : (g : Setting) (keys : List KeyInfo) (rs : List LoopRow) → AddsRows g keys [] rs rs
adds_none g keys rs = record { added = []; are = tt; is = sym (append-nil rs) }

pub adds_more : (g : Setting) (keys : List KeyInfo) (a b : List (ℕ × StmtFormTree)) (r0 r1 r2 : List LoopRow) → AddsRows g keys a r0 r1 → AddsRows g keys b r1 r2 → AddsRows g keys (a ++ b) r0 r2
adds_more g keys a b r0 r1 r2 x y = record {
  added = x.added ++ y.added;
  are = are_rows-append g keys a b x.added y.added x.are y.are;
  is = y.is ∙ ap (λ (rs : List LoopRow). rs ++ y.added) x.is ∙ append_assoc r0 x.added y.added;
}

loop_is : (k : ℕ) (f : StmtFormTree) → is_loop f ≡ true → form_loops k f ≡ (k, f) ∷ []
loop_is k (s.block ps) e = cc
loop_is k (s.expression_statement e1) e = cc
loop_is k (s.if_statement e1 x y) e = cc
loop_is k (s.switch_statement e1 ss) e = cc
loop_is k (s.while_statement e1 x) e = refl
loop_is k (s.do_statement x e1) e = refl
loop_is k (s.for_statement first test step x) e = refl
loop_is k s.break_statement e = cc
loop_is k s.continue_statement e = cc
loop_is k (s.return_statement e1) e = cc

loop_isnt : (k : ℕ) (f : StmtFormTree) → is_loop f ≡ false → form_loops k f ≡ []
loop_isnt k (s.block ps) e = refl
loop_isnt k (s.expression_statement e1) e = refl
loop_isnt k (s.if_statement e1 x y) e = refl
loop_isnt k (s.switch_statement e1 ss) e = refl
loop_isnt k (s.while_statement e1 x) e = cc
loop_isnt k (s.do_statement x e1) e = cc
loop_isnt k (s.for_statement first test step x) e = cc
loop_isnt k s.break_statement e = refl
loop_isnt k s.continue_statement e = refl
loop_isnt k (s.return_statement e1) e = refl

pub adds_one : (g : Setting) (keys : List KeyInfo) (k : ℕ) (f : StmtFormTree) (row : LoopRow) (r0 r1 : List LoopRow) → is_loop f ≡ true → IsRowOf g keys k f row → r1 ≡ r0 ++ row ∷ [] → AddsRows g keys (form_loops k f) r0 r1
adds_one g keys k f row r0 r1 e is same = subst (λ (ls : List (ℕ × StmtFormTree)). AddsRows g keys ls r0 r1) (sym (loop_is k f e)) (record { added = row ∷ []; are = (is, tt); is = same })

pub adds_nothing : (g : Setting) (keys : List KeyInfo) (k : ℕ) (f : StmtFormTree) (rs : List LoopRow) → is_loop f ≡ false → AddsRows g keys (form_loops k f) rs rs
adds_nothing g keys k f rs e = subst (λ (ls : List (ℕ × StmtFormTree)). AddsRows g keys ls rs rs) (sym (loop_isnt k f e)) (adds_none g keys rs)

-- the loops of a visit of the code
given_loops : (x : visit.Visit) (form : VisitForm) → x.is_evaluated ≡ true → x.form ≡ form → given visit_loops (marked_visit x) ≡ visit_loops (visit_in x.node form)
given_loops x form e h = ap (λ b. if b then visit_loops (visit_in x.node x.form) else []) e ∙ ap (λ y. visit_loops (visit_in x.node y)) h

pub adds_visit : (g : Setting) (keys : List KeyInfo) (x : visit.Visit) (form : VisitForm) (r0 r1 : List LoopRow) → x.is_evaluated ≡ true → x.form ≡ form → AddsRows g keys (visit_loops (visit_in x.node form)) r0 r1 → AddsRows g keys (given visit_loops (marked_visit x)) r0 r1
adds_visit g keys x form r0 r1 e h a = subst (λ (ls : List (ℕ × StmtFormTree)). AddsRows g keys ls r0 r1) (sym (given_loops x form e h)) a

pub adds_unevaluated : (g : Setting) (keys : List KeyInfo) (x : visit.Visit) (rs : List LoopRow) → x.is_evaluated ≡ false → AddsRows g keys (given visit_loops (marked_visit x)) rs rs
adds_unevaluated g keys x rs e = subst (λ (ls : List (ℕ × StmtFormTree)). AddsRows g keys ls rs rs) (sym (ap (λ b. if b then visit_loops (visit_in x.node x.form) else []) e)) (adds_none g keys rs)

-- ---- the row of a node
pub row_places-push : (old now : LoopRows) (row : LoopRow) (place : ℕ) → place ≡ length old.rows.items → now.rows.items ≡ old.rows.items ++ row ∷ [] → ((k : ℕ) → slot_in now.places k ≡ (if row.node == k then first_of (slot_in old.places k) place else slot_in old.places k)) → AreRowPlaces old → AreRowPlaces now
row_places-push old now row place count same puts h k =
    puts k
    ∙ ap (λ o. if row.node == k then first_of o place else o) (h k)
    ∙ ap (λ n. if row.node == k then first_of (first_place (λ (r : LoopRow). r.node == k) old.rows.items) n else first_place (λ (r : LoopRow). r.node == k) old.rows.items) count
    ∙ sym (first_place-push (λ (r : LoopRow). r.node == k) old.rows.items row)
    ∙ ap (first_place (λ (r : LoopRow). r.node == k)) (sym same)

later : (b : Bool) (o : Option ℕ) (r : LoopRow) (rs : List LoopRow) (t : Option LoopRow) → option_and_then (λ i. slice_get rs i) o ≡ t → option_and_then (λ i. slice_get (r ∷ rs) i) (if b then Some 0 else option_map suc o) ≡ (if b then Some r else t)
later true o r rs t h = refl
later false None r rs t h = h
later false (Some i) r rs t h = h

pub row_found : (k : ℕ) (rs : List LoopRow) → option_and_then (λ i. slice_get rs i) (first_place (λ (r : LoopRow). r.node == k) rs) ≡ row_at k rs
row_found k [] = refl
row_found k (r ∷ rs) = later (r.node == k) (first_place (λ (x : LoopRow). x.node == k) rs) r rs (row_at k rs) (row_found k rs)
