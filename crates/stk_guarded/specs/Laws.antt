-- How the walks of parts make the walk of a whole: one after another, in branches, in scopes, in the turns of a loop
-- and in the sections of a `switch`.
use Rattle.std.specs.Prelude.{ℕ, zero, suc, ◌≡◌, Bool, true, false, ◌&&◌, ◌||◌, not, List, [], ◌∷◌, ◌++◌, Option, None, Some, ℤ, get_or, set, if◌then◌else◌}
use Rattle.stk_meaning.specs.declared.entry.Entry.{Entry}
use Rattle.stk_meaning.specs.Worlds.{Ran, Went, Cut, Flow, Normal, Break, Continue, Return, Turned, Ended, and_then, gives, told, next, give_back, again, behind_body, left_switch}
use Rattle.stk_meaning.specs.Paths.{KeptNumbers, kept_or, forgotten_from}
use Rattle.stk_guarded.specs.Standing.{Standing, live, added, moved_to, Goes}
use Rattle.stk_guarded.specs.Statements.{Flows, Declares, breaking, continuing, given_back_to}
use Rattle.stk_guarded.specs.Turns.{opened, closed, no_more, turn_end}
use Rattle.stk_guarded.specs.Sections.{begun, past, begins, is_first, behind_first, Falls}
use Rattle.stk_guarded.specs.Cells.{read_of, content, removed_from}

-- a part of a run, from registers and kept numbers
abbrev pub Part : Type 0 → Type 0
Part A = List ℤ → KeptNumbers → Ran A KeptNumbers

-- what follows a part starts where it ended, alive or not: expressions, statements, an expression before a statement,
-- and the declarations before a statement
pub record SequencesCompose : Type 0 where
  pub expressions : (run : Ran ℤ KeptNumbers) (rest : ℤ → Part ℤ) (x v : ℤ) (s t u : Standing) → Goes run x s t → Goes (rest x t.numbers t.kept) v t u → Goes (and_then run rest) v s u
  pub statements : (js ks : List ℕ) (run : Ran Flow KeptNumbers) (rest : Part Flow) (s t u : Standing) → Flows js run s t → Flows ks (rest t.numbers t.kept) t u → Flows (js ++ ks) (next run rest) s u
  pub valued : (ks : List ℕ) (run : Ran ℤ KeptNumbers) (rest : ℤ → Part Flow) (x : ℤ) (s t u : Standing) → Goes run x s t → Flows ks (rest x t.numbers t.kept) t u → Flows ks (and_then run rest) s u
  pub declared : (js ks : List ℕ) (run : Ran Flow KeptNumbers) (rest : Flow → Part Flow) (x : Flow) (s t u : Standing) → Declares js run x s t → Flows ks (rest x t.numbers t.kept) t u → Flows (js ++ ks) (and_then run rest) s u

-- both branches are walked one after the other, each under its guard, and nothing is merged; or one of them, where the
-- other does nothing
pub record BranchesCompose : Type 0 where
  pub either : (b : Bool) (one other : Part ℤ) (v w : ℤ) (s t u : Standing) → Goes (one s.numbers s.kept) v (live (s.alive && b) s) t → Goes (other t.numbers t.kept) w (live (s.alive && not b) t) u
      → Goes (if b then one s.numbers s.kept else other s.numbers s.kept) (if b then v else w) s (live (t.alive || u.alive) u)
  pub alone : (b : Bool) (one : Part ℤ) (v w : ℤ) (s t : Standing) → Goes (one s.numbers s.kept) v (live (s.alive && b) s) t
      → Goes (if b then one s.numbers s.kept else gives w s.numbers s.kept) (if b then v else w) s (live ((s.alive && not b) || t.alive) t)
  pub statements : (b : Bool) (one other : Part Flow) (s t u : Standing) → Flows [] (one s.numbers s.kept) (live (s.alive && b) s) t → Flows [] (other t.numbers t.kept) (live (s.alive && not b) t) u
      → Flows [] (if b then one s.numbers s.kept else other s.numbers s.kept) s (live (t.alive || u.alive) u)

-- a scope gives back the registers that it declares, also those that a dead declarator set
abbrev pub ScopesCompose : Type 0
ScopesCompose = (ks : List ℕ) (run : Ran Flow KeptNumbers) (s t : Standing) → Flows ks run s t → Flows [] (give_back ks s.numbers run) s (given_back_to ks s.numbers t)

-- a loop of one turn: it begins with registers and kept numbers of its own; a test stands before the turn; the body and
-- what follows it, where q tells whether another turn is asked for
pub record TurnsCompose : Type 0 where
  pub begins : (rest : Part Flow) (r : List ℤ) (m : KeptNumbers) (s t : Standing) → Flows [] (rest (moved_to r m s).numbers (moved_to r m s).kept) (moved_to r m s) t → Flows [] (rest r m) s t
  pub tested : (test : Ran ℤ KeptNumbers) (q : ℤ → Bool) (turn : Part Turned) (x : ℤ) (s t u : Standing) → Goes test x s t → Flows [] (again (turn t.numbers t.kept) no_more) (live (t.alive && q x) t) u
      → Flows [] (again (and_then test (λ y r m. if q y then turn r m else gives (Ended Normal) r m)) no_more) s (live ((t.alive && not (q x)) || u.alive) u)
  pub turned : (q : ℤ → Bool) (step : Part ℤ) (body : Part Flow) (y : ℤ) (s t u : Standing) → Flows [] (body s.numbers s.kept) (opened s) t → Goes (step t.numbers t.kept) y (live (t.alive || t.continued) t) u
      → Flows [] (again (behind_body (body s.numbers s.kept) (turn_end q step)) no_more) s (closed ((u.alive && not (q y)) || u.broken) s u)

-- the sections of a `switch` are walked once each, in their order; what falls into a section, or goes to it, is in it
pub record SectionsCompose : Type 0 where
  pub whole : (run : Ran Flow KeptNumbers) (s t : Standing) → Flows [] run (begun s) t → Flows [] (left_switch run) s (past s t)
  pub more : (first : Part Flow) (rest all : ℕ → Part Flow) (goes_to : Option ℕ) (s t u : Standing)
      → ((r : List ℤ) (m : KeptNumbers) → all zero r m ≡ next (first r m) (λ r m. rest zero r m)) → ((n : ℕ) (r : List ℤ) (m : KeptNumbers) → all (suc n) r m ≡ rest n r m)
      → (s.alive ≡ true → goes_to ≡ None)
      → Flows [] (first s.numbers s.kept) (live (s.alive || is_first goes_to) s) t → Falls rest (begins t.alive (behind_first goes_to)) t u → Falls all (begins s.alive goes_to) s u
  pub none : (rest : ℕ → Part Flow) (s : Standing) → ((n : ℕ) (r : List ℤ) (m : KeptNumbers) → rest n r m ≡ gives Normal r m) → Falls rest (begins s.alive None) s s

-- what stands alone: a value, a value behind entries, other registers and kept numbers, a cut, the jumps of C, and a
-- declarator's register, which is set without a guard
pub record StepsFollow : Type 0 where
  pub value : (x : ℤ) (s : Standing) → Goes (gives x s.numbers s.kept) x s s
  pub entries : (es : List Entry) (x : ℤ) (s : Standing) → Goes (Went x s.numbers s.kept es) x s (added es s)
  pub moves : (x : ℤ) (r : List ℤ) (m : KeptNumbers) (s : Standing) → Goes (Went x r m []) x s (moved_to r m s)
  pub cut : (x : ℤ) (s : Standing) → Goes (Cut []) x s (live false s)
  pub breaks : (s : Standing) → Flows [] (gives Break s.numbers s.kept) s (breaking s)
  pub continues : (s : Standing) → Flows [] (gives Continue s.numbers s.kept) s (continuing s)
  pub returns : (s : Standing) → Flows [] (gives Return s.numbers s.kept) s (live false s)
  pub register : (k : ℕ) (x : ℤ) (v : Flow) (s : Standing) → Declares (k ∷ []) (Went v (set s.numbers k x) s.kept []) v s (record s { numbers = set s.numbers k x })

-- a kept object under a guard: a read gives its number, or else the input's, which is kept then; what its bit and its
-- number say behind a read, a store and a removal; one object that is set, and those that a test names and that are
-- removed, where the guard is true
pub record KeptObjectsFollow : Type 0 where
  pub read : (q : ℕ) (y : ℤ) (s : Standing) → Goes (told (kept_or q y (get_or s.kept q None) s.kept) s.numbers) (read_of y (get_or s.kept q None)) s (moved_to s.numbers (set s.kept q (Some (read_of y (get_or s.kept q None)))) s)
  pub after_read : (b known : Bool) (number y : ℤ) → content (known || b) (if known then number else y) ≡ (if b then Some (read_of y (content known number)) else content known number)
  pub after_store : (b known : Bool) (number x : ℤ) → content (known || b) (if b then x else number) ≡ (if b then Some x else content known number)
  pub after_removal : (b known : Bool) (number : ℤ) → content (known && not b) number ≡ (if b then None else content known number)
  pub one_set : (b : Bool) (kept : KeptNumbers) (q : ℕ) (x : Option ℤ) → set kept q (if b then x else get_or kept q None) ≡ (if b then set kept q x else kept)
  pub removed : (i : ℕ) (b : Bool) (test : ℕ → Bool) (kept : KeptNumbers) → removed_from i b test kept ≡ (if b then forgotten_from i test kept else kept)
