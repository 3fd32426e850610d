-- What a statement makes of where a walk stands, and what a declaration does: each is walked under its guard, and a
-- jump leaves the guard false and is told to the statement that it leaves (C11 6.8).
use Rattle.std.specs.Prelude.{ℕ, ◌≡◌, Bool, true, false, ◌||◌, List, ◌++◌, length, ℤ, pos, get_or}
use Rattle.stk_meaning.specs.declared.entry.Entry.{Entry}
use Rattle.stk_meaning.specs.Typings.{is_among}
use Rattle.stk_meaning.specs.Worlds.{Ran, Went, Cut, Flow, Normal, Break, Continue, Return, restored}
use Rattle.stk_meaning.specs.Paths.{KeptNumbers}
use Rattle.stk_guarded.specs.Standing.{Standing, gone, IsOver, Ends}

-- registers that are the same but for some
pub record Alike (ks : List ℕ) (a b : List ℤ) : Type 0 where
  pub length : length a ≡ length b
  pub at : (i : ℕ) → is_among i ks ≡ false → get_or a i (pos 0) ≡ get_or b i (pos 0)

-- what left a statement by `break` or `continue`
pub record IsLeft (ks : List ℕ) (left_by skipped : Bool) (r : List ℤ) (m : KeptNumbers) (u : List Entry) (s t : Standing) : Type 0 where
  pub alive : t.alive ≡ false
  pub broken : t.broken ≡ left_by
  pub continued : t.continued ≡ skipped
  pub numbers : Alike ks t.numbers r
  pub kept : t.kept ≡ m
  pub entries : t.entries ≡ s.entries ++ u

-- what a statement makes of a standing that is alive, where the registers ks are those that it declares for what
-- follows it
abbrev pub FlowEnds : List ℕ → Ran Flow KeptNumbers → Standing → Standing → Type 0
FlowEnds ks (Went Normal r m u) s t = t ≡ gone r m u s
FlowEnds ks (Went Break r m u) s t = IsLeft ks true s.continued r m u s t
FlowEnds ks (Went Continue r m u) s t = IsLeft ks s.broken true r m u s t
FlowEnds ks (Went Return r m u) s t = IsOver u s t
FlowEnds ks (Cut u) s t = IsOver u s t

-- and of one that isn't: it may set the registers that it declares
pub record IsStill (ks : List ℕ) (s t : Standing) : Type 0 where
  pub alive : t.alive ≡ false
  pub broken : t.broken ≡ s.broken
  pub continued : t.continued ≡ s.continued
  pub numbers : Alike ks t.numbers s.numbers
  pub kept : t.kept ≡ s.kept
  pub entries : t.entries ≡ s.entries

-- a walk of a statement follows its run
pub record Flows (ks : List ℕ) (run : Ran Flow KeptNumbers) (s t : Standing) : Type 0 where
  pub on : s.alive ≡ true → FlowEnds ks run s t
  pub off : s.alive ≡ false → IsStill ks s t

-- what a declaration makes of a standing that is alive, and of one that isn't: it may set the registers that it
-- declares
pub record Declares {A : Type 0} (ks : List ℕ) (run : Ran A KeptNumbers) (v : A) (s t : Standing) : Type 0 where
  pub on : s.alive ≡ true → Ends run v s t
  pub off : s.alive ≡ false → IsStill ks s t

-- ---- jumps and scopes

-- where a `break` leaves the walk
abbrev pub breaking : Standing → Standing
breaking s = record { alive = false; broken = s.broken || s.alive; continued = s.continued; numbers = s.numbers; kept = s.kept; entries = s.entries }

-- and a `continue`
abbrev pub continuing : Standing → Standing
continuing s = record { alive = false; broken = s.broken; continued = s.continued || s.alive; numbers = s.numbers; kept = s.kept; entries = s.entries }

-- a scope gives back what it declares
abbrev pub given_back_to : List ℕ → List ℤ → Standing → Standing
given_back_to ks old s = record { alive = s.alive; broken = s.broken; continued = s.continued; numbers = restored ks old s.numbers; kept = s.kept; entries = s.entries }
