-- Where a walk over all branches stands at one input map, and what the evaluation of an expression makes of that: the
-- walk goes through both branches of each test, and its guard tells whether the run of the map has come to a place.
use Rattle.std.specs.Prelude.{◌≡◌, Bool, true, false, List, [], ◌++◌, ℤ, if◌then◌else◌}
use Rattle.stk_meaning.specs.declared.entry.Entry.{Entry}
use Rattle.stk_meaning.specs.Worlds.{Ran, Went, Cut}
use Rattle.stk_meaning.specs.Paths.{KeptNumbers}

-- Whether the run has come here; whether it has left the statement round this place by `break`, and by `continue`; the
-- numbers of the registers; what is kept; the entries so far.
pub record Standing : Type 0 where
  pub alive : Bool
  pub broken : Bool
  pub continued : Bool
  pub numbers : List ℤ
  pub kept : KeptNumbers
  pub entries : List Entry

-- a standing that is alive or not
abbrev pub live : Bool → Standing → Standing
live b s = record { alive = b; broken = s.broken; continued = s.continued; numbers = s.numbers; kept = s.kept; entries = s.entries }

-- entries of a run that has come here
abbrev pub added : List Entry → Standing → Standing
added t s = record { alive = s.alive; broken = s.broken; continued = s.continued; numbers = s.numbers; kept = s.kept; entries = s.entries ++ (if s.alive then t else []) }

-- registers and kept numbers of a run that has come here
abbrev pub moved_to : List ℤ → KeptNumbers → Standing → Standing
moved_to r m s = record { alive = s.alive; broken = s.broken; continued = s.continued; numbers = if s.alive then r else s.numbers; kept = if s.alive then m else s.kept; entries = s.entries }

-- where a run stands that went on
abbrev pub gone : List ℤ → KeptNumbers → List Entry → Standing → Standing
gone r m u s = record { alive = true; broken = s.broken; continued = s.continued; numbers = r; kept = m; entries = s.entries ++ u }

-- where nothing goes on, and nothing is said of registers and kept numbers
pub record IsOver (u : List Entry) (s t : Standing) : Type 0 where
  pub alive : t.alive ≡ false
  pub broken : t.broken ≡ s.broken
  pub continued : t.continued ≡ s.continued
  pub entries : t.entries ≡ s.entries ++ u

-- what an evaluation makes of a standing that is alive: it goes on with the run's value, registers, kept numbers and
-- entries, or is over
abbrev pub Ends : {A : Type 0} → Ran A KeptNumbers → A → Standing → Standing → Type 0
Ends (Went x r m u) v s t = (v ≡ x) × (t ≡ gone r m u s)
Ends (Cut u) v s t = IsOver u s t

-- and of one that isn't: nothing
pub record Goes {A : Type 0} (run : Ran A KeptNumbers) (v : A) (s t : Standing) : Type 0 where
  pub on : s.alive ≡ true → Ends run v s t
  pub off : s.alive ≡ false → t ≡ s
