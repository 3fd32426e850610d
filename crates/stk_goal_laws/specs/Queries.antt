-- What a goal asks of the events of a walk, and what a query asks of the trace of a run (Wang, Zeldovich, Kaashoek,
-- Solar-Lezama, SOSP 2013, section 4.4).
use Rattle.std.specs.Prelude.{ℕ, ◌<◌, ◌≡◌, List, length, get_or}
use Rattle.stk_numbers.specs.declared.conditions.Candidate.{Candidate}
use Rattle.stk_numbers.specs.declared.conditions.Condition.{Condition}
use Rattle.stk_meaning.specs.declared.entry.Entry.{Entry}
use Rattle.stk_meaning.specs.Hits as runs
use Rattle.stk_event_laws.specs.Positions.{listed_events}
use Rattle.stk_symbols.specs.Goals as goals

-- the events that a trace says by the positions of a list are hit free, for a position, where the trace is for the
-- candidate there
abbrev pub GoalsAreOfQueries : Type 0
GoalsAreOfQueries =
    (cs : List Candidate) (set : List Condition) (j : ℕ) (d : Candidate) (trace : List Entry) → j < length cs →
    goals.is_hit_free set j (listed_events cs trace) ≡ runs.is_hit_free set (get_or cs j d) trace
