-- Where the body of a loop begins and where the loop ends, and what stands between two turns (C11 6.8.5).
use Rattle.std.specs.Prelude.{Bool, false, List, [], ℤ, if◌then◌else◌}
use Rattle.stk_meaning.specs.Worlds.{Ran, Cut, Flow, Normal, Turned, Another, Ended, and_then, gives}
use Rattle.stk_meaning.specs.Paths.{KeptNumbers}
use Rattle.stk_guarded.specs.Standing.{Standing}

-- where the body of a loop begins: nothing has left it yet
abbrev pub opened : Standing → Standing
opened s = record { alive = s.alive; broken = false; continued = false; numbers = s.numbers; kept = s.kept; entries = s.entries }

-- where a loop ends, which began at s
abbrev pub closed : Bool → Standing → Standing → Standing
closed b s t = record { alive = b; broken = s.broken; continued = s.continued; numbers = t.numbers; kept = t.kept; entries = t.entries }

-- no more turns
abbrev pub no_more : List ℤ → KeptNumbers → Ran Flow KeptNumbers
no_more r m = Cut []

-- what follows the body: another turn, where the test is true
abbrev pub turn_end : {A : Type 0} → (A → Bool) → (List ℤ → KeptNumbers → Ran A KeptNumbers) → List ℤ → KeptNumbers → Ran Turned KeptNumbers
turn_end q S r m = and_then (S r m) (λ x. gives (if q x then Another else Ended Normal))
