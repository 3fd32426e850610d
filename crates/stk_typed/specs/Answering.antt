-- What is answered of a unit that is to be typed (C11 6.9.1).
use Rattle.std.specs.Prelude.{ℕ, ◌≡◌, Bool, true, false, not, nat_le, map, Result, Ok, Err}
use Rattle.std.specs.Global.{Vec}
use Rattle.stk_tree.specs.Syntax.{UnitTree}
use Rattle.stk_tree.specs.Nodes.{unit_nodes}
use Rattle.stk_type_rules.specs.declared.facts.NodeFact.{NodeFact}
use Rattle.stk_type_rules.specs.Facts.{Fact, fact_of}
use Rattle.stk_type_rules.specs.Outcome.{Outcome, Good, Refused}
use Rattle.stk_typed.specs.declared.untyped.Untyped.{Untyped}
use Rattle.stk_typed.specs.declared.untyped.Untyped.TheVariants.{Rule, Nodes, NoMemory}

-- so many nodes a function has at most
abbrev pub most_nodes : ℕ
most_nodes = 20000

-- whether a unit has more
abbrev pub has_many : UnitTree → Bool
has_many u = not (nat_le (unit_nodes u) most_nodes)

-- what comes of a unit with too many nodes or not, with this count, and what typing makes of it. Want of memory is a
-- free answer.
abbrev pub Answers : {T : Type 0} → Bool → ℕ → Outcome Fact → Result T Untyped → Type 0
Answers true count o (Ok t) = ⊥
Answers true count o (Err (Rule n r)) = ⊥
Answers true count o (Err (Nodes c)) = c ≡ count
Answers true count o (Err NoMemory) = Unit {0}
Answers false count (Good x facts) (Ok t) = Unit {0}
Answers false count (Good x facts) (Err (Rule n r)) = ⊥
Answers false count (Good x facts) (Err (Nodes c)) = ⊥
Answers false count (Good x facts) (Err NoMemory) = Unit {0}
Answers false count (Refused m s) (Ok t) = ⊥
Answers false count (Refused m s) (Err (Rule n r)) = (n ≡ m) × (r ≡ s)
Answers false count (Refused m s) (Err (Nodes c)) = ⊥
Answers false count (Refused m s) (Err NoMemory) = Unit {0}

-- these are the facts that typing gives
abbrev pub AreFacts : Outcome Fact → Result (Vec NodeFact) Untyped → Type 0
AreFacts (Good x t) (Ok facts) = map fact_of facts.items ≡ t
AreFacts (Good x t) (Err (Rule n r)) = ⊥
AreFacts (Good x t) (Err (Nodes c)) = ⊥
AreFacts (Good x t) (Err NoMemory) = Unit {0}
AreFacts (Refused m s) (Ok facts) = ⊥
AreFacts (Refused m s) (Err (Rule n r)) = (n ≡ m) × (r ≡ s)
AreFacts (Refused m s) (Err (Nodes c)) = ⊥
AreFacts (Refused m s) (Err NoMemory) = Unit {0}
