-- What the calls of this crate answer, and what they leave of the names in force.
use Rattle.std.specs.Prelude.{◌≡◌, List, [], ◌∷◌, ◌++◌, Option, Some, None, Result, Ok, Err}
use Rattle.stk_ctype.specs.declared.symbol.NameEntry.{NameEntry}
use Rattle.stk_ctype.specs.Structs.{structs_of}
use Rattle.stk_ctype.specs.Sound.{Keeps}
use Rattle.stk_type_rules.specs.declared.untyped.Untyped.{Untyped}
use Rattle.stk_type_rules.specs.declared.untyped.Untyped.TheVariants.{Rule, NoMemory}
use Rattle.stk_type_rules.specs.Outcome.{Outcome, Good, Refused}

-- The code's answer is the outcome's: its value, or the node that is refused and the rule. Want of memory is a free
-- answer. The facts of the nodes aren't looked at.
abbrev pub Answers : {A V : Type 0} → (A → V → Type 0) → Outcome A → Result V Untyped → Type 0
Answers P (Good x t) (Ok v) = P x v
Answers P (Good x t) (Err (Rule n r)) = ⊥
Answers P (Good x t) (Err NoMemory) = Unit {0}
Answers P (Refused n r) (Ok v) = ⊥
Answers P (Refused n r) (Err (Rule m s)) = (m ≡ n) × (s ≡ r)
Answers P (Refused n r) (Err NoMemory) = Unit {0}

-- entries with some behind them, under which types that were sound stay so and keep their sizes
pub record Extends (old new : List NameEntry) : Type 0 where
  pub behind : List NameEntry
  pub is : new ≡ old ++ behind
  pub keeps : Keeps (structs_of old) (structs_of new)

-- the entry that is added, where one is
abbrev pub listed : Option NameEntry → List NameEntry
listed None = []
listed (Some e) = e ∷ []
