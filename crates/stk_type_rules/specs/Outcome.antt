-- What typing a part of a function gives: the first node that is refused with its rule, or a value and a fact for each
-- node in the order of the numbers.
use Rattle.std.specs.Prelude.{ℕ, ◌≡◌, ◌<◌, List, [], ◌∷◌, ◌++◌, length, Result, Ok, Err}
use Rattle.stk_type_rules.specs.declared.facts.NodeFact.{NodeFact}
use Rattle.stk_type_rules.specs.declared.untyped.Untyped.{Untyped}
use Rattle.stk_type_rules.specs.declared.untyped.Untyped.TheVariants.{Rule, NoMemory}
use Rattle.stk_type_rules.specs.declared.untyped.Broken.{Broken}
use Rattle.stk_type_rules.specs.declared.untyped.Broken.TheVariants as broken
use Rattle.stk_type_rules.specs.Facts.{Fact, fact_of, fact_at, Ruled, Breaks, Fits}

pub data Outcome (A : Type 0) : Type 0 where
  Good : A → List Fact → Outcome A
  Refused : ℕ → ℕ → Outcome A

-- facts that stand before an outcome's
abbrev pub after : {A : Type 0} → List Fact → Outcome A → Outcome A
after t (Good x u) = Good x (t ++ u)
after t (Refused n r) = Refused n r

-- one part after another
abbrev pub and_then : {A B : Type 0} → Outcome A → (A → Outcome B) → Outcome B
and_then (Good x t) f = after t (f x)
and_then (Refused n r) f = Refused n r

-- what a node's own rule makes of it
abbrev pub finish : ℕ → Ruled → Outcome Fact
finish n (Breaks r) = Refused n r
finish n (Fits x) = Good x (x ∷ [])

-- a fact stands at a place
pub record IsAt (facts : List Fact) (x : Fact) (i : ℕ) : Type 0 where
  pub below : i < length facts
  pub is : fact_at facts i ≡ x

-- The code's answer is the outcome's, and the facts were added. Want of memory is a free answer.
abbrev pub Gives : {A V : Type 0} → (A → V → Type 0) → Outcome A → Result V Untyped → List Fact → List Fact → Type 0
Gives P (Good x t) (Ok v) old new = (new ≡ old ++ t) × P x v
Gives P (Good x t) (Err (Rule n r)) old new = ⊥
Gives P (Good x t) (Err NoMemory) old new = Unit {0}
Gives P (Refused n r) (Ok v) old new = ⊥
Gives P (Refused n r) (Err (Rule m s)) old new = (m ≡ n) × (s ≡ r)
Gives P (Refused n r) (Err NoMemory) old new = Unit {0}

-- the code's answer is what the rule says
abbrev pub MakesFact : Ruled → Result NodeFact Broken → Type 0
MakesFact (Fits x) (Ok f) = fact_of f ≡ x
MakesFact (Fits x) (Err (broken.Rule r)) = ⊥
MakesFact (Fits x) (Err broken.NoMemory) = Unit {0}
MakesFact (Breaks r) (Ok f) = ⊥
MakesFact (Breaks r) (Err (broken.Rule s)) = s ≡ r
MakesFact (Breaks r) (Err broken.NoMemory) = Unit {0}
