-- What a program that walks one branch leaves, by where it has come to before and after. Its state keeps something that
-- shows the state of a world.
use Rattle.std.specs.Prelude.{◌≡◌, ◌<◌, ◌⊎◌, ℕ, Bool, true, false, List, length, ◌++◌, ℤ}
use Rattle.stk_tree.specs.Syntax.{ExprTree}
use Rattle.stk_meaning.specs.Places.{Setting}
use Rattle.stk_meaning.specs.declared.entry.Entry.{Entry}
use Rattle.stk_meaning.specs.Worlds.{Ran, Went, Cut, World, trace_of}
use Rattle.stk_meaning.specs.Paths.{InputMap, KeptNumbers, path_world}
use Rattle.stk_meaning.specs.Expressions.{Meaning, meaning, Sides, test_of}
use Rattle.stk_eval_expr.specs.declared.state.State.{State}

-- the run has more entries than there may be: it was left off with some of them
pub record IsOver {K : Type 0} (t : List Entry) (before after : State K) : Type 0 where
  pub cut : after.cut ≡ true
  pub over : after.most < length after.entries.items
  pub rest : List Entry
  pub is : after.entries.items ++ rest ≡ before.entries.items ++ t

-- The value, the registers and the world's state are the run's, and the run's entries were added; where the run is cut,
-- its entries were added and the program is cut too, and nothing is said of the rest.
abbrev pub EndsWithin : {K S A : Type 0} → (K → S) → Ran A S → A → State K → State K → Type 0
EndsWithin shown (Went x r m t) v before after =
    (v ≡ x) × (after.cut ≡ false) × (after.registers.items ≡ r) × (shown after.kept ≡ m) × (after.entries.items ≡ before.entries.items ++ t)
EndsWithin shown (Cut t) v before after = (after.cut ≡ true) × (after.entries.items ≡ before.entries.items ++ t)

abbrev pub Ends : {K S A : Type 0} → (K → S) → Ran A S → A → State K → State K → Type 0
Ends shown run v before after = EndsWithin shown run v before after ⊎ IsOver (trace_of run) before after

-- a program that is cut stays so, and adds nothing
pub record Stays {K : Type 0} (before after : State K) : Type 0 where
  pub cut : after.cut ≡ true
  pub entries : after.entries.items ≡ before.entries.items

-- a program that isn't cut leaves what the run gives; how many entries there may be doesn't change
pub record Leaves {K S A : Type 0} (shown : K → S) (run : Ran A S) (v : A) (before after : State K) : Type 0 where
  pub goes : before.cut ≡ false → Ends shown run v before after
  pub stays : before.cut ≡ true → Stays before after
  pub most : after.most ≡ before.most

-- entries were added, and nothing else was done
abbrev pub AddsWithin : {K : Type 0} → List Entry → State K → State K → Type 0
AddsWithin t before after = (after.cut ≡ false) × (after.registers.items ≡ before.registers.items) × (after.kept ≡ before.kept) × (after.entries.items ≡ before.entries.items ++ t)

pub record Adds {K : Type 0} (t : List Entry) (before after : State K) : Type 0 where
  pub goes : before.cut ≡ false → AddsWithin t before after ⊎ IsOver t before after
  pub stays : before.cut ≡ true → Stays before after
  pub most : after.most ≡ before.most

-- a program with more entries than there may be is cut, and nothing else is done
pub record Bounds {K : Type 0} (before after : State K) : Type 0 where
  pub verdict : (after.cut ≡ before.cut) ⊎ ((after.cut ≡ true) × (after.most < length after.entries.items))
  pub registers : after.registers.items ≡ before.registers.items
  pub kept : after.kept ≡ before.kept
  pub entries : after.entries.items ≡ before.entries.items
  pub most : after.most ≡ before.most

-- the run ends here
pub record Stops {K : Type 0} (before after : State K) : Type 0 where
  pub cut : after.cut ≡ true
  pub entries : after.entries.items ≡ before.entries.items
  pub most : after.most ≡ before.most

-- a part of a run that begins where a program has come to
abbrev pub from : {K S A : Type 0} → (K → S) → (List ℤ → S → Ran A S) → State K → Ran A S
from shown run s = run s.registers.items (shown s.kept)

-- what an expression is in a path run
abbrev pub meaning_in : Setting → InputMap → ExprTree → Meaning KeptNumbers
meaning_in g i e = meaning g (path_world i) e

-- an expression's value, its place, what it is as a side of a comparison, and as a controlling expression
abbrev pub value_run : {K S : Type 0} → (K → S) → Setting → World S → ExprTree → State K → Ran ℤ S
value_run shown g w e s = from shown (meaning g w e).value s

abbrev pub place_run : {K S : Type 0} → (K → S) → Setting → World S → ExprTree → Bool → State K → Ran ℕ S
place_run shown g w e accessed s = from shown ((meaning g w e).place accessed) s

abbrev pub sides_run : {K S : Type 0} → (K → S) → Setting → World S → ExprTree → State K → Ran Sides S
sides_run shown g w e s = from shown (meaning g w e).sides s

abbrev pub test_run : {K S : Type 0} → (K → S) → Setting → World S → ExprTree → State K → Ran ℤ S
test_run shown g w e s = from shown (test_of g w e) s
