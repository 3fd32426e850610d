-- How many entries a unit adds to the names in force (C11 6.7, 6.9).
use Rattle.std.specs.Prelude.{ℕ, ◌≡◌, ◌≤◌, ◌+◌, Bool, List, length}
use Rattle.stk_ctype.specs.declared.symbol.NameEntry.{NameEntry}
use Rattle.stk_tree.specs.Syntax.{UnitTree}
use Rattle.stk_tree.specs.Tokens.{unit_tokens}
use Rattle.stk_type_rules.specs.Facts.{Fact}
use Rattle.stk_type_rules.specs.Outcome.{Good}
use Rattle.stk_declare.specs.Declaring.{unit_declared}

-- a unit that is accepted adds at most one entry for each token that it prints
abbrev pub AddsFewEntries : Type 0
AddsFewEntries = (bytes : List ℕ) (mark : Bool) (es now : List NameEntry) (facts : List Fact) (u : UnitTree) → unit_declared bytes mark es u ≡ Good now facts → length now ≤ length es + length (unit_tokens u)
