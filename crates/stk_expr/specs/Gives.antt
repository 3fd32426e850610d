-- What the readers return, as against the functional reader.
use Rattle.std.specs.Prelude.{◌≡◌, ℕ, ◌≤◌, Option, Some, None, Result, Ok, Err}
use Rattle.stk_tree.specs.Nesting.{expression_nesting, expressions_nesting, type_name_nesting}
use Rattle.stk_tree.specs.Syntax.{ExprTree, ExprTrees, TypeNameTree}
use Rattle.stk_grammar.specs.Reading.{level}
use Rattle.stk_expr.specs.declared.parse.Parse.{Parse}
use Rattle.stk_expr.specs.declared.parse.Parse.TheVariants as parse

abbrev pub Fails : {A : Type 0} → Parse → Option A → Type 0
Fails parse.NoTree read = read ≡ None
Fails parse.NoMemory read = Unit {0}

-- What a function returned, seen by view, is what reading gives, unless memory ran out.
abbrev pub Gives : {X A : Type 0} → (X → A) → Result X Parse → Option A → Type 0
Gives view (Ok x) read = read ≡ Some (view x)
Gives view (Err e) read = Fails e read

-- the nesting and the level of a tree that fits in a room
abbrev pub IsRead : ℕ → ExprTree → ℕ → ℕ → Type 0
IsRead room t high at = (high ≡ expression_nesting t) × (high ≤ room) × (at ≡ level t)

abbrev pub AreRead : ℕ → ExprTrees → ℕ → Type 0
AreRead room ts high = (high ≡ expressions_nesting ts) × (high ≤ room)

abbrev pub IsTypeRead : ℕ → TypeNameTree → ℕ → Type 0
IsTypeRead room y high = (high ≡ type_name_nesting y) × (high ≤ room)
