-- The function whose goals are asked, and what is kept of them.
use Rattle.std.specs.Prelude.{◌≡◌, ℕ, ◌<◌, List, length}
use Rattle.std.specs.List.{All}
use Rattle.stk_ctype.specs.declared.kind.IntKind.{IntKind}
use Rattle.stk_tree.specs.declared.unit.Function.{Function}
use Rattle.stk_tree.specs.Syntax.{FunctionTree}
use Rattle.stk_tree.specs.View.{view_function}
use Rattle.stk_numbers.specs.declared.conditions.Kinds.{Kinds}
use Rattle.stk_meaning.specs.Typings.{Typing}
use Rattle.stk_function_types.specs.Nodes.{typing_in}
use Rattle.stk_goals.specs.Rows.{Tables}
use Rattle.stk_terms.specs.declared.term.TermId.{TermId}
use Rattle.stk_terms.specs.Terms.{Stored}
use Rattle.stk_values.specs.declared.walked.Walked.{Walked}
use Rattle.stk_symbols.specs.Symbolic.{Symbolic}
use Rattle.stk_goal_clauses.specs.Laws.{IsNever}
use Rattle.stk_goals.specs.Queries.{key_kinds}
use Rattle.stk_goals.specs.Goals.{AreGoalsOf}

-- the function that goals speak of, by its tables and its tree
pub record AskedFunction : Type 0 where
  pub tables : Tables
  pub function : Function

-- its typing, the kinds of conditions that are taken out, and its tree
abbrev pub typing_asked : AskedFunction → Typing
typing_asked a = typing_in a.tables.places.types

abbrev pub without_asked : AskedFunction → Kinds
without_asked a = a.tables.places.without

abbrev pub tree_asked : AskedFunction → FunctionTree
tree_asked a = view_function a.function

-- no inputs make the terms at these places 1
abbrev pub AreNever : Stored → List ℕ → Type 0
AreNever s = All (λ i. (i < length s.terms) × IsNever s i)

-- A store and a walk are those of its goals, these are the kinds of its keys, and these are places of goals that no
-- inputs make 1.
pub record AreGoalsIn (a : AskedFunction) (kinds : List IntKind) (s : Symbolic) (w : Walked TermId) (nevers : List ℕ) : Type 0 where
  pub kinds_are : kinds ≡ key_kinds (typing_asked a) (without_asked a) (tree_asked a)
  pub goals : AreGoalsOf (typing_asked a) (without_asked a) (tree_asked a) s w
  pub never : AreNever s.terms nevers
