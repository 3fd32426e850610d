-- Functions that are searched: what their walk asks, and where it holds.
use Rattle.std.specs.Prelude.{◌≡◌, ◌+◌, ◌*◌, ◌≤◌, ◌<◌, ◌^◌, List, length, map}
use Rattle.stk_ctype.specs.declared.kind.IntKind.{IntKind}
use Rattle.stk_tree.specs.declared.node.Node.{Node}
use Rattle.stk_tree.specs.Syntax.{FunctionTree}
use Rattle.stk_tree.specs.Nodes.{function_nodes}
use Rattle.stk_numbers.specs.Kinds.{width_of}
use Rattle.stk_meaning.specs.Keys.{keys_of, input_bits, setting_of, function_visits}
use Rattle.stk_meaning.specs.Lists.{candidates}
use Rattle.stk_meaning.specs.Weights.{weight, most_weight}
use Rattle.stk_function_types.specs.Nodes.{typing_in}
use Rattle.stk_type_laws.specs.Accepted.{IsAcceptedUnit}
use Rattle.stk_run_laws.specs.Visits.{EachVisit}
use Rattle.stk_run_laws.specs.TypedTree.{IsTypedTree}
use Rattle.stk_kinded.specs.KindedStatements.{KindedFunction}
use Rattle.stk_spending.specs.Functions.{function_spent}
use Rattle.stk_type_laws.specs.Bits.{VisitHasBits}
use Rattle.stk_walk.specs.Rows.{Tables}
use Rattle.stk_walk.specs.FunctionTables.{AreTablesOf}
use Rattle.stk_walking.specs.Keyed.{AreThere}
use Rattle.stk_terms.specs.Terms.{no_terms}
use Rattle.stk_symbols.specs.Symbolic.{Symbolic, HasKey}
use Rattle.stk_walk.specs.Walkable.{IsWalkable}

-- The tables of a function are to be walked, a place in the list of its candidates is a number of 32 bits, and it has
-- no more input bits than weight, and no more weight than a function that is searched may have. What its walk may cost,
-- and 16 for each node of the function and of its unit, is within its weight.
pub record IsSearched (t : Tables) (f : FunctionTree) : Type 0 where
  pub walkable : IsWalkable t f
  pub few : length (candidates (typing_in t.places.types) f) < 2 ^ 32
  pub bits : input_bits (keys_of (typing_in t.places.types) t.places.without f) ≤ weight (typing_in t.places.types) t.places.without f
  pub cheap : function_spent (typing_in t.places.types) t.places.without f + 16 * (function_nodes f + 1) ≤ weight (typing_in t.places.types) t.places.without f
  pub light : weight (typing_in t.places.types) t.places.without f ≤ most_weight

-- What is known of a function that is judged: its tree is typed and kinded, whichever kinds of conditions are taken
-- out, and numbers have the bits of their types; the tables are the function's, and know its loops; and it isn't too
-- heavy.
pub record IsTypedFunction (t : Tables) (f : FunctionTree) : Type 0 where
  pub typed : IsTypedTree (typing_in t.places.types) t.places.without f
  pub kinded : KindedFunction (setting_of (typing_in t.places.types) t.places.without f) f
  pub bits : EachVisit (VisitHasBits (typing_in t.places.types)) (function_visits (typing_in t.places.types) f)
  pub tables : AreTablesOf f t
  pub light : weight (typing_in t.places.types) t.places.without f ≤ most_weight

abbrev pub TypedFunctionsAreSearched : Type 0
TypedFunctionsAreSearched = (t : Tables) (f : FunctionTree) → IsTypedFunction t f → IsSearched t f

-- the same of a function whose unit typing accepts
pub record IsAcceptedFunction (t : Tables) (node : Node) (f : FunctionTree) : Type 0 where
  pub accepted : IsAcceptedUnit t.places.types node f
  pub tables : AreTablesOf f t
  pub light : weight (typing_in t.places.types) t.places.without f ≤ most_weight

abbrev pub AcceptedFunctionsAreSearched : Type 0
AcceptedFunctionsAreSearched = (t : Tables) (node : Node) (f : FunctionTree) → IsAcceptedFunction t node f → IsSearched t f

-- a new store of terms has the keys whose kinds it was made for
abbrev pub KeysAreThere : Type 0
KeysAreThere = (kinds : List IntKind) (s : Symbolic) → s.kinds ≡ kinds → s.terms ≡ no_terms (map width_of kinds) → AreThere (HasKey s) kinds
