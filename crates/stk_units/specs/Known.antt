-- What is known of a unit on its way.
use Rattle.std.specs.Prelude.{◌≡◌, ℕ, ◌<◌, ◌^◌, Bool, List}
use Rattle.stk_lex.specs.declared.token.Token.{Token}
use Rattle.stk_ctype.specs.declared.symbol.NameEntry.{NameEntry}
use Rattle.stk_tree.specs.Syntax.{UnitTree, FunctionTree}
use Rattle.stk_tree.specs.Nodes.{unit_nodes}
use Rattle.stk_tree.specs.View.{view_unit}
use Rattle.stk_numbers.specs.declared.conditions.Kinds.{Kinds}
use Rattle.stk_type_rules.specs.Facts.{Fact}
use Rattle.stk_type_rules.specs.Outcome.{Good}
use Rattle.stk_run_laws.specs.Visits.{EachVisit}
use Rattle.stk_run_laws.specs.TypedTree.{IsTypedTree}
use Rattle.stk_kinded.specs.KindedStatements.{KindedFunction}
use Rattle.stk_type_laws.specs.Bits.{VisitHasBits}
use Rattle.stk_meaning.specs.Typings.{Typing}
use Rattle.stk_meaning.specs.Keys.{setting_of, function_visits}
use Rattle.stk_type_laws.specs.Orderly.{AreOrderly}
use Rattle.stk_function_types.specs.Units.{unit_typed}
use Rattle.stk_accept.specs.declared.accepting.Accepted.{Accepted}
use Rattle.stk_accept.specs.declared.accepting.Accepted.TheVariants as accepted
use Rattle.stk_accept.specs.Accepting.{Accepts}
use Rattle.stk_units.specs.Functions.{unit_typing, IsLaidOut}

-- the tree of a function is typed, its values have the kinds of their nodes, and numbers have the bits of their types
pub record IsTypedFunction (ty : Typing) (without : Kinds) (f : FunctionTree) : Type 0 where
  pub typed : IsTypedTree ty without f
  pub kinded : KindedFunction (setting_of ty without f) f
  pub bits : EachVisit (VisitHasBits ty) (function_visits ty f)

-- where typing accepts a function, it is so of it
abbrev pub IsTypedWell : List ℕ → Kinds → List NameEntry → UnitTree → FunctionTree → Type 0
IsTypedWell bytes without now u f = (x : Fact) (facts : List Fact) → unit_typed bytes now u ≡ Good x facts → IsTypedFunction (unit_typing bytes now u) without f

-- a unit was accepted under names as units leave them
pub record WasAccepted (bytes : List ℕ) (tokens : List Token) (u : UnitTree) (now : List NameEntry) : Type 0 where
  pub mark : Bool
  pub before : List NameEntry
  pub orderly : AreOrderly before
  pub accepts : Accepts bytes mark before tokens u now

-- the same of what accepting answers
abbrev pub WasAnswered : List ℕ → List Token → Accepted → List NameEntry → Type 0
WasAnswered bytes tokens (accepted.Tree unit) now = WasAccepted bytes tokens (view_unit unit) now
WasAnswered bytes tokens (accepted.Refused cause) now = Unit {0}

-- the nodes of a unit have numbers of 32 bits and are laid out
pub record IsReadWell (u : UnitTree) : Type 0 where
  pub few : unit_nodes u < 2 ^ 32
  pub laid_out : IsLaidOut u

abbrev pub AreReadWell : Accepted → Type 0
AreReadWell (accepted.Tree unit) = IsReadWell (view_unit unit)
AreReadWell (accepted.Refused cause) = Unit {0}
