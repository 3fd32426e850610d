-- What becomes of a unit, apart from what is told of it: what is written, asked or counted.
use Rattle.std.specs.Prelude.{◌≡◌, ℕ, Bool, false, List, Option, Some, None}
use Rattle.stk_lex.specs.declared.token.Token.{Token}
use Rattle.stk_ctype.specs.declared.symbol.NameEntry.{NameEntry}
use Rattle.stk_tree.specs.declared.node.Node.{Node}
use Rattle.stk_tree.specs.Syntax.{UnitTree, FunctionTree, defines}
use Rattle.stk_numbers.specs.declared.conditions.Kinds.{Kinds}
use Rattle.stk_accept.specs.declared.accepting.Refusal.{Refusal}
use Rattle.stk_accept.specs.Accepting.{Accepts, Refuses}
use Rattle.stk_records.specs.declared.line.Cause.{Cause}
use Rattle.stk_units.specs.Functions.{is_definition}
use Rattle.stk_units.specs.Causes.{cause_of, body_cause}

-- There is no function to judge in a unit; or it is left out for a cause; or it defines a function, by this node, that
-- is judged.
pub data UnitOutcome : Type 0 where
  no_function : UnitOutcome
  left_out : Cause → UnitOutcome
  is_judged : Node → FunctionTree → UnitOutcome

-- What becomes of a unit of these tokens, and the names that it leaves in force, where these are in force before it: in
-- an empty unit and a declaration that are accepted there is no function; a unit that isn't accepted is left out for
-- that cause; a function that is accepted is left out where it has too many nodes, a rule refuses its body, or it has
-- too much weight; and every other function is judged.
pub data IsOutcome (bytes : List ℕ) (without : Kinds) (mark : Bool) (es : List NameEntry) (body : Option ℕ) (tokens : List Token) : UnitOutcome → List NameEntry → Type 0 where
  declaring : {now : List NameEntry} (u : UnitTree) → Accepts bytes mark es tokens u now → is_definition u ≡ false → IsOutcome bytes without mark es body tokens no_function now
  refusing : {now : List NameEntry} (cause : Refusal) → Refuses bytes mark es tokens body cause now → IsOutcome bytes without mark es body tokens (left_out (cause_of bytes cause)) now
  leaving : {now : List NameEntry} (node : Node) (f : FunctionTree) (cause : Cause) → Accepts bytes mark es tokens (defines node f) now → body_cause bytes without now (defines node f) ≡ Some cause → IsOutcome bytes without mark es body tokens (left_out cause) now
  judging : {now : List NameEntry} (node : Node) (f : FunctionTree) → Accepts bytes mark es tokens (defines node f) now → body_cause bytes without now (defines node f) ≡ None → IsOutcome bytes without mark es body tokens (is_judged node f) now
