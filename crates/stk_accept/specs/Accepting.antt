-- Which units are accepted, why others aren't, and which names units leave in force (C11 6.9).
use Rattle.std.specs.Prelude.{◌≡◌, ℕ, Bool, List, take, Option, Some, None, slice_get}
use Rattle.stk_ctype.specs.declared.symbol.NameEntry.{NameEntry}
use Rattle.stk_ctype.specs.Named.{named}
use Rattle.stk_type_rules.specs.Facts.{Fact}
use Rattle.stk_type_rules.specs.Outcome.{Good, Refused}
use Rattle.stk_lex.specs.declared.token.Token.{Token}
use Rattle.stk_grammar.specs.Lexemes.{lexemes_of, spans_of}
use Rattle.stk_tree.specs.declared.node.Node.{Node}
use Rattle.stk_tree.specs.Syntax.{UnitTree}
use Rattle.stk_tree.specs.Layout.{unit_laid_out}
use Rattle.stk_tree.specs.Unlaid.{unlaid_unit}
use Rattle.stk_tree.specs.View.{view_unit}
use Rattle.stk_nodes.specs.Rows.{unit_row}
use Rattle.stk_grammar.specs.Units.{IsUnit}
use Rattle.stk_stmt.specs.Heads.{IsHead, ended_spans}
use Rattle.stk_declare.specs.Declaring.{unit_declared}
use Rattle.stk_accept.specs.declared.accepting.Refusal.{Refusal}
use Rattle.stk_accept.specs.declared.accepting.Refusal.TheVariants as refusal
use Rattle.stk_accept.specs.declared.accepting.Accepted.{Accepted}
use Rattle.stk_accept.specs.declared.accepting.Accepted.TheVariants as accepted

-- the words of these bytes that are typedef names among these entries decide which tree tokens are
abbrev pub IsUnitOf : List ℕ → List NameEntry → List Token → UnitTree → Type 0
IsUnitOf bytes es tokens u = IsUnit (named bytes es) (lexemes_of bytes tokens) u

abbrev pub IsHeadOf : List ℕ → List NameEntry → List Token → UnitTree → Type 0
IsHeadOf bytes es tokens u = IsHead (named bytes es) (lexemes_of bytes tokens) u

-- the unit that these tokens are, its nodes numbered and placed
pub record IsTree (bytes : List ℕ) (es : List NameEntry) (tokens : List Token) (u : UnitTree) : Type 0 where
  pub is : IsUnitOf bytes es tokens u
  pub laid_out : u ≡ unit_laid_out (spans_of tokens) (unlaid_unit u)

-- the declaration that these tokens are without its `;`
pub record IsHeadTree (bytes : List ℕ) (es : List NameEntry) (tokens : List Token) (u : UnitTree) : Type 0 where
  pub is : IsHeadOf bytes es tokens u
  pub laid_out : u ≡ unit_laid_out (ended_spans (spans_of tokens)) (unlaid_unit u)

-- where a node begins
abbrev pub begins : Option Node → ℕ
begins None = 0
begins (Some n) = n.span.from

-- where the node of this number begins, among nodes in the order of their numbers
abbrev pub beginning : List Node → ℕ → ℕ
beginning ns k = begins (slice_get ns k)

-- a unit is accepted as this tree: what it declares leaves these names in force
pub record Accepts (bytes : List ℕ) (mark : Bool) (es : List NameEntry) (tokens : List Token) (u : UnitTree) (now : List NameEntry) : Type 0 where
  pub tree : IsTree bytes es tokens u
  pub facts : List Fact
  pub declared : unit_declared bytes mark es u ≡ Good now facts

-- a unit is refused by a rule: its tree has a first node that a rule refuses, by this lowest rule, and the node begins
-- here
pub record BreaksRule (bytes : List ℕ) (mark : Bool) (es : List NameEntry) (tokens : List Token) (at rule : ℕ) : Type 0 where
  pub unit : UnitTree
  pub tree : IsTree bytes es tokens unit
  pub node : ℕ
  pub refused : unit_declared bytes mark es unit ≡ Refused node rule
  pub place : at ≡ beginning (unit_row unit) node

-- why a unit isn't accepted: no tree is its tokens; or a rule refuses it
abbrev pub IsRefusedFor : List ℕ → Bool → List NameEntry → List Token → Refusal → Type 0
IsRefusedFor bytes mark es tokens refusal.NoTree = (u : UnitTree) → IsUnitOf bytes es tokens u → ⊥
IsRefusedFor bytes mark es tokens (refusal.Rule at rule) = BreaksRule bytes mark es tokens at rule

-- The names that the tokens before the body of a function leave in force where the unit isn't accepted: what they
-- declare as a declaration, where that is accepted, and else those before.
pub data LeavesHead (bytes : List ℕ) (mark : Bool) (es : List NameEntry) (tokens : List Token) : List NameEntry → Type 0 where
  no_head : ((u : UnitTree) → IsHeadOf bytes es tokens u → ⊥) → LeavesHead bytes mark es tokens es
  refused_head : (u : UnitTree) (node rule : ℕ) → IsHeadTree bytes es tokens u → unit_declared bytes mark es u ≡ Refused node rule → LeavesHead bytes mark es tokens es
  declared_head : (u : UnitTree) (now : List NameEntry) (facts : List Fact) → IsHeadTree bytes es tokens u → unit_declared bytes mark es u ≡ Good now facts → LeavesHead bytes mark es tokens now

-- the names that a unit leaves in force that isn't accepted, where so many of its tokens stand before a body, or it has
-- none
abbrev pub Leaves : List ℕ → Bool → List NameEntry → List Token → Option ℕ → List NameEntry → Type 0
Leaves bytes mark es tokens None now = now ≡ es
Leaves bytes mark es tokens (Some body) now = LeavesHead bytes mark es (take body tokens) now

-- a unit isn't accepted for a cause, and leaves these names in force
pub record Refuses (bytes : List ℕ) (mark : Bool) (es : List NameEntry) (tokens : List Token) (body : Option ℕ) (cause : Refusal) (now : List NameEntry) : Type 0 where
  pub because : IsRefusedFor bytes mark es tokens cause
  pub leaves : Leaves bytes mark es tokens body now

-- what the code says of a unit, and the names that it leaves
abbrev pub IsAnswered : List ℕ → Bool → List NameEntry → List Token → Option ℕ → Accepted → List NameEntry → Type 0
IsAnswered bytes mark es tokens body (accepted.Tree unit) now = Accepts bytes mark es tokens (view_unit unit) now
IsAnswered bytes mark es tokens body (accepted.Refused cause) now = Refuses bytes mark es tokens body cause now
