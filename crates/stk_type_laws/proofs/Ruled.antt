-- What the rules of typing say of each evaluated node of a function: its fact is what its rule makes of the facts of
-- its operands, and what is tested is a scalar.
use Rattle.std.proofs.Common.{◌≡◌, ℕ, true, List, Option, None}
use Rattle.stk_ctype.specs.Structs.{Structs, structs_of}
use Rattle.stk_ctype.specs.declared.symbol.NameEntry.{NameEntry}
use Rattle.stk_tree.specs.Syntax.{ExprTree, MaybeExprTree, ExprFormTree, StmtFormTree}
use Rattle.stk_tree.specs.Syntax as s
use Rattle.stk_type_rules.specs.Facts.{Fact, fact_at, Fits}
use Rattle.stk_type_rules.specs.Rules.{has_scalar, paren_rule, step_rule, unary_rule, binary_rule, assign_rule, choice_rule}
use Rattle.stk_typing.specs.Locals.{Local}
use Rattle.stk_typing.specs.Scope.{Scope}
use Rattle.stk_function_types.specs.Bodies.{Body}
use Rattle.stk_meaning.specs.Typings.{Typing, typing_of, node_of}
use Rattle.stk_meaning.specs.Visits.{Visit, at_expression, at_declarator, at_statement, at_section}
use Rattle.stk_type_laws.proofs.Locals.{Around}

-- the input, the names of file scope, the declarators whose names are operands of `&`, and the facts of all nodes
pub record Ground : Type 0 where
  pub bytes : List ℕ
  pub entries : List NameEntry
  pub taken : List ℕ
  pub facts : List Fact

abbrev pub typing : Ground → Typing
typing c = typing_of c.bytes c.entries c.taken c.facts

-- the names in force with these locals
abbrev pub in_force : Ground → List Local → Option ℕ → Scope
in_force c ls own = record { bytes = c.bytes; entries = c.entries; locals = ls; own = own }

-- where a statement stands
abbrev pub body_in : Ground → List Local → Around → Body
body_in c ls a = record { scope = in_force c ls None; taken = a.taken; outer = a.outer; returns = a.returns; can_break = a.can_break; can_continue = a.can_continue }

-- the fact of an expression
abbrev pub fact_of : List Fact → ExprTree → Fact
fact_of facts e = fact_at facts (node_of e)

abbrev pub RuledForm : Structs → List Fact → ℕ → ExprFormTree → Type 0
RuledForm structs facts k (s.name at) = Unit {0}
RuledForm structs facts k (s.number at) = Unit {0}
RuledForm structs facts k (s.character at) = Unit {0}
RuledForm structs facts k (s.text parts) = Unit {0}
RuledForm structs facts k (s.paren e) = paren_rule (fact_of facts e) ≡ Fits (fact_at facts k)
RuledForm structs facts k (s.index a b) = Unit {0}
RuledForm structs facts k (s.call e es) = Unit {0}
RuledForm structs facts k (s.dot e at) = Unit {0}
RuledForm structs facts k (s.arrow e at) = Unit {0}
RuledForm structs facts k (s.step op e) = step_rule structs (fact_of facts e) ≡ Fits (fact_at facts k)
RuledForm structs facts k (s.unary op e) = unary_rule structs op (fact_of facts e) ≡ Fits (fact_at facts k)
RuledForm structs facts k (s.size_expression e) = Unit {0}
RuledForm structs facts k (s.size_name t) = Unit {0}
RuledForm structs facts k (s.cast t e) = Unit {0}
RuledForm structs facts k (s.binary op a b) = binary_rule structs op (fact_of facts a) (fact_of facts b) ≡ Fits (fact_at facts k)
RuledForm structs facts k (s.choice x y z) = choice_rule (fact_of facts x) (fact_of facts y) (fact_of facts z) ≡ Fits (fact_at facts k)
RuledForm structs facts k (s.assign op a b) = assign_rule structs op (fact_of facts a) (fact_of facts b) ≡ Fits (fact_at facts k)

-- a controlling expression that may be missing is a scalar
abbrev pub RuledTest : List Fact → MaybeExprTree → Type 0
RuledTest facts s.no_expression = Unit {0}
RuledTest facts (s.some_expression e) = has_scalar (fact_of facts e) ≡ true

abbrev pub RuledStatement : List Fact → StmtFormTree → Type 0
RuledStatement facts (s.block ps) = Unit {0}
RuledStatement facts (s.expression_statement e) = Unit {0}
RuledStatement facts (s.if_statement e x y) = has_scalar (fact_of facts e) ≡ true
RuledStatement facts (s.switch_statement e ss) = Unit {0}
RuledStatement facts (s.while_statement e x) = has_scalar (fact_of facts e) ≡ true
RuledStatement facts (s.do_statement x e) = has_scalar (fact_of facts e) ≡ true
RuledStatement facts (s.for_statement first test step x) = RuledTest facts test
RuledStatement facts s.break_statement = Unit {0}
RuledStatement facts s.continue_statement = Unit {0}
RuledStatement facts (s.return_statement e) = Unit {0}

abbrev pub RuledVisit : Ground → Visit → Type 0
RuledVisit c (at_expression k role f) = RuledForm (structs_of c.entries) c.facts k f
RuledVisit c (at_declarator k static at init) = Unit {0}
RuledVisit c (at_statement k arm f) = RuledStatement c.facts f
RuledVisit c (at_section k ls) = Unit {0}
