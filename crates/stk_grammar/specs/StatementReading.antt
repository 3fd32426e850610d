-- Reading statements and units from left to right: what the readers compute, over lexemes. Only contracts of tables and
-- of private functions speak of it.
use Rattle.std.specs.Prelude.{ℕ, zero, suc, Bool, true, false, cond, ◌||◌, List, [], ◌∷◌, length, Option, Some, None}
use Rattle.stk_base.specs.declared.span.Span.{Span}
use Rattle.stk_tree.specs.Nesting.{most_nesting}
use Rattle.stk_tree.specs.Levels.{comma_level, conditional_level}
use Rattle.stk_tree.specs.declared.fixed.Fixed.{Fixed}
use Rattle.stk_tree.specs.declared.fixed.Fixed.TheVariants as fixed
use Rattle.stk_tree.specs.declared.fixed.Lexeme.{Lexeme}
use Rattle.stk_tree.specs.declared.fixed.Lexeme.TheVariants.{Leaf, Fixed as Token}
use Rattle.stk_tree.specs.Syntax.{DeclarationTree, ExprTree, LabelTree, LabelTrees, MaybeExprTree, PartTree, PartTrees, SectionTree, SectionTrees, StartTree, StmtFormTree, StmtTree, StmtTrees, UnitTree}
use Rattle.stk_tree.specs.Syntax as s
use Rattle.stk_tree.specs.Unlaid.{no_node}
use Rattle.stk_grammar.specs.Reading.{◌>>=◌, Found, begins_type, behind_colon, behind_left_brace, behind_left_paren, behind_right_brace, behind_right_paren, behind_semicolon}
use Rattle.stk_grammar.specs.Stopped.{stopped_at}
use Rattle.stk_grammar.specs.DeclarationReading.{declaration_at, front_at}
use Rattle.stk_grammar.specs.declared.statement_tables.Kind.{Kind}
use Rattle.stk_grammar.specs.declared.statement_tables.Kind.TheVariants as kind

-- the readers of the parts of a statement, which have less room
abbrev pub StatementReader : Type 0
StatementReader = List Lexeme → Found StmtTree

abbrev pub SectionReader : Type 0
SectionReader = List Lexeme → Found SectionTree

-- a statement whose node isn't laid out
abbrev pub made_statement : StmtFormTree → StmtTree
made_statement f = s.statement no_node f

-- ---- tokens

abbrev pub behind_else : List Lexeme → Option (List Lexeme)
behind_else (Token fixed.Else ∷ ts) = Some ts
behind_else ts = None

abbrev pub behind_while : List Lexeme → Option (List Lexeme)
behind_while (Token fixed.While ∷ ts) = Some ts
behind_while ts = None

abbrev pub behind_case : List Lexeme → Option (List Lexeme)
behind_case (Token fixed.Case ∷ ts) = Some ts
behind_case ts = None

abbrev pub behind_default : List Lexeme → Option (List Lexeme)
behind_default (Token fixed.Default ∷ ts) = Some ts
behind_default ts = None

-- what stands behind the first token
abbrev pub behind_first : List Lexeme → List Lexeme
behind_first [] = []
behind_first (t ∷ ts) = ts

-- what a statement that begins with this punctuator is
abbrev pub kind_punctuator : Fixed → Kind
kind_punctuator fixed.LeftBrace = kind.Block
kind_punctuator fixed.If = kind.If
kind_punctuator fixed.Switch = kind.Switch
kind_punctuator fixed.While = kind.While
kind_punctuator fixed.Do = kind.Do
kind_punctuator fixed.For = kind.For
kind_punctuator fixed.Break = kind.Break
kind_punctuator fixed.Continue = kind.Continue
kind_punctuator fixed.Return = kind.Return
kind_punctuator other = kind.Plain

abbrev pub kind_at : List Lexeme → Kind
kind_at [] = kind.Plain
kind_at (Token f ∷ ts) = kind_punctuator f
kind_at (Leaf class at ∷ ts) = kind.Plain

-- whether a label begins here
abbrev pub begins_label : List Lexeme → Bool
begins_label (Token fixed.Case ∷ ts) = true
begins_label (Token fixed.Default ∷ ts) = true
begins_label ts = false

-- whether the statements of a section end here: before a label, and before the `}`
abbrev pub ends_section : List Lexeme → Bool
ends_section (Token fixed.RightBrace ∷ ts) = true
ends_section ts = begins_label ts

abbrev pub begins_static : List Lexeme → Bool
begins_static (Token fixed.Static ∷ ts) = true
begins_static ts = false

-- whether a declaration of a block begins here
abbrev pub begins_local : (Span → Bool) → List Lexeme → Bool
begins_local named ts = begins_static ts || begins_type named ts

-- ---- expressions of statements

-- behind the `(`, and in all: `( e )`
abbrev pub condition_on : (Span → Bool) → ℕ → List Lexeme → Found ExprTree
condition_on named inner ts = stopped_at named inner comma_level ts >>= λ e. behind_right_paren e.1 >>= λ rest. Some (e.0, rest)

unfoldable pub condition_at : (Span → Bool) → ℕ → List Lexeme → Found ExprTree
condition_at named inner ts = behind_left_paren ts >>= condition_on named inner

-- `[e] ;`
abbrev pub ended_on : (Span → Bool) → ℕ → Option (List Lexeme) → List Lexeme → Found MaybeExprTree
ended_on named inner (Some rest) ts = Some (s.no_expression, rest)
ended_on named inner None ts = stopped_at named inner comma_level ts >>= λ e. behind_semicolon e.1 >>= λ rest. Some (s.some_expression e.0, rest)

unfoldable pub ended_at : (Span → Bool) → ℕ → List Lexeme → Found MaybeExprTree
ended_at named inner ts = ended_on named inner (behind_semicolon ts) ts

-- `[e] )`
abbrev pub closed_on : (Span → Bool) → ℕ → Option (List Lexeme) → List Lexeme → Found MaybeExprTree
closed_on named inner (Some rest) ts = Some (s.no_expression, rest)
closed_on named inner None ts = stopped_at named inner comma_level ts >>= λ e. behind_right_paren e.1 >>= λ rest. Some (s.some_expression e.0, rest)

unfoldable pub closed_at : (Span → Bool) → ℕ → List Lexeme → Found MaybeExprTree
closed_at named inner ts = closed_on named inner (behind_right_paren ts) ts

-- ---- blocks

abbrev pub part_on : (Span → Bool) → ℕ → StatementReader → Bool → List Lexeme → Found PartTree
part_on named inner sub true ts = declaration_at named false inner ts >>= λ d. Some (s.local d.0, d.1)
part_on named inner sub false ts = sub ts >>= λ x. Some (s.run x.0, x.1)

-- a part of a block: a declaration where one begins, and else a statement
unfoldable pub part_at : (Span → Bool) → ℕ → StatementReader → List Lexeme → Found PartTree
part_at named inner sub ts = part_on named inner sub (begins_local named ts) ts

abbrev pub parts_on : (List Lexeme → Found PartTrees) → (Span → Bool) → ℕ → StatementReader → Option (List Lexeme) → List Lexeme → Found PartTrees
parts_on go_on named inner sub (Some rest) ts = Some (s.no_parts, rest)
parts_on go_on named inner sub None ts = part_at named inner sub ts >>= λ x. go_on x.1 >>= λ xs. Some (s.then_part x.0 xs.0, xs.1)

-- parts up to the `}` and it; the number bounds the turns
unfoldable pub parts_at : (Span → Bool) → ℕ → StatementReader → ℕ → List Lexeme → Found PartTrees
parts_at named inner sub zero ts = None
parts_at named inner sub (suc f) ts = parts_on (parts_at named inner sub f) named inner sub (behind_right_brace ts) ts

-- behind the `{`
unfoldable pub block_at : (Span → Bool) → ℕ → StatementReader → List Lexeme → Found StmtTree
block_at named inner sub ts = parts_at named inner sub (suc (length ts)) ts >>= λ ps. Some (made_statement (s.block ps.0), ps.1)

-- ---- sections of a `switch`

abbrev pub case_on : (Span → Bool) → ℕ → List Lexeme → Found LabelTree
case_on named inner ts = stopped_at named inner conditional_level ts >>= λ e. behind_colon e.1 >>= λ rest. Some (s.case_label e.0, rest)

abbrev pub default_on : List Lexeme → Found LabelTree
default_on ts = behind_colon ts >>= λ rest. Some (s.default_label, rest)

abbrev pub label_on : (Span → Bool) → ℕ → Option (List Lexeme) → List Lexeme → Found LabelTree
label_on named inner (Some inside) ts = case_on named inner inside
label_on named inner None ts = behind_default ts >>= default_on

unfoldable pub label_at : (Span → Bool) → ℕ → List Lexeme → Found LabelTree
label_at named inner ts = label_on named inner (behind_case ts) ts

abbrev pub labels_on : (List Lexeme → Found LabelTrees) → (Span → Bool) → ℕ → Bool → List Lexeme → Found LabelTrees
labels_on go_on named inner false ts = Some (s.no_labels, ts)
labels_on go_on named inner true ts = label_at named inner ts >>= λ x. go_on x.1 >>= λ xs. Some (s.then_label x.0 xs.0, xs.1)

-- labels in a row, as many as stand there; the number bounds the turns
unfoldable pub labels_at : (Span → Bool) → ℕ → ℕ → List Lexeme → Found LabelTrees
labels_at named inner zero ts = None
labels_at named inner (suc f) ts = labels_on (labels_at named inner f) named inner (begins_label ts) ts

abbrev pub statements_on : (List Lexeme → Found StmtTrees) → StatementReader → Bool → List Lexeme → Found StmtTrees
statements_on go_on sub true ts = Some (s.no_statements, ts)
statements_on go_on sub false ts = sub ts >>= λ x. go_on x.1 >>= λ xs. Some (s.then_statement x.0 xs.0, xs.1)

-- the statements of a section, up to a label or the `}`; the number bounds the turns
unfoldable pub statements_at : StatementReader → ℕ → List Lexeme → Found StmtTrees
statements_at sub zero ts = None
statements_at sub (suc f) ts = statements_on (statements_at sub f) sub (ends_section ts) ts

-- behind the labels of a section
abbrev pub section_on : StatementReader → LabelTree → LabelTrees → List Lexeme → Found SectionTree
section_on sub l ls ts = statements_at sub (suc (length ts)) ts >>= λ xs. Some (s.section no_node (s.then_label l ls) xs.0, xs.1)

-- a section whose parts have this room: one label or more, and statements
unfoldable pub section_of : (Span → Bool) → ℕ → StatementReader → List Lexeme → Found SectionTree
section_of named inner sub ts = label_at named inner ts >>= λ l. labels_at named inner (suc (length l.1)) l.1 >>= λ ls. section_on sub l.0 ls.0 ls.1

abbrev pub sections_on : (List Lexeme → Found SectionTrees) → SectionReader → Option (List Lexeme) → List Lexeme → Found SectionTrees
sections_on go_on section (Some rest) ts = Some (s.no_sections, rest)
sections_on go_on section None ts = section ts >>= λ x. go_on x.1 >>= λ xs. Some (s.then_section x.0 xs.0, xs.1)

-- sections up to the `}` and it; the number bounds the turns
unfoldable pub sections_at : SectionReader → ℕ → List Lexeme → Found SectionTrees
sections_at section zero ts = None
sections_at section (suc f) ts = sections_on (sections_at section f) section (behind_right_brace ts) ts

-- ---- statements, behind their first token

abbrev pub else_on : StatementReader → ExprTree → StmtTree → Option (List Lexeme) → List Lexeme → Found StmtTree
else_on sub e x None ts = Some (made_statement (s.if_statement e x s.no_statement), ts)
else_on sub e x (Some rest) ts = sub rest >>= λ y. Some (made_statement (s.if_statement e x (s.some_statement y.0)), y.1)

-- an `else` is taken by the nearest `if`
unfoldable pub if_at : (Span → Bool) → ℕ → StatementReader → List Lexeme → Found StmtTree
if_at named inner sub ts = condition_at named inner ts >>= λ e. sub e.1 >>= λ x. else_on sub e.0 x.0 (behind_else x.1) x.1

abbrev pub switch_on : SectionReader → ExprTree → List Lexeme → Found StmtTree
switch_on section e ts = sections_at section (suc (length ts)) ts >>= λ xs. Some (made_statement (s.switch_statement e xs.0), xs.1)

unfoldable pub switch_at : (Span → Bool) → ℕ → SectionReader → List Lexeme → Found StmtTree
switch_at named inner section ts = condition_at named inner ts >>= λ e. behind_left_brace e.1 >>= switch_on section e.0

unfoldable pub while_at : (Span → Bool) → ℕ → StatementReader → List Lexeme → Found StmtTree
while_at named inner sub ts = condition_at named inner ts >>= λ e. sub e.1 >>= λ x. Some (made_statement (s.while_statement e.0 x.0), x.1)

abbrev pub do_on : (Span → Bool) → ℕ → StmtTree → List Lexeme → Found StmtTree
do_on named inner x ts = condition_at named inner ts >>= λ e. behind_semicolon e.1 >>= λ rest. Some (made_statement (s.do_statement x e.0), rest)

unfoldable pub do_at : (Span → Bool) → ℕ → StatementReader → List Lexeme → Found StmtTree
do_at named inner sub ts = sub ts >>= λ x. behind_while x.1 >>= do_on named inner x.0

abbrev pub start_on : (Span → Bool) → ℕ → Bool → List Lexeme → Found StartTree
start_on named inner true ts = declaration_at named false inner ts >>= λ d. Some (s.start_declaration d.0, d.1)
start_on named inner false ts = ended_at named inner ts >>= λ e. Some (s.start_expression e.0, e.1)

-- the first part of a `for`, with its `;`
unfoldable pub start_at : (Span → Bool) → ℕ → List Lexeme → Found StartTree
start_at named inner ts = start_on named inner (begins_local named ts) ts

-- behind the first part of a `for`
unfoldable pub for_on : (Span → Bool) → ℕ → StatementReader → StartTree → List Lexeme → Found StmtTree
for_on named inner sub first ts = ended_at named inner ts >>= λ test. closed_at named inner test.1 >>= λ step. sub step.1
    >>= λ x. Some (made_statement (s.for_statement first test.0 step.0 x.0), x.1)

unfoldable pub for_at : (Span → Bool) → ℕ → StatementReader → List Lexeme → Found StmtTree
for_at named inner sub ts = behind_left_paren ts >>= λ inside. start_at named inner inside >>= λ first. for_on named inner sub first.0 first.1

-- one word and a `;`
abbrev pub word_statement : StmtFormTree → List Lexeme → Found StmtTree
word_statement form ts = behind_semicolon ts >>= λ rest. Some (made_statement form, rest)

unfoldable pub return_at : (Span → Bool) → ℕ → List Lexeme → Found StmtTree
return_at named inner ts = ended_at named inner ts >>= λ e. Some (made_statement (s.return_statement e.0), e.1)

unfoldable pub plain_at : (Span → Bool) → ℕ → List Lexeme → Found StmtTree
plain_at named inner ts = ended_at named inner ts >>= λ e. Some (made_statement (s.expression_statement e.0), e.1)

-- a statement of this kind, whose parts have this room
abbrev pub statement_on : (Span → Bool) → ℕ → StatementReader → SectionReader → Kind → List Lexeme → Found StmtTree
statement_on named inner sub section kind.Block ts = block_at named inner sub (behind_first ts)
statement_on named inner sub section kind.If ts = if_at named inner sub (behind_first ts)
statement_on named inner sub section kind.Switch ts = switch_at named inner section (behind_first ts)
statement_on named inner sub section kind.While ts = while_at named inner sub (behind_first ts)
statement_on named inner sub section kind.Do ts = do_at named inner sub (behind_first ts)
statement_on named inner sub section kind.For ts = for_at named inner sub (behind_first ts)
statement_on named inner sub section kind.Break ts = word_statement s.break_statement (behind_first ts)
statement_on named inner sub section kind.Continue ts = word_statement s.continue_statement (behind_first ts)
statement_on named inner sub section kind.Return ts = return_at named inner (behind_first ts)
statement_on named inner sub section kind.Plain ts = plain_at named inner ts

-- a statement, and a section of a `switch`, of at most this nesting
unfoldable mutual
  pub statement_at : (Span → Bool) → ℕ → List Lexeme → Found StmtTree
  statement_at named zero ts = None
  statement_at named (suc inner) ts = statement_on named inner (statement_at named inner) (section_at named inner) (kind_at ts) ts

  pub section_at : (Span → Bool) → ℕ → List Lexeme → Found SectionTree
  section_at named zero ts = None
  section_at named (suc inner) ts = section_of named inner (statement_at named inner) ts

-- ---- units: all of the tokens

-- a lone `;`
abbrev pub is_semicolon : List Lexeme → Bool
is_semicolon (Token fixed.Semicolon ∷ []) = true
is_semicolon ts = false

abbrev pub is_end : List Lexeme → Bool
is_end [] = true
is_end (t ∷ ts) = false

-- a declaration with nothing behind it
abbrev pub declared_on : DeclarationTree × List Lexeme → Option UnitTree
declared_on d = cond (is_end d.1) (Some (s.declares no_node d.0)) None

-- a function: what stands before its body, as a declaration with one declarator, and its body
abbrev pub function_of : DeclarationTree → StmtTree → Option UnitTree
function_of (s.declaration word b (s.then_declarator d s.no_declarators)) body = Some (s.defines no_node (s.function word b d body))
function_of other body = None

-- a body with nothing behind it
abbrev pub defined_on : DeclarationTree → StmtTree × List Lexeme → Option UnitTree
defined_on front x = cond (is_end x.1) (function_of front x.0) None

-- a function where the body of one begins behind its front, and else a declaration
abbrev pub unit_behind : (Span → Bool) → ℕ → Found DeclarationTree → List Lexeme → Option UnitTree
unit_behind named inner None ts = declaration_at named true inner ts >>= declared_on
unit_behind named inner (Some front) ts = statement_at named inner front.1 >>= defined_on front.0

abbrev pub unit_on : (Span → Bool) → ℕ → Bool → List Lexeme → Option UnitTree
unit_on named inner true ts = Some (s.empty_unit no_node)
unit_on named inner false ts = unit_behind named inner (front_at named inner ts) ts

-- the unit that all of these tokens are, of at most this nesting
unfoldable pub unit_within : (Span → Bool) → ℕ → List Lexeme → Option UnitTree
unit_within named zero ts = None
unit_within named (suc inner) ts = unit_on named inner (is_semicolon ts) ts

-- the unit that all of these tokens are
abbrev pub unit_at : (Span → Bool) → List Lexeme → Option UnitTree
unit_at named ts = unit_within named most_nesting ts
