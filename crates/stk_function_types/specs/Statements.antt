-- Statements (C11 6.8): the facts of their nodes, in the order of the numbers, up to the first node that a rule
-- refuses.
use Rattle.std.specs.Prelude.{ℕ, Bool, true, false, not, ◌&&◌, ◌||◌, if◌then◌else◌, List, [], Option, Some, None}
use Rattle.stk_ctype.specs.declared.kind.IntKind.{IntKind}
use Rattle.stk_ctype.specs.Types.{TypeTree}
use Rattle.stk_tree.specs.Syntax.{ExprTree, MaybeExprTree, StartTree, StmtTree, StmtTrees, MaybeStmtTree, StmtFormTree, PartTree, PartTrees, SectionTree, SectionTrees}
use Rattle.stk_tree.specs.Syntax as s
use Rattle.stk_type_rules.specs.Facts.{Fact, Ruled, Breaks, Fits, plain}
use Rattle.stk_type_rules.specs.Outcome.{Outcome, Good, and_then, finish}
use Rattle.stk_type_rules.specs.Types.{decayed, is_scalar, is_struct, is_void, kind_of}
use Rattle.stk_typing.specs.Locals.{Local}
use Rattle.stk_typing.specs.Scope.{Scope}
use Rattle.stk_typing.specs.Typing.{expression_typed}
use Rattle.stk_function_types.specs.Bodies.{Body, with_more, opened, looped, switched}
use Rattle.stk_function_types.specs.Locals.{declaration_typed}
use Rattle.stk_function_types.specs.Sections.{Labelled, unlabelled, carried, labels_typed, section_rule}

-- an expression that may be missing
abbrev pub maybe_typed : Scope → MaybeExprTree → Outcome (Option Fact)
maybe_typed scope s.no_expression = Good None []
maybe_typed scope (s.some_expression e) = and_then (expression_typed scope e) (λ x. Good (Some x) [])

-- whether an expression that may be missing is a struct
abbrev pub has_struct : Option Fact → Bool
has_struct None = false
has_struct (Some x) = is_struct x.ty

-- whether one that is there is no scalar
abbrev pub lacks_scalar : Option Fact → Bool
lacks_scalar None = false
lacks_scalar (Some x) = not (is_scalar (decayed x.ty))

-- an expression as a statement is no struct
abbrev pub discarded_rule : Option Fact → Ruled
discarded_rule x = if has_struct x then Breaks 9 else Fits plain

-- what is tested is a scalar
abbrev pub test_rule : Option Fact → Ruled
test_rule x = if lacks_scalar x then Breaks 6 else Fits plain

-- what a `switch` tests is an integer
abbrev pub switch_rule : Option IntKind → Ruled
switch_rule None = Breaks 6
switch_rule (Some k) = Fits plain

-- a `for`: its test is a scalar, and its first part and its step are no structs
abbrev pub for_rule : Option Fact → Option Fact → Option Fact → Ruled
for_rule start test step = if lacks_scalar test then Breaks 6 else (if has_struct start || has_struct step then Breaks 9 else Fits plain)

-- `break` and `continue` leave something
abbrev pub leave_rule : Bool → Ruled
leave_rule true = Fits plain
leave_rule false = Breaks 13

-- a value that a function returns whose result has this type: a scalar, which converts to scalars alone
abbrev pub return_value : TypeTree → Fact → Ruled
return_value t x =
    if is_struct x.ty then Breaks 9 else
    (if is_void t then Breaks 14 else (if is_scalar t && is_scalar (decayed x.ty) then Fits plain else Breaks 6))

abbrev pub return_rule : TypeTree → Option Fact → Ruled
return_rule t None = if is_void t then Fits plain else Breaks 14
return_rule t (Some x) = return_value t x

-- the first part of a `for`: the locals that it brings into force, and its expression
pub record Started : Type 0 where
  pub locals : List Local
  pub value : Option Fact

abbrev pub start_typed : Body → StartTree → Outcome Started
start_typed b (s.start_declaration d) = and_then (declaration_typed b d) (λ ls. Good (record { locals = ls; value = None }) [])
start_typed b (s.start_expression e) = and_then (maybe_typed b.scope e) (λ x. Good (record { locals = []; value = x }) [])

abbrev mutual
  pub statement_typed : Body → StmtTree → Outcome Fact
  statement_typed b (s.statement n f) = form_typed b n.number f

  pub form_typed : Body → ℕ → StmtFormTree → Outcome Fact
  form_typed b k (s.block ps) = and_then (parts_typed (opened b) ps) (λ u. finish k (Fits plain))
  form_typed b k (s.expression_statement e) = and_then (maybe_typed b.scope e) (λ x. finish k (discarded_rule x))
  form_typed b k (s.if_statement e x y) =
      and_then (expression_typed b.scope e) (λ t. and_then (statement_typed b x) (λ u. and_then (maybe_statement_typed b y) (λ v. finish k (test_rule (Some t)))))
  form_typed b k (s.switch_statement e ss) =
      and_then (expression_typed b.scope e) (λ t. and_then (sections_typed (switched b) (kind_of t.ty) unlabelled ss) (λ l. finish k (switch_rule (kind_of t.ty))))
  form_typed b k (s.while_statement e x) = and_then (expression_typed b.scope e) (λ t. and_then (statement_typed (looped b) x) (λ u. finish k (test_rule (Some t))))
  form_typed b k (s.do_statement x e) = and_then (statement_typed (looped b) x) (λ u. and_then (expression_typed b.scope e) (λ t. finish k (test_rule (Some t))))
  form_typed b k (s.for_statement start test step x) =
      and_then (start_typed (opened b) start) (λ first.
      let inner = with_more (opened b) first.locals in
      and_then (maybe_typed inner.scope test) (λ t. and_then (maybe_typed inner.scope step) (λ v.
      and_then (statement_typed (looped inner) x) (λ u. finish k (for_rule first.value t v)))))
  form_typed b k s.break_statement = finish k (leave_rule b.can_break)
  form_typed b k s.continue_statement = finish k (leave_rule b.can_continue)
  form_typed b k (s.return_statement e) = and_then (maybe_typed b.scope e) (λ x. finish k (return_rule b.returns x))

  pub maybe_statement_typed : Body → MaybeStmtTree → Outcome (Unit {0})
  maybe_statement_typed b s.no_statement = Good tt []
  maybe_statement_typed b (s.some_statement x) = and_then (statement_typed b x) (λ u. Good tt [])

  pub statements_typed : Body → StmtTrees → Outcome (Unit {0})
  statements_typed b s.no_statements = Good tt []
  statements_typed b (s.then_statement x xs) = and_then (statement_typed b x) (λ u. statements_typed b xs)

  -- the parts of a block, each with the locals before it in force
  pub parts_typed : Body → PartTrees → Outcome (Unit {0})
  parts_typed b s.no_parts = Good tt []
  parts_typed b (s.then_part p ps) = and_then (part_typed b p) (λ ls. parts_typed (with_more b ls) ps)

  -- the locals that a part brings into force
  pub part_typed : Body → PartTree → Outcome (List Local)
  part_typed b (s.local d) = declaration_typed b d
  part_typed b (s.run x) = and_then (statement_typed b x) (λ u. Good [] [])

  -- the sections of a `switch` whose controlling expression has this kind, behind labels
  pub sections_typed : Body → Option IntKind → Labelled → SectionTrees → Outcome Labelled
  sections_typed b kind l s.no_sections = Good l []
  sections_typed b kind l (s.then_section x xs) = and_then (section_typed b kind l x) (λ m. sections_typed b kind m xs)

  pub section_typed : Body → Option IntKind → Labelled → SectionTree → Outcome Labelled
  section_typed b kind l (s.section n ls xs) =
      and_then (labels_typed b.scope kind (carried l) ls) (λ m. and_then (statements_typed b xs) (λ u. and_then (finish n.number (section_rule m)) (λ x. Good m [])))
