-- The syntax of C as a tree, without where it lies in memory: a type for each type of the code, and for each list and
-- option of children.
use Rattle.std.specs.Prelude.{ℕ, Bool, List, Option}
use Rattle.stk_base.specs.declared.span.Span.{Span}
use Rattle.stk_tree.specs.declared.node.Node.{Node}
use Rattle.stk_tree.specs.declared.fixed.Fixed.{Fixed}
use Rattle.stk_tree.specs.declared.declaration.Storage.{Storage}
use Rattle.stk_tree.specs.declared.expression.StepOp.{StepOp}
use Rattle.stk_tree.specs.declared.expression.UnaryOp.{UnaryOp}
use Rattle.stk_tree.specs.declared.expression.BinaryOp.{BinaryOp}
use Rattle.stk_tree.specs.declared.expression.AssignOp.{AssignOp}

-- expressions, and the type names, declarators, bases and initialisers that hold expressions
mutual
  -- the type specifiers that a declaration begins with (C11 6.7.2)
  pub data BaseTree : Type 0 where
    base : Node → BaseFormTree → BaseTree

  -- basic words; `struct tag`; `struct [tag] { members }`; `enum tag`; `enum [tag] { enumerators }`, with whether a
  -- comma stands before the brace; a typedef name
  pub data BaseFormTree : Type 0 where
    words : List Fixed → BaseFormTree
    struct_ref : Span → BaseFormTree
    struct_def : Option Span → MemberTrees → BaseFormTree
    enum_ref : Span → BaseFormTree
    enum_def : Option Span → EnumrTrees → Bool → BaseFormTree
    named : Span → BaseFormTree

  -- the members of one base (C11 6.7.2.1)
  pub data MemberTree : Type 0 where
    member : BaseTree → DeclrTrees → MemberTree

  pub data MemberTrees : Type 0 where
    no_members : MemberTrees
    then_member : MemberTree → MemberTrees → MemberTrees

  -- an enumerator with its value, where one is given (C11 6.7.2.2)
  pub data EnumrTree : Type 0 where
    enumerator : Span → MaybeExprTree → EnumrTree

  pub data EnumrTrees : Type 0 where
    no_enumerators : EnumrTrees
    then_enumerator : EnumrTree → EnumrTrees → EnumrTrees

  -- a declarator: how many `*`, the name, what follows the name, the initialiser (C11 6.7.6)
  pub data DeclrTree : Type 0 where
    declarator : Node → ℕ → Option Span → TailTree → MaybeInitTree → DeclrTree

  pub data DeclrTrees : Type 0 where
    no_declarators : DeclrTrees
    then_declarator : DeclrTree → DeclrTrees → DeclrTrees

  -- array parts; `()`; `(void)`; parameters, with whether `...` follows
  pub data TailTree : Type 0 where
    arrays : DimensionTrees → TailTree
    unspecified : TailTree
    void_parameters : TailTree
    with_parameters : ParamTrees → Bool → TailTree

  -- `[]` or `[e]` (C11 6.7.6.2)
  pub data DimensionTree : Type 0 where
    open_dimension : DimensionTree
    sized : ExprTree → DimensionTree

  pub data DimensionTrees : Type 0 where
    no_dimensions : DimensionTrees
    then_dimension : DimensionTree → DimensionTrees → DimensionTrees

  -- a parameter (C11 6.7.6.3)
  pub data ParamTree : Type 0 where
    parameter : Node → BaseTree → DeclrTree → ParamTree

  pub data ParamTrees : Type 0 where
    no_parameters : ParamTrees
    then_parameter : ParamTree → ParamTrees → ParamTrees

  -- a type name: the base, how many `*`, the array parts (C11 6.7.7)
  pub data TypeNameTree : Type 0 where
    type_name : Node → BaseTree → ℕ → DimensionTrees → TypeNameTree

  -- an expression, or items in braces, with whether a comma stands before the brace (C11 6.7.9)
  pub data InitTree : Type 0 where
    plain : ExprTree → InitTree
    braces : ItemTrees → Bool → InitTree

  pub data MaybeInitTree : Type 0 where
    no_initialiser : MaybeInitTree
    some_initialiser : InitTree → MaybeInitTree

  -- an item in braces: the designators before it, and its initialiser
  pub data ItemTree : Type 0 where
    item : DesigTrees → InitTree → ItemTree

  pub data ItemTrees : Type 0 where
    no_items : ItemTrees
    then_item : ItemTree → ItemTrees → ItemTrees

  -- `.member` or `[e]`
  pub data DesigTree : Type 0 where
    dot_designator : Span → DesigTree
    at_designator : ExprTree → DesigTree

  pub data DesigTrees : Type 0 where
    no_designators : DesigTrees
    then_designator : DesigTree → DesigTrees → DesigTrees

  -- an expression (C11 6.5)
  pub data ExprTree : Type 0 where
    expression : Node → ExprFormTree → ExprTree

  pub data ExprTrees : Type 0 where
    no_expressions : ExprTrees
    then_expression : ExprTree → ExprTrees → ExprTrees

  pub data MaybeExprTree : Type 0 where
    no_expression : MaybeExprTree
    some_expression : ExprTree → MaybeExprTree

  -- what an expression is made of
  pub data ExprFormTree : Type 0 where
    name : Span → ExprFormTree
    number : Span → ExprFormTree
    character : Span → ExprFormTree
    text : List Span → ExprFormTree
    paren : ExprTree → ExprFormTree
    index : ExprTree → ExprTree → ExprFormTree
    call : ExprTree → ExprTrees → ExprFormTree
    dot : ExprTree → Span → ExprFormTree
    arrow : ExprTree → Span → ExprFormTree
    step : StepOp → ExprTree → ExprFormTree
    unary : UnaryOp → ExprTree → ExprFormTree
    size_expression : ExprTree → ExprFormTree
    size_name : TypeNameTree → ExprFormTree
    cast : TypeNameTree → ExprTree → ExprFormTree
    binary : BinaryOp → ExprTree → ExprTree → ExprFormTree
    choice : ExprTree → ExprTree → ExprTree → ExprFormTree
    assign : AssignOp → ExprTree → ExprTree → ExprFormTree

-- a declaration: the storage word, the base, the declarators (C11 6.7)
pub data DeclarationTree : Type 0 where
  declaration : Option Storage → BaseTree → DeclrTrees → DeclarationTree

-- the first part of a `for`: a declaration, or `[e] ;` (C11 6.8.5.3)
pub data StartTree : Type 0 where
  start_declaration : DeclarationTree → StartTree
  start_expression : MaybeExprTree → StartTree

-- a label of a `switch` (C11 6.8.1)
pub data LabelTree : Type 0 where
  default_label : LabelTree
  case_label : ExprTree → LabelTree

pub data LabelTrees : Type 0 where
  no_labels : LabelTrees
  then_label : LabelTree → LabelTrees → LabelTrees

-- statements, and the blocks and sections that hold statements
mutual
  -- a statement (C11 6.8)
  pub data StmtTree : Type 0 where
    statement : Node → StmtFormTree → StmtTree

  pub data StmtTrees : Type 0 where
    no_statements : StmtTrees
    then_statement : StmtTree → StmtTrees → StmtTrees

  pub data MaybeStmtTree : Type 0 where
    no_statement : MaybeStmtTree
    some_statement : StmtTree → MaybeStmtTree

  -- what a statement is made of
  pub data StmtFormTree : Type 0 where
    block : PartTrees → StmtFormTree
    expression_statement : MaybeExprTree → StmtFormTree
    if_statement : ExprTree → StmtTree → MaybeStmtTree → StmtFormTree
    switch_statement : ExprTree → SectionTrees → StmtFormTree
    while_statement : ExprTree → StmtTree → StmtFormTree
    do_statement : StmtTree → ExprTree → StmtFormTree
    for_statement : StartTree → MaybeExprTree → MaybeExprTree → StmtTree → StmtFormTree
    break_statement : StmtFormTree
    continue_statement : StmtFormTree
    return_statement : MaybeExprTree → StmtFormTree

  -- a declaration or a statement of a block (C11 6.8.2)
  pub data PartTree : Type 0 where
    local : DeclarationTree → PartTree
    run : StmtTree → PartTree

  pub data PartTrees : Type 0 where
    no_parts : PartTrees
    then_part : PartTree → PartTrees → PartTrees

  -- labels in a row, and the statements up to the next label
  pub data SectionTree : Type 0 where
    section : Node → LabelTrees → StmtTrees → SectionTree

  pub data SectionTrees : Type 0 where
    no_sections : SectionTrees
    then_section : SectionTree → SectionTrees → SectionTrees

-- a function definition: the storage word, the base, the declarator, the body (C11 6.9.1)
pub data FunctionTree : Type 0 where
  function : Option Storage → BaseTree → DeclrTree → StmtTree → FunctionTree

-- a lone `;`, a declaration or a function definition (C11 6.9)
pub data UnitTree : Type 0 where
  empty_unit : Node → UnitTree
  declares : Node → DeclarationTree → UnitTree
  defines : Node → FunctionTree → UnitTree
