-- Parts of trees that definitions ask for.
use Rattle.std.specs.Prelude.{Bool, true, false, Option, Some, None}
use Rattle.stk_base.specs.declared.span.Span.{Span}
use Rattle.stk_tree.specs.declared.declaration.Storage.{Storage}
use Rattle.stk_tree.specs.declared.declaration.Storage.TheVariants.{Typedef, Extern, Static}
use Rattle.stk_tree.specs.Syntax.{ExprTree, ExprFormTree, TailTree, DeclrTree, ParamTrees}
use Rattle.stk_tree.specs.Syntax as s

-- whether a storage word is `static` (C11 6.7.1)
abbrev pub is_static : Option Storage → Bool
is_static None = false
is_static (Some Typedef) = false
is_static (Some Extern) = false
is_static (Some Static) = true

-- the parameters that a declarator of a function has
abbrev pub parameters_in : TailTree → ParamTrees
parameters_in (s.arrays sizes) = s.no_parameters
parameters_in s.unspecified = s.no_parameters
parameters_in s.void_parameters = s.no_parameters
parameters_in (s.with_parameters ps more) = ps

abbrev pub declared_parameters : DeclrTree → ParamTrees
declared_parameters (s.declarator n count at tail init) = parameters_in tail

-- an expression without the parentheses round it (C11 6.5.1p5)
abbrev mutual
  pub bare : ExprTree → ExprTree
  bare (s.expression n f) = bare_form (s.expression n f) f

  pub bare_form : ExprTree → ExprFormTree → ExprTree
  bare_form whole (s.name at) = whole
  bare_form whole (s.number at) = whole
  bare_form whole (s.character at) = whole
  bare_form whole (s.text parts) = whole
  bare_form whole (s.paren e) = bare e
  bare_form whole (s.index a b) = whole
  bare_form whole (s.call e es) = whole
  bare_form whole (s.dot e at) = whole
  bare_form whole (s.arrow e at) = whole
  bare_form whole (s.step op e) = whole
  bare_form whole (s.unary op e) = whole
  bare_form whole (s.size_expression e) = whole
  bare_form whole (s.size_name t) = whole
  bare_form whole (s.cast t e) = whole
  bare_form whole (s.binary op a b) = whole
  bare_form whole (s.choice a b c) = whole
  bare_form whole (s.assign op a b) = whole

-- the name that an expression is (C11 6.5.1p2)
abbrev pub name_in : ExprFormTree → Option Span
name_in (s.name at) = Some at
name_in (s.number at) = None
name_in (s.character at) = None
name_in (s.text parts) = None
name_in (s.paren e) = None
name_in (s.index a b) = None
name_in (s.call e es) = None
name_in (s.dot e at) = None
name_in (s.arrow e at) = None
name_in (s.step op e) = None
name_in (s.unary op e) = None
name_in (s.size_expression e) = None
name_in (s.size_name t) = None
name_in (s.cast t e) = None
name_in (s.binary op a b) = None
name_in (s.choice a b c) = None
name_in (s.assign op a b) = None
