-- The tags that expressions, type names and declarators use, in the order in which they stand (C11 6.7.2.3).
use Rattle.std.specs.Prelude.{List, [], ◌∷◌, ◌++◌}
use Rattle.stk_tree.specs.Syntax.{BaseTree, BaseFormTree, ExprTree, ExprTrees, ExprFormTree, TypeNameTree, DimensionTree, DimensionTrees, DeclrTree, TailTree, ParamTree, ParamTrees}
use Rattle.stk_tree.specs.Syntax as s
use Rattle.stk_declarators.specs.declared.uses.TagUse.{TagUse}
use Rattle.stk_declarators.specs.declared.uses.TagUse.TheVariants as used

-- the use that a base without braces is
abbrev pub form_uses : BaseFormTree → List TagUse
form_uses (s.words ws) = []
form_uses (s.struct_ref at) = used.Struct at ∷ []
form_uses (s.struct_def at ms) = []
form_uses (s.enum_ref at) = used.Enumeration at ∷ []
form_uses (s.enum_def at es comma) = []
form_uses (s.named at) = []

abbrev pub base_uses : BaseTree → List TagUse
base_uses (s.base n f) = form_uses f

abbrev mutual
  pub expression_uses : ExprTree → List TagUse
  expression_uses (s.expression n f) = expression_form_uses f

  pub expression_form_uses : ExprFormTree → List TagUse
  expression_form_uses (s.name at) = []
  expression_form_uses (s.number at) = []
  expression_form_uses (s.character at) = []
  expression_form_uses (s.text parts) = []
  expression_form_uses (s.paren e) = expression_uses e
  expression_form_uses (s.index a b) = expression_uses a ++ expression_uses b
  expression_form_uses (s.call f args) = expression_uses f ++ expressions_uses args
  expression_form_uses (s.dot e at) = expression_uses e
  expression_form_uses (s.arrow e at) = expression_uses e
  expression_form_uses (s.step op e) = expression_uses e
  expression_form_uses (s.unary op e) = expression_uses e
  expression_form_uses (s.size_expression e) = expression_uses e
  expression_form_uses (s.size_name t) = type_name_uses t
  expression_form_uses (s.cast t e) = type_name_uses t ++ expression_uses e
  expression_form_uses (s.binary op a b) = expression_uses a ++ expression_uses b
  expression_form_uses (s.choice a b c) = expression_uses a ++ (expression_uses b ++ expression_uses c)
  expression_form_uses (s.assign op a b) = expression_uses a ++ expression_uses b

  pub expressions_uses : ExprTrees → List TagUse
  expressions_uses s.no_expressions = []
  expressions_uses (s.then_expression e es) = expression_uses e ++ expressions_uses es

  pub type_name_uses : TypeNameTree → List TagUse
  type_name_uses (s.type_name n b count ds) = base_uses b ++ dimensions_uses ds

  pub dimension_uses : DimensionTree → List TagUse
  dimension_uses s.open_dimension = []
  dimension_uses (s.sized e) = expression_uses e

  pub dimensions_uses : DimensionTrees → List TagUse
  dimensions_uses s.no_dimensions = []
  dimensions_uses (s.then_dimension d ds) = dimension_uses d ++ dimensions_uses ds

abbrev mutual
  -- a declarator, without its initialiser
  pub declarator_uses : DeclrTree → List TagUse
  declarator_uses (s.declarator n count at t i) = tail_uses t

  -- array parts or parameters
  pub tail_uses : TailTree → List TagUse
  tail_uses (s.arrays ds) = dimensions_uses ds
  tail_uses s.unspecified = []
  tail_uses s.void_parameters = []
  tail_uses (s.with_parameters ps more) = parameters_uses ps

  -- a parameter: its base and its declarator
  pub parameter_uses : ParamTree → List TagUse
  parameter_uses (s.parameter n b d) = base_uses b ++ declarator_uses d

  pub parameters_uses : ParamTrees → List TagUse
  parameters_uses s.no_parameters = []
  parameters_uses (s.then_parameter p ps) = parameter_uses p ++ parameters_uses ps
