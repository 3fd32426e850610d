-- A part of a declaration uses at most as many tags as it prints tokens.
use Rattle.std.proofs.Common.{◌≡◌, ◌≤◌, ◌+◌, suc, List, length, refl, arith}
use Rattle.std.proofs.lemmas.List.{length-append}
use Rattle.stk_tree.specs.declared.fixed.Lexeme.{Lexeme}
use Rattle.stk_tree.specs.declared.expression.StepOp.{StepOp}
use Rattle.stk_tree.specs.declared.expression.StepOp.TheVariants.{IncBefore, DecBefore, IncAfter, DecAfter}
use Rattle.stk_tree.specs.Syntax.{BaseFormTree, BaseTree, DeclrTree, DimensionTree, DimensionTrees, ExprFormTree, ExprTree, ExprTrees, ParamTree, ParamTrees, TailTree, TypeNameTree}
use Rattle.stk_tree.specs.Syntax as s
use Rattle.stk_tree.specs.Tokens.{base_form_tokens, base_tokens, declarator_tokens, dimension_tokens, dimensions_tokens, expression_form_tokens, expression_tokens, expressions_tokens, more_expressions, more_parameters, parameter_tokens, parameters_tokens, step_tokens, tail_tokens, type_name_tokens}
use Rattle.stk_declarators.specs.Uses.{base_uses, declarator_uses, dimension_uses, dimensions_uses, expression_form_uses, expression_uses, expressions_uses, form_uses, parameter_uses, parameters_uses, tail_uses, type_name_uses}

step_width : (op : StepOp) (ts : List Lexeme) → length (step_tokens op ts) ≡ suc (length ts)
step_width IncBefore ts = refl
step_width DecBefore ts = refl
step_width IncAfter ts = simp length-append (omega arith)
step_width DecAfter ts = simp length-append (omega arith)

pub form_few : (f : BaseFormTree) → length (form_uses f) ≤ length (base_form_tokens f)
form_few (s.words ws) = omega arith
form_few (s.struct_ref at) = omega arith
form_few (s.struct_def at ms) = omega arith
form_few (s.enum_ref at) = omega arith
form_few (s.enum_def at es comma) = omega arith
form_few (s.named at) = omega arith

pub base_few : (b : BaseTree) → length (base_uses b) ≤ length (base_tokens b)
base_few (s.base n f) = form_few f

mutual
  pub expression_few : (e : ExprTree) → length (expression_uses e) ≤ length (expression_tokens e)
  expression_few (s.expression n f) = expression_form_few f

  pub expression_form_few : (f : ExprFormTree) → length (expression_form_uses f) ≤ length (expression_form_tokens f)
  expression_form_few (s.name at) = omega arith
  expression_form_few (s.number at) = omega arith
  expression_form_few (s.character at) = omega arith
  expression_form_few (s.text parts) = omega arith
  expression_form_few (s.paren e) = simp length-append (omega (arith, expression_few e))
  expression_form_few (s.index a b) = simp length-append (omega (arith, expression_few a, expression_few b))
  expression_form_few (s.call f args) = simp length-append (omega (arith, expression_few f, expressions_few args))
  expression_form_few (s.dot e at) = simp length-append (omega (arith, expression_few e))
  expression_form_few (s.arrow e at) = simp length-append (omega (arith, expression_few e))
  expression_form_few (s.step op e) = (let wide = step_width op (expression_tokens e) in omega (arith, wide, expression_few e))
  expression_form_few (s.unary op e) = omega (arith, expression_few e)
  expression_form_few (s.size_expression e) = omega (arith, expression_few e)
  expression_form_few (s.size_name t) = simp length-append (omega (arith, type_name_few t))
  expression_form_few (s.cast t e) = simp length-append (omega (arith, type_name_few t, expression_few e))
  expression_form_few (s.binary op a b) = simp length-append (omega (arith, expression_few a, expression_few b))
  expression_form_few (s.choice a b c) = simp length-append (omega (arith, expression_few a, expression_few b, expression_few c))
  expression_form_few (s.assign op a b) = simp length-append (omega (arith, expression_few a, expression_few b))

  pub expressions_few : (es : ExprTrees) → length (expressions_uses es) ≤ length (expressions_tokens es)
  expressions_few s.no_expressions = omega arith
  expressions_few (s.then_expression e es) = simp length-append (omega (arith, expression_few e, more_few es))

  pub more_few : (es : ExprTrees) → length (expressions_uses es) ≤ length (more_expressions es)
  more_few s.no_expressions = omega arith
  more_few (s.then_expression e es) = simp length-append (omega (arith, expression_few e, more_few es))

  pub type_name_few : (t : TypeNameTree) → length (type_name_uses t) ≤ length (type_name_tokens t)
  type_name_few (s.type_name n b count ds) = simp length-append (omega (arith, base_few b, dimensions_few ds))

  pub dimension_few : (d : DimensionTree) → length (dimension_uses d) ≤ length (dimension_tokens d)
  dimension_few s.open_dimension = omega arith
  dimension_few (s.sized e) = simp length-append (omega (arith, expression_few e))

  pub dimensions_few : (ds : DimensionTrees) → length (dimensions_uses ds) ≤ length (dimensions_tokens ds)
  dimensions_few s.no_dimensions = omega arith
  dimensions_few (s.then_dimension d ds) = simp length-append (omega (arith, dimension_few d, dimensions_few ds))

mutual
  pub declarator_few : (d : DeclrTree) → length (declarator_uses d) ≤ length (declarator_tokens d)
  declarator_few (s.declarator n count at t i) = simp length-append (omega (arith, tail_few t))

  pub tail_few : (t : TailTree) → length (tail_uses t) ≤ length (tail_tokens t)
  tail_few (s.arrays ds) = dimensions_few ds
  tail_few s.unspecified = omega arith
  tail_few s.void_parameters = omega arith
  tail_few (s.with_parameters ps more) = simp length-append (omega (arith, parameters_few ps))

  pub parameter_few : (p : ParamTree) → length (parameter_uses p) ≤ length (parameter_tokens p)
  parameter_few (s.parameter n b d) = simp length-append (omega (arith, base_few b, declarator_few d))

  pub parameters_few : (ps : ParamTrees) → length (parameters_uses ps) ≤ length (parameters_tokens ps)
  parameters_few s.no_parameters = omega arith
  parameters_few (s.then_parameter p ps) = simp length-append (omega (arith, parameter_few p, more_parameters_few ps))

  pub more_parameters_few : (ps : ParamTrees) → length (parameters_uses ps) ≤ length (more_parameters ps)
  more_parameters_few s.no_parameters = omega arith
  more_parameters_few (s.then_parameter p ps) = simp length-append (omega (arith, parameter_few p, more_parameters_few ps))
