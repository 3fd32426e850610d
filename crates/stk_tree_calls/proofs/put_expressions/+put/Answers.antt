use Rattle.std.proofs.Common.{arith, rules}
use Rattle.std.proofs.lemmas.Grind.{common_steps}
use Rattle.stk_tree_calls.proofs.put_expressions.+put.Goals as goal
use Rattle.stk_tree.specs.declared.declaration.BaseForm.TheFolds.{the_lemmas}

-- The check would prove these goals by itself, but only after searches that fail. With the equations of the folds
-- `grind` is quick. Without them it is quicker still, where no tree is taken apart: at bounds and errors, in helpers,
-- and at most goals of loops.
pub put_arguments-put_expressions-requires : goal.put_arguments-put_expressions-requires
put_arguments-put_expressions-requires t c = grind (arith, common_steps)

pub put_arguments-returns-in_err-put_expressions : goal.put_arguments-returns-in_err-put_expressions
put_arguments-returns-in_err-put_expressions t c = search rules

pub put_arguments-returns : goal.put_arguments-returns
put_arguments-returns t c = grind (arith, common_steps)

pub put_base-put_base_form-requires : goal.put_base-put_base_form-requires
put_base-put_base_form-requires t c = grind (the_lemmas, arith, common_steps)

pub put_base-returns : goal.put_base-returns
put_base-returns t c = grind (the_lemmas, arith, common_steps)

pub put_base_form-put_struct-requires : goal.put_base_form-put_struct-requires
put_base_form-put_struct-requires t c = grind (the_lemmas, arith, common_steps)

pub put_base_form-put_enum-requires : goal.put_base_form-put_enum-requires
put_base_form-put_enum-requires t c = grind (the_lemmas, arith, common_steps)

pub put_base_form-returns-in-Words : goal.put_base_form-returns-in-Words
put_base_form-returns-in-Words t c = grind (the_lemmas, arith, common_steps)

pub put_base_form-returns-in-StructRef : goal.put_base_form-returns-in-StructRef
put_base_form-returns-in-StructRef t c = grind (the_lemmas, arith, common_steps)

pub put_base_form-returns-in-StructDef : goal.put_base_form-returns-in-StructDef
put_base_form-returns-in-StructDef t c = grind (the_lemmas, arith, common_steps)

pub put_base_form-returns-in-EnumRef : goal.put_base_form-returns-in-EnumRef
put_base_form-returns-in-EnumRef t c = grind (the_lemmas, arith, common_steps)

pub put_base_form-returns-in-EnumDef : goal.put_base_form-returns-in-EnumDef
put_base_form-returns-in-EnumDef t c = grind (the_lemmas, arith, common_steps)

pub put_base_form-returns-in-Named : goal.put_base_form-returns-in-Named
put_base_form-returns-in-Named t c = grind (the_lemmas, arith, common_steps)

pub put_before-put_expression-requires : goal.put_before-put_expression-requires
put_before-put_expression-requires t c = grind (arith, common_steps)

pub put_before-returns-in_err-put_expression : goal.put_before-returns-in_err-put_expression
put_before-returns-in_err-put_expression t c = search rules

pub put_before-returns : goal.put_before-returns
put_before-returns t c = grind (arith, common_steps)

pub put_behind-returns-in_err-put_punctuator : goal.put_behind-returns-in_err-put_punctuator
put_behind-returns-in_err-put_punctuator t c = search rules

pub put_behind-put_expression-requires : goal.put_behind-put_expression-requires
put_behind-put_expression-requires t c = grind (arith, common_steps)

pub put_behind-returns : goal.put_behind-returns
put_behind-returns t c = grind (arith, common_steps)

pub put_braces-returns-in_err-put_punctuator : goal.put_braces-returns-in_err-put_punctuator
put_braces-returns-in_err-put_punctuator t c = search rules

pub put_braces-put_items-requires : goal.put_braces-put_items-requires
put_braces-put_items-requires t c = grind (arith, common_steps)

pub put_braces-returns-in_err-put_items : goal.put_braces-returns-in_err-put_items
put_braces-returns-in_err-put_items t c = search rules

pub put_braces-returns : goal.put_braces-returns
put_braces-returns t c = grind (arith, common_steps)

pub put_bracketed-put_behind-requires : goal.put_bracketed-put_behind-requires
put_bracketed-put_behind-requires t c = grind (arith, common_steps)

pub put_bracketed-returns-in_err-put_behind : goal.put_bracketed-returns-in_err-put_behind
put_bracketed-returns-in_err-put_behind t c = search rules

pub put_bracketed-returns : goal.put_bracketed-returns
put_bracketed-returns t c = grind (arith, common_steps)

pub put_declarator-returns-in_err-put_stars : goal.put_declarator-returns-in_err-put_stars
put_declarator-returns-in_err-put_stars t c = search rules

pub put_declarator-returns-in_err-put_optional_word : goal.put_declarator-returns-in_err-put_optional_word
put_declarator-returns-in_err-put_optional_word t c = search rules

pub put_declarator-put_tail-requires : goal.put_declarator-put_tail-requires
put_declarator-put_tail-requires t c = grind (the_lemmas, arith, common_steps)

pub put_declarator-returns-in_err-put_tail : goal.put_declarator-returns-in_err-put_tail
put_declarator-returns-in_err-put_tail t c = search rules

pub put_declarator-put_start_value-requires : goal.put_declarator-put_start_value-requires
put_declarator-put_start_value-requires t c = grind (the_lemmas, arith, common_steps)

pub put_declarator-returns-in-None : goal.put_declarator-returns-in-None
put_declarator-returns-in-None t c = grind (the_lemmas, arith, common_steps)

pub put_declarator-returns-in-Some : goal.put_declarator-returns-in-Some
put_declarator-returns-in-Some t c = grind (the_lemmas, arith, common_steps)

pub put_declarators-slice_bounds-rest-count : goal.put_declarators-slice_bounds-rest-count
put_declarators-slice_bounds-rest-count t c = omega arith

pub put_declarators-bounds-list-0 : goal.put_declarators-bounds-list-0
put_declarators-bounds-list-0 t c = omega arith

pub put_declarators-slice_bounds-rest-start : goal.put_declarators-slice_bounds-rest-start
put_declarators-slice_bounds-rest-start t c = omega arith

pub put_declarators-slice_bounds-rest-end : goal.put_declarators-slice_bounds-rest-end
put_declarators-slice_bounds-rest-end t c = omega arith

pub put_declarators-put_declarator-requires : goal.put_declarators-put_declarator-requires
put_declarators-put_declarator-requires t c = grind (arith, common_steps)

pub put_declarators-returns-in_err-put_declarator : goal.put_declarators-returns-in_err-put_declarator
put_declarators-returns-in_err-put_declarator t c = search rules

pub put_declarators-loop-x-init : goal.put_declarators-loop-x-init
put_declarators-loop-x-init t c = grind (arith, common_steps)

pub put_declarators-offset_bounds-rest-x-index : goal.put_declarators-offset_bounds-rest-x-index
put_declarators-offset_bounds-rest-x-index t c = omega arith

pub put_declarators-returns-in_err-put_punctuator : goal.put_declarators-returns-in_err-put_punctuator
put_declarators-returns-in_err-put_punctuator t c = search rules

pub put_declarators-put_declarator-requires-in-loop-x : goal.put_declarators-put_declarator-requires-in-loop-x
put_declarators-put_declarator-requires-in-loop-x t c = grind (the_lemmas, arith, common_steps)

pub put_declarators-returns-in_err-put_declarator-2 : goal.put_declarators-returns-in_err-put_declarator-2
put_declarators-returns-in_err-put_declarator-2 t c = search rules

pub put_declarators-loop-x-smaller : goal.put_declarators-loop-x-smaller
put_declarators-loop-x-smaller t c = grind (arith, common_steps)

pub put_declarators-loop-x-preserved : goal.put_declarators-loop-x-preserved
put_declarators-loop-x-preserved t c = grind (arith, common_steps)

pub put_declarators-returns-in_default : goal.put_declarators-returns-in_default
put_declarators-returns-in_default t c = grind (arith, common_steps)

pub put_declarators-returns-after-loop-x : goal.put_declarators-returns-after-loop-x
put_declarators-returns-after-loop-x t c = grind (arith, common_steps)

pub put_designator-put_bracketed-requires : goal.put_designator-put_bracketed-requires
put_designator-put_bracketed-requires t c = grind (the_lemmas, arith, common_steps)

pub put_designator-returns-in-Dot : goal.put_designator-returns-in-Dot
put_designator-returns-in-Dot t c = grind (the_lemmas, arith, common_steps)

pub put_designator-returns-in-At : goal.put_designator-returns-in-At
put_designator-returns-in-At t c = grind (the_lemmas, arith, common_steps)

pub put_designators-loop-x-init : goal.put_designators-loop-x-init
put_designators-loop-x-init t c = grind (arith, common_steps)

pub put_designators-offset_bounds-list-x-index : goal.put_designators-offset_bounds-list-x-index
put_designators-offset_bounds-list-x-index t c = omega arith

pub put_designators-put_designator-requires : goal.put_designators-put_designator-requires
put_designators-put_designator-requires t c = grind (the_lemmas, arith, common_steps)

pub put_designators-returns-in_err-put_designator : goal.put_designators-returns-in_err-put_designator
put_designators-returns-in_err-put_designator t c = search rules

pub put_designators-loop-x-smaller : goal.put_designators-loop-x-smaller
put_designators-loop-x-smaller t c = grind (arith, common_steps)

pub put_designators-loop-x-preserved : goal.put_designators-loop-x-preserved
put_designators-loop-x-preserved t c = grind (arith, common_steps)

pub put_designators-returns : goal.put_designators-returns
put_designators-returns t c = grind (arith, common_steps)

pub put_dimension-put_bracketed-requires : goal.put_dimension-put_bracketed-requires
put_dimension-put_bracketed-requires t c = grind (the_lemmas, arith, common_steps)

pub put_dimension-returns-in-Open : goal.put_dimension-returns-in-Open
put_dimension-returns-in-Open t c = grind (the_lemmas, arith, common_steps)

pub put_dimension-returns-in-Sized : goal.put_dimension-returns-in-Sized
put_dimension-returns-in-Sized t c = grind (the_lemmas, arith, common_steps)

pub put_dimensions-loop-x-init : goal.put_dimensions-loop-x-init
put_dimensions-loop-x-init t c = grind (arith, common_steps)

pub put_dimensions-offset_bounds-list-x-index : goal.put_dimensions-offset_bounds-list-x-index
put_dimensions-offset_bounds-list-x-index t c = omega arith

pub put_dimensions-put_dimension-requires : goal.put_dimensions-put_dimension-requires
put_dimensions-put_dimension-requires t c = grind (the_lemmas, arith, common_steps)

pub put_dimensions-returns-in_err-put_dimension : goal.put_dimensions-returns-in_err-put_dimension
put_dimensions-returns-in_err-put_dimension t c = search rules

pub put_dimensions-loop-x-smaller : goal.put_dimensions-loop-x-smaller
put_dimensions-loop-x-smaller t c = grind (arith, common_steps)

pub put_dimensions-loop-x-preserved : goal.put_dimensions-loop-x-preserved
put_dimensions-loop-x-preserved t c = grind (arith, common_steps)

pub put_dimensions-returns : goal.put_dimensions-returns
put_dimensions-returns t c = grind (arith, common_steps)

pub put_enum-returns-in_err-put_opening : goal.put_enum-returns-in_err-put_opening
put_enum-returns-in_err-put_opening t c = search rules

pub put_enum-put_enumerators-requires : goal.put_enum-put_enumerators-requires
put_enum-put_enumerators-requires t c = grind (arith, common_steps)

pub put_enum-returns-in_err-put_enumerators : goal.put_enum-returns-in_err-put_enumerators
put_enum-returns-in_err-put_enumerators t c = search rules

pub put_enum-returns : goal.put_enum-returns
put_enum-returns t c = grind (arith, common_steps)

pub put_enumerator-returns-in_err-put_word : goal.put_enumerator-returns-in_err-put_word
put_enumerator-returns-in_err-put_word t c = search rules

pub put_enumerator-put_behind-requires : goal.put_enumerator-put_behind-requires
put_enumerator-put_behind-requires t c = grind (the_lemmas, arith, common_steps)

pub put_enumerator-returns-in-None : goal.put_enumerator-returns-in-None
put_enumerator-returns-in-None t c = grind (the_lemmas, arith, common_steps)

pub put_enumerator-returns-in-Some : goal.put_enumerator-returns-in-Some
put_enumerator-returns-in-Some t c = grind (the_lemmas, arith, common_steps)

pub put_enumerators-slice_bounds-rest-count : goal.put_enumerators-slice_bounds-rest-count
put_enumerators-slice_bounds-rest-count t c = omega arith

pub put_enumerators-bounds-list-0 : goal.put_enumerators-bounds-list-0
put_enumerators-bounds-list-0 t c = omega arith

pub put_enumerators-slice_bounds-rest-start : goal.put_enumerators-slice_bounds-rest-start
put_enumerators-slice_bounds-rest-start t c = omega arith

pub put_enumerators-slice_bounds-rest-end : goal.put_enumerators-slice_bounds-rest-end
put_enumerators-slice_bounds-rest-end t c = omega arith

pub put_enumerators-put_enumerator-requires : goal.put_enumerators-put_enumerator-requires
put_enumerators-put_enumerator-requires t c = grind (arith, common_steps)

pub put_enumerators-returns-in_err-put_enumerator : goal.put_enumerators-returns-in_err-put_enumerator
put_enumerators-returns-in_err-put_enumerator t c = search rules

pub put_enumerators-loop-x-init : goal.put_enumerators-loop-x-init
put_enumerators-loop-x-init t c = grind (arith, common_steps)

pub put_enumerators-offset_bounds-rest-x-index : goal.put_enumerators-offset_bounds-rest-x-index
put_enumerators-offset_bounds-rest-x-index t c = omega arith

pub put_enumerators-returns-in_err-put_punctuator : goal.put_enumerators-returns-in_err-put_punctuator
put_enumerators-returns-in_err-put_punctuator t c = search rules

pub put_enumerators-put_enumerator-requires-in-loop-x : goal.put_enumerators-put_enumerator-requires-in-loop-x
put_enumerators-put_enumerator-requires-in-loop-x t c = grind (the_lemmas, arith, common_steps)

pub put_enumerators-returns-in_err-put_enumerator-2 : goal.put_enumerators-returns-in_err-put_enumerator-2
put_enumerators-returns-in_err-put_enumerator-2 t c = search rules

pub put_enumerators-loop-x-smaller : goal.put_enumerators-loop-x-smaller
put_enumerators-loop-x-smaller t c = grind (arith, common_steps)

pub put_enumerators-loop-x-preserved : goal.put_enumerators-loop-x-preserved
put_enumerators-loop-x-preserved t c = grind (arith, common_steps)

pub put_enumerators-returns-in_default : goal.put_enumerators-returns-in_default
put_enumerators-returns-in_default t c = grind (arith, common_steps)

pub put_enumerators-returns-after-loop-x : goal.put_enumerators-returns-after-loop-x
put_enumerators-returns-after-loop-x t c = grind (arith, common_steps)

pub put_expression-put_expression_form-requires : goal.put_expression-put_expression_form-requires
put_expression-put_expression_form-requires t c = grind (the_lemmas, arith, common_steps)

pub put_expression-returns : goal.put_expression-returns
put_expression-returns t c = grind (the_lemmas, arith, common_steps)

pub put_expression_form-put_bracketed-requires : goal.put_expression_form-put_bracketed-requires
put_expression_form-put_bracketed-requires t c = grind (the_lemmas, arith, common_steps)

pub put_expression_form-put_before-requires : goal.put_expression_form-put_before-requires
put_expression_form-put_before-requires t c = grind (the_lemmas, arith, common_steps)

pub put_expression_form-returns-in_err-put_before-in-Index : goal.put_expression_form-returns-in_err-put_before-in-Index
put_expression_form-returns-in_err-put_before-in-Index t c = search rules

pub put_expression_form-put_before-requires-in-Index : goal.put_expression_form-put_before-requires-in-Index
put_expression_form-put_before-requires-in-Index t c = grind (the_lemmas, arith, common_steps)

pub put_expression_form-put_before-requires-in-Call : goal.put_expression_form-put_before-requires-in-Call
put_expression_form-put_before-requires-in-Call t c = grind (the_lemmas, arith, common_steps)

pub put_expression_form-returns-in_err-put_before-in-Call : goal.put_expression_form-returns-in_err-put_before-in-Call
put_expression_form-returns-in_err-put_before-in-Call t c = search rules

pub put_expression_form-put_arguments-requires : goal.put_expression_form-put_arguments-requires
put_expression_form-put_arguments-requires t c = grind (the_lemmas, arith, common_steps)

pub put_expression_form-put_member_of-requires : goal.put_expression_form-put_member_of-requires
put_expression_form-put_member_of-requires t c = grind (the_lemmas, arith, common_steps)

pub put_expression_form-put_member_of-requires-in-Arrow : goal.put_expression_form-put_member_of-requires-in-Arrow
put_expression_form-put_member_of-requires-in-Arrow t c = grind (the_lemmas, arith, common_steps)

pub put_expression_form-put_step-requires : goal.put_expression_form-put_step-requires
put_expression_form-put_step-requires t c = grind (the_lemmas, arith, common_steps)

pub put_expression_form-put_behind-requires : goal.put_expression_form-put_behind-requires
put_expression_form-put_behind-requires t c = grind (the_lemmas, arith, common_steps)

pub put_expression_form-put_behind-requires-in-SizeExpr : goal.put_expression_form-put_behind-requires-in-SizeExpr
put_expression_form-put_behind-requires-in-SizeExpr t c = grind (the_lemmas, arith, common_steps)

pub put_expression_form-put_size-requires : goal.put_expression_form-put_size-requires
put_expression_form-put_size-requires t c = grind (the_lemmas, arith, common_steps)

pub put_expression_form-put_type-requires : goal.put_expression_form-put_type-requires
put_expression_form-put_type-requires t c = grind (the_lemmas, arith, common_steps)

pub put_expression_form-returns-in_err-put_type-in-Cast : goal.put_expression_form-returns-in_err-put_type-in-Cast
put_expression_form-returns-in_err-put_type-in-Cast t c = search rules

pub put_expression_form-put_expression-requires : goal.put_expression_form-put_expression-requires
put_expression_form-put_expression-requires t c = grind (the_lemmas, arith, common_steps)

pub put_expression_form-put_before-requires-in-Binary : goal.put_expression_form-put_before-requires-in-Binary
put_expression_form-put_before-requires-in-Binary t c = grind (the_lemmas, arith, common_steps)

pub put_expression_form-returns-in_err-put_before-in-Binary : goal.put_expression_form-returns-in_err-put_before-in-Binary
put_expression_form-returns-in_err-put_before-in-Binary t c = search rules

pub put_expression_form-put_expression-requires-in-Binary : goal.put_expression_form-put_expression-requires-in-Binary
put_expression_form-put_expression-requires-in-Binary t c = grind (the_lemmas, arith, common_steps)

pub put_expression_form-put_before-requires-in-Choice : goal.put_expression_form-put_before-requires-in-Choice
put_expression_form-put_before-requires-in-Choice t c = grind (the_lemmas, arith, common_steps)

pub put_expression_form-returns-in_err-put_before-in-Choice : goal.put_expression_form-returns-in_err-put_before-in-Choice
put_expression_form-returns-in_err-put_before-in-Choice t c = search rules

pub put_expression_form-put_before-requires-in-Choice-2 : goal.put_expression_form-put_before-requires-in-Choice-2
put_expression_form-put_before-requires-in-Choice-2 t c = grind (the_lemmas, arith, common_steps)

pub put_expression_form-returns-in_err-put_before-in-Choice-2 : goal.put_expression_form-returns-in_err-put_before-in-Choice-2
put_expression_form-returns-in_err-put_before-in-Choice-2 t c = search rules

pub put_expression_form-put_expression-requires-in-Choice : goal.put_expression_form-put_expression-requires-in-Choice
put_expression_form-put_expression-requires-in-Choice t c = grind (the_lemmas, arith, common_steps)

pub put_expression_form-put_before-requires-in-Assign : goal.put_expression_form-put_before-requires-in-Assign
put_expression_form-put_before-requires-in-Assign t c = grind (the_lemmas, arith, common_steps)

pub put_expression_form-returns-in_err-put_before-in-Assign : goal.put_expression_form-returns-in_err-put_before-in-Assign
put_expression_form-returns-in_err-put_before-in-Assign t c = search rules

pub put_expression_form-put_expression-requires-in-Assign : goal.put_expression_form-put_expression-requires-in-Assign
put_expression_form-put_expression-requires-in-Assign t c = grind (the_lemmas, arith, common_steps)

pub put_expression_form-returns-in-Name : goal.put_expression_form-returns-in-Name
put_expression_form-returns-in-Name t c = grind (the_lemmas, arith, common_steps)

pub put_expression_form-returns-in-Number : goal.put_expression_form-returns-in-Number
put_expression_form-returns-in-Number t c = grind (the_lemmas, arith, common_steps)

pub put_expression_form-returns-in-Character : goal.put_expression_form-returns-in-Character
put_expression_form-returns-in-Character t c = grind (the_lemmas, arith, common_steps)

pub put_expression_form-returns-in-Text : goal.put_expression_form-returns-in-Text
put_expression_form-returns-in-Text t c = grind (the_lemmas, arith, common_steps)

pub put_expression_form-returns-in-Paren : goal.put_expression_form-returns-in-Paren
put_expression_form-returns-in-Paren t c = grind (the_lemmas, arith, common_steps)

pub put_expression_form-returns-in_ok-put_before-in-Index : goal.put_expression_form-returns-in_ok-put_before-in-Index
put_expression_form-returns-in_ok-put_before-in-Index t c = grind (the_lemmas, arith, common_steps)

pub put_expression_form-returns-in_ok-put_before-in-Call : goal.put_expression_form-returns-in_ok-put_before-in-Call
put_expression_form-returns-in_ok-put_before-in-Call t c = grind (the_lemmas, arith, common_steps)

pub put_expression_form-returns-in-Dot : goal.put_expression_form-returns-in-Dot
put_expression_form-returns-in-Dot t c = grind (the_lemmas, arith, common_steps)

pub put_expression_form-returns-in-Arrow : goal.put_expression_form-returns-in-Arrow
put_expression_form-returns-in-Arrow t c = grind (the_lemmas, arith, common_steps)

pub put_expression_form-returns-in-Step : goal.put_expression_form-returns-in-Step
put_expression_form-returns-in-Step t c = grind (the_lemmas, arith, common_steps)

pub put_expression_form-returns-in-Unary : goal.put_expression_form-returns-in-Unary
put_expression_form-returns-in-Unary t c = grind (the_lemmas, arith, common_steps)

pub put_expression_form-returns-in-SizeExpr : goal.put_expression_form-returns-in-SizeExpr
put_expression_form-returns-in-SizeExpr t c = grind (the_lemmas, arith, common_steps)

pub put_expression_form-returns-in-SizeName : goal.put_expression_form-returns-in-SizeName
put_expression_form-returns-in-SizeName t c = grind (the_lemmas, arith, common_steps)

pub put_expression_form-returns-in_ok-put_type-in-Cast : goal.put_expression_form-returns-in_ok-put_type-in-Cast
put_expression_form-returns-in_ok-put_type-in-Cast t c = grind (the_lemmas, arith, common_steps)

pub put_expression_form-returns-in_ok-put_before-in-Binary : goal.put_expression_form-returns-in_ok-put_before-in-Binary
put_expression_form-returns-in_ok-put_before-in-Binary t c = grind (the_lemmas, arith, common_steps)

pub put_expression_form-returns-in_ok-put_before-in-Choice-2 : goal.put_expression_form-returns-in_ok-put_before-in-Choice-2
put_expression_form-returns-in_ok-put_before-in-Choice-2 t c = grind (the_lemmas, arith, common_steps)

pub put_expression_form-returns-in_ok-put_before-in-Assign : goal.put_expression_form-returns-in_ok-put_before-in-Assign
put_expression_form-returns-in_ok-put_before-in-Assign t c = grind (the_lemmas, arith, common_steps)

pub put_expressions-slice_bounds-rest-count : goal.put_expressions-slice_bounds-rest-count
put_expressions-slice_bounds-rest-count t c = omega arith

pub put_expressions-bounds-list-0 : goal.put_expressions-bounds-list-0
put_expressions-bounds-list-0 t c = omega arith

pub put_expressions-slice_bounds-rest-start : goal.put_expressions-slice_bounds-rest-start
put_expressions-slice_bounds-rest-start t c = omega arith

pub put_expressions-slice_bounds-rest-end : goal.put_expressions-slice_bounds-rest-end
put_expressions-slice_bounds-rest-end t c = omega arith

pub put_expressions-put_expression-requires : goal.put_expressions-put_expression-requires
put_expressions-put_expression-requires t c = grind (arith, common_steps)

pub put_expressions-returns-in_err-put_expression : goal.put_expressions-returns-in_err-put_expression
put_expressions-returns-in_err-put_expression t c = search rules

pub put_expressions-loop-argument-init : goal.put_expressions-loop-argument-init
put_expressions-loop-argument-init t c = grind (arith, common_steps)

pub put_expressions-offset_bounds-rest-argument-index : goal.put_expressions-offset_bounds-rest-argument-index
put_expressions-offset_bounds-rest-argument-index t c = omega arith

pub put_expressions-returns-in_err-put_punctuator : goal.put_expressions-returns-in_err-put_punctuator
put_expressions-returns-in_err-put_punctuator t c = search rules

pub put_expressions-put_expression-requires-in-loop-argument : goal.put_expressions-put_expression-requires-in-loop-argument
put_expressions-put_expression-requires-in-loop-argument t c = grind (the_lemmas, arith, common_steps)

pub put_expressions-returns-in_err-put_expression-2 : goal.put_expressions-returns-in_err-put_expression-2
put_expressions-returns-in_err-put_expression-2 t c = search rules

pub put_expressions-loop-argument-smaller : goal.put_expressions-loop-argument-smaller
put_expressions-loop-argument-smaller t c = grind (arith, common_steps)

pub put_expressions-loop-argument-preserved : goal.put_expressions-loop-argument-preserved
put_expressions-loop-argument-preserved t c = grind (arith, common_steps)

pub put_expressions-returns-in_default : goal.put_expressions-returns-in_default
put_expressions-returns-in_default t c = grind (arith, common_steps)

pub put_expressions-returns-after-loop-argument : goal.put_expressions-returns-after-loop-argument
put_expressions-returns-after-loop-argument t c = grind (arith, common_steps)

pub put_initialiser-put_expression-requires : goal.put_initialiser-put_expression-requires
put_initialiser-put_expression-requires t c = grind (the_lemmas, arith, common_steps)

pub put_initialiser-put_braces-requires : goal.put_initialiser-put_braces-requires
put_initialiser-put_braces-requires t c = grind (the_lemmas, arith, common_steps)

pub put_initialiser-returns-in-Plain : goal.put_initialiser-returns-in-Plain
put_initialiser-returns-in-Plain t c = grind (the_lemmas, arith, common_steps)

pub put_initialiser-returns-in-Braces : goal.put_initialiser-returns-in-Braces
put_initialiser-returns-in-Braces t c = grind (the_lemmas, arith, common_steps)

pub put_item-put_designators-requires : goal.put_item-put_designators-requires
put_item-put_designators-requires t c = grind (the_lemmas, arith, common_steps)

pub put_item-returns-in_err-put_designators : goal.put_item-returns-in_err-put_designators
put_item-returns-in_err-put_designators t c = search rules

pub put_item-returns-in_err-put_path_end : goal.put_item-returns-in_err-put_path_end
put_item-returns-in_err-put_path_end t c = search rules

pub put_item-put_initialiser-requires : goal.put_item-put_initialiser-requires
put_item-put_initialiser-requires t c = grind (the_lemmas, arith, common_steps)

pub put_item-returns : goal.put_item-returns
put_item-returns t c = grind (the_lemmas, arith, common_steps)

pub put_items-slice_bounds-rest-count : goal.put_items-slice_bounds-rest-count
put_items-slice_bounds-rest-count t c = omega arith

pub put_items-bounds-list-0 : goal.put_items-bounds-list-0
put_items-bounds-list-0 t c = omega arith

pub put_items-slice_bounds-rest-start : goal.put_items-slice_bounds-rest-start
put_items-slice_bounds-rest-start t c = omega arith

pub put_items-slice_bounds-rest-end : goal.put_items-slice_bounds-rest-end
put_items-slice_bounds-rest-end t c = omega arith

pub put_items-put_item-requires : goal.put_items-put_item-requires
put_items-put_item-requires t c = grind (arith, common_steps)

pub put_items-returns-in_err-put_item : goal.put_items-returns-in_err-put_item
put_items-returns-in_err-put_item t c = search rules

pub put_items-loop-x-init : goal.put_items-loop-x-init
put_items-loop-x-init t c = grind (arith, common_steps)

pub put_items-offset_bounds-rest-x-index : goal.put_items-offset_bounds-rest-x-index
put_items-offset_bounds-rest-x-index t c = omega arith

pub put_items-returns-in_err-put_punctuator : goal.put_items-returns-in_err-put_punctuator
put_items-returns-in_err-put_punctuator t c = search rules

pub put_items-put_item-requires-in-loop-x : goal.put_items-put_item-requires-in-loop-x
put_items-put_item-requires-in-loop-x t c = grind (the_lemmas, arith, common_steps)

pub put_items-returns-in_err-put_item-2 : goal.put_items-returns-in_err-put_item-2
put_items-returns-in_err-put_item-2 t c = search rules

pub put_items-loop-x-smaller : goal.put_items-loop-x-smaller
put_items-loop-x-smaller t c = grind (arith, common_steps)

pub put_items-loop-x-preserved : goal.put_items-loop-x-preserved
put_items-loop-x-preserved t c = grind (arith, common_steps)

pub put_items-returns-in_default : goal.put_items-returns-in_default
put_items-returns-in_default t c = grind (arith, common_steps)

pub put_items-returns-after-loop-x : goal.put_items-returns-after-loop-x
put_items-returns-after-loop-x t c = grind (arith, common_steps)

pub put_member-put_base-requires : goal.put_member-put_base-requires
put_member-put_base-requires t c = grind (the_lemmas, arith, common_steps)

pub put_member-returns-in_err-put_base : goal.put_member-returns-in_err-put_base
put_member-returns-in_err-put_base t c = search rules

pub put_member-put_declarators-requires : goal.put_member-put_declarators-requires
put_member-put_declarators-requires t c = grind (the_lemmas, arith, common_steps)

pub put_member-returns-in_err-put_declarators : goal.put_member-returns-in_err-put_declarators
put_member-returns-in_err-put_declarators t c = search rules

pub put_member-returns : goal.put_member-returns
put_member-returns t c = grind (the_lemmas, arith, common_steps)

pub put_member_of-put_before-requires : goal.put_member_of-put_before-requires
put_member_of-put_before-requires t c = grind (arith, common_steps)

pub put_member_of-returns-in_err-put_before : goal.put_member_of-returns-in_err-put_before
put_member_of-returns-in_err-put_before t c = search rules

pub put_member_of-returns : goal.put_member_of-returns
put_member_of-returns t c = grind (arith, common_steps)

pub put_members-loop-x-init : goal.put_members-loop-x-init
put_members-loop-x-init t c = grind (arith, common_steps)

pub put_members-offset_bounds-list-x-index : goal.put_members-offset_bounds-list-x-index
put_members-offset_bounds-list-x-index t c = omega arith

pub put_members-put_member-requires : goal.put_members-put_member-requires
put_members-put_member-requires t c = grind (the_lemmas, arith, common_steps)

pub put_members-returns-in_err-put_member : goal.put_members-returns-in_err-put_member
put_members-returns-in_err-put_member t c = search rules

pub put_members-loop-x-smaller : goal.put_members-loop-x-smaller
put_members-loop-x-smaller t c = grind (arith, common_steps)

pub put_members-loop-x-preserved : goal.put_members-loop-x-preserved
put_members-loop-x-preserved t c = grind (arith, common_steps)

pub put_members-returns : goal.put_members-returns
put_members-returns t c = grind (arith, common_steps)

pub put_parameter-put_base-requires : goal.put_parameter-put_base-requires
put_parameter-put_base-requires t c = grind (the_lemmas, arith, common_steps)

pub put_parameter-returns-in_err-put_base : goal.put_parameter-returns-in_err-put_base
put_parameter-returns-in_err-put_base t c = search rules

pub put_parameter-put_declarator-requires : goal.put_parameter-put_declarator-requires
put_parameter-put_declarator-requires t c = grind (the_lemmas, arith, common_steps)

pub put_parameter-returns : goal.put_parameter-returns
put_parameter-returns t c = grind (the_lemmas, arith, common_steps)

pub put_parameters-slice_bounds-rest-count : goal.put_parameters-slice_bounds-rest-count
put_parameters-slice_bounds-rest-count t c = omega arith

pub put_parameters-bounds-list-0 : goal.put_parameters-bounds-list-0
put_parameters-bounds-list-0 t c = omega arith

pub put_parameters-slice_bounds-rest-start : goal.put_parameters-slice_bounds-rest-start
put_parameters-slice_bounds-rest-start t c = omega arith

pub put_parameters-slice_bounds-rest-end : goal.put_parameters-slice_bounds-rest-end
put_parameters-slice_bounds-rest-end t c = omega arith

pub put_parameters-put_parameter-requires : goal.put_parameters-put_parameter-requires
put_parameters-put_parameter-requires t c = grind (arith, common_steps)

pub put_parameters-returns-in_err-put_parameter : goal.put_parameters-returns-in_err-put_parameter
put_parameters-returns-in_err-put_parameter t c = search rules

pub put_parameters-loop-x-init : goal.put_parameters-loop-x-init
put_parameters-loop-x-init t c = grind (arith, common_steps)

pub put_parameters-offset_bounds-rest-x-index : goal.put_parameters-offset_bounds-rest-x-index
put_parameters-offset_bounds-rest-x-index t c = omega arith

pub put_parameters-returns-in_err-put_punctuator : goal.put_parameters-returns-in_err-put_punctuator
put_parameters-returns-in_err-put_punctuator t c = search rules

pub put_parameters-put_parameter-requires-in-loop-x : goal.put_parameters-put_parameter-requires-in-loop-x
put_parameters-put_parameter-requires-in-loop-x t c = grind (the_lemmas, arith, common_steps)

pub put_parameters-returns-in_err-put_parameter-2 : goal.put_parameters-returns-in_err-put_parameter-2
put_parameters-returns-in_err-put_parameter-2 t c = search rules

pub put_parameters-loop-x-smaller : goal.put_parameters-loop-x-smaller
put_parameters-loop-x-smaller t c = grind (arith, common_steps)

pub put_parameters-loop-x-preserved : goal.put_parameters-loop-x-preserved
put_parameters-loop-x-preserved t c = grind (arith, common_steps)

pub put_parameters-returns-in_default : goal.put_parameters-returns-in_default
put_parameters-returns-in_default t c = grind (arith, common_steps)

pub put_parameters-returns-after-loop-x : goal.put_parameters-returns-after-loop-x
put_parameters-returns-after-loop-x t c = grind (arith, common_steps)

pub put_size-returns-in_err-put_punctuator : goal.put_size-returns-in_err-put_punctuator
put_size-returns-in_err-put_punctuator t c = search rules

pub put_size-put_type-requires : goal.put_size-put_type-requires
put_size-put_type-requires t c = grind (arith, common_steps)

pub put_size-returns : goal.put_size-returns
put_size-returns t c = grind (arith, common_steps)

pub put_some_parameters-returns-in_err-put_punctuator : goal.put_some_parameters-returns-in_err-put_punctuator
put_some_parameters-returns-in_err-put_punctuator t c = search rules

pub put_some_parameters-put_parameters-requires : goal.put_some_parameters-put_parameters-requires
put_some_parameters-put_parameters-requires t c = grind (arith, common_steps)

pub put_some_parameters-returns-in_err-put_parameters : goal.put_some_parameters-returns-in_err-put_parameters
put_some_parameters-returns-in_err-put_parameters t c = search rules

pub put_some_parameters-returns-in_err-put_more : goal.put_some_parameters-returns-in_err-put_more
put_some_parameters-returns-in_err-put_more t c = search rules

pub put_some_parameters-returns : goal.put_some_parameters-returns
put_some_parameters-returns t c = grind (arith, common_steps)

pub put_start_value-returns-in_err-put_punctuator : goal.put_start_value-returns-in_err-put_punctuator
put_start_value-returns-in_err-put_punctuator t c = search rules

pub put_start_value-put_initialiser-requires : goal.put_start_value-put_initialiser-requires
put_start_value-put_initialiser-requires t c = grind (arith, common_steps)

pub put_start_value-returns : goal.put_start_value-returns
put_start_value-returns t c = grind (arith, common_steps)

pub put_step-put_behind-requires : goal.put_step-put_behind-requires
put_step-put_behind-requires t c = grind (arith, common_steps)

pub put_step-put_behind-requires-in-DecBefore : goal.put_step-put_behind-requires-in-DecBefore
put_step-put_behind-requires-in-DecBefore t c = grind (arith, common_steps)

pub put_step-put_before-requires : goal.put_step-put_before-requires
put_step-put_before-requires t c = grind (arith, common_steps)

pub put_step-put_before-requires-in-DecAfter : goal.put_step-put_before-requires-in-DecAfter
put_step-put_before-requires-in-DecAfter t c = grind (arith, common_steps)

pub put_step-returns-in-IncBefore : goal.put_step-returns-in-IncBefore
put_step-returns-in-IncBefore t c = grind (arith, common_steps)

pub put_step-returns-in-DecBefore : goal.put_step-returns-in-DecBefore
put_step-returns-in-DecBefore t c = grind (arith, common_steps)

pub put_step-returns-in-IncAfter : goal.put_step-returns-in-IncAfter
put_step-returns-in-IncAfter t c = grind (arith, common_steps)

pub put_step-returns-in-DecAfter : goal.put_step-returns-in-DecAfter
put_step-returns-in-DecAfter t c = grind (arith, common_steps)

pub put_struct-returns-in_err-put_opening : goal.put_struct-returns-in_err-put_opening
put_struct-returns-in_err-put_opening t c = search rules

pub put_struct-put_members-requires : goal.put_struct-put_members-requires
put_struct-put_members-requires t c = grind (arith, common_steps)

pub put_struct-returns-in_err-put_members : goal.put_struct-returns-in_err-put_members
put_struct-returns-in_err-put_members t c = search rules

pub put_struct-returns : goal.put_struct-returns
put_struct-returns t c = grind (arith, common_steps)

pub put_tail-put_dimensions-requires : goal.put_tail-put_dimensions-requires
put_tail-put_dimensions-requires t c = grind (the_lemmas, arith, common_steps)

pub put_tail-put_some_parameters-requires : goal.put_tail-put_some_parameters-requires
put_tail-put_some_parameters-requires t c = grind (the_lemmas, arith, common_steps)

pub put_tail-returns-in-Arrays : goal.put_tail-returns-in-Arrays
put_tail-returns-in-Arrays t c = grind (the_lemmas, arith, common_steps)

pub put_tail-returns-in-Unspecified : goal.put_tail-returns-in-Unspecified
put_tail-returns-in-Unspecified t c = grind (the_lemmas, arith, common_steps)

pub put_tail-returns-in-NoParams : goal.put_tail-returns-in-NoParams
put_tail-returns-in-NoParams t c = grind (the_lemmas, arith, common_steps)

pub put_tail-returns-in-Params : goal.put_tail-returns-in-Params
put_tail-returns-in-Params t c = grind (the_lemmas, arith, common_steps)

pub put_type-returns-in_err-put_punctuator : goal.put_type-returns-in_err-put_punctuator
put_type-returns-in_err-put_punctuator t c = search rules

pub put_type-put_type_name-requires : goal.put_type-put_type_name-requires
put_type-put_type_name-requires t c = grind (arith, common_steps)

pub put_type-returns-in_err-put_type_name : goal.put_type-returns-in_err-put_type_name
put_type-returns-in_err-put_type_name t c = search rules

pub put_type-returns : goal.put_type-returns
put_type-returns t c = grind (arith, common_steps)

pub put_type_name-put_base-requires : goal.put_type_name-put_base-requires
put_type_name-put_base-requires t c = grind (the_lemmas, arith, common_steps)

pub put_type_name-returns-in_err-put_base : goal.put_type_name-returns-in_err-put_base
put_type_name-returns-in_err-put_base t c = search rules

pub put_type_name-returns-in_err-put_stars : goal.put_type_name-returns-in_err-put_stars
put_type_name-returns-in_err-put_stars t c = search rules

pub put_type_name-put_dimensions-requires : goal.put_type_name-put_dimensions-requires
put_type_name-put_dimensions-requires t c = grind (the_lemmas, arith, common_steps)

pub put_type_name-returns : goal.put_type_name-returns
put_type_name-returns t c = grind (the_lemmas, arith, common_steps)
