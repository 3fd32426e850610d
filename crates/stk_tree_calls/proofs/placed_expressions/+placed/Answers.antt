use Rattle.std.proofs.Common.{arith}
use Rattle.std.proofs.lemmas.Grind.{common_steps}
use Rattle.stk_tree_calls.proofs.placed_expressions.+placed.Goals as goal
use Rattle.stk_tree.specs.declared.declaration.BaseForm.TheFolds.{the_lemmas}

-- The check would prove these goals by itself, but only after searches that fail. With the equations of the folds
-- `grind` is quick. Without them it is quicker still, where no tree is taken apart: at bounds and at most
-- goals of loops.
pub arguments_placed-loop-x-init : goal.arguments_placed-loop-x-init
arguments_placed-loop-x-init t c = grind (arith, common_steps)

pub arguments_placed-offset_bounds-list-x-index : goal.arguments_placed-offset_bounds-list-x-index
arguments_placed-offset_bounds-list-x-index t c = omega arith

pub arguments_placed-expression_placed-requires : goal.arguments_placed-expression_placed-requires
arguments_placed-expression_placed-requires t c = grind (the_lemmas, arith, common_steps)

pub arguments_placed-returns-then-not-expression_placed : goal.arguments_placed-returns-then-not-expression_placed
arguments_placed-returns-then-not-expression_placed t c = grind (arith, common_steps)

pub arguments_placed-loop-x-smaller : goal.arguments_placed-loop-x-smaller
arguments_placed-loop-x-smaller t c = grind (arith, common_steps)

pub arguments_placed-loop-x-preserved : goal.arguments_placed-loop-x-preserved
arguments_placed-loop-x-preserved t c = grind (arith, common_steps)

pub arguments_placed-returns : goal.arguments_placed-returns
arguments_placed-returns t c = grind (arith, common_steps)

pub base_form_placed-members_placed-requires : goal.base_form_placed-members_placed-requires
base_form_placed-members_placed-requires t c = grind (the_lemmas, arith, common_steps)

pub base_form_placed-enumerators_placed-requires : goal.base_form_placed-enumerators_placed-requires
base_form_placed-enumerators_placed-requires t c = grind (the_lemmas, arith, common_steps)

pub base_form_placed-returns-in-Words : goal.base_form_placed-returns-in-Words
base_form_placed-returns-in-Words t c = grind (the_lemmas, arith, common_steps)

pub base_form_placed-returns-then-some_members : goal.base_form_placed-returns-then-some_members
base_form_placed-returns-then-some_members t c = grind (the_lemmas, arith, common_steps)

pub base_form_placed-returns-else-some_members : goal.base_form_placed-returns-else-some_members
base_form_placed-returns-else-some_members t c = grind (the_lemmas, arith, common_steps)

pub base_form_placed-returns-then-some_enumerators : goal.base_form_placed-returns-then-some_enumerators
base_form_placed-returns-then-some_enumerators t c = grind (the_lemmas, arith, common_steps)

pub base_form_placed-returns-else-some_enumerators : goal.base_form_placed-returns-else-some_enumerators
base_form_placed-returns-else-some_enumerators t c = grind (the_lemmas, arith, common_steps)

pub base_form_placed-returns-in-StructRef : goal.base_form_placed-returns-in-StructRef
base_form_placed-returns-in-StructRef t c = grind (the_lemmas, arith, common_steps)

pub base_form_placed-returns-in-StructRef-2 : goal.base_form_placed-returns-in-StructRef-2
base_form_placed-returns-in-StructRef-2 t c = grind (the_lemmas, arith, common_steps)

pub base_form_placed-returns-in-StructRef-3 : goal.base_form_placed-returns-in-StructRef-3
base_form_placed-returns-in-StructRef-3 t c = grind (the_lemmas, arith, common_steps)

pub base_placed-base_form_placed-requires : goal.base_placed-base_form_placed-requires
base_placed-base_form_placed-requires t c = grind (the_lemmas, arith, common_steps)

pub base_placed-returns : goal.base_placed-returns
base_placed-returns t c = grind (the_lemmas, arith, common_steps)

pub declarator_placed-tail_placed-tail-requires : goal.declarator_placed-tail_placed-tail-requires
declarator_placed-tail_placed-tail-requires t c = grind (the_lemmas, arith, common_steps)

pub declarator_placed-initialiser_placed-requires : goal.declarator_placed-initialiser_placed-requires
declarator_placed-initialiser_placed-requires t c = grind (the_lemmas, arith, common_steps)

pub declarator_placed-returns-in-None : goal.declarator_placed-returns-in-None
declarator_placed-returns-in-None t c = grind (the_lemmas, arith, common_steps)

pub declarator_placed-returns-then-tail : goal.declarator_placed-returns-then-tail
declarator_placed-returns-then-tail t c = grind (the_lemmas, arith, common_steps)

pub declarator_placed-returns-else-tail : goal.declarator_placed-returns-else-tail
declarator_placed-returns-else-tail t c = grind (the_lemmas, arith, common_steps)

pub declarators_placed-loop-x-init : goal.declarators_placed-loop-x-init
declarators_placed-loop-x-init t c = grind (arith, common_steps)

pub declarators_placed-offset_bounds-list-x-index : goal.declarators_placed-offset_bounds-list-x-index
declarators_placed-offset_bounds-list-x-index t c = omega arith

pub declarators_placed-declarator_placed-requires : goal.declarators_placed-declarator_placed-requires
declarators_placed-declarator_placed-requires t c = grind (the_lemmas, arith, common_steps)

pub declarators_placed-returns-then-not-declarator_placed : goal.declarators_placed-returns-then-not-declarator_placed
declarators_placed-returns-then-not-declarator_placed t c = grind (arith, common_steps)

pub declarators_placed-loop-x-smaller : goal.declarators_placed-loop-x-smaller
declarators_placed-loop-x-smaller t c = grind (arith, common_steps)

pub declarators_placed-loop-x-preserved : goal.declarators_placed-loop-x-preserved
declarators_placed-loop-x-preserved t c = grind (arith, common_steps)

pub declarators_placed-returns : goal.declarators_placed-returns
declarators_placed-returns t c = grind (arith, common_steps)

pub designator_placed-expression_placed-requires : goal.designator_placed-expression_placed-requires
designator_placed-expression_placed-requires t c = grind (the_lemmas, arith, common_steps)

pub designator_placed-returns-in-Dot : goal.designator_placed-returns-in-Dot
designator_placed-returns-in-Dot t c = grind (the_lemmas, arith, common_steps)

pub designator_placed-returns-in-At : goal.designator_placed-returns-in-At
designator_placed-returns-in-At t c = grind (the_lemmas, arith, common_steps)

pub designators_placed-loop-x-init : goal.designators_placed-loop-x-init
designators_placed-loop-x-init t c = grind (arith, common_steps)

pub designators_placed-offset_bounds-list-x-index : goal.designators_placed-offset_bounds-list-x-index
designators_placed-offset_bounds-list-x-index t c = omega arith

pub designators_placed-designator_placed-requires : goal.designators_placed-designator_placed-requires
designators_placed-designator_placed-requires t c = grind (the_lemmas, arith, common_steps)

pub designators_placed-returns-then-not-designator_placed : goal.designators_placed-returns-then-not-designator_placed
designators_placed-returns-then-not-designator_placed t c = grind (arith, common_steps)

pub designators_placed-loop-x-smaller : goal.designators_placed-loop-x-smaller
designators_placed-loop-x-smaller t c = grind (arith, common_steps)

pub designators_placed-loop-x-preserved : goal.designators_placed-loop-x-preserved
designators_placed-loop-x-preserved t c = grind (arith, common_steps)

pub designators_placed-returns : goal.designators_placed-returns
designators_placed-returns t c = grind (arith, common_steps)

pub dimension_placed-expression_placed-requires : goal.dimension_placed-expression_placed-requires
dimension_placed-expression_placed-requires t c = grind (the_lemmas, arith, common_steps)

pub dimension_placed-returns-in-Open : goal.dimension_placed-returns-in-Open
dimension_placed-returns-in-Open t c = grind (the_lemmas, arith, common_steps)

pub dimension_placed-returns-in-Sized : goal.dimension_placed-returns-in-Sized
dimension_placed-returns-in-Sized t c = grind (the_lemmas, arith, common_steps)

pub dimensions_placed-loop-x-init : goal.dimensions_placed-loop-x-init
dimensions_placed-loop-x-init t c = grind (arith, common_steps)

pub dimensions_placed-offset_bounds-list-x-index : goal.dimensions_placed-offset_bounds-list-x-index
dimensions_placed-offset_bounds-list-x-index t c = omega arith

pub dimensions_placed-dimension_placed-requires : goal.dimensions_placed-dimension_placed-requires
dimensions_placed-dimension_placed-requires t c = grind (the_lemmas, arith, common_steps)

pub dimensions_placed-returns-then-not-dimension_placed : goal.dimensions_placed-returns-then-not-dimension_placed
dimensions_placed-returns-then-not-dimension_placed t c = grind (arith, common_steps)

pub dimensions_placed-loop-x-smaller : goal.dimensions_placed-loop-x-smaller
dimensions_placed-loop-x-smaller t c = grind (arith, common_steps)

pub dimensions_placed-loop-x-preserved : goal.dimensions_placed-loop-x-preserved
dimensions_placed-loop-x-preserved t c = grind (arith, common_steps)

pub dimensions_placed-returns : goal.dimensions_placed-returns
dimensions_placed-returns t c = grind (arith, common_steps)

pub enumerator_placed-expression_placed-requires : goal.enumerator_placed-expression_placed-requires
enumerator_placed-expression_placed-requires t c = grind (the_lemmas, arith, common_steps)

pub enumerator_placed-returns-in-None : goal.enumerator_placed-returns-in-None
enumerator_placed-returns-in-None t c = grind (the_lemmas, arith, common_steps)

pub enumerator_placed-returns-in-Some : goal.enumerator_placed-returns-in-Some
enumerator_placed-returns-in-Some t c = grind (the_lemmas, arith, common_steps)

pub enumerators_placed-loop-x-init : goal.enumerators_placed-loop-x-init
enumerators_placed-loop-x-init t c = grind (arith, common_steps)

pub enumerators_placed-offset_bounds-list-x-index : goal.enumerators_placed-offset_bounds-list-x-index
enumerators_placed-offset_bounds-list-x-index t c = omega arith

pub enumerators_placed-enumerator_placed-requires : goal.enumerators_placed-enumerator_placed-requires
enumerators_placed-enumerator_placed-requires t c = grind (the_lemmas, arith, common_steps)

pub enumerators_placed-returns-then-not-enumerator_placed : goal.enumerators_placed-returns-then-not-enumerator_placed
enumerators_placed-returns-then-not-enumerator_placed t c = grind (arith, common_steps)

pub enumerators_placed-loop-x-smaller : goal.enumerators_placed-loop-x-smaller
enumerators_placed-loop-x-smaller t c = grind (arith, common_steps)

pub enumerators_placed-loop-x-preserved : goal.enumerators_placed-loop-x-preserved
enumerators_placed-loop-x-preserved t c = grind (arith, common_steps)

pub enumerators_placed-returns : goal.enumerators_placed-returns
enumerators_placed-returns t c = grind (arith, common_steps)

pub expression_form_placed-expression_placed-requires : goal.expression_form_placed-expression_placed-requires
expression_form_placed-expression_placed-requires t c = grind (the_lemmas, arith, common_steps)

pub expression_form_placed-expression_placed-requires-in-Index : goal.expression_form_placed-expression_placed-requires-in-Index
expression_form_placed-expression_placed-requires-in-Index t c = grind (the_lemmas, arith, common_steps)

pub expression_form_placed-expression_placed-requires-then-expression_placed : goal.expression_form_placed-expression_placed-requires-then-expression_placed
expression_form_placed-expression_placed-requires-then-expression_placed t c = grind (the_lemmas, arith, common_steps)

pub expression_form_placed-expression_placed-requires-in-Call : goal.expression_form_placed-expression_placed-requires-in-Call
expression_form_placed-expression_placed-requires-in-Call t c = grind (the_lemmas, arith, common_steps)

pub expression_form_placed-arguments_placed-requires : goal.expression_form_placed-arguments_placed-requires
expression_form_placed-arguments_placed-requires t c = grind (the_lemmas, arith, common_steps)

pub expression_form_placed-expression_placed-requires-in-Step : goal.expression_form_placed-expression_placed-requires-in-Step
expression_form_placed-expression_placed-requires-in-Step t c = grind (the_lemmas, arith, common_steps)

pub expression_form_placed-expression_placed-requires-in-Unary : goal.expression_form_placed-expression_placed-requires-in-Unary
expression_form_placed-expression_placed-requires-in-Unary t c = grind (the_lemmas, arith, common_steps)

pub expression_form_placed-expression_placed-requires-in-SizeExpr : goal.expression_form_placed-expression_placed-requires-in-SizeExpr
expression_form_placed-expression_placed-requires-in-SizeExpr t c = grind (the_lemmas, arith, common_steps)

pub expression_form_placed-type_name_placed-requires : goal.expression_form_placed-type_name_placed-requires
expression_form_placed-type_name_placed-requires t c = grind (the_lemmas, arith, common_steps)

pub expression_form_placed-type_name_placed-requires-in-Cast : goal.expression_form_placed-type_name_placed-requires-in-Cast
expression_form_placed-type_name_placed-requires-in-Cast t c = grind (the_lemmas, arith, common_steps)

pub expression_form_placed-expression_placed-requires-then-type_name_placed : goal.expression_form_placed-expression_placed-requires-then-type_name_placed
expression_form_placed-expression_placed-requires-then-type_name_placed t c = grind (the_lemmas, arith, common_steps)

pub expression_form_placed-expression_placed-requires-in-Binary : goal.expression_form_placed-expression_placed-requires-in-Binary
expression_form_placed-expression_placed-requires-in-Binary t c = grind (the_lemmas, arith, common_steps)

pub expression_form_placed-overflow_add-own : goal.expression_form_placed-overflow_add-own
expression_form_placed-overflow_add-own t c = grind (the_lemmas, arith, common_steps)

pub expression_form_placed-expression_placed-requires-then-expression_placed-3 : goal.expression_form_placed-expression_placed-requires-then-expression_placed-3
expression_form_placed-expression_placed-requires-then-expression_placed-3 t c = grind (the_lemmas, arith, common_steps)

pub expression_form_placed-expression_placed-requires-in-Choice : goal.expression_form_placed-expression_placed-requires-in-Choice
expression_form_placed-expression_placed-requires-in-Choice t c = grind (the_lemmas, arith, common_steps)

pub expression_form_placed-expression_placed-requires-then-expression_placed-4 : goal.expression_form_placed-expression_placed-requires-then-expression_placed-4
expression_form_placed-expression_placed-requires-then-expression_placed-4 t c = grind (the_lemmas, arith, common_steps)

pub expression_form_placed-expression_placed-requires-then-expression_placed-5 : goal.expression_form_placed-expression_placed-requires-then-expression_placed-5
expression_form_placed-expression_placed-requires-then-expression_placed-5 t c = grind (the_lemmas, arith, common_steps)

pub expression_form_placed-expression_placed-requires-in-Assign : goal.expression_form_placed-expression_placed-requires-in-Assign
expression_form_placed-expression_placed-requires-in-Assign t c = grind (the_lemmas, arith, common_steps)

pub expression_form_placed-expression_placed-requires-then-expression_placed-6 : goal.expression_form_placed-expression_placed-requires-then-expression_placed-6
expression_form_placed-expression_placed-requires-then-expression_placed-6 t c = grind (the_lemmas, arith, common_steps)

pub expression_form_placed-expression_placed-requires-in-Dot : goal.expression_form_placed-expression_placed-requires-in-Dot
expression_form_placed-expression_placed-requires-in-Dot t c = grind (the_lemmas, arith, common_steps)

pub expression_form_placed-returns-in-Text : goal.expression_form_placed-returns-in-Text
expression_form_placed-returns-in-Text t c = grind (the_lemmas, arith, common_steps)

pub expression_form_placed-returns-in-Paren : goal.expression_form_placed-returns-in-Paren
expression_form_placed-returns-in-Paren t c = grind (the_lemmas, arith, common_steps)

pub expression_form_placed-returns-then-expression_placed : goal.expression_form_placed-returns-then-expression_placed
expression_form_placed-returns-then-expression_placed t c = grind (the_lemmas, arith, common_steps)

pub expression_form_placed-returns-else-expression_placed : goal.expression_form_placed-returns-else-expression_placed
expression_form_placed-returns-else-expression_placed t c = grind (the_lemmas, arith, common_steps)

pub expression_form_placed-returns-then-expression_placed-2 : goal.expression_form_placed-returns-then-expression_placed-2
expression_form_placed-returns-then-expression_placed-2 t c = grind (the_lemmas, arith, common_steps)

pub expression_form_placed-returns-else-expression_placed-2 : goal.expression_form_placed-returns-else-expression_placed-2
expression_form_placed-returns-else-expression_placed-2 t c = grind (the_lemmas, arith, common_steps)

pub expression_form_placed-returns-in-Step : goal.expression_form_placed-returns-in-Step
expression_form_placed-returns-in-Step t c = grind (the_lemmas, arith, common_steps)

pub expression_form_placed-returns-in-Unary : goal.expression_form_placed-returns-in-Unary
expression_form_placed-returns-in-Unary t c = grind (the_lemmas, arith, common_steps)

pub expression_form_placed-returns-in-SizeExpr : goal.expression_form_placed-returns-in-SizeExpr
expression_form_placed-returns-in-SizeExpr t c = grind (the_lemmas, arith, common_steps)

pub expression_form_placed-returns-in-SizeName : goal.expression_form_placed-returns-in-SizeName
expression_form_placed-returns-in-SizeName t c = grind (the_lemmas, arith, common_steps)

pub expression_form_placed-returns-then-type_name_placed : goal.expression_form_placed-returns-then-type_name_placed
expression_form_placed-returns-then-type_name_placed t c = grind (the_lemmas, arith, common_steps)

pub expression_form_placed-returns-else-type_name_placed : goal.expression_form_placed-returns-else-type_name_placed
expression_form_placed-returns-else-type_name_placed t c = grind (the_lemmas, arith, common_steps)

pub expression_form_placed-returns-then-expression_placed-3 : goal.expression_form_placed-returns-then-expression_placed-3
expression_form_placed-returns-then-expression_placed-3 t c = grind (the_lemmas, arith, common_steps)

pub expression_form_placed-returns-else-expression_placed-3 : goal.expression_form_placed-returns-else-expression_placed-3
expression_form_placed-returns-else-expression_placed-3 t c = grind (the_lemmas, arith, common_steps)

pub expression_form_placed-returns-then-expression_placed-5 : goal.expression_form_placed-returns-then-expression_placed-5
expression_form_placed-returns-then-expression_placed-5 t c = grind (the_lemmas, arith, common_steps)

pub expression_form_placed-returns-else-expression_placed-5 : goal.expression_form_placed-returns-else-expression_placed-5
expression_form_placed-returns-else-expression_placed-5 t c = grind (the_lemmas, arith, common_steps)

pub expression_form_placed-returns-then-expression_placed-6 : goal.expression_form_placed-returns-then-expression_placed-6
expression_form_placed-returns-then-expression_placed-6 t c = grind (the_lemmas, arith, common_steps)

pub expression_form_placed-returns-else-expression_placed-6 : goal.expression_form_placed-returns-else-expression_placed-6
expression_form_placed-returns-else-expression_placed-6 t c = grind (the_lemmas, arith, common_steps)

pub expression_form_placed-returns-in-Name : goal.expression_form_placed-returns-in-Name
expression_form_placed-returns-in-Name t c = grind (the_lemmas, arith, common_steps)

pub expression_form_placed-returns-in-Name-2 : goal.expression_form_placed-returns-in-Name-2
expression_form_placed-returns-in-Name-2 t c = grind (the_lemmas, arith, common_steps)

pub expression_form_placed-returns-in-Name-3 : goal.expression_form_placed-returns-in-Name-3
expression_form_placed-returns-in-Name-3 t c = grind (the_lemmas, arith, common_steps)

pub expression_form_placed-returns-in-Dot : goal.expression_form_placed-returns-in-Dot
expression_form_placed-returns-in-Dot t c = grind (the_lemmas, arith, common_steps)

pub expression_placed-expression_form_placed-requires : goal.expression_placed-expression_form_placed-requires
expression_placed-expression_form_placed-requires t c = grind (the_lemmas, arith, common_steps)

pub expression_placed-returns-then-least-form_level : goal.expression_placed-returns-then-least-form_level
expression_placed-returns-then-least-form_level t c = grind (the_lemmas, arith, common_steps)

pub expression_placed-returns-else-least-form_level : goal.expression_placed-returns-else-least-form_level
expression_placed-returns-else-least-form_level t c = grind (the_lemmas, arith, common_steps)

pub initialiser_placed-expression_placed-requires : goal.initialiser_placed-expression_placed-requires
initialiser_placed-expression_placed-requires t c = grind (the_lemmas, arith, common_steps)

pub initialiser_placed-items_placed-requires : goal.initialiser_placed-items_placed-requires
initialiser_placed-items_placed-requires t c = grind (the_lemmas, arith, common_steps)

pub initialiser_placed-returns-in-Plain : goal.initialiser_placed-returns-in-Plain
initialiser_placed-returns-in-Plain t c = grind (the_lemmas, arith, common_steps)

pub initialiser_placed-returns-then-comma_placed : goal.initialiser_placed-returns-then-comma_placed
initialiser_placed-returns-then-comma_placed t c = grind (the_lemmas, arith, common_steps)

pub initialiser_placed-returns-else-comma_placed : goal.initialiser_placed-returns-else-comma_placed
initialiser_placed-returns-else-comma_placed t c = grind (the_lemmas, arith, common_steps)

pub item_placed-designators_placed-requires : goal.item_placed-designators_placed-requires
item_placed-designators_placed-requires t c = grind (the_lemmas, arith, common_steps)

pub item_placed-initialiser_placed-requires : goal.item_placed-initialiser_placed-requires
item_placed-initialiser_placed-requires t c = grind (the_lemmas, arith, common_steps)

pub item_placed-returns-then-designators_placed : goal.item_placed-returns-then-designators_placed
item_placed-returns-then-designators_placed t c = grind (the_lemmas, arith, common_steps)

pub item_placed-returns-else-designators_placed : goal.item_placed-returns-else-designators_placed
item_placed-returns-else-designators_placed t c = grind (the_lemmas, arith, common_steps)

pub items_placed-loop-x-init : goal.items_placed-loop-x-init
items_placed-loop-x-init t c = grind (arith, common_steps)

pub items_placed-offset_bounds-list-x-index : goal.items_placed-offset_bounds-list-x-index
items_placed-offset_bounds-list-x-index t c = omega arith

pub items_placed-item_placed-requires : goal.items_placed-item_placed-requires
items_placed-item_placed-requires t c = grind (the_lemmas, arith, common_steps)

pub items_placed-returns-then-not-item_placed : goal.items_placed-returns-then-not-item_placed
items_placed-returns-then-not-item_placed t c = grind (arith, common_steps)

pub items_placed-loop-x-smaller : goal.items_placed-loop-x-smaller
items_placed-loop-x-smaller t c = grind (arith, common_steps)

pub items_placed-loop-x-preserved : goal.items_placed-loop-x-preserved
items_placed-loop-x-preserved t c = grind (arith, common_steps)

pub items_placed-returns : goal.items_placed-returns
items_placed-returns t c = grind (arith, common_steps)

pub member_placed-base_placed-requires : goal.member_placed-base_placed-requires
member_placed-base_placed-requires t c = grind (the_lemmas, arith, common_steps)

pub member_placed-declarators_placed-requires : goal.member_placed-declarators_placed-requires
member_placed-declarators_placed-requires t c = grind (the_lemmas, arith, common_steps)

pub member_placed-returns-then-member_declarators : goal.member_placed-returns-then-member_declarators
member_placed-returns-then-member_declarators t c = grind (the_lemmas, arith, common_steps)

pub member_placed-returns-else-member_declarators : goal.member_placed-returns-else-member_declarators
member_placed-returns-else-member_declarators t c = grind (the_lemmas, arith, common_steps)

pub members_placed-loop-x-init : goal.members_placed-loop-x-init
members_placed-loop-x-init t c = grind (arith, common_steps)

pub members_placed-offset_bounds-list-x-index : goal.members_placed-offset_bounds-list-x-index
members_placed-offset_bounds-list-x-index t c = omega arith

pub members_placed-member_placed-requires : goal.members_placed-member_placed-requires
members_placed-member_placed-requires t c = grind (the_lemmas, arith, common_steps)

pub members_placed-returns-then-not-member_placed : goal.members_placed-returns-then-not-member_placed
members_placed-returns-then-not-member_placed t c = grind (arith, common_steps)

pub members_placed-loop-x-smaller : goal.members_placed-loop-x-smaller
members_placed-loop-x-smaller t c = grind (arith, common_steps)

pub members_placed-loop-x-preserved : goal.members_placed-loop-x-preserved
members_placed-loop-x-preserved t c = grind (arith, common_steps)

pub members_placed-returns : goal.members_placed-returns
members_placed-returns t c = grind (arith, common_steps)

pub parameter_placed-base_placed-requires : goal.parameter_placed-base_placed-requires
parameter_placed-base_placed-requires t c = grind (the_lemmas, arith, common_steps)

pub parameter_placed-declarator_placed-requires : goal.parameter_placed-declarator_placed-requires
parameter_placed-declarator_placed-requires t c = grind (the_lemmas, arith, common_steps)

pub parameter_placed-returns-then-parameter_declarator : goal.parameter_placed-returns-then-parameter_declarator
parameter_placed-returns-then-parameter_declarator t c = grind (the_lemmas, arith, common_steps)

pub parameter_placed-returns-else-parameter_declarator : goal.parameter_placed-returns-else-parameter_declarator
parameter_placed-returns-else-parameter_declarator t c = grind (the_lemmas, arith, common_steps)

pub parameters_placed-loop-x-init : goal.parameters_placed-loop-x-init
parameters_placed-loop-x-init t c = grind (arith, common_steps)

pub parameters_placed-offset_bounds-list-x-index : goal.parameters_placed-offset_bounds-list-x-index
parameters_placed-offset_bounds-list-x-index t c = omega arith

pub parameters_placed-parameter_placed-requires : goal.parameters_placed-parameter_placed-requires
parameters_placed-parameter_placed-requires t c = grind (the_lemmas, arith, common_steps)

pub parameters_placed-returns-then-not-parameter_placed : goal.parameters_placed-returns-then-not-parameter_placed
parameters_placed-returns-then-not-parameter_placed t c = grind (arith, common_steps)

pub parameters_placed-loop-x-smaller : goal.parameters_placed-loop-x-smaller
parameters_placed-loop-x-smaller t c = grind (arith, common_steps)

pub parameters_placed-loop-x-preserved : goal.parameters_placed-loop-x-preserved
parameters_placed-loop-x-preserved t c = grind (arith, common_steps)

pub parameters_placed-returns : goal.parameters_placed-returns
parameters_placed-returns t c = grind (arith, common_steps)

pub tail_placed-dimensions_placed-requires : goal.tail_placed-dimensions_placed-requires
tail_placed-dimensions_placed-requires t c = grind (the_lemmas, arith, common_steps)

pub tail_placed-parameters_placed-requires : goal.tail_placed-parameters_placed-requires
tail_placed-parameters_placed-requires t c = grind (the_lemmas, arith, common_steps)

pub tail_placed-returns-in-Arrays : goal.tail_placed-returns-in-Arrays
tail_placed-returns-in-Arrays t c = grind (the_lemmas, arith, common_steps)

pub tail_placed-returns-then-not-lone_void : goal.tail_placed-returns-then-not-lone_void
tail_placed-returns-then-not-lone_void t c = grind (the_lemmas, arith, common_steps)

pub tail_placed-returns-else-not-lone_void : goal.tail_placed-returns-else-not-lone_void
tail_placed-returns-else-not-lone_void t c = grind (the_lemmas, arith, common_steps)

pub tail_placed-returns-in-Unspecified : goal.tail_placed-returns-in-Unspecified
tail_placed-returns-in-Unspecified t c = grind (the_lemmas, arith, common_steps)

pub tail_placed-returns-in-Unspecified-2 : goal.tail_placed-returns-in-Unspecified-2
tail_placed-returns-in-Unspecified-2 t c = grind (the_lemmas, arith, common_steps)

pub type_name_placed-base_placed-requires : goal.type_name_placed-base_placed-requires
type_name_placed-base_placed-requires t c = grind (the_lemmas, arith, common_steps)

pub type_name_placed-dimensions_placed-requires : goal.type_name_placed-dimensions_placed-requires
type_name_placed-dimensions_placed-requires t c = grind (the_lemmas, arith, common_steps)

pub type_name_placed-returns-then-base_placed : goal.type_name_placed-returns-then-base_placed
type_name_placed-returns-then-base_placed t c = grind (the_lemmas, arith, common_steps)

pub type_name_placed-returns-else-base_placed : goal.type_name_placed-returns-else-base_placed
type_name_placed-returns-else-base_placed t c = grind (the_lemmas, arith, common_steps)
