use Rattle.std.proofs.Common.{arith}
use Rattle.std.proofs.lemmas.Grind.{common_steps}
use Rattle.stk_tree_calls.proofs.levels_expressions.+height.Goals as goal
use Rattle.stk_tree.specs.declared.declaration.BaseForm.TheFolds.{the_lemmas}

-- The check would prove these goals by itself, but only after searches that fail. With the equations of the folds
-- `grind` is quick. Without them it is quicker still, where no tree is taken apart: at bounds and at most
-- goals of loops.
pub base_form_height-members_height-requires : goal.base_form_height-members_height-requires
base_form_height-members_height-requires t c = grind (the_lemmas, arith, common_steps)

pub base_form_height-enumerators_height-requires : goal.base_form_height-enumerators_height-requires
base_form_height-enumerators_height-requires t c = grind (the_lemmas, arith, common_steps)

pub base_form_height-returns-in-StructDef : goal.base_form_height-returns-in-StructDef
base_form_height-returns-in-StructDef t c = grind (the_lemmas, arith, common_steps)

pub base_form_height-returns-in-EnumDef : goal.base_form_height-returns-in-EnumDef
base_form_height-returns-in-EnumDef t c = grind (the_lemmas, arith, common_steps)

pub base_form_height-returns-in-Words : goal.base_form_height-returns-in-Words
base_form_height-returns-in-Words t c = grind (the_lemmas, arith, common_steps)

pub base_form_height-returns-in-Words-2 : goal.base_form_height-returns-in-Words-2
base_form_height-returns-in-Words-2 t c = grind (the_lemmas, arith, common_steps)

pub base_form_height-returns-in-Words-3 : goal.base_form_height-returns-in-Words-3
base_form_height-returns-in-Words-3 t c = grind (the_lemmas, arith, common_steps)

pub base_form_height-returns-in-Words-4 : goal.base_form_height-returns-in-Words-4
base_form_height-returns-in-Words-4 t c = grind (the_lemmas, arith, common_steps)

pub base_height-base_form_height-requires : goal.base_height-base_form_height-requires
base_height-base_form_height-requires t c = grind (the_lemmas, arith, common_steps)

pub base_height-overflow_add-result : goal.base_height-overflow_add-result
base_height-overflow_add-result t c = grind (the_lemmas, arith, common_steps)

pub base_height-returns : goal.base_height-returns
base_height-returns t c = grind (the_lemmas, arith, common_steps)

pub declarator_height-tail_height-tail-requires : goal.declarator_height-tail_height-tail-requires
declarator_height-tail_height-tail-requires t c = grind (the_lemmas, arith, common_steps)

pub declarator_height-overflow_add-result : goal.declarator_height-overflow_add-result
declarator_height-overflow_add-result t c = grind (the_lemmas, arith, common_steps)

pub declarator_height-initialiser_height-requires : goal.declarator_height-initialiser_height-requires
declarator_height-initialiser_height-requires t c = grind (the_lemmas, arith, common_steps)

pub declarator_height-overflow_add-result-in-Some : goal.declarator_height-overflow_add-result-in-Some
declarator_height-overflow_add-result-in-Some t c = grind (the_lemmas, arith, common_steps)

pub declarator_height-returns-in-None : goal.declarator_height-returns-in-None
declarator_height-returns-in-None t c = grind (the_lemmas, arith, common_steps)

pub declarator_height-returns-in-Some : goal.declarator_height-returns-in-Some
declarator_height-returns-in-Some t c = grind (the_lemmas, arith, common_steps)

pub declarators_height-loop-x-init : goal.declarators_height-loop-x-init
declarators_height-loop-x-init t c = grind (arith, common_steps)

pub declarators_height-offset_bounds-list-x-index : goal.declarators_height-offset_bounds-list-x-index
declarators_height-offset_bounds-list-x-index t c = omega arith

pub declarators_height-declarator_height-requires : goal.declarators_height-declarator_height-requires
declarators_height-declarator_height-requires t c = grind (the_lemmas, arith, common_steps)

pub declarators_height-loop-x-smaller : goal.declarators_height-loop-x-smaller
declarators_height-loop-x-smaller t c = grind (arith, common_steps)

pub declarators_height-loop-x-preserved : goal.declarators_height-loop-x-preserved
declarators_height-loop-x-preserved t c = grind (arith, common_steps)

pub declarators_height-returns : goal.declarators_height-returns
declarators_height-returns t c = grind (arith, common_steps)

pub designator_height-expression_height-requires : goal.designator_height-expression_height-requires
designator_height-expression_height-requires t c = grind (the_lemmas, arith, common_steps)

pub designator_height-returns-in-Dot : goal.designator_height-returns-in-Dot
designator_height-returns-in-Dot t c = grind (the_lemmas, arith, common_steps)

pub designator_height-returns-in-At : goal.designator_height-returns-in-At
designator_height-returns-in-At t c = grind (the_lemmas, arith, common_steps)

pub designators_height-loop-x-init : goal.designators_height-loop-x-init
designators_height-loop-x-init t c = grind (arith, common_steps)

pub designators_height-offset_bounds-list-x-index : goal.designators_height-offset_bounds-list-x-index
designators_height-offset_bounds-list-x-index t c = omega arith

pub designators_height-designator_height-requires : goal.designators_height-designator_height-requires
designators_height-designator_height-requires t c = grind (the_lemmas, arith, common_steps)

pub designators_height-loop-x-smaller : goal.designators_height-loop-x-smaller
designators_height-loop-x-smaller t c = grind (arith, common_steps)

pub designators_height-loop-x-preserved : goal.designators_height-loop-x-preserved
designators_height-loop-x-preserved t c = grind (arith, common_steps)

pub designators_height-returns : goal.designators_height-returns
designators_height-returns t c = grind (arith, common_steps)

pub dimension_height-expression_height-requires : goal.dimension_height-expression_height-requires
dimension_height-expression_height-requires t c = grind (the_lemmas, arith, common_steps)

pub dimension_height-returns-in-Open : goal.dimension_height-returns-in-Open
dimension_height-returns-in-Open t c = grind (the_lemmas, arith, common_steps)

pub dimension_height-returns-in-Sized : goal.dimension_height-returns-in-Sized
dimension_height-returns-in-Sized t c = grind (the_lemmas, arith, common_steps)

pub dimensions_height-loop-x-init : goal.dimensions_height-loop-x-init
dimensions_height-loop-x-init t c = grind (arith, common_steps)

pub dimensions_height-offset_bounds-list-x-index : goal.dimensions_height-offset_bounds-list-x-index
dimensions_height-offset_bounds-list-x-index t c = omega arith

pub dimensions_height-dimension_height-requires : goal.dimensions_height-dimension_height-requires
dimensions_height-dimension_height-requires t c = grind (the_lemmas, arith, common_steps)

pub dimensions_height-loop-x-smaller : goal.dimensions_height-loop-x-smaller
dimensions_height-loop-x-smaller t c = grind (arith, common_steps)

pub dimensions_height-loop-x-preserved : goal.dimensions_height-loop-x-preserved
dimensions_height-loop-x-preserved t c = grind (arith, common_steps)

pub dimensions_height-returns : goal.dimensions_height-returns
dimensions_height-returns t c = grind (arith, common_steps)

pub enumerator_height-expression_height-requires : goal.enumerator_height-expression_height-requires
enumerator_height-expression_height-requires t c = grind (the_lemmas, arith, common_steps)

pub enumerator_height-returns-in-None : goal.enumerator_height-returns-in-None
enumerator_height-returns-in-None t c = grind (the_lemmas, arith, common_steps)

pub enumerator_height-returns-in-Some : goal.enumerator_height-returns-in-Some
enumerator_height-returns-in-Some t c = grind (the_lemmas, arith, common_steps)

pub enumerators_height-loop-x-init : goal.enumerators_height-loop-x-init
enumerators_height-loop-x-init t c = grind (arith, common_steps)

pub enumerators_height-offset_bounds-list-x-index : goal.enumerators_height-offset_bounds-list-x-index
enumerators_height-offset_bounds-list-x-index t c = omega arith

pub enumerators_height-enumerator_height-requires : goal.enumerators_height-enumerator_height-requires
enumerators_height-enumerator_height-requires t c = grind (the_lemmas, arith, common_steps)

pub enumerators_height-loop-x-smaller : goal.enumerators_height-loop-x-smaller
enumerators_height-loop-x-smaller t c = grind (arith, common_steps)

pub enumerators_height-loop-x-preserved : goal.enumerators_height-loop-x-preserved
enumerators_height-loop-x-preserved t c = grind (arith, common_steps)

pub enumerators_height-returns : goal.enumerators_height-returns
enumerators_height-returns t c = grind (arith, common_steps)

pub expression_form_height-expression_height-requires : goal.expression_form_height-expression_height-requires
expression_form_height-expression_height-requires t c = grind (the_lemmas, arith, common_steps)

pub expression_form_height-expressions_height-requires : goal.expression_form_height-expressions_height-requires
expression_form_height-expressions_height-requires t c = grind (the_lemmas, arith, common_steps)

pub expression_form_height-type_name_height-requires : goal.expression_form_height-type_name_height-requires
expression_form_height-type_name_height-requires t c = grind (the_lemmas, arith, common_steps)

pub expression_form_height-type_name_height-requires-in-Cast : goal.expression_form_height-type_name_height-requires-in-Cast
expression_form_height-type_name_height-requires-in-Cast t c = grind (the_lemmas, arith, common_steps)

pub expression_form_height-expression_height-requires-in-Cast : goal.expression_form_height-expression_height-requires-in-Cast
expression_form_height-expression_height-requires-in-Cast t c = grind (the_lemmas, arith, common_steps)

pub expression_form_height-expression_height-requires-in-Choice : goal.expression_form_height-expression_height-requires-in-Choice
expression_form_height-expression_height-requires-in-Choice t c = grind (the_lemmas, arith, common_steps)

pub expression_form_height-expression_height-requires-in-Choice-2 : goal.expression_form_height-expression_height-requires-in-Choice-2
expression_form_height-expression_height-requires-in-Choice-2 t c = grind (the_lemmas, arith, common_steps)

pub expression_form_height-expression_height-requires-in-Choice-3 : goal.expression_form_height-expression_height-requires-in-Choice-3
expression_form_height-expression_height-requires-in-Choice-3 t c = grind (the_lemmas, arith, common_steps)

pub expression_form_height-expression_height-requires-in-Index : goal.expression_form_height-expression_height-requires-in-Index
expression_form_height-expression_height-requires-in-Index t c = grind (the_lemmas, arith, common_steps)

pub expression_form_height-expression_height-requires-in-Index-2 : goal.expression_form_height-expression_height-requires-in-Index-2
expression_form_height-expression_height-requires-in-Index-2 t c = grind (the_lemmas, arith, common_steps)

pub expression_form_height-expression_height-requires-in-Paren : goal.expression_form_height-expression_height-requires-in-Paren
expression_form_height-expression_height-requires-in-Paren t c = grind (the_lemmas, arith, common_steps)

pub expression_form_height-returns-in-Call : goal.expression_form_height-returns-in-Call
expression_form_height-returns-in-Call t c = grind (the_lemmas, arith, common_steps)

pub expression_form_height-returns-in-SizeName : goal.expression_form_height-returns-in-SizeName
expression_form_height-returns-in-SizeName t c = grind (the_lemmas, arith, common_steps)

pub expression_form_height-returns-in-Cast : goal.expression_form_height-returns-in-Cast
expression_form_height-returns-in-Cast t c = grind (the_lemmas, arith, common_steps)

pub expression_form_height-returns-in-Choice : goal.expression_form_height-returns-in-Choice
expression_form_height-returns-in-Choice t c = grind (the_lemmas, arith, common_steps)

pub expression_form_height-returns-in-Name : goal.expression_form_height-returns-in-Name
expression_form_height-returns-in-Name t c = grind (the_lemmas, arith, common_steps)

pub expression_form_height-returns-in-Name-2 : goal.expression_form_height-returns-in-Name-2
expression_form_height-returns-in-Name-2 t c = grind (the_lemmas, arith, common_steps)

pub expression_form_height-returns-in-Name-3 : goal.expression_form_height-returns-in-Name-3
expression_form_height-returns-in-Name-3 t c = grind (the_lemmas, arith, common_steps)

pub expression_form_height-returns-in-Name-4 : goal.expression_form_height-returns-in-Name-4
expression_form_height-returns-in-Name-4 t c = grind (the_lemmas, arith, common_steps)

pub expression_form_height-returns-in-Index : goal.expression_form_height-returns-in-Index
expression_form_height-returns-in-Index t c = grind (the_lemmas, arith, common_steps)

pub expression_form_height-returns-in-Paren : goal.expression_form_height-returns-in-Paren
expression_form_height-returns-in-Paren t c = grind (the_lemmas, arith, common_steps)

pub expression_height-expression_form_height-requires : goal.expression_height-expression_form_height-requires
expression_height-expression_form_height-requires t c = grind (the_lemmas, arith, common_steps)

pub expression_height-overflow_add-result : goal.expression_height-overflow_add-result
expression_height-overflow_add-result t c = grind (the_lemmas, arith, common_steps)

pub expression_height-returns : goal.expression_height-returns
expression_height-returns t c = grind (the_lemmas, arith, common_steps)

pub expressions_height-loop-x-init : goal.expressions_height-loop-x-init
expressions_height-loop-x-init t c = grind (arith, common_steps)

pub expressions_height-offset_bounds-list-x-index : goal.expressions_height-offset_bounds-list-x-index
expressions_height-offset_bounds-list-x-index t c = omega arith

pub expressions_height-expression_height-requires : goal.expressions_height-expression_height-requires
expressions_height-expression_height-requires t c = grind (the_lemmas, arith, common_steps)

pub expressions_height-loop-x-smaller : goal.expressions_height-loop-x-smaller
expressions_height-loop-x-smaller t c = grind (arith, common_steps)

pub expressions_height-loop-x-preserved : goal.expressions_height-loop-x-preserved
expressions_height-loop-x-preserved t c = grind (arith, common_steps)

pub expressions_height-returns : goal.expressions_height-returns
expressions_height-returns t c = grind (arith, common_steps)

pub initialiser_height-expression_height-requires : goal.initialiser_height-expression_height-requires
initialiser_height-expression_height-requires t c = grind (the_lemmas, arith, common_steps)

pub initialiser_height-items_height-requires : goal.initialiser_height-items_height-requires
initialiser_height-items_height-requires t c = grind (the_lemmas, arith, common_steps)

pub initialiser_height-returns-in-Plain : goal.initialiser_height-returns-in-Plain
initialiser_height-returns-in-Plain t c = grind (the_lemmas, arith, common_steps)

pub initialiser_height-returns-in-Braces : goal.initialiser_height-returns-in-Braces
initialiser_height-returns-in-Braces t c = grind (the_lemmas, arith, common_steps)

pub item_height-designators_height-requires : goal.item_height-designators_height-requires
item_height-designators_height-requires t c = grind (the_lemmas, arith, common_steps)

pub item_height-initialiser_height-requires : goal.item_height-initialiser_height-requires
item_height-initialiser_height-requires t c = grind (the_lemmas, arith, common_steps)

pub item_height-returns : goal.item_height-returns
item_height-returns t c = grind (the_lemmas, arith, common_steps)

pub items_height-loop-x-init : goal.items_height-loop-x-init
items_height-loop-x-init t c = grind (arith, common_steps)

pub items_height-offset_bounds-list-x-index : goal.items_height-offset_bounds-list-x-index
items_height-offset_bounds-list-x-index t c = omega arith

pub items_height-item_height-requires : goal.items_height-item_height-requires
items_height-item_height-requires t c = grind (the_lemmas, arith, common_steps)

pub items_height-loop-x-smaller : goal.items_height-loop-x-smaller
items_height-loop-x-smaller t c = grind (arith, common_steps)

pub items_height-loop-x-preserved : goal.items_height-loop-x-preserved
items_height-loop-x-preserved t c = grind (arith, common_steps)

pub items_height-returns : goal.items_height-returns
items_height-returns t c = grind (arith, common_steps)

pub member_height-base_height-requires : goal.member_height-base_height-requires
member_height-base_height-requires t c = grind (the_lemmas, arith, common_steps)

pub member_height-declarators_height-requires : goal.member_height-declarators_height-requires
member_height-declarators_height-requires t c = grind (the_lemmas, arith, common_steps)

pub member_height-returns : goal.member_height-returns
member_height-returns t c = grind (the_lemmas, arith, common_steps)

pub members_height-loop-x-init : goal.members_height-loop-x-init
members_height-loop-x-init t c = grind (arith, common_steps)

pub members_height-offset_bounds-list-x-index : goal.members_height-offset_bounds-list-x-index
members_height-offset_bounds-list-x-index t c = omega arith

pub members_height-member_height-requires : goal.members_height-member_height-requires
members_height-member_height-requires t c = grind (the_lemmas, arith, common_steps)

pub members_height-loop-x-smaller : goal.members_height-loop-x-smaller
members_height-loop-x-smaller t c = grind (arith, common_steps)

pub members_height-loop-x-preserved : goal.members_height-loop-x-preserved
members_height-loop-x-preserved t c = grind (arith, common_steps)

pub members_height-returns : goal.members_height-returns
members_height-returns t c = grind (arith, common_steps)

pub parameter_height-base_height-requires : goal.parameter_height-base_height-requires
parameter_height-base_height-requires t c = grind (the_lemmas, arith, common_steps)

pub parameter_height-declarator_height-requires : goal.parameter_height-declarator_height-requires
parameter_height-declarator_height-requires t c = grind (the_lemmas, arith, common_steps)

pub parameter_height-overflow_add-result : goal.parameter_height-overflow_add-result
parameter_height-overflow_add-result t c = grind (the_lemmas, arith, common_steps)

pub parameter_height-returns : goal.parameter_height-returns
parameter_height-returns t c = grind (the_lemmas, arith, common_steps)

pub parameters_height-loop-x-init : goal.parameters_height-loop-x-init
parameters_height-loop-x-init t c = grind (arith, common_steps)

pub parameters_height-offset_bounds-list-x-index : goal.parameters_height-offset_bounds-list-x-index
parameters_height-offset_bounds-list-x-index t c = omega arith

pub parameters_height-parameter_height-requires : goal.parameters_height-parameter_height-requires
parameters_height-parameter_height-requires t c = grind (the_lemmas, arith, common_steps)

pub parameters_height-loop-x-smaller : goal.parameters_height-loop-x-smaller
parameters_height-loop-x-smaller t c = grind (arith, common_steps)

pub parameters_height-loop-x-preserved : goal.parameters_height-loop-x-preserved
parameters_height-loop-x-preserved t c = grind (arith, common_steps)

pub parameters_height-returns : goal.parameters_height-returns
parameters_height-returns t c = grind (arith, common_steps)

pub tail_height-dimensions_height-requires : goal.tail_height-dimensions_height-requires
tail_height-dimensions_height-requires t c = grind (the_lemmas, arith, common_steps)

pub tail_height-parameters_height-requires : goal.tail_height-parameters_height-requires
tail_height-parameters_height-requires t c = grind (the_lemmas, arith, common_steps)

pub tail_height-returns-in-Arrays : goal.tail_height-returns-in-Arrays
tail_height-returns-in-Arrays t c = grind (the_lemmas, arith, common_steps)

pub tail_height-returns-in-Params : goal.tail_height-returns-in-Params
tail_height-returns-in-Params t c = grind (the_lemmas, arith, common_steps)

pub tail_height-returns-in-Unspecified : goal.tail_height-returns-in-Unspecified
tail_height-returns-in-Unspecified t c = grind (the_lemmas, arith, common_steps)

pub tail_height-returns-in-Unspecified-2 : goal.tail_height-returns-in-Unspecified-2
tail_height-returns-in-Unspecified-2 t c = grind (the_lemmas, arith, common_steps)

pub type_name_height-base_height-requires : goal.type_name_height-base_height-requires
type_name_height-base_height-requires t c = grind (the_lemmas, arith, common_steps)

pub type_name_height-dimensions_height-requires : goal.type_name_height-dimensions_height-requires
type_name_height-dimensions_height-requires t c = grind (the_lemmas, arith, common_steps)

pub type_name_height-overflow_add-result : goal.type_name_height-overflow_add-result
type_name_height-overflow_add-result t c = grind (the_lemmas, arith, common_steps)

pub type_name_height-returns : goal.type_name_height-returns
type_name_height-returns t c = grind (the_lemmas, arith, common_steps)
