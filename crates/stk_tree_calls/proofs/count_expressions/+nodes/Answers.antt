use Rattle.std.proofs.Common.{arith}
use Rattle.std.proofs.lemmas.Grind.{common_steps}
use Rattle.stk_tree_calls.proofs.count_expressions.+nodes.Goals as goal
use Rattle.stk_tree.specs.declared.declaration.BaseForm.TheFolds.{the_lemmas}

-- The check would prove these goals by itself, but only after searches that fail. With the equations of the folds
-- `grind` is quick. Without them it is quicker still, where no tree is taken apart: at bounds and at most
-- goals of loops.
pub base_form_nodes-members_nodes-requires : goal.base_form_nodes-members_nodes-requires
base_form_nodes-members_nodes-requires t c = grind (the_lemmas, arith, common_steps)

pub base_form_nodes-enumerators_nodes-requires : goal.base_form_nodes-enumerators_nodes-requires
base_form_nodes-enumerators_nodes-requires t c = grind (the_lemmas, arith, common_steps)

pub base_form_nodes-returns-in-StructDef : goal.base_form_nodes-returns-in-StructDef
base_form_nodes-returns-in-StructDef t c = grind (the_lemmas, arith, common_steps)

pub base_form_nodes-returns-in-EnumDef : goal.base_form_nodes-returns-in-EnumDef
base_form_nodes-returns-in-EnumDef t c = grind (the_lemmas, arith, common_steps)

pub base_form_nodes-returns-in-Words : goal.base_form_nodes-returns-in-Words
base_form_nodes-returns-in-Words t c = grind (the_lemmas, arith, common_steps)

pub base_form_nodes-returns-in-Words-2 : goal.base_form_nodes-returns-in-Words-2
base_form_nodes-returns-in-Words-2 t c = grind (the_lemmas, arith, common_steps)

pub base_form_nodes-returns-in-Words-3 : goal.base_form_nodes-returns-in-Words-3
base_form_nodes-returns-in-Words-3 t c = grind (the_lemmas, arith, common_steps)

pub base_form_nodes-returns-in-Words-4 : goal.base_form_nodes-returns-in-Words-4
base_form_nodes-returns-in-Words-4 t c = grind (the_lemmas, arith, common_steps)

pub base_nodes-base_form_nodes-requires : goal.base_nodes-base_form_nodes-requires
base_nodes-base_form_nodes-requires t c = grind (the_lemmas, arith, common_steps)

pub base_nodes-overflow_add-result : goal.base_nodes-overflow_add-result
base_nodes-overflow_add-result t c = grind (the_lemmas, arith, common_steps)

pub base_nodes-returns : goal.base_nodes-returns
base_nodes-returns t c = grind (the_lemmas, arith, common_steps)

pub declarator_nodes-tail_nodes-tail-requires : goal.declarator_nodes-tail_nodes-tail-requires
declarator_nodes-tail_nodes-tail-requires t c = grind (the_lemmas, arith, common_steps)

pub declarator_nodes-overflow_add-result : goal.declarator_nodes-overflow_add-result
declarator_nodes-overflow_add-result t c = grind (the_lemmas, arith, common_steps)

pub declarator_nodes-initialiser_nodes-requires : goal.declarator_nodes-initialiser_nodes-requires
declarator_nodes-initialiser_nodes-requires t c = grind (the_lemmas, arith, common_steps)

pub declarator_nodes-overflow_add-result-in-Some : goal.declarator_nodes-overflow_add-result-in-Some
declarator_nodes-overflow_add-result-in-Some t c = grind (the_lemmas, arith, common_steps)

pub declarator_nodes-overflow_add-result-in-Some-2 : goal.declarator_nodes-overflow_add-result-in-Some-2
declarator_nodes-overflow_add-result-in-Some-2 t c = grind (the_lemmas, arith, common_steps)

pub declarator_nodes-returns-in-None : goal.declarator_nodes-returns-in-None
declarator_nodes-returns-in-None t c = grind (the_lemmas, arith, common_steps)

pub declarator_nodes-returns-in-Some : goal.declarator_nodes-returns-in-Some
declarator_nodes-returns-in-Some t c = grind (the_lemmas, arith, common_steps)

pub declarators_nodes-loop-x-init : goal.declarators_nodes-loop-x-init
declarators_nodes-loop-x-init t c = grind (arith, common_steps)

pub declarators_nodes-offset_bounds-list-x-index : goal.declarators_nodes-offset_bounds-list-x-index
declarators_nodes-offset_bounds-list-x-index t c = omega arith

pub declarators_nodes-declarator_nodes-total-requires : goal.declarators_nodes-declarator_nodes-total-requires
declarators_nodes-declarator_nodes-total-requires t c = grind (the_lemmas, arith, common_steps)

pub declarators_nodes-overflow_add-total : goal.declarators_nodes-overflow_add-total
declarators_nodes-overflow_add-total t c = grind (arith, common_steps)

pub declarators_nodes-loop-x-smaller : goal.declarators_nodes-loop-x-smaller
declarators_nodes-loop-x-smaller t c = grind (arith, common_steps)

pub declarators_nodes-loop-x-preserved : goal.declarators_nodes-loop-x-preserved
declarators_nodes-loop-x-preserved t c = grind (arith, common_steps)

pub declarators_nodes-returns : goal.declarators_nodes-returns
declarators_nodes-returns t c = grind (arith, common_steps)

pub designator_nodes-expression_nodes-requires : goal.designator_nodes-expression_nodes-requires
designator_nodes-expression_nodes-requires t c = grind (the_lemmas, arith, common_steps)

pub designator_nodes-returns-in-Dot : goal.designator_nodes-returns-in-Dot
designator_nodes-returns-in-Dot t c = grind (the_lemmas, arith, common_steps)

pub designator_nodes-returns-in-At : goal.designator_nodes-returns-in-At
designator_nodes-returns-in-At t c = grind (the_lemmas, arith, common_steps)

pub designators_nodes-loop-x-init : goal.designators_nodes-loop-x-init
designators_nodes-loop-x-init t c = grind (arith, common_steps)

pub designators_nodes-offset_bounds-list-x-index : goal.designators_nodes-offset_bounds-list-x-index
designators_nodes-offset_bounds-list-x-index t c = omega arith

pub designators_nodes-designator_nodes-total-requires : goal.designators_nodes-designator_nodes-total-requires
designators_nodes-designator_nodes-total-requires t c = grind (the_lemmas, arith, common_steps)

pub designators_nodes-overflow_add-total : goal.designators_nodes-overflow_add-total
designators_nodes-overflow_add-total t c = grind (arith, common_steps)

pub designators_nodes-loop-x-smaller : goal.designators_nodes-loop-x-smaller
designators_nodes-loop-x-smaller t c = grind (arith, common_steps)

pub designators_nodes-loop-x-preserved : goal.designators_nodes-loop-x-preserved
designators_nodes-loop-x-preserved t c = grind (arith, common_steps)

pub designators_nodes-returns : goal.designators_nodes-returns
designators_nodes-returns t c = grind (arith, common_steps)

pub dimension_nodes-expression_nodes-requires : goal.dimension_nodes-expression_nodes-requires
dimension_nodes-expression_nodes-requires t c = grind (the_lemmas, arith, common_steps)

pub dimension_nodes-returns-in-Open : goal.dimension_nodes-returns-in-Open
dimension_nodes-returns-in-Open t c = grind (the_lemmas, arith, common_steps)

pub dimension_nodes-returns-in-Sized : goal.dimension_nodes-returns-in-Sized
dimension_nodes-returns-in-Sized t c = grind (the_lemmas, arith, common_steps)

pub dimensions_nodes-loop-x-init : goal.dimensions_nodes-loop-x-init
dimensions_nodes-loop-x-init t c = grind (arith, common_steps)

pub dimensions_nodes-offset_bounds-list-x-index : goal.dimensions_nodes-offset_bounds-list-x-index
dimensions_nodes-offset_bounds-list-x-index t c = omega arith

pub dimensions_nodes-dimension_nodes-total-requires : goal.dimensions_nodes-dimension_nodes-total-requires
dimensions_nodes-dimension_nodes-total-requires t c = grind (the_lemmas, arith, common_steps)

pub dimensions_nodes-overflow_add-total : goal.dimensions_nodes-overflow_add-total
dimensions_nodes-overflow_add-total t c = grind (arith, common_steps)

pub dimensions_nodes-loop-x-smaller : goal.dimensions_nodes-loop-x-smaller
dimensions_nodes-loop-x-smaller t c = grind (arith, common_steps)

pub dimensions_nodes-loop-x-preserved : goal.dimensions_nodes-loop-x-preserved
dimensions_nodes-loop-x-preserved t c = grind (arith, common_steps)

pub dimensions_nodes-returns : goal.dimensions_nodes-returns
dimensions_nodes-returns t c = grind (arith, common_steps)

pub enumerator_nodes-expression_nodes-requires : goal.enumerator_nodes-expression_nodes-requires
enumerator_nodes-expression_nodes-requires t c = grind (the_lemmas, arith, common_steps)

pub enumerator_nodes-returns-in-None : goal.enumerator_nodes-returns-in-None
enumerator_nodes-returns-in-None t c = grind (the_lemmas, arith, common_steps)

pub enumerator_nodes-returns-in-Some : goal.enumerator_nodes-returns-in-Some
enumerator_nodes-returns-in-Some t c = grind (the_lemmas, arith, common_steps)

pub enumerators_nodes-loop-x-init : goal.enumerators_nodes-loop-x-init
enumerators_nodes-loop-x-init t c = grind (arith, common_steps)

pub enumerators_nodes-offset_bounds-list-x-index : goal.enumerators_nodes-offset_bounds-list-x-index
enumerators_nodes-offset_bounds-list-x-index t c = omega arith

pub enumerators_nodes-enumerator_nodes-total-requires : goal.enumerators_nodes-enumerator_nodes-total-requires
enumerators_nodes-enumerator_nodes-total-requires t c = grind (the_lemmas, arith, common_steps)

pub enumerators_nodes-overflow_add-total : goal.enumerators_nodes-overflow_add-total
enumerators_nodes-overflow_add-total t c = grind (arith, common_steps)

pub enumerators_nodes-loop-x-smaller : goal.enumerators_nodes-loop-x-smaller
enumerators_nodes-loop-x-smaller t c = grind (arith, common_steps)

pub enumerators_nodes-loop-x-preserved : goal.enumerators_nodes-loop-x-preserved
enumerators_nodes-loop-x-preserved t c = grind (arith, common_steps)

pub enumerators_nodes-returns : goal.enumerators_nodes-returns
enumerators_nodes-returns t c = grind (arith, common_steps)

pub expression_form_nodes-expression_nodes-requires : goal.expression_form_nodes-expression_nodes-requires
expression_form_nodes-expression_nodes-requires t c = grind (the_lemmas, arith, common_steps)

pub expression_form_nodes-expressions_nodes-requires : goal.expression_form_nodes-expressions_nodes-requires
expression_form_nodes-expressions_nodes-requires t c = grind (the_lemmas, arith, common_steps)

pub expression_form_nodes-overflow_add-result : goal.expression_form_nodes-overflow_add-result
expression_form_nodes-overflow_add-result t c = grind (the_lemmas, arith, common_steps)

pub expression_form_nodes-type_name_nodes-requires : goal.expression_form_nodes-type_name_nodes-requires
expression_form_nodes-type_name_nodes-requires t c = grind (the_lemmas, arith, common_steps)

pub expression_form_nodes-type_name_nodes-requires-in-Cast : goal.expression_form_nodes-type_name_nodes-requires-in-Cast
expression_form_nodes-type_name_nodes-requires-in-Cast t c = grind (the_lemmas, arith, common_steps)

pub expression_form_nodes-expression_nodes-requires-in-Cast : goal.expression_form_nodes-expression_nodes-requires-in-Cast
expression_form_nodes-expression_nodes-requires-in-Cast t c = grind (the_lemmas, arith, common_steps)

pub expression_form_nodes-overflow_add-result-in-Cast : goal.expression_form_nodes-overflow_add-result-in-Cast
expression_form_nodes-overflow_add-result-in-Cast t c = grind (the_lemmas, arith, common_steps)

pub expression_form_nodes-expression_nodes-requires-in-Choice : goal.expression_form_nodes-expression_nodes-requires-in-Choice
expression_form_nodes-expression_nodes-requires-in-Choice t c = grind (the_lemmas, arith, common_steps)

pub expression_form_nodes-expression_nodes-requires-in-Choice-2 : goal.expression_form_nodes-expression_nodes-requires-in-Choice-2
expression_form_nodes-expression_nodes-requires-in-Choice-2 t c = grind (the_lemmas, arith, common_steps)

pub expression_form_nodes-overflow_add-result-in-Choice : goal.expression_form_nodes-overflow_add-result-in-Choice
expression_form_nodes-overflow_add-result-in-Choice t c = grind (the_lemmas, arith, common_steps)

pub expression_form_nodes-expression_nodes-requires-in-Choice-3 : goal.expression_form_nodes-expression_nodes-requires-in-Choice-3
expression_form_nodes-expression_nodes-requires-in-Choice-3 t c = grind (the_lemmas, arith, common_steps)

pub expression_form_nodes-overflow_add-result-in-Choice-2 : goal.expression_form_nodes-overflow_add-result-in-Choice-2
expression_form_nodes-overflow_add-result-in-Choice-2 t c = grind (the_lemmas, arith, common_steps)

pub expression_form_nodes-expression_nodes-requires-in-Index : goal.expression_form_nodes-expression_nodes-requires-in-Index
expression_form_nodes-expression_nodes-requires-in-Index t c = grind (the_lemmas, arith, common_steps)

pub expression_form_nodes-expression_nodes-requires-in-Index-2 : goal.expression_form_nodes-expression_nodes-requires-in-Index-2
expression_form_nodes-expression_nodes-requires-in-Index-2 t c = grind (the_lemmas, arith, common_steps)

pub expression_form_nodes-overflow_add-result-in-Index : goal.expression_form_nodes-overflow_add-result-in-Index
expression_form_nodes-overflow_add-result-in-Index t c = grind (the_lemmas, arith, common_steps)

pub expression_form_nodes-expression_nodes-requires-in-Paren : goal.expression_form_nodes-expression_nodes-requires-in-Paren
expression_form_nodes-expression_nodes-requires-in-Paren t c = grind (the_lemmas, arith, common_steps)

pub expression_form_nodes-returns-in-Call : goal.expression_form_nodes-returns-in-Call
expression_form_nodes-returns-in-Call t c = grind (the_lemmas, arith, common_steps)

pub expression_form_nodes-returns-in-SizeName : goal.expression_form_nodes-returns-in-SizeName
expression_form_nodes-returns-in-SizeName t c = grind (the_lemmas, arith, common_steps)

pub expression_form_nodes-returns-in-Cast : goal.expression_form_nodes-returns-in-Cast
expression_form_nodes-returns-in-Cast t c = grind (the_lemmas, arith, common_steps)

pub expression_form_nodes-returns-in-Choice : goal.expression_form_nodes-returns-in-Choice
expression_form_nodes-returns-in-Choice t c = grind (the_lemmas, arith, common_steps)

pub expression_form_nodes-returns-in-Name : goal.expression_form_nodes-returns-in-Name
expression_form_nodes-returns-in-Name t c = grind (the_lemmas, arith, common_steps)

pub expression_form_nodes-returns-in-Name-2 : goal.expression_form_nodes-returns-in-Name-2
expression_form_nodes-returns-in-Name-2 t c = grind (the_lemmas, arith, common_steps)

pub expression_form_nodes-returns-in-Name-3 : goal.expression_form_nodes-returns-in-Name-3
expression_form_nodes-returns-in-Name-3 t c = grind (the_lemmas, arith, common_steps)

pub expression_form_nodes-returns-in-Name-4 : goal.expression_form_nodes-returns-in-Name-4
expression_form_nodes-returns-in-Name-4 t c = grind (the_lemmas, arith, common_steps)

pub expression_form_nodes-returns-in-Index : goal.expression_form_nodes-returns-in-Index
expression_form_nodes-returns-in-Index t c = grind (the_lemmas, arith, common_steps)

pub expression_form_nodes-returns-in-Paren : goal.expression_form_nodes-returns-in-Paren
expression_form_nodes-returns-in-Paren t c = grind (the_lemmas, arith, common_steps)

pub expression_nodes-expression_form_nodes-requires : goal.expression_nodes-expression_form_nodes-requires
expression_nodes-expression_form_nodes-requires t c = grind (the_lemmas, arith, common_steps)

pub expression_nodes-overflow_add-result : goal.expression_nodes-overflow_add-result
expression_nodes-overflow_add-result t c = grind (the_lemmas, arith, common_steps)

pub expression_nodes-returns : goal.expression_nodes-returns
expression_nodes-returns t c = grind (the_lemmas, arith, common_steps)

pub expressions_nodes-loop-x-init : goal.expressions_nodes-loop-x-init
expressions_nodes-loop-x-init t c = grind (arith, common_steps)

pub expressions_nodes-offset_bounds-list-x-index : goal.expressions_nodes-offset_bounds-list-x-index
expressions_nodes-offset_bounds-list-x-index t c = omega arith

pub expressions_nodes-expression_nodes-total-requires : goal.expressions_nodes-expression_nodes-total-requires
expressions_nodes-expression_nodes-total-requires t c = grind (the_lemmas, arith, common_steps)

pub expressions_nodes-overflow_add-total : goal.expressions_nodes-overflow_add-total
expressions_nodes-overflow_add-total t c = grind (arith, common_steps)

pub expressions_nodes-loop-x-smaller : goal.expressions_nodes-loop-x-smaller
expressions_nodes-loop-x-smaller t c = grind (arith, common_steps)

pub expressions_nodes-loop-x-preserved : goal.expressions_nodes-loop-x-preserved
expressions_nodes-loop-x-preserved t c = grind (arith, common_steps)

pub expressions_nodes-returns : goal.expressions_nodes-returns
expressions_nodes-returns t c = grind (arith, common_steps)

pub initialiser_nodes-expression_nodes-requires : goal.initialiser_nodes-expression_nodes-requires
initialiser_nodes-expression_nodes-requires t c = grind (the_lemmas, arith, common_steps)

pub initialiser_nodes-items_nodes-requires : goal.initialiser_nodes-items_nodes-requires
initialiser_nodes-items_nodes-requires t c = grind (the_lemmas, arith, common_steps)

pub initialiser_nodes-returns-in-Plain : goal.initialiser_nodes-returns-in-Plain
initialiser_nodes-returns-in-Plain t c = grind (the_lemmas, arith, common_steps)

pub initialiser_nodes-returns-in-Braces : goal.initialiser_nodes-returns-in-Braces
initialiser_nodes-returns-in-Braces t c = grind (the_lemmas, arith, common_steps)

pub item_nodes-designators_nodes-requires : goal.item_nodes-designators_nodes-requires
item_nodes-designators_nodes-requires t c = grind (the_lemmas, arith, common_steps)

pub item_nodes-initialiser_nodes-requires : goal.item_nodes-initialiser_nodes-requires
item_nodes-initialiser_nodes-requires t c = grind (the_lemmas, arith, common_steps)

pub item_nodes-overflow_add-result : goal.item_nodes-overflow_add-result
item_nodes-overflow_add-result t c = grind (the_lemmas, arith, common_steps)

pub item_nodes-returns : goal.item_nodes-returns
item_nodes-returns t c = grind (the_lemmas, arith, common_steps)

pub items_nodes-loop-x-init : goal.items_nodes-loop-x-init
items_nodes-loop-x-init t c = grind (arith, common_steps)

pub items_nodes-offset_bounds-list-x-index : goal.items_nodes-offset_bounds-list-x-index
items_nodes-offset_bounds-list-x-index t c = omega arith

pub items_nodes-item_nodes-total-requires : goal.items_nodes-item_nodes-total-requires
items_nodes-item_nodes-total-requires t c = grind (the_lemmas, arith, common_steps)

pub items_nodes-overflow_add-total : goal.items_nodes-overflow_add-total
items_nodes-overflow_add-total t c = grind (arith, common_steps)

pub items_nodes-loop-x-smaller : goal.items_nodes-loop-x-smaller
items_nodes-loop-x-smaller t c = grind (arith, common_steps)

pub items_nodes-loop-x-preserved : goal.items_nodes-loop-x-preserved
items_nodes-loop-x-preserved t c = grind (arith, common_steps)

pub items_nodes-returns : goal.items_nodes-returns
items_nodes-returns t c = grind (arith, common_steps)

pub member_nodes-base_nodes-requires : goal.member_nodes-base_nodes-requires
member_nodes-base_nodes-requires t c = grind (the_lemmas, arith, common_steps)

pub member_nodes-declarators_nodes-requires : goal.member_nodes-declarators_nodes-requires
member_nodes-declarators_nodes-requires t c = grind (the_lemmas, arith, common_steps)

pub member_nodes-overflow_add-result : goal.member_nodes-overflow_add-result
member_nodes-overflow_add-result t c = grind (the_lemmas, arith, common_steps)

pub member_nodes-returns : goal.member_nodes-returns
member_nodes-returns t c = grind (the_lemmas, arith, common_steps)

pub members_nodes-loop-x-init : goal.members_nodes-loop-x-init
members_nodes-loop-x-init t c = grind (arith, common_steps)

pub members_nodes-offset_bounds-list-x-index : goal.members_nodes-offset_bounds-list-x-index
members_nodes-offset_bounds-list-x-index t c = omega arith

pub members_nodes-member_nodes-total-requires : goal.members_nodes-member_nodes-total-requires
members_nodes-member_nodes-total-requires t c = grind (the_lemmas, arith, common_steps)

pub members_nodes-overflow_add-total : goal.members_nodes-overflow_add-total
members_nodes-overflow_add-total t c = grind (arith, common_steps)

pub members_nodes-loop-x-smaller : goal.members_nodes-loop-x-smaller
members_nodes-loop-x-smaller t c = grind (arith, common_steps)

pub members_nodes-loop-x-preserved : goal.members_nodes-loop-x-preserved
members_nodes-loop-x-preserved t c = grind (arith, common_steps)

pub members_nodes-returns : goal.members_nodes-returns
members_nodes-returns t c = grind (arith, common_steps)

pub parameter_nodes-base_nodes-requires : goal.parameter_nodes-base_nodes-requires
parameter_nodes-base_nodes-requires t c = grind (the_lemmas, arith, common_steps)

pub parameter_nodes-declarator_nodes-requires : goal.parameter_nodes-declarator_nodes-requires
parameter_nodes-declarator_nodes-requires t c = grind (the_lemmas, arith, common_steps)

pub parameter_nodes-overflow_add-result : goal.parameter_nodes-overflow_add-result
parameter_nodes-overflow_add-result t c = grind (the_lemmas, arith, common_steps)

pub parameter_nodes-overflow_add-result-2 : goal.parameter_nodes-overflow_add-result-2
parameter_nodes-overflow_add-result-2 t c = grind (the_lemmas, arith, common_steps)

pub parameter_nodes-returns : goal.parameter_nodes-returns
parameter_nodes-returns t c = grind (the_lemmas, arith, common_steps)

pub parameters_nodes-loop-x-init : goal.parameters_nodes-loop-x-init
parameters_nodes-loop-x-init t c = grind (arith, common_steps)

pub parameters_nodes-offset_bounds-list-x-index : goal.parameters_nodes-offset_bounds-list-x-index
parameters_nodes-offset_bounds-list-x-index t c = omega arith

pub parameters_nodes-parameter_nodes-total-requires : goal.parameters_nodes-parameter_nodes-total-requires
parameters_nodes-parameter_nodes-total-requires t c = grind (the_lemmas, arith, common_steps)

pub parameters_nodes-overflow_add-total : goal.parameters_nodes-overflow_add-total
parameters_nodes-overflow_add-total t c = grind (arith, common_steps)

pub parameters_nodes-loop-x-smaller : goal.parameters_nodes-loop-x-smaller
parameters_nodes-loop-x-smaller t c = grind (arith, common_steps)

pub parameters_nodes-loop-x-preserved : goal.parameters_nodes-loop-x-preserved
parameters_nodes-loop-x-preserved t c = grind (arith, common_steps)

pub parameters_nodes-returns : goal.parameters_nodes-returns
parameters_nodes-returns t c = grind (arith, common_steps)

pub tail_nodes-dimensions_nodes-requires : goal.tail_nodes-dimensions_nodes-requires
tail_nodes-dimensions_nodes-requires t c = grind (the_lemmas, arith, common_steps)

pub tail_nodes-parameters_nodes-requires : goal.tail_nodes-parameters_nodes-requires
tail_nodes-parameters_nodes-requires t c = grind (the_lemmas, arith, common_steps)

pub tail_nodes-returns-in-Arrays : goal.tail_nodes-returns-in-Arrays
tail_nodes-returns-in-Arrays t c = grind (the_lemmas, arith, common_steps)

pub tail_nodes-returns-in-Params : goal.tail_nodes-returns-in-Params
tail_nodes-returns-in-Params t c = grind (the_lemmas, arith, common_steps)

pub tail_nodes-returns-in-Unspecified : goal.tail_nodes-returns-in-Unspecified
tail_nodes-returns-in-Unspecified t c = grind (the_lemmas, arith, common_steps)

pub tail_nodes-returns-in-Unspecified-2 : goal.tail_nodes-returns-in-Unspecified-2
tail_nodes-returns-in-Unspecified-2 t c = grind (the_lemmas, arith, common_steps)

pub type_name_nodes-base_nodes-requires : goal.type_name_nodes-base_nodes-requires
type_name_nodes-base_nodes-requires t c = grind (the_lemmas, arith, common_steps)

pub type_name_nodes-dimensions_nodes-requires : goal.type_name_nodes-dimensions_nodes-requires
type_name_nodes-dimensions_nodes-requires t c = grind (the_lemmas, arith, common_steps)

pub type_name_nodes-overflow_add-result : goal.type_name_nodes-overflow_add-result
type_name_nodes-overflow_add-result t c = grind (the_lemmas, arith, common_steps)

pub type_name_nodes-overflow_add-result-2 : goal.type_name_nodes-overflow_add-result-2
type_name_nodes-overflow_add-result-2 t c = grind (the_lemmas, arith, common_steps)

pub type_name_nodes-returns : goal.type_name_nodes-returns
type_name_nodes-returns t c = grind (the_lemmas, arith, common_steps)
