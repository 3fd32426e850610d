use Rattle.std.proofs.Common.{rules, arith, ◌+◌, ◌<◌, length, refl, length-append}
use Rattle.stk_nodes.proofs.Chains.{laid_next, laid_past_comma, counted_more}
use Rattle.stk_nodes.specs.Setter.{setter}
use Rattle.stk_tree.specs.Layout.{laid_expression, laid_expressions, laid_dimension, laid_dimensions, laid_member, laid_members, laid_enumerator, laid_enumerators, laid_declarator, laid_declarators, laid_parameter, laid_parameters, laid_item, laid_items, laid_designator, laid_designators}
use Rattle.stk_tree.specs.Nodes.{expression_nodes, expressions_nodes, dimension_nodes, dimensions_nodes, member_nodes, members_nodes, enumerator_nodes, enumerators_nodes, declarator_nodes, declarators_nodes, parameter_nodes, parameters_nodes, item_nodes, items_nodes, designator_nodes, designators_nodes}
use Rattle.stk_tree.specs.Syntax.{no_expressions, then_expression, no_dimensions, then_dimension, no_members, then_member, no_enumerators, then_enumerator, no_declarators, then_declarator, no_parameters, then_parameter, no_items, then_item, no_designators, then_designator}
use Rattle.stk_tree.specs.Tokens.{expression_tokens, more_expressions, dimension_tokens, dimensions_tokens, member_tokens, members_tokens, enumerator_tokens, more_enumerators, declarator_tokens, more_declarators, parameter_tokens, more_parameters, item_tokens, more_items, designator_tokens, designators_tokens}
use Rattle.stk_tree.specs.View.{view_expression, view_dimension, view_member, view_enumerator, view_declarator, view_parameter, view_item, view_designator}
use Rattle.stk_nodes.proofs.lay_expressions.+lay_expression.Goals as goal
use Rattle.stk_tree.specs.declared.declaration.BaseForm.TheFolds.{the_lemmas}
use Rattle.std.proofs.lemmas.Grind.{common_steps}

pub lay_expressions-loop-i-preserved : goal.lay_expressions-loop-i-preserved
lay_expressions-loop-i-preserved t c =
    let inside : c.loop-i.i < length c.loop-i.list = omega arith in
    record {
      same = search rules;
      tree = laid_past_comma then_expression no_expressions view_expression (laid_expression (setter c.args.records)) (laid_expressions (setter c.args.records)) expression_nodes (λ y. length (expression_tokens y)) (λ n t y ys. refl) _ c.loop-i.list c.loop-i.i c.index-list-i.result c.lay_expression-end-in-loop-i.new.x c.past.result.number c.past.result.token _ _ inside c.lay_expression-end-in-loop-i.ensures.tree c.lay_expression-end-in-loop-i.ensures.number c.lay_expression-end-in-loop-i.ensures.token (rw (c.past.ensures.number, c.past.ensures.token) c.loop-i.invariant.tree);
      number = counted_more then_expression no_expressions view_expression expression_nodes expressions_nodes (λ y ys. refl) c.loop-i.list c.loop-i.i c.index-list-i.result c.lay_expression-end-in-loop-i.new.x _ _ _ inside (omega (arith, c.lay_expression-end-in-loop-i.ensures.number, c.past.ensures.number)) c.loop-i.invariant.number;
      token = counted_more then_expression no_expressions view_expression (λ y. length (expression_tokens y) + 1) (λ ys. length (more_expressions ys)) (λ y ys. omega (arith, length-append (expression_tokens y) (more_expressions ys))) c.loop-i.list c.loop-i.i c.index-list-i.result c.lay_expression-end-in-loop-i.new.x _ _ _ inside (omega (arith, c.lay_expression-end-in-loop-i.ensures.token, c.past.ensures.token)) c.loop-i.invariant.token;
    }

pub lay_dimensions-loop-i-preserved : goal.lay_dimensions-loop-i-preserved
lay_dimensions-loop-i-preserved t c =
    let inside : c.loop-i.i < length c.loop-i.list = omega arith in
    record {
      same = search rules;
      tree = laid_next then_dimension no_dimensions view_dimension (laid_dimension (setter c.args.records)) (laid_dimensions (setter c.args.records)) dimension_nodes (λ y. length (dimension_tokens y)) (λ n t y ys. refl) _ c.loop-i.list c.loop-i.i c.index-list-i.result c.lay_dimension-end.new.x _ _ _ _ inside c.lay_dimension-end.ensures.tree c.lay_dimension-end.ensures.number c.lay_dimension-end.ensures.token c.loop-i.invariant.tree;
      number = counted_more then_dimension no_dimensions view_dimension dimension_nodes dimensions_nodes (λ y ys. refl) c.loop-i.list c.loop-i.i c.index-list-i.result c.lay_dimension-end.new.x _ _ _ inside c.lay_dimension-end.ensures.number c.loop-i.invariant.number;
      token = counted_more then_dimension no_dimensions view_dimension (λ y. length (dimension_tokens y)) (λ ys. length (dimensions_tokens ys)) (λ y ys. length-append (dimension_tokens y) (dimensions_tokens ys)) c.loop-i.list c.loop-i.i c.index-list-i.result c.lay_dimension-end.new.x _ _ _ inside c.lay_dimension-end.ensures.token c.loop-i.invariant.token;
    }

pub lay_members-loop-i-preserved : goal.lay_members-loop-i-preserved
lay_members-loop-i-preserved t c =
    let inside : c.loop-i.i < length c.loop-i.list = omega arith in
    record {
      same = search rules;
      tree = laid_next then_member no_members view_member (laid_member (setter c.args.records)) (laid_members (setter c.args.records)) member_nodes (λ y. length (member_tokens y)) (λ n t y ys. refl) _ c.loop-i.list c.loop-i.i c.index-list-i.result c.lay_member-end.new.x _ _ _ _ inside c.lay_member-end.ensures.tree c.lay_member-end.ensures.number c.lay_member-end.ensures.token c.loop-i.invariant.tree;
      number = counted_more then_member no_members view_member member_nodes members_nodes (λ y ys. refl) c.loop-i.list c.loop-i.i c.index-list-i.result c.lay_member-end.new.x _ _ _ inside c.lay_member-end.ensures.number c.loop-i.invariant.number;
      token = counted_more then_member no_members view_member (λ y. length (member_tokens y)) (λ ys. length (members_tokens ys)) (λ y ys. length-append (member_tokens y) (members_tokens ys)) c.loop-i.list c.loop-i.i c.index-list-i.result c.lay_member-end.new.x _ _ _ inside c.lay_member-end.ensures.token c.loop-i.invariant.token;
    }

pub lay_enumerators-loop-i-preserved : goal.lay_enumerators-loop-i-preserved
lay_enumerators-loop-i-preserved t c =
    let inside : c.loop-i.i < length c.loop-i.list = omega arith in
    record {
      same = search rules;
      tree = laid_past_comma then_enumerator no_enumerators view_enumerator (laid_enumerator (setter c.args.records)) (laid_enumerators (setter c.args.records)) enumerator_nodes (λ y. length (enumerator_tokens y)) (λ n t y ys. refl) _ c.loop-i.list c.loop-i.i c.index-list-i.result c.lay_enumerator-end-in-loop-i.new.x c.past.result.number c.past.result.token _ _ inside c.lay_enumerator-end-in-loop-i.ensures.tree c.lay_enumerator-end-in-loop-i.ensures.number c.lay_enumerator-end-in-loop-i.ensures.token (rw (c.past.ensures.number, c.past.ensures.token) c.loop-i.invariant.tree);
      number = counted_more then_enumerator no_enumerators view_enumerator enumerator_nodes enumerators_nodes (λ y ys. refl) c.loop-i.list c.loop-i.i c.index-list-i.result c.lay_enumerator-end-in-loop-i.new.x _ _ _ inside (omega (arith, c.lay_enumerator-end-in-loop-i.ensures.number, c.past.ensures.number)) c.loop-i.invariant.number;
      token = counted_more then_enumerator no_enumerators view_enumerator (λ y. length (enumerator_tokens y) + 1) (λ ys. length (more_enumerators ys)) (λ y ys. omega (arith, length-append (enumerator_tokens y) (more_enumerators ys))) c.loop-i.list c.loop-i.i c.index-list-i.result c.lay_enumerator-end-in-loop-i.new.x _ _ _ inside (omega (arith, c.lay_enumerator-end-in-loop-i.ensures.token, c.past.ensures.token)) c.loop-i.invariant.token;
    }

pub lay_declarators-loop-i-preserved : goal.lay_declarators-loop-i-preserved
lay_declarators-loop-i-preserved t c =
    let inside : c.loop-i.i < length c.loop-i.list = omega arith in
    record {
      same = search rules;
      tree = laid_past_comma then_declarator no_declarators view_declarator (laid_declarator (setter c.args.records)) (laid_declarators (setter c.args.records)) declarator_nodes (λ y. length (declarator_tokens y)) (λ n t y ys. refl) _ c.loop-i.list c.loop-i.i c.index-list-i.result c.lay_declarator-end-in-loop-i.new.x c.past.result.number c.past.result.token _ _ inside c.lay_declarator-end-in-loop-i.ensures.tree c.lay_declarator-end-in-loop-i.ensures.number c.lay_declarator-end-in-loop-i.ensures.token (rw (c.past.ensures.number, c.past.ensures.token) c.loop-i.invariant.tree);
      number = counted_more then_declarator no_declarators view_declarator declarator_nodes declarators_nodes (λ y ys. refl) c.loop-i.list c.loop-i.i c.index-list-i.result c.lay_declarator-end-in-loop-i.new.x _ _ _ inside (omega (arith, c.lay_declarator-end-in-loop-i.ensures.number, c.past.ensures.number)) c.loop-i.invariant.number;
      token = counted_more then_declarator no_declarators view_declarator (λ y. length (declarator_tokens y) + 1) (λ ys. length (more_declarators ys)) (λ y ys. omega (arith, length-append (declarator_tokens y) (more_declarators ys))) c.loop-i.list c.loop-i.i c.index-list-i.result c.lay_declarator-end-in-loop-i.new.x _ _ _ inside (omega (arith, c.lay_declarator-end-in-loop-i.ensures.token, c.past.ensures.token)) c.loop-i.invariant.token;
    }

pub lay_parameters-loop-i-preserved : goal.lay_parameters-loop-i-preserved
lay_parameters-loop-i-preserved t c =
    let inside : c.loop-i.i < length c.loop-i.list = omega arith in
    record {
      same = search rules;
      tree = laid_past_comma then_parameter no_parameters view_parameter (laid_parameter (setter c.args.records)) (laid_parameters (setter c.args.records)) parameter_nodes (λ y. length (parameter_tokens y)) (λ n t y ys. refl) _ c.loop-i.list c.loop-i.i c.index-list-i.result c.lay_parameter-end-in-loop-i.new.x c.past.result.number c.past.result.token _ _ inside c.lay_parameter-end-in-loop-i.ensures.tree c.lay_parameter-end-in-loop-i.ensures.number c.lay_parameter-end-in-loop-i.ensures.token (rw (c.past.ensures.number, c.past.ensures.token) c.loop-i.invariant.tree);
      number = counted_more then_parameter no_parameters view_parameter parameter_nodes parameters_nodes (λ y ys. refl) c.loop-i.list c.loop-i.i c.index-list-i.result c.lay_parameter-end-in-loop-i.new.x _ _ _ inside (omega (arith, c.lay_parameter-end-in-loop-i.ensures.number, c.past.ensures.number)) c.loop-i.invariant.number;
      token = counted_more then_parameter no_parameters view_parameter (λ y. length (parameter_tokens y) + 1) (λ ys. length (more_parameters ys)) (λ y ys. omega (arith, length-append (parameter_tokens y) (more_parameters ys))) c.loop-i.list c.loop-i.i c.index-list-i.result c.lay_parameter-end-in-loop-i.new.x _ _ _ inside (omega (arith, c.lay_parameter-end-in-loop-i.ensures.token, c.past.ensures.token)) c.loop-i.invariant.token;
    }

pub lay_items-loop-i-preserved : goal.lay_items-loop-i-preserved
lay_items-loop-i-preserved t c =
    let inside : c.loop-i.i < length c.loop-i.list = omega arith in
    record {
      same = search rules;
      tree = laid_past_comma then_item no_items view_item (laid_item (setter c.args.records)) (laid_items (setter c.args.records)) item_nodes (λ y. length (item_tokens y)) (λ n t y ys. refl) _ c.loop-i.list c.loop-i.i c.index-list-i.result c.lay_item-end-in-loop-i.new.x c.past.result.number c.past.result.token _ _ inside c.lay_item-end-in-loop-i.ensures.tree c.lay_item-end-in-loop-i.ensures.number c.lay_item-end-in-loop-i.ensures.token (rw (c.past.ensures.number, c.past.ensures.token) c.loop-i.invariant.tree);
      number = counted_more then_item no_items view_item item_nodes items_nodes (λ y ys. refl) c.loop-i.list c.loop-i.i c.index-list-i.result c.lay_item-end-in-loop-i.new.x _ _ _ inside (omega (arith, c.lay_item-end-in-loop-i.ensures.number, c.past.ensures.number)) c.loop-i.invariant.number;
      token = counted_more then_item no_items view_item (λ y. length (item_tokens y) + 1) (λ ys. length (more_items ys)) (λ y ys. omega (arith, length-append (item_tokens y) (more_items ys))) c.loop-i.list c.loop-i.i c.index-list-i.result c.lay_item-end-in-loop-i.new.x _ _ _ inside (omega (arith, c.lay_item-end-in-loop-i.ensures.token, c.past.ensures.token)) c.loop-i.invariant.token;
    }

pub lay_designators-loop-i-preserved : goal.lay_designators-loop-i-preserved
lay_designators-loop-i-preserved t c =
    let inside : c.loop-i.i < length c.loop-i.list = omega arith in
    record {
      same = search rules;
      tree = laid_next then_designator no_designators view_designator (laid_designator (setter c.args.records)) (laid_designators (setter c.args.records)) designator_nodes (λ y. length (designator_tokens y)) (λ n t y ys. refl) _ c.loop-i.list c.loop-i.i c.index-list-i.result c.lay_designator-end.new.x _ _ _ _ inside c.lay_designator-end.ensures.tree c.lay_designator-end.ensures.number c.lay_designator-end.ensures.token c.loop-i.invariant.tree;
      number = counted_more then_designator no_designators view_designator designator_nodes designators_nodes (λ y ys. refl) c.loop-i.list c.loop-i.i c.index-list-i.result c.lay_designator-end.new.x _ _ _ inside c.lay_designator-end.ensures.number c.loop-i.invariant.number;
      token = counted_more then_designator no_designators view_designator (λ y. length (designator_tokens y)) (λ ys. length (designators_tokens ys)) (λ y ys. length-append (designator_tokens y) (designators_tokens ys)) c.loop-i.list c.loop-i.i c.index-list-i.result c.lay_designator-end.new.x _ _ _ inside c.lay_designator-end.ensures.token c.loop-i.invariant.token;
    }

-- From here on: goals that the check would prove by itself, but only after searches that fail. With the equations of
-- the folds `grind` is quick.
pub lay_base-lay_base_form-end-requires : goal.lay_base-lay_base_form-end-requires
lay_base-lay_base_form-end-requires t c = grind (the_lemmas, arith, common_steps)

pub lay_base-close-requires : goal.lay_base-close-requires
lay_base-close-requires t c = grind (the_lemmas, arith, common_steps)

pub lay_base-returns : goal.lay_base-returns
lay_base-returns t c = grind (the_lemmas, arith, common_steps)

pub lay_base_form-overflow_cast-len : goal.lay_base_form-overflow_cast-len
lay_base_form-overflow_cast-len t c = grind (the_lemmas, arith, common_steps)

pub lay_base_form-past-requires : goal.lay_base_form-past-requires
lay_base_form-past-requires t c = grind (the_lemmas, arith, common_steps)

pub lay_base_form-past-requires-in-Named : goal.lay_base_form-past-requires-in-Named
lay_base_form-past-requires-in-Named t c = grind (the_lemmas, arith, common_steps)

pub lay_base_form-past-requires-in-StructDef : goal.lay_base_form-past-requires-in-StructDef
lay_base_form-past-requires-in-StructDef t c = grind (the_lemmas, arith, common_steps)

pub lay_base_form-past-next-requires : goal.lay_base_form-past-next-requires
lay_base_form-past-next-requires t c = grind (the_lemmas, arith, common_steps)

pub lay_base_form-lay_members-requires : goal.lay_base_form-lay_members-requires
lay_base_form-lay_members-requires t c = grind (the_lemmas, arith, common_steps)

pub lay_base_form-past-requires-in-StructDef-2 : goal.lay_base_form-past-requires-in-StructDef-2
lay_base_form-past-requires-in-StructDef-2 t c = grind (the_lemmas, arith, common_steps)

pub lay_base_form-past-requires-in-EnumDef : goal.lay_base_form-past-requires-in-EnumDef
lay_base_form-past-requires-in-EnumDef t c = grind (the_lemmas, arith, common_steps)

pub lay_base_form-past-next-requires-in-EnumDef : goal.lay_base_form-past-next-requires-in-EnumDef
lay_base_form-past-next-requires-in-EnumDef t c = grind (the_lemmas, arith, common_steps)

pub lay_base_form-lay_enumerators-end-requires : goal.lay_base_form-lay_enumerators-end-requires
lay_base_form-lay_enumerators-end-requires t c = grind (the_lemmas, arith, common_steps)

pub lay_base_form-past-requires-in-EnumDef-2 : goal.lay_base_form-past-requires-in-EnumDef-2
lay_base_form-past-requires-in-EnumDef-2 t c = grind (the_lemmas, arith, common_steps)

pub lay_base_form-past-requires-in-EnumDef-3 : goal.lay_base_form-past-requires-in-EnumDef-3
lay_base_form-past-requires-in-EnumDef-3 t c = grind (the_lemmas, arith, common_steps)

pub lay_base_form-past-requires-in-StructRef : goal.lay_base_form-past-requires-in-StructRef
lay_base_form-past-requires-in-StructRef t c = grind (the_lemmas, arith, common_steps)

pub lay_base_form-returns-in-Words : goal.lay_base_form-returns-in-Words
lay_base_form-returns-in-Words t c = grind (the_lemmas, arith, common_steps)

pub lay_base_form-returns-in-Named : goal.lay_base_form-returns-in-Named
lay_base_form-returns-in-Named t c = grind (the_lemmas, arith, common_steps)

pub lay_base_form-returns-in-StructDef : goal.lay_base_form-returns-in-StructDef
lay_base_form-returns-in-StructDef t c = grind (the_lemmas, arith, common_steps)

pub lay_base_form-returns-in-EnumDef : goal.lay_base_form-returns-in-EnumDef
lay_base_form-returns-in-EnumDef t c = grind (the_lemmas, arith, common_steps)

pub lay_base_form-returns-in-StructRef : goal.lay_base_form-returns-in-StructRef
lay_base_form-returns-in-StructRef t c = grind (the_lemmas, arith, common_steps)

pub lay_declarator-after_name-requires : goal.lay_declarator-after_name-requires
lay_declarator-after_name-requires t c = grind (the_lemmas, arith, common_steps)

pub lay_declarator-lay_tail-after_tail-requires : goal.lay_declarator-lay_tail-after_tail-requires
lay_declarator-lay_tail-after_tail-requires t c = grind (the_lemmas, arith, common_steps)

pub lay_declarator-close-requires : goal.lay_declarator-close-requires
lay_declarator-close-requires t c = grind (the_lemmas, arith, common_steps)

pub lay_declarator-past-requires : goal.lay_declarator-past-requires
lay_declarator-past-requires t c = grind (the_lemmas, arith, common_steps)

pub lay_declarator-lay_initialiser-end-requires : goal.lay_declarator-lay_initialiser-end-requires
lay_declarator-lay_initialiser-end-requires t c = grind (the_lemmas, arith, common_steps)

pub lay_declarator-close-requires-in-Some : goal.lay_declarator-close-requires-in-Some
lay_declarator-close-requires-in-Some t c = grind (the_lemmas, arith, common_steps)

pub lay_declarator-returns-in-None : goal.lay_declarator-returns-in-None
lay_declarator-returns-in-None t c = grind (the_lemmas, arith, common_steps)

pub lay_declarator-returns-in-Some : goal.lay_declarator-returns-in-Some
lay_declarator-returns-in-Some t c = grind (the_lemmas, arith, common_steps)

pub lay_declarators-returns-then-is_empty : goal.lay_declarators-returns-then-is_empty
lay_declarators-returns-then-is_empty t c = grind (the_lemmas, arith, common_steps)

pub lay_declarators-bounds-list-0 : goal.lay_declarators-bounds-list-0
lay_declarators-bounds-list-0 t c = grind (the_lemmas, arith, common_steps)

pub lay_declarators-lay_declarator-end-requires : goal.lay_declarators-lay_declarator-end-requires
lay_declarators-lay_declarator-end-requires t c = grind (the_lemmas, arith, common_steps)

pub lay_declarators-loop-i-init : goal.lay_declarators-loop-i-init
lay_declarators-loop-i-init t c = grind (the_lemmas, arith, common_steps)

pub lay_declarators-offset_bounds-list-i : goal.lay_declarators-offset_bounds-list-i
lay_declarators-offset_bounds-list-i t c = grind (the_lemmas, arith, common_steps)

pub lay_declarators-bounds-list-i : goal.lay_declarators-bounds-list-i
lay_declarators-bounds-list-i t c = grind (the_lemmas, arith, common_steps)

pub lay_declarators-past-requires : goal.lay_declarators-past-requires
lay_declarators-past-requires t c = grind (the_lemmas, arith, common_steps)

pub lay_declarators-lay_declarator-end-requires-in-loop-i : goal.lay_declarators-lay_declarator-end-requires-in-loop-i
lay_declarators-lay_declarator-end-requires-in-loop-i t c = grind (the_lemmas, arith, common_steps)

pub lay_declarators-loop-i-smaller : goal.lay_declarators-loop-i-smaller
lay_declarators-loop-i-smaller t c = grind (the_lemmas, arith, common_steps)

pub lay_declarators-returns : goal.lay_declarators-returns
lay_declarators-returns t c = grind (the_lemmas, arith, common_steps)

pub lay_designator-past-requires : goal.lay_designator-past-requires
lay_designator-past-requires t c = grind (the_lemmas, arith, common_steps)

pub lay_designator-past-requires-in-At : goal.lay_designator-past-requires-in-At
lay_designator-past-requires-in-At t c = grind (the_lemmas, arith, common_steps)

pub lay_designator-lay_expression-requires : goal.lay_designator-lay_expression-requires
lay_designator-lay_expression-requires t c = grind (the_lemmas, arith, common_steps)

pub lay_designator-past-requires-in-At-2 : goal.lay_designator-past-requires-in-At-2
lay_designator-past-requires-in-At-2 t c = grind (the_lemmas, arith, common_steps)

pub lay_designator-returns-in-Dot : goal.lay_designator-returns-in-Dot
lay_designator-returns-in-Dot t c = grind (the_lemmas, arith, common_steps)

pub lay_designator-returns-in-At : goal.lay_designator-returns-in-At
lay_designator-returns-in-At t c = grind (the_lemmas, arith, common_steps)

pub lay_designators-loop-i-init : goal.lay_designators-loop-i-init
lay_designators-loop-i-init t c = grind (the_lemmas, arith, common_steps)

pub lay_designators-offset_bounds-list-i : goal.lay_designators-offset_bounds-list-i
lay_designators-offset_bounds-list-i t c = grind (the_lemmas, arith, common_steps)

pub lay_designators-bounds-list-i : goal.lay_designators-bounds-list-i
lay_designators-bounds-list-i t c = grind (the_lemmas, arith, common_steps)

pub lay_designators-lay_designator-end-requires : goal.lay_designators-lay_designator-end-requires
lay_designators-lay_designator-end-requires t c = grind (the_lemmas, arith, common_steps)

pub lay_designators-loop-i-smaller : goal.lay_designators-loop-i-smaller
lay_designators-loop-i-smaller t c = grind (the_lemmas, arith, common_steps)

pub lay_designators-returns : goal.lay_designators-returns
lay_designators-returns t c = grind (the_lemmas, arith, common_steps)

pub lay_dimension-past-requires : goal.lay_dimension-past-requires
lay_dimension-past-requires t c = grind (the_lemmas, arith, common_steps)

pub lay_dimension-past-requires-in-Sized : goal.lay_dimension-past-requires-in-Sized
lay_dimension-past-requires-in-Sized t c = grind (the_lemmas, arith, common_steps)

pub lay_dimension-lay_expression-requires : goal.lay_dimension-lay_expression-requires
lay_dimension-lay_expression-requires t c = grind (the_lemmas, arith, common_steps)

pub lay_dimension-past-requires-in-Sized-2 : goal.lay_dimension-past-requires-in-Sized-2
lay_dimension-past-requires-in-Sized-2 t c = grind (the_lemmas, arith, common_steps)

pub lay_dimension-returns-in-Open : goal.lay_dimension-returns-in-Open
lay_dimension-returns-in-Open t c = grind (the_lemmas, arith, common_steps)

pub lay_dimension-returns-in-Sized : goal.lay_dimension-returns-in-Sized
lay_dimension-returns-in-Sized t c = grind (the_lemmas, arith, common_steps)

pub lay_dimensions-loop-i-init : goal.lay_dimensions-loop-i-init
lay_dimensions-loop-i-init t c = grind (the_lemmas, arith, common_steps)

pub lay_dimensions-offset_bounds-list-i : goal.lay_dimensions-offset_bounds-list-i
lay_dimensions-offset_bounds-list-i t c = grind (the_lemmas, arith, common_steps)

pub lay_dimensions-bounds-list-i : goal.lay_dimensions-bounds-list-i
lay_dimensions-bounds-list-i t c = grind (the_lemmas, arith, common_steps)

pub lay_dimensions-lay_dimension-end-requires : goal.lay_dimensions-lay_dimension-end-requires
lay_dimensions-lay_dimension-end-requires t c = grind (the_lemmas, arith, common_steps)

pub lay_dimensions-loop-i-smaller : goal.lay_dimensions-loop-i-smaller
lay_dimensions-loop-i-smaller t c = grind (the_lemmas, arith, common_steps)

pub lay_dimensions-returns : goal.lay_dimensions-returns
lay_dimensions-returns t c = grind (the_lemmas, arith, common_steps)

pub lay_enumerator-past-requires : goal.lay_enumerator-past-requires
lay_enumerator-past-requires t c = grind (the_lemmas, arith, common_steps)

pub lay_enumerator-past-requires-in-Some : goal.lay_enumerator-past-requires-in-Some
lay_enumerator-past-requires-in-Some t c = grind (the_lemmas, arith, common_steps)

pub lay_enumerator-lay_expression-requires : goal.lay_enumerator-lay_expression-requires
lay_enumerator-lay_expression-requires t c = grind (the_lemmas, arith, common_steps)

pub lay_enumerator-returns-in-None : goal.lay_enumerator-returns-in-None
lay_enumerator-returns-in-None t c = grind (the_lemmas, arith, common_steps)

pub lay_enumerator-returns-in-Some : goal.lay_enumerator-returns-in-Some
lay_enumerator-returns-in-Some t c = grind (the_lemmas, arith, common_steps)

pub lay_enumerators-returns-then-is_empty : goal.lay_enumerators-returns-then-is_empty
lay_enumerators-returns-then-is_empty t c = grind (the_lemmas, arith, common_steps)

pub lay_enumerators-bounds-list-0 : goal.lay_enumerators-bounds-list-0
lay_enumerators-bounds-list-0 t c = grind (the_lemmas, arith, common_steps)

pub lay_enumerators-lay_enumerator-end-requires : goal.lay_enumerators-lay_enumerator-end-requires
lay_enumerators-lay_enumerator-end-requires t c = grind (the_lemmas, arith, common_steps)

pub lay_enumerators-loop-i-init : goal.lay_enumerators-loop-i-init
lay_enumerators-loop-i-init t c = grind (the_lemmas, arith, common_steps)

pub lay_enumerators-offset_bounds-list-i : goal.lay_enumerators-offset_bounds-list-i
lay_enumerators-offset_bounds-list-i t c = grind (the_lemmas, arith, common_steps)

pub lay_enumerators-bounds-list-i : goal.lay_enumerators-bounds-list-i
lay_enumerators-bounds-list-i t c = grind (the_lemmas, arith, common_steps)

pub lay_enumerators-past-requires : goal.lay_enumerators-past-requires
lay_enumerators-past-requires t c = grind (the_lemmas, arith, common_steps)

pub lay_enumerators-lay_enumerator-end-requires-in-loop-i : goal.lay_enumerators-lay_enumerator-end-requires-in-loop-i
lay_enumerators-lay_enumerator-end-requires-in-loop-i t c = grind (the_lemmas, arith, common_steps)

pub lay_enumerators-loop-i-smaller : goal.lay_enumerators-loop-i-smaller
lay_enumerators-loop-i-smaller t c = grind (the_lemmas, arith, common_steps)

pub lay_enumerators-returns : goal.lay_enumerators-returns
lay_enumerators-returns t c = grind (the_lemmas, arith, common_steps)

pub lay_expression-lay_expression_form-end-requires : goal.lay_expression-lay_expression_form-end-requires
lay_expression-lay_expression_form-end-requires t c = grind (the_lemmas, arith, common_steps)

pub lay_expression-close-requires : goal.lay_expression-close-requires
lay_expression-close-requires t c = grind (the_lemmas, arith, common_steps)

pub lay_expression-returns : goal.lay_expression-returns
lay_expression-returns t c = grind (the_lemmas, arith, common_steps)

pub lay_expression_form-overflow_cast-len : goal.lay_expression_form-overflow_cast-len
lay_expression_form-overflow_cast-len t c = grind (the_lemmas, arith, common_steps)

pub lay_expression_form-past-requires : goal.lay_expression_form-past-requires
lay_expression_form-past-requires t c = grind (the_lemmas, arith, common_steps)

pub lay_expression_form-past-requires-in-Paren : goal.lay_expression_form-past-requires-in-Paren
lay_expression_form-past-requires-in-Paren t c = grind (the_lemmas, arith, common_steps)

pub lay_expression_form-lay_expression-requires : goal.lay_expression_form-lay_expression-requires
lay_expression_form-lay_expression-requires t c = grind (the_lemmas, arith, common_steps)

pub lay_expression_form-past-requires-in-Paren-2 : goal.lay_expression_form-past-requires-in-Paren-2
lay_expression_form-past-requires-in-Paren-2 t c = grind (the_lemmas, arith, common_steps)

pub lay_expression_form-lay_expression-requires-in-Index : goal.lay_expression_form-lay_expression-requires-in-Index
lay_expression_form-lay_expression-requires-in-Index t c = grind (the_lemmas, arith, common_steps)

pub lay_expression_form-past-next-requires : goal.lay_expression_form-past-next-requires
lay_expression_form-past-next-requires t c = grind (the_lemmas, arith, common_steps)

pub lay_expression_form-lay_expression-requires-in-Index-2 : goal.lay_expression_form-lay_expression-requires-in-Index-2
lay_expression_form-lay_expression-requires-in-Index-2 t c = grind (the_lemmas, arith, common_steps)

pub lay_expression_form-past-requires-in-Index : goal.lay_expression_form-past-requires-in-Index
lay_expression_form-past-requires-in-Index t c = grind (the_lemmas, arith, common_steps)

pub lay_expression_form-lay_expression-requires-in-Call : goal.lay_expression_form-lay_expression-requires-in-Call
lay_expression_form-lay_expression-requires-in-Call t c = grind (the_lemmas, arith, common_steps)

pub lay_expression_form-past-next-requires-in-Call : goal.lay_expression_form-past-next-requires-in-Call
lay_expression_form-past-next-requires-in-Call t c = grind (the_lemmas, arith, common_steps)

pub lay_expression_form-lay_expressions-requires : goal.lay_expression_form-lay_expressions-requires
lay_expression_form-lay_expressions-requires t c = grind (the_lemmas, arith, common_steps)

pub lay_expression_form-past-requires-in-Call : goal.lay_expression_form-past-requires-in-Call
lay_expression_form-past-requires-in-Call t c = grind (the_lemmas, arith, common_steps)

pub lay_expression_form-lay_expression-requires-in-Dot : goal.lay_expression_form-lay_expression-requires-in-Dot
lay_expression_form-lay_expression-requires-in-Dot t c = grind (the_lemmas, arith, common_steps)

pub lay_expression_form-past-requires-in-Dot : goal.lay_expression_form-past-requires-in-Dot
lay_expression_form-past-requires-in-Dot t c = grind (the_lemmas, arith, common_steps)

pub lay_expression_form-lay_expression-requires-in-Arrow : goal.lay_expression_form-lay_expression-requires-in-Arrow
lay_expression_form-lay_expression-requires-in-Arrow t c = grind (the_lemmas, arith, common_steps)

pub lay_expression_form-past-requires-in-Arrow : goal.lay_expression_form-past-requires-in-Arrow
lay_expression_form-past-requires-in-Arrow t c = grind (the_lemmas, arith, common_steps)

pub lay_expression_form-past-requires-in-Step-IncBefore-default : goal.lay_expression_form-past-requires-in-Step-IncBefore-default
lay_expression_form-past-requires-in-Step-IncBefore-default t c = grind (the_lemmas, arith, common_steps)

pub lay_expression_form-lay_expression-requires-in-Step-IncBefore-default : goal.lay_expression_form-lay_expression-requires-in-Step-IncBefore-default
lay_expression_form-lay_expression-requires-in-Step-IncBefore-default t c = grind (the_lemmas, arith, common_steps)

pub lay_expression_form-lay_expression-requires-in-Step-IncAfter-default : goal.lay_expression_form-lay_expression-requires-in-Step-IncAfter-default
lay_expression_form-lay_expression-requires-in-Step-IncAfter-default t c = grind (the_lemmas, arith, common_steps)

pub lay_expression_form-past-requires-in-Step-IncAfter-default : goal.lay_expression_form-past-requires-in-Step-IncAfter-default
lay_expression_form-past-requires-in-Step-IncAfter-default t c = grind (the_lemmas, arith, common_steps)

pub lay_expression_form-past-requires-in-Unary : goal.lay_expression_form-past-requires-in-Unary
lay_expression_form-past-requires-in-Unary t c = grind (the_lemmas, arith, common_steps)

pub lay_expression_form-lay_expression-requires-in-Unary : goal.lay_expression_form-lay_expression-requires-in-Unary
lay_expression_form-lay_expression-requires-in-Unary t c = grind (the_lemmas, arith, common_steps)

pub lay_expression_form-past-requires-in-SizeExpr : goal.lay_expression_form-past-requires-in-SizeExpr
lay_expression_form-past-requires-in-SizeExpr t c = grind (the_lemmas, arith, common_steps)

pub lay_expression_form-lay_expression-requires-in-SizeExpr : goal.lay_expression_form-lay_expression-requires-in-SizeExpr
lay_expression_form-lay_expression-requires-in-SizeExpr t c = grind (the_lemmas, arith, common_steps)

pub lay_expression_form-past-requires-in-SizeName : goal.lay_expression_form-past-requires-in-SizeName
lay_expression_form-past-requires-in-SizeName t c = grind (the_lemmas, arith, common_steps)

pub lay_expression_form-lay_type_name-requires : goal.lay_expression_form-lay_type_name-requires
lay_expression_form-lay_type_name-requires t c = grind (the_lemmas, arith, common_steps)

pub lay_expression_form-past-requires-in-SizeName-2 : goal.lay_expression_form-past-requires-in-SizeName-2
lay_expression_form-past-requires-in-SizeName-2 t c = grind (the_lemmas, arith, common_steps)

pub lay_expression_form-past-requires-in-Cast : goal.lay_expression_form-past-requires-in-Cast
lay_expression_form-past-requires-in-Cast t c = grind (the_lemmas, arith, common_steps)

pub lay_expression_form-lay_type_name-requires-in-Cast : goal.lay_expression_form-lay_type_name-requires-in-Cast
lay_expression_form-lay_type_name-requires-in-Cast t c = grind (the_lemmas, arith, common_steps)

pub lay_expression_form-past-next-requires-in-Cast : goal.lay_expression_form-past-next-requires-in-Cast
lay_expression_form-past-next-requires-in-Cast t c = grind (the_lemmas, arith, common_steps)

pub lay_expression_form-lay_expression-requires-in-Cast : goal.lay_expression_form-lay_expression-requires-in-Cast
lay_expression_form-lay_expression-requires-in-Cast t c = grind (the_lemmas, arith, common_steps)

pub lay_expression_form-lay_expression-requires-in-Binary : goal.lay_expression_form-lay_expression-requires-in-Binary
lay_expression_form-lay_expression-requires-in-Binary t c = grind (the_lemmas, arith, common_steps)

pub lay_expression_form-past-next-requires-in-Binary : goal.lay_expression_form-past-next-requires-in-Binary
lay_expression_form-past-next-requires-in-Binary t c = grind (the_lemmas, arith, common_steps)

pub lay_expression_form-lay_expression-requires-in-Binary-2 : goal.lay_expression_form-lay_expression-requires-in-Binary-2
lay_expression_form-lay_expression-requires-in-Binary-2 t c = grind (the_lemmas, arith, common_steps)

pub lay_expression_form-lay_expression-requires-in-Choice : goal.lay_expression_form-lay_expression-requires-in-Choice
lay_expression_form-lay_expression-requires-in-Choice t c = grind (the_lemmas, arith, common_steps)

pub lay_expression_form-past-second-requires : goal.lay_expression_form-past-second-requires
lay_expression_form-past-second-requires t c = grind (the_lemmas, arith, common_steps)

pub lay_expression_form-lay_expression-requires-in-Choice-2 : goal.lay_expression_form-lay_expression-requires-in-Choice-2
lay_expression_form-lay_expression-requires-in-Choice-2 t c = grind (the_lemmas, arith, common_steps)

pub lay_expression_form-past-third-requires : goal.lay_expression_form-past-third-requires
lay_expression_form-past-third-requires t c = grind (the_lemmas, arith, common_steps)

pub lay_expression_form-lay_expression-requires-in-Choice-3 : goal.lay_expression_form-lay_expression-requires-in-Choice-3
lay_expression_form-lay_expression-requires-in-Choice-3 t c = grind (the_lemmas, arith, common_steps)

pub lay_expression_form-lay_expression-requires-in-Assign : goal.lay_expression_form-lay_expression-requires-in-Assign
lay_expression_form-lay_expression-requires-in-Assign t c = grind (the_lemmas, arith, common_steps)

pub lay_expression_form-past-next-requires-in-Assign : goal.lay_expression_form-past-next-requires-in-Assign
lay_expression_form-past-next-requires-in-Assign t c = grind (the_lemmas, arith, common_steps)

pub lay_expression_form-lay_expression-requires-in-Assign-2 : goal.lay_expression_form-lay_expression-requires-in-Assign-2
lay_expression_form-lay_expression-requires-in-Assign-2 t c = grind (the_lemmas, arith, common_steps)

pub lay_expression_form-past-requires-in-Name : goal.lay_expression_form-past-requires-in-Name
lay_expression_form-past-requires-in-Name t c = grind (the_lemmas, arith, common_steps)

pub lay_expression_form-returns-in-Text : goal.lay_expression_form-returns-in-Text
lay_expression_form-returns-in-Text t c = grind (the_lemmas, arith, common_steps)

pub lay_expression_form-returns-in-Paren : goal.lay_expression_form-returns-in-Paren
lay_expression_form-returns-in-Paren t c = grind (the_lemmas, arith, common_steps)

pub lay_expression_form-returns-in-Index : goal.lay_expression_form-returns-in-Index
lay_expression_form-returns-in-Index t c = grind (the_lemmas, arith, common_steps)

pub lay_expression_form-returns-in-Call : goal.lay_expression_form-returns-in-Call
lay_expression_form-returns-in-Call t c = grind (the_lemmas, arith, common_steps)

pub lay_expression_form-returns-in-Dot : goal.lay_expression_form-returns-in-Dot
lay_expression_form-returns-in-Dot t c = grind (the_lemmas, arith, common_steps)

pub lay_expression_form-returns-in-Arrow : goal.lay_expression_form-returns-in-Arrow
lay_expression_form-returns-in-Arrow t c = grind (the_lemmas, arith, common_steps)

pub lay_expression_form-returns-in-Step-IncBefore-default : goal.lay_expression_form-returns-in-Step-IncBefore-default
lay_expression_form-returns-in-Step-IncBefore-default t c = grind (the_lemmas, arith, common_steps)

pub lay_expression_form-returns-in-Step-IncAfter-default : goal.lay_expression_form-returns-in-Step-IncAfter-default
lay_expression_form-returns-in-Step-IncAfter-default t c = grind (the_lemmas, arith, common_steps)

pub lay_expression_form-returns-in-Unary : goal.lay_expression_form-returns-in-Unary
lay_expression_form-returns-in-Unary t c = grind (the_lemmas, arith, common_steps)

pub lay_expression_form-returns-in-SizeExpr : goal.lay_expression_form-returns-in-SizeExpr
lay_expression_form-returns-in-SizeExpr t c = grind (the_lemmas, arith, common_steps)

pub lay_expression_form-returns-in-SizeName : goal.lay_expression_form-returns-in-SizeName
lay_expression_form-returns-in-SizeName t c = grind (the_lemmas, arith, common_steps)

pub lay_expression_form-returns-in-Cast : goal.lay_expression_form-returns-in-Cast
lay_expression_form-returns-in-Cast t c = grind (the_lemmas, arith, common_steps)

pub lay_expression_form-returns-in-Binary : goal.lay_expression_form-returns-in-Binary
lay_expression_form-returns-in-Binary t c = grind (the_lemmas, arith, common_steps)

pub lay_expression_form-returns-in-Choice : goal.lay_expression_form-returns-in-Choice
lay_expression_form-returns-in-Choice t c = grind (the_lemmas, arith, common_steps)

pub lay_expression_form-returns-in-Assign : goal.lay_expression_form-returns-in-Assign
lay_expression_form-returns-in-Assign t c = grind (the_lemmas, arith, common_steps)

pub lay_expression_form-returns-in-Name : goal.lay_expression_form-returns-in-Name
lay_expression_form-returns-in-Name t c = grind (the_lemmas, arith, common_steps)

pub lay_expressions-returns-then-is_empty : goal.lay_expressions-returns-then-is_empty
lay_expressions-returns-then-is_empty t c = grind (the_lemmas, arith, common_steps)

pub lay_expressions-bounds-list-0 : goal.lay_expressions-bounds-list-0
lay_expressions-bounds-list-0 t c = grind (the_lemmas, arith, common_steps)

pub lay_expressions-lay_expression-end-requires : goal.lay_expressions-lay_expression-end-requires
lay_expressions-lay_expression-end-requires t c = grind (the_lemmas, arith, common_steps)

pub lay_expressions-loop-i-init : goal.lay_expressions-loop-i-init
lay_expressions-loop-i-init t c = grind (the_lemmas, arith, common_steps)

pub lay_expressions-offset_bounds-list-i : goal.lay_expressions-offset_bounds-list-i
lay_expressions-offset_bounds-list-i t c = grind (the_lemmas, arith, common_steps)

pub lay_expressions-bounds-list-i : goal.lay_expressions-bounds-list-i
lay_expressions-bounds-list-i t c = grind (the_lemmas, arith, common_steps)

pub lay_expressions-past-requires : goal.lay_expressions-past-requires
lay_expressions-past-requires t c = grind (the_lemmas, arith, common_steps)

pub lay_expressions-lay_expression-end-requires-in-loop-i : goal.lay_expressions-lay_expression-end-requires-in-loop-i
lay_expressions-lay_expression-end-requires-in-loop-i t c = grind (the_lemmas, arith, common_steps)

pub lay_expressions-loop-i-smaller : goal.lay_expressions-loop-i-smaller
lay_expressions-loop-i-smaller t c = grind (the_lemmas, arith, common_steps)

pub lay_expressions-returns : goal.lay_expressions-returns
lay_expressions-returns t c = grind (the_lemmas, arith, common_steps)

pub lay_initialiser-lay_expression-requires : goal.lay_initialiser-lay_expression-requires
lay_initialiser-lay_expression-requires t c = grind (the_lemmas, arith, common_steps)

pub lay_initialiser-past-requires : goal.lay_initialiser-past-requires
lay_initialiser-past-requires t c = grind (the_lemmas, arith, common_steps)

pub lay_initialiser-lay_items-end-requires : goal.lay_initialiser-lay_items-end-requires
lay_initialiser-lay_items-end-requires t c = grind (the_lemmas, arith, common_steps)

pub lay_initialiser-past-requires-in-Braces : goal.lay_initialiser-past-requires-in-Braces
lay_initialiser-past-requires-in-Braces t c = grind (the_lemmas, arith, common_steps)

pub lay_initialiser-past-requires-in-Braces-2 : goal.lay_initialiser-past-requires-in-Braces-2
lay_initialiser-past-requires-in-Braces-2 t c = grind (the_lemmas, arith, common_steps)

pub lay_initialiser-returns-in-Plain : goal.lay_initialiser-returns-in-Plain
lay_initialiser-returns-in-Plain t c = grind (the_lemmas, arith, common_steps)

pub lay_initialiser-returns-in-Braces : goal.lay_initialiser-returns-in-Braces
lay_initialiser-returns-in-Braces t c = grind (the_lemmas, arith, common_steps)

pub lay_item-lay_designators-requires : goal.lay_item-lay_designators-requires
lay_item-lay_designators-requires t c = grind (the_lemmas, arith, common_steps)

pub lay_item-past-next-requires : goal.lay_item-past-next-requires
lay_item-past-next-requires t c = grind (the_lemmas, arith, common_steps)

pub lay_item-lay_initialiser-requires : goal.lay_item-lay_initialiser-requires
lay_item-lay_initialiser-requires t c = grind (the_lemmas, arith, common_steps)

pub lay_item-returns : goal.lay_item-returns
lay_item-returns t c = grind (the_lemmas, arith, common_steps)

pub lay_items-returns-then-is_empty : goal.lay_items-returns-then-is_empty
lay_items-returns-then-is_empty t c = grind (the_lemmas, arith, common_steps)

pub lay_items-bounds-list-0 : goal.lay_items-bounds-list-0
lay_items-bounds-list-0 t c = grind (the_lemmas, arith, common_steps)

pub lay_items-lay_item-end-requires : goal.lay_items-lay_item-end-requires
lay_items-lay_item-end-requires t c = grind (the_lemmas, arith, common_steps)

pub lay_items-loop-i-init : goal.lay_items-loop-i-init
lay_items-loop-i-init t c = grind (the_lemmas, arith, common_steps)

pub lay_items-offset_bounds-list-i : goal.lay_items-offset_bounds-list-i
lay_items-offset_bounds-list-i t c = grind (the_lemmas, arith, common_steps)

pub lay_items-bounds-list-i : goal.lay_items-bounds-list-i
lay_items-bounds-list-i t c = grind (the_lemmas, arith, common_steps)

pub lay_items-past-requires : goal.lay_items-past-requires
lay_items-past-requires t c = grind (the_lemmas, arith, common_steps)

pub lay_items-lay_item-end-requires-in-loop-i : goal.lay_items-lay_item-end-requires-in-loop-i
lay_items-lay_item-end-requires-in-loop-i t c = grind (the_lemmas, arith, common_steps)

pub lay_items-loop-i-smaller : goal.lay_items-loop-i-smaller
lay_items-loop-i-smaller t c = grind (the_lemmas, arith, common_steps)

pub lay_items-returns : goal.lay_items-returns
lay_items-returns t c = grind (the_lemmas, arith, common_steps)

pub lay_member-lay_base-next-requires : goal.lay_member-lay_base-next-requires
lay_member-lay_base-next-requires t c = grind (the_lemmas, arith, common_steps)

pub lay_member-lay_declarators-requires : goal.lay_member-lay_declarators-requires
lay_member-lay_declarators-requires t c = grind (the_lemmas, arith, common_steps)

pub lay_member-past-requires : goal.lay_member-past-requires
lay_member-past-requires t c = grind (the_lemmas, arith, common_steps)

pub lay_member-returns : goal.lay_member-returns
lay_member-returns t c = grind (the_lemmas, arith, common_steps)

pub lay_members-loop-i-init : goal.lay_members-loop-i-init
lay_members-loop-i-init t c = grind (the_lemmas, arith, common_steps)

pub lay_members-offset_bounds-list-i : goal.lay_members-offset_bounds-list-i
lay_members-offset_bounds-list-i t c = grind (the_lemmas, arith, common_steps)

pub lay_members-bounds-list-i : goal.lay_members-bounds-list-i
lay_members-bounds-list-i t c = grind (the_lemmas, arith, common_steps)

pub lay_members-lay_member-end-requires : goal.lay_members-lay_member-end-requires
lay_members-lay_member-end-requires t c = grind (the_lemmas, arith, common_steps)

pub lay_members-loop-i-smaller : goal.lay_members-loop-i-smaller
lay_members-loop-i-smaller t c = grind (the_lemmas, arith, common_steps)

pub lay_members-returns : goal.lay_members-returns
lay_members-returns t c = grind (the_lemmas, arith, common_steps)

pub lay_parameter-lay_base-next-requires : goal.lay_parameter-lay_base-next-requires
lay_parameter-lay_base-next-requires t c = grind (the_lemmas, arith, common_steps)

pub lay_parameter-lay_declarator-end-requires : goal.lay_parameter-lay_declarator-end-requires
lay_parameter-lay_declarator-end-requires t c = grind (the_lemmas, arith, common_steps)

pub lay_parameter-close-requires : goal.lay_parameter-close-requires
lay_parameter-close-requires t c = grind (the_lemmas, arith, common_steps)

pub lay_parameter-returns : goal.lay_parameter-returns
lay_parameter-returns t c = grind (the_lemmas, arith, common_steps)

pub lay_parameters-returns-then-is_empty : goal.lay_parameters-returns-then-is_empty
lay_parameters-returns-then-is_empty t c = grind (the_lemmas, arith, common_steps)

pub lay_parameters-bounds-list-0 : goal.lay_parameters-bounds-list-0
lay_parameters-bounds-list-0 t c = grind (the_lemmas, arith, common_steps)

pub lay_parameters-lay_parameter-end-requires : goal.lay_parameters-lay_parameter-end-requires
lay_parameters-lay_parameter-end-requires t c = grind (the_lemmas, arith, common_steps)

pub lay_parameters-loop-i-init : goal.lay_parameters-loop-i-init
lay_parameters-loop-i-init t c = grind (the_lemmas, arith, common_steps)

pub lay_parameters-offset_bounds-list-i : goal.lay_parameters-offset_bounds-list-i
lay_parameters-offset_bounds-list-i t c = grind (the_lemmas, arith, common_steps)

pub lay_parameters-bounds-list-i : goal.lay_parameters-bounds-list-i
lay_parameters-bounds-list-i t c = grind (the_lemmas, arith, common_steps)

pub lay_parameters-past-requires : goal.lay_parameters-past-requires
lay_parameters-past-requires t c = grind (the_lemmas, arith, common_steps)

pub lay_parameters-lay_parameter-end-requires-in-loop-i : goal.lay_parameters-lay_parameter-end-requires-in-loop-i
lay_parameters-lay_parameter-end-requires-in-loop-i t c = grind (the_lemmas, arith, common_steps)

pub lay_parameters-loop-i-smaller : goal.lay_parameters-loop-i-smaller
lay_parameters-loop-i-smaller t c = grind (the_lemmas, arith, common_steps)

pub lay_parameters-returns : goal.lay_parameters-returns
lay_parameters-returns t c = grind (the_lemmas, arith, common_steps)

pub lay_tail-lay_dimensions-requires : goal.lay_tail-lay_dimensions-requires
lay_tail-lay_dimensions-requires t c = grind (the_lemmas, arith, common_steps)

pub lay_tail-past-requires : goal.lay_tail-past-requires
lay_tail-past-requires t c = grind (the_lemmas, arith, common_steps)

pub lay_tail-past-requires-in-NoParams : goal.lay_tail-past-requires-in-NoParams
lay_tail-past-requires-in-NoParams t c = grind (the_lemmas, arith, common_steps)

pub lay_tail-past-requires-in-Params : goal.lay_tail-past-requires-in-Params
lay_tail-past-requires-in-Params t c = grind (the_lemmas, arith, common_steps)

pub lay_tail-lay_parameters-end-requires : goal.lay_tail-lay_parameters-end-requires
lay_tail-lay_parameters-end-requires t c = grind (the_lemmas, arith, common_steps)

pub lay_tail-past-requires-in-Params-2 : goal.lay_tail-past-requires-in-Params-2
lay_tail-past-requires-in-Params-2 t c = grind (the_lemmas, arith, common_steps)

pub lay_tail-past-requires-in-Params-3 : goal.lay_tail-past-requires-in-Params-3
lay_tail-past-requires-in-Params-3 t c = grind (the_lemmas, arith, common_steps)

pub lay_tail-returns-in-Arrays : goal.lay_tail-returns-in-Arrays
lay_tail-returns-in-Arrays t c = grind (the_lemmas, arith, common_steps)

pub lay_tail-returns-in-Unspecified : goal.lay_tail-returns-in-Unspecified
lay_tail-returns-in-Unspecified t c = grind (the_lemmas, arith, common_steps)

pub lay_tail-returns-in-NoParams : goal.lay_tail-returns-in-NoParams
lay_tail-returns-in-NoParams t c = grind (the_lemmas, arith, common_steps)

pub lay_tail-returns-in-Params : goal.lay_tail-returns-in-Params
lay_tail-returns-in-Params t c = grind (the_lemmas, arith, common_steps)

pub lay_type_name-lay_base-requires : goal.lay_type_name-lay_base-requires
lay_type_name-lay_base-requires t c = grind (the_lemmas, arith, common_steps)

pub lay_type_name-past-next-requires : goal.lay_type_name-past-next-requires
lay_type_name-past-next-requires t c = grind (the_lemmas, arith, common_steps)

pub lay_type_name-lay_dimensions-end-requires : goal.lay_type_name-lay_dimensions-end-requires
lay_type_name-lay_dimensions-end-requires t c = grind (the_lemmas, arith, common_steps)

pub lay_type_name-close-requires : goal.lay_type_name-close-requires
lay_type_name-close-requires t c = grind (the_lemmas, arith, common_steps)

pub lay_type_name-returns : goal.lay_type_name-returns
lay_type_name-returns t c = grind (the_lemmas, arith, common_steps)
