use Rattle.std.proofs.Common.{ℕ, Bool, ◌≡◌, ◌+◌, map, drop, List, [], sym, ap, subst, ◌∙◌, Ok, Err, arith, rules}
use Rattle.std.proofs.lemmas.List.{drop_all, length-map}
use Rattle.stk_ctype.specs.Types.{row_of, type_of}
use Rattle.stk_tree.specs.declared.expression.Expr.{out-Expr}
use Rattle.stk_tree.specs.declared.declaration.TypeName.{out-TypeName}
use Rattle.stk_tree.specs.View.{expressions, dimensions, view_base, view_dimension, view_expression, view_expression_form, view_type_name}
use Rattle.stk_type_rules.specs.Facts.{Fact, fact_of, fact_at}
use Rattle.stk_type_rules.specs.Outcome.{Gives, IsAt, finish}
use Rattle.stk_type_rules.proofs.Steps.{one, two, stops, second_stops}
use Rattle.stk_type_rules.specs.Rules.{size_rule, type_size_rule, cast_rule, choice_rule}
use Rattle.stk_typing.specs.declared.arrays.Size.{Size}
use Rattle.stk_typing.specs.declared.arrays.Size.TheVariants.{Sized}
use Rattle.stk_typing.specs.Scope.{scope_of}
use Rattle.stk_typing.specs.Arrays.{starred, sized_type}
use Rattle.stk_typing.specs.declared.calls.Arguments.{Arguments}
use Rattle.stk_typing.specs.Calls.{AreArguments, begin_with_struct, with_behind}
use Rattle.stk_typing.specs.Forms.{structs_in, single_rule, pair_rule}
use Rattle.stk_typing.specs.Typing.{base_typed, expression_typed, callee_typed, arguments_typed, type_name_typed, dimensions_typed}
use Rattle.stk_typing.proofs.Turns.{AreBehind, all_behind, three, third_stops, below, longer, call_gives, arguments_stop, arguments_turn, dimensions_turn, named_gives, next_of, nil, size_gives, weaker, IsSignature, IsSize}
use Rattle.stk_typing.proofs.Views.{single_typed, pair_typed, choice_typed, size_typed, type_size_typed, cast_typed, call_typed, callee_other, named_typed, sized_typed}
use Rattle.stk_typing.proofs.expressions.+expression.Goals as goal

pub expression-returns-in_err-i-in-Choice-clause-gives : goal.expression-returns-in_err-i-in-Choice-clause-gives
expression-returns-in_err-i-in-Choice-clause-gives t c =
    let same : c.from_residual.result ≡ Err c.in_err-i-in-Choice.field-0.0 = search rules in
    rw (choice_typed (scope_of c.args.s.now) c.args.e.now c.in-Choice.a c.in-Choice.b c.in-Choice.c c.in-Choice.is, same, ← c.get.ensures)
    (stops (IsAt (map fact_of c.expression.new.facts.items)) (IsAt (map fact_of c.expression.new.facts.items)) (expression_typed (scope_of c.args.s.now) (view_expression c.get.result.now)) _ _ _ _ _ _ c.in_err-i-in-Choice.ensures.gives)

pub expression-returns-in_err-j-in-Choice-clause-gives : goal.expression-returns-in_err-j-in-Choice-clause-gives
expression-returns-in_err-j-in-Choice-clause-gives t c =
    let same : c.from_residual-in_err-j-in-Choice.result ≡ Err c.in_err-j-in-Choice.field-0.0 = search rules in
    rw (choice_typed (scope_of c.args.s.now) c.args.e.now c.in-Choice.a c.in-Choice.b c.in-Choice.c c.in-Choice.is, same, ← c.get.ensures, ← c.get-in-Choice.ensures)
    (second_stops (expression_typed (scope_of c.args.s.now) (view_expression c.get.result.now)) (expression_typed (scope_of c.args.s.now) (view_expression c.get-in-Choice.result.now)) _ c.in_ok-i-in-Choice.i _ _ (map fact_of c.expression.new.facts.items) _ (map fact_of c.expression-in-Choice.new.facts.items) c.in_ok-i-in-Choice.ensures.gives c.in_err-j-in-Choice.ensures.gives)

pub expression-returns-in_err-l-in-Choice-clause-gives : goal.expression-returns-in_err-l-in-Choice-clause-gives
expression-returns-in_err-l-in-Choice-clause-gives t c =
    let same : c.from_residual-in_err-l-in-Choice.result ≡ Err c.in_err-l-in-Choice.field-0.0 = search rules in
    rw (choice_typed (scope_of c.args.s.now) c.args.e.now c.in-Choice.a c.in-Choice.b c.in-Choice.c c.in-Choice.is, same, ← c.get.ensures, ← c.get-in-Choice.ensures, ← c.get-in-Choice-2.ensures)
    (third_stops (expression_typed (scope_of c.args.s.now) (view_expression c.get.result.now)) (expression_typed (scope_of c.args.s.now) (view_expression c.get-in-Choice.result.now)) (expression_typed (scope_of c.args.s.now) (view_expression c.get-in-Choice-2.result.now)) _ c.in_ok-i-in-Choice.i c.in_ok-j-in-Choice.j _ _ (map fact_of c.expression.new.facts.items) (map fact_of c.expression-in-Choice.new.facts.items) _ (map fact_of c.expression-in-Choice-2.new.facts.items) c.in_ok-i-in-Choice.ensures.gives c.in_ok-j-in-Choice.ensures.gives c.in_err-l-in-Choice.ensures.gives)

pub expression-by_choice-requires-clause-first : goal.expression-by_choice-requires-clause-first
expression-by_choice-requires-clause-first t c =
    let low = below (expression_typed (scope_of c.args.s.now) (view_expression c.get.result.now)) c.in_ok-i-in-Choice.i _ _ c.in_ok-i-in-Choice.ensures.gives in
    let more = longer (IsAt (map fact_of c.expression-in-Choice.new.facts.items)) (expression_typed (scope_of c.args.s.now) (view_expression c.get-in-Choice.result.now)) c.in_ok-j-in-Choice.j _ _ c.in_ok-j-in-Choice.ensures.gives in
    let most = longer (IsAt (map fact_of c.expression-in-Choice-2.new.facts.items)) (expression_typed (scope_of c.args.s.now) (view_expression c.get-in-Choice-2.result.now)) c.in_ok-l-in-Choice.l _ _ c.in_ok-l-in-Choice.ensures.gives in
    omega (arith, low, more, most, length-map c.expression-in-Choice-2.new.facts.items fact_of)

pub expression-returns-in_ok-l-in-Choice-clause-gives : goal.expression-returns-in_ok-l-in-Choice-clause-gives
expression-returns-in_ok-l-in-Choice-clause-gives t c =
    rw (choice_typed (scope_of c.args.s.now) c.args.e.now c.in-Choice.a c.in-Choice.b c.in-Choice.c c.in-Choice.is, ← c.get.ensures, ← c.get-in-Choice.ensures, ← c.get-in-Choice-2.ensures)
    (three (expression_typed (scope_of c.args.s.now) (view_expression c.get.result.now)) (expression_typed (scope_of c.args.s.now) (view_expression c.get-in-Choice.result.now)) (expression_typed (scope_of c.args.s.now) (view_expression c.get-in-Choice-2.result.now)) choice_rule _ c.in_ok-i-in-Choice.i c.in_ok-j-in-Choice.j c.in_ok-l-in-Choice.l c.by_choice.result _ (map fact_of c.expression.new.facts.items) (map fact_of c.expression-in-Choice.new.facts.items) (map fact_of c.expression-in-Choice-2.new.facts.items) _ c.in_ok-i-in-Choice.ensures.gives c.in_ok-j-in-Choice.ensures.gives c.in_ok-l-in-Choice.ensures.gives c.by_choice.ensures.gives)

pub expression-returns-in_err-i-in-SizeExpr-clause-gives : goal.expression-returns-in_err-i-in-SizeExpr-clause-gives
expression-returns-in_err-i-in-SizeExpr-clause-gives t c =
    let same : c.from_residual-in_err-i-in-SizeExpr.result ≡ Err c.in_err-i-in-SizeExpr.field-0.0 = search rules in
    rw (size_typed (scope_of c.args.s.now) c.args.e.now c.in-SizeExpr.x c.in-SizeExpr.is, same, ← c.get-in-SizeExpr.ensures, ← c.unevaluated.ensures.is)
    (stops (IsAt (map fact_of c.expression-in-SizeExpr.new.facts.items)) (IsAt (map fact_of c.expression-in-SizeExpr.new.facts.items)) (expression_typed (scope_of c.unevaluated.result) (view_expression c.get-in-SizeExpr.result.now)) _ _ _ _ _ _ c.in_err-i-in-SizeExpr.ensures.gives)

pub expression-returns-in_ok-i-in-SizeExpr-clause-gives : goal.expression-returns-in_ok-i-in-SizeExpr-clause-gives
expression-returns-in_ok-i-in-SizeExpr-clause-gives t c =
    rw (size_typed (scope_of c.args.s.now) c.args.e.now c.in-SizeExpr.x c.in-SizeExpr.is, ← c.get-in-SizeExpr.ensures, ← c.unevaluated.ensures.is)
    (one (expression_typed (scope_of c.unevaluated.result) (view_expression c.get-in-SizeExpr.result.now)) (size_rule (structs_in (scope_of c.args.s.now))) _ c.in_ok-i-in-SizeExpr.i c.by_size.result _ (map fact_of c.expression-in-SizeExpr.new.facts.items) _ c.in_ok-i-in-SizeExpr.ensures.gives c.by_size.ensures.gives)

pub expression-returns-in_ok-i-in-SizeName-clause-gives : goal.expression-returns-in_ok-i-in-SizeName-clause-gives
expression-returns-in_ok-i-in-SizeName-clause-gives t c =
    rw (type_size_typed (scope_of c.args.s.now) c.args.e.now c.in-SizeName.t c.in-SizeName.is)
    (one (type_name_typed (scope_of c.args.s.now) (view_type_name c.in-SizeName.t)) (λ v. type_size_rule (structs_in (scope_of c.args.s.now)) v.ty) _ c.in_ok-i-in-SizeName.i c.by_type_size.result _ (map fact_of c.type_name.new.facts.items) _ c.in_ok-i-in-SizeName.ensures.gives c.by_type_size.ensures.gives)

pub expression-returns-in_err-i-in-Cast-clause-gives : goal.expression-returns-in_err-i-in-Cast-clause-gives
expression-returns-in_err-i-in-Cast-clause-gives t c =
    let same : c.from_residual-in_err-i-in-Cast.result ≡ Err c.in_err-i-in-Cast.field-0.0 = search rules in
    rw (cast_typed (scope_of c.args.s.now) c.args.e.now c.in-Cast.t c.in-Cast.x c.in-Cast.is, same)
    (stops (IsAt (map fact_of c.type_name-in-Cast.new.facts.items)) (IsAt (map fact_of c.type_name-in-Cast.new.facts.items)) (type_name_typed (scope_of c.args.s.now) (view_type_name c.in-Cast.t)) _ _ _ _ _ _ c.in_err-i-in-Cast.ensures.gives)

pub expression-returns-in_err-j-in-Cast-clause-gives : goal.expression-returns-in_err-j-in-Cast-clause-gives
expression-returns-in_err-j-in-Cast-clause-gives t c =
    let same : c.from_residual-in_err-j-in-Cast.result ≡ Err c.in_err-j-in-Cast.field-0.0 = search rules in
    rw (cast_typed (scope_of c.args.s.now) c.args.e.now c.in-Cast.t c.in-Cast.x c.in-Cast.is, same, ← c.get-in-Cast.ensures)
    (second_stops (type_name_typed (scope_of c.args.s.now) (view_type_name c.in-Cast.t)) (expression_typed (scope_of c.args.s.now) (view_expression c.get-in-Cast.result.now)) _ c.in_ok-i-in-Cast.i _ _ (map fact_of c.type_name-in-Cast.new.facts.items) _ (map fact_of c.expression-in-Cast.new.facts.items) c.in_ok-i-in-Cast.ensures.gives c.in_err-j-in-Cast.ensures.gives)

pub expression-returns-in_ok-j-in-Cast-clause-gives : goal.expression-returns-in_ok-j-in-Cast-clause-gives
expression-returns-in_ok-j-in-Cast-clause-gives t c =
    rw (cast_typed (scope_of c.args.s.now) c.args.e.now c.in-Cast.t c.in-Cast.x c.in-Cast.is, ← c.get-in-Cast.ensures)
    (two (type_name_typed (scope_of c.args.s.now) (view_type_name c.in-Cast.t)) (expression_typed (scope_of c.args.s.now) (view_expression c.get-in-Cast.result.now)) (λ x y. cast_rule x.ty y) _ c.in_ok-i-in-Cast.i c.in_ok-j-in-Cast.j c.by_cast.result _ (map fact_of c.type_name-in-Cast.new.facts.items) (map fact_of c.expression-in-Cast.new.facts.items) _ c.in_ok-i-in-Cast.ensures.gives c.in_ok-j-in-Cast.ensures.gives c.by_cast.ensures.gives)

pub expression-returns-in_err-i-in-Index-clause-gives : goal.expression-returns-in_err-i-in-Index-clause-gives
expression-returns-in_err-i-in-Index-clause-gives t c =
    let same : c.from_residual-in_err-i-in-Index.result ≡ Err c.in_err-i-in-Index.field-0.0 = search rules in
    rw (pair_typed (scope_of c.args.s.now) c.args.e.now c.in-Index.a c.in-Index.b c.in-Index.is, same, ← c.get-in-Index.ensures)
    (stops (IsAt (map fact_of c.expression-in-Index.new.facts.items)) (IsAt (map fact_of c.expression-in-Index.new.facts.items)) (expression_typed (scope_of c.args.s.now) (view_expression c.get-in-Index.result.now)) _ _ _ _ _ _ c.in_err-i-in-Index.ensures.gives)

pub expression-returns-in_err-j-in-Index-clause-gives : goal.expression-returns-in_err-j-in-Index-clause-gives
expression-returns-in_err-j-in-Index-clause-gives t c =
    let same : c.from_residual-in_err-j-in-Index.result ≡ Err c.in_err-j-in-Index.field-0.0 = search rules in
    rw (pair_typed (scope_of c.args.s.now) c.args.e.now c.in-Index.a c.in-Index.b c.in-Index.is, same, ← c.get-in-Index.ensures, ← c.get-in-Index-2.ensures)
    (second_stops (expression_typed (scope_of c.args.s.now) (view_expression c.get-in-Index.result.now)) (expression_typed (scope_of c.args.s.now) (view_expression c.get-in-Index-2.result.now)) _ c.in_ok-i-in-Index.i _ _ (map fact_of c.expression-in-Index.new.facts.items) _ (map fact_of c.expression-in-Index-2.new.facts.items) c.in_ok-i-in-Index.ensures.gives c.in_err-j-in-Index.ensures.gives)

pub expression-returns-in_ok-j-in-Index-clause-gives : goal.expression-returns-in_ok-j-in-Index-clause-gives
expression-returns-in_ok-j-in-Index-clause-gives t c =
    rw (pair_typed (scope_of c.args.s.now) c.args.e.now c.in-Index.a c.in-Index.b c.in-Index.is, ← c.get-in-Index.ensures, ← c.get-in-Index-2.ensures)
    (two (expression_typed (scope_of c.args.s.now) (view_expression c.get-in-Index.result.now)) (expression_typed (scope_of c.args.s.now) (view_expression c.get-in-Index-2.result.now)) (pair_rule (scope_of c.args.s.now) (view_expression_form (out-Expr c.args.e.now).form)) _ c.in_ok-i-in-Index.i c.in_ok-j-in-Index.j c.by_pair.result _ (map fact_of c.expression-in-Index.new.facts.items) (map fact_of c.expression-in-Index-2.new.facts.items) _ c.in_ok-i-in-Index.ensures.gives c.in_ok-j-in-Index.ensures.gives c.by_pair.ensures.gives)

pub expression-returns-in_err-i-in-Paren-clause-gives : goal.expression-returns-in_err-i-in-Paren-clause-gives
expression-returns-in_err-i-in-Paren-clause-gives t c =
    let same : c.from_residual-in_err-i-in-Paren.result ≡ Err c.in_err-i-in-Paren.field-0.0 = search rules in
    rw (single_typed (scope_of c.args.s.now) c.args.e.now c.in-Paren.x c.in-Paren.is, same, ← c.get-in-Paren.ensures)
    (stops (IsAt (map fact_of c.expression-in-Paren.new.facts.items)) (IsAt (map fact_of c.expression-in-Paren.new.facts.items)) (expression_typed (scope_of c.args.s.now) (view_expression c.get-in-Paren.result.now)) _ _ _ _ _ _ c.in_err-i-in-Paren.ensures.gives)

pub expression-returns-in_ok-i-in-Paren-clause-gives : goal.expression-returns-in_ok-i-in-Paren-clause-gives
expression-returns-in_ok-i-in-Paren-clause-gives t c =
    rw (single_typed (scope_of c.args.s.now) c.args.e.now c.in-Paren.x c.in-Paren.is, ← c.get-in-Paren.ensures)
    (one (expression_typed (scope_of c.args.s.now) (view_expression c.get-in-Paren.result.now)) (single_rule (scope_of c.args.s.now) (view_expression_form (out-Expr c.args.e.now).form)) _ c.in_ok-i-in-Paren.i c.by_single.result _ (map fact_of c.expression-in-Paren.new.facts.items) _ c.in_ok-i-in-Paren.ensures.gives c.by_single.ensures.gives)

pub expression-returns-in_err-a-in-Call-clause-gives : goal.expression-returns-in_err-a-in-Call-clause-gives
expression-returns-in_err-a-in-Call-clause-gives t c =
    let same : c.from_residual-in_err-a-in-Call.result ≡ Err c.in_err-a-in-Call.field-0.0 = search rules in
    rw (call_typed (scope_of c.args.s.now) c.args.e.now c.in-Call.f c.in-Call.args c.in-Call.is, same, ← c.get-in-Call.ensures, ← c.as_slice.ensures)
    (arguments_stop (callee_typed (scope_of c.args.s.now) (view_expression c.get-in-Call.result.now)) (arguments_typed (scope_of c.args.s.now) (expressions (map view_expression c.as_slice.result.now))) _ c.in_ok-signature-in-Call.signature (row_of (map type_of c.parameters_in.result.now)) _ _ (map fact_of c.callee.new.facts.items) _ (map fact_of c.arguments.new.facts.items) c.in_ok-signature-in-Call.ensures.gives c.in_err-a-in-Call.ensures.gives)

pub expression-returns-in_ok-a-in-Call-clause-gives : goal.expression-returns-in_ok-a-in-Call-clause-gives
expression-returns-in_ok-a-in-Call-clause-gives t c =
    rw (call_typed (scope_of c.args.s.now) c.args.e.now c.in-Call.f c.in-Call.args c.in-Call.is, ← c.get-in-Call.ensures, ← c.as_slice.ensures)
    (call_gives (callee_typed (scope_of c.args.s.now) (view_expression c.get-in-Call.result.now)) (arguments_typed (scope_of c.args.s.now) (expressions (map view_expression c.as_slice.result.now))) _ c.in_ok-signature-in-Call.signature (row_of (map type_of c.parameters_in.result.now)) c.in_ok-a-in-Call.a c.by_call.result _ (map fact_of c.callee.new.facts.items) (map fact_of c.arguments.new.facts.items) _ c.in_ok-signature-in-Call.ensures.gives c.parameters_in.ensures c.in_ok-a-in-Call.ensures.gives c.by_call.ensures.gives)

pub callee-returns-in_err-expression-in-None-clause-gives : goal.callee-returns-in_err-expression-in-None-clause-gives
callee-returns-in_err-expression-in-None-clause-gives t c =
    let same : c.from_residual-in_err-expression-in-None.result ≡ Err c.in_err-expression-in-None.field-0.0 = search rules in
    rw (callee_other (scope_of c.args.s.now) c.args.e.now (sym c.as_name.ensures ∙ c.in-None.is), same)
    (stops (IsAt (map fact_of c.expression.new.facts.items)) IsSignature (expression_typed (scope_of c.args.s.now) (view_expression c.args.e.now)) _ _ _ _ _ _ c.in_err-expression-in-None.ensures.gives)

pub arguments-loop-e-init : goal.arguments-loop-e-init
arguments-loop-e-init t c =
    let params = row_of (map type_of c.args.params.now) in
    let none = c.none-all.ensures params in
    record {
      count = none.count;
      sound = c.requires.sound;
      rest = λ result new h. weaker (AreBehind params c.none-all.result) (AreArguments params) (arguments_typed (scope_of c.args.s.now) (expressions (map view_expression c.args.list.now))) result (map fact_of c.args.facts.now.items) new (λ xs a b. all_behind params c.none-all.result xs a none b) h;
    }

pub arguments-loop-e-preserved : goal.arguments-loop-e-preserved
arguments-loop-e-preserved t c =
    let step = next_of c.args.list.now c.loop-e.e-index c.e-item.result c.loop-e-test.true c.e-item.is in
    let params = row_of (map type_of c.loop-e.left.now) in
    let at = fact_at (map fact_of c.expression.new.facts.items) c.in_ok-i.i in
    let next : c.behind-all.result ≡ with_behind (begin_with_struct params) c.loop-e.all at = c.behind-all.ensures ∙ ap (λ (b : Bool). with_behind b c.loop-e.all (fact_of c.fact.result.now)) c.begin_with_struct.ensures ∙ ap (with_behind (begin_with_struct params) c.loop-e.all) c.fact.ensures.is in
    record {
      count = ap (λ (a : Arguments). a.count) c.behind-all.ensures ∙ ap (λ (n : ℕ). n + 1) c.loop-e.invariant.count;
      sound = c.in_ok-i.ensures.sound;
      rest = λ result new h.
          c.loop-e.invariant.rest result new
          (rw step (arguments_turn (scope_of c.args.s.now) params c.loop-e.all c.behind-all.result (view_expression c.e-item.result) (expressions (map view_expression (drop (c.loop-e.e-index + 1) c.args.list.now))) c.in_ok-i.i result (map fact_of c.loop-e.facts.items) (map fact_of c.expression.new.facts.items) new c.in_ok-i.ensures.gives next (rw c.behind_first-left.ensures at h)));
    }

pub type_name-returns-clause-gives : goal.type_name-returns-clause-gives
type_name-returns-clause-gives t c =
    let scope = scope_of c.args.s.now in
    let stars = (out-TypeName c.args.t.now).stars in
    let node = (out-TypeName c.args.t.now).node.number in
    let base = map fact_of c.base.new.facts.items in
    let parts = map fact_of c.dimensions.new.facts.items in
    let all = map fact_of c.by_type_name.new.facts.items in
    let made = subst (λ (z : List Size). Gives (IsAt all) (finish node (sized_type (structs_in scope) z (starred stars (fact_at parts c.in_ok-i.i).ty))) c.by_type_name.result parts all) c.as_slice-2.ensures.value c.by_type_name.ensures.gives in
    rw (named_typed scope c.args.t.now, ← c.unevaluated.ensures.is, ← c.as_slice.ensures)
    (named_gives (base_typed scope (view_base (out-TypeName c.args.t.now).base)) (dimensions_typed (scope_of c.unevaluated.result) (dimensions (map view_dimension c.as_slice.result.now))) (λ x ss. sized_type (structs_in scope) ss (starred stars x.ty)) node c.in_ok-i.i c.in_ok-sizes.sizes c.by_type_name.result _ base parts all c.in_ok-i.ensures.gives c.in_ok-sizes.ensures.gives made)

pub dimension-returns-in_err-i-in-Sized-clause-gives : goal.dimension-returns-in_err-i-in-Sized-clause-gives
dimension-returns-in_err-i-in-Sized-clause-gives t c =
    let same : c.from_residual.result ≡ Err c.in_err-i-in-Sized.field-0.0 = search rules in
    rw (sized_typed (scope_of c.args.s.now) c.args.d.now c.in-Sized.e c.in-Sized.is, same)
    (stops (IsAt (map fact_of c.expression.new.facts.items)) IsSize (expression_typed (scope_of c.args.s.now) (view_expression c.in-Sized.e)) _ _ _ _ _ _ c.in_err-i-in-Sized.ensures.gives)

pub dimension-returns-in_ok-i-in-Sized-clause-gives : goal.dimension-returns-in_ok-i-in-Sized-clause-gives
dimension-returns-in_ok-i-in-Sized-clause-gives t c =
    let same : c.fact.result.now.constancy ≡ (fact_at (map fact_of c.expression.new.facts.items) c.in_ok-i-in-Sized.i).constancy = ap (λ (x : Fact). x.constancy) c.fact.ensures.is in
    rw (sized_typed (scope_of c.args.s.now) c.args.d.now c.in-Sized.e c.in-Sized.is, same)
    (size_gives (scope_of c.args.s.now) (view_expression c.in-Sized.e) c.in_ok-i-in-Sized.i (λ x. Sized x.constancy) _ _ c.in_ok-i-in-Sized.ensures.gives)

pub dimensions-loop-d-preserved : goal.dimensions-loop-d-preserved
dimensions-loop-d-preserved t c =
    let step = next_of c.args.list.now c.loop-d.d-index c.d-item.result c.loop-d-test.true c.d-item.is in
    record {
      sound = c.in_ok-size.ensures.sound;
      rest = λ result new h.
          c.loop-d.invariant.rest result new
          (rw step (dimensions_turn (scope_of c.args.s.now) c.loop-d.sizes.items c.push.new.self.items (view_dimension c.d-item.result) (dimensions (map view_dimension (drop (c.loop-d.d-index + 1) c.args.list.now))) c.in_ok-size.size result (map fact_of c.loop-d.facts.items) (map fact_of c.dimension.new.facts.items) new c.in_ok-size.ensures.gives c.in_ok-push.ensures.items h));
    }

pub dimensions-returns-clause-gives : goal.dimensions-returns-clause-gives
dimensions-returns-clause-gives t c =
    let none : drop c.loop-d.d-index c.args.list.now ≡ [] = drop_all c.loop-d.d-index c.args.list.now (omega (arith, c.loop-d-test.false)) in
    c.loop-d.invariant.rest (Ok c.loop-d.sizes) (map fact_of c.loop-d.facts.items) (rw none (sym (nil (map fact_of c.loop-d.facts.items)), sym (nil c.loop-d.sizes.items)))
