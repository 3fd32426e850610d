use Rattle.std.proofs.Common.{◌≡◌, ◌∙◌, Err, ap, sym, rules}
use Rattle.stk_tree.specs.declared.declaration.Enumr.{out-Enumr}
use Rattle.stk_tree.specs.Syntax as s
use Rattle.stk_tree.specs.View.{given_expression, view_enumerator, view_expression}
use Rattle.stk_base.specs.Text.{text_of}
use Rattle.stk_declare.specs.Enumerations.{with_value}
use Rattle.stk_declare.specs.Shown.{enumerated}
use Rattle.stk_declare.proofs.Entries.{value_gives, value_stops, value_same}
use Rattle.stk_declare.proofs.Views.{view_enumerator_node}
use Rattle.stk_declare.proofs.enumerations.enumerator.Goals as goal

pub returns-in_err-value-in-Some-clause-gives : goal.returns-in_err-value-in-Some-clause-gives
returns-in_err-value-in-Some-clause-gives c =
    let e = out-Enumr c.args.e.now in
    let same : c.from_residual-in_err-value-in-Some.result ≡ Err c.in_err-value-in-Some.field-0.0 = search rules in
    let view : view_enumerator c.args.e.now ≡ s.enumerator e.name (s.some_expression (view_expression c.in-Some.value)) = view_enumerator_node c.args.e.now ∙ ap (λ o. s.enumerator e.name (given_expression o)) c.in-Some.is in
    rw (same, view) (value_stops c.args.bytes.now c.args.names.now c.use_expression.new.names _ c.args.c e.name (view_expression c.in-Some.value) c.in_err-value-in-Some.field-0.0 c.in_ok-use_expression-in-Some.ensures.is c.in_err-value-in-Some.ensures)

pub returns-in_ok-with_value-in-Some-clause-gives : goal.returns-in_ok-with_value-in-Some-clause-gives
returns-in_ok-with_value-in-Some-clause-gives c =
    let e = out-Enumr c.args.e.now in
    let mid = c.use_expression.new.names in
    let view : view_enumerator c.args.e.now ≡ s.enumerator e.name (s.some_expression (view_expression c.in-Some.value)) = view_enumerator_node c.args.e.now ∙ ap (λ o. s.enumerator e.name (given_expression o)) c.in-Some.is in
    rw view (value_gives c.args.bytes.now c.args.names.now mid _ c.args.c c.in_ok-with_value-in-Some.field-0 e.name (view_expression c.in-Some.value) c.in_ok-value-in-Some.value c.in_ok-use_expression-in-Some.ensures.is c.in_ok-value-in-Some.ensures
    (λ z is. c.in_ok-with_value-in-Some.ensures.is ∙ value_same mid c.args.names.now mid c.args.c c.text-name.result.now c.in_ok-value-in-Some.value
    ∙ ap (λ n. with_value (enumerated c.args.names.now c.args.c) mid n c.in_ok-value-in-Some.value) c.text-name.ensures
    ∙ ap (with_value (enumerated c.args.names.now c.args.c) mid (text_of c.args.bytes.now e.name)) (sym is)))
