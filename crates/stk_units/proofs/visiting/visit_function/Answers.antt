use Rattle.std.proofs.Common.{ℕ, List, Option, sym, subst}
use Rattle.stk_tree.specs.View.{view_function, view_unit}
use Rattle.stk_function_types.specs.Units.{TypedUnit}
use Rattle.stk_function_types.specs.Nodes.{typing_in}
use Rattle.stk_records.specs.declared.line.Cause.{Cause}
use Rattle.stk_units.specs.Causes.{measured_cause, body_cause}
use Rattle.stk_units.specs.Known.{IsTypedFunction, IsTypedWell}
use Rattle.stk_units.specs.Visiting.{HasVisitedFunction, HasStoppedBefore, HasLeftUntyped}
use Rattle.stk_units.proofs.Measures.{is_typed}
use Rattle.stk_units.proofs.Visits.{untyped_visited}
use Rattle.stk_units.proofs.visiting.visit_function.Goals as goal

pub visit_typed-requires-clause-typed : goal.visit_typed-requires-clause-typed
visit_typed-requires-clause-typed g c =
    let u = view_unit c.args.tree.now in
    let f = view_function c.args.f.now in
    let w = c.args.unit.now.without in
    let now = c.args.names.now in
    let bytes = c.bytes.result.now in
    let t = is_typed bytes w now u c.in-Ok.types c.in-Ok.ensures.answer in
    let whole : IsTypedWell bytes w now u f = subst (λ (b : List ℕ). IsTypedWell b w now u f) (sym c.bytes.ensures) c.requires.typed in
    subst (λ (x : TypedUnit). IsTypedFunction (typing_in x) w f) (sym c.in-Ok.ensures.is) (whole t.result t.facts t.typed)

pub returns-in-Ok : goal.returns-in-Ok
returns-in-Ok g c =
    let u = view_unit c.args.tree.now in
    let f = view_function c.args.f.now in
    let w = c.args.unit.now.without in
    let now = c.args.names.now in
    let tokens = c.args.unit.now.tokens.now in
    let bytes = c.bytes.result.now in
    let t = c.in-Ok.types in
    let V = g.V.UnitVisitor in
    let r = c.visit_typed.result in
    let cause = (is_typed bytes w now u t c.in-Ok.ensures.answer).cause in
    subst (λ (b : List ℕ). HasVisitedFunction V.leaves V.judges b w now tokens u f (body_cause b w now u) r c.args.visitor.now c.visit_typed.new.visitor c.args.out.now c.visit_typed.new.out c.args.asked.now c.visit_typed.new.asked) c.bytes.ensures
    (subst (λ (k : Option Cause). HasVisitedFunction V.leaves V.judges bytes w now tokens u f k r c.args.visitor.now c.visit_typed.new.visitor c.args.out.now c.visit_typed.new.out c.args.asked.now c.visit_typed.new.asked) (sym cause)
    (subst (λ (x : TypedUnit). HasVisitedFunction V.leaves V.judges x.bytes w x.entries tokens (view_unit x.unit) f (measured_cause (typing_in x) w (view_unit x.unit)) r c.args.visitor.now c.visit_typed.new.visitor c.args.out.now c.visit_typed.new.out c.args.asked.now c.visit_typed.new.asked) c.in-Ok.ensures.is c.visit_typed.ensures))

pub returns-in-Err : goal.returns-in-Err
returns-in-Err g c =
    let u = view_unit c.args.tree.now in
    let f = view_function c.args.f.now in
    let w = c.args.unit.now.without in
    let now = c.args.names.now in
    let tokens = c.args.unit.now.tokens.now in
    let bytes = c.bytes.result.now in
    let V = g.V.UnitVisitor in
    let r = c.visit_untyped.result in
    subst (λ (b : List ℕ). HasVisitedFunction V.leaves V.judges b w now tokens u f (body_cause b w now u) r c.args.visitor.now c.visit_untyped.new.visitor c.args.out.now c.visit_untyped.new.out c.args.asked.now c.visit_untyped.new.asked) c.bytes.ensures
    (untyped_visited V.leaves V.judges r c.args.visitor.now c.visit_untyped.new.visitor c.args.out.now c.visit_untyped.new.out c.args.asked.now c.visit_untyped.new.asked _ bytes w now tokens u f c.in-Err.untyped c.in-Err.ensures.answer
    (rw c.bytes.ensures c.visit_untyped.ensures))
