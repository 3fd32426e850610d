use Rattle.std.proofs.Common.{◌≡◌, List, Ok, Err, subst, sym}
use Rattle.stk_ctype.specs.declared.symbol.NameEntry.{NameEntry}
use Rattle.stk_tree.specs.declared.unit.Unit.{Unit as UnitCode}
use Rattle.stk_tree.specs.View.{view_unit}
use Rattle.stk_type_rules.specs.declared.untyped.Untyped.{Untyped}
use Rattle.stk_declare.specs.Answers.{Answers}
use Rattle.stk_declare.specs.Declaring.{unit_declared}
use Rattle.stk_accept.specs.Accepting.{LeavesHead, declared_head, no_head, refused_head}
use Rattle.stk_accept.proofs.Answered.{left_by_answer, refusal_of}
use Rattle.stk_accept.proofs.accepting.leave_head.Goals as goal

pub returns-in_default-clause-leaves : goal.returns-in_default-clause-leaves
returns-in_default-clause-leaves c = no_head (c.in_ok-found.ensures.none c.in_default.is)

pub returns-in-Ok-clause-leaves : goal.returns-in-Ok-clause-leaves
returns-in-Ok-clause-leaves c =
    let tree = rw c.in-Some.is at c.in_ok-found.ensures.found in
    let now = c.declare.new.names in
    let given = subst (λ (x : UnitCode). Answers (λ es u. now ≡ es) (unit_declared c.args.bytes.now c.args.mark c.args.names.now (view_unit x)) (Ok tt)) c.get.ensures c.in-Ok.ensures.gives in
    let left = left_by_answer (unit_declared c.args.bytes.now c.args.mark c.args.names.now (view_unit c.in-Some.unit)) now tt given in
    declared_head (view_unit c.in-Some.unit) now left.0 tree left.1

pub returns-in-Err-Rule-clause-leaves : goal.returns-in-Err-Rule-clause-leaves
returns-in-Err-Rule-clause-leaves c =
    let tree = rw c.in-Some.is at c.in_ok-found.ensures.found in
    let now = c.declare.new.names in
    let outcome = unit_declared c.args.bytes.now c.args.mark c.args.names.now (view_unit c.in-Some.unit) in
    let given = subst (λ (x : UnitCode). Answers (λ es u. now ≡ es) (unit_declared c.args.bytes.now c.args.mark c.args.names.now (view_unit x)) (Err c.in-Err-Rule.field-0)) c.get.ensures c.in-Err-Rule.ensures.gives in
    let refused = subst (λ (e : Untyped). Answers (λ es u. now ≡ es) outcome (Err e)) c.in-Err-Rule.field-0-is given in
    let is = refusal_of (λ es u. now ≡ es) outcome c.in-Err-Rule.field-0-0 c.in-Err-Rule.field-0-1 refused in
    subst (λ (z : List NameEntry). LeavesHead c.args.bytes.now c.args.mark c.args.names.now c.args.tokens.now z) (sym c.in-Err-Rule.ensures.kept) (refused_head (view_unit c.in-Some.unit) c.in-Err-Rule.field-0-0 c.in-Err-Rule.field-0-1 tree is)
