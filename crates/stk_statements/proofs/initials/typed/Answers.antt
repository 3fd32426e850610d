use Rattle.std.proofs.Common.{◌≡◌, Err, Ok, Result, false, map, subst, rules}
use Rattle.stk_ctype.specs.Structs.{structs_of}
use Rattle.stk_tree.specs.View.{view_initialiser}
use Rattle.stk_type_rules.specs.declared.untyped.Untyped.{Untyped}
use Rattle.stk_type_rules.specs.Facts.{fact_of}
use Rattle.stk_type_rules.specs.Outcome.{Gives}
use Rattle.stk_typing.specs.Locals.{Local}
use Rattle.stk_typing.specs.Scope.{Scope}
use Rattle.stk_typing.specs.declared.initialiser_leaves.Leaves.{Leaves}
use Rattle.stk_typing.specs.InitialiserTyping.{initialiser_typed}
use Rattle.stk_statements.specs.Places.{body_in}
use Rattle.stk_function_types.specs.Locals.{initial_scope}
use Rattle.stk_statements.proofs.Turns.{AreLeaves, local_added, owned_is}
use Rattle.stk_statements.proofs.initials.typed.Goals as goal

pub within-requires-clause-locals : goal.within-requires-clause-locals
within-requires-clause-locals c = local_added (structs_of c.args.p.now.file.names.now) c.args.locals.now c.push.new.self c.in_ok-local.local c.in_ok-push.ensures.added c.in_ok-local.ensures.sound c.requires.locals

pub returns-in_err-leaves-clause-gives : goal.returns-in_err-leaves-clause-gives
returns-in_err-leaves-clause-gives c =
    let same : c.from_residual-in_err-leaves.result ≡ Err c.in_err-leaves.field-0.0 = search rules in
    let b = body_in c.args.p.now c.args.locals.now in
    let i = view_initialiser c.args.i.now in
    let result : Result Leaves Untyped = Err c.in_err-leaves.field-0.0 in
    rw same
    (subst (λ (z : Local). Gives AreLeaves (initialiser_typed (initial_scope b false z) i) result (map fact_of c.args.facts.now.items) (map fact_of c.within.new.facts.items)) c.in_ok-local.ensures.is
    (subst (λ (s : Scope). Gives AreLeaves (initialiser_typed s i) result (map fact_of c.args.facts.now.items) (map fact_of c.within.new.facts.items)) (owned_is c.args.p.now c.args.locals.now c.push.new.self c.in_ok-local.local c.register-own.result c.in_ok-push.ensures.added (c.register-own.ensures c.args.locals.now)) c.in_err-leaves.ensures.gives))

pub returns-clause-gives : goal.returns-clause-gives
returns-clause-gives c =
    let b = body_in c.args.p.now c.args.locals.now in
    let i = view_initialiser c.args.i.now in
    let result : Result Leaves Untyped = Ok c.in_ok-leaves.leaves in
    subst (λ (z : Local). Gives AreLeaves (initialiser_typed (initial_scope b false z) i) result (map fact_of c.args.facts.now.items) (map fact_of c.within.new.facts.items)) c.in_ok-local.ensures.is
    (subst (λ (s : Scope). Gives AreLeaves (initialiser_typed s i) result (map fact_of c.args.facts.now.items) (map fact_of c.within.new.facts.items)) (owned_is c.args.p.now c.args.locals.now c.push.new.self c.in_ok-local.local c.register-own.result c.in_ok-push.ensures.added (c.register-own.ensures c.args.locals.now)) c.in_ok-leaves.ensures.gives)
