use Rattle.std.proofs.Common.{◌≡◌, Err, map, rules}
use Rattle.stk_tree.specs.View.{view_base, view_declarator, view_statement}
use Rattle.stk_type_rules.specs.Facts.{fact_of}
use Rattle.stk_type_rules.specs.Outcome.{finish}
use Rattle.stk_typing.specs.Locals.{local_of}
use Rattle.stk_function_types.specs.Functions.{storage_rule}
use Rattle.stk_statements.proofs.Turns.{any_err}
use Rattle.stk_statements.proofs.Definitions.{any_ok, function_answers}
use Rattle.stk_statements.proofs.functions.function.Goals as goal

pub returns-in_err-own-clause-gives : goal.returns-in_err-own-clause-gives
returns-in_err-own-clause-gives c =
    let f = c.args.f.now in
    let x = c.args.x.now in
    let e = c.in_err-own.field-0.0 in
    let same : c.from_residual-in_err-own.result ≡ Err e = search rules in
    let old = map fact_of c.args.facts.now.items in
    let first = map fact_of c.base_type.new.facts.items in
    let second = map fact_of c.head.new.facts.items in
    let third = map fact_of c.body.new.facts.items in
    let new = map fact_of c.own.new.facts.items in
    rw same
    (function_answers f.bytes.now f.names.now c.args.taken.now c.args.node x.storage (view_base x.base) (view_declarator x.declr) (view_statement x.body) c.new-locals.result c.in_ok-ty.ty c.in_ok-returns.returns (map local_of c.head.new.locals) c.in_ok-body.field-0 (Err e) old first second third new c.new-locals.ensures
    c.in_ok-ty.ensures.gives c.in_ok-returns.ensures.gives c.in_ok-body.ensures.gives
    (any_err (finish c.args.node (storage_rule x.storage)) e third new (c.in_err-own.ensures.gives (storage_rule x.storage) c.storage_rule.ensures.fact)))

pub returns-clause-gives : goal.returns-clause-gives
returns-clause-gives c =
    let f = c.args.f.now in
    let x = c.args.x.now in
    let old = map fact_of c.args.facts.now.items in
    let first = map fact_of c.base_type.new.facts.items in
    let second = map fact_of c.head.new.facts.items in
    let third = map fact_of c.body.new.facts.items in
    let new = map fact_of c.own.new.facts.items in
    function_answers f.bytes.now f.names.now c.args.taken.now c.args.node x.storage (view_base x.base) (view_declarator x.declr) (view_statement x.body) c.new-locals.result c.in_ok-ty.ty c.in_ok-returns.returns (map local_of c.head.new.locals) c.in_ok-body.field-0 _ old first second third new c.new-locals.ensures
    c.in_ok-ty.ensures.gives c.in_ok-returns.ensures.gives c.in_ok-body.ensures.gives
    (any_ok (finish c.args.node (storage_rule x.storage)) c.in_ok-own.field-0 tt third new (c.in_ok-own.ensures.gives (storage_rule x.storage) c.storage_rule.ensures.fact))
