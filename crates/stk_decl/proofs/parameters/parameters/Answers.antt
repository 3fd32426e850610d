use Rattle.std.proofs.Common.{◌+◌, length, map, refl, sym, arith}
use Rattle.std.proofs.lemmas.Result.{err_from_is_err_and}
use Rattle.stk_tree.specs.Syntax as s
use Rattle.stk_tree.specs.View.{view_parameter}
use Rattle.stk_grammar.specs.DeclarationReading.{more_parameters_at, parameter_at}
use Rattle.stk_ctype.specs.Named.{named}
use Rattle.stk_expr.proofs.Rows.{map_push}
use Rattle.stk_decl.specs.Rows.{first_of, paired}
use Rattle.stk_decl.proofs.Rows.{first_begins, parameters_nesting-push, parameters_row, pushed_first, row_ends-paired, row_fails, row_more, row_spent, row_stops, turn_end, turn_more}
use Rattle.stk_decl.proofs.parameters.parameters.Goals as goal

pub loop-turn-init : goal.loop-turn-init
loop-turn-init c =
    let e = (pushed_first view_parameter c.new-list.result.items c.push.new.self.items c.in_ok-first.first.param c.new-list.ensures.items c.in_ok-push.ensures.items) in
    record {
      same = rw e (first_begins (paired s.then_parameter) (parameter_at (named c.args.bytes.now c.args.names.now) c.args.room) (more_parameters_at (parameter_at (named c.args.bytes.now c.args.names.now) c.args.room)) c.args.lexemes.now c.in_ok-first.first.rest.now (view_parameter c.in_ok-first.first.param) c.in_ok-first.ensures.value);
      nesting = rw e (omega (arith, c.in_ok-first.ensures.nesting.0), c.in_ok-first.ensures.nesting.1);
    }

pub returns-in_default-clause-value : goal.returns-in_default-clause-value
returns-in_default-clause-value c =
    row_stops _ _ _ _ _ (parameters_row (parameter_at (named c.args.bytes.now c.args.names.now) c.args.room)) (length c.in_ok-first.first.rest.now + 1) c.loop-turn._turn (map view_parameter c.loop-turn.list.items) c.loop-turn.rest.now (first_of (paired s.then_parameter) (parameter_at (named c.args.bytes.now c.args.names.now) c.args.room) (more_parameters_at (parameter_at (named c.args.bytes.now c.args.names.now) c.args.room)) c.args.lexemes.now) c.loop-turn-test.true (sym c.in_default.ensures) c.loop-turn.invariant.same

pub returns-in-End-clause-value : goal.returns-in-End-clause-value
returns-in-End-clause-value c =
    rw c.from_vec.ensures (row_ends-paired _ _ _ _ _ (parameters_row (parameter_at (named c.args.bytes.now c.args.names.now) c.args.room)) (length c.in_ok-first.first.rest.now + 1) c.loop-turn._turn (map view_parameter c.loop-turn.list.items) c.loop-turn.rest.now c.in-Some.next.now c.in-End.more (first_of (paired s.then_parameter) (parameter_at (named c.args.bytes.now c.args.names.now) c.args.room) (more_parameters_at (parameter_at (named c.args.bytes.now c.args.names.now) c.args.room)) c.args.lexemes.now) c.loop-turn-test.true (turn_end c.in-Some.turn c.in-End.more c.in-Some.next.now _ c.in-Some.ensures c.in-End.is) c.loop-turn.invariant.same)

pub returns-in-End-clause-nesting : goal.returns-in-End-clause-nesting
returns-in-End-clause-nesting c = rw c.from_vec.ensures c.loop-turn.invariant.nesting

pub returns-in_err-found-clause-value : goal.returns-in_err-found-clause-value
returns-in_err-found-clause-value c =
    let p = err_from_is_err_and c.from_residual-in_err-found.result c.from_residual-in_err-found.ensures.1 in
    rw (p.1, p.2) (row_fails _ _ _ _ _ (parameters_row (parameter_at (named c.args.bytes.now c.args.names.now) c.args.room)) c.in_err-found.field-0.0 (length c.in_ok-first.first.rest.now + 1) c.loop-turn._turn (map view_parameter c.loop-turn.list.items) c.loop-turn.rest.now c.in-Some.next.now (first_of (paired s.then_parameter) (parameter_at (named c.args.bytes.now c.args.names.now) c.args.room) (more_parameters_at (parameter_at (named c.args.bytes.now c.args.names.now) c.args.room)) c.args.lexemes.now) c.loop-turn-test.true (turn_more c.in-Some.turn c.in-Some.next.now _ c.in-Some.ensures c.in_default-turn.not-End) c.in_err-found.ensures.value c.loop-turn.invariant.same)

pub loop-turn-preserved : goal.loop-turn-preserved
loop-turn-preserved c =
    let i = c.loop-turn.invariant in
    let n = c.in_ok-found in
    let k = row_more _ _ _ _ _ (parameters_row (parameter_at (named c.args.bytes.now c.args.names.now) c.args.room)) (length c.in_ok-first.first.rest.now + 1) c.loop-turn._turn (map view_parameter c.loop-turn.list.items) c.loop-turn.rest.now c.in-Some.next.now c.in_ok-found.found.rest.now (view_parameter c.in_ok-found.found.param) (first_of (paired s.then_parameter) (parameter_at (named c.args.bytes.now c.args.names.now) c.args.room) (more_parameters_at (parameter_at (named c.args.bytes.now c.args.names.now) c.args.room)) c.args.lexemes.now) c.loop-turn-test.true (turn_more c.in-Some.turn c.in-Some.next.now _ c.in-Some.ensures c.in_default-turn.not-End) c.in_ok-found.ensures.value c.loop-turn.invariant.same in
    let e = map_push view_parameter c.loop-turn.list.items c.push-in-loop-turn.new.self.items c.in_ok-found.found.param c.in_ok-found.found.param c.in_ok-push-2.ensures.items refl in
    let high = parameters_nesting-push (map view_parameter c.loop-turn.list.items) (view_parameter c.in_ok-found.found.param) in
    record {
      same = rw e k;
      nesting = rw e (omega (arith, i.nesting.0, n.ensures.nesting.0, high, c.higher-nesting.ensures), omega (arith, i.nesting.1, n.ensures.nesting.1, c.higher-nesting.ensures));
    }

pub returns-clause-value : goal.returns-clause-value
returns-clause-value c =
    row_spent _ _ _ _ _ (parameters_row (parameter_at (named c.args.bytes.now c.args.names.now) c.args.room)) (length c.in_ok-first.first.rest.now + 1) c.loop-turn._turn (map view_parameter c.loop-turn.list.items) c.loop-turn.rest.now (first_of (paired s.then_parameter) (parameter_at (named c.args.bytes.now c.args.names.now) c.args.room) (more_parameters_at (parameter_at (named c.args.bytes.now c.args.names.now) c.args.room)) c.args.lexemes.now) c.loop-turn-test.false c.loop-turn.invariant.same
