use Rattle.std.proofs.Common.{◌<◌, ◌/◌, get_or, arith}
use Rattle.stk_gates.specs.Edges.{edge_value}
use Rattle.stk_cnf.specs.Clauses.{named}
use Rattle.stk_cnf.proofs.Growing.{edge_false}
use Rattle.stk_cnf.proofs.Sets.{grown_empty, grown_one}
use Rattle.stk_cnf.proofs.edges.put_edge.Goals as goal

pub returns-in_ok-push-in-0-clause-grown : goal.returns-in_ok-push-in-0-clause-grown
returns-in_ok-push-in-0-clause-grown c =
    grown_empty c.args.vars c.args.store.now c.push.new.self (λ v. edge_value (named c.args.names.now v) c.args.edge) c.in_ok-push-in-0.ensures.pushed (λ v. edge_false c.args.names.now v c.args.edge c.in-0.is)

pub returns-in_ok-push-in_default-clause-grown : goal.returns-in_ok-push-in_default-clause-grown
returns-in_ok-push-in_default-clause-grown c =
    let small : get_or c.args.names.now (c.args.edge.0 / 2) 0 < c.args.vars = c.requires.named.1 (omega (arith, c.in_default)) in
    grown_one c.args.vars c.args.store.now c.push-in_default.new.self c.literal.result (λ v. edge_value (named c.args.names.now v) c.args.edge) c.in_ok-push-in_default.ensures.pushed (omega (arith, small, c.literal.ensures.variable)) c.literal.ensures.value
