use Rattle.std.proofs.Common.{◌≡◌, ◌+◌, ◌-◌, ◌*◌, ◌/◌, ◌<◌, get_or, slice_get, sym, ap, ◌∙◌, arith}
use Rattle.stk_clauses.specs.Literals.{literal_value}
use Rattle.stk_gates.specs.Edges.{edge_value}
use Rattle.stk_cnf.specs.Clauses.{named, ties, tied_by}
use Rattle.stk_cnf.proofs.Growing.{ties_same}
use Rattle.stk_cnf.proofs.Sets.{grown_same}
use Rattle.stk_cnf.proofs.Up.{gate_edges}
use Rattle.stk_cnf.proofs.clauses.put_and.Goals as goal

pub literal-first-requires : goal.literal-first-requires
literal-first-requires c =
    let e = gate_edges c.args.gates.now c.args.names.now c.args.vars c.args.gate c.in-Some.a c.in-Some.b c.operands.result c.in-Some.is c.operands.ensures.within c.requires.gate.0 c.count.ensures.reduced c.requires.names c.requires.rising in
    let small = e.first.1 e.some in
    record { some = e.some; within = e.first.0; small = omega (arith, small, c.requires.few) }

pub literal-second-requires : goal.literal-second-requires
literal-second-requires c =
    let e = gate_edges c.args.gates.now c.args.names.now c.args.vars c.args.gate c.in-Some.a c.in-Some.b c.operands.result c.in-Some.is c.operands.ensures.within c.requires.gate.0 c.count.ensures.reduced c.requires.names c.requires.rising in
    let more = e.other in
    let some = e.some in
    let small = e.second.1 (omega arith) in
    record { some = omega arith; within = e.second.0; small = omega (arith, small, c.requires.few) }

pub put_gate-requires-clause-apart : goal.put_gate-requires-clause-apart
put_gate-requires-clause-apart c =
    let e = gate_edges c.args.gates.now c.args.names.now c.args.vars c.args.gate c.in-Some.a c.in-Some.b c.operands.result c.in-Some.is c.operands.ensures.within c.requires.gate.0 c.count.ensures.reduced c.requires.names c.requires.rising in
    let half : c.of_gate.result.0 / 2 ≡ c.args.gate = omega (arith, c.of_gate.ensures.gate) in
    let same : get_or c.args.names.now (c.of_gate.result.0 / 2) 0 ≡ get_or c.args.names.now c.args.gate 0 = ap (λ n. get_or c.args.names.now n 0) half in
    (omega (arith, e.low, c.literal-first.ensures.variable, c.literal-second.ensures.variable), omega (arith, e.high, c.literal-second.ensures.variable, c.literal-whole.ensures.variable, same))

pub returns-in_ok-put_gate-in-Some : goal.returns-in_ok-put_gate-in-Some
returns-in_ok-put_gate-in-Some c =
    let e = gate_edges c.args.gates.now c.args.names.now c.args.vars c.args.gate c.in-Some.a c.in-Some.b c.operands.result c.in-Some.is c.operands.ensures.within c.requires.gate.0 c.count.ensures.reduced c.requires.names c.requires.rising in
    let names = c.args.names.now in
    let half : c.of_gate.result.0 / 2 ≡ 2 * c.args.gate / 2 = omega (arith, c.of_gate.ensures.gate) in
    let same : get_or names (c.of_gate.result.0 / 2) 0 ≡ get_or names (2 * c.args.gate / 2) 0 = ap (λ n. get_or names n 0) half in
    let above = c.requires.gate.0 in
    let small : get_or names (2 * c.args.gate / 2) 0 < c.args.vars = c.requires.names.0.1 (omega arith) in
    grown_same c.args.vars 3 c.args.store.now c.put_gate.new.store (λ v. ties (literal_value v c.literal-whole.result) (literal_value v c.literal-first.result) (literal_value v c.literal-second.result))
    (λ v. tied_by (named names v) c.args.gate (slice_get c.args.gates.now.pairs (c.args.gate - (1 + c.args.gates.now.inputs))))
    (λ v. ties_same (literal_value v c.literal-whole.result) (named names v c.args.gate) (literal_value v c.literal-first.result) (edge_value (named names v) c.in-Some.a) (literal_value v c.literal-second.result) (edge_value (named names v) c.in-Some.b)
    (c.literal-whole.ensures.value v ∙ c.of_gate.ensures.value (named names v)) (c.literal-first.ensures.value v) (c.literal-second.ensures.value v)
    ∙ sym (ap (tied_by (named names v) c.args.gate) e.at))
    (c.in_ok-put_gate-in-Some.ensures c.args.vars (omega (arith, small, same, c.literal-whole.ensures.variable)))
