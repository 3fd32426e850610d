use Rattle.std.proofs.Common.{◌≡◌, ◌+◌, ◌<◌, ◌≤◌, ◌^◌, ◌∷◌, [], sym, ap, subst, ◌∙◌, arith}
use Rattle.std.specs.Prelude.{sum}
use Rattle.stk_gates.specs.Tables.{gate_count}
use Rattle.stk_terms.specs.Cost.{cost}
use Rattle.stk_blast.specs.Rows.{IsRow}
use Rattle.stk_goal_clauses.proofs.Goals.{goal_stands, goal_within}
use Rattle.stk_goal_clauses.proofs.clauses.clauses_for.Goals as goal

pub returns-clause-stands : goal.returns-clause-stands
returns-clause-stands c =
    let s = c.args.terms.now in
    let i = c.args.goal.0 in
    let t = c.blast.new.gates in
    let row = c.in_ok-row.row in
    let bits : c.bits_in.result ≡ sum s.inputs = subst (λ ws. sum ws < 2 ^ 29 → c.bits_in.result ≡ sum ws) c.widths.ensures c.bits_in.ensures.few (omega (arith, c.requires.room)) in
    let inputs : t.inputs ≡ sum s.inputs = c.in_ok-row.ensures.extends.inputs ∙ (ap (λ x. x.inputs) c.new-gates.ensures ∙ bits) in
    let is : row ≡ c.only-edge.result ∷ [] = sym c.as_slice.ensures ∙ c.only-edge.ensures in
    let r : IsRow t s i row = record { long = c.in_ok-row.ensures.length; edges = c.in_ok-row.ensures.edges; value = c.in_ok-row.ensures.value } in
    goal_stands t s i row c.only-edge.result c.in_ok-cnf.cnf c.count.ensures.ordered inputs r is c.in_ok-cnf.ensures.stands

pub returns-clause-within : goal.returns-clause-within
returns-clause-within c =
    let s = c.args.terms.now in
    let i = c.args.goal.0 in
    let t = c.blast.new.gates in
    let row = c.in_ok-row.row in
    let bits : c.bits_in.result ≡ sum s.inputs = subst (λ ws. sum ws < 2 ^ 29 → c.bits_in.result ≡ sum ws) c.widths.ensures c.bits_in.ensures.few (omega (arith, c.requires.room)) in
    let before : gate_count c.new-gates.result ≡ 1 + c.bits_in.result + 0 = ap gate_count c.new-gates.ensures in
    let few : gate_count t ≤ 1 + sum s.inputs + cost s i = omega (arith, before, bits, c.in_ok-row.ensures.adds) in
    let is : row ≡ c.only-edge.result ∷ [] = sym c.as_slice.ensures ∙ c.only-edge.ensures in
    let r : IsRow t s i row = record { long = c.in_ok-row.ensures.length; edges = c.in_ok-row.ensures.edges; value = c.in_ok-row.ensures.value } in
    goal_within t s i row c.only-edge.result c.in_ok-cnf.cnf c.count.ensures.ordered r is c.in_ok-cnf.ensures.stands few
