use Rattle.std.proofs.Common.{ℕ, ◌≡◌, ◌++◌, map, length, ap, subst, arith}
use Rattle.std.specs.Prelude.{OnOk}
use Rattle.stk_tree.specs.Nodes.{initialiser_nodes}
use Rattle.stk_tree.specs.View.{view_initialiser}
use Rattle.stk_nodes.proofs.Lengths.{initialiser_row-length}
use Rattle.stk_type_rules.specs.Facts.{fact_of}
use Rattle.stk_function_types.specs.Locals.{plain_nodes}
use Rattle.stk_statements.proofs.initials.untyped.Goals as goal

pub returns-clause-is : goal.returns-clause-is
returns-clause-is c =
    let same : c.len.result ≡ initialiser_nodes (view_initialiser c.args.i.now) = omega (arith, c.len.ensures, c.in_ok-nodes.nodes.ok.0, ap length c.in_ok-nodes.ensures, initialiser_row-length (view_initialiser c.args.i.now)) in
    subst (λ (n : ℕ). OnOk c.plain_nodes.result (map fact_of c.plain_nodes.new.facts.items ≡ map fact_of c.args.facts.now.items ++ plain_nodes n)) same c.plain_nodes.ensures.is
