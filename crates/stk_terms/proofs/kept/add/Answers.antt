use Rattle.std.proofs.Common.{ap, sym, ◌∙◌, Some}
use Rattle.stk_terms.proofs.Exact.{node_exact, node_same}
use Rattle.stk_terms.proofs.Sharing.{once, said_at, adds, one_place_added}
use Rattle.stk_terms.specs.contracts.term.TermNodePartialEq.TheImpl as node_eq
use Rattle.stk_terms.proofs.kept.add.Goals as goal

pub returns-in_err-place-clause-once : goal.returns-in_err-place-clause-once
returns-in_err-place-clause-once c = once node_eq.ghosts.eq node_same _ c.insert_full.ensures.unique

pub returns-clause-once : goal.returns-clause-once
returns-clause-once c = once node_eq.ghosts.eq node_same _ c.insert_full.ensures.unique

pub returns-clause-stands : goal.returns-clause-stands
returns-clause-stands c =
    let s = c.in_ok-place.ensures.stored in
    said_at c.insert_full.new.self.keys c.in_ok-place.place s.0 s.1 ∙ ap Some (sym (node_exact c.args.node s.0 s.2))

pub returns-clause-shared : goal.returns-clause-shared
returns-clause-shared c = λ i q.
    let s = c.in_ok-place.ensures.stored in
    one_place_added c.args.nodes.now.keys c.args.node c.insert_full.new.self.keys c.in_ok-place.place i (adds _ _ c.args.node _ c.in_ok-place.ensures.keys) (once node_eq.ghosts.eq node_same _ c.insert_full.ensures.unique) (said_at c.insert_full.new.self.keys c.in_ok-place.place s.0 s.1 ∙ ap Some (sym (node_exact c.args.node s.0 s.2))) q
