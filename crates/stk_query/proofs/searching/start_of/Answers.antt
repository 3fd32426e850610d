use Rattle.std.proofs.Common.{◌≡◌, sym, subst, ◌∙◌}
use Rattle.stk_goal_clauses.specs.Reading.{residues_in}
use Rattle.stk_goal_clauses.specs.Laws.{MakesOne}
use Rattle.stk_goal_clauses.proofs.Goals.{satisfied}
use Rattle.stk_query.proofs.searching.start_of.Goals as goal

pub returns : goal.returns
returns c =
    let s = c.args.terms.now in
    let i = c.args.goal.0 in
    let values = c.args.values.now.bits in
    let read : c.in_ok-residues.residues.numbers ≡ residues_in s.inputs values = c.in_ok-residues.ensures ∙ (λ j. residues_in (c.widths.ensures j) (c.as_slice.ensures j)) in
    subst (MakesOne s i) (sym read) (satisfied s i c.args.cnf.now values c.requires.stands c.requires.satisfied)
