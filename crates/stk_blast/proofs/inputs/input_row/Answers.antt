use Rattle.std.proofs.Common.{length, get_or, sym, ap, subst, ◌∙◌, arith}
use Rattle.std.proofs.lemmas.List.Sums.{sum_by_more_le}
use Rattle.stk_arith.specs.Rows.{number, AreEdges}
use Rattle.stk_arith.specs.Words.{row_from}
use Rattle.stk_blast.proofs.Residues.{length-row_from, edges_from, residue_at}
use Rattle.stk_blast.proofs.inputs.input_row.Goals as goal

pub returns-clause-length : goal.returns-clause-length
returns-clause-length c = ap length c.in_ok-row.ensures ∙ length-row_from _ _

pub returns-clause-edges : goal.returns-clause-edges
returns-clause-edges c t e =
    let within = sum_by_more_le (λ x. x) c.args.widths.now c.args.key 0 c.requires.key in
    subst (AreEdges t) (sym c.in_ok-row.ensures) (edges_from t _ _ (omega (arith, within, c.requires.firsts.each c.args.key c.requires.key, e)))

pub returns-clause-value : goal.returns-clause-value
returns-clause-value c values =
    let ws = c.args.widths.now in
    let key = c.args.key in
    ap (number values) c.in_ok-row.ensures ∙ (ap (λ n. number values (row_from n (get_or ws key 0))) (c.requires.firsts.each key c.requires.key) ∙ sym (residue_at values 1 ws key c.requires.key))
