use Rattle.std.proofs.Common.{length, sym, ◌∙◌, arith}
use Rattle.stk_terms.specs.Terms.{nth}
use Rattle.stk_terms.proofs.Reading.{nth_get}
use Rattle.stk_blast.proofs.Parts.{found_before}
use Rattle.stk_blast.proofs.circuit.argument.Goals as goal

pub index_in-requires-clause-has : goal.index_in-requires-clause-has
index_in-requires-clause-has c =
    let args = c.args.args.now in
    let k = c.args.k in
    let before = c.requires.before k c.if-k-args.true in
    let least = before.before in
    let few = c.requires.few in
    record {
      at = before.at;
      before = omega (arith, least, few);
      is = before.is ∙ sym (nth_get args k (record { 0 = 0 }) c.if-k-args.true);
    }

pub row_at-requires : goal.row_at-requires
row_at-requires c =
    found_before c.args.order.now (length c.args.rows.now) c.index_in.result (nth c.args.args.now c.args.k) c.requires.rise c.index_in.ensures.within
    (c.index_in.ensures.is ∙ nth_get c.args.args.now c.args.k (record { 0 = 0 }) c.if-k-args.true) (c.requires.before c.args.k c.if-k-args.true) c.requires.few

pub returns-then-k-args-clause-row : goal.returns-then-k-args-clause-row
returns-then-k-args-clause-row c = λ within.
    let place = c.index_in.ensures.is ∙ nth_get c.args.args.now c.args.k (record { 0 = 0 }) within in
    let low = found_before c.args.order.now (length c.args.rows.now) c.index_in.result (nth c.args.args.now c.args.k) c.requires.rise c.index_in.ensures.within place (c.requires.before c.args.k within) c.requires.few in
    record {
      at = c.index_in.result;
      before = low;
      place = place;
      is = c.row_at.ensures;
    }
