use Rattle.std.proofs.Common.{◌≤◌, length, get_or, sym, subst, ◌∙◌, arith}
use Rattle.std.proofs.Math.ListN.{length-set}
use Rattle.std.proofs.lemmas.List.{length-map}
use Rattle.stk_terms.specs.Keys.{plain, stored}
use Rattle.stk_terms.specs.Orders.{IsOrder}
use Rattle.stk_terms.proofs.Orderly.{numbers_more, node_among, node_before, node_can, node_number}
use Rattle.stk_terms.proofs.nodes.evaluate.Goals as goal

pub number_of-number-requires-clause-among : goal.number_of-number-requires-clause-among
number_of-number-requires-clause-among c =
    let s = stored c.args.inputs.now c.args.nodes.now in
    let ps = c.args.order.now in
    let xs = c.loop-place.numbers in
    let long = c.loop-place.invariant.long in
    let order = subst (λ n. IsOrder s n ps) (sym long) c.requires.order in
    let few : length xs ≤ length c.args.nodes.now = let f = c.requires.order.few in let g = length-map c.args.nodes.now plain in omega (arith, f, g, long) in
    node_among c.args.inputs.now c.args.residues.now c.args.nodes.now c.requires.kept c.requires.residues ps xs order few c.loop-place.place-index c.loop-place-test.true c.loop-place.invariant.are c.index-nodes-place.result c.index-nodes-place.is

pub number_of-number-requires-clause-before : goal.number_of-number-requires-clause-before
number_of-number-requires-clause-before c =
    let s = stored c.args.inputs.now c.args.nodes.now in
    let ps = c.args.order.now in
    let xs = c.loop-place.numbers in
    let long = c.loop-place.invariant.long in
    let order = subst (λ n. IsOrder s n ps) (sym long) c.requires.order in
    let few : length xs ≤ length c.args.nodes.now = let f = c.requires.order.few in let g = length-map c.args.nodes.now plain in omega (arith, f, g, long) in
    node_before c.args.inputs.now c.args.residues.now c.args.nodes.now c.requires.kept c.requires.residues ps xs order few c.loop-place.place-index c.loop-place-test.true c.loop-place.invariant.are c.index-nodes-place.result c.index-nodes-place.is

pub number_of-number-requires-clause-fits : goal.number_of-number-requires-clause-fits
number_of-number-requires-clause-fits c =
    let s = stored c.args.inputs.now c.args.nodes.now in
    let ps = c.args.order.now in
    let xs = c.loop-place.numbers in
    let long = c.loop-place.invariant.long in
    let order = subst (λ n. IsOrder s n ps) (sym long) c.requires.order in
    let few : length xs ≤ length c.args.nodes.now = let f = c.requires.order.few in let g = length-map c.args.nodes.now plain in omega (arith, f, g, long) in
    node_can c.args.inputs.now c.args.residues.now c.args.nodes.now c.requires.kept c.requires.residues ps xs order few c.loop-place.place-index c.loop-place-test.true c.loop-place.invariant.are c.index-nodes-place.result c.index-nodes-place.is

pub loop-place-preserved : goal.loop-place-preserved
loop-place-preserved c =
    let s = stored c.args.inputs.now c.args.nodes.now in
    let ps = c.args.order.now in
    let xs = c.loop-place.numbers in
    let long = c.loop-place.invariant.long in
    let order = subst (λ n. IsOrder s n ps) (sym long) c.requires.order in
    let few : length xs ≤ length c.args.nodes.now = let f = c.requires.order.few in let g = length-map c.args.nodes.now plain in omega (arith, f, g, long) in
    let number = c.number_of-number.ensures ∙ node_number c.args.inputs.now c.args.residues.now c.args.nodes.now c.requires.kept c.requires.residues ps xs order few c.loop-place.place-index c.loop-place-test.true c.loop-place.invariant.are c.index-nodes-place.result c.index-nodes-place.is in
    record {
      are = numbers_more s c.args.residues.now ps c.loop-place.place-index xs c.number_of-number.result (order.below c.loop-place.place-index c.loop-place-test.true) number c.loop-place.invariant.are;
      long = length-set xs (get_or ps c.loop-place.place-index 0) c.number_of-number.result ∙ long;
    }
