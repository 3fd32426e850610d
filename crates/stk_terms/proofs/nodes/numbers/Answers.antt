use Rattle.std.proofs.Common.{◌<◌, ◌++◌, ◌∷◌, [], sym, ◌∙◌, arith, length}
use Rattle.stk_terms.proofs.Evaluating as all
use Rattle.stk_terms.proofs.nodes.numbers.Goals as goal

pub number_of-number-requires-clause-among : goal.number_of-number-requires-clause-among
number_of-number-requires-clause-among c = let h : c.loop-i.i < length c.args.nodes.now = omega (arith, c.loop-i-test.true, c.requires.count, c.loop-i.auto.i-end) in all.among_is c.args.inputs.now c.args.residues.now c.args.nodes.now c.requires.kept c.requires.residues c.loop-i.i c.index-nodes-i.result c.index-nodes-i.result c.deref.result.now h c.index-nodes-i.is (c.deref.ensures.value ∙ c.loop-i.invariant)

pub number_of-number-requires-clause-before : goal.number_of-number-requires-clause-before
number_of-number-requires-clause-before c = let h : c.loop-i.i < length c.args.nodes.now = omega (arith, c.loop-i-test.true, c.requires.count, c.loop-i.auto.i-end) in all.before_is c.args.inputs.now c.args.residues.now c.args.nodes.now c.requires.kept c.requires.residues c.loop-i.i c.index-nodes-i.result c.index-nodes-i.result c.deref.result.now h c.index-nodes-i.is (c.deref.ensures.value ∙ c.loop-i.invariant)

pub number_of-number-requires-clause-fits : goal.number_of-number-requires-clause-fits
number_of-number-requires-clause-fits c = let h : c.loop-i.i < length c.args.nodes.now = omega (arith, c.loop-i-test.true, c.requires.count, c.loop-i.auto.i-end) in all.can_is c.args.inputs.now c.args.residues.now c.args.nodes.now c.requires.kept c.requires.residues c.loop-i.i c.index-nodes-i.result c.index-nodes-i.result c.deref.result.now h c.index-nodes-i.is (c.deref.ensures.value ∙ c.loop-i.invariant)

pub loop-i-preserved : goal.loop-i-preserved
loop-i-preserved c =
    let h : c.loop-i.i < length c.args.nodes.now = omega (arith, c.loop-i-test.true, c.requires.count, c.loop-i.auto.i-end) in
    c.in_ok-push.ensures.items ∙ ((λ i. sym c.deref.ensures.value i ++ c.number_of-number.ensures i ∷ []) ∙ all.more_is c.args.inputs.now c.args.residues.now c.args.nodes.now c.requires.kept c.requires.residues c.loop-i.i c.index-nodes-i.result c.index-nodes-i.result c.deref.result.now h c.index-nodes-i.is (c.deref.ensures.value ∙ c.loop-i.invariant))
