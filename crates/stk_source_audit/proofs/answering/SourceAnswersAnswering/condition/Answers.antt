use Rattle.stk_source_audit.proofs.AtHand.{condition_there}
use Rattle.stk_source_audit.proofs.answering.SourceAnswersAnswering.condition.Goals as goal

pub returns : goal.returns
returns c =
    let i = c.self.inside in
    condition_there (record { bytes = i.text.bytes.now; tokens = i.text.tokens.now; pieces = i.pieces.now }) i.names i.hand i.hits c.self.invariant.at_hand c.args.self.now c.self.view_is c.in-Some.hand c.in-Some.is c.args.node c.args.kind c.as_slice.result.now c.condition_among.result c.as_slice.ensures.value c.condition_among.ensures
