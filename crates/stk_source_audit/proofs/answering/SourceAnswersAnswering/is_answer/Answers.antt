use Rattle.std.proofs.Common.{◌∙◌}
use Rattle.stk_source_audit.proofs.Handed.{kinds_there}
use Rattle.stk_source_audit.proofs.AtHand.{known, is_answer_there}
use Rattle.stk_source_audit.proofs.answering.SourceAnswersAnswering.is_answer.Goals as goal

pub is_answer-requires-clause-kinds : goal.is_answer-requires-clause-kinds
is_answer-requires-clause-kinds c =
    let i = c.self.inside in
    let j = c.judged_at-judged in
    let k = known (record { bytes = i.text.bytes.now; tokens = i.text.tokens.now; pieces = i.pieces.now }) i.names i.hand i.hits c.self.invariant.at_hand c.args.self.now c.self.view_is c.in-Some.hand c.in-Some.is in
    c.as_slice.ensures.value ∙ kinds_there (record { bytes = i.text.bytes.now; tokens = i.text.tokens.now; pieces = i.pieces.now }) i.names i.hits c.in-Some.hand k j.result j.ensures.bytes j.ensures.unit j.ensures.function j.ensures.names j.ensures.without

pub returns : goal.returns
returns c =
    let i = c.self.inside in
    let j = c.judged_at-judged in
    is_answer_there (record { bytes = i.text.bytes.now; tokens = i.text.tokens.now; pieces = i.pieces.now }) i.names i.hand i.hits c.self.invariant.at_hand c.args.self.now c.self.view_is c.in-Some.hand c.in-Some.is j.result j.ensures.bytes j.ensures.unit j.ensures.function j.ensures.names j.ensures.without c.args.candidate c.args.set.now c.args.start.now c.is_answer.result c.is_answer.ensures
