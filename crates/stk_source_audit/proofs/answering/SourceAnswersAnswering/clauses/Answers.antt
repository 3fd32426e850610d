use Rattle.std.proofs.Common.{◌∙◌}
use Rattle.stk_source_audit.proofs.Handed.{candidates_there}
use Rattle.stk_source_audit.proofs.AtHand.{known, formula_there}
use Rattle.stk_source_audit.proofs.answering.SourceAnswersAnswering.clauses.Goals as goal

pub formula_of-requires-clause-candidates : goal.formula_of-requires-clause-candidates
formula_of-requires-clause-candidates c =
    let i = c.self.inside in
    let j = c.judged_at-judged in
    let k = known (record { bytes = i.text.bytes.now; tokens = i.text.tokens.now; pieces = i.pieces.now }) i.names i.hand i.hits c.self.invariant.at_hand c.args.self.now c.self.view_is c.in-Some.hand c.in-Some.is in
    c.as_slice.ensures.value ∙ candidates_there (record { bytes = i.text.bytes.now; tokens = i.text.tokens.now; pieces = i.pieces.now }) i.names i.hits c.in-Some.hand k j.result j.ensures.bytes j.ensures.unit j.ensures.function j.ensures.names j.ensures.without

pub returns-clause-stand : goal.returns-clause-stand
returns-clause-stand c =
    let i = c.self.inside in
    let j = c.judged_at-judged in
    formula_there (record { bytes = i.text.bytes.now; tokens = i.text.tokens.now; pieces = i.pieces.now }) i.names i.hand i.hits c.self.invariant.at_hand c.args.self.now c.self.view_is c.in-Some.hand c.in-Some.is j.result j.ensures.bytes j.ensures.unit j.ensures.function j.ensures.names j.ensures.without c.args.candidate c.args.set.now c.formula_of.result c.formula_of.ensures.formula
