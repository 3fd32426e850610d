use Rattle.std.proofs.Common.{◌∙◌}
use Rattle.stk_source_audit.proofs.Handed.{kinds_there}
use Rattle.stk_source_audit.proofs.AtHand.{known, few_bits, none_by_table, none_by_judged}
use Rattle.stk_source_audit.proofs.answering.SourceAnswersAnswering.none_answers.Goals as goal

pub returns-in-Some-hits-clause-none : goal.returns-in-Some-hits-clause-none
returns-in-Some-hits-clause-none c =
    let i = c.self.inside in
    none_by_table (record { bytes = i.text.bytes.now; tokens = i.text.tokens.now; pieces = i.pieces.now }) i.names i.hand i.hits c.self.invariant.at_hand c.args.self.now c.self.view_is c.in-Some.hand c.in-Some.is c.requires.all c.in-Some-hits.table c.in-Some-hits.is c.args.candidate c.args.set.now c.none_answers.result c.none_answers.ensures

pub hit_table-requires-clause-kinds : goal.hit_table-requires-clause-kinds
hit_table-requires-clause-kinds c =
    let i = c.self.inside in
    let j = c.judged_at-judged in
    let k = known (record { bytes = i.text.bytes.now; tokens = i.text.tokens.now; pieces = i.pieces.now }) i.names i.hand i.hits c.self.invariant.at_hand c.args.self.now c.self.view_is c.in-Some.hand c.in-Some.is in
    c.as_slice.ensures.value ∙ kinds_there (record { bytes = i.text.bytes.now; tokens = i.text.tokens.now; pieces = i.pieces.now }) i.names i.hits c.in-Some.hand k j.result j.ensures.bytes j.ensures.unit j.ensures.function j.ensures.names j.ensures.without

pub hit_table-requires-clause-few : goal.hit_table-requires-clause-few
hit_table-requires-clause-few c =
    let i = c.self.inside in
    few_bits (record { bytes = i.text.bytes.now; tokens = i.text.tokens.now; pieces = i.pieces.now }) i.names i.hand i.hits c.self.invariant.at_hand c.args.self.now c.self.view_is c.in-Some.hand c.in-Some.is c.requires.all c.as_slice.result.now c.as_slice.ensures.value

pub returns-clause-none : goal.returns-clause-none
returns-clause-none c =
    let i = c.self.inside in
    let j = c.judged_at-judged in
    none_by_judged (record { bytes = i.text.bytes.now; tokens = i.text.tokens.now; pieces = i.pieces.now }) i.names i.hand i.hits c.self.invariant.at_hand c.args.self.now c.self.view_is c.in-Some.hand c.in-Some.is j.result j.ensures.bytes j.ensures.unit j.ensures.function j.ensures.names j.ensures.without c.requires.all c.as_slice.result.now c.as_slice.ensures.value c.in_ok-table.table c.in_ok-table.ensures c.args.candidate c.args.set.now c.in_ok-none.none c.in_ok-none.ensures
