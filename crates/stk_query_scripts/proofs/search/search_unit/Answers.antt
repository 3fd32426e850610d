use Rattle.stk_query_scripts.proofs.Searching.{searched_unit}
use Rattle.stk_query_scripts.proofs.search.search_unit.Goals as goal

pub returns-in-Ok-clause-searched : goal.returns-in-Ok-clause-searched
returns-in-Ok-clause-searched c =
    let unit = c.args.unit.now in
    searched_unit unit.input.now unit.without unit.mark c.args.names.now c.visit_unit.new.names unit.body unit.tokens.now c.visit_unit.result c.args.search.now c.visit_unit.new.visitor _ _ _ _ c.in-Ok.is c.visit_unit.ensures.visited
