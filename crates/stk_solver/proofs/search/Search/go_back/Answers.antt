use Rattle.std.proofs.Common.{◌≡◌, ◌∙◌, get_or, take, ap}
use Rattle.std.proofs.lemmas.List.{get_or_default}
use Rattle.stk_solver.specs.declared.search.Search.{Search}
use Rattle.stk_solver.proofs.Leveling.{levels_cut}
use Rattle.stk_solver.proofs.search.Search.go_back.Goals as goal

pub returns-clause-levels : goal.returns-clause-levels
returns-clause-levels c =
    let s = c.args.self.now in
    let back = c.give_back.ensures in
    let ls = s.levels.items in
    let count = c.index-count.result.now in
    let place : count ≡ get_or ls c.args.kept 0 = c.index-count.ensures ∙ get_or_default ls c.args.kept count 0 c.requires.fewer in
    levels_cut s.trail.assigned c.back_to.new.self.assigned ls c.truncate.new.self.items c.args.kept count c.requires.levels c.requires.fewer place
    (c.truncate.ensures.items ∙ ap (λ (x : Search). take c.args.kept x.levels.items) back)
    (c.back_to.ensures.literals ∙ ap (λ (x : Search). take count x.trail.assigned.literals) back)
    (c.back_to.ensures.reasons ∙ ap (λ (x : Search). take count x.trail.assigned.reasons) back)
