use Rattle.std.proofs.Common.{◌≡◌, ◌+◌, drop, map, option_map}
use Rattle.stk_tree.specs.View.{view_section, sections}
use Rattle.stk_meaning.specs.Statements.{has_case, sections_before}
use Rattle.stk_exec_stmt.proofs.choosing.case_at.Given as goal

-- what is left answers for the whole
abbrev pub invariant-loop-at : goal.invariant-loop-at
invariant-loop-at g l =
    let test = has_case (g.O.RunSetting.setting l.out).typing l.kind l.number in
    option_map (λ n. n + l.at) (sections_before test (sections (map view_section (drop l.at l.list)))) ≡ sections_before test (sections (map view_section l.list))
