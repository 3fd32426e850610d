use Rattle.std.proofs.Common.{◌≡◌, ◌+◌, drop, map, option_map}
use Rattle.stk_tree.specs.View.{view_section, sections}
use Rattle.stk_meaning.specs.Statements.{has_default, sections_before}
use Rattle.stk_exec_stmt.proofs.choosing.default_at.Given as goal

-- what is left answers for the whole
abbrev pub invariant-loop-at : goal.invariant-loop-at
invariant-loop-at l =
    option_map (λ n. n + l.at) (sections_before has_default (sections (map view_section (drop l.at l.list)))) ≡ sections_before has_default (sections (map view_section l.list))
