-- What the code's sums and replacements are among those of runs.
use Rattle.std.specs.Prelude.{Bool, ◌&&◌, ◌||◌, not}
use Rattle.std.specs.Option.{is_some}
use Rattle.stk_tree.specs.Syntax.{ExprTree}
use Rattle.stk_tree.specs.View.{view_expression}
use Rattle.stk_type_rules.specs.Types.{kind_of}
use Rattle.stk_meaning.specs.Typings.{Typing, type_in}
use Rattle.stk_meaning.specs.Replacements as runs
use Rattle.stk_replacements.specs.declared.replacing.Replaced.{Replaced}
use Rattle.stk_replacements.specs.declared.replacing.Summed.{Summed}

-- the operands of a sum or difference
abbrev pub summed_shown : Summed → runs.Summed
summed_shown s = record { left = view_expression s.left.now; right = view_expression s.right.now; minus = s.minus }

-- a replacement
abbrev pub replaced_shown : Replaced → runs.Replaced
replaced_shown r = record { kept = view_expression r.kept.now; is_right = r.is_right; sum_first = r.sum_first; zero_first = r.zero_first }

-- whether an operand may be kept and the other one left out
abbrev pub may_keep : Typing → ExprTree → ExprTree → Bool
may_keep ty x y = is_some (kind_of (type_in ty y)) && not (runs.has_effect x || runs.has_effect y)
