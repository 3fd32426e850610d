-- What a section adds is bounded by its case labels.
use Rattle.std.proofs.Common.{◌*◌, ◌≤◌, arith}
use Rattle.stk_tree.specs.Syntax.{LabelTree, LabelTrees}
use Rattle.stk_tree.specs.Syntax as s
use Rattle.stk_meaning.specs.Weights.{label_weight, labels_weight}
use Rattle.stk_weights.specs.Loads.{cases_at, cases_in}

label_few : (l : LabelTree) → label_weight l ≤ 1024 * cases_at l
label_few s.default_label = omega arith
label_few (s.case_label e) = omega arith

-- what a section adds
pub labels_limit : (ls : LabelTrees) → labels_weight ls ≤ 1024 * cases_in ls
labels_limit s.no_labels = omega arith
labels_limit (s.then_label l ls) = omega (arith, label_few l, labels_limit ls)
