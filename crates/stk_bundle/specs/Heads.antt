-- The lines with which a bundle begins.
use Rattle.std.specs.Prelude.{ℕ, if◌then◌else◌, List, [], ◌∷◌, ◌++◌}
use Rattle.stk_numbers.specs.declared.conditions.Kinds.{Kinds}
use Rattle.stk_numbers.specs.declared.conditions.UbKind.{UbKind}
use Rattle.stk_numbers.specs.Taken.{is_taken}
use Rattle.stk_records.specs.Json.{all_kinds}
use Rattle.stk_bundle.specs.declared.line.BundleLine.{BundleLine}
use Rattle.stk_bundle.specs.declared.line.BundleLine.TheVariants as line

-- those of these kinds that are taken out
abbrev pub taken_among : Kinds → List UbKind → List UbKind
taken_among without [] = []
taken_among without (k ∷ ks) = (if is_taken without k then k ∷ [] else []) ++ taken_among without ks

-- what the bundle is, how many bytes its source has, and the kinds that are taken out, in the order of their numbers
abbrev pub head_lines : ℕ → Kinds → List BundleLine
head_lines length without = line.Head ∷ line.Source length ∷ line.Without (taken_among without all_kinds) ∷ []
