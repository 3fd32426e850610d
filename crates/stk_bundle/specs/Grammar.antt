-- Which line may follow which in a bundle: a table of stages.
use Rattle.std.specs.Prelude.{Bool, true, false, List, [], ◌∷◌, Option, Some, None}
use Rattle.std.specs.Option.{option_and_then}
use Rattle.stk_bundle.specs.declared.line.BundleLine.{BundleLine}
use Rattle.stk_bundle.specs.declared.line.BundleLine.TheVariants as line
use Rattle.stk_bundle.specs.declared.stage.Stage.{Stage}
use Rattle.stk_bundle.specs.declared.stage.Stage.TheVariants as stage

-- the stage behind a line, where the line may stand at this stage
abbrev pub next_stage : Stage → BundleLine → Option Stage
next_stage stage.Start line.Head = Some stage.Named
next_stage stage.Named (line.Source length) = Some stage.Measured
next_stage stage.Measured (line.Without kinds) = Some stage.Opened
next_stage stage.Opened (line.Function at) = Some stage.Function
next_stage stage.Opened line.End = Some stage.Ended
next_stage stage.Function (line.Unstable node kind) = Some stage.Candidate
next_stage stage.Function (line.Left node kind) = Some stage.Item
next_stage stage.Item (line.Function at) = Some stage.Function
next_stage stage.Item (line.Unstable node kind) = Some stage.Candidate
next_stage stage.Item (line.Left node kind) = Some stage.Item
next_stage stage.Item line.End = Some stage.Ended
next_stage stage.Candidate (line.Hit start) = Some stage.Set
next_stage stage.Set (line.Need node kind start) = Some stage.Set
next_stage stage.Set (line.Open node kind) = Some stage.Set
next_stage stage.Set line.Tried = Some stage.Item
next_stage stage.Set (line.Clauses lines) = Some stage.Clauses
next_stage stage.Clauses (line.Steps lines) = Some stage.Item
next_stage at l = None

-- the stage behind lines, where each may stand where it stands
abbrev pub stage_behind : Stage → List BundleLine → Option Stage
stage_behind at [] = Some at
stage_behind at (l ∷ ls) = option_and_then (λ next. stage_behind next ls) (next_stage at l)

-- whether the line `end` has come
abbrev pub is_ended : Stage → Bool
is_ended stage.Ended = true
is_ended at = false
