-- Texts of bundles: lines with their blocks, each where it may stand.
use Rattle.std.specs.Prelude.{◌≡◌, ◌≢◌, ℕ, ◌+◌, ◌<◌, ◌⊎◌, List, [], ◌∷◌, ◌++◌, map, Option, Some, None}
use Rattle.std.specs.List.{AllByRecursion}
use Rattle.stk_bundle.specs.declared.line.BundleLine.{BundleLine}
use Rattle.stk_bundle.specs.declared.line.BundleLine.TheVariants as line
use Rattle.stk_bundle.specs.declared.parts.Part.{Part}
use Rattle.stk_bundle.specs.declared.stage.Stage.{Stage}
use Rattle.stk_bundle.specs.declared.stage.Stage.TheVariants as stage
use Rattle.stk_bundle.specs.Lines.{line_text, FitsLine}
use Rattle.stk_bundle.specs.Blocks.{line_count, IsBlock}
use Rattle.stk_bundle.specs.Grammar.{next_stage, stage_behind}

-- a line, and the block behind it
pub record LineBlock : Type 0 where
  pub line : BundleLine
  pub block : List ℕ

-- those that were read
abbrev pub line_block : Part → LineBlock
line_block p = record { line = p.line; block = p.block.now }

-- how many lines the block behind a line has
abbrev pub block_lines : BundleLine → ℕ
block_lines (line.Clauses lines) = lines
block_lines (line.Steps lines) = lines
block_lines l = 0

-- the text of a line, its newline and its block
abbrev pub part_text : LineBlock → List ℕ
part_text p = line_text p.line ++ 10 ∷ p.block

abbrev pub parts_text : List LineBlock → List ℕ
parts_text [] = []
parts_text (p ∷ ps) = part_text p ++ parts_text ps

-- a line fits, and its block has as many lines as it says
pub record IsPart (p : LineBlock) : Type 0 where
  pub fits : FitsLine p.line
  pub block : IsBlock (block_lines p.line) p.block

-- a text is a line that may stand at a stage, its newline, and what comes behind that
pub record IsNextLine (at : Stage) (text : List ℕ) (l : BundleLine) (behind : List ℕ) : Type 0 where
  pub whole : text ≡ line_text l ++ 10 ∷ behind
  pub fits : FitsLine l
  pub stands : next_stage at l ≢ None

-- no line that may stand at a stage comes
abbrev pub NoLineStands : Stage → List ℕ → Type 0
NoLineStands at text = (l : BundleLine) (behind : List ℕ) → IsNextLine at text l behind → ⊥

-- a line comes that may stand, and its block isn't all there
pub record IsBlockShort (at : Stage) (text : List ℕ) : Type 0 where
  pub line : BundleLine
  pub behind : List ℕ
  pub next : IsNextLine at text line behind
  pub short : line_count behind < block_lines line

-- a text begins with this part, which may stand at a stage and leads to the next one
pub record IsNextPart (at : Stage) (text : List ℕ) (p : LineBlock) (next : Stage) (behind : List ℕ) : Type 0 where
  pub whole : text ≡ part_text p ++ behind
  pub is : IsPart p
  pub leads : next_stage at p.line ≡ Some next

-- a text is these parts, each where it may stand, up to a stage, and what comes behind them
pub record AreParts (text : List ℕ) (ps : List LineBlock) (at : Stage) (behind : List ℕ) : Type 0 where
  pub whole : text ≡ parts_text ps ++ behind
  pub are : AllByRecursion IsPart ps
  pub lead : stage_behind stage.Start (map (λ p. p.line) ps) ≡ Some at

-- the first line that fails, counted from 1: the one that comes next, or the one behind all that are there of a block
abbrev pub FailsAt : List ℕ → List LineBlock → Stage → List ℕ → ℕ → Type 0
FailsAt text ps at behind n = (NoLineStands at behind × (n ≡ line_count (parts_text ps) + 1)) ⊎ (IsBlockShort at behind × (n ≡ line_count text + 1))

-- how reading ends: behind `end`, or at a line that fails
abbrev pub EndsSo : List ℕ → List LineBlock → Stage → List ℕ → Option ℕ → Type 0
EndsSo text ps at behind None = at ≡ stage.Ended
EndsSo text ps at behind (Some n) = (at ≢ stage.Ended) × FailsAt text ps at behind n
