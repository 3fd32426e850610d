-- The lines of a bundle, and their texts.
use Rattle.std.specs.Prelude.{◌≡◌, ℕ, List, [], ◌∷◌, ◌++◌, codes}
use Rattle.std.specs.List.{AllByRecursion}
use Rattle.stk_bundle.specs.declared.line.BundleLine.{BundleLine}
use Rattle.stk_bundle.specs.declared.line.BundleLine.TheVariants.{Head, Source, Without, Function, Unstable, Hit, Need, Open, Tried, Clauses, Steps, Left, End}
use Rattle.stk_line_reading.specs.Numbers.{IsNumber}
use Rattle.stk_bundle.specs.Numbers.{numbers_text}
use Rattle.stk_bundle.specs.Kinds.{kinds_text, StandOnce}

-- the text of a line, without its newline
abbrev pub line_text : BundleLine → List ℕ
line_text Head = codes "stack bundle 1"
line_text (Source length) = codes "source" ++ numbers_text (length ∷ [])
line_text (Without kinds) = codes "without " ++ kinds_text kinds
line_text (Function at) = codes "function" ++ numbers_text (at ∷ [])
line_text (Unstable node kind) = codes "unstable" ++ numbers_text (node ∷ kind ∷ [])
line_text (Hit start) = codes "hit" ++ numbers_text start
line_text (Need node kind start) = codes "need" ++ numbers_text (node ∷ kind ∷ start)
line_text (Open node kind) = codes "open" ++ numbers_text (node ∷ kind ∷ [])
line_text Tried = codes "tried"
line_text (Clauses lines) = codes "cnf" ++ numbers_text (lines ∷ [])
line_text (Steps lines) = codes "lrat" ++ numbers_text (lines ∷ [])
line_text (Left node kind) = codes "left" ++ numbers_text (node ∷ kind ∷ [])
line_text End = codes "end"

-- the numbers of a line are below 2^64, and its kinds stand once
abbrev pub FitsLine : BundleLine → Type 0
FitsLine Head = Unit {0}
FitsLine (Source length) = IsNumber length
FitsLine (Without kinds) = StandOnce kinds
FitsLine (Function at) = IsNumber at
FitsLine (Unstable node kind) = IsNumber node × IsNumber kind
FitsLine (Hit start) = AllByRecursion IsNumber start
FitsLine (Need node kind start) = IsNumber node × IsNumber kind × AllByRecursion IsNumber start
FitsLine (Open node kind) = IsNumber node × IsNumber kind
FitsLine Tried = Unit {0}
FitsLine (Clauses lines) = IsNumber lines
FitsLine (Steps lines) = IsNumber lines
FitsLine (Left node kind) = IsNumber node × IsNumber kind
FitsLine End = Unit {0}

-- a text is this line
pub record IsLine (text : List ℕ) (line : BundleLine) : Type 0 where
  pub same : text ≡ line_text line
  pub fits : FitsLine line
