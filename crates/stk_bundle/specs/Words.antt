-- The first words of lines, and what stands behind them.
use Rattle.std.specs.Prelude.{◌≡◌, ℕ, List, [], ◌∷◌, codes}
use Rattle.stk_bundle.specs.declared.line.BundleLine.{BundleLine}
use Rattle.stk_bundle.specs.declared.line.BundleLine.TheVariants as line
use Rattle.stk_bundle.specs.declared.word.Word.{Word}
use Rattle.stk_bundle.specs.declared.word.Word.TheVariants as word
use Rattle.stk_bundle.specs.Numbers.{numbers_text}
use Rattle.stk_bundle.specs.Kinds.{kinds_text}
use Rattle.stk_bundle.specs.Lines.{FitsLine}

-- how a word is written
abbrev pub word_text : Word → List ℕ
word_text word.Stack = codes "stack"
word_text word.Source = codes "source"
word_text word.Without = codes "without"
word_text word.Function = codes "function"
word_text word.Unstable = codes "unstable"
word_text word.Hit = codes "hit"
word_text word.Need = codes "need"
word_text word.Open = codes "open"
word_text word.Tried = codes "tried"
word_text word.Clauses = codes "cnf"
word_text word.Steps = codes "lrat"
word_text word.Left = codes "left"
word_text word.End = codes "end"

-- the first word of a line
abbrev pub word_of : BundleLine → Word
word_of line.Head = word.Stack
word_of (line.Source length) = word.Source
word_of (line.Without kinds) = word.Without
word_of (line.Function at) = word.Function
word_of (line.Unstable node kind) = word.Unstable
word_of (line.Hit start) = word.Hit
word_of (line.Need node kind start) = word.Need
word_of (line.Open node kind) = word.Open
word_of line.Tried = word.Tried
word_of (line.Clauses lines) = word.Clauses
word_of (line.Steps lines) = word.Steps
word_of (line.Left node kind) = word.Left
word_of line.End = word.End

-- what stands behind the first word of a line
abbrev pub behind_word : BundleLine → List ℕ
behind_word line.Head = codes " bundle 1"
behind_word (line.Source length) = numbers_text (length ∷ [])
behind_word (line.Without kinds) = 32 ∷ kinds_text kinds
behind_word (line.Function at) = numbers_text (at ∷ [])
behind_word (line.Unstable node kind) = numbers_text (node ∷ kind ∷ [])
behind_word (line.Hit start) = numbers_text start
behind_word (line.Need node kind start) = numbers_text (node ∷ kind ∷ start)
behind_word (line.Open node kind) = numbers_text (node ∷ kind ∷ [])
behind_word line.Tried = []
behind_word (line.Clauses lines) = numbers_text (lines ∷ [])
behind_word (line.Steps lines) = numbers_text (lines ∷ [])
behind_word (line.Left node kind) = numbers_text (node ∷ kind ∷ [])
behind_word line.End = []

-- a line begins with this word, and this stands behind it
pub record IsBehind (first : Word) (text : List ℕ) (l : BundleLine) : Type 0 where
  pub word : word_of l ≡ first
  pub same : text ≡ behind_word l
  pub fits : FitsLine l
