-- The script of a replay as text. Nothing in it is optional, so a script has one text.
use Rattle.std.specs.Prelude.{◌≡◌, ℕ, ◌<◌, ◌^◌, ◌⊎◌, true, List, [], ◌∷◌, ◌++◌, ℤ, pos, negsuc, codes, decimal}
use Rattle.std.specs.List.{list_all, AllByRecursion}
use Rattle.std.specs.Fmt.{signed_decimal}
use Rattle.stk_line_reading.specs.Cuts.{is_other}
use Rattle.stk_memory.specs.declared.image.Cell.{Cell}
use Rattle.stk_memory.specs.declared.image.Reply.{Reply}
use Rattle.stk_replay_script.specs.declared.script.Script.{Script}

-- a word, what stands behind it, and a newline
abbrev pub line : List ℕ → List ℕ → List ℕ
line word content = word ++ content ++ codes "\n"

-- lines that begin with one word
abbrev pub lines : {A : Type 0} → List ℕ → (A → List ℕ) → List A → List ℕ
lines word text [] = []
lines word text (x ∷ xs) = line word (text x) ++ lines word text xs

-- an address and its byte, each behind a space
abbrev pub cell_text : Cell → List ℕ
cell_text c = codes " " ++ decimal c.at ++ codes " " ++ decimal c.byte

abbrev pub cells_text : List Cell → List ℕ
cells_text [] = []
cells_text (c ∷ cs) = cell_text c ++ cells_text cs

-- the number of an answer and the bytes that it writes, each behind a space
abbrev pub reply_text : Reply → List ℕ
reply_text r = codes " " ++ signed_decimal r.number ++ cells_text r.writes

-- `function NAME`, `start START`, `fill B`, a line `byte A B` for each cell, a line `reply N A B ..` for each answer,
-- `turns N` and `end`
abbrev pub script_text : Script → List ℕ
script_text s =
    line (codes "function ") s.function ++ line (codes "start ") s.start ++ line (codes "fill ") (decimal s.memory.fill)
    ++ lines (codes "byte") cell_text s.memory.cells ++ lines (codes "reply") reply_text s.replies
    ++ line (codes "turns ") (decimal s.turns) ++ codes "end\n"

-- a byte at an address
pub record IsCell (c : Cell) : Type 0 where
  pub at : c.at < 2 ^ 64
  pub byte : c.byte < 256

-- a number that some integer kind has
abbrev pub IsOfSomeKind : ℤ → Type 0
IsOfSomeKind (pos n) = n < 2 ^ 64
IsOfSomeKind (negsuc n) = n < 2 ^ 63

pub record IsReply (r : Reply) : Type 0 where
  pub number : IsOfSomeKind r.number
  pub writes : AllByRecursion IsCell r.writes

-- the name and the start of a script stand on a line each, and its numbers are in range
pub record IsScript (s : Script) : Type 0 where
  pub function : list_all (is_other 10) s.function ≡ true
  pub start : list_all (is_other 10) s.start ≡ true
  pub fill : s.memory.fill < 256
  pub cells : AllByRecursion IsCell s.memory.cells
  pub replies : AllByRecursion IsReply s.replies
  pub turns : s.turns < 2 ^ 32

-- an input is the text of a script and a source; the newline of `end` may be missing, and the source is empty then
pub record IsInput (bytes : List ℕ) (s : Script) (source : List ℕ) : Type 0 where
  pub is : IsScript s
  pub text : (bytes ≡ script_text s ++ source) ⊎ ((bytes ++ codes "\n" ≡ script_text s) × (source ≡ []))
