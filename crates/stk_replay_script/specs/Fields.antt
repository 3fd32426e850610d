-- The lines of a script, one after the other.
use Rattle.std.specs.Prelude.{◌≡◌, ℕ, ◌≤◌, ◌⊎◌, true, List, [], ◌∷◌, ◌++◌, codes, decimal}
use Rattle.std.specs.List.{list_all, AllByRecursion}
use Rattle.stk_line_reading.specs.Cuts.{is_other, begins_or_ends}
use Rattle.stk_memory.specs.declared.image.Cell.{Cell}
use Rattle.stk_memory.specs.declared.image.Reply.{Reply}
use Rattle.stk_replay_script.specs.Scripts.{lines, cell_text, cells_text, reply_text, IsCell, IsReply}

-- a text begins with a line of this word and this content, and this comes behind it
pub record IsField (word text content behind : List ℕ) : Type 0 where
  pub same : text ≡ word ++ (content ++ 10 ∷ behind)
  pub plain : list_all (is_other 10) content ≡ true

-- the content is a number, at most so great
pub record IsNumberField (word : List ℕ) (most : ℕ) (text : List ℕ) (n : ℕ) (behind : List ℕ) : Type 0 where
  pub field : IsField word text (decimal n) behind
  pub fits : n ≤ most

-- lines of one word that a text begins with, and behind them none
pub record AreFields {A : Type 0} (word : List ℕ) (text : A → List ℕ) (Is : A → Type 0) (whole : List ℕ) (xs : List A) (behind : List ℕ) : Type 0 where
  pub same : whole ≡ lines word text xs ++ behind
  pub are : AllByRecursion Is xs
  pub end : (content rest : List ℕ) → IsField word behind content rest → ⊥

-- a text begins with a cell
pub record IsNextCell (text : List ℕ) (c : Cell) (behind : List ℕ) : Type 0 where
  pub same : text ≡ cell_text c ++ behind
  pub is : IsCell c
  pub stops : begins_or_ends 32 behind ≡ true

-- a text is one cell, or some cells
pub record IsCellText (text : List ℕ) (c : Cell) : Type 0 where
  pub same : text ≡ cell_text c
  pub is : IsCell c

pub record AreCells (text : List ℕ) (cs : List Cell) : Type 0 where
  pub same : text ≡ cells_text cs
  pub are : AllByRecursion IsCell cs

-- a text is a reply
pub record IsReplyText (text : List ℕ) (r : Reply) : Type 0 where
  pub same : text ≡ reply_text r
  pub is : IsReply r

-- a text is `end` and a source behind its newline, or `end` alone
abbrev pub IsEnd : List ℕ → List ℕ → Type 0
IsEnd text source = (text ≡ codes "end\n" ++ source) ⊎ ((text ≡ codes "end") × (source ≡ []))
