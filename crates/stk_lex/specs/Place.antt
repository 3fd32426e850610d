-- Where a byte of a text stands: the file and the number of its line, by the last line marker before it, and its
-- column.
use Rattle.std.specs.Prelude.{◌≡◌, ℕ, suc, ◌+◌, ◌-◌, ◌<◌, ◌≤◌, ◌⊎◌, true, cond, ◌==◌, List, [], ◌∷◌, length, take, drop, Option, Some, None}
use Rattle.stk_base.specs.declared.span.Span.{Span}
use Rattle.stk_base.specs.declared.token.Class.{Class}
use Rattle.stk_base.specs.declared.token.Place.{Place}
use Rattle.stk_lex.specs.declared.markers.Marker.{Marker}
use Rattle.stk_lex.specs.Gaps.{gap, begins}
use Rattle.stk_lex.specs.Cut.{IsFirst}
use Rattle.stk_lex.specs.Marker.{IsMarker}

-- ---- the parts of a text

-- the part of a text that begins at a place has n bytes: a gap, or where there is none a token
pub data IsPart (text : List ℕ) (at n : ℕ) : Type 0 where
  gap_part : 0 < gap text at → n ≡ gap text at → IsPart text at n
  token_part : {class : Class} → gap text at ≡ 0 → IsFirst (drop at text) class n → IsPart text at n

-- a part begins at a place, or the text ends there: what stands before it is whole parts
pub data PartBegins (text : List ℕ) : ℕ → Type 0 where
  first_part : PartBegins text 0
  next_part : {at n : ℕ} → PartBegins text at → IsPart text at n → PartBegins text (at + n)

-- ---- line markers

-- the place where the line after a directive line begins
abbrev pub line_after : List ℕ → ℕ → ℕ
line_after text at = at + gap text at + 1

-- a line marker stands at a place: a gap that is a directive line, that a newline ends, and that has the form of a
-- marker
pub record MarkerStands (text : List ℕ) (at : ℕ) (marker : Marker) : Type 0 where
  pub part : PartBegins text at
  pub directive : (0 < gap text at) × (begins 35 (drop at text) ≡ true)
  pub ended : at + gap text at < length text
  pub form : IsMarker (take (gap text at) (drop at text)) marker

-- no line behind a marker begins behind one place and up to another
abbrev pub NoMarker : List ℕ → ℕ → ℕ → Type 0
NoMarker text from to = (at : ℕ) (marker : Marker) → MarkerStands text at marker → from < line_after text at → line_after text at ≤ to → ⊥

-- where the name of a marker at a place stands in the text
abbrev pub name_of : ℕ → Marker → Span
name_of at marker = record { from = at + marker.from; to = at + marker.to }

-- ---- lines

-- how many newlines are in a text
unfoldable pub newlines : List ℕ → ℕ
newlines [] = 0
newlines (b ∷ bs) = cond (b == 10) (suc (newlines bs)) (newlines bs)

-- how many newlines stand before a place
abbrev pub newlines_before : List ℕ → ℕ → ℕ
newlines_before text at = newlines (take at text)

-- The file and the number of the line at a place. Before the first marker there is no file, and the first line is 1.
-- Else the line after the last marker has its number, in the file of its name, and lines are counted from there.
pub data IsLineAt (text : List ℕ) (place : ℕ) (file : Option Span) (number : ℕ) : Type 0 where
  unmarked : NoMarker text 0 place → file ≡ None → number ≡ 1 + newlines_before text place → IsLineAt text place file number
  marked : {at : ℕ} {marker : Marker} → MarkerStands text at marker → line_after text at ≤ place → NoMarker text (line_after text at) place → file ≡ Some (name_of at marker)
      → number ≡ marker.number + (newlines_before text place - newlines_before text (line_after text at)) → IsLineAt text place file number

-- the line at a place begins at the start: at the text's first byte or behind a newline, with no newline from there up
-- to the place
pub record IsLineStart (text : List ℕ) (place start : ℕ) : Type 0 where
  pub before : start ≤ place
  pub fresh : (start ≡ 0) ⊎ (begins 10 (drop (start - 1) text) ≡ true)
  pub same_line : newlines_before text start ≡ newlines_before text place

-- where the byte at a place stands: its file and line, and a column that is 1 more than the bytes before it on its line
pub record IsPlace (text : List ℕ) (at : ℕ) (place : Place) : Type 0 where
  pub line : IsLineAt text at place.file place.line
  pub column : (start : ℕ) × IsLineStart text at start × (place.column ≡ at - start + 1)
