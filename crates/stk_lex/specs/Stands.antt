-- What the code that finds places keeps: lines, and places where a part begins with the line there.
use Rattle.std.specs.Prelude.{ℕ, ◌+◌, ◌<◌, ◌≤◌, List, length}
use Rattle.stk_lex.specs.declared.markers.Marker.{Marker}
use Rattle.stk_lex.specs.declared.placing.Line.{Line}
use Rattle.stk_lex.specs.declared.placing.Stand.{Stand}
use Rattle.stk_lex.specs.Place.{PartBegins, MarkerStands, line_after, IsLineAt, IsLineStart}

-- a line is the one at a place, and its number is within the range of a u32: nine digits, and a newline for each byte
pub record IsLine (text : List ℕ) (at : ℕ) (line : Line) : Type 0 where
  pub numbered : IsLineAt text at line.file line.number
  pub start : IsLineStart text at line.start
  pub bound : line.number ≤ 1000000000 + at

-- a part begins at a stand, its line is the one there, and no marker before it has its line's end behind it
pub record IsStand (text : List ℕ) (stand : Stand) : Type 0 where
  pub within : stand.at ≤ length text
  pub part : PartBegins text stand.at
  pub line : IsLine text stand.at stand.line
  pub settled : (at : ℕ) (marker : Marker) → MarkerStands text at marker → at < stand.at → line_after text at ≤ stand.at
