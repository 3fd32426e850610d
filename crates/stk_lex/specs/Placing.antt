-- Where a byte of a text stands, read from left to right. That this is its place is proved of `place_of`.
use Rattle.std.specs.Prelude.{ℕ, zero, suc, ◌+◌, ◌-◌, cond, ◌&&◌, ◌==◌, nat_lt, nat_le, List, length, take, drop, Option, Some, None}
use Rattle.stk_base.specs.declared.token.Place.{Place}
use Rattle.stk_lex.specs.declared.markers.Marker.{Marker}
use Rattle.stk_lex.specs.declared.placing.Line.{Line}
use Rattle.stk_lex.specs.declared.placing.Stand.{Stand}
use Rattle.stk_lex.specs.Gaps.{line, begins, gap}
use Rattle.stk_lex.specs.Cut.{begins_quote, begins_comment}
use Rattle.stk_lex.specs.Lengths.{character_length, text_length, form_length}
use Rattle.stk_lex.specs.MarkerReading.{marker_of}
use Rattle.stk_lex.specs.Place.{name_of}

-- a number, or another one where it is 0
abbrev pub or_else : ℕ → ℕ → ℕ
or_else zero b = b
or_else (suc a) b = suc a

-- how many bytes the token has that begins a text, where no gap begins it
unfoldable pub first_length : List ℕ → ℕ
first_length bytes =
    cond (begins_quote bytes && character_length bytes == 0 && text_length bytes == 0) (line bytes)
    (cond (begins_comment bytes) (length bytes) (or_else (form_length bytes) 1))

-- how many bytes the part has that begins at a place: a gap, or else a token
unfoldable pub part_length : List ℕ → ℕ → ℕ
part_length text at = or_else (gap text at) (first_length (drop at text))

-- the line marker at a place where a part begins, if one is there
unfoldable pub marker_at : List ℕ → ℕ → Option Marker
marker_at text at =
    cond (nat_lt 0 (gap text at) && nat_lt (at + gap text at) (length text) && begins 35 (drop at text)) (marker_of (drop 1 (take (gap text at) (drop at text)))) None

-- the line one byte on
unfoldable pub next_line : List ℕ → ℕ → Line → Line
next_line text at here = cond (begins 10 (drop at text)) (record { file = here.file; number = here.number + 1; start = at + 1 }) here

-- the line n bytes on
unfoldable pub line_along : List ℕ → ℕ → ℕ → Line → Line
line_along text at zero here = here
line_along text at (suc n) here = line_along text (at + 1) n (next_line text at here)

-- the stand behind the part at a stand, which is no marker, or this one; behind a marker also its newline is passed
unfoldable pub stand_behind : List ℕ → Stand → Option Marker → Stand
stand_behind text stand None = record { at = stand.at + part_length text stand.at; line = line_along text stand.at (part_length text stand.at) stand.line }
stand_behind text stand (Some marker) = record {
  at = stand.at + part_length text stand.at + 1;
  line = record { file = Some (name_of stand.at marker); number = marker.number; start = stand.at + part_length text stand.at + 1 };
}

unfoldable pub next_stand : List ℕ → Stand → Stand
next_stand text stand = stand_behind text stand (marker_at text stand.at)

-- the stand at the first byte
abbrev pub first_stand : Stand
first_stand = record { at = 0; line = record { file = None; number = 1; start = 0 } }

-- the last stand up to a place, in so many steps at most
unfoldable pub stand_up_to : List ℕ → ℕ → ℕ → Stand → Stand
stand_up_to text at zero stand = stand
stand_up_to text at (suc n) stand = cond (nat_lt stand.at at && nat_le (next_stand text stand).at at) (stand_up_to text at n (next_stand text stand)) stand

-- the place of a byte on a line
abbrev pub place_on : ℕ → Line → Place
place_on at here = record { file = here.file; line = here.number; column = at - here.start + 1 }

-- the place of a byte, from the last stand up to it
abbrev pub place_behind : List ℕ → ℕ → Stand → Place
place_behind text at stand = place_on at (line_along text stand.at (at - stand.at) stand.line)

-- the place of a byte
unfoldable pub place_of : List ℕ → ℕ → Place
place_of text at = place_behind text at (stand_up_to text at at first_stand)
