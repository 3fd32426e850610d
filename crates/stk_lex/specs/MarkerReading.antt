-- How a line marker is read, from left to right.
use Rattle.std.specs.Prelude.{ℕ, suc, ◌+◌, Bool, false, cond, ◌&&◌, nat_lt, List, [], ◌∷◌, take, drop, Option, Some, None}
use Rattle.std.specs.Char.{is_ascii_digit}
use Rattle.stk_base.specs.Text.{decimal}
use Rattle.stk_lex.specs.declared.markers.Marker.{Marker}
use Rattle.stk_lex.specs.Gaps.{begins}
use Rattle.stk_lex.specs.Lengths.{closing}
use Rattle.stk_lex.specs.Marker.{is_space}

-- how many bytes at the front pass
unfoldable pub run : (ℕ → Bool) → List ℕ → ℕ
run passes [] = 0
run passes (b ∷ bs) = cond (passes b) (suc (run passes bs)) 0

-- whether there are so many spaces, digits and spaces before a name in double quotes as a marker has
abbrev pub are_parts : ℕ → ℕ → ℕ → List ℕ → Bool
are_parts front digits back rest =
    nat_lt 0 front && nat_lt 0 digits && nat_lt digits 10 && nat_lt 0 back && begins 34 rest && nat_lt 0 (closing 34 false (drop 1 rest))

-- the marker with these parts, if they are those of one
abbrev pub punctuator_with : ℕ → ℕ → ℕ → List ℕ → List ℕ → Option Marker
punctuator_with front digits back shown rest =
    cond (are_parts front digits back rest)
    (Some (record {
      number = decimal shown;
      from = front + digits + back + 2;
      to = front + digits + back + 1 + closing 34 false (drop 1 rest);
    }))
    None

-- the same, from what stands behind the spaces, and then behind the digits
abbrev pub punctuator_behind_digits : ℕ → ℕ → List ℕ → List ℕ → Option Marker
punctuator_behind_digits front digits shown rest = punctuator_with front digits (run is_space rest) shown (drop (run is_space rest) rest)

abbrev pub punctuator_behind_spaces : ℕ → List ℕ → Option Marker
punctuator_behind_spaces front rest = punctuator_behind_digits front (run is_ascii_digit rest) (take (run is_ascii_digit rest) rest) (drop (run is_ascii_digit rest) rest)

-- the line marker that a directive line is, if it is one, from what stands behind its `#`
unfoldable pub marker_of : List ℕ → Option Marker
marker_of bytes = punctuator_behind_spaces (run is_space bytes) (drop (run is_space bytes) bytes)
