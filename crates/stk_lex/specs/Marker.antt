-- The line markers that preprocessors leave: `# 12 "file.c"` and anything behind it.
use Rattle.std.specs.Prelude.{◌≡◌, ℕ, ◌+◌, ◌<◌, ◌≤◌, Bool, true, false, ◌||◌, ◌==◌, List, ◌∷◌, ◌++◌, length}
use Rattle.std.specs.List.{list_all}
use Rattle.std.specs.Char.{is_ascii_digit}
use Rattle.stk_base.specs.Text.{decimal}
use Rattle.stk_lex.specs.declared.markers.Marker.{Marker}
use Rattle.stk_lex.specs.Classes.{closes}

-- a space or a tab
abbrev pub is_space : ℕ → Bool
is_space b = b == 32 || b == 9

-- one or more spaces and tabs
abbrev pub AreSpaces : List ℕ → Type 0
AreSpaces bs = (0 < length bs) × (list_all is_space bs ≡ true)

-- one to nine digits
abbrev pub AreDigits : List ℕ → Type 0
AreDigits bs = (0 < length bs) × (length bs ≤ 9) × (list_all is_ascii_digit bs ≡ true)

-- A line is this marker: `#`, spaces, digits, spaces, `"`, a name with the quote that closes it, and anything. The
-- number is that of the digits, and the name stands, without its quotes, where the marker says, counted from the `#`.
pub record IsMarker (line : List ℕ) (marker : Marker) : Type 0 where
  pub front : List ℕ
  pub digits : List ℕ
  pub back : List ℕ
  pub name : List ℕ
  pub rest : List ℕ
  pub parts : line ≡ 35 ∷ (front ++ (digits ++ (back ++ 34 ∷ (name ++ rest))))
  pub are_spaces : AreSpaces front × AreSpaces back
  pub are_digits : AreDigits digits
  pub closed : closes 34 false name ≡ true
  pub number : marker.number ≡ decimal digits
  pub from : marker.from ≡ length front + length digits + length back + 2
  pub to : marker.to + 1 ≡ marker.from + length name
