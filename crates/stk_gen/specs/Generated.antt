-- The text that a number generates.
use Rattle.std.specs.Prelude.{ℕ, zero, suc, ◌+◌, List, [], ◌++◌}
use Rattle.stk_gen.specs.Drawing.{next_state, drawn}
use Rattle.stk_gen.specs.Forms.{form_of, function_line}

-- the line of the function at a place, whose form and constant are drawn from a state on
unfoldable pub line_by : ℕ → ℕ → List ℕ
line_by state place = function_line (form_of (drawn 6 (next_state state))) place (1 + drawn 100 (next_state (next_state state)))

-- the state before the draws of the function at a place: each function before it took two
unfoldable pub state_before : ℕ → ℕ → ℕ
state_before number zero = number
state_before number (suc place) = next_state (next_state (state_before number place))

-- the lines of so many functions, from f0 on
unfoldable pub source_of : ℕ → ℕ → List ℕ
source_of number zero = []
source_of number (suc place) = source_of number place ++ line_by (state_before number place) place
