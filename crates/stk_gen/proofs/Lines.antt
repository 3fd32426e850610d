-- The lines of a text, from one to the next, and how long they are.
use Rattle.std.proofs.Common.{◌≡◌, ℕ, zero, suc, ◌+◌, ◌*◌, ◌<◌, ◌≤◌, List, [], ◌++◌, length, refl, add-one, arith, lit≤, lit<}
use Rattle.std.specs.Prelude.{codes, decimal}
use Rattle.std.proofs.lemmas.Fmt.{length-decimal-le}
use Rattle.std.proofs.lemmas.List.{length-append}
use Rattle.stk_gen.specs.declared.forms.Form.{Form}
use Rattle.stk_gen.specs.declared.forms.Form.TheVariants.{Division, SignedSum, UnsignedSum, PointerSum, Dereference, Counting}
use Rattle.stk_gen.specs.Drawing.{next_state, drawn}
use Rattle.stk_gen.specs.Forms.{form_of, before_constant, behind_constant, function_line}
use Rattle.stk_gen.specs.Generated.{line_by, state_before, source_of}
use Rattle.stk_gen.proofs.Sequence.{drawn_below}

-- before the first line
pub no_line : (number : ℕ) → source_of number 0 ≡ []
unfolding source_of
no_line number = refl

pub no_draw : (number : ℕ) → state_before number 0 ≡ number
unfolding state_before
no_draw number = refl

-- one line more
pub next_line : (number place : ℕ) → source_of number (place + 1) ≡ source_of number place ++ line_by (state_before number place) place
unfolding source_of
next_line number place = rw add-one refl

pub next_draws : (number place : ℕ) → state_before number (place + 1) ≡ next_state (next_state (state_before number place))
unfolding state_before
next_draws number place = rw add-one refl

-- the parts of a line that a form has
spelled : (form : Form) → length (before_constant form) + length (behind_constant form) ≤ 100
spelled Division = lit≤ tt
spelled SignedSum = lit≤ tt
spelled UnsignedSum = lit≤ tt
spelled PointerSum = lit≤ tt
spelled Dereference = lit≤ tt
spelled Counting = lit≤ tt

-- five texts, one behind the other
five : (a b c d e : List ℕ) → length (a ++ b ++ c ++ d ++ e) ≡ length a + length b + length c + length d + length e
five a b c d e = simp length-append

short_line : (form : Form) (place constant : ℕ) → place ≤ 1000 → constant ≤ 100 → length (function_line form place constant) ≤ 128
short_line form place constant few small =
    let p : length (decimal place) ≤ 4 = length-decimal-le 4 place (lit< tt) (omega arith) (omega arith) in
    let q : length (decimal constant) ≤ 3 = length-decimal-le 3 constant (lit< tt) (omega arith) (omega arith) in
    let s = spelled form in
    let w = five (codes "int f") (decimal place) (before_constant form) (decimal constant) (behind_constant form) in
    omega arith

short_by : (state place : ℕ) → place ≤ 1000 → length (line_by state place) ≤ 128
unfolding line_by
short_by state place few =
    let below : drawn 100 (next_state (next_state state)) < 100 = drawn_below 100 (next_state (next_state state)) (lit< tt) in
    short_line (form_of (drawn 6 (next_state state))) place (1 + drawn 100 (next_state (next_state state))) few (omega arith)

short_lines : (number functions : ℕ) → functions ≤ 1000 → length (source_of number functions) ≤ 128 * functions
unfolding source_of
short_lines number zero few = lit≤ tt
short_lines number (suc place) few =
    let before : length (source_of number place) ≤ 128 * place = short_lines number place (omega arith) in
    let line : length (line_by (state_before number place) place) ≤ 128 = short_by (state_before number place) place (omega arith) in
    let both = length-append (source_of number place) (line_by (state_before number place) place) in
    omega arith

-- so many lines are few bytes
pub within : (number functions : ℕ) → functions ≤ 1000 → length (source_of number functions) ≤ 16777216
within number functions few = let short = short_lines number functions few in omega arith

-- what a loop over the lines goes by
pub ruleset text_steps = (no_line, no_draw, next_line, next_draws, within)
