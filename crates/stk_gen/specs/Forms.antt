-- The six forms of a generated function, and how each is spelled.
use Rattle.std.specs.Prelude.{ℕ, ◌==◌, if◌then◌else◌, List, ◌++◌, codes, decimal}
use Rattle.stk_gen.specs.declared.forms.Form.{Form}
use Rattle.stk_gen.specs.declared.forms.Form.TheVariants.{Division, SignedSum, UnsignedSum, PointerSum, Dereference, Counting}

-- the form of a number below 6; of each other number it is the last one
abbrev pub form_of : ℕ → Form
form_of n = if n == 0 then Division else (if n == 1 then SignedSum else (if n == 2 then UnsignedSum else (if n == 3 then PointerSum else (if n == 4 then Dereference else Counting))))

-- what stands between a function's name and its constant
abbrev pub before_constant : Form → List ℕ
before_constant Division = codes "(unsigned char x) { int y = "
before_constant SignedSum = codes "(int x) { if (x + "
before_constant UnsignedSum = codes "(unsigned x) { if (x + "
before_constant PointerSum = codes "(char *p, unsigned n) { if (p + n < p) return "
before_constant Dereference = codes "(int *p) { int v = *p; if (!p) return "
before_constant Counting = codes "(int n) { int i; for (i = 0; i < n; i++) if (i == "

-- what stands behind a function's constant, up to the end of its line
abbrev pub behind_constant : Form → List ℕ
behind_constant Division = codes " / x; if (x == 0) return 1; return y; }\n"
behind_constant SignedSum = codes " < x) return 1; return 0; }\n"
behind_constant UnsignedSum = codes " < x) return 1; return 0; }\n"
behind_constant PointerSum = codes "; return 0; }\n"
behind_constant Dereference = codes "; return v; }\n"
behind_constant Counting = codes ") return 1; return 0; }\n"

-- the line of a function of a form, named by its place, with a constant
abbrev pub function_line : Form → ℕ → ℕ → List ℕ
function_line form place constant = codes "int f" ++ decimal place ++ before_constant form ++ decimal constant ++ behind_constant form
