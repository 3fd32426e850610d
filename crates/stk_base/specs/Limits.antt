-- How large an input may be.
use Rattle.std.specs.Prelude.{ℕ}

-- the most bytes that an input may have, and so the most tokens
abbrev pub most_bytes : ℕ
most_bytes = 16777216
