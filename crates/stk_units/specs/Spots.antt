-- Where bytes stand.
use Rattle.std.specs.Prelude.{ℕ, min, List, length}
use Rattle.std.specs.Option.{option_map}
use Rattle.stk_base.specs.declared.token.Place.{Place}
use Rattle.stk_base.specs.Text.{text_of}
use Rattle.stk_lex.specs.Placing.{place_of}
use Rattle.stk_records.specs.declared.line.Spot.{Spot}

-- where a byte stands; behind the input it is the place of its end
abbrev pub spot_at : List ℕ → ℕ → Spot
spot_at bytes at =
    let p : Place = place_of bytes (min (length bytes) at) in
    record { file = option_map (λ name. text_of bytes name) p.file; line = p.line; column = p.column }
