use Rattle.std.specs.Char.{is_ascii_digit}
use Rattle.stk_lex.proofs.Digits.{run_passes}
use Rattle.stk_lex.proofs.markers.marker_of.Goals as goal

pub number-requires-clause-digits : goal.number-requires-clause-digits
number-requires-clause-digits c =
    rw (c.split_at-2.ensures.front, c.digits-count.ensures.value) (run_passes is_ascii_digit c.split_at.result.1.now)
