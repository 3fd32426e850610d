use Rattle.std.proofs.Common.{◌≡◌, ◌++◌, map, drop}
use Rattle.stk_bundle.specs.Claims.{need_line}
use Rattle.stk_bundle.proofs.claims.add_needs.Given as goal

abbrev pub invariant-loop-need : goal.invariant-loop-need
invariant-loop-need l = l.lines.items ++ map (need_line l.keys) (drop l.need-index l.needs) ≡ l.initial.lines.items ++ map (need_line l.keys) l.needs
