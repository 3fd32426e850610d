use Rattle.std.proofs.Common.{◌-◌, ◌≤◌, length}
use Rattle.std.specs.List.{All}
use Rattle.stk_lex.specs.Stands.{IsStand}
use Rattle.stk_lex.proofs.places.Places.new.Given as goal

abbrev pub invariant-loop-stand : goal.invariant-loop-stand
invariant-loop-stand l = record {
  stand : IsStand l.bytes l.stand;
  stands : All (IsStand l.bytes) l.stands.items;
  kept : l.kept ≤ l.stand.at;
}

abbrev pub decreases-loop-stand : goal.decreases-loop-stand
decreases-loop-stand l = length l.bytes - l.stand.at
