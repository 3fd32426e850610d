use Rattle.std.proofs.Common.{◌≡◌, ◌++◌, length, drop}
use Rattle.stk_ctype.specs.Facts.{member_words}
use Rattle.stk_ctype.specs.Index.{IsIndexOf}
use Rattle.stk_ctype.proofs.sizes.places_of.Given as goal

abbrev pub invariant-loop-member : goal.invariant-loop-member
invariant-loop-member l = record {
  front : l.rest ++ drop (length l.rest) l.members ≡ l.members;
  words : IsIndexOf l.places (member_words (length l.rest) (drop (length l.rest) l.members));
}

abbrev pub decreases-loop-member : goal.decreases-loop-member
decreases-loop-member l = length l.rest
