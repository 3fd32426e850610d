use Rattle.std.proofs.Common.{drop}
use Rattle.stk_ctype.specs.Structs.{structs_of}
use Rattle.stk_ctype.proofs.Placing.{ArePlaced}
use Rattle.stk_ctype.proofs.names.Names.layout.Given as goal

abbrev pub invariant-loop-member : goal.invariant-loop-member
invariant-loop-member l = ArePlaced (structs_of l.self) l.members (drop l.member-index l.members) l.behind l.alignment
