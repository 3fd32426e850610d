use Rattle.std.proofs.Common.{◌≡◌, ◌++◌, drop}
use Rattle.stk_ctype.specs.Structs.{structs_of, offsets_behind}
use Rattle.stk_ctype.proofs.Placing.{ArePlaced}
use Rattle.stk_ctype.proofs.names.Names.lay_out.Given as goal

abbrev pub invariant-loop-member : goal.invariant-loop-member
invariant-loop-member l = record {
  placed : ArePlaced (structs_of l.self) l.members (drop l.member-index l.members) l.behind l.alignment;
  offsets : l.offsets.items ++ offsets_behind (structs_of l.self) l.behind (drop l.member-index l.members) ≡ offsets_behind (structs_of l.self) 0 l.members;
}
