-- Which candidates are marked as hit.
use Rattle.std.specs.Prelude.{Bool, false, List, get_or}
use Rattle.stk_numbers.specs.declared.conditions.CandKind.{CandKind}
use Rattle.stk_numbers.specs.declared.conditions.CandKind.TheVariants.{Arm, AlwaysTrue, AlwaysFalse, Algebra}
use Rattle.stk_numbers.specs.declared.conditions.Candidate.{Candidate}
use Rattle.stk_meaning.specs.declared.entry.Entry.{Entry}
use Rattle.stk_meaning.specs.declared.entry.Entry.TheVariants.{Ub, Enter, Seen}
use Rattle.stk_meaning.specs.Hits.{is_arm, seen_hits}
use Rattle.stk_replaying.specs.declared.marks.HitKinds.{HitKinds}
use Rattle.stk_replaying.specs.declared.marks.Marks.{Marks}

-- whether an entry hits a candidate of this kind that is at the entry's node
abbrev pub hits_at_node : CandKind → Entry → Bool
hits_at_node kind (Ub k) = false
hits_at_node kind (Enter n) = is_arm kind
hits_at_node kind (Seen n truth other) = seen_hits kind truth other

-- whether this kind is among those that are hit
abbrev pub has_kind : HitKinds → CandKind → Bool
has_kind kinds Arm = kinds.arm
has_kind kinds AlwaysTrue = kinds.always_true
has_kind kinds AlwaysFalse = kinds.always_false
has_kind kinds Algebra = kinds.algebra

-- none is
abbrev pub no_kinds : HitKinds
no_kinds = record { arm = false; always_true = false; always_false = false; algebra = false }

-- whether a candidate is marked at its node; nothing is marked at nodes that have no place
abbrev pub is_marked_in : List HitKinds → Candidate → Bool
is_marked_in nodes c = has_kind (get_or nodes c.node no_kinds) c.kind

abbrev pub is_marked : Marks → Candidate → Bool
is_marked marks c = is_marked_in marks.nodes.items c
