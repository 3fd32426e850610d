use Rattle.std.proofs.Common.{◌≡◌, ◌+◌, ◌*◌, ◌-◌, map}
use Rattle.stk_tree.specs.Syntax as s
use Rattle.stk_tree.specs.View.{view_member}
use Rattle.stk_grammar.specs.DeclarationReading.{full_base_at, member_at, members_at, more_members_at}
use Rattle.stk_expr.specs.Fronts.{in_front}
use Rattle.stk_ctype.specs.Named.{named}
use Rattle.stk_decl.proofs.bases.+base.Given as goal

abbrev pub decreases-full_base : goal.decreases-full_base
decreases-full_base l = 8 * l.room

abbrev pub decreases-reserved_base : goal.decreases-reserved_base
decreases-reserved_base l = 8 * l.room + 4

abbrev pub decreases-struct_base : goal.decreases-struct_base
decreases-struct_base l = 8 * l.room + 3

abbrev pub decreases-members : goal.decreases-members
decreases-members l = 8 * l.room + 2

abbrev pub decreases-member : goal.decreases-member
decreases-member l = 8 * l.room + 1

abbrev pub invariant-members-loop-turn : goal.invariant-members-loop-turn
invariant-members-loop-turn l =
    in_front s.then_member (map view_member l.list.items) (more_members_at (member_at (named l.bytes l.names) l.room (full_base_at (named l.bytes l.names) l.room)) (l._turn-end - l._turn) l.rest) ≡ members_at (member_at (named l.bytes l.names) l.room (full_base_at (named l.bytes l.names) l.room)) l.fn.lexemes
