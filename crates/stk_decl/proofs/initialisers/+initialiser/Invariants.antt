use Rattle.std.proofs.Common.{◌≡◌, ◌+◌, ◌*◌, ◌-◌, map}
use Rattle.stk_tree.specs.Syntax as s
use Rattle.stk_tree.specs.View.{view_item}
use Rattle.stk_grammar.specs.DeclarationReading.{initialiser_at, item_at, items_at, more_items_at, path_at}
use Rattle.stk_expr.specs.Fronts.{in_front}
use Rattle.stk_ctype.specs.Named.{named}
use Rattle.stk_decl.specs.Rows.{paired}
use Rattle.stk_decl.proofs.initialisers.+initialiser.Given as goal

abbrev pub decreases-initialiser : goal.decreases-initialiser
decreases-initialiser l = 4 * l.room

abbrev pub decreases-items : goal.decreases-items
decreases-items l = 4 * l.room + 2

abbrev pub decreases-item : goal.decreases-item
decreases-item l = 4 * l.room + 1

abbrev pub invariant-items-loop-turn : goal.invariant-items-loop-turn
invariant-items-loop-turn l =
    in_front (paired s.then_item) (map view_item l.list.items) (more_items_at (item_at (path_at (named l.bytes l.names) l.room) (initialiser_at (named l.bytes l.names) l.room)) (l._turn-end - l._turn) l.rest) ≡ items_at (item_at (path_at (named l.bytes l.names) l.room) (initialiser_at (named l.bytes l.names) l.room)) l.fn.lexemes
