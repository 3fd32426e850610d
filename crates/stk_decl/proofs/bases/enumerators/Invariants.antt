use Rattle.std.proofs.Common.{◌≡◌, ◌-◌, map}
use Rattle.stk_tree.specs.Syntax as s
use Rattle.stk_tree.specs.View.{view_enumerator}
use Rattle.stk_grammar.specs.DeclarationReading.{enumerator_at, enumerators_at, more_enumerators_at}
use Rattle.stk_expr.specs.Fronts.{in_front}
use Rattle.stk_ctype.specs.Named.{named}
use Rattle.stk_decl.specs.Rows.{paired}
use Rattle.stk_decl.proofs.bases.enumerators.Given as goal

abbrev pub invariant-loop-turn : goal.invariant-loop-turn
invariant-loop-turn l =
    in_front (paired s.then_enumerator) (map view_enumerator l.list.items) (more_enumerators_at (enumerator_at (named l.bytes l.names) l.room) (l._turn-end - l._turn) l.rest) ≡ enumerators_at (enumerator_at (named l.bytes l.names) l.room) l.fn.lexemes
