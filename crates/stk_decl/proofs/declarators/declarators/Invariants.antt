use Rattle.std.proofs.Common.{◌≡◌, ◌-◌, map}
use Rattle.stk_tree.specs.Syntax as s
use Rattle.stk_tree.specs.View.{view_declarator}
use Rattle.stk_grammar.specs.DeclarationReading.{declarators_at, more_declarators_at}
use Rattle.stk_expr.specs.Fronts.{in_front}
use Rattle.stk_ctype.specs.Named.{named}
use Rattle.stk_decl.specs.Places.{declarator_in}
use Rattle.stk_decl.proofs.declarators.declarators.Given as goal

abbrev pub invariant-loop-turn : goal.invariant-loop-turn
invariant-loop-turn l =
    in_front s.then_declarator (map view_declarator l.list.items) (more_declarators_at (declarator_in l.place (named l.bytes l.names) l.room) (l._turn-end - l._turn) l.rest) ≡ declarators_at (declarator_in l.place (named l.bytes l.names) l.room) l.fn.lexemes
