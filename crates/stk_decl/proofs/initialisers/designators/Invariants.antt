use Rattle.std.proofs.Common.{◌≡◌, ◌-◌, suc, length, map}
use Rattle.stk_tree.specs.Nesting.{designators_nesting}
use Rattle.stk_tree.specs.Syntax as s
use Rattle.stk_tree.specs.View.{designators, view_designator}
use Rattle.stk_grammar.specs.DeclarationReading.{designator_at, designators_at}
use Rattle.stk_expr.specs.Fronts.{in_front}
use Rattle.stk_ctype.specs.Named.{named}
use Rattle.stk_decl.proofs.initialisers.designators.Given as goal

abbrev pub invariant-loop-turn : goal.invariant-loop-turn
invariant-loop-turn l = record {
  same : in_front s.then_designator (map view_designator l.list.items) (designators_at (designator_at (named l.bytes l.names) l.room) (l.turn-end - l.turn) l.rest) ≡ designators_at (designator_at (named l.bytes l.names) l.room) (suc (length l.fn.lexemes)) l.fn.lexemes;
  count : length l.list.items ≡ l.turn;
  nesting : l.nesting ≡ designators_nesting (designators (map view_designator l.list.items));
}
