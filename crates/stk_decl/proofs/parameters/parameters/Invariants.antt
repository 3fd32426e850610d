use Rattle.std.proofs.Common.{◌≡◌, ◌-◌, ◌≤◌, map}
use Rattle.stk_tree.specs.Nesting.{parameters_nesting}
use Rattle.stk_tree.specs.Syntax as s
use Rattle.stk_tree.specs.View.{parameters, view_parameter}
use Rattle.stk_grammar.specs.DeclarationReading.{more_parameters_at, parameter_at}
use Rattle.stk_expr.specs.Fronts.{in_front}
use Rattle.stk_ctype.specs.Named.{named}
use Rattle.stk_decl.specs.Rows.{first_of, paired}
use Rattle.stk_decl.proofs.parameters.parameters.Given as goal

abbrev pub invariant-loop-turn : goal.invariant-loop-turn
invariant-loop-turn l = record {
  same : in_front (paired s.then_parameter) (map view_parameter l.list.items) (more_parameters_at (parameter_at (named l.bytes l.names) l.room) (l._turn-end - l._turn) l.rest) ≡ first_of (paired s.then_parameter) (parameter_at (named l.bytes l.names) l.room) (more_parameters_at (parameter_at (named l.bytes l.names) l.room)) l.fn.lexemes;
  nesting : (l.nesting ≡ parameters_nesting (parameters (map view_parameter l.list.items))) × (l.nesting ≤ l.room);
}
