-- What the definition says, whoever reads: one unit, and what the reader's answers mean.
use Rattle.std.proofs.Common.{◌≡◌, Bool, List, Some, None, sym, ap, ◌∙◌}
use Rattle.stk_base.specs.declared.span.Span.{Span}
use Rattle.stk_tree.specs.declared.fixed.Lexeme.{Lexeme}
use Rattle.stk_tree.specs.Syntax.{UnitTree}
use Rattle.stk_grammar.proofs.Operators.{some_is}
use Rattle.stk_tree.specs.Unlaid.{unlaid_unit}
use Rattle.stk_grammar.specs.StatementReading.{unit_at, unit_within}
use Rattle.stk_grammar.specs.Units.{IsUnit, OneUnit}
use Rattle.stk_grammar.proofs.Units.{unit_reads, unit_sound}

-- a unit, and what the reader finds
pub found_of_unit : (named : Span → Bool) (ts : List Lexeme) (u : UnitTree) → IsUnit named ts u → unit_at named ts ≡ Some (unlaid_unit u)
found_of_unit named ts u h = ap (unit_within named 400) h.tokens ∙ unit_reads u named 400 h.placed h.fits h.nesting

pub unit_of_found : (named : Span → Bool) (ts : List Lexeme) (u : UnitTree) → unit_at named ts ≡ Some u → IsUnit named ts u
unit_of_found named ts u e =
    let p = unit_sound named 400 ts u e in
    record { tokens = p.text; placed = p.placed; fits = p.fits; nesting = p.low }

-- no unit is these tokens where the reader finds none
pub none_of_none : (named : Span → Bool) (ts : List Lexeme) → unit_at named ts ≡ None → (u : UnitTree) → IsUnit named ts u → ⊥
none_of_none named ts e u h = let k = found_of_unit named ts u h in cc (sym e ∙ k)

-- what the reader finds has no record of its nodes
pub found_unlaid : (named : Span → Bool) (ts : List Lexeme) (u : UnitTree) → unit_at named ts ≡ Some u → unlaid_unit u ≡ u
found_unlaid named ts u e = some_is (unlaid_unit u) u (sym (found_of_unit named ts u (unit_of_found named ts u e)) ∙ e)

pub one_unit : OneUnit
one_unit named ts x y h k = some_is (unlaid_unit x) (unlaid_unit y) (sym (found_of_unit named ts x h) ∙ found_of_unit named ts y k)
