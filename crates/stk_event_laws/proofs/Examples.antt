-- A function whose events, candidates and trace are told in full, as a test of the definitions.
use Rattle.std.proofs.Common.{◌≡◌, false, [], ◌∷◌, Some, None, pos, refl}
use Rattle.stk_ctype.specs.declared.kind.IntKind.TheVariants as kind
use Rattle.stk_ctype.specs.Types.{integer_type}
use Rattle.stk_tree.specs.declared.fixed.Fixed.TheVariants as fixed
use Rattle.stk_tree.specs.declared.expression.BinaryOp.TheVariants as binary
use Rattle.stk_tree.specs.Syntax.{FunctionTree}
use Rattle.stk_tree.specs.Syntax as s
use Rattle.stk_numbers.specs.declared.conditions.CandKind.TheVariants.{Arm, AlwaysTrue, AlwaysFalse, Algebra}
use Rattle.stk_numbers.specs.declared.conditions.UbKind.TheVariants as ub
use Rattle.stk_meaning.specs.Typings.{Typing}
use Rattle.stk_meaning.specs.Lists.{candidate, candidates}
use Rattle.stk_meaning.specs.Paths.{path}
use Rattle.stk_meaning.proofs.Told.{told, n, at, all_kinds}
use Rattle.stk_values.specs.Walks.{is_violated, is_hit}
use Rattle.stk_walking.specs.declared.state.Event.TheVariants.{Broken}
use Rattle.stk_walking.specs.Events.{hit}
use Rattle.stk_event_laws.specs.Listed.{body_events}
use Rattle.stk_event_laws.specs.Positions.{listed_events}

-- `int f(int a) { if ((a)) return a + 1 < a; return 0; }`
abbrev summed_typing : Typing
summed_typing = told (97 ∷ 102 ∷ 49 ∷ 48 ∷ []) ((2, (integer_type kind.Int)) ∷ (5, (integer_type kind.Int)) ∷ (6, (integer_type kind.Int)) ∷ (7, (integer_type kind.Int)) ∷ (8, (integer_type kind.Int)) ∷ (9, (integer_type kind.Int)) ∷ (10, (integer_type kind.Int)) ∷ (11, (integer_type kind.Int)) ∷ (14, (integer_type kind.Int)) ∷ []) ((5, 2) ∷ (7, 2) ∷ (10, 2) ∷ []) ((8, (pos 1)) ∷ (14, (pos 0)) ∷ []) ([]) ([]) ([]) ([])

abbrev summed_tree : FunctionTree
summed_tree = (s.function None (s.base (n 0) (s.words (fixed.Int ∷ []))) (s.declarator (n 4) 0 (Some (at 1 2)) (s.with_parameters (s.then_parameter (s.parameter (n 3) (s.base (n 1) (s.words (fixed.Int ∷ []))) (s.declarator (n 2) 0 (Some (at 0 1)) (s.arrays s.no_dimensions) s.no_initialiser)) s.no_parameters) false) s.no_initialiser) (s.statement (n 16) (s.block (s.then_part (s.run (s.statement (n 13) (s.if_statement (s.expression (n 6) (s.paren (s.expression (n 5) (s.name (at 0 1))))) (s.statement (n 12) (s.return_statement (s.some_expression (s.expression (n 11) (s.binary binary.Lt (s.expression (n 9) (s.binary binary.Add (s.expression (n 7) (s.name (at 0 1))) (s.expression (n 8) (s.number (at 2 3))))) (s.expression (n 10) (s.name (at 0 1)))))))) s.no_statement))) (s.then_part (s.run (s.statement (n 15) (s.return_statement (s.some_expression (s.expression (n 14) (s.number (at 3 4))))))) s.no_parts)))))

summed_events : body_events summed_typing all_kinds summed_tree ≡ hit 5 AlwaysTrue ∷ hit 5 AlwaysFalse ∷ hit 12 Arm ∷ Broken (record { node = 9; kind = ub.Overflow }) ∷ hit 11 AlwaysTrue ∷ hit 11 AlwaysFalse ∷ hit 11 Algebra ∷ []
summed_events = refl

summed_candidates : candidates summed_typing summed_tree ≡ candidate 5 AlwaysTrue ∷ candidate 5 AlwaysFalse ∷ candidate 11 AlwaysTrue ∷ candidate 11 AlwaysFalse ∷ candidate 11 Algebra ∷ candidate 12 Arm ∷ []
summed_candidates = refl

-- the largest `int`: the branch is entered, the sum overflows, and the comparison isn't what `1 < 0` is
summed_trace : listed_events (candidates summed_typing summed_tree) (path summed_typing all_kinds summed_tree (pos 2147483647 ∷ [])) ≡ is_hit 1 ∷ is_hit 5 ∷ is_violated (record { node = 9; kind = ub.Overflow }) ∷ is_hit 3 ∷ is_hit 4 ∷ []
summed_trace = refl

-- 0: the branch isn't entered
summed_other : listed_events (candidates summed_typing summed_tree) (path summed_typing all_kinds summed_tree (pos 0 ∷ [])) ≡ is_hit 0 ∷ []
summed_other = refl
