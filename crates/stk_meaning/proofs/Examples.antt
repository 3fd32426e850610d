-- A lawful finding, by which the definitions can be checked: a branch that is entered only where a division by zero
-- came before.
use Rattle.std.proofs.Common.{◌≡◌, Bool, true, false, List, [], ◌∷◌, Some, None, ℤ, pos, refl}
use Rattle.stk_ctype.specs.declared.kind.IntKind.TheVariants as kind
use Rattle.stk_ctype.specs.Types.{integer_type}
use Rattle.stk_tree.specs.declared.fixed.Fixed.TheVariants as fixed
use Rattle.stk_tree.specs.declared.expression.BinaryOp.TheVariants as binary
use Rattle.stk_tree.specs.Syntax.{FunctionTree}
use Rattle.stk_tree.specs.Syntax as s
use Rattle.stk_numbers.specs.declared.conditions.UbKind.TheVariants as ub
use Rattle.stk_meaning.specs.Typings.{Typing}
use Rattle.stk_meaning.proofs.Told.{told, n, at, all_kinds}
use Rattle.stk_numbers.specs.declared.conditions.CandKind.TheVariants.{Arm}
use Rattle.stk_numbers.specs.declared.conditions.Candidate.{Candidate}
use Rattle.stk_numbers.specs.declared.conditions.Condition.{Condition}
use Rattle.stk_meaning.specs.Executions.{execution}
use Rattle.stk_meaning.specs.declared.finding.Finding.TheVariants.{Unstable}
use Rattle.stk_meaning.specs.Hits.{is_hit_free}
use Rattle.stk_meaning.specs.Findings.{Subject, Answers, no_more, member, no_member, IsLawful, shown_need}
use Rattle.stk_meaning.specs.PathFindings.{function_subject}
use Rattle.stk_meaning.proofs.HitLemmas.{found, finds}

-- `int f(void) { int y = 10 / 0; if (y == 0) return 1; return y; }`
abbrev divided_typing : Typing
divided_typing = told (102 ∷ 49 ∷ 48 ∷ 48 ∷ 121 ∷ 49 ∷ []) ((3, (integer_type kind.Int)) ∷ (4, (integer_type kind.Int)) ∷ (5, (integer_type kind.Int)) ∷ (6, (integer_type kind.Int)) ∷ (7, (integer_type kind.Int)) ∷ (8, (integer_type kind.Int)) ∷ (9, (integer_type kind.Int)) ∷ (10, (integer_type kind.Int)) ∷ (13, (integer_type kind.Int)) ∷ []) ((7, 6) ∷ (13, 6) ∷ []) ((3, (pos 10)) ∷ (4, (pos 0)) ∷ (8, (pos 0)) ∷ (10, (pos 1)) ∷ []) ([]) ([]) ([]) ([])

abbrev divided_tree : FunctionTree
divided_tree = (s.function None (s.base (n 0) (s.words (fixed.Int ∷ []))) (s.declarator (n 1) 0 (Some (at 0 1)) s.void_parameters s.no_initialiser) (s.statement (n 15) (s.block (s.then_part (s.local (s.declaration None (s.base (n 2) (s.words (fixed.Int ∷ []))) (s.then_declarator (s.declarator (n 6) 0 (Some (at 4 5)) (s.arrays s.no_dimensions) (s.some_initialiser (s.plain (s.expression (n 5) (s.binary binary.Div (s.expression (n 3) (s.number (at 1 3))) (s.expression (n 4) (s.number (at 3 4)))))))) s.no_declarators))) (s.then_part (s.run (s.statement (n 12) (s.if_statement (s.expression (n 9) (s.binary binary.Eq (s.expression (n 7) (s.name (at 4 5))) (s.expression (n 8) (s.number (at 3 4))))) (s.statement (n 11) (s.return_statement (s.some_expression (s.expression (n 10) (s.number (at 5 6)))))) s.no_statement))) (s.then_part (s.run (s.statement (n 14) (s.return_statement (s.some_expression (s.expression (n 13) (s.name (at 4 5))))))) s.no_parts))))))

-- no query is given up
abbrev subject : Subject
subject = function_subject divided_typing all_kinds divided_tree (λ c set. ⊥)

abbrev branch : Candidate
branch = record { node = 11; kind = Arm }

abbrev overflow : Condition
overflow = record { node = 5; kind = ub.Overflow }

abbrev zero_division : Condition
zero_division = record { node = 5; kind = ub.Zero }

-- no test is both
differ : (b : Bool) → b ≡ false → b ≡ true → ⊥
differ true p q = absurd cc
differ false p q = absurd cc

-- the only map has no number
answer : (set : List Condition) → is_hit_free set branch (subject.run []) ≡ true → Answers subject branch set []
answer set hit = record { valid = record { covers = tt; apart = refl }; hits = found set branch (subject.run []) hit }

none : (set : List Condition) → is_hit_free set branch (subject.run []) ≡ false → (start : List ℤ) → Answers subject branch set start → ⊥
none set clear [] a = differ (is_hit_free set branch (subject.run [])) clear (finds set branch (subject.run []) a.hits)
none set clear (x ∷ xs) a = absurd a.valid.covers

lawful : IsLawful subject branch (Unstable (record { numbers = [] }) (shown_need zero_division [] ∷ []))
lawful = record {
  unstable = record { start = []; hit = answer [] refl; none_free = none (overflow ∷ zero_division ∷ []) refl };
  hit = record { answers = answer [] refl; first = λ other before a. absurd before };
  minimal =
      no_member (member no_more (record { answers = answer (overflow ∷ []) refl; first = λ other before a. absurd before }))
      (none (zero_division ∷ []) refl);
  path_sufficient = none (zero_division ∷ []) refl;
  sufficient = record { by = λ start memory answers turns valid hit. differ _ refl (finds (zero_division ∷ []) branch (execution divided_typing all_kinds divided_tree start memory answers turns) hit) };
}
