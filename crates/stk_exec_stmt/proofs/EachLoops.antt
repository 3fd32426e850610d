-- What is known of each loop of a row is known of each loop of its elements.
use Rattle.std.proofs.Common.{◌≡◌, ℕ, zero, suc, ◌<◌, List, [], ◌∷◌, length, get_or, map, sym, subst, arith}
use Rattle.stk_tree.specs.declared.statement.Part.{Part}
use Rattle.stk_tree.specs.declared.statement.Section.{Section}
use Rattle.stk_tree.specs.declared.statement.Stmt.{Stmt}
use Rattle.stk_tree.specs.Syntax.{StmtFormTree}
use Rattle.stk_tree.specs.View.{view_part, parts, view_section, sections, view_statement, statements}
use Rattle.stk_eval_expr.specs.Loops.{EachLoop, EachLoopOfStatements, EachLoopOfParts, EachLoopOfPart, EachLoopOfSections, EachLoopOfSection}

pub of_part : (P : ℕ → StmtFormTree → Type 0) (xs : List Part) (i : ℕ) (d : Part) → i < length xs → d ≡ get_or xs i d → EachLoopOfParts P (parts (map view_part xs)) → EachLoopOfPart P (view_part d)
of_part P [] i d h e a = absurd (omega arith)
of_part P (x ∷ xs) zero d h e a = subst (λ (u : Part). EachLoopOfPart P (view_part u)) (sym e) a.0
of_part P (x ∷ xs) (suc i) d h e a = let below : i < length xs = omega arith in of_part P xs i d below e a.1

pub of_statement : (P : ℕ → StmtFormTree → Type 0) (xs : List Stmt) (i : ℕ) (d : Stmt) → i < length xs → d ≡ get_or xs i d → EachLoopOfStatements P (statements (map view_statement xs)) → EachLoop P (view_statement d)
of_statement P [] i d h e a = absurd (omega arith)
of_statement P (x ∷ xs) zero d h e a = subst (λ (u : Stmt). EachLoop P (view_statement u)) (sym e) a.0
of_statement P (x ∷ xs) (suc i) d h e a = let below : i < length xs = omega arith in of_statement P xs i d below e a.1

pub of_section : (P : ℕ → StmtFormTree → Type 0) (xs : List Section) (i : ℕ) (d : Section) → i < length xs → d ≡ get_or xs i d → EachLoopOfSections P (sections (map view_section xs)) → EachLoopOfSection P (view_section d)
of_section P [] i d h e a = absurd (omega arith)
of_section P (x ∷ xs) zero d h e a = subst (λ (u : Section). EachLoopOfSection P (view_section u)) (sym e) a.0
of_section P (x ∷ xs) (suc i) d h e a = let below : i < length xs = omega arith in of_section P xs i d below e a.1
