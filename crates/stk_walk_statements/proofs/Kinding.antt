-- What is asked of the kinds of a row is asked of each of its elements.
use Rattle.std.proofs.Common.{◌≡◌, ℕ, zero, suc, ◌<◌, Bool, List, [], ◌∷◌, length, get_or, map, sym, subst, arith}
use Rattle.stk_tree.specs.declared.declaration.Declr.{Declr}
use Rattle.stk_tree.specs.declared.declaration.Item.{Item}
use Rattle.stk_tree.specs.declared.statement.Part.{Part}
use Rattle.stk_tree.specs.declared.statement.Section.{Section}
use Rattle.stk_tree.specs.declared.statement.Stmt.{Stmt}
use Rattle.stk_tree.specs.View.{view_item, items, view_declarator, declarators, view_part, parts, view_section, sections, view_statement, statements}
use Rattle.stk_meaning.specs.Places.{Setting}
use Rattle.stk_kinded.specs.KindedStatements.{KindedItems, KindedItem, KindedDeclarators, KindedDeclarator, KindedBlock, KindedPart, KindedSections, KindedSection, KindedStatements, KindedStatement}

pub kinded_item : (g : Setting) (xs : List Item) (i : ℕ) (d : Item) → i < length xs → d ≡ get_or xs i d → KindedItems g (items (map view_item xs)) → KindedItem g (view_item d)
kinded_item g [] i d h e a = absurd (omega arith)
kinded_item g (x ∷ xs) zero d h e a = subst (λ (u : Item). KindedItem g (view_item u)) (sym e) a.0
kinded_item g (x ∷ xs) (suc i) d h e a = let below : i < length xs = omega arith in kinded_item g xs i d below e a.1

pub kinded_declarator : (g : Setting) (static : Bool) (xs : List Declr) (i : ℕ) (d : Declr) → i < length xs → d ≡ get_or xs i d → KindedDeclarators g static (declarators (map view_declarator xs)) → KindedDeclarator g static (view_declarator d)
kinded_declarator g static [] i d h e a = absurd (omega arith)
kinded_declarator g static (x ∷ xs) zero d h e a = subst (λ (u : Declr). KindedDeclarator g static (view_declarator u)) (sym e) a.0
kinded_declarator g static (x ∷ xs) (suc i) d h e a = let below : i < length xs = omega arith in kinded_declarator g static xs i d below e a.1

pub kinded_part : (g : Setting) (xs : List Part) (i : ℕ) (d : Part) → i < length xs → d ≡ get_or xs i d → KindedBlock g (parts (map view_part xs)) → KindedPart g (view_part d)
kinded_part g [] i d h e a = absurd (omega arith)
kinded_part g (x ∷ xs) zero d h e a = subst (λ (u : Part). KindedPart g (view_part u)) (sym e) a.0
kinded_part g (x ∷ xs) (suc i) d h e a = let below : i < length xs = omega arith in kinded_part g xs i d below e a.1

pub kinded_section : (g : Setting) (xs : List Section) (i : ℕ) (d : Section) → i < length xs → d ≡ get_or xs i d → KindedSections g (sections (map view_section xs)) → KindedSection g (view_section d)
kinded_section g [] i d h e a = absurd (omega arith)
kinded_section g (x ∷ xs) zero d h e a = subst (λ (u : Section). KindedSection g (view_section u)) (sym e) a.0
kinded_section g (x ∷ xs) (suc i) d h e a = let below : i < length xs = omega arith in kinded_section g xs i d below e a.1

pub kinded_statement : (g : Setting) (xs : List Stmt) (i : ℕ) (d : Stmt) → i < length xs → d ≡ get_or xs i d → KindedStatements g (statements (map view_statement xs)) → KindedStatement g (view_statement d)
kinded_statement g [] i d h e a = absurd (omega arith)
kinded_statement g (x ∷ xs) zero d h e a = subst (λ (u : Stmt). KindedStatement g (view_statement u)) (sym e) a.0
kinded_statement g (x ∷ xs) (suc i) d h e a = let below : i < length xs = omega arith in kinded_statement g xs i d below e a.1
