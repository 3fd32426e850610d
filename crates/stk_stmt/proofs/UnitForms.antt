-- Lists that have one declarator.
use Rattle.std.proofs.Common.{◌≡◌, List, [], ◌∷◌, length, None, refl}
use Rattle.stk_tree.specs.Syntax.{DeclrTree}
use Rattle.stk_tree.specs.View.{declarators}
use Rattle.stk_stmt.specs.Units.{lone_declarator}

pub not_lone : (ds : List DeclrTree) → (length ds ≡ 1 → ⊥) → None ≡ lone_declarator (declarators ds)
not_lone [] h = refl
not_lone (d ∷ []) h = absurd (h refl)
not_lone (d ∷ e ∷ es) h = refl
