-- Inputs of widths that fit.
use Rattle.std.proofs.Common.{ℕ, ◌≤◌, List, [], ◌∷◌, ◌++◌}
use Rattle.stk_terms.specs.Fitting.{AreWidths}
use Rattle.stk_scripts.specs.Syntax.{Declared}
use Rattle.stk_scripts.specs.Scripts.{DeclaredFit}

-- each is from 1 to 64 wide
abbrev pub Narrow : List Declared → Type 0
Narrow [] = Unit {0}
Narrow (d ∷ ds) = (1 ≤ d.width) × (d.width ≤ 64) × Narrow ds

pub narrow_fit : (g : List (List ℕ × ℕ)) (ds : List Declared) → DeclaredFit g ds → Narrow ds
narrow_fit g [] f = tt
narrow_fit g (d ∷ ds) f = (f.1, f.2, narrow_fit ((d.name, d.width) ∷ g) ds f.3)

pub widths_push : (ws : List ℕ) (w : ℕ) → AreWidths ws → 1 ≤ w → w ≤ 64 → AreWidths (ws ++ w ∷ [])
widths_push [] w h some few = (some, few, tt)
widths_push (v ∷ ws) w h some few = (h.0, h.1, widths_push ws w h.2 some few)
