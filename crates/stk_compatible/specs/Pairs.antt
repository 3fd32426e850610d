-- Pairs of types that are left to compare.
use Rattle.std.specs.Prelude.{Bool, true, ◌&&◌, List, [], ◌∷◌, map}
use Rattle.std.specs.Borrow.{Bor}
use Rattle.stk_ctype.specs.declared.ctype.CType.{CType}
use Rattle.stk_ctype.specs.Types.{TypeTree, type_of}
use Rattle.stk_compatible.specs.Same.{same}

-- each pair is of the same type
abbrev pub are_same : List (TypeTree × TypeTree) → Bool
are_same [] = true
are_same (p ∷ ps) = same p.0 p.1 && are_same ps

-- the trees of pairs
abbrev pub pairs_of : List (Bor CType × Bor CType) → List (TypeTree × TypeTree)
pairs_of ps = map (λ p. (type_of p.0.now, type_of p.1.now)) ps
