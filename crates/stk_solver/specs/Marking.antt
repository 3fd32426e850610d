-- Marked literals.
use Rattle.std.specs.Prelude.{◌≡◌, ◌*◌, Bool, true, false, List, length, slice_index_or}
use Rattle.std.specs.List.{Contains}
use Rattle.stk_clauses.specs.declared.literal.Lit.{Lit}
use Rattle.stk_clauses.specs.Literals.{AreBelow}
use Rattle.stk_solver.specs.declared.marks.Marks.{Marks}

abbrev pub Marked : List Bool → Lit → Type 0
Marked marked m = slice_index_or marked m.0 false ≡ true

-- a mark for each literal, and each marked literal was noted
pub record IsNoted (f : Marks) : Type 0 where
  pub sized : length f.marked.items ≡ 2 * f.vars
  pub within : AreBelow f.vars f.noted.items
  pub noted : (m : Lit) → Marked f.marked.items m → Contains f.noted.items m

-- a mark for each literal, and none is marked
pub record IsClean (f : Marks) : Type 0 where
  pub sized : length f.marked.items ≡ 2 * f.vars
  pub none : (m : Lit) → Marked f.marked.items m → ⊥
