-- Where control goes among the sections that are left.
use Rattle.std.proofs.Common.{◌≡◌, ℕ, true, List, Option, None, ℤ}
use Rattle.stk_ctype.specs.declared.kind.IntKind.{IntKind}
use Rattle.stk_meaning.specs.Worlds.{Ran, Flow}
use Rattle.stk_meaning.specs.Paths.{KeptNumbers}
use Rattle.stk_guarded.specs.Standing.{Standing}
use Rattle.stk_guarded.specs.Sections.{begins, Falls}
use Rattle.stk_walk_statements.specs.Selected.{TestsLead}

-- where it goes, as the tests that are left say; nowhere, where it is in the section before; and what walks the rest
-- from there walks the whole
pub record LeadsOn {V : Type 0} (shows : IntKind → V → ℤ → Type 0) (vs : List V) (rest all : ℕ → List ℤ → KeptNumbers → Ran Flow KeptNumbers) (start : Option ℕ) (s t : Standing) : Type 0 where
  pub goes_to : Option ℕ
  pub tests : TestsLead shows vs goes_to None
  pub alone : t.alive ≡ true → goes_to ≡ None
  pub whole : (u : Standing) → Falls rest (begins t.alive goes_to) t u → Falls all start s u
