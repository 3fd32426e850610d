-- What the names of a script stand for.
use Rattle.std.specs.Prelude.{◌≡◌, ℕ, List, Bool}
use Rattle.std.specs.Borrow.{Bor}
use Rattle.std.specs.Option.{option_map}
use Rattle.indexmap.specs.IndexMap.{get}
use Rattle.stk_base.specs.Text.{same_text}
use Rattle.stk_scripts.specs.Scripts.{found}
use Rattle.stk_script_reader.specs.declared.names.Names.{Names}

-- whether two names are spelled alike
abbrev pub same_name : Bor (List ℕ) → Bor (List ℕ) → Bool
same_name a b = same_text a.now b.now

-- names stand for these places of terms, the first one for its place
pub record StandsFor (table : Names) (names : List (List ℕ × ℕ)) : Type 0 where
  pub each : (n : Bor (List ℕ)) → option_map (λ id. id.0) (get same_name table.terms n) ≡ found names n.now
