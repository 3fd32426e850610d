-- What the findings of a function speak of whose input maps are all tried: its path runs, for its valid maps. Nothing
-- is said of executions.
use Rattle.std.specs.Prelude.{◌≡◌, ℕ, ◌<◌, true, List, map, length, slice_get, Option, Some}
use Rattle.stk_tree.specs.Syntax.{FunctionTree}
use Rattle.stk_ctype.specs.declared.kind.IntKind.{IntKind}
use Rattle.stk_numbers.specs.declared.conditions.Kinds.{Kinds}
use Rattle.stk_meaning.specs.declared.entry.Entry.{Entry}
use Rattle.stk_meaning.specs.Typings.{Typing}
use Rattle.stk_meaning.specs.Keys.{KeyInfo, keys_of}
use Rattle.stk_meaning.specs.Lists.{conditions}
use Rattle.stk_meaning.specs.Maps.{IsValid, Precedes}
use Rattle.stk_meaning.specs.Paths.{path}
use Rattle.stk_meaning.specs.Findings.{Subject}
use Rattle.stk_hits.specs.InputMaps.{map_at}

abbrev pub path_subject : Typing → Kinds → FunctionTree → Subject
path_subject ty without f = record {
  IsMap = IsValid ty without f;
  Before = Precedes (keys_of ty without f);
  run = path ty without f;
  conditions = conditions ty without f;
  tries_all = true;
  Spent = λ c set. ⊥;
  Suffices = λ c set. Unit {0};
}

-- the kinds of the numbers of keys
abbrev pub kinds_of : List KeyInfo → List IntKind
kinds_of keys = map (λ x. x.kind) keys

-- a list has the traces of the path runs of the first input maps, in the order of the maps' numbers
pub record ArePathRuns (ty : Typing) (without : Kinds) (f : FunctionTree) (runs : List (Option (List Entry))) : Type 0 where
  pub each : (n : ℕ) → n < length runs → slice_get runs n ≡ Some (Some (path ty without f (map_at (kinds_of (keys_of ty without f)) n)))
