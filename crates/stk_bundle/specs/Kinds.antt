-- Kinds of undefined behaviour as a line names them.
use Rattle.std.specs.Prelude.{◌≡◌, ℕ, Bool, false, nat_eq, List, [], ◌∷◌, ◌++◌, codes}
use Rattle.std.specs.List.{list_any}
use Rattle.stk_numbers.specs.declared.conditions.UbKind.{UbKind}
use Rattle.stk_numbers.specs.Taken.{number_of}
use Rattle.stk_records.specs.Kinds.{kind_name}

-- names of kinds, each with a comma in front
abbrev pub more_kinds : List UbKind → List ℕ
more_kinds [] = []
more_kinds (k ∷ ks) = 44 ∷ kind_name k ++ more_kinds ks

-- names of kinds with a comma between each two, or `-` where there are none
abbrev pub kinds_text : List UbKind → List ℕ
kinds_text [] = codes "-"
kinds_text (k ∷ ks) = kind_name k ++ more_kinds ks

-- whether a kind is among these
abbrev pub is_listed : List UbKind → UbKind → Bool
is_listed ks k = list_any (λ j. nat_eq (number_of j) (number_of k)) ks

-- each kind stands once
abbrev pub StandOnce : List UbKind → Type 0
StandOnce [] = Unit {0}
StandOnce (k ∷ ks) = (is_listed ks k ≡ false) × StandOnce ks

-- a text names these kinds, each of them once
pub record AreKinds (text : List ℕ) (ks : List UbKind) : Type 0 where
  pub same : text ≡ kinds_text ks
  pub once : StandOnce ks
