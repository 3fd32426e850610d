-- Parameters and local objects in force, the last one last (C11 6.2.1).
use Rattle.std.specs.Prelude.{ℕ, if◌then◌else◌, List, [], ◌∷◌, Option, Some, None}
use Rattle.stk_base.specs.Text.{same_text}
use Rattle.stk_ctype.specs.Types.{TypeTree, type_of}
use Rattle.stk_ctype.specs.Structs.{Structs}
use Rattle.stk_ctype.specs.Sound.{IsSound}
use Rattle.stk_ctype.specs.Names.{later_of}
use Rattle.stk_typing.specs.declared.locals.LocalName.{LocalName}

-- a parameter or a local object: its name, its declarator, its type
pub record Local : Type 0 where
  pub name : List ℕ
  pub node : ℕ
  pub ty : TypeTree

-- what the code knows of a local
abbrev pub local_of : LocalName → Local
local_of l = record { name = l.name; node = l.node; ty = type_of l.ty }

-- the types of locals are sound
abbrev pub AreSoundLocals : Structs → List Local → Type 0
AreSoundLocals structs [] = Unit {0}
AreSoundLocals structs (l ∷ ls) = IsSound structs l.ty × AreSoundLocals structs ls

-- a local, where it has this name
abbrev pub local_named : List ℕ → Local → Option Local
local_named name l = if same_text l.name name then Some l else None

-- the last local of a name
abbrev pub find_local : List ℕ → List Local → Option Local
find_local name [] = None
find_local name (l ∷ ls) = later_of (local_named name l) (find_local name ls)
