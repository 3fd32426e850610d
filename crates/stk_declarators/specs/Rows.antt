-- How the code shows the parameters that typing gives.
use Rattle.std.specs.Prelude.{ℕ, ◌≡◌, Bool, List, [], ◌∷◌, ◌++◌, map, None}
use Rattle.stk_ctype.specs.declared.ctype.CType.{CType}
use Rattle.stk_ctype.specs.Types.{TypeTree, type_of}
use Rattle.stk_ctype.specs.declared.symbol.NameEntry.{NameEntry}
use Rattle.stk_ctype.specs.Structs.{Structs}
use Rattle.stk_ctype.specs.Sound.{IsSound}
use Rattle.stk_typing.specs.declared.locals.LocalName.{LocalName}
use Rattle.stk_typing.specs.Locals.{Local, local_of}
use Rattle.stk_typing.specs.Scope.{Scope}
use Rattle.stk_declarators.specs.declared.prototypes.File.{File}
use Rattle.stk_declarators.specs.declared.prototypes.Params.{Params}
use Rattle.stk_declarators.specs.declared.tails.Tailed.{Tailed}
use Rattle.stk_declarators.specs.declared.tails.Tailed.TheVariants as tailed
use Rattle.stk_declarators.specs.Tails.{TailShape, of_arrays, of_function}
use Rattle.stk_declarators.specs.Parameters.{Parameter, types_of, have_unnamed, as_locals}

-- the names in force with these locals, in no register's initialiser
abbrev pub scope_with : List ℕ → List NameEntry → List LocalName → Scope
scope_with bytes entries ls = record { bytes = bytes; entries = entries; locals = map local_of ls; own = None }

abbrev pub file_scope : File → List LocalName → Scope
file_scope f ls = scope_with f.bytes.now f.names.now ls

-- types in a row are sound
abbrev pub AreSoundTypes : Structs → List CType → Type 0
AreSoundTypes structs [] = Unit {0}
AreSoundTypes structs (t ∷ ts) = IsSound structs (type_of t) × AreSoundTypes structs ts

-- the types are those of the parameters, so is whether one has no name, and the locals are those before with their
-- names
pub record AreParams (before now : List Local) (ps : List Parameter) (r : Params) : Type 0 where
  pub types : map type_of r.types.items ≡ types_of ps
  pub unnamed : r.unnamed ≡ have_unnamed ps
  pub locals : now ≡ before ++ as_locals ps

-- the code shows what follows a name
abbrev pub IsShape : TailShape → Tailed → Type 0
IsShape (of_arrays sizes) (tailed.Arrays v) = v.items ≡ sizes
IsShape (of_arrays sizes) (tailed.Function p m) = ⊥
IsShape (of_function ps more) (tailed.Arrays v) = ⊥
IsShape (of_function ps more) (tailed.Function p m) = (map type_of p.types.items ≡ types_of ps) × (p.unnamed ≡ have_unnamed ps) × (m ≡ more)

-- the locals that come into force with it
abbrev pub locals_in : TailShape → List Local
locals_in (of_arrays sizes) = []
locals_in (of_function ps more) = as_locals ps

-- the code shows it, and the locals are those before with these
abbrev pub IsTail : List Local → List Local → TailShape → Tailed → Type 0
IsTail before now t r = IsShape t r × (now ≡ before ++ locals_in t)

-- its types are sound
abbrev pub IsSoundTail : Structs → Tailed → Type 0
IsSoundTail structs (tailed.Arrays v) = Unit {0}
IsSoundTail structs (tailed.Function p m) = AreSoundTypes structs p.types.items
