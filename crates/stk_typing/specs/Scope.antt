-- The names in force at a place of a function, and what a name means there (C11 6.2.1).
use Rattle.std.specs.Prelude.{ℕ, Bool, false, ◌==◌, if◌then◌else◌, List, Option, Some, None, map}
use Rattle.stk_ctype.specs.declared.kind.IntKind.TheVariants.{Int}
use Rattle.stk_ctype.specs.declared.symbol.NameEntry.{NameEntry}
use Rattle.stk_ctype.specs.declared.symbol.Symbol.{Symbol}
use Rattle.stk_ctype.specs.declared.symbol.Symbol.TheVariants as symbol
use Rattle.stk_ctype.specs.Types.{SignatureTree, integer_type, type_of, signature_of}
use Rattle.stk_ctype.specs.Structs.{structs_of}
use Rattle.stk_ctype.specs.Names.{find}
use Rattle.stk_type_rules.specs.Facts.{Ruled, Breaks, Fits, plain, place, named, literal}
use Rattle.stk_typing.specs.Locals.{Local, local_of, AreSoundLocals, find_local}
use Rattle.stk_typing.specs.declared.scope.Scoped.{Scoped}

-- the input, the entries of file scope, the locals in force with the last one last, and the register whose initialiser
-- this is
pub record Scope : Type 0 where
  pub bytes : List ℕ
  pub entries : List NameEntry
  pub locals : List Local
  pub own : Option ℕ

-- what the code holds of the names in force
abbrev pub scope_of : Scoped → Scope
scope_of s = record { bytes = s.bytes.now; entries = s.names.now; locals = map local_of s.locals.now; own = s.own }

-- the types of its locals are sound
abbrev pub IsSoundScope : Scope → Type 0
IsSoundScope s = AreSoundLocals (structs_of s.entries) s.locals

-- the same names, in no register's initialiser: where nothing is evaluated
abbrev pub unevaluated : Scope → Scope
unevaluated s = record { bytes = s.bytes; entries = s.entries; locals = s.locals; own = None }

-- it is the one
abbrev pub is_one : Option ℕ → ℕ → Bool
is_one None k = false
is_one (Some j) k = j == k

-- a local's name: a place, but not in its own initialiser
abbrev pub local_rule : Option ℕ → Local → Ruled
local_rule own l = if is_one own l.node then Breaks 1 else Fits (named l.ty l.node)

-- a name of file scope: an object is a place, an enumerator a constant of type `int`; a function is none of both (C11
-- 6.5.1, 6.7.2.2p3)
abbrev pub symbol_rule : Option Symbol → Ruled
symbol_rule None = Breaks 1
symbol_rule (Some (symbol.TypeDef t)) = Breaks 1
symbol_rule (Some (symbol.Object t)) = Fits (place (type_of t))
symbol_rule (Some (symbol.Function f)) = Breaks 8
symbol_rule (Some (symbol.Enumerator v)) = Fits (literal (integer_type Int) v)

-- the local of a name, or else what file scope knows
abbrev pub named_as : Option ℕ → Option Local → Option Symbol → Ruled
named_as own (Some l) outer = local_rule own l
named_as own None outer = symbol_rule outer

-- a name that isn't called
abbrev pub name_rule : Scope → List ℕ → Ruled
name_rule s name = named_as s.own (find_local name s.locals) (find name s.entries)

-- what file scope knows of a name that is called: a function has no type of a value there
abbrev pub called_symbol : Option Symbol → Ruled
called_symbol None = Breaks 1
called_symbol (Some (symbol.TypeDef t)) = Breaks 1
called_symbol (Some (symbol.Object t)) = Fits (place (type_of t))
called_symbol (Some (symbol.Function f)) = Fits plain
called_symbol (Some (symbol.Enumerator v)) = Fits (literal (integer_type Int) v)

abbrev pub called_as : Option ℕ → Option Local → Option Symbol → Ruled
called_as own (Some l) outer = local_rule own l
called_as own None outer = called_symbol outer

-- a name that is called
abbrev pub callee_rule : Scope → List ℕ → Ruled
callee_rule s name = called_as s.own (find_local name s.locals) (find name s.entries)

-- the signature of a function
abbrev pub signature_in : Option Symbol → Option SignatureTree
signature_in None = None
signature_in (Some (symbol.TypeDef t)) = None
signature_in (Some (symbol.Object t)) = None
signature_in (Some (symbol.Function f)) = Some (signature_of f)
signature_in (Some (symbol.Enumerator v)) = None

abbrev pub signature_as : Option Local → Option Symbol → Option SignatureTree
signature_as (Some l) outer = None
signature_as None outer = signature_in outer

-- the signature of the function that a name means, where it means one
abbrev pub signature_named : Scope → List ℕ → Option SignatureTree
signature_named s name = signature_as (find_local name s.locals) (find name s.entries)
