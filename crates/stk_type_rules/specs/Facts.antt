-- What is known of a node, and what a rule says of one.
use Rattle.std.specs.Prelude.{ℕ, ℤ, Bool, true, false, Option, Some, None, List, get_or}
use Rattle.stk_ctype.specs.Types.{TypeTree, void_type, type_of}
use Rattle.stk_ctype.specs.Structs.{Structs}
use Rattle.stk_ctype.specs.Sound.{IsSound}
use Rattle.stk_type_rules.specs.declared.facts.NodeFact.{NodeFact}
use Rattle.stk_type_rules.specs.declared.facts.TypeRole.{TypeRole}
use Rattle.stk_type_rules.specs.declared.facts.TypeRole.TheVariants.{Plain, Value, Declares, Names}
use Rattle.stk_type_rules.specs.declared.facts.Constancy.{Constancy}
use Rattle.stk_type_rules.specs.declared.facts.Constancy.TheVariants.{Varies, Number}

-- its role and type; whether it is an lvalue (C11 6.3.2.1); the declarator of the parameter or local object that a name
-- means; whether it is a constant expression (C11 6.6); the number that it has by itself, as a constant, an
-- enumerator's name or a `sizeof`; whether it is a null pointer constant
pub record Fact : Type 0 where
  pub role : TypeRole
  pub ty : TypeTree
  pub lvalue : Bool
  pub means : Option ℕ
  pub constancy : Constancy
  pub number : Option ℤ
  pub is_null : Bool

-- what a fact of the code says
abbrev pub fact_of : NodeFact → Fact
fact_of f = record { role = f.role; ty = type_of f.ty; lvalue = f.lvalue; means = f.means; constancy = f.constancy; number = f.number; is_null = f.is_null }

-- no type
abbrev pub plain : Fact
plain = record { role = Plain; ty = void_type; lvalue = false; means = None; constancy = Varies; number = None; is_null = false }

-- a value of a type
abbrev pub value : TypeTree → Fact
value t = record { role = Value; ty = t; lvalue = false; means = None; constancy = Varies; number = None; is_null = false }

-- an lvalue of a type
abbrev pub place : TypeTree → Fact
place t = record { role = Value; ty = t; lvalue = true; means = None; constancy = Varies; number = None; is_null = false }

-- a name that means the parameter or local object of a declarator
abbrev pub named : TypeTree → ℕ → Fact
named t k = record { role = Value; ty = t; lvalue = true; means = Some k; constancy = Varies; number = None; is_null = false }

-- a value of a type, which may be that of a constant expression
abbrev pub constant : TypeTree → Constancy → Fact
constant t c = record { role = Value; ty = t; lvalue = false; means = None; constancy = c; number = None; is_null = false }

-- a constant or an enumerator's name, with its number; or `sizeof` of a type
abbrev pub literal : TypeTree → ℤ → Fact
literal t z = record { role = Value; ty = t; lvalue = false; means = None; constancy = Number z; number = Some z; is_null = false }

-- `sizeof` of an expression, with its number
abbrev pub measured : TypeTree → ℤ → Fact
measured t z = record { role = Value; ty = t; lvalue = false; means = None; constancy = Varies; number = Some z; is_null = false }

-- a type name
abbrev pub names_type : TypeTree → Fact
names_type t = record { role = Names; ty = t; lvalue = false; means = None; constancy = Varies; number = None; is_null = false }

-- a declarator of a type
abbrev pub declares : TypeTree → Fact
declares t = record { role = Declares; ty = t; lvalue = false; means = None; constancy = Varies; number = None; is_null = false }

-- the fact at a place, and no type past the end
abbrev pub fact_at : List Fact → ℕ → Fact
fact_at facts i = get_or facts i plain

-- the types of facts are sound
abbrev pub AreSoundFacts : Structs → List Fact → Type 0
AreSoundFacts structs facts = (i : ℕ) → IsSound structs (fact_at facts i).ty

-- a rule, by its number, that refuses a node; or what is known of the node
pub data Ruled : Type 0 where
  Breaks : ℕ → Ruled
  Fits : Fact → Ruled
