-- What the code keeps while it declares an enumeration or a struct.
use Rattle.std.specs.Prelude.{List}
use Rattle.stk_ctype.specs.declared.ctype.CType.{CType}
use Rattle.stk_ctype.specs.declared.symbol.MemberInfo.{MemberInfo}
use Rattle.stk_ctype.specs.declared.symbol.NameEntry.{NameEntry}
use Rattle.stk_ctype.specs.Types.{type_of}
use Rattle.stk_declare.specs.declared.enumerations.Counter.{Counter}
use Rattle.stk_declare.specs.declared.structs.Opened.{Opened}
use Rattle.stk_declare.specs.Bases.{Based}
use Rattle.stk_declare.specs.Enumerations.{Enumerated}
use Rattle.stk_declare.specs.Structs.{Membered, Opening}

-- a type that a base names, with these entries in force
abbrev pub based : List NameEntry → CType → Based
based es t = record { entries = es; ty = type_of t }

-- what is known behind enumerators, with these entries in force
abbrev pub enumerated : List NameEntry → Counter → Enumerated
enumerated es c = record { entries = es; next = c.next; twice = c.twice; improper = c.improper }

-- the struct that gets members, with these entries in force
abbrev pub opening_of : List NameEntry → Opened → Opening
opening_of es o = record { entries = es; id = o.id; clash = o.clash }

-- members so far, with these entries in force
abbrev pub membered : List NameEntry → List MemberInfo → Membered
membered es ms = record { entries = es; members = ms }
