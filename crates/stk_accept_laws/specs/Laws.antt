-- Laws of acceptance: a unit is accepted or refused in one way.
use Rattle.std.specs.Prelude.{◌≡◌, ℕ, Bool, List, Option}
use Rattle.stk_lex.specs.declared.token.Token.{Token}
use Rattle.stk_ctype.specs.declared.symbol.NameEntry.{NameEntry}
use Rattle.stk_tree.specs.Syntax.{UnitTree}
use Rattle.stk_accept.specs.declared.accepting.Refusal.{Refusal}
use Rattle.stk_accept.specs.Accepting.{IsTree, IsRefusedFor, Accepts, Refuses, Leaves}

-- tokens are one tree at most
abbrev pub TokensAreOneTree : Type 0
TokensAreOneTree = (bytes : List ℕ) (es : List NameEntry) (tokens : List Token) (u v : UnitTree) → IsTree bytes es tokens u → IsTree bytes es tokens v → u ≡ v

-- a unit that is accepted leaves one list of names in force
abbrev pub AcceptedUnitsLeaveOneScope : Type 0
AcceptedUnitsLeaveOneScope = (bytes : List ℕ) (mark : Bool) (es : List NameEntry) (tokens : List Token) (u v : UnitTree) (now also : List NameEntry) → Accepts bytes mark es tokens u now → Accepts bytes mark es tokens v also → now ≡ also

-- and so does one that isn't
abbrev pub RefusedUnitsLeaveOneScope : Type 0
RefusedUnitsLeaveOneScope = (bytes : List ℕ) (mark : Bool) (es : List NameEntry) (tokens : List Token) (body : Option ℕ) (now also : List NameEntry) → Leaves bytes mark es tokens body now → Leaves bytes mark es tokens body also → now ≡ also

-- no unit is accepted and refused
abbrev pub NoneIsBoth : Type 0
NoneIsBoth = (bytes : List ℕ) (mark : Bool) (es : List NameEntry) (tokens : List Token) (body : Option ℕ) (u : UnitTree) (now also : List NameEntry) (cause : Refusal) → Accepts bytes mark es tokens u now → Refuses bytes mark es tokens body cause also → ⊥

-- it is refused for one cause
abbrev pub RefusalsHaveOneCause : Type 0
RefusalsHaveOneCause = (bytes : List ℕ) (mark : Bool) (es : List NameEntry) (tokens : List Token) (cause other : Refusal) → IsRefusedFor bytes mark es tokens cause → IsRefusedFor bytes mark es tokens other → cause ≡ other
