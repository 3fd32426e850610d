-- Calls (C11 6.5.2.2).
use Rattle.std.specs.Prelude.{ℕ, ◌≡◌, ◌+◌, Bool, true, false, not, ◌&&◌, ◌||◌, ◌==◌, nat_le, if◌then◌else◌, Option, Some, None, List, [], ◌∷◌, length}
use Rattle.stk_base.specs.declared.span.Span.{Span}
use Rattle.stk_base.specs.Text.{text_of}
use Rattle.stk_ctype.specs.Types.{SignatureTree, signature, TypeTrees, no_types, then_type}
use Rattle.stk_type_rules.specs.Facts.{Fact, Ruled, Breaks, Fits, value}
use Rattle.stk_type_rules.specs.Outcome.{Outcome, Good, and_then, finish}
use Rattle.stk_type_rules.specs.Types.{decayed, is_scalar, is_struct}
use Rattle.stk_typing.specs.Scope.{Scope, callee_rule, signature_named}
use Rattle.stk_typing.specs.declared.calls.Arguments.{Arguments}

-- an argument doesn't fit its parameter, by whether that is a struct: no scalar converts to a struct, and what is
-- neither a scalar nor a struct is no argument. A struct is refused by a later rule.
abbrev pub misfits : Bool → Fact → Bool
misfits takes_struct x = not (is_struct x.ty) && (takes_struct || not (is_scalar (decayed x.ty)))

-- whether the first parameter is a struct
abbrev pub begin_with_struct : TypeTrees → Bool
begin_with_struct no_types = false
begin_with_struct (then_type t ts) = is_struct t

-- the parameters behind the first one
abbrev pub behind_first : TypeTrees → TypeTrees
behind_first no_types = no_types
behind_first (then_type t ts) = ts

-- whether one of the arguments doesn't fit its parameter, where there is one, or can't be passed at all
abbrev pub have_misfit : TypeTrees → List Fact → Bool
have_misfit params [] = false
have_misfit params (x ∷ xs) = misfits (begin_with_struct params) x || have_misfit (behind_first params) xs

-- whether one of the arguments is a struct
abbrev pub have_struct : List Fact → Bool
have_struct [] = false
have_struct (x ∷ xs) = is_struct x.ty || have_struct xs

-- what is known with one more argument behind others, by whether its parameter is a struct
abbrev pub with_behind : Bool → Arguments → Fact → Arguments
with_behind takes_struct a x = record { count = a.count + 1; has_misfit = a.has_misfit || misfits takes_struct x; has_struct = a.has_struct || is_struct x.ty }

-- what the code knows of these arguments for these parameters
pub record AreArguments (params : TypeTrees) (xs : List Fact) (a : Arguments) : Type 0 where
  pub count : a.count ≡ length xs
  pub misfit : a.has_misfit ≡ have_misfit params xs
  pub struct : a.has_struct ≡ have_struct xs

-- how many parameters there are
abbrev pub parameter_count : TypeTrees → ℕ
parameter_count no_types = 0
parameter_count (then_type t ts) = parameter_count ts + 1

-- whether so many arguments may be passed for so many parameters: more where the function takes more
abbrev pub takes : Bool → ℕ → ℕ → Bool
takes true parameters arguments = nat_le parameters arguments
takes false parameters arguments = parameters == arguments

-- the parameters of what is called
abbrev pub parameters_in : Option SignatureTree → TypeTrees
parameters_in None = no_types
parameters_in (Some (signature result params more no_return)) = params

-- the value of a call: the arguments are as many as the parameters, and none of them nor the result is a struct
abbrev pub call_result : SignatureTree → List Fact → Ruled
call_result (signature result params more no_return) xs =
    if takes more (parameter_count params) (length xs) then (if is_struct result || have_struct xs then Breaks 9 else Fits (value result)) else Breaks 8

-- what isn't a function can't be called
abbrev pub called : Option SignatureTree → List Fact → Ruled
called None xs = Breaks 8
called (Some f) xs = call_result f xs

-- a call: each argument fits its parameter
abbrev pub call_rule : Option SignatureTree → List Fact → Ruled
call_rule f xs = if have_misfit (parameters_in f) xs then Breaks 6 else called f xs

-- what is called: a name, or any other expression, typed as itself, which is no function
abbrev pub callee_by : Scope → ℕ → Option Span → Outcome Fact → Outcome (Option SignatureTree)
callee_by s k (Some at) o = and_then (finish k (callee_rule s (text_of s.bytes at))) (λ x. Good (signature_named s (text_of s.bytes at)) [])
callee_by s k None o = and_then o (λ x. Good None [])
