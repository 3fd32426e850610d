-- What the readers return, as against the reading of tokens.
use Rattle.std.specs.Prelude.{◌≡◌, Option, Some, None, Result, Ok, Err}
use Rattle.stk_script_trees.specs.declared.fault.Fault.{Fault}
use Rattle.stk_script_trees.specs.declared.fault.Fault.TheVariants as fault

abbrev pub Fails : {A : Type 0} → Fault → Option A → Type 0
Fails fault.Bad read = read ≡ None
Fails fault.NoMemory read = Unit {0}

-- What a function returned, seen by view, is what reading gives, unless memory ran out.
abbrev pub Gives : {X A : Type 0} → (X → A) → Result X Fault → Option A → Type 0
Gives view (Ok x) read = read ≡ Some (view x)
Gives view (Err e) read = Fails e read

-- the answer that nothing could be read
abbrev pub IsBad : {X : Type 0} → Result X Fault → Type 0
IsBad (Ok x) = ⊥
IsBad (Err e) = e ≡ fault.Bad
