-- The trace of a body's run is the path run of its function.
use Rattle.std.proofs.Common.{◌≡◌, List, length, replicate, ℤ, None, refl}
use Rattle.stk_tree.specs.Syntax.{FunctionTree}
use Rattle.stk_numbers.specs.declared.conditions.Kinds.{Kinds}
use Rattle.stk_meaning.specs.declared.entry.Entry.{Entry}
use Rattle.stk_meaning.specs.Typings.{Typing}
use Rattle.stk_meaning.specs.Places.{Setting}
use Rattle.stk_meaning.specs.Worlds.{trace_of}
use Rattle.stk_meaning.specs.Statements.{statement_run}
use Rattle.stk_meaning.specs.Keys.{KeyInfo, parameter_key, keys_of, setting_of, body_of}
use Rattle.stk_meaning.specs.Paths.{KeptNumbers, path_world, start_registers, number_under, path}

pub told : (ty : Typing) (without : Kinds) (f : FunctionTree) (g : Setting) (keys : List KeyInfo) (numbers r : List ℤ) (kept : KeptNumbers) (entries : List Entry) → g ≡ setting_of ty without f → keys ≡ keys_of ty without f
    → r ≡ start_registers g.typing f (λ k. number_under keys numbers (parameter_key k)) → kept ≡ replicate (length g.kept) None
    → entries ≡ trace_of (statement_run g (path_world (number_under keys numbers)) (body_of f) r kept) → entries ≡ path ty without f numbers
told ty without f g keys numbers r kept entries setting same registers none is = rw (is, registers, none, setting, same) refl
