-- The input keys that a walk asks for, and their numbers.
use Rattle.std.specs.Prelude.{ℕ, ◌≡◌, List, ℤ, pos, get_or, slice_get, Option, Some, None}
use Rattle.stk_ctype.specs.declared.kind.IntKind.{IntKind}
use Rattle.stk_meaning.specs.Keys.{Key, parameter_key, address_key, unset_key, load_key, call_key, loop_key}
use Rattle.stk_walking.specs.declared.keys.InputKey.{InputKey}
use Rattle.stk_walking.specs.declared.keys.InputKey.TheVariants as input_key

-- a key
abbrev pub key_shown : InputKey → Key
key_shown (input_key.Parameter k) = parameter_key k
key_shown (input_key.Address k) = address_key k
key_shown (input_key.Unset k) = unset_key k
key_shown (input_key.Load k) = load_key k
key_shown (input_key.Call k) = call_key k
key_shown (input_key.Loop k j) = loop_key k j

-- the number in a place, where there is one
abbrev pub placed : Option ℕ → List ℤ → ℤ
placed None m = pos 0
placed (Some p) m = get_or m p (pos 0)

-- each key of a list of kinds is there, at its kind
abbrev pub AreThere : (ℕ → IntKind → Type 0) → List IntKind → Type 0
AreThere has_key kinds = (key : ℕ) (k : IntKind) → slice_get kinds key ≡ Some k → has_key key k
