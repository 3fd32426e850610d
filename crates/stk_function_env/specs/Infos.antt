-- What the keys of the code show.
use Rattle.std.specs.Prelude.{ℕ}
use Rattle.stk_meaning.specs.Keys as keys
use Rattle.stk_function_env.specs.declared.infos.Key.{Key}
use Rattle.stk_function_env.specs.declared.infos.Key.TheVariants as key
use Rattle.stk_function_env.specs.declared.infos.KeyInfo.{KeyInfo}

-- a key
abbrev pub key_in : Key → keys.Key
key_in (key.Parameter k) = keys.parameter_key k
key_in (key.Address k) = keys.address_key k
key_in (key.Unset k) = keys.unset_key k
key_in (key.Load k) = keys.load_key k
key_in (key.Call k) = keys.call_key k
key_in (key.Loop k j) = keys.loop_key k j

-- a key with the kind of its numbers, the size of the object whose address it is, and the name of the object or
-- register
abbrev pub info_in : KeyInfo → keys.KeyInfo
info_in x = record { key = key_in x.key; kind = x.kind; size = x.size; name = x.name }
