-- Keys whose kinds are those that their forms say.
use Rattle.std.specs.Prelude.{◌≡◌, List, map}
use Rattle.stk_meaning.specs.Places.{Setting}
use Rattle.stk_meaning.specs.Keys.{KeyInfo}
use Rattle.stk_kinded.specs.Kinds.{key_kind}

-- each key of a list has the kind that its form says
abbrev pub HaveKeyKinds : Setting → List KeyInfo → Type 0
HaveKeyKinds g keys = map (λ (x : KeyInfo). x.kind) keys ≡ map (λ (x : KeyInfo). key_kind g x.key) keys
