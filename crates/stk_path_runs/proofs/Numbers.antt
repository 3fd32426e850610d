-- The number of a key by its place.
use Rattle.std.proofs.Common.{◌≡◌, ℕ, List, Option, ℤ, sym, ap, ◌∙◌}
use Rattle.stk_meaning.specs.Keys.{Key, KeyInfo}
use Rattle.stk_meaning.specs.Paths.{number_under}
use Rattle.stk_path_runs.specs.Places.{key_place, number_in}
use Rattle.stk_path_runs.proofs.Placed.{number_under-in}

pub by_place : (keys : List KeyInfo) (key : Key) (place : Option ℕ) (xs : List ℤ) (z : ℤ) → place ≡ key_place key keys → z ≡ number_in place xs → z ≡ number_under keys xs key
by_place keys key place xs z e h = h ∙ ap (λ p. number_in p xs) e ∙ sym (number_under-in keys xs key)
