-- What the visits of a function that are evaluated give, in order.
use Rattle.std.specs.Prelude.{if◌then◌else◌, List, [], ◌∷◌, ◌++◌}
use Rattle.stk_meaning.specs.Visits.{Visit}
use Rattle.stk_function_types.specs.Visits.{MarkedVisit}

-- what a visit gives, where it is evaluated
abbrev pub given : {A : Type 0} → (Visit → List A) → MarkedVisit → List A
given f m = if m.is_evaluated then f m.visit else []

-- what visits give
abbrev pub gathered : {A : Type 0} → (Visit → List A) → List MarkedVisit → List A
gathered f [] = []
gathered f (m ∷ ms) = given f m ++ gathered f ms
