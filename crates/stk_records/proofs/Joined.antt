-- What is added to a text in two steps is added as one.
use Rattle.std.proofs.Common.{◌≡◌, ℕ, List, ◌++◌, ap, ◌∙◌, append_assoc}

pub joined : (old middle new a b : List ℕ) → middle ≡ old ++ a → new ≡ middle ++ b → new ≡ old ++ (a ++ b)
joined old middle new a b p q = q ∙ ap (λ t. t ++ b) p ∙ append_assoc old a b
