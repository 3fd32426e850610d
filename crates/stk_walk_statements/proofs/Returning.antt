-- `return` behind its expression.
use Rattle.std.proofs.Common.{◌≡◌, List, [], ◌++◌, ℤ, refl, ap}
use Rattle.std.proofs.lemmas.List.{append-nil}
use Rattle.stk_tree.specs.Syntax.{MaybeExprTree}
use Rattle.stk_tree.specs.Syntax as s
use Rattle.stk_meaning.specs.Places.{Setting}
use Rattle.stk_meaning.specs.Worlds.{Ran, Went, Cut, World, and_then, gives, Flow, Normal, Return}
use Rattle.stk_meaning.specs.Expressions.{value_of}
use Rattle.stk_meaning.specs.Statements.{discarded_run, return_run}

behind_value : {S : Type 0} (R : Ran ℤ S) → and_then (and_then R (λ x. gives Normal)) (λ (flow : Flow). gives Return) ≡ and_then R (λ x. gives Return)
behind_value (Went x r m t) = ap (λ u. Went Return r m u) (append-nil (t ++ []))
behind_value (Cut t) = refl

-- an expression that isn't used, and then a `return`
pub return_is : {S : Type 0} (g : Setting) (w : World S) (e : MaybeExprTree) (r : List ℤ) (m : S) → and_then (discarded_run g w e r m) (λ (flow : Flow). gives Return) ≡ return_run g w e r m
return_is g w s.no_expression r m = refl
return_is g w (s.some_expression e) r m = behind_value (value_of g w e r m)
