-- The parts of what an expression does that follow its operands.
use Rattle.std.specs.Prelude.{ℕ, true, if◌then◌else◌, List, [], ◌∷◌, Option, ℤ, pos, get_or}
use Rattle.stk_tree.specs.declared.expression.StepOp.{StepOp}
use Rattle.stk_tree.specs.Syntax.{ExprTree, ExprTrees, ExprFormTree}
use Rattle.stk_tree.specs.Syntax as s
use Rattle.stk_tree.specs.Parts.{bare}
use Rattle.stk_numbers.specs.declared.operators.CompareOp.{CompareOp}
use Rattle.stk_meaning.specs.declared.entry.Entry.TheVariants.{Seen}
use Rattle.stk_meaning.specs.Typings.{type_in, is_array, number_kind, converted, node_of}
use Rattle.stk_meaning.specs.Operations.{Operation, operated, truth, step_operation, gives_old}
use Rattle.stk_meaning.specs.Libraries.{called_library, called_signature, result_in, never_returns}
use Rattle.stk_meaning.specs.Replacements.{Replaced}
use Rattle.stk_meaning.specs.Places.{Setting, Target, target_of}
use Rattle.stk_meaning.specs.Worlds.{Ran, Went, Cut, World, after, and_then, gives}
use Rattle.stk_meaning.specs.Expressions.{Sides, breaks, number_in, stored_at, replaced_by, returned}

-- the number of a place whose address is known: of an array its address
abbrev pub place_end : {S : Type 0} → Setting → World S → ℕ → Target → ℕ → List ℤ → S → Ran ℤ S
place_end g w k target a r m = if is_array (g.typing.type_at k) then gives (pos a) r m else number_in w target k (number_kind (g.typing.type_at k)) a r m

-- the end of a comparison of two sides
abbrev pub comparison_end : {S : Type 0} → Setting → ℕ → CompareOp → Operation → Option Replaced → Sides → Sides → List ℤ → S → Ran ℤ S
comparison_end g k op how found x y r m =
    let z = operated how x.number y.number in
    Went z r m (Seen k (truth z) (replaced_by g.typing op found x y) ∷ [])

-- the end of `++` and `--`
abbrev pub step_end : {S : Type 0} → Setting → World S → ℕ → StepOp → ExprTree → ℕ → List ℤ → S → Ran ℤ S
step_end g w k op e place r m =
    let t = type_in g.typing e in
    let target = target_of g e in
    and_then (number_in w target (node_of (bare e)) (number_kind t) place r m) (λ x r m.
    let y = converted t (operated (step_operation g.typing op t) x (pos 1)) in
    after (breaks g k true (s.step op e) x (pos 1) (pos 0)) (stored_at w target (number_kind t) place y (if gives_old op then x else y) r m))

-- the end of `=`
abbrev pub plain_end : {S : Type 0} → Setting → World S → ExprTree → ℤ → ℕ → List ℤ → S → Ran ℤ S
plain_end g w left y place r m =
    let t = type_in g.typing left in
    stored_at w (target_of g left) (number_kind t) place (converted t y) (converted t y) r m

-- the end of a compound assignment
abbrev pub compound_end : {S : Type 0} → Setting → World S → ℕ → ExprFormTree → Operation → ExprTree → ℤ → ℕ → List ℤ → S → Ran ℤ S
compound_end g w k f op left y place r m =
    let t = type_in g.typing left in
    let target = target_of g left in
    and_then (number_in w target (node_of (bare left)) (number_kind t) place r m) (λ x r m.
    let z = converted t (operated op x y) in
    after (breaks g k true f x y (pos 0)) (stored_at w target (number_kind t) place z z r m))

-- the end of a call
abbrev pub call_end : {S : Type 0} → Setting → World S → ℕ → ExprTree → ExprTrees → List ℤ → List ℤ → S → Ran ℤ S
call_end g w k callee es xs r m =
    let f = called_signature g.typing callee in
    after (breaks g k true (s.call callee es) (get_or xs 0 (pos 0)) (get_or xs 1 (pos 0)) (get_or xs 2 (pos 0)))
    (if never_returns f then Cut [] else returned w k (result_in f) (called_library g.typing callee) xs r m)
