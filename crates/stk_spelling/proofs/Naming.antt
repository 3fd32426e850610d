-- The names of a function, from those of its parameters and of its visits.
use Rattle.std.proofs.Common.{◌≡◌, true, List, ◌++◌, refl}
use Rattle.stk_tree.specs.Syntax.{ParamTrees, FunctionTree}
use Rattle.stk_tree.specs.Parts.{declared_parameters}
use Rattle.stk_meaning.specs.Typings.{Typing}
use Rattle.stk_meaning.specs.Keys.{head_of, function_visits}
use Rattle.stk_function_types.specs.Visits.{MarkedVisit, marked_visits}
use Rattle.stk_function_types.specs.Gathered.{gathered}
use Rattle.stk_function_types.proofs.Gathering.{gathered-marked_visits}
use Rattle.stk_spelling.specs.declared.names.Named.{Named}
use Rattle.stk_spelling.specs.Named.{parameters_named, visit_named, names_of}

pub names_made : (ty : Typing) (f : FunctionTree) (ps : ParamTrees) (ms : List MarkedVisit) (first all : List Named) → ps ≡ declared_parameters (head_of f) → ms ≡ marked_visits true (function_visits ty f)
    → first ≡ parameters_named ps → all ≡ first ++ gathered visit_named ms → all ≡ names_of ty f
names_made ty f ps ms first all parameters visits e g = rw (g, e, parameters, visits, gathered-marked_visits visit_named (function_visits ty f)) refl
