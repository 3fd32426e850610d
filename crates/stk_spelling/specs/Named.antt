-- The names of a function's parameters and local objects.
use Rattle.std.specs.Prelude.{ℕ, ◌==◌, if◌then◌else◌, List, [], ◌∷◌, ◌++◌, Option, None}
use Rattle.stk_base.specs.declared.span.Span.{Span}
use Rattle.stk_tree.specs.Syntax.{DeclrTree, ParamTree, ParamTrees, FunctionTree}
use Rattle.stk_tree.specs.Syntax as s
use Rattle.stk_tree.specs.Parts.{declared_parameters}
use Rattle.stk_meaning.specs.Typings.{Typing}
use Rattle.stk_meaning.specs.Visits.{Visit, at_expression, at_declarator, at_statement, at_section, collected}
use Rattle.stk_meaning.specs.Keys.{function_visits, head_of, parameter_declarator}
use Rattle.stk_spelling.specs.declared.names.Named.{Named}

-- a declarator with its name
abbrev pub named : DeclrTree → Named
named (s.declarator n count at tail init) = record { node = n.number; name = at }

abbrev pub parameters_named : ParamTrees → List Named
parameters_named s.no_parameters = []
parameters_named (s.then_parameter p ps) = named (parameter_declarator p) ∷ parameters_named ps

abbrev pub visit_named : Visit → List Named
visit_named (at_expression k role f) = []
visit_named (at_declarator k static at init) = record { node = k; name = at } ∷ []
visit_named (at_statement k arm f) = []
visit_named (at_section k ls) = []

-- the parameters of a function, and its local objects
abbrev pub names_of : Typing → FunctionTree → List Named
names_of ty f = parameters_named (declared_parameters (head_of f)) ++ collected visit_named (function_visits ty f)

-- the name of the declarator with this node
abbrev pub name_among : ℕ → List Named → Option Span
name_among k [] = None
name_among k (x ∷ xs) = if x.node == k then x.name else name_among k xs
