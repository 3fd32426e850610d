-- Names of parameters and local objects with their declarators, as far as they are in force.
use Rattle.std.specs.Prelude.{ℕ, if◌then◌else◌, List, [], ◌∷◌, ◌++◌, Option, Some, None}
use Rattle.stk_base.specs.declared.span.Span.{Span}
use Rattle.stk_base.specs.Text.{text_of, same_text}
use Rattle.stk_ctype.specs.Names.{later_of}
use Rattle.stk_tree.specs.Syntax.{DeclrTree, DeclrTrees, ParamTree, ParamTrees, DeclarationTree, StartTree, PartTree, PartTrees}
use Rattle.stk_tree.specs.Syntax as s
use Rattle.stk_address_taken.specs.declared.bindings.Binding.{Binding}

-- the declarator of the last binding of a name
abbrev pub find_binding : List ℕ → List ℕ → List Binding → Option ℕ
find_binding bytes name [] = None
find_binding bytes name (m ∷ ms) = later_of (if same_text (text_of bytes m.name) name then Some m.node else None) (find_binding bytes name ms)

-- a name with its declarator, where the declarator has a name
abbrev pub binding_named : ℕ → Option Span → List Binding
binding_named k None = []
binding_named k (Some at) = record { name = at; node = k } ∷ []

-- what a declarator brings into force
abbrev pub declarator_bindings : DeclrTree → List Binding
declarator_bindings (s.declarator node count at t i) = binding_named node.number at

abbrev pub declarators_bindings : DeclrTrees → List Binding
declarators_bindings s.no_declarators = []
declarators_bindings (s.then_declarator d ds) = declarator_bindings d ++ declarators_bindings ds

abbrev pub declaration_bindings : DeclarationTree → List Binding
declaration_bindings (s.declaration word b ds) = declarators_bindings ds

-- what the first part of a `for` brings into force, for the whole `for`
abbrev pub start_bindings : StartTree → List Binding
start_bindings (s.start_declaration d) = declaration_bindings d
start_bindings (s.start_expression e) = []

-- what a part of a block brings into force, for the rest of the block
abbrev pub part_bindings : PartTree → List Binding
part_bindings (s.local d) = declaration_bindings d
part_bindings (s.run x) = []

abbrev pub parts_bindings : PartTrees → List Binding
parts_bindings s.no_parts = []
parts_bindings (s.then_part p ps) = part_bindings p ++ parts_bindings ps

abbrev pub parameter_bindings : ParamTree → List Binding
parameter_bindings (s.parameter node b d) = declarator_bindings d

abbrev pub parameters_bindings : ParamTrees → List Binding
parameters_bindings s.no_parameters = []
parameters_bindings (s.then_parameter p ps) = parameter_bindings p ++ parameters_bindings ps
