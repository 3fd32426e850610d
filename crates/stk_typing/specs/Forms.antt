-- The rules of forms by how many operands they have.
use Rattle.stk_base.specs.Text.{text_of}
use Rattle.stk_ctype.specs.Structs.{Structs, structs_of}
use Rattle.stk_tree.specs.Syntax.{ExprFormTree}
use Rattle.stk_tree.specs.Syntax as s
use Rattle.stk_type_rules.specs.Facts.{Fact, Ruled, Breaks}
use Rattle.stk_type_rules.specs.Rules.{paren_rule, dot_rule, arrow_rule, step_rule, unary_rule, index_rule, binary_rule, assign_rule}
use Rattle.stk_typing.specs.Scope.{Scope}
use Rattle.stk_typing.specs.Literals.{number_rule, character_rule, text_rule}
use Rattle.stk_typing.specs.Scope.{name_rule}

-- the structs that names have
abbrev pub structs_in : Scope → Structs
structs_in scope = structs_of scope.entries

-- a form without operands
abbrev pub leaf_rule : Scope → ExprFormTree → Ruled
leaf_rule scope (s.name at) = name_rule scope (text_of scope.bytes at)
leaf_rule scope (s.number at) = number_rule (text_of scope.bytes at)
leaf_rule scope (s.character at) = character_rule (text_of scope.bytes at)
leaf_rule scope (s.text parts) = text_rule scope.bytes parts
leaf_rule scope other = Breaks 6

-- a form with one operand
abbrev pub single_rule : Scope → ExprFormTree → Fact → Ruled
single_rule scope (s.paren e) x = paren_rule x
single_rule scope (s.dot e at) x = dot_rule (structs_in scope) x (text_of scope.bytes at)
single_rule scope (s.arrow e at) x = arrow_rule (structs_in scope) x (text_of scope.bytes at)
single_rule scope (s.step op e) x = step_rule (structs_in scope) x
single_rule scope (s.unary op e) x = unary_rule (structs_in scope) op x
single_rule scope other x = Breaks 6

-- a form with two operands
abbrev pub pair_rule : Scope → ExprFormTree → Fact → Fact → Ruled
pair_rule scope (s.index a b) x y = index_rule (structs_in scope) x y
pair_rule scope (s.binary op a b) x y = binary_rule (structs_in scope) op x y
pair_rule scope (s.assign op a b) x y = assign_rule (structs_in scope) op x y
pair_rule scope other x y = Breaks 6
