-- What waits to be printed of an expression, and the tokens that it prints.
use Rattle.std.specs.Prelude.{ℕ, ◌+◌, ◌*◌, List, [], ◌∷◌, ◌++◌, length, map, Option, Some, None}
use Rattle.stk_tree.specs.declared.fixed.Lexeme.{Lexeme}
use Rattle.stk_tree.specs.View.{view_expression, view_type_name, view_base, view_dimension, view_member, view_enumerator, view_declarator, view_tail, view_parameter, view_initialiser, view_item, view_designator}
use Rattle.stk_tree.specs.View.{expressions, dimensions, members, enumerators, declarators, parameters, items, designators}
use Rattle.stk_tree.specs.Tokens.{texts, reserved, stars, expression_tokens, expressions_tokens, more_expressions, type_name_tokens, base_tokens, dimensions_tokens, members_tokens, enumerators_tokens, more_enumerators, declarator_tokens, declarators_tokens, more_declarators, tail_tokens, parameters_tokens, more_parameters, initialiser_tokens, items_tokens, more_items, designators_tokens}
use Rattle.stk_tree_walk.specs.declared.waiting.Waiting.{Waiting}
use Rattle.stk_tree_walk.specs.declared.waiting.Waiting.TheVariants as waiting

-- the tokens of what waits
abbrev pub tokens_of : Waiting → List Lexeme
tokens_of (waiting.Token t) = t ∷ []
tokens_of (waiting.Texts parts) = texts parts.now
tokens_of (waiting.Words words) = reserved words.now
tokens_of (waiting.Stars count) = stars count
tokens_of (waiting.Expression e) = expression_tokens (view_expression e.now)
tokens_of (waiting.Arguments list) = expressions_tokens (expressions (map view_expression list.now))
tokens_of (waiting.MoreArguments list) = more_expressions (expressions (map view_expression list.now))
tokens_of (waiting.Type t) = type_name_tokens (view_type_name t.now)
tokens_of (waiting.Base b) = base_tokens (view_base b.now)
tokens_of (waiting.Dimensions list) = dimensions_tokens (dimensions (map view_dimension list.now))
tokens_of (waiting.Members list) = members_tokens (members (map view_member list.now))
tokens_of (waiting.Enumerators list) = enumerators_tokens (enumerators (map view_enumerator list.now))
tokens_of (waiting.MoreEnumerators list) = more_enumerators (enumerators (map view_enumerator list.now))
tokens_of (waiting.Declarator d) = declarator_tokens (view_declarator d.now)
tokens_of (waiting.Declarators list) = declarators_tokens (declarators (map view_declarator list.now))
tokens_of (waiting.MoreDeclarators list) = more_declarators (declarators (map view_declarator list.now))
tokens_of (waiting.Tail t) = tail_tokens (view_tail t.now)
tokens_of (waiting.Parameters list) = parameters_tokens (parameters (map view_parameter list.now))
tokens_of (waiting.MoreParameters list) = more_parameters (parameters (map view_parameter list.now))
tokens_of (waiting.Initialiser x) = initialiser_tokens (view_initialiser x.now)
tokens_of (waiting.Items list) = items_tokens (items (map view_item list.now))
tokens_of (waiting.MoreItems list) = more_items (items (map view_item list.now))
tokens_of (waiting.Designators list) = designators_tokens (designators (map view_designator list.now))

-- the tokens of all that waits, the last one first
abbrev pub left_of : List Waiting → List Lexeme
left_of [] = []
left_of (x ∷ xs) = left_of xs ++ tokens_of x

-- how often what waits may be taken apart before it prints a token
abbrev pub heft_of : Waiting → ℕ
heft_of (waiting.Token t) = 1
heft_of (waiting.Texts parts) = 1
heft_of (waiting.Words words) = 1
heft_of (waiting.Stars count) = 1
heft_of (waiting.Expression e) = 1
heft_of (waiting.Arguments list) = 3
heft_of (waiting.MoreArguments list) = 1
heft_of (waiting.Type t) = 5
heft_of (waiting.Base b) = 2
heft_of (waiting.Dimensions list) = 1
heft_of (waiting.Members list) = 1 + 14 * length list.now
heft_of (waiting.Enumerators list) = 5
heft_of (waiting.MoreEnumerators list) = 1
heft_of (waiting.Declarator d) = 8
heft_of (waiting.Declarators list) = 10
heft_of (waiting.MoreDeclarators list) = 1
heft_of (waiting.Tail t) = 2
heft_of (waiting.Parameters list) = 12
heft_of (waiting.MoreParameters list) = 1
heft_of (waiting.Initialiser x) = 2
heft_of (waiting.Items list) = 6
heft_of (waiting.MoreItems list) = 1
heft_of (waiting.Designators list) = 1

abbrev pub heft : List Waiting → ℕ
heft [] = 0
heft (x ∷ xs) = heft_of x + heft xs

-- a token that there may be
abbrev pub given : Option Lexeme → List Lexeme
given None = []
given (Some t) = t ∷ []
