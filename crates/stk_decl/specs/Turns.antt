-- How a row of elements goes on, told by the tokens behind an element.
use Rattle.std.specs.Prelude.{true, false, List, Option, Some, None}
use Rattle.stk_tree.specs.declared.fixed.Lexeme.{Lexeme}
use Rattle.stk_grammar.specs.Reading.{Found, behind_comma, behind_right_brace, behind_right_paren, behind_semicolon}
use Rattle.stk_grammar.specs.DeclarationReading.{more_ends}
use Rattle.stk_decl.specs.declared.turns.Turn.{Turn}
use Rattle.stk_decl.specs.declared.turns.Turn.TheVariants.{End, More}

-- the end of a row, where its last punctuator stands
abbrev pub ended : Option (List Lexeme) → Found Turn
ended None = None
ended (Some rest) = Some (End false, rest)

-- behind a comma: the end of the row, where its last punctuator stands, and else one more element
abbrev pub behind_comma_on : Option (List Lexeme) → List Lexeme → Found Turn
behind_comma_on None next = Some (More, next)
behind_comma_on (Some rest) next = Some (End true, rest)

abbrev pub brace_on : Option (List Lexeme) → List Lexeme → Found Turn
brace_on None ts = ended (behind_right_brace ts)
brace_on (Some next) ts = behind_comma_on (behind_right_brace next) next

-- behind an enumerator, or an item of an initialiser's braces: `}`, `, }`, or a comma and one more
abbrev pub brace_turn : List Lexeme → Found Turn
brace_turn ts = brace_on (behind_comma ts) ts

abbrev pub parameter_on : Option (List Lexeme) → List Lexeme → Found Turn
parameter_on None ts = ended (behind_right_paren ts)
parameter_on (Some next) ts = behind_comma_on (more_ends next) next

-- behind a parameter: `)`, `, ... )`, or a comma and one more
abbrev pub parameter_turn : List Lexeme → Found Turn
parameter_turn ts = parameter_on (behind_comma ts) ts

abbrev pub declarator_on : Option (List Lexeme) → List Lexeme → Found Turn
declarator_on None ts = ended (behind_semicolon ts)
declarator_on (Some next) ts = Some (More, next)

-- behind a declarator: `;`, or a comma and one more
abbrev pub declarator_turn : List Lexeme → Found Turn
declarator_turn ts = declarator_on (behind_comma ts) ts
