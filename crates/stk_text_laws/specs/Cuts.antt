-- Laws of the cut of a text into tokens, and of the punctuators among them.
use Rattle.std.specs.Prelude.{◌≡◌, ℕ, true, List}
use Rattle.stk_lex.specs.declared.token.Token.{Token}
use Rattle.stk_lex.specs.Classes.{is_punctuator}
use Rattle.stk_lex.specs.Cut.{IsCut}
use Rattle.stk_tree.specs.declared.fixed.Fixed.{Fixed}
use Rattle.stk_tree.specs.Spelling.{spelling_of}

-- each text is gaps and some tokens (C11 6.4p4)
abbrev pub EachTextHasACut : Type 0
EachTextHasACut = (text : List ℕ) → (tokens : List Token) × IsCut text tokens

-- each punctuator without the digraphs is a punctuator of the grammar (C11 6.4.6)
abbrev pub EachPunctuatorIsFixed : Type 0
EachPunctuatorIsFixed = (text : List ℕ) → is_punctuator text ≡ true → (f : Fixed) × (spelling_of f ≡ text)
