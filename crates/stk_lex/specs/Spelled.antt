-- Tokens by their spelling: the punctuators and words that skimming and cutting know, and the depth of brackets.
use Rattle.std.specs.Prelude.{ℕ, ◌+◌, ◌-◌, Bool, cond, List, [], ◌∷◌, codes}
use Rattle.std.specs.List.{list_any}
use Rattle.stk_base.specs.Text.{text_of, same_text}
use Rattle.stk_lex.specs.declared.token.Token.{Token}

-- whether a text is one of these
abbrev pub is_one_of : List (List ℕ) → List ℕ → Bool
is_one_of words text = list_any (λ word. same_text word text) words

-- ---- punctuators (C11 6.4.6)

-- the brackets that open
abbrev pub opening_punctuators : List (List ℕ)
opening_punctuators = codes "(" ∷ codes "[" ∷ codes "{" ∷ []

-- the brackets that close
abbrev pub closing_punctuators : List (List ℕ)
closing_punctuators = codes ")" ∷ codes "]" ∷ codes "}" ∷ []

-- whether a token is a bracket that opens
unfoldable pub opens : List ℕ → Token → Bool
opens bytes t = is_one_of opening_punctuators (text_of bytes t.span)

-- whether a token is a bracket that closes
unfoldable pub closes : List ℕ → Token → Bool
closes bytes t = is_one_of closing_punctuators (text_of bytes t.span)

-- whether a token is a `(`
unfoldable pub opens_parenthesis : List ℕ → Token → Bool
opens_parenthesis bytes t = same_text (codes "(") (text_of bytes t.span)

-- whether a token is a `)`
unfoldable pub closes_parenthesis : List ℕ → Token → Bool
closes_parenthesis bytes t = same_text (codes ")") (text_of bytes t.span)

-- whether a token is a `{`
unfoldable pub opens_brace : List ℕ → Token → Bool
opens_brace bytes t = same_text (codes "{") (text_of bytes t.span)

-- whether a token is a `}`
unfoldable pub closes_brace : List ℕ → Token → Bool
closes_brace bytes t = same_text (codes "}") (text_of bytes t.span)

-- whether a token is a `;`
unfoldable pub is_semicolon : List ℕ → Token → Bool
is_semicolon bytes t = same_text (codes ";") (text_of bytes t.span)

-- the depth behind a token, from the depth before it: a bracket that opens adds one, and one that closes takes one
-- away, but never below 0
unfoldable pub depth_behind : List ℕ → ℕ → Token → ℕ
depth_behind bytes depth t = cond (opens bytes t) (depth + 1) (cond (closes bytes t) (depth - 1) depth)

-- ---- words

-- qualifiers, storage classes and function specifiers that don't matter here (C11 6.7.1, 6.7.3, 6.7.4), and how
-- compilers spell them
abbrev pub dropped_words : List (List ℕ)
dropped_words =
    codes "auto" ∷ codes "const" ∷ codes "inline" ∷ codes "register" ∷ codes "restrict" ∷ codes "_Noreturn" ∷ codes "__const" ∷ codes "__const__"
    ∷ codes "__extension__" ∷ codes "__inline" ∷ codes "__inline__" ∷ codes "__restrict" ∷ codes "__restrict__" ∷ []

-- the words before a group of attributes
abbrev pub attribute_words : List (List ℕ)
attribute_words = codes "__attribute__" ∷ codes "__attribute" ∷ []

-- the words before inline assembly, or before the assembler's name of what is declared
abbrev pub assembly_words : List (List ℕ)
assembly_words = codes "asm" ∷ codes "__asm" ∷ codes "__asm__" ∷ []

-- the attributes that change what is declared, or what is done with it
abbrev pub changing_words : List (List ℕ)
changing_words =
    codes "packed" ∷ codes "aligned" ∷ codes "mode" ∷ codes "vector_size" ∷ codes "cleanup" ∷ codes "transparent_union"
    ∷ codes "__packed__" ∷ codes "__aligned__" ∷ codes "__mode__" ∷ codes "__vector_size__" ∷ codes "__cleanup__" ∷ codes "__transparent_union__" ∷ []

-- the attribute of a function that doesn't return
abbrev pub no_return_words : List (List ℕ)
no_return_words = codes "noreturn" ∷ codes "__noreturn__" ∷ []

-- whether a token is a word that is dropped
unfoldable pub is_dropped_word : List ℕ → Token → Bool
is_dropped_word bytes t = is_one_of dropped_words (text_of bytes t.span)

-- whether a token is a word before a group of attributes
unfoldable pub is_attribute_word : List ℕ → Token → Bool
is_attribute_word bytes t = is_one_of attribute_words (text_of bytes t.span)

-- whether a token is a word before inline assembly
unfoldable pub is_assembly_word : List ℕ → Token → Bool
is_assembly_word bytes t = is_one_of assembly_words (text_of bytes t.span)

-- whether a token is an attribute that changes what is declared
unfoldable pub is_changing_word : List ℕ → Token → Bool
is_changing_word bytes t = is_one_of changing_words (text_of bytes t.span)

-- whether a token is the attribute of a function that doesn't return
unfoldable pub is_no_return_word : List ℕ → Token → Bool
is_no_return_word bytes t = is_one_of no_return_words (text_of bytes t.span)

-- whether a token is the function specifier `_Noreturn` (C11 6.7.4p8)
unfoldable pub is_noreturn_specifier : List ℕ → Token → Bool
is_noreturn_specifier bytes t = same_text (codes "_Noreturn") (text_of bytes t.span)
