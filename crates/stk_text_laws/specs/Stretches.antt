-- Skimming by stretches: the tokens of a file are, one behind the other, tokens that are kept and stretches that are
-- dropped, a word by itself or a word with the group behind it.
use Rattle.std.specs.Prelude.{◌≡◌, ℕ, ◌<◌, true, false, List, [], ◌∷◌, ◌++◌}
use Rattle.std.specs.List.{list_any}
use Rattle.stk_lex.specs.declared.token.Token.{Token}
use Rattle.stk_lex.specs.Spelled.{opens_parenthesis, depth_behind, is_dropped_word, is_attribute_word, is_assembly_word, is_changing_word}
use Rattle.stk_lex.specs.Skimming.{note_of, kept_tokens, notes_of}

-- from a depth on, these tokens bring it back to 0, and only the last one does
unfoldable pub Closes : List ℕ → ℕ → List Token → Type 0
Closes bytes depth [] = ⊥
Closes bytes depth (t ∷ []) = depth_behind bytes depth t ≡ 0
Closes bytes depth (t ∷ ts) = (0 < depth_behind bytes depth t) × Closes bytes (depth_behind bytes depth t) ts

-- a `(`, and the tokens up to the bracket that closes it
unfoldable pub IsGroup : List ℕ → List Token → Type 0
IsGroup bytes [] = ⊥
IsGroup bytes (t ∷ ts) = (opens_parenthesis bytes t ≡ true) × Closes bytes 1 ts

-- What is dropped at a depth: a word that doesn't matter; an attribute word with its group, where no attribute in it
-- changes what is declared; and at depth 0 an assembly word with its group.
pub data IsDropped (bytes : List ℕ) (depth : ℕ) : List Token → Type 0 where
  word : {t : Token} → is_dropped_word bytes t ≡ true → IsDropped bytes depth (t ∷ [])
  attribute : {t : Token} {group : List Token} → is_dropped_word bytes t ≡ false → is_attribute_word bytes t ≡ true → IsGroup bytes group → list_any (is_changing_word bytes) group ≡ false
      → IsDropped bytes depth (t ∷ group)
  assembly : {t : Token} {group : List Token} → is_dropped_word bytes t ≡ false → depth ≡ 0 → is_assembly_word bytes t ≡ true → IsGroup bytes group → IsDropped bytes depth (t ∷ group)

-- no stretch is dropped at the front of these tokens
abbrev pub NoneDropped : List ℕ → ℕ → List Token → Type 0
NoneDropped bytes depth ts = (stretch rest : List Token) → ts ≡ stretch ++ rest → IsDropped bytes depth stretch → ⊥

-- The tokens that are kept and the notes, from a depth on. Only kept tokens count for the depth: a dropped group brings
-- it back.
pub data IsSkimmed (bytes : List ℕ) : ℕ → List Token → List Token → List ℕ → Type 0 where
  ends : {depth : ℕ} → IsSkimmed bytes depth [] [] []
  keeps : {depth : ℕ} {t : Token} {ts kept : List Token} {notes : List ℕ} → NoneDropped bytes depth (t ∷ ts) → IsSkimmed bytes (depth_behind bytes depth t) ts kept notes
      → IsSkimmed bytes depth (t ∷ ts) (t ∷ kept) notes
  drops : {depth : ℕ} {stretch rest kept : List Token} {notes : List ℕ} → IsDropped bytes depth stretch → IsSkimmed bytes depth rest kept notes
      → IsSkimmed bytes depth (stretch ++ rest) kept (note_of bytes depth stretch ++ notes)

-- what skimming keeps and notes is so
abbrev pub SkimmingByStretches : Type 0
SkimmingByStretches = (bytes : List ℕ) (tokens : List Token) → IsSkimmed bytes 0 tokens (kept_tokens bytes tokens) (notes_of bytes tokens)

-- nothing else is so
abbrev pub OneSkimming : Type 0
OneSkimming = (bytes : List ℕ) (tokens kept : List Token) (notes : List ℕ) → IsSkimmed bytes 0 tokens kept notes → (kept ≡ kept_tokens bytes tokens) × (notes ≡ notes_of bytes tokens)
