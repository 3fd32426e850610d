-- Skimming: the tokens of a file without the words and groups that don't matter here, and notes of those that say that
-- a function doesn't return.
use Rattle.std.specs.Prelude.{ℕ, zero, suc, ◌-◌, ◌≤◌, Bool, false, cond, ◌&&◌, ◌||◌, ◌==◌, not, List, [], ◌∷◌, ◌++◌, take}
use Rattle.std.specs.List.{list_any}
use Rattle.stk_lex.specs.declared.token.Token.{Token}
use Rattle.stk_lex.specs.Gaps.{one_more}
use Rattle.stk_lex.specs.Spelled.{opens_parenthesis, depth_behind, is_dropped_word, is_attribute_word, is_assembly_word, is_changing_word, is_no_return_word, is_noreturn_specifier}

-- how many tokens stand up to the bracket that brings a depth back to 0, that bracket included; 0 where none does
unfoldable pub closing : List ℕ → ℕ → List Token → ℕ
closing bytes depth [] = 0
closing bytes depth (t ∷ ts) = cond (depth_behind bytes depth t == 0) 1 (one_more (closing bytes (depth_behind bytes depth t) ts))

-- how many tokens the group has that a `(` begins at the front, up to the bracket that brings the depth back; 0 where
-- no `(` stands there or no bracket does
unfoldable pub group : List ℕ → List Token → ℕ
group bytes [] = 0
group bytes (t ∷ ts) = cond (opens_parenthesis bytes t) (one_more (closing bytes 1 ts)) 0

-- whether a word drops the group behind it: an attribute word, unless the group holds an attribute that changes what is
-- declared, and at depth 0 an assembly word
abbrev pub drops_group : List ℕ → ℕ → Token → List Token → Bool
drops_group bytes depth t ts =
    is_attribute_word bytes t && not (list_any (is_changing_word bytes) (take (group bytes ts) ts)) || depth == 0 && is_assembly_word bytes t

-- how many tokens are dropped at the front: a dropped word by itself, or a word with the group behind it; 0 where the
-- first token is kept
unfoldable pub dropped : List ℕ → ℕ → List Token → ℕ
dropped bytes depth [] = 0
dropped bytes depth (t ∷ ts) = cond (is_dropped_word bytes t) 1 (cond (drops_group bytes depth t ts) (one_more (group bytes ts)) 0)

-- whether dropped tokens say that a function doesn't return: the specifier `_Noreturn` (C11 6.7.4p8), or an attribute
unfoldable pub says_no_return : List ℕ → List Token → Bool
says_no_return bytes [] = false
says_no_return bytes (t ∷ ts) = is_noreturn_specifier bytes t || is_attribute_word bytes t && list_any (is_no_return_word bytes) ts

-- the note of dropped tokens: the byte at which they begin, if they stand at depth 0 and say so
unfoldable pub note_of : List ℕ → ℕ → List Token → List ℕ
note_of bytes depth [] = []
note_of bytes depth (t ∷ ts) = cond (depth == 0 && says_no_return bytes (t ∷ ts)) (t.span.from ∷ []) []

-- The tokens that skimming keeps, from a depth on, where the first n are dropped already. A dropped word has no
-- bracket, and a dropped group brings the depth back, so only what is kept counts for the depth.
unfoldable pub kept : List ℕ → List Token → ℕ → ℕ → List Token
kept bytes [] depth n = []
kept bytes (t ∷ ts) depth (suc n) = kept bytes ts depth n
kept bytes (t ∷ ts) depth zero =
    cond (dropped bytes depth (t ∷ ts) == 0) (t ∷ kept bytes ts (depth_behind bytes depth t) 0) (kept bytes ts depth (dropped bytes depth (t ∷ ts) - 1))

-- the notes of what skimming drops, in the same way
unfoldable pub noted : List ℕ → List Token → ℕ → ℕ → List ℕ
noted bytes [] depth n = []
noted bytes (t ∷ ts) depth (suc n) = noted bytes ts depth n
noted bytes (t ∷ ts) depth zero =
    cond (dropped bytes depth (t ∷ ts) == 0) (noted bytes ts (depth_behind bytes depth t) 0)
    (note_of bytes depth (take (dropped bytes depth (t ∷ ts)) (t ∷ ts)) ++ noted bytes ts depth (dropped bytes depth (t ∷ ts) - 1))

-- the tokens of a file that skimming keeps
abbrev pub kept_tokens : List ℕ → List Token → List Token
kept_tokens bytes tokens = kept bytes tokens 0 0

-- the notes of a file: where the dropped words begin, outside of brackets, that say that a function doesn't return
abbrev pub notes_of : List ℕ → List Token → List ℕ
notes_of bytes tokens = noted bytes tokens 0 0

-- behind a place, positions that don't go back
abbrev pub ArePositions : ℕ → List ℕ → Type 0
ArePositions at [] = Unit {0}
ArePositions at (n ∷ ns) = (at ≤ n) × ArePositions n ns
