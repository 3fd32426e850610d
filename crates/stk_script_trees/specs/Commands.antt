-- The script that tokens are, by a function: command by command.
use Rattle.std.specs.Prelude.{ℕ, zero, suc, Bool, true, false, List, [], ◌∷◌, length, Option, Some, None, if◌then◌else◌, codes}
use Rattle.stk_base.specs.Text.{same_text}
use Rattle.stk_scripts.specs.Syntax.{Declared, Defined, Script}
use Rattle.stk_scripts.specs.Tokens.{Token, opening, closing, word}
use Rattle.stk_scripts.specs.Lexing.{lexed, between}
use Rattle.stk_scripts.specs.Numerals.{numeral}
use Rattle.stk_scripts.specs.Reading.{Front, ◌>>=◌, worded, Test, read_term, read_test}
use Rattle.stk_script_trees.specs.Fronts.{closing_front, word_front}

-- the tokens behind `(`
abbrev pub opening_front : List Token → Option (List Token)
opening_front [] = None
opening_front (opening ∷ ts) = Some ts
opening_front (closing ∷ ts) = None
opening_front (word w ∷ ts) = None

-- the tokens behind a word
abbrev pub expected : List ℕ → List Token → Option (List Token)
expected w [] = None
expected w (opening ∷ ts) = None
expected w (closing ∷ ts) = None
expected w (word v ∷ ts) = if same_text w v then Some ts else None

-- the tokens behind `(` and a word
abbrev pub command_front : List ℕ → List Token → Option (List Token)
command_front w ts = do
  behind ← opening_front ts
  expected w behind

-- the tokens behind `()`
abbrev pub empty_front : List Token → Option (List Token)
empty_front ts = do
  behind ← opening_front ts
  closing_front behind

-- the width of `(_ BitVec W)`
abbrev pub read_sort : List Token → Front ℕ
read_sort ts = do
  behind ← command_front (codes "_") ts
  inside ← expected (codes "BitVec") behind
  width ← worded numeral inside
  rest ← closing_front width.1
  Some (width.0, rest)

-- `NAME () SORT`
abbrev pub read_named : List Token → Front Declared
read_named ts = do
  name ← word_front ts
  behind ← empty_front name.1
  width ← read_sort behind
  Some (record { name = name.0; width = width.0 }, width.1)

-- a declaration behind `(declare-fun`
abbrev pub read_declared : List Token → Front Declared
read_declared ts = do
  d ← read_named ts
  rest ← closing_front d.1
  Some (d.0, rest)

-- a definition behind `(define-fun`, whose term is at most so deep
abbrev pub read_defined : ℕ → List Token → Front Defined
read_defined most ts = do
  d ← read_named ts
  body ← read_term most d.1
  rest ← closing_front body.1
  Some (record { name = d.0.name; width = d.0.width; body = body.0 }, rest)

module _ {A : Type 0} where
  -- a value in front of others
  abbrev pub in_front : A → Front (List A) → Front (List A)
  in_front x None = None
  in_front x (Some y) = Some (x ∷ y.0, y.1)

  -- the next command, and those behind it by a function
  abbrev pub command_then : (List Token → Front A) → (List Token → Front (List A)) → List Token → Front (List A)
  command_then read more behind = do
    x ← read behind
    in_front x.0 (more x.1)

  -- where no command of this word stands, there are none more
  abbrev pub commands_step : (List Token → Front A) → (List Token → Front (List A)) → List Token → Option (List Token) → Front (List A)
  commands_step read more ts None = Some ([], ts)
  commands_step read more ts (Some behind) = command_then read more behind

  -- the commands of a word in a row, fewer than so many
  abbrev pub commands_at : List ℕ → (List Token → Front A) → ℕ → List Token → Front (List A)
  commands_at w read zero ts = None
  commands_at w read (suc n) ts = commands_step read (commands_at w read n) ts (command_front w ts)

-- all of them
abbrev pub declarations : List Token → Front (List Declared)
declarations ts = commands_at (codes "declare-fun") read_declared (suc (length ts)) ts

abbrev pub definitions : ℕ → List Token → Front (List Defined)
definitions most ts = commands_at (codes "define-fun") (read_defined most) (suc (length ts)) ts

-- the tokens behind `(set-logic QF_BV)`
abbrev pub logic_front : List Token → Option (List Token)
logic_front ts = do
  behind ← command_front (codes "set-logic") ts
  inside ← expected (codes "QF_BV") behind
  closing_front inside

-- the comparison of `(assert TEST)`
abbrev pub read_assert : ℕ → List Token → Front Test
read_assert most ts = do
  behind ← command_front (codes "assert") ts
  t ← read_test most behind
  rest ← closing_front t.1
  Some (t.0, rest)

-- no tokens
abbrev pub ended : List Token → Option Bool
ended [] = Some true
ended (t ∷ ts) = None

-- `(check-sat)` and the end
abbrev pub read_end : List Token → Option Bool
read_end ts = do
  behind ← command_front (codes "check-sat") ts
  rest ← closing_front behind
  ended rest

-- the script behind its logic
abbrev pub read_behind : ℕ → Bool → List Token → Option Script
read_behind most logic ts = do
  ds ← declarations ts
  es ← definitions most ds.1
  t ← read_assert most es.1
  end ← read_end t.1
  Some (record { has_logic = logic; declared = ds.0; defined = es.0; test = t.0.op; left = t.0.left; right = t.0.right })

abbrev pub read_after : ℕ → List Token → Option (List Token) → Option Script
read_after most ts None = read_behind most false ts
read_after most ts (Some behind) = read_behind most true behind

-- the script that tokens are, with terms at most so deep
abbrev pub read_tokens : ℕ → List Token → Option Script
read_tokens most ts = read_after most ts (logic_front ts)

-- the script that a text spells
abbrev pub read_text : ℕ → List ℕ → Option Script
read_text most bytes = lexed bytes between >>= read_tokens most
