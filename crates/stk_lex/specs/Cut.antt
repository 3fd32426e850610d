-- The tokens of a text: its cut into the longest tokens (C11 6.4p4).
use Rattle.std.specs.Prelude.{◌≡◌, ℕ, ◌-◌, ◌<◌, ◌≤◌, Bool, true, false, ◌&&◌, ◌||◌, List, [], ◌∷◌, length, take, drop}
use Rattle.stk_base.specs.declared.token.Class.{Class}
use Rattle.stk_base.specs.declared.token.Class.TheVariants as classes
use Rattle.stk_lex.specs.declared.token.Token.{Token}
use Rattle.stk_lex.specs.Classes.{is_word, is_number, is_character, is_text, is_punctuator, is_digraph}
use Rattle.stk_lex.specs.Gaps.{line, begins, comment, gap, AreGaps}

-- no text at the front passes
abbrev pub NoneBegins : (List ℕ → Bool) → List ℕ → Type 0
NoneBegins test bytes = (n : ℕ) → test (take n bytes) ≡ false

-- the bytes begin with a quote, single or double
abbrev pub begins_quote : List ℕ → Bool
begins_quote bytes = begins 39 bytes || begins 34 bytes

-- the bytes begin with `/*`
abbrev pub begins_comment : List ℕ → Bool
begins_comment bytes = begins 47 bytes && begins 42 (drop 1 bytes)

-- a form that a text has by itself, whatever follows it
abbrev pub is_form : List ℕ → Bool
is_form bs = is_word bs || is_number bs || is_character bs || is_text bs || is_punctuator bs || is_digraph bs

-- The first n bytes are a stray: a digraph; a quote that no character and no text begins with, up to the end of its
-- line; a `/*` without end, up to the end of the bytes; or one byte that begins no token.
pub data IsStray (bytes : List ℕ) (n : ℕ) : Type 0 where
  digraph : is_digraph (take n bytes) ≡ true → IsStray bytes n
  open_quote : begins_quote bytes ≡ true → NoneBegins is_character bytes → NoneBegins is_text bytes → n ≡ line bytes → IsStray bytes n
  open_comment : begins_comment bytes ≡ true → comment (drop 2 bytes) ≡ 0 → n ≡ length bytes → IsStray bytes n
  byte : NoneBegins is_form bytes → begins_quote bytes ≡ false → n ≡ 1 → IsStray bytes n

-- the first n bytes are in a class
abbrev pub InClass : Class → List ℕ → ℕ → Type 0
InClass classes.Word bytes n = is_word (take n bytes) ≡ true
InClass classes.Number bytes n = is_number (take n bytes) ≡ true
InClass classes.Character bytes n = is_character (take n bytes) ≡ true
InClass classes.Text bytes n = is_text (take n bytes) ≡ true
InClass classes.Punctuator bytes n = is_punctuator (take n bytes) ≡ true
InClass classes.Stray bytes n = IsStray bytes n

-- the first n bytes are in this class, and no longer text at the front is in any class
pub record IsFirst (bytes : List ℕ) (class : Class) (n : ℕ) : Type 0 where
  pub within : (0 < n) × (n ≤ length bytes)
  pub in_class : InClass class bytes n
  pub longest : (other : Class) (m : ℕ) → n < m → m ≤ length bytes → InClass other bytes m → ⊥

-- a token stands where the text has it
abbrev pub IsToken : List ℕ → Token → Type 0
IsToken text t = IsFirst (drop t.span.from text) t.class (t.span.to - t.span.from)

-- from a place on, the text is gaps and these tokens, and no gap begins where a token does
abbrev pub IsCutFrom : List ℕ → ℕ → List Token → Type 0
IsCutFrom text at [] = AreGaps text at (length text)
IsCutFrom text at (t ∷ ts) = AreGaps text at t.span.from × (gap text t.span.from ≡ 0) × IsToken text t × IsCutFrom text t.span.to ts

-- the text is gaps and these tokens
abbrev pub IsCut : List ℕ → List Token → Type 0
IsCut text ts = IsCutFrom text 0 ts

-- behind a place, the spans lie in a text of this length, each behind the one before, and none is empty
abbrev pub AreSpans : ℕ → ℕ → List Token → Type 0
AreSpans size at [] = at ≤ size
AreSpans size at (t ∷ ts) = (at ≤ t.span.from) × (t.span.from < t.span.to) × AreSpans size t.span.to ts
