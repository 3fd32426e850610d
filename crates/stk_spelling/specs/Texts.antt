-- How the keys of a function are spelled in records.
use Rattle.std.specs.Prelude.{ℕ, min, List, [], ◌++◌, length, Option, Some, None, codes, decimal}
use Rattle.stk_base.specs.declared.span.Span.{Span}
use Rattle.stk_base.specs.declared.token.Place.{Place}
use Rattle.stk_base.specs.Text.{text_of}
use Rattle.stk_lex.specs.Placing.{place_of}
use Rattle.stk_meaning.specs.Keys.{Key, parameter_key, address_key, unset_key, load_key, call_key, loop_key, KeyInfo}
use Rattle.stk_spelling.specs.declared.names.Named.{Named}
use Rattle.stk_spelling.specs.Named.{name_among}
use Rattle.stk_spelling.specs.Placed.{Placed, span_at}

-- the line and the column of a byte, behind a word; behind the input they are those of its end
abbrev pub position_text : List ℕ → List ℕ → ℕ → List ℕ
position_text bytes word at =
    let p : Place = place_of bytes (min (length bytes) at) in
    word ++ codes "@" ++ decimal p.line ++ codes ":" ++ decimal p.column

-- those of the beginning of a node
abbrev pub node_text : Placed → List ℕ → ℕ → List ℕ
node_text q word k = position_text q.bytes word (span_at q k).from

-- the name of an object or register
abbrev pub name_text : List ℕ → Option Span → List ℕ
name_text bytes None = []
name_text bytes (Some at) = text_of bytes at

-- the address of an object by its name; of a string by where it stands
abbrev pub address_text : Placed → ℕ → Option Span → List ℕ
address_text q k None = node_text q (codes "string") k
address_text q k (Some at) = codes "&" ++ text_of q.bytes at

-- a key: the name of a parameter; `&NAME` or `string@LINE:COLUMN` for an address; `NAME@LINE:COLUMN` for a register
-- without initialiser; `load@..`, `call@..`; and `loop@LINE:COLUMN.NAME` for a register that a loop sets first
abbrev pub keyed : Placed → List Named → Key → Option Span → List ℕ
keyed q names (parameter_key k) at = name_text q.bytes at
keyed q names (address_key k) at = address_text q k at
keyed q names (unset_key k) at = node_text q (name_text q.bytes at) k
keyed q names (load_key k) at = node_text q (codes "load") k
keyed q names (call_key k) at = node_text q (codes "call") k
keyed q names (loop_key k j) at = node_text q (codes "loop") k ++ codes "." ++ name_text q.bytes (name_among j names)

abbrev pub key_text : Placed → List Named → KeyInfo → List ℕ
key_text q names x = keyed q names x.key x.name
