-- The basic type that words name, in any order (C11 6.7.2).
use Rattle.std.specs.Prelude.{Bool, true, false, List, [], ◌∷◌, Option, Some, None}
use Rattle.stk_tree.specs.declared.fixed.Fixed.{Fixed}
use Rattle.stk_tree.specs.declared.fixed.Fixed.TheVariants as fixed
use Rattle.stk_ctype.specs.declared.kind.IntKind.TheVariants as kind
use Rattle.stk_ctype.specs.Types.{TypeTree, void_type, integer_type}
use Rattle.stk_typing.specs.declared.specifiers.Width.{Width}
use Rattle.stk_typing.specs.declared.specifiers.Width.TheVariants as width
use Rattle.stk_typing.specs.declared.specifiers.Sign.{Sign}
use Rattle.stk_typing.specs.declared.specifiers.Sign.TheVariants as sign
use Rattle.stk_typing.specs.declared.specifiers.Specifiers.{Specifiers}

-- a word of its own, where none of its kind stands before it; `long` may stand twice
abbrev pub wider : Width → Width → Option Width
wider width.Plain w = Some w
wider width.Long width.Long = Some width.LongLong
wider before w = None

abbrev pub with_width : Width → Specifiers → Option Width → Option Specifiers
with_width w s None = None
with_width w s (Some both) = Some (record { width = both; sign = s.sign; int = s.int })

-- one more word for the sign
abbrev pub with_sign : Sign → Specifiers → Sign → Option Specifiers
with_sign new s sign.Unsaid = Some (record { width = s.width; sign = new; int = s.int })
with_sign new s sign.Signed = None
with_sign new s sign.Unsigned = None

-- one more `int`
abbrev pub with_int : Specifiers → Bool → Option Specifiers
with_int s false = Some (record { width = s.width; sign = s.sign; int = true })
with_int s true = None

-- words and one more behind them
abbrev pub added : Fixed → Specifiers → Option Specifiers
added fixed.Void s = with_width width.Void s (wider s.width width.Void)
added fixed.Bool s = with_width width.Bool s (wider s.width width.Bool)
added fixed.Char s = with_width width.Char s (wider s.width width.Char)
added fixed.Short s = with_width width.Short s (wider s.width width.Short)
added fixed.Long s = with_width width.Long s (wider s.width width.Long)
added fixed.Int s = with_int s s.int
added fixed.Signed s = with_sign sign.Signed s s.sign
added fixed.Unsigned s = with_sign sign.Unsigned s s.sign
added other s = None

-- the same, where the words before it say something together
abbrev pub said : Option Specifiers → Fixed → Option Specifiers
said None w = None
said (Some s) w = added w s

-- what words say behind others
abbrev pub specified_behind : Option Specifiers → List Fixed → Option Specifiers
specified_behind before [] = before
specified_behind before (w ∷ ws) = specified_behind (said before w) ws

-- no word
abbrev pub unsaid : Specifiers
unsaid = record { width = width.Plain; sign = sign.Unsaid; int = false }

-- the type of a width, a sign and whether `int` stands there
abbrev pub basic : Width → Sign → Bool → Option TypeTree
basic width.Void sign.Unsaid false = Some void_type
basic width.Bool sign.Unsaid false = Some (integer_type kind.Bool)
basic width.Char sign.Unsaid false = Some (integer_type kind.Char)
basic width.Char sign.Signed false = Some (integer_type kind.SChar)
basic width.Char sign.Unsigned false = Some (integer_type kind.UChar)
basic width.Short sign.Unsaid int = Some (integer_type kind.Short)
basic width.Short sign.Signed int = Some (integer_type kind.Short)
basic width.Short sign.Unsigned int = Some (integer_type kind.UShort)
basic width.Plain sign.Unsaid true = Some (integer_type kind.Int)
basic width.Plain sign.Signed int = Some (integer_type kind.Int)
basic width.Plain sign.Unsigned int = Some (integer_type kind.UInt)
basic width.Long sign.Unsaid int = Some (integer_type kind.Long)
basic width.Long sign.Signed int = Some (integer_type kind.Long)
basic width.Long sign.Unsigned int = Some (integer_type kind.ULong)
basic width.LongLong sign.Unsaid int = Some (integer_type kind.LLong)
basic width.LongLong sign.Signed int = Some (integer_type kind.LLong)
basic width.LongLong sign.Unsigned int = Some (integer_type kind.ULLong)
basic w s int = None

abbrev pub basic_of : Option Specifiers → Option TypeTree
basic_of None = None
basic_of (Some s) = basic s.width s.sign s.int

-- the basic type that words name, where they name one
abbrev pub basic_type : List Fixed → Option TypeTree
basic_type ws = basic_of (specified_behind (Some unsaid) ws)
