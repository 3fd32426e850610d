-- How each reserved word and each punctuator is spelled (C11 6.4.1, 6.4.6, and the words that GNU C adds).
use Rattle.std.specs.Prelude.{ℕ, Bool, List, [], ◌∷◌, codes, get_or, nat_eq}
use Rattle.stk_tree.specs.declared.fixed.Fixed.{Fixed}
use Rattle.stk_tree.specs.declared.fixed.Fixed.TheVariants as fixed

-- the bytes of a reserved word or a punctuator
abbrev pub spelling_of : Fixed → List ℕ
spelling_of fixed.Auto = codes "auto"
spelling_of fixed.Break = codes "break"
spelling_of fixed.Case = codes "case"
spelling_of fixed.Char = codes "char"
spelling_of fixed.Const = codes "const"
spelling_of fixed.Continue = codes "continue"
spelling_of fixed.Default = codes "default"
spelling_of fixed.Do = codes "do"
spelling_of fixed.Double = codes "double"
spelling_of fixed.Else = codes "else"
spelling_of fixed.Enum = codes "enum"
spelling_of fixed.Extern = codes "extern"
spelling_of fixed.Float = codes "float"
spelling_of fixed.For = codes "for"
spelling_of fixed.Goto = codes "goto"
spelling_of fixed.If = codes "if"
spelling_of fixed.Inline = codes "inline"
spelling_of fixed.Int = codes "int"
spelling_of fixed.Long = codes "long"
spelling_of fixed.Register = codes "register"
spelling_of fixed.Restrict = codes "restrict"
spelling_of fixed.Return = codes "return"
spelling_of fixed.Short = codes "short"
spelling_of fixed.Signed = codes "signed"
spelling_of fixed.Sizeof = codes "sizeof"
spelling_of fixed.Static = codes "static"
spelling_of fixed.Struct = codes "struct"
spelling_of fixed.Switch = codes "switch"
spelling_of fixed.Typedef = codes "typedef"
spelling_of fixed.Union = codes "union"
spelling_of fixed.Unsigned = codes "unsigned"
spelling_of fixed.Void = codes "void"
spelling_of fixed.Volatile = codes "volatile"
spelling_of fixed.While = codes "while"
spelling_of fixed.Alignas = codes "_Alignas"
spelling_of fixed.Alignof = codes "_Alignof"
spelling_of fixed.Atomic = codes "_Atomic"
spelling_of fixed.Bool = codes "_Bool"
spelling_of fixed.Complex = codes "_Complex"
spelling_of fixed.Generic = codes "_Generic"
spelling_of fixed.Imaginary = codes "_Imaginary"
spelling_of fixed.Noreturn = codes "_Noreturn"
spelling_of fixed.StaticAssert = codes "_Static_assert"
spelling_of fixed.ThreadLocal = codes "_Thread_local"
spelling_of fixed.Asm = codes "asm"
spelling_of fixed.AsmPrefixed = codes "__asm"
spelling_of fixed.AsmWrapped = codes "__asm__"
spelling_of fixed.AttributePrefixed = codes "__attribute"
spelling_of fixed.AttributeWrapped = codes "__attribute__"
spelling_of fixed.Typeof = codes "typeof"
spelling_of fixed.TypeofPrefixed = codes "__typeof"
spelling_of fixed.TypeofWrapped = codes "__typeof__"
spelling_of fixed.VolatilePrefixed = codes "__volatile"
spelling_of fixed.VolatileWrapped = codes "__volatile__"
spelling_of fixed.LabelWrapped = codes "__label__"
spelling_of fixed.ThreadPrefixed = codes "__thread"
spelling_of fixed.SignedPrefixed = codes "__signed"
spelling_of fixed.SignedWrapped = codes "__signed__"
spelling_of fixed.AlignofWrapped = codes "__alignof__"
spelling_of fixed.IntWide = codes "__int128"
spelling_of fixed.BuiltinVaList = codes "__builtin_va_list"
spelling_of fixed.BuiltinVaArg = codes "__builtin_va_arg"
spelling_of fixed.BuiltinOffsetof = codes "__builtin_offsetof"
spelling_of fixed.BuiltinTypesCompatible = codes "__builtin_types_compatible_p"
spelling_of fixed.BuiltinChooseExpr = codes "__builtin_choose_expr"
spelling_of fixed.LeftBracket = codes "["
spelling_of fixed.RightBracket = codes "]"
spelling_of fixed.LeftParen = codes "("
spelling_of fixed.RightParen = codes ")"
spelling_of fixed.LeftBrace = codes "{"
spelling_of fixed.RightBrace = codes "}"
spelling_of fixed.Dot = codes "."
spelling_of fixed.Arrow = codes "->"
spelling_of fixed.PlusPlus = codes "++"
spelling_of fixed.MinusMinus = codes "--"
spelling_of fixed.Ampersand = codes "&"
spelling_of fixed.Star = codes "*"
spelling_of fixed.Plus = codes "+"
spelling_of fixed.Minus = codes "-"
spelling_of fixed.Tilde = codes "~"
spelling_of fixed.Exclamation = codes "!"
spelling_of fixed.Slash = codes "/"
spelling_of fixed.Percent = codes "%"
spelling_of fixed.LeftShift = codes "<<"
spelling_of fixed.RightShift = codes ">>"
spelling_of fixed.Less = codes "<"
spelling_of fixed.Greater = codes ">"
spelling_of fixed.LessEqual = codes "<="
spelling_of fixed.GreaterEqual = codes ">="
spelling_of fixed.EqualEqual = codes "=="
spelling_of fixed.NotEqual = codes "!="
spelling_of fixed.Caret = codes "^"
spelling_of fixed.Pipe = codes "|"
spelling_of fixed.AndAnd = codes "&&"
spelling_of fixed.OrOr = codes "||"
spelling_of fixed.Question = codes "?"
spelling_of fixed.Colon = codes ":"
spelling_of fixed.Semicolon = codes ";"
spelling_of fixed.Ellipsis = codes "..."
spelling_of fixed.Assign = codes "="
spelling_of fixed.StarAssign = codes "*="
spelling_of fixed.SlashAssign = codes "/="
spelling_of fixed.PercentAssign = codes "%="
spelling_of fixed.PlusAssign = codes "+="
spelling_of fixed.MinusAssign = codes "-="
spelling_of fixed.LeftShiftAssign = codes "<<="
spelling_of fixed.RightShiftAssign = codes ">>="
spelling_of fixed.AmpersandAssign = codes "&="
spelling_of fixed.CaretAssign = codes "^="
spelling_of fixed.PipeAssign = codes "|="
spelling_of fixed.Comma = codes ","

-- every reserved word and punctuator, once
abbrev pub every : List Fixed
every =
    fixed.Auto ∷ fixed.Break ∷ fixed.Case ∷ fixed.Char ∷ fixed.Const ∷ fixed.Continue ∷ fixed.Default ∷ fixed.Do ∷
    fixed.Double ∷ fixed.Else ∷ fixed.Enum ∷ fixed.Extern ∷ fixed.Float ∷ fixed.For ∷ fixed.Goto ∷ fixed.If ∷
    fixed.Inline ∷ fixed.Int ∷ fixed.Long ∷ fixed.Register ∷ fixed.Restrict ∷ fixed.Return ∷ fixed.Short ∷
    fixed.Signed ∷ fixed.Sizeof ∷ fixed.Static ∷ fixed.Struct ∷ fixed.Switch ∷ fixed.Typedef ∷ fixed.Union ∷
    fixed.Unsigned ∷ fixed.Void ∷ fixed.Volatile ∷ fixed.While ∷ fixed.Alignas ∷ fixed.Alignof ∷ fixed.Atomic ∷
    fixed.Bool ∷ fixed.Complex ∷ fixed.Generic ∷ fixed.Imaginary ∷ fixed.Noreturn ∷ fixed.StaticAssert ∷
    fixed.ThreadLocal ∷ fixed.Asm ∷ fixed.AsmPrefixed ∷ fixed.AsmWrapped ∷ fixed.AttributePrefixed ∷
    fixed.AttributeWrapped ∷ fixed.Typeof ∷ fixed.TypeofPrefixed ∷ fixed.TypeofWrapped ∷ fixed.VolatilePrefixed ∷
    fixed.VolatileWrapped ∷ fixed.LabelWrapped ∷ fixed.ThreadPrefixed ∷ fixed.SignedPrefixed ∷ fixed.SignedWrapped ∷
    fixed.AlignofWrapped ∷ fixed.IntWide ∷ fixed.BuiltinVaList ∷ fixed.BuiltinVaArg ∷ fixed.BuiltinOffsetof ∷
    fixed.BuiltinTypesCompatible ∷ fixed.BuiltinChooseExpr ∷ fixed.LeftBracket ∷ fixed.RightBracket ∷
    fixed.LeftParen ∷ fixed.RightParen ∷ fixed.LeftBrace ∷ fixed.RightBrace ∷ fixed.Dot ∷ fixed.Arrow ∷
    fixed.PlusPlus ∷ fixed.MinusMinus ∷ fixed.Ampersand ∷ fixed.Star ∷ fixed.Plus ∷ fixed.Minus ∷ fixed.Tilde ∷
    fixed.Exclamation ∷ fixed.Slash ∷ fixed.Percent ∷ fixed.LeftShift ∷ fixed.RightShift ∷ fixed.Less ∷
    fixed.Greater ∷ fixed.LessEqual ∷ fixed.GreaterEqual ∷ fixed.EqualEqual ∷ fixed.NotEqual ∷ fixed.Caret ∷
    fixed.Pipe ∷ fixed.AndAnd ∷ fixed.OrOr ∷ fixed.Question ∷ fixed.Colon ∷ fixed.Semicolon ∷ fixed.Ellipsis ∷
    fixed.Assign ∷ fixed.StarAssign ∷ fixed.SlashAssign ∷ fixed.PercentAssign ∷ fixed.PlusAssign ∷ fixed.MinusAssign ∷
    fixed.LeftShiftAssign ∷ fixed.RightShiftAssign ∷ fixed.AmpersandAssign ∷ fixed.CaretAssign ∷ fixed.PipeAssign ∷
    fixed.Comma ∷ []

-- whether a reserved word or punctuator begins with a byte
abbrev pub begins : ℕ → Fixed → Bool
begins byte f = nat_eq (get_or (spelling_of f) 0 0) byte
