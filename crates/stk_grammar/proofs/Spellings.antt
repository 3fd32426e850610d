-- The reserved word or punctuator with a text is the one that is spelled so.
use Rattle.std.proofs.Common.{◌≡◌, ℕ, Bool, true, false, cond, List, [], ◌∷◌, Option, Some, None, refl, sym, ap, ◌∙◌}
use Rattle.std.specs.Prelude.{◌≢◌, IfSome, IfNone}
use Rattle.std.specs.List.{find}
use Rattle.std.specs.Str.{bytes_eq}
use Rattle.std.proofs.lemmas.Slice.Eq.{bytes_eq-Decides}
use Rattle.stk_tree.specs.Spelling.{every, spelling_of}
use Rattle.stk_tree.specs.declared.fixed.Fixed.{Fixed}
use Rattle.stk_tree.specs.declared.fixed.Fixed.TheVariants as fixed
use Rattle.stk_grammar.specs.Lexemes.{fixed_of}

-- each is found by its own spelling
found : (f : Fixed) → find (λ g. bytes_eq (spelling_of f) (spelling_of g)) every ≡ Some f
found fixed.Auto = refl
found fixed.Break = refl
found fixed.Case = refl
found fixed.Char = refl
found fixed.Const = refl
found fixed.Continue = refl
found fixed.Default = refl
found fixed.Do = refl
found fixed.Double = refl
found fixed.Else = refl
found fixed.Enum = refl
found fixed.Extern = refl
found fixed.Float = refl
found fixed.For = refl
found fixed.Goto = refl
found fixed.If = refl
found fixed.Inline = refl
found fixed.Int = refl
found fixed.Long = refl
found fixed.Register = refl
found fixed.Restrict = refl
found fixed.Return = refl
found fixed.Short = refl
found fixed.Signed = refl
found fixed.Sizeof = refl
found fixed.Static = refl
found fixed.Struct = refl
found fixed.Switch = refl
found fixed.Typedef = refl
found fixed.Union = refl
found fixed.Unsigned = refl
found fixed.Void = refl
found fixed.Volatile = refl
found fixed.While = refl
found fixed.Alignas = refl
found fixed.Alignof = refl
found fixed.Atomic = refl
found fixed.Bool = refl
found fixed.Complex = refl
found fixed.Generic = refl
found fixed.Imaginary = refl
found fixed.Noreturn = refl
found fixed.StaticAssert = refl
found fixed.ThreadLocal = refl
found fixed.Asm = refl
found fixed.AsmPrefixed = refl
found fixed.AsmWrapped = refl
found fixed.AttributePrefixed = refl
found fixed.AttributeWrapped = refl
found fixed.Typeof = refl
found fixed.TypeofPrefixed = refl
found fixed.TypeofWrapped = refl
found fixed.VolatilePrefixed = refl
found fixed.VolatileWrapped = refl
found fixed.LabelWrapped = refl
found fixed.ThreadPrefixed = refl
found fixed.SignedPrefixed = refl
found fixed.SignedWrapped = refl
found fixed.AlignofWrapped = refl
found fixed.IntWide = refl
found fixed.BuiltinVaList = refl
found fixed.BuiltinVaArg = refl
found fixed.BuiltinOffsetof = refl
found fixed.BuiltinTypesCompatible = refl
found fixed.BuiltinChooseExpr = refl
found fixed.LeftBracket = refl
found fixed.RightBracket = refl
found fixed.LeftParen = refl
found fixed.RightParen = refl
found fixed.LeftBrace = refl
found fixed.RightBrace = refl
found fixed.Dot = refl
found fixed.Arrow = refl
found fixed.PlusPlus = refl
found fixed.MinusMinus = refl
found fixed.Ampersand = refl
found fixed.Star = refl
found fixed.Plus = refl
found fixed.Minus = refl
found fixed.Tilde = refl
found fixed.Exclamation = refl
found fixed.Slash = refl
found fixed.Percent = refl
found fixed.LeftShift = refl
found fixed.RightShift = refl
found fixed.Less = refl
found fixed.Greater = refl
found fixed.LessEqual = refl
found fixed.GreaterEqual = refl
found fixed.EqualEqual = refl
found fixed.NotEqual = refl
found fixed.Caret = refl
found fixed.Pipe = refl
found fixed.AndAnd = refl
found fixed.OrOr = refl
found fixed.Question = refl
found fixed.Colon = refl
found fixed.Semicolon = refl
found fixed.Ellipsis = refl
found fixed.Assign = refl
found fixed.StarAssign = refl
found fixed.SlashAssign = refl
found fixed.PercentAssign = refl
found fixed.PlusAssign = refl
found fixed.MinusAssign = refl
found fixed.LeftShiftAssign = refl
found fixed.RightShiftAssign = refl
found fixed.AmpersandAssign = refl
found fixed.CaretAssign = refl
found fixed.PipeAssign = refl
found fixed.Comma = refl

none_on : (b : Bool) (x : Fixed) (r : Option Fixed) → (b ≡ true → ⊥) → r ≡ None → cond b (Some x) r ≡ None
none_on true x r h e = absurd (h refl)
none_on false x r h e = e

none : (text : List ℕ) (fs : List Fixed) → ((f : Fixed) → spelling_of f ≢ text) → find (λ g. bytes_eq text (spelling_of g)) fs ≡ None
none text [] h = refl
none text (f ∷ fs) h =
    none_on (bytes_eq text (spelling_of f)) f (find (λ g. bytes_eq text (spelling_of g)) fs) (λ is. h f (sym ((bytes_eq-Decides text (spelling_of f)).0 is))) (none text fs h)

pub is_fixed : (text : List ℕ) (r : Option Fixed) → IfSome r (λ f. spelling_of f ≡ text) → IfNone r ((f : Fixed) → spelling_of f ≢ text) → r ≡ fixed_of text
unfolding fixed_of
is_fixed text (Some f) e h = sym (ap (λ (t : List ℕ). find (λ g. bytes_eq t (spelling_of g)) every) (sym e) ∙ found f)
is_fixed text None e h = sym (none text every h)
