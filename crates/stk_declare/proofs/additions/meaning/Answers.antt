use Rattle.std.proofs.Common.{◌≡◌, ◌∙◌, Bor, None, Option, ap, sym}
use Rattle.std.specs.Option.{option_copied, option_map}
use Rattle.stk_ctype.specs.declared.ctype.Signature.{Signature}
use Rattle.stk_ctype.specs.Types.{signature_of, type_of}
use Rattle.stk_ctype.specs.declared.symbol.Symbol.TheVariants as symbol
use Rattle.stk_compatible.proofs.Made.{made_type}
use Rattle.stk_declare.specs.Symbols.{function_meaning, signature_in}
use Rattle.stk_declare.proofs.additions.meaning.Goals as goal

pub returns-in_ok-copy-in-TypeName-clause-is : goal.returns-in_ok-copy-in-TypeName-clause-is
returns-in_ok-copy-in-TypeName-clause-is c = rw c.in-TypeName.is (ap symbol.TypeDef (c.in_ok-copy-in-TypeName.ensures ∙ sym (made_type c.args.ty.now)))

pub returns-in_ok-copy-in-Object-clause-is : goal.returns-in_ok-copy-in-Object-clause-is
returns-in_ok-copy-in-Object-clause-is c = rw c.in-Object.is (ap symbol.Object (c.in_ok-copy-in-Object.ensures ∙ sym (made_type c.args.ty.now)))

pub returns-in_ok-copy-in-None-clause-is : goal.returns-in_ok-copy-in-None-clause-is
returns-in_ok-copy-in-None-clause-is c =
    let t = type_of c.args.ty.now in
    let none : signature_in t ≡ None = sym c.signature_in.ensures ∙ ap (λ (o : Option (Bor Signature)). option_map signature_of (option_copied o)) c.in-None.is in
    rw c.in-Function.is (ap symbol.Object (c.in_ok-copy-in-None.ensures ∙ sym (made_type c.args.ty.now)) ∙ sym (ap (function_meaning c.args.mark t) none))
