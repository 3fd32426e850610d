use Rattle.std.proofs.Common.{◌∙◌, Err, sym, ap, subst}
use Rattle.stk_ctype.specs.declared.ctype.CType.{CType}
use Rattle.stk_ctype.specs.Structs.{structs_of}
use Rattle.stk_ctype.specs.Types.{type_of}
use Rattle.stk_type_rules.specs.declared.untyped.Broken.{Broken}
use Rattle.stk_type_rules.specs.Outcome.{MakesFact}
use Rattle.stk_typing.specs.Arrays.{declared_type}
use Rattle.stk_function_types.specs.Locals.{own_type}
use Rattle.stk_statements.proofs.Turns.{own_refused}
use Rattle.stk_statements.proofs.initials.own_type.Goals as goal

pub returns-in-Err-Rule-clause-is : goal.returns-in-Err-Rule-clause-is
returns-in-Err-Rule-clause-is c =
    let made = declared_type (structs_of c.args.names.now) c.args.sizes.now (type_of c.in_ok-whole.whole) in
    let h = subst (λ (z : Broken). MakesFact made (Err z)) c.in-Err-Rule.field-0-is c.in-Err-Rule.ensures.fact in
    sym (own_refused made c.in-Err-Rule.field-0-0 h) ∙ ap (λ (w : CType). own_type (declared_type (structs_of c.args.names.now) c.args.sizes.now (type_of w))) c.in_ok-whole.ensures
