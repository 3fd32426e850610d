use Rattle.std.proofs.Common.{◌∙◌, List, Ok, map, ap, subst}
use Rattle.stk_ctype.specs.Types.{type_of}
use Rattle.stk_tree.specs.declared.declaration.Declr.{Declr}
use Rattle.stk_tree.specs.View.{declarators, view_base, view_declarator}
use Rattle.stk_tree.specs.Parts.{is_static}
use Rattle.stk_type_rules.specs.Facts.{Fact, fact_of}
use Rattle.stk_type_rules.specs.Outcome.{Gives, IsAt}
use Rattle.stk_typing.specs.Locals.{local_of}
use Rattle.stk_typing.specs.Scope.{Scope}
use Rattle.stk_typing.specs.Typing.{base_typed}
use Rattle.stk_declarators.specs.Rows.{file_scope}
use Rattle.stk_function_types.specs.Locals.{locals_declared}
use Rattle.stk_statements.specs.Places.{body_in}
use Rattle.stk_statements.specs.Rows.{AreLocals}
use Rattle.stk_statements.proofs.Declaring.{declaration_is}
use Rattle.stk_statements.proofs.locals.declaration.Goals as goal

pub returns-clause-gives : goal.returns-clause-gives
returns-clause-gives c =
    let p = c.args.p.now in
    let ls = c.args.locals.now in
    let b = body_in p ls in
    let d = c.args.d.now in
    let old = map fact_of c.args.facts.now.items in
    let mid = map fact_of c.base.new.facts.items in
    let new = map fact_of c.declarators.new.facts.items in
    let before = map local_of ls in
    let now = map local_of c.declarators.new.locals in
    declaration_is (base_typed (file_scope p.file ls) (view_base d.base)) b (is_static d.storage) c.is_static.result (type_of c.in_ok-ty.ty) (declarators (map view_declarator d.list)) c.in_ok-at.at before now c.declarators.result old mid new
    (subst (λ (s : Scope). Gives (IsAt mid) (base_typed s (view_base d.base)) (Ok c.in_ok-at.at) old mid) c.scope-s.ensures.is c.in_ok-at.ensures.gives)
    c.is_static.ensures (ap type_of c.in_ok-ty.ensures ∙ ap (λ (x : Fact). x.ty) c.fact.ensures.is)
    (subst (λ (z : List Declr). Gives (AreLocals before now) (locals_declared b c.is_static.result (type_of c.in_ok-ty.ty) (declarators (map view_declarator z))) c.declarators.result mid new) c.as_slice.ensures c.declarators.ensures.gives)
