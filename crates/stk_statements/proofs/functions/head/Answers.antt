use Rattle.std.proofs.Common.{◌≡◌, ◌∙◌, Err, None, true, map, ap, subst, rules}
use Rattle.stk_ctype.specs.declared.ctype.CType.{CType}
use Rattle.stk_ctype.specs.Types.{TypeTree, type_of}
use Rattle.stk_ctype.specs.Structs.{structs_of}
use Rattle.stk_tree.specs.declared.declaration.Declr.{out-Declr}
use Rattle.stk_tree.specs.View.{view_tail}
use Rattle.stk_type_rules.specs.Facts.{Ruled, fact_of}
use Rattle.stk_type_rules.specs.Outcome.{MakesFact}
use Rattle.stk_typing.specs.Locals.{local_of}
use Rattle.stk_typing.specs.Arrays.{starred}
use Rattle.stk_declarators.specs.Rows.{file_scope}
use Rattle.stk_declarators.specs.Tails.{TailShape, tail_type, tail_typed}
use Rattle.stk_statements.proofs.Seen.{head_is}
use Rattle.stk_statements.proofs.StatementTurns.{head_gives, head_stops}
use Rattle.stk_statements.proofs.functions.head.Goals as goal

pub returns-clause-gives : goal.returns-clause-gives
returns-clause-gives c =
    let d = out-Declr c.args.d.now in
    let scope = file_scope c.args.f.now c.args.locals.now in
    let structs = structs_of c.args.f.now.names.now in
    let whole = starred d.stars (type_of c.args.ty.now) in
    let same : type_of c.in_ok-returns.returns ≡ whole = c.in_ok-returns.ensures.is ∙ ap (λ (x : CType). starred d.stars (type_of x)) c.in_ok-copy.ensures in
    let rule : TailShape → Ruled = λ z. tail_type structs true None whole z in
    rw (head_is scope (type_of c.args.ty.now) c.args.d.now)
    (head_gives (tail_typed scope true (view_tail d.tail)) rule d.node.number whole (map local_of c.args.locals.now) (map local_of c.tail.new.locals) c.in_ok-tailed.tailed c.in_ok-returns.returns c.tail_type-made.result c.in_ok-own.field-0 (map fact_of c.args.facts.now.items) (map fact_of c.tail.new.facts.items) (map fact_of c.own.new.facts.items)
    c.in_ok-tailed.ensures.gives
    (λ z sh. subst (λ (t : TypeTree). MakesFact (tail_type structs true None t z) c.tail_type-made.result) (ap type_of c.in_ok-copy-2.ensures ∙ same) (c.tail_type-made.ensures.fact z sh))
    c.in_ok-own.ensures.gives same)

pub returns-in_err-own-clause-gives : goal.returns-in_err-own-clause-gives
returns-in_err-own-clause-gives c =
    let residual : c.from_residual-in_err-own.result ≡ Err c.in_err-own.field-0.0 = search rules in
    let d = out-Declr c.args.d.now in
    let scope = file_scope c.args.f.now c.args.locals.now in
    let structs = structs_of c.args.f.now.names.now in
    let whole = starred d.stars (type_of c.args.ty.now) in
    let same : type_of c.in_ok-returns.returns ≡ whole = c.in_ok-returns.ensures.is ∙ ap (λ (x : CType). starred d.stars (type_of x)) c.in_ok-copy.ensures in
    let rule : TailShape → Ruled = λ z. tail_type structs true None whole z in
    rw (head_is scope (type_of c.args.ty.now) c.args.d.now, residual)
    (head_stops (tail_typed scope true (view_tail d.tail)) rule d.node.number whole (map local_of c.args.locals.now) (map local_of c.tail.new.locals) c.in_ok-tailed.tailed c.tail_type-made.result c.in_err-own.field-0.0 (map fact_of c.args.facts.now.items) (map fact_of c.tail.new.facts.items) (map fact_of c.own.new.facts.items)
    c.in_ok-tailed.ensures.gives
    (λ z sh. subst (λ (t : TypeTree). MakesFact (tail_type structs true None t z) c.tail_type-made.result) (ap type_of c.in_ok-copy-2.ensures ∙ same) (c.tail_type-made.ensures.fact z sh))
    c.in_err-own.ensures.gives)
