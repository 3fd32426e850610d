use Rattle.std.proofs.Common.{List, map, subst}
use Rattle.stk_tree.specs.declared.declaration.Declr.{out-Declr}
use Rattle.stk_tree.specs.declared.declaration.Param.{out-Param}
use Rattle.stk_tree.specs.View.{view_base}
use Rattle.stk_type_rules.specs.Facts.{Fact, Ruled, fact_of, fact_at}
use Rattle.stk_type_rules.specs.Outcome.{Gives, IsAt, finish}
use Rattle.stk_typing.specs.declared.arrays.Size.{Size}
use Rattle.stk_typing.specs.Scope.{scope_of}
use Rattle.stk_typing.specs.Arrays.{starred}
use Rattle.stk_typing.specs.Forms.{structs_in}
use Rattle.stk_typing.specs.Typing.{base_typed}
use Rattle.stk_typing.proofs.Turns.{named_gives}
use Rattle.stk_declarators.specs.Parameters.{parameter_rule, is_taken, name_text}
use Rattle.stk_declarators.proofs.Rows.{given_type}
use Rattle.stk_declarators.proofs.prototypes.parameter_type.Goals as goal

pub returns-clause-gives : goal.returns-clause-gives
returns-clause-gives c =
    let p = out-Param c.args.p.now in
    let d = out-Declr p.declr in
    let scope = scope_of c.args.s.now in
    let rule : Fact → List Size → Ruled = λ x sizes. parameter_rule (structs_in scope) c.args.defines (is_taken scope.locals (name_text scope.bytes d.name)) sizes (starred d.stars x.ty) in
    let base = map fact_of c.base.new.facts.items in
    let parts = map fact_of c.dimensions.new.facts.items in
    let all = map fact_of c.by_parameter.new.facts.items in
    let made = subst (λ (z : List Size). Gives (IsAt all) (finish d.node.number (rule (fact_at parts c.in_ok-i.i) z)) c.by_parameter.result parts all) c.as_slice.ensures.value c.by_parameter.ensures.gives in
    rw (given_type scope c.args.defines c.args.p.now, ← c.unevaluated.ensures.is, ← c.array_parts.ensures)
    (named_gives (base_typed scope (view_base p.base)) _ rule d.node.number c.in_ok-i.i c.in_ok-sizes.sizes c.by_parameter.result (map fact_of c.args.facts.now.items) base parts all c.in_ok-i.ensures.gives c.in_ok-sizes.ensures.gives made)
