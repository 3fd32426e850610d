use Rattle.std.proofs.Common.{◌≡◌, ◌∙◌, Ok, Err, map, sym, rules}
use Rattle.stk_ctype.specs.declared.kind.IntKind.TheVariants.{Int}
use Rattle.stk_ctype.specs.Types.{integer_type, type_of}
use Rattle.stk_tree.specs.View.{enumerators, view_enumerator}
use Rattle.stk_declare.proofs.Entries.{enumeration_gives, enumeration_stops}
use Rattle.stk_declare.proofs.Settled.{passed_on}
use Rattle.stk_declare.proofs.enumerations.enumeration.Goals as goal

pub returns-in_err-settled-clause-gives : goal.returns-in_err-settled-clause-gives
returns-in_err-settled-clause-gives c =
    let same : c.from_residual-in_err-settled.result ≡ Err c.in_err-settled.field-0.0 = search rules in
    let mid = c.enumerators.new.names in
    let ruled = rw c.tag_before.ensures at (c.in_err-settled.ensures.fact _ (c.enumeration_rule.ensures.fact mid)) in
    rw same (enumeration_stops c.args.bytes.now c.args.names.now mid mid c.args.node c.args.tag (enumerators (map view_enumerator c.args.list.now)) c.in_ok-counter.counter c.in_err-settled.field-0.0 c.in_ok-counter.ensures.gives ruled)

pub returns-clause-gives : goal.returns-clause-gives
returns-clause-gives c =
    let mid = c.enumerators.new.names in
    let ruled = rw c.tag_before.ensures at (c.in_ok-settled.ensures.fact _ (c.enumeration_rule.ensures.fact mid)) in
    enumeration_gives c.args.bytes.now c.args.names.now mid c.with_enumeration.new.names c.args.node c.args.tag (enumerators (map view_enumerator c.args.list.now)) c.in_ok-counter.counter c.in_ok-settled.field-0 _ c.in_ok-counter.ensures.gives ruled
    c.in_ok-with_enumeration.ensures.is
    (sym (passed_on c.enumeration_rule.result (Ok c.in_ok-settled.field-0) (λ f. type_of f.ty ≡ integer_type Int) c.in_ok-settled.ensures.same c.enumeration_rule.ensures.ty))
