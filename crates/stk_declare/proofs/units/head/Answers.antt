use Rattle.std.proofs.Common.{◌≡◌, Err, rules}
use Rattle.stk_tree.specs.View.{view_base, view_declarator}
use Rattle.stk_declare.proofs.Entries.{head_gives, head_stops}
use Rattle.stk_declare.proofs.units.head.Goals as goal

pub returns-in_err-declarator-clause-gives : goal.returns-in_err-declarator-clause-gives
returns-in_err-declarator-clause-gives c =
    let same : c.from_residual-in_err-declarator.result ≡ Err c.in_err-declarator.field-0.0 = search rules in
    let declared = rw c.definition_word.ensures at c.in_err-declarator.ensures.gives in
    rw same (head_stops c.args.s.now.bytes.now c.args.s.now.mark c.args.node c.args.names.now c.declarator.new.names c.args.s.now.word (view_base c.args.b.now) (view_declarator c.args.d.now) c.in_ok-ty.ty c.in_err-declarator.field-0.0 c.in_ok-ty.ensures.gives declared)

pub returns-clause-gives : goal.returns-clause-gives
returns-clause-gives c =
    let declared = rw c.definition_word.ensures at c.in_ok-declarator.ensures.gives in
    head_gives c.args.s.now.bytes.now c.args.s.now.mark c.args.node c.args.names.now c.declarator.new.names c.args.s.now.word (view_base c.args.b.now) (view_declarator c.args.d.now) c.in_ok-ty.ty tt c.definition_rule.result c.in_ok-ty.ensures.gives declared c.definition_rule.ensures
