use Rattle.std.proofs.Common.{◌≡◌, [], arith}
use Rattle.stk_audit_main.proofs.Ended.{prefix_or_nothing}
use Rattle.stk_audit_main.proofs.Large.{none_there, whole_large}
use Rattle.stk_audit_main.proofs.main_call.run.Goals as goal

pub returns-in-Ok-clause-no_memory : goal.returns-in-Ok-clause-no_memory
returns-in-Ok-clause-no_memory g c = λ e.
    prefix_or_nothing (g.S.Source.left c.args.source.now) (g.S.Source.left c.read_all.new.source) (g.K.Sink.taken c.args.out.now) (g.K.Sink.taken c.audit_input.new.out) c.in-Ok.bytes.items c.as_slice.result.now c.as_slice.ensures.value c.in-Ok.ensures.told (c.audit_input.ensures.no_memory e)

pub returns-in-Ok-clause-too_large : goal.returns-in-Ok-clause-too_large
returns-in-Ok-clause-too_large g c =
    let size = c.in-Ok.bytes.ok.0 in
    let within = c.in-Ok.ensures.within in
    whole_large (c.args.words.now ≡ []) (g.S.Source.left c.args.source.now) (g.S.Source.left c.read_all.new.source) c.audit_input.result c.in-Ok.bytes.items c.as_slice.result.now (none_there c.args.words.now c.is_empty.result c.is_empty.ensures c.if-not-is_empty.false) c.as_slice.ensures.value c.in-Ok.ensures.whole c.in-Ok.ensures.end
    (omega (arith, size, within))
    (λ e. (c.audit_input.ensures.large e).0)
    c.audit_input.ensures.small
