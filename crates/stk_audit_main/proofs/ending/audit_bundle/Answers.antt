use Rattle.stk_audit_main.proofs.Audited.{cut_well, audit_by}
use Rattle.stk_audit_main.proofs.ending.audit_bundle.Goals as goal

pub audit_source-requires-clause-cut : goal.audit_source-requires-clause-cut
audit_source-requires-clause-cut c =
    let own = c.in_ok-units.ensures in
    cut_well c.args.source.now c.in_ok-units.units.tokens c.as_slice.result.now c.in_ok-units.units.pieces.items c.as_slice-2.result.now c.as_slice.ensures c.as_slice-2.ensures.value own.spans own.few own.joined

pub returns : goal.returns
returns c =
    audit_by c.args.bundle.now c.args.source.now c.in_ok-units.units.tokens c.as_slice.result.now c.in_ok-units.units.pieces.items c.as_slice-2.result.now c.in_ok-answer.answer c.as_slice.ensures c.as_slice-2.ensures.value c.in_ok-units.ensures.are c.in_ok-answer.ensures.answer c.in_ok-answer.ensures.claims
