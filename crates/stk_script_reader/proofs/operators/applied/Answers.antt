use Rattle.std.proofs.Common.{sym}
use Rattle.stk_script_reader.proofs.Kept.{longer_kept}
use Rattle.stk_script_reader.proofs.Meant.{applied_meant}
use Rattle.stk_script_reader.proofs.operators.applied.Goals as goal

pub returns-in_ok-made-in-Some-clause-made : goal.returns-in_ok-made-in-Some-clause-made
returns-in_ok-made-in-Some-clause-made c =
    let s = c.double.new.terms in
    let m = c.in_ok-made-in-Some in
    applied_meant s m.ensures.sound c.args.op c.in-Some.plain c.args.a.0 c.args.b.0 m.made.0 (sym c.in-Some.ensures) (longer_kept c.args.terms.now s c.args.a.0 m.ensures.keeps c.requires.first) m.ensures.made
