use Rattle.stk_audit.specs.Progressing.{known_in}
use Rattle.stk_audit.proofs.Showing.{asked_claim, starts_told}
use Rattle.stk_audit.proofs.starts.failing_start.Goals as goal

pub failing_start_of-requires : goal.failing_start_of-requires
failing_start_of-requires g c =
    asked_claim (g.A.Answering.world (g.A.Answering.about c.args.answering.now)) (known_in c.args.progress.now) (g.A.Answering.hand c.args.answering.now) c.args.candidate c.deref.result.now c.requires.hand c.requires.claim c.requires.this c.deref.ensures.value

pub returns : goal.returns
returns g c =
    starts_told (g.A.Answering.world (g.A.Answering.about c.args.answering.now)) (known_in c.args.progress.now) (g.A.Answering.hand c.args.answering.now) c.args.candidate c.deref.result.now c.deref-2.result.now c.in_ok-found.found c.requires.hand c.requires.claim c.requires.this c.deref.ensures.value c.deref-2.ensures.value c.in_ok-found.ensures
