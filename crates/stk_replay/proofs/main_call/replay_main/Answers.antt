use Rattle.stk_replay.proofs.Complete.{complete}
use Rattle.stk_replay.proofs.main_call.replay_main.Goals as goal

pub returns-clause-complete : goal.returns-clause-complete
returns-clause-complete g c = λ bytes none told short good few read written.
    let run = c.run-status.ensures in
    complete _ _ _ _ _ bytes none told short read written good few c.run-status.result run.bad_words run.read_fault run.write_fault run.too_large run.bad run.long
