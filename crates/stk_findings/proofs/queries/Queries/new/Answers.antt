use Rattle.stk_findings.specs.Telling.{CanAsk, CanTellByQueries}
use Rattle.stk_findings.proofs.Narrow.{weaker}
use Rattle.stk_findings.proofs.queries.Queries.new.Goals as goal

pub returns : goal.returns
returns c =
    let s = c.args.searched.now in
    weaker c.begun.result (λ q. CanAsk q s) (λ q. CanTellByQueries q s) (λ q h. record { wide = c.requires.wide; asks = h }) c.begun.ensures
