use Rattle.stk_findings.proofs.Sifting.{sifts_all}
use Rattle.stk_findings.proofs.by_maps.SiftedMaps.run_maps.Goals as goal

pub tried_finding-requires : goal.tried_finding-requires
tried_finding-requires c = record { known = c.requires.asks.known; few = c.requires.few; tried = c.in_ok-maps.ensures }

pub returns-clause-ready : goal.returns-clause-ready
returns-clause-ready c =
    sifts_all c.args.self.now.queries c.in_ok-maps.maps c.args.searched.now c.requires.few c.requires.asks (record { known = c.requires.asks.known; few = c.requires.few; tried = c.in_ok-maps.ensures })
