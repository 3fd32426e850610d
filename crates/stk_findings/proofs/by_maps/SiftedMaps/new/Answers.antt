use Rattle.stk_findings.proofs.Sifting.{sifts_none}
use Rattle.stk_findings.proofs.by_maps.SiftedMaps.new.Goals as goal

pub returns : goal.returns
returns c = sifts_none c.in_ok-queries.queries c.args.searched.now c.requires.few c.in_ok-queries.ensures
