use Rattle.std.proofs.Common.{◌≤◌, ◌^◌, sym, subst, ◌∙◌}
use Rattle.stk_hits.specs.InputMaps.{bits_in}
use Rattle.stk_hits.specs.PathTables.{IsTableOf}
use Rattle.stk_judge.proofs.Finding.{lawful_found}
use Rattle.stk_judge.proofs.tried.TriedMaps.finding.Goals as goal

pub returns : goal.returns
returns c = λ ty without f tried all.
    let t = c.args.self.now in
    let same = c.as_slice-kinds.ensures.value in
    lawful_found ty without f c.as_slice-kinds.result.now c.args.conditions.now t.table c.args.candidate c.finding_of.result (same ∙ tried.kinds) (subst (λ ks. bits_in ks ≤ 16) (sym same) tried.few) all
    (subst (λ ks. IsTableOf ty without f (2 ^ bits_in ks) t.table) (sym same) tried.table) (c.finding_of.ensures)

pub finding_of-requires : goal.finding_of-requires
finding_of-requires c = subst (λ ks. bits_in ks ≤ 16) (sym c.as_slice-kinds.ensures.value) c.requires
