use Rattle.stk_numbers.specs.Values.{is_oversized}
use Rattle.stk_symbols.proofs.Answering.{both_ok, Raised, obeys, test_one}
use Rattle.stk_symbols.proofs.Growing.{under}
use Rattle.stk_symbols.proofs.store.SymbolsValues.breaks_shift.Goals as goal

pub returns-clause-value : goal.returns-clause-value
returns-clause-value c =
    let a = c.breaks_shift-answer in
    let ks = c.self.inside.kinds in
    let s = c.args.self.now in
    let old = c.self.inside.terms in
    let new = a.new.terms in
    let r : Raised s ks old new = record { spent = _; grown = a.ensures.grown; sound = c.count-count.ensures.sound; view = c.self.view_is } in
    both_ok a.result _ _ _ a.ensures.made a.ensures.value (λ v t e. λ m y h p.
    let o = obeys s ks old new r m h in
    let n = under ks new m in
    test_one s ks old new r m h c.args.count_kind c.args.count v (is_oversized c.args.kind) y p t (e n o))
