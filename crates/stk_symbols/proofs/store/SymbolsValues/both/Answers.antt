use Rattle.std.proofs.Common.{◌&&◌, refl}
use Rattle.stk_symbols.proofs.Answering.{both_ok, Raised, obeys, test_of, tested}
use Rattle.stk_symbols.proofs.Growing.{under}
use Rattle.stk_symbols.proofs.store.SymbolsValues.both.Goals as goal

pub returns-clause-value : goal.returns-clause-value
returns-clause-value c =
    let a = c.both-answer in
    let ks = c.self.inside.kinds in
    let s = c.args.self.now in
    let old = c.self.inside.terms in
    let new = a.new.terms in
    let r : Raised s ks old new = record { spent = _; grown = a.ensures.grown; sound = c.count-count.ensures.sound; view = c.self.view_is } in
    both_ok a.result _ _ _ a.ensures.made a.ensures.value (λ v t e. λ m x y h p q.
    let o = obeys s ks old new r m h in
    let n = under ks new m in
    test_of s ks old new r m h v (x && y) (x && y) t (e n x y o (tested s ks old new r m h c.args.left x p) (tested s ks old new r m h c.args.right y q)) refl)
