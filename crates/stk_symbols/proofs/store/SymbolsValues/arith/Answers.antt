use Rattle.stk_numbers.specs.Values.{arith, exact}
use Rattle.stk_numbers.proofs.Wrapping.{wrap_in_range}
use Rattle.stk_symbols.proofs.Answering.{both_ok, Raised, obeys, from_two}
use Rattle.stk_symbols.proofs.Growing.{under}
use Rattle.stk_symbols.proofs.store.SymbolsValues.arith.Goals as goal

pub returns-clause-value : goal.returns-clause-value
returns-clause-value c =
    let a = c.arith-answer in
    let ks = c.self.inside.kinds in
    let s = c.args.self.now in
    let old = c.self.inside.terms in
    let new = a.new.terms in
    let r : Raised s ks old new = record { spent = _; grown = a.ensures.grown; sound = c.count-count.ensures.sound; view = c.self.view_is } in
    both_ok a.result _ _ _ a.ensures.made a.ensures.value (λ v t e. λ m x y h p q.
    let o = obeys s ks old new r m h in
    let n = under ks new m in
    from_two s ks old new r m h c.args.kind c.args.kind c.args.kind c.args.left c.args.right v (arith c.args.op c.args.kind) x y p q t (wrap_in_range c.args.kind (exact c.args.op c.args.kind x y)) (e n o))
