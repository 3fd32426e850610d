use Rattle.std.proofs.Common.{◌∙◌}
use Rattle.stk_ctype.specs.declared.kind.IntKind.TheVariants.{Long}
use Rattle.stk_numbers.specs.Values.{distance, bits_of}
use Rattle.stk_symbols.proofs.Answering.{both_ok, Raised, obeys, shown, address, distance_fits}
use Rattle.stk_symbols.proofs.Growing.{under}
use Rattle.stk_symbols.proofs.store.SymbolsValues.distance.Goals as goal

pub returns-clause-value : goal.returns-clause-value
returns-clause-value c =
    let a = c.distance-answer in
    let ks = c.self.inside.kinds in
    let s = c.args.self.now in
    let old = c.self.inside.terms in
    let new = a.new.terms in
    let r : Raised s ks old new = record { spent = _; grown = a.ensures.grown; sound = c.count-count.ensures.sound; view = c.self.view_is } in
    both_ok a.result _ _ _ a.ensures.made a.ensures.value (λ v t e. λ m x y h p q.
    let o = obeys s ks old new r m h in
    let n = under ks new m in
    shown s ks old new r m h Long v (distance x y c.args.size) t (distance_fits x y c.args.size c.requires.most) (e n o ∙ (λ i. bits_of Long (distance (address s ks old new r m h c.args.left x p i) (address s ks old new r m h c.args.right y q i) c.args.size))))
