use Rattle.std.proofs.Common.{◌∙◌, sym, pos}
use Rattle.stk_ctype.specs.declared.kind.IntKind.TheVariants.{ULong}
use Rattle.stk_numbers.specs.Values.{moved, exact_move}
use Rattle.stk_symbols.proofs.Moves.{residue_again}
use Rattle.stk_symbols.proofs.Answering.{both_ok, Raised, obeys, shown, operand_is, address, address_fits}
use Rattle.stk_symbols.proofs.Growing.{under}
use Rattle.stk_symbols.proofs.store.SymbolsValues.moved.Goals as goal

pub returns-clause-value : goal.returns-clause-value
returns-clause-value c =
    let a = c.moved-answer in
    let ks = c.self.inside.kinds in
    let s = c.args.self.now in
    let old = c.self.inside.terms in
    let new = a.new.terms in
    let r : Raised s ks old new = record { spent = _; grown = a.ensures.grown; sound = c.count-count.ensures.sound; view = c.self.view_is } in
    both_ok a.result _ _ _ a.ensures.made a.ensures.value (λ v t e. λ m p x h q y.
    let o = obeys s ks old new r m h in
    let n = under ks new m in
    shown s ks old new r m h ULong v (pos (moved p x c.args.size c.args.minus)) t (address_fits (exact_move p x c.args.size c.args.minus))
    (e n o ∙ ((λ i. moved (address s ks old new r m h c.args.base p q i) (sym (operand_is s ks old new r m h c.args.step_kind c.args.step x y) i) c.args.size c.args.minus) ∙ sym (residue_again 64 (exact_move p x c.args.size c.args.minus)))))
