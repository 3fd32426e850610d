use Rattle.std.proofs.Common.{◌∙◌, ap}
use mir.Syntax.{w128}
use Rattle.std.proofs.lemmas.Int.{to_z-of_z}
use Rattle.stk_numbers.specs.Values.{bits_of}
use Rattle.stk_symbols.proofs.Answering.{both_ok, Raised, obeys, shown}
use Rattle.stk_symbols.proofs.Growing.{under}
use Rattle.stk_symbols.proofs.store.SymbolsValues.constant.Goals as goal

pub returns-clause-value : goal.returns-clause-value
returns-clause-value c =
    let a = c.constant-answer in
    let ks = c.self.inside.kinds in
    let s = c.args.self.now in
    let old = c.self.inside.terms in
    let new = a.new.terms in
    let r : Raised s ks old new = record { spent = _; grown = a.ensures.grown; sound = c.count-count.ensures.sound; view = c.self.view_is } in
    both_ok a.result _ _ _ a.ensures.made a.ensures.value (λ v t e. λ m h.
    let o = obeys s ks old new r m h in
    let n = under ks new m in
    shown s ks old new r m h c.args.kind v c.args.number t c.requires (e n o ∙ ap (bits_of c.args.kind) (to_z-of_z w128 c.args.number c.ranges.number)))
