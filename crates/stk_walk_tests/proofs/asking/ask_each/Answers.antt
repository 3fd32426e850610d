use Rattle.std.proofs.Common.{◌≡◌, Some, get_or, slice_get, sym, subst, ap, ◌∙◌, arith}
use Rattle.std.proofs.lemmas.Option.{slice_get-get_or}
use Rattle.stk_meaning.specs.Lists.{candidates}
use Rattle.stk_findings.specs.Asked.{AskedFunction, typing_asked, tree_asked}
use Rattle.stk_walk_tests.proofs.asking.ask_each.Goals as goal

pub ask_both-requires-clause-at : goal.ask_both-requires-clause-at
ask_both-requires-clause-at g c =
    let list = c.args.searched.now.candidates.now in
    let within = slice_get-get_or list c.loop-at.at _ (omega (arith, c.loop-at-test.true, c.loop-at.auto.at-end)) in
    subst (λ (a : AskedFunction). slice_get (candidates (typing_asked a) (tree_asked a)) c.loop-at.at ≡ Some (get_or list c.loop-at.at _)) (sym c.loop-at.invariant) (ap (λ l. slice_get l c.loop-at.at) (sym c.requires.candidates) ∙ within)
