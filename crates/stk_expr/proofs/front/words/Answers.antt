use Rattle.std.proofs.Common.{◌∷◌, ◌∙◌}
use Rattle.stk_grammar.specs.Reading.{words_at}
use Rattle.stk_expr.proofs.Steps.{words_done, words_turn}
use Rattle.stk_expr.proofs.front.words.Goals as goal

pub loop-word-preserved : goal.loop-word-preserved
loop-word-preserved c =
    let i = c.loop-word.invariant in
    let s = c.in-Some in
    let k = words_turn c.loop-word.list.items c.loop-word.rest.now s.word s.behind.now (c.args.first ∷ (words_at c.args.lexemes.now).0, (words_at c.args.lexemes.now).1) s.ensures (i.collected, i.behind) in
    record { collected = rw c.in_ok-push-2.ensures.items k.0.0; behind = k.0.1 }

pub returns : goal.returns
returns c =
    let i = c.loop-word.invariant in
    let k = words_done c.loop-word.list.items c.loop-word.rest.now (c.args.first ∷ (words_at c.args.lexemes.now).0, (words_at c.args.lexemes.now).1) c.in_default.ensures (i.collected, i.behind) in
    (c.from_vec.ensures ∙ k.0, k.1)
