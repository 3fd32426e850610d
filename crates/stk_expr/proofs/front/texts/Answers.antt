use Rattle.std.proofs.Common.{◌∷◌, ◌∙◌}
use Rattle.stk_grammar.specs.Reading.{texts_at}
use Rattle.stk_expr.proofs.Steps.{texts_done, texts_turn}
use Rattle.stk_expr.proofs.front.texts.Goals as goal

pub loop-part-preserved : goal.loop-part-preserved
loop-part-preserved c =
    let i = c.loop-part.invariant in
    let s = c.in-Some in
    let k = texts_turn c.loop-part.parts.items c.loop-part.rest.now s.part s.behind.now (c.args.first ∷ (texts_at c.args.lexemes.now).0, (texts_at c.args.lexemes.now).1) s.ensures (i.collected, i.behind) in
    record { collected = rw c.in_ok-push-2.ensures.items k.0.0; behind = k.0.1 }

pub returns : goal.returns
returns c =
    let i = c.loop-part.invariant in
    let k = texts_done c.loop-part.parts.items c.loop-part.rest.now (c.args.first ∷ (texts_at c.args.lexemes.now).0, (texts_at c.args.lexemes.now).1) c.in_default.ensures (i.collected, i.behind) in
    (c.from_vec.ensures ∙ k.0, k.1)
