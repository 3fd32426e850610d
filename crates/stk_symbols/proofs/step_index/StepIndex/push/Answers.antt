use Rattle.std.proofs.Common.{◌≡◌, ◌++◌, ◌∷◌, [], length, ap, ◌∙◌, arith}
use Rattle.stk_symbols.specs.declared.step_index.StepIndex.{StepIndex}
use Rattle.stk_symbols.specs.Matters.{event_in}
use Rattle.stk_symbols.proofs.Chained.{index_more}
use Rattle.stk_symbols.proofs.step_index.StepIndex.push.Goals as goal

pub returns : goal.returns
returns c events end h there =
    let old : StepIndex = c.args.self.now in
    let now : StepIndex = record c.note.new.self { earlier = c.push.new.self } in
    let place : c.len-place.result ≡ length old.earlier.items = omega (arith, c.len-place.ensures, old.earlier.ok.0) in
    index_more old now events (event_in c.args.event) c.len-place.result end c.in_ok-before.before place (c.in_ok-before.ensures.before events end h.last) (λ l t. let n = c.in_ok-before.ensures.last events l t in record { violations = n.violations; hits = n.hits }) (c.in_ok-push.ensures.items ∙ ap (λ l. l ++ c.in_ok-before.before ∷ []) c.in_ok-before.ensures.earlier) h there
