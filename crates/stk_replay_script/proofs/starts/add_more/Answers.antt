use Rattle.std.proofs.Common.{ℕ, ◌+◌, List, [], ◌∷◌, ◌++◌, drop, drop_of_length-le, ℤ, ap, sym, subst, ◌∙◌}
use Rattle.stk_replay_script.specs.Starts.{AreMore, IsNextInput}
use Rattle.stk_replay_script.proofs.Prefixes.{behind_prefix}
use Rattle.stk_replay_script.proofs.Numerals.{tail_of, again}
use Rattle.stk_replay_script.proofs.StartTexts.{HasPassed, more_begin, input_passed, read_whole, key_at}
use Rattle.stk_replay_script.proofs.starts.add_more.Goals as goal

pub returns-in_default-next_input : goal.returns-in_default-next_input
returns-in_default-next_input c xs h =
    let split = key_at c.args.keys.now c.loop-key.key-index c.key-item.result c.loop-key-test.true c.key-item.is in
    let content = behind_prefix c.loop-key.left.now c.as_slice.result.now c.in-Some.content c.in-Some.ensures.cases ∙ ap (λ p. p ++ c.in-Some.content.now) c.as_slice.ensures in
    let left = c.loop-key.invariant.whole xs h in
    let next = more_begin c.key-item.result (drop (c.loop-key.key-index + 1) c.args.keys.now) c.loop-key.left.now left.0 (subst (λ (ks : List (List ℕ)). AreMore ks c.loop-key.left.now left.0) split left.1) in
    c.in_default-next_input.ensures next.1 next.2
    (subst (λ (k : List ℕ). IsNextInput k c.in-Some.content.now next.1 next.2) (sym c.as_slice-in-loop-key.ensures)
    (subst (λ (t : List ℕ). IsNextInput c.key-item.result t next.1 next.2) (tail_of (sym next.3 ∙ content)) next.4))

pub loop-key-preserved : goal.loop-key-preserved
loop-key-preserved c =
    let split = key_at c.args.keys.now c.loop-key.key-index c.key-item.result c.loop-key-test.true c.key-item.is in
    let content = behind_prefix c.loop-key.left.now c.as_slice.result.now c.in-Some.content c.in-Some.ensures.cases ∙ ap (λ p. p ++ c.in-Some.content.now) c.as_slice.ensures in
    let next = subst (λ (k : List ℕ). IsNextInput k c.in-Some.content.now c.in-Some-next_input.number c.in-Some-next_input.behind.now) c.as_slice-in-loop-key.ensures c.in-Some-next_input.ensures in
    subst (λ (xs : List ℤ). HasPassed c.args.keys.now c.args.text.now (drop (c.loop-key.key-index + 1) c.args.keys.now) c.in-Some-next_input.behind.now c.args.numbers.now.items xs) (ap (λ z. c.loop-key.numbers.items ++ z ∷ []) (sym (again c.in-Some-next_input.number next.is)) ∙ sym c.in_ok-push.ensures.items)
    (input_passed c.args.keys.now c.args.text.now c.key-item.result (drop (c.loop-key.key-index + 1) c.args.keys.now) c.loop-key.left.now c.in-Some.content.now c.in-Some-next_input.number c.in-Some-next_input.behind.now c.args.numbers.now.items c.loop-key.numbers.items
    (subst (λ (ks : List (List ℕ)). HasPassed c.args.keys.now c.args.text.now ks c.loop-key.left.now c.args.numbers.now.items c.loop-key.numbers.items) split c.loop-key.invariant) content next)

pub returns : goal.returns
returns c =
    read_whole c.is_empty.result c.args.keys.now c.args.text.now (drop c.loop-key.key-index c.args.keys.now) c.loop-key.left.now c.args.numbers.now.items c.loop-key.numbers.items c.is_empty.ensures (drop_of_length-le c.args.keys.now c.loop-key-test.false) c.loop-key.invariant
