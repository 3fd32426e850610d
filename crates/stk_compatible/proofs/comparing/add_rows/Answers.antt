use Rattle.std.proofs.Common.{◌≡◌, ◌∙◌, ◌&&◌, ◌∷◌, ◌+◌, drop, map, ap, sym, rules}
use Rattle.stk_ctype.specs.Types.{type_of, row_of}
use Rattle.stk_compatible.specs.Same.{same_row}
use Rattle.stk_compatible.specs.Pairs.{are_same, pairs_of}
use Rattle.stk_compatible.proofs.Pairs.{pairs_more, rows_same, next_of}
use Rattle.stk_compatible.proofs.comparing.add_rows.Goals as goal

pub loop-first-preserved : goal.loop-first-preserved
loop-first-preserved c =
    let step : drop c.loop-first.first-index c.args.left.now ≡ c.first-item.result ∷ drop (c.loop-first.first-index + 1) c.args.left.now = next_of c.args.left.now c.loop-first.first-index c.first-item.result c.loop-first-test.true c.first-item.is in
    let split : c.loop-first.others.now ≡ c.in-Some.second.now ∷ c.in-Some.behind.now = search rules in
    ap (λ b. same_row (row_of (map type_of (drop (c.loop-first.first-index + 1) c.args.left.now))) (row_of (map type_of c.in-Some.behind.now)) && b) (pairs_more c.loop-first.waiting.items c.push.new.self.items _ _ c.in_ok-push.ensures.items)
    ∙ sym (rows_same _ _ _ _ c.first-item.result c.in-Some.second.now (are_same (pairs_of c.loop-first.waiting.items)) step split)
    ∙ c.loop-first.invariant
