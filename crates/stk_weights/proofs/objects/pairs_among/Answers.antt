use Rattle.std.proofs.Common.{◌≡◌, drop, ap, ◌∙◌, arith, length-drop}
use Rattle.stk_weights.specs.declared.objects.Counts.{Counts}
use Rattle.stk_weights.specs.Traits.{counts_of}
use Rattle.stk_weights.proofs.TraitsShown.{few_counts, pairs_counted}
use Rattle.stk_weights.proofs.objects.pairs_among.Goals as goal

pub counts_before-counts-requires-clause-kept : goal.counts_before-counts-requires-clause-kept
counts_before-counts-requires-clause-kept c =
    let rest = drop c.loop-left.left c.args.list.now in
    omega (arith, ap (λ (x : Counts). x.kept) c.loop-left.invariant.counted, (few_counts rest).kept, length-drop c.loop-left.left c.args.list.now)

pub counts_before-counts-requires-clause-plain : goal.counts_before-counts-requires-clause-plain
counts_before-counts-requires-clause-plain c =
    let rest = drop c.loop-left.left c.args.list.now in
    omega (arith, ap (λ (x : Counts). x.plain) c.loop-left.invariant.counted, (few_counts rest).plain, length-drop c.loop-left.left c.args.list.now)

pub counts_before-counts-requires-clause-either : goal.counts_before-counts-requires-clause-either
counts_before-counts-requires-clause-either c =
    let rest = drop c.loop-left.left c.args.list.now in
    omega (arith, ap (λ (x : Counts). x.either) c.loop-left.invariant.counted, (few_counts rest).either, length-drop c.loop-left.left c.args.list.now)

pub returns : goal.returns
returns c =
    let none : c.loop-left.left ≡ 0 = omega arith in
    ap (λ (x : Counts). x.pairs) c.loop-left.invariant.counted ∙ ap (λ n. (counts_of (drop n c.args.list.now)).pairs) none ∙ pairs_counted c.args.list.now
