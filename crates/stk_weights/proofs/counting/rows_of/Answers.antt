use Rattle.std.proofs.Common.{◌≡◌, ◌∷◌, ◌+◌, ℕ, drop, get_or, ◌∙◌, arith}
use Rattle.stk_weights.specs.Counting.{count_in, times_in}
use Rattle.stk_weights.proofs.Rows.{counted_next, few_next, below_next}
use Rattle.stk_weights.proofs.Ends.{next_at}
use Rattle.stk_weights.proofs.counting.rows_of.Goals as goal

pub loop-register-preserved : goal.loop-register-preserved
loop-register-preserved c =
    let xs = c.args.registers.now in
    let i = c.loop-register.register-index in
    let k : ℕ = get_or xs i 0 in
    let rest = drop (i + 1) xs in
    let next : drop i xs ≡ k ∷ rest = next_at xs i 0 (omega arith) in
    record {
      few = λ r. few_next k r (count_in c.loop-register.rows.items r) (count_in c.note.new.rows.items r) i (c.in_ok-note.ensures.counts r) (c.loop-register.invariant.few r);
      counts = λ r. counted_next k r (count_in c.loop-register.rows.items r) (count_in c.note.new.rows.items r) (times_in r xs) (drop i xs) rest next (c.in_ok-note.ensures.counts r) (c.loop-register.invariant.counts r);
      lasts = λ r. c.in_ok-note.ensures.lasts r ∙ c.loop-register.invariant.lasts r;
      known = λ n size. below_next k n (drop i xs) rest xs next (omega (arith, size, c.in_ok-note.ensures.reached)) (c.loop-register.invariant.known n (omega (arith, size, c.in_ok-note.ensures.grown)));
    }
