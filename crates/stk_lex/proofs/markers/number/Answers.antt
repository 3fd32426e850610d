use Rattle.std.proofs.Common.{length, sym, ap, ◌∙◌, arith}
use Rattle.stk_base.specs.Text.{decimal_behind}
use Rattle.stk_lex.proofs.Digits.{digit_bound, first_digit}
use Rattle.stk_lex.proofs.markers.number.Goals as goal

pub overflow_mul-so_far : goal.overflow_mul-so_far
overflow_mul-so_far c =
    let i = c.loop-b.invariant in
    let k = digit_bound c.loop-b.bound (length c.in-Some.behind.now) (length c.loop-b.rest.now) 1000000000 c.in-Some.ensures.cases.1 i.bound in
    omega (arith, k.1, i.below)

pub overflow_add-so_far : goal.overflow_add-so_far
overflow_add-so_far c =
    let i = c.loop-b.invariant in
    let k = digit_bound c.loop-b.bound (length c.in-Some.behind.now) (length c.loop-b.rest.now) 1000000000 c.in-Some.ensures.cases.1 i.bound in
    let d = first_digit c.in-Some.b.now c.in-Some.behind.now (rw c.in-Some.ensures.cases.0 at i.digits) in
    omega (arith, k.1, i.below, c.from.ensures, d.1)

pub overflow_mul-bound : goal.overflow_mul-bound
overflow_mul-bound c =
    let i = c.loop-b.invariant in
    let k = digit_bound c.loop-b.bound (length c.in-Some.behind.now) (length c.loop-b.rest.now) 1000000000 c.in-Some.ensures.cases.1 i.bound in
    omega (arith, k.1)

pub loop-b-preserved : goal.loop-b-preserved
loop-b-preserved c =
    let i = c.loop-b.invariant in
    let k = digit_bound c.loop-b.bound (length c.in-Some.behind.now) (length c.loop-b.rest.now) 1000000000 c.in-Some.ensures.cases.1 i.bound in
    let d = first_digit c.in-Some.b.now c.in-Some.behind.now (rw c.in-Some.ensures.cases.0 at i.digits) in
    record {
      same = rw c.from.ensures (ap (decimal_behind c.loop-b.so_far) (sym c.in-Some.ensures.cases.0) ∙ i.same);
      digits = d.2;
      below = omega (arith, i.below, c.from.ensures, d.1);
      bound = k.0;
    }
