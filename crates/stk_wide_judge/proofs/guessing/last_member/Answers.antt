use Rattle.std.proofs.Common.{◌≡◌, ◌<◌, ◌≤◌, ◌+◌, ℕ, subst, arith}
use Rattle.stk_wide_judge.specs.Guesses.{IsBetween}
use Rattle.stk_wide_judge.proofs.Skipping.{none_below, some_below, none_above}
use Rattle.stk_wide_judge.proofs.guessing.last_member.Goals as goal

pub returns-in_default-clause-last : goal.returns-in_default-clause-last
returns-in_default-clause-last c a k known same none = none_below a c.args.guessing.now.known.now.starts.items k c.args.guessing.now.conditions.now c.args.needs.now c.in_ok-first.field-0 c.in_default.is (c.in_ok-first.ensures a k known same)

pub halves-init : goal.halves-init
halves-init c = record {
  less = omega arith;
  within = omega arith;
  between = λ a k known same none. some_below a c.args.guessing.now.known.now.starts.items k c.args.guessing.now.conditions.now c.args.needs.now 0 c.args.end c.in_ok-first.field-0 c.in-Some.first c.in-Some.is (c.in_ok-first.ensures a k known same) none;
}

pub halves-preserved-in-Some-2 : goal.halves-preserved-in-Some-2
halves-preserved-in-Some-2 c = record {
  less = omega arith;
  within = omega arith;
  between = λ a k known same none. some_below a c.args.guessing.now.known.now.starts.items k c.args.guessing.now.conditions.now c.args.needs.now _ c.halves.high c.in_ok-found.field-0 c.in-Some-2.found c.in-Some-2.is (c.in_ok-found.ensures a k known same) (c.halves.invariant.between a k known same none).none;
}

pub halves-preserved : goal.halves-preserved
halves-preserved c = record {
  less = omega arith;
  within = omega arith;
  between = λ a k known same none. none_above a c.args.guessing.now.known.now.starts.items k c.args.guessing.now.conditions.now c.args.needs.now c.halves.low _ c.halves.high c.halves.start c.in_ok-found.field-0 c.in-None.is (c.in_ok-found.ensures a k known same) (c.halves.invariant.between a k known same none);
}

pub returns-clause-last : goal.returns-clause-last
returns-clause-last c a k known same none =
    let next : c.halves.high ≡ c.halves.low + 1 = omega arith in
    subst (λ (n : ℕ). IsBetween a c.args.guessing.now.known.now.starts.items k c.args.guessing.now.conditions.now c.args.needs.now c.halves.low n c.halves.start) next (c.halves.invariant.between a k known same none)
