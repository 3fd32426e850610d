use Rattle.stk_walk_values.proofs.operators.alone.Goals as goal

pub returns-clause-makes : goal.returns-clause-makes
returns-clause-makes g c = λ k h. record { number = c.in_ok-value.ensures.keeps.made_still _ _ h; left = c.in_ok-value.ensures.makes; right = c.in_ok-value.ensures.makes }

pub returns-clause-value : goal.returns-clause-value
returns-clause-value g c = λ m k x served hx.
    let none = c.in_ok-value.ensures.value m served in
    record { number = c.in_ok-value.ensures.keeps.shown m _ _ _ hx; left = none; right = none }
