use Rattle.std.proofs.Common.{◌≡◌, ℕ, ◌<◌, ◌≤◌, true, false, nat_lt, sym, ap, ◌∙◌, arith}
use Rattle.stk_terms.proofs.Reading.{nth_get, nth_none}
use Rattle.stk_smtlib.proofs.bodies.argument.Goals as goal

is_below : (a b : ℕ) → true ≡ nat_lt a b → a < b
is_below a b e = grind arith

is_behind : (a b : ℕ) → false ≡ nat_lt a b → b ≤ a
is_behind a b e = grind arith

pub returns-in-Some : goal.returns-in-Some
returns-in-Some c = ap (λ x. x.0) c.in-Some.ensures.lookup.1 ∙ nth_get c.args.args.now c.args.place _ (is_below _ _ c.in-Some.ensures.lookup.0)

pub returns-in-None : goal.returns-in-None
returns-in-None c = sym (nth_none c.args.args.now c.args.place (is_behind _ _ c.in-None.ensures.lookup.0))
