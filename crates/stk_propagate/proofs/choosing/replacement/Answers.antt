use Rattle.std.proofs.Common.{List, sym, subst}
use Rattle.std.specs.List.{Contains}
use Rattle.std.proofs.lemmas.List.Elements.{Contains-append_right}
use Rattle.stk_clauses.specs.declared.literal.Lit.{Lit}
use Rattle.stk_propagate.proofs.Choose.{found_in_front}
use Rattle.stk_propagate.proofs.choosing.replacement.Goals as goal

pub returns-in-Some : goal.returns-in-Some
returns-in-Some c =
    let s = c.split_at in
    let found = c.in-Some.ensures in (
      subst (λ (ys : List Lit). Contains ys c.in-Some.lit) (sym s.ensures.by_index.0) (Contains-append_right s.result.0.now s.result.1.now c.in-Some.lit found.0),
      found.1,
      found.2,
      found.3,
    )

pub returns : goal.returns
returns c =
    let s = c.split_at in
    found_in_front c.live_among-2.result c.args.assigned.now.literals c.args.clause.now s.result.0.now s.result.1.now c.args.a c.args.b s.ensures.by_index.0 c.in_default.ensures c.live_among-2.ensures
