use Rattle.std.proofs.Common.{ℕ, ◌≡◌, List, [], arith, eqb-true, sym, ◌∙◌, subst, vec_len}
use Rattle.std.specs.Prelude.{IfOk, filter}
use Rattle.std.proofs.lemmas.List.{nil_from_length}
use Rattle.stk_address_taken.specs.Sets.{is_listed}
use Rattle.stk_function_env.proofs.Filters.{none-among}
use Rattle.stk_function_env.proofs.changes.those_among.Goals as goal

pub returns-then-is_empty : goal.returns-then-is_empty
returns-then-is_empty c =
    let none : c.args.others.items ≡ [] = nil_from_length c.args.others.items (omega (arith, c.args.others.ok.0, eqb-true (vec_len c.args.others) 0 (sym c.is_empty.ensures ∙ c.if-is_empty.true))) in
    c.new.ensures.items ∙ none-among c.args.list.now c.args.others.items none

pub returns : goal.returns
returns c =
    subst (λ (xs : List ℕ). IfOk c.those_in.result (λ out. out.items ≡ filter (λ k. is_listed k xs) c.args.list.now)) c.in_ok-set.ensures c.those_in.ensures
