use Rattle.std.proofs.Common.{◌≡◌, ◌<◌, List, length, sym, subst, ◌∙◌, nat_eq}
use Rattle.std.specs.Prelude.{filter, IfOk}
use Rattle.std.specs.List.{All}
use Rattle.std.specs.List.Sorted.{IsNonDecreasing}
use Rattle.std.proofs.lemmas.List.Sorted.{IsNonDecreasingBy-from_sort, list_any-IsPermutation}
use Rattle.stk_terms.specs.declared.term.TermId.{TermId}
use Rattle.stk_values.specs.declared.walked.Step.{Step}
use Rattle.stk_values.specs.Walks.{event_of}
use Rattle.stk_symbols.specs.Matters.{matters, ArePlaces, events_of}
use Rattle.stk_symbols.proofs.Picking.{places_within}
use Rattle.stk_symbols.proofs.indexed_walk.IndexedWalk.steps_that_matter.Goals as goal

pub picked-requires-clause-ascending : goal.picked-requires-clause-ascending
picked-requires-clause-ascending c = subst IsNonDecreasing (sym c.as_slice-2.ensures.value) (IsNonDecreasingBy-from_sort (λ x. x) c.sort_unstable.new.self.items c.sort_unstable.ensures.sorted)

pub picked-requires-clause-within : goal.picked-requires-clause-within
picked-requires-clause-within c =
    let steps = c.args.self.now.walked.steps in
    let test = matters c.args.set.now c.args.candidate in
    let sorted : ArePlaces test (events_of steps) c.sort_unstable.new.self.items = λ q. sym (list_any-IsPermutation (nat_eq q) _ _ c.sort_unstable.ensures.permutation) ∙ c.in_ok-places.ensures q in
    subst (λ (l : List (Step TermId)). All (λ q. q < length l) c.as_slice-2.result.now) (sym c.as_slice.ensures)
    (subst (All (λ q. q < length steps)) (sym c.as_slice-2.ensures.value) (places_within test steps c.sort_unstable.new.self.items sorted))

pub returns : goal.returns
returns c =
    let steps = c.args.self.now.walked.steps in
    let test = matters c.args.set.now c.args.candidate in
    let sorted : ArePlaces test (events_of steps) c.sort_unstable.new.self.items = λ q. sym (list_any-IsPermutation (nat_eq q) _ _ c.sort_unstable.ensures.permutation) ∙ c.in_ok-places.ensures q in
    let here : ArePlaces test (events_of c.as_slice.result.now) c.as_slice-2.result.now =
    subst (λ (l : List (Step TermId)). ArePlaces test (events_of l) c.as_slice-2.result.now) (sym c.as_slice.ensures) (subst (ArePlaces test (events_of steps)) (sym c.as_slice-2.ensures.value) sorted) in
    subst (λ (l : List (Step TermId)). IfOk c.picked.result (λ list. list.items ≡ filter (λ x. test (event_of x)) l)) c.as_slice.ensures (c.picked.ensures test here)
