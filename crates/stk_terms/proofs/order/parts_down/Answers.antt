use Rattle.std.proofs.Common.{◌+◌, ◌<◌, ◌∷◌, [], length, reverse, sym, ap, subst, ◌∙◌, arith}
use Rattle.std.specs.BTreeSet.{contains}
use Rattle.std.specs.BTreeMap.{is_at}
use Rattle.std.specs.List.{list_any}
use Rattle.std.specs.Ordering.{nat_cmp}
use Rattle.std.proofs.lemmas.List.{reverse-append}
use Rattle.stk_terms.specs.Terms.{term_at}
use Rattle.stk_terms.proofs.Reading.{there}
use Rattle.stk_terms.proofs.Collecting.{AreWaiting, begins, goes_down, ends, ends_late, none_wait}
use Rattle.stk_terms.proofs.order.parts_down.Goals as goal

pub loop-turn-init : goal.loop-turn-init
loop-turn-init c =
    begins c.args.terms.now c.count-count.ensures.sound c.args.id.0 c.requires (contains nat_cmp c.insert.new.self) (contains nat_cmp c.new-waiting.result) (reverse c.new-places.result.items)
    (ap reverse c.new-places.ensures.items) (λ j. ap (list_any (is_at (nat_cmp j))) c.new-waiting.ensures.empty) c.in_ok-insert.ensures.updates.0

pub returns-in_default : goal.returns-in_default
returns-in_default c =
    ends c.args.terms.now c.count-count.ensures.sound c.args.id.0 c.requires c.loop-turn._turn (contains nat_cmp c.loop-turn.waiting) (reverse c.loop-turn.places.items) c.loop-turn.invariant
    (none_wait c.loop-turn.waiting.keys (λ l. let v = c.in_default.ensures.variant.1 l in cc))

pub loop-turn-preserved : goal.loop-turn-preserved
loop-turn-preserved c =
    let s = c.args.terms.now in
    let id = c.args.id.0 in
    let sound = c.count-count.ensures.sound in
    let p = c.in-Some.place in
    let l : p < length s.terms = let low = c.loop-turn.invariant.low p c.in-Some.ensures.member in omega (arith, low, c.requires) in
    let args = c.args-in-loop-turn.ensures (term_at s p) (there s sound p l) in
    subst (AreWaiting s id (c.loop-turn._turn + 1) (contains nat_cmp c.put_args.new.places)) (sym (ap reverse c.in_ok-push.ensures.items ∙ reverse-append c.loop-turn.places.items (p ∷ [])))
    (goes_down s sound id c.requires c.loop-turn._turn (contains nat_cmp c.loop-turn.waiting) (contains nat_cmp c.pop_last.new.self) (contains nat_cmp c.put_args.new.places) (reverse c.loop-turn.places.items) c.loop-turn.invariant p c.args-in-loop-turn.result.now c.in-Some.ensures.member c.in-Some.ensures.greatest c.in-Some.ensures.updates.0 args c.in_ok-put_args.ensures)

pub returns : goal.returns
returns c = ends_late c.args.terms.now c.count-count.ensures.sound c.args.id.0 c.requires c.loop-turn._turn (contains nat_cmp c.loop-turn.waiting) (reverse c.loop-turn.places.items) c.loop-turn.invariant (omega (arith, c.loop-turn-test.false))
