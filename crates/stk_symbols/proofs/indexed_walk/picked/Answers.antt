use Rattle.std.proofs.Common.{rules, ◌<◌, ◌≤◌, ◌+◌, length, get_or, Vec, Global, refl, sym, subst, arith}
use Rattle.std.specs.Prelude.{ℕ}
use Rattle.stk_terms.specs.declared.term.TermId.{TermId}
use Rattle.stk_values.specs.declared.walked.Step.{Step}
use Rattle.stk_symbols.proofs.Picking.{Picked, passed, next_place, picking_ends}
use Rattle.stk_symbols.proofs.indexed_walk.picked.Goals as goal
use Rattle.stk_symbols.proofs.indexed_walk.picked.Goals.{then-place-end+in_ok-push, else-place-end}

pub loop-place-preserved : goal.loop-place-preserved
loop-place-preserved c =
    let steps = c.args.steps.now in
    let places = c.args.places.now in
    let i = c.loop-place.place-index in
    let below : i < length places = search rules in
    elim c.if-place-end.branch [
      | then-place-end+in_ok-push w ↦ record {
        within = (let here = c.requires.within i 0 below in omega (arith, here, w.end-is));
        picked = λ test are.
            let low : c.loop-place.end ≤ get_or places i 0 = omega (arith, w.if-place-end.true) in
            let more = next_place test steps places c.loop-place.list.items w.push.new.self.items i c.loop-place.end (get_or places i 0) 0 _ are c.requires.ascending below refl low (c.loop-place.invariant.picked test are) w.in_ok-push.ensures.items in
            subst (λ (l : Vec (Step TermId) Global). Picked test steps places l.items (i + 1) c.if-place-end.end) (sym w.list-is) (subst (λ (n : ℕ). Picked test steps places w.push.new.self.items (i + 1) n) (sym w.end-is) more);
      }
      | else-place-end w ↦ record {
        within = (let h = c.loop-place.invariant.within in omega (arith, h, w.end-is));
        picked = λ test are.
            let same = passed test steps places c.loop-place.list.items i c.loop-place.end 0 below w.if-place-end.false (c.loop-place.invariant.picked test are) in
            subst (λ (l : Vec (Step TermId) Global). Picked test steps places l.items (i + 1) c.if-place-end.end) (sym w.list-is) (subst (λ (n : ℕ). Picked test steps places c.loop-place.list.items (i + 1) n) (sym w.end-is) same);
      }
    ]

pub returns : goal.returns
returns c test are =
    let done : length c.args.places.now ≤ c.loop-place.place-index = search rules in
    picking_ends test c.args.steps.now c.args.places.now c.loop-place.list.items c.loop-place.place-index c.loop-place.end done c.loop-place.invariant.within (c.loop-place.invariant.picked test are)
