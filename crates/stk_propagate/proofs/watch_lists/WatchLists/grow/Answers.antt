use Rattle.std.proofs.Common.{◌+◌, ◌<◌, refl, subst, sym}
use Rattle.stk_propagate.specs.WatchLists.{Chained}
use Rattle.stk_propagate.proofs.Operations.{grown, kept}
use Rattle.stk_propagate.specs.declared.watch_lists.WatchLists.TheInside.{Inside}
use Rattle.stk_propagate.proofs.watch_lists.WatchLists.grow.Goals as goal

pub invariant_of-self : goal.invariant_of-self
invariant_of-self c = (kept c.self.inside _ c.self.invariant refl c.in_err-extend_from_slice.ensures.items).1

pub invariant_of-self-2 : goal.invariant_of-self-2
invariant_of-self-2 c =
    let few = subst (λ (o : Chained). o.numbers + 2 < 4294967296) (sym c.self.view_is) c.requires in
    (grown c.self.inside _ 4294967295 4294967295 c.self.invariant few refl c.in_ok-extend_from_slice.ensures.items).1

pub returns-clause-grown : goal.returns-clause-grown
returns-clause-grown c =
    let few = subst (λ (o : Chained). o.numbers + 2 < 4294967296) (sym c.self.view_is) c.requires in
    let g : Inside = record { firsts = c.self.inside.firsts; nexts = c.extend_from_slice.new.self } in
    rw (← c.self.view_is) (grown c.self.inside g 4294967295 4294967295 c.self.invariant few refl c.in_ok-extend_from_slice.ensures.items).0
