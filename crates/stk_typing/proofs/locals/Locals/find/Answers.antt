use Rattle.std.proofs.Common.{arith, ◌∙◌, ap, sym, Some, map, length}
use Rattle.std.specs.Prelude.{slice_index_or}
use Rattle.stk_typing.specs.Locals.{local_of}
use Rattle.stk_typing.proofs.Found.{at_place, no_place, found_at, found_sound}
use Rattle.stk_typing.proofs.locals.Locals.find.Goals as goal

pub index-requires : goal.index-requires
index-requires c =
    let at = at_place c.args.name.now c.args.self.now c.place.result c.in-Some.place c.place.ensures c.in-Some.is in
    omega (arith, at.high, ap length c.self.view_is)

pub returns-in-None-clause-is : goal.returns-in-None-clause-is
returns-in-None-clause-is c = sym (no_place c.args.name.now c.args.self.now c.place.result c.place.ensures c.in-None.is)

pub returns-in-Some-clause-is : goal.returns-in-Some-clause-is
returns-in-Some-clause-is c =
    let at = at_place c.args.name.now c.args.self.now c.place.result c.in-Some.place c.place.ensures c.in-Some.is in
    let here = c.index.ensures ∙ ap (λ ls. slice_index_or ls c.in-Some.place c.index.result.now) c.self.view_is in
    sym (found_at c.args.name.now c.args.self.now c.in-Some.place c.index.result.now at here)

pub returns-in-Some-clause-sound : goal.returns-in-Some-clause-sound
returns-in-Some-clause-sound c = λ structs so.
    let at = at_place c.args.name.now c.args.self.now c.place.result c.in-Some.place c.place.ensures c.in-Some.is in
    let here = c.index.ensures ∙ ap (λ ls. slice_index_or ls c.in-Some.place c.index.result.now) c.self.view_is in
    found_sound structs c.args.name.now (map local_of c.args.self.now) (Some c.index.result.now) (sym (found_at c.args.name.now c.args.self.now c.in-Some.place c.index.result.now at here)) so
