use Rattle.std.proofs.Common.{◌≡◌, ◌+◌, ◌∷◌, [], ◌++◌, ◌∙◌, take, Bool, false, List, sym, ap, subst, arith, rules}
use Rattle.std.proofs.lemmas.List.{take_more}
use Rattle.stk_ctype.specs.declared.kind.IntKind.TheVariants.{Int, ULong}
use Rattle.stk_meaning.specs.Maps.{addresses_in}
use Rattle.stk_meaning.specs.Operations.{bit}
use Rattle.stk_walking.proofs.Carried.{keeps_then}
use Rattle.stk_walk.specs.declared.validity.Located.{Located}
use Rattle.stk_walk.specs.Validity.{all_lie}
use Rattle.stk_walk.specs.Located.{AreLocated, AreLocatedMade, objects_of}
use Rattle.stk_walk.proofs.Placing.{located_shown, all_shown, located_made, all_made, more_shown, more_made, objects_more, all_lie_more}
use Rattle.stk_walk.proofs.validity.locate_all.Goals as goal

pub loop-object-preserved : goal.loop-object-preserved
loop-object-preserved g c =
    let V = g.V.Values in
    let made = g.V.Values.made in
    let shows = g.V.Values.shows in
    let start = c.args.values.now in
    let was = c.loop-object.values in
    let mid = c.locate.new.values in
    let now = c.lies_where.new.values in
    let so_far = c.loop-object.invariant in
    let k1 = c.in_ok-x.ensures.keeps in
    let k2 = c.in_ok-lie-2.ensures.keeps in
    let x = c.in_ok-x.x in
    let xs = c.loop-object.list.items in
    let pushed : c.push.new.self.items ≡ xs ++ x ∷ [] = search rules in
    let k = keeps_then V.serves V.has_key V.made V.shows was mid now k1 k2 in
    let listed : objects_of c.push.new.self.items ≡ take (c.loop-object.object-index + 1) c.args.objects.now = ap objects_of pushed ∙ objects_more xs x ∙ ap (λ os. os ++ x.object ∷ []) so_far.1 ∙ ap (λ o. take c.loop-object.object-index c.args.objects.now ++ o ∷ []) c.in_ok-x.ensures.object ∙ sym (take_more c.args.objects.now c.loop-object.object-index (record { node = 0; size = 0; is_kept = false; is_plain = false }) (omega arith)) in (
      keeps_then V.serves V.has_key V.made V.shows start was now so_far.0 k,
      listed,
      c.in_ok-lie-2.ensures.makes,
      subst (λ (ys : List (Located g.row.V-Value.Denot)). AreLocatedMade (made now ULong) ys) (sym pushed) (more_made (made now ULong) xs x (all_made (made was ULong) (made now ULong) (k.made_still ULong) xs so_far.3) (located_made (made mid ULong) (made now ULong) (k2.made_still ULong) x c.in_ok-x.ensures.makes)),
      (λ m served.
          let a = addresses_in (g.O.WalkSetting.under c.args.out.now m) in
          let r = so_far.4 m served in
          let s1 = so_far.0.served m served in
          let at = c.in_ok-x.ensures.value m s1 in
          let lie = c.in_ok-lie-2.ensures.value m a (all_lie a (objects_of xs)) (k1.served m s1) at (k1.shown m _ _ _ r.1) in
          let whole = more_shown (shows now m ULong) a xs x (all_shown (shows was m ULong) (shows now m ULong) (k.shown m ULong) a xs r.0) (located_shown (shows mid m ULong) (shows now m ULong) (k2.shown m ULong) a x at) in
          let same = sym (ap (all_lie a) (ap objects_of pushed ∙ objects_more xs x) ∙ all_lie_more a (objects_of xs) x.object) in (
            subst (λ (ys : List (Located g.row.V-Value.Denot)). AreLocated (shows now m ULong) a ys) (sym pushed) whole,
            subst (λ (b : Bool). shows now m Int c.in_ok-lie-2.lie (bit b)) same lie,
          )),
      omega (arith, so_far.5, c.in_ok-x.ensures.charge, c.in_ok-lie-2.ensures.charge),
    )

pub returns-clause-charge : goal.returns-clause-charge
returns-clause-charge g c = omega (arith, c.loop-object.invariant.5)
