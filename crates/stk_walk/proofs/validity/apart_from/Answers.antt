use Rattle.std.proofs.Common.{◌≡◌, ◌∷◌, ◌&&◌, not, ◌∙◌, ap, sym, subst, rules, ◌+◌, ◌*◌, [], refl, arith}
use Rattle.stk_ctype.specs.declared.kind.IntKind.TheVariants.{ULong}
use Rattle.stk_walking.proofs.Carried.{keeps_then, keeps_none}
use Rattle.stk_walk.specs.Validity.{is_pair, share, stands_apart, pairs_with}
use Rattle.stk_walk.specs.Located.{wrapped_end, AreLocated, AreLocatedMade, objects_of}
use Rattle.stk_walk.proofs.Placing.{located_shown, all_shown, located_made, all_made, and_assoc, none_left}
use Rattle.std.specs.Prelude.{if◌then◌else◌}
use Rattle.stk_walking.proofs.Costing.{plus, one_completes, charged_all}
use Rattle.stk_walk.proofs.Paired.{with_paired}
use Rattle.stk_walk.proofs.validity.apart_from.Goals as goal

pub loop-y-preserved : goal.loop-y-preserved
loop-y-preserved g c =
    let V = g.V.Values in
    let made = g.V.Values.made in
    let shows = g.V.Values.shows in
    let was = c.loop-y.values in
    let now = c.apart_where.new.values in
    let so_far = c.loop-y.invariant in
    let k = c.in_ok-found.ensures.keeps in
    let x = c.args.x.now in
    let y = c.in-Some.y.now in
    let behind = c.in-Some.behind.now in
    let split : c.loop-y.rest.now ≡ y ∷ behind = search rules in
    let rest_made = subst (λ z. AreLocatedMade (made was ULong) z) split so_far.3 in
    let spent = so_far.5 in
    let more = with_paired (is_pair x.object y.object) (pairs_with x.object (objects_of behind)) in
    let completes : spent.so_far + ((if is_pair x.object y.object then 1286 else 0) + 1286 * pairs_with x.object (objects_of behind)) ≡ 1286 * pairs_with x.object (objects_of c.args.others.now) =
    ap (λ n. spent.so_far + n) (more ∙ ap (λ z. 1286 * pairs_with x.object (objects_of z)) (sym split)) ∙ spent.completes in (
      keeps_then V.serves V.has_key V.made V.shows c.args.values.now was now so_far.0 k,
      c.in_ok-found.ensures.makes,
      located_made (made was ULong) (made now ULong) (k.made_still ULong) x so_far.2,
      all_made (made was ULong) (made now ULong) (k.made_still ULong) behind rest_made.1,
      (λ m a b served hx ho hs.
          let r = so_far.4 m a b served hx ho hs in
          let here = located_shown (shows c.args.values.now m ULong) (shows was m ULong) (so_far.0.shown m ULong) a x hx in
          let there = subst (λ z. AreLocated (shows was m ULong) a z) split r.2 in
          let apart = not (is_pair x.object y.object && share a (wrapped_end a) x.object y.object) in (
            r.0 && apart,
            c.in_ok-found.ensures.value m a r.0 (so_far.0.served m served) here there.0 r.1,
            all_shown (shows was m ULong) (shows now m ULong) (k.shown m ULong) a behind there.1,
            and_assoc r.0 apart (stands_apart a (wrapped_end a) x.object (objects_of behind)) ∙ ap (λ z. r.0 && stands_apart a (wrapped_end a) x.object (objects_of z)) (sym split) ∙ r.3,
          )),
      record { so_far = _; within = plus _ _ _ spent.within c.in_ok-found.ensures.charge; completes = one_completes _ _ _ _ completes },
    )

pub loop-y-init : goal.loop-y-init
loop-y-init g c =
    let V = g.V.Values in
    (keeps_none V.serves V.has_key V.made V.shows c.args.values.now, c.requires.start, c.requires.first, c.requires.others, (λ m a b served hx ho hs. (b, hs, ho, refl)), record { so_far = 0; within = omega arith; completes = omega arith })

pub returns-clause-charge : goal.returns-clause-charge
returns-clause-charge g c =
    let none : c.loop-y.rest.now ≡ [] = none_left c.loop-y.rest.now c.in_default.ensures.cases in
    let rest : 1286 * pairs_with c.args.x.now.object (objects_of c.loop-y.rest.now) ≡ 0 = ap (λ z. 1286 * pairs_with c.args.x.now.object (objects_of z)) none in
    charged_all rest c.loop-y.invariant.5
