use Rattle.std.proofs.Common.{◌≡◌, [], ◌∷◌, ◌&&◌, ◌∙◌, Bool, ap, sym, subst, rules, ◌+◌, ◌*◌, refl, arith}
use Rattle.stk_ctype.specs.declared.kind.IntKind.TheVariants.{Int, ULong}
use Rattle.stk_meaning.specs.Operations.{bit}
use Rattle.stk_walking.proofs.Carried.{keeps_then, keeps_none}
use Rattle.stk_walk.specs.Validity.{stands_apart, all_apart, pairs_with, pairs_in}
use Rattle.stk_walk.specs.Located.{wrapped_end, AreLocated, AreLocatedMade, objects_of}
use Rattle.stk_walk.proofs.Placing.{all_shown, all_made, and_assoc, and_true, none_left}
use Rattle.stk_walking.proofs.Costing.{plus, one_completes, charged_all}
use Rattle.stk_walk.proofs.Paired.{both_paired}
use Rattle.stk_walk.proofs.validity.all_apart.Goals as goal

pub loop-x-preserved : goal.loop-x-preserved
loop-x-preserved g c =
    let V = g.V.Values in
    let made = g.V.Values.made in
    let shows = g.V.Values.shows in
    let was = c.loop-x.values in
    let now = c.apart_from.new.values in
    let so_far = c.loop-x.invariant in
    let k = c.in_ok-found.ensures.keeps in
    let x = c.in-Some.x.now in
    let behind = c.in-Some.behind.now in
    let split : c.loop-x.rest.now ≡ x ∷ behind = search rules in
    let rest_made = subst (λ z. AreLocatedMade (made was ULong) z) split so_far.2 in
    let spent = so_far.4 in
    let more = both_paired (pairs_with x.object (objects_of behind)) (pairs_in (objects_of behind)) in
    let completes : spent.so_far + (1286 * pairs_with x.object (objects_of behind) + 1286 * pairs_in (objects_of behind)) ≡ 1286 * pairs_in (objects_of c.args.list.now) =
    ap (λ n. spent.so_far + n) (more ∙ ap (λ z. 1286 * pairs_in (objects_of z)) (sym split)) ∙ spent.completes in (
      keeps_then V.serves V.has_key V.made V.shows c.args.values.now was now so_far.0 k,
      c.in_ok-found.ensures.makes,
      all_made (made was ULong) (made now ULong) (k.made_still ULong) behind rest_made.1,
      (λ m a b served ho hs.
          let r = so_far.3 m a b served ho hs in
          let there = subst (λ z. AreLocated (shows was m ULong) a z) split r.2 in
          let apart = stands_apart a (wrapped_end a) x.object (objects_of behind) in (
            r.0 && apart,
            c.in_ok-found.ensures.value m a r.0 (so_far.0.served m served) there.0 there.1 r.1,
            all_shown (shows was m ULong) (shows now m ULong) (k.shown m ULong) a behind there.1,
            and_assoc r.0 apart (all_apart a (wrapped_end a) (objects_of behind)) ∙ ap (λ z. r.0 && all_apart a (wrapped_end a) (objects_of z)) (sym split) ∙ r.3,
          )),
      record { so_far = _; within = plus _ _ _ spent.within c.in_ok-found.ensures.charge; completes = one_completes _ _ _ _ completes },
    )

pub returns-clause-value : goal.returns-clause-value
returns-clause-value g c = λ m a b served ho hs.
    let shows = g.V.Values.shows in
    let r = c.loop-x.invariant.3 m a b served ho hs in
    let none : c.loop-x.rest.now ≡ [] = none_left c.loop-x.rest.now c.in_default.ensures.cases in
    let same : r.0 ≡ b && all_apart a (wrapped_end a) (objects_of c.args.list.now) = sym (and_true r.0) ∙ ap (λ z. r.0 && all_apart a (wrapped_end a) (objects_of z)) (sym none) ∙ r.3 in
    subst (λ (z : Bool). shows c.loop-x.values m Int c.loop-x.found (bit z)) same r.1

pub loop-x-init : goal.loop-x-init
loop-x-init g c =
    let V = g.V.Values in
    (keeps_none V.serves V.has_key V.made V.shows c.args.values.now, c.requires.start, c.requires.list, (λ m a b served ho hs. (b, hs, ho, refl)), record { so_far = 0; within = omega arith; completes = omega arith })

pub returns-clause-charge : goal.returns-clause-charge
returns-clause-charge g c =
    let none : c.loop-x.rest.now ≡ [] = none_left c.loop-x.rest.now c.in_default.ensures.cases in
    let rest : 1286 * pairs_in (objects_of c.loop-x.rest.now) ≡ 0 = ap (λ z. 1286 * pairs_in (objects_of z)) none in
    charged_all rest c.loop-x.invariant.4
