use Rattle.std.proofs.Common.{false, pos, subst, refl, arith}
use Rattle.stk_ctype.specs.declared.kind.IntKind.{IntKind}
use Rattle.stk_guarded.specs.Standing.{live}
use Rattle.stk_guarded.proofs.Evaluations.{cut_goes}
use Rattle.stk_walking.proofs.Carried.{is_made_guarded}
use Rattle.stk_walking.proofs.Leading.{stands_guarded}
use Rattle.stk_walk_values.proofs.Lasting.{both_keep, still_made, still_stands}
use Rattle.stk_walking.proofs.Costing.{costs_free}
use Rattle.stk_walk_values.proofs.calls.never_returned.Goals as goal

pub returns-clause-made : goal.returns-clause-made
returns-clause-made g c =
    let k1 = c.in_ok-none.ensures.keeps in
    let k2 = c.in_ok-number.ensures.keeps in
    is_made_guarded (g.V.Values.made c.zero-2.new.values) (g.O.RunSetting.setting c.args.out.now) c.args.state.now c.in_ok-none.none (still_made (both_keep k1 k2) c.requires.made) (k2.made_still _ _ c.in_ok-none.ensures.makes)

pub returns-clause-follows : goal.returns-clause-follows
returns-clause-follows g c = λ m s served at.
    let shows = g.V.Values.shows in
    let k1 = c.in_ok-none.ensures.keeps in
    let k2 = c.in_ok-number.ensures.keeps in
    let s1 = k1.served m served in
    let now = shows c.zero-2.new.values m in
    record {
      number = pos 0;
      standing = live false s;
      value = subst (λ (k : IntKind). now k c.in_ok-number.number (pos 0)) c.kind_at.ensures (c.in_ok-number.ensures.value m s1);
      stands = stands_guarded now (g.O.RunSetting.setting c.args.out.now) c.args.state.now s c.in_ok-none.none false (still_stands (both_keep k1 k2) m at) (k2.shown m _ _ _ (c.in_ok-none.ensures.value m served));
      goes = cut_goes (pos 0) s;
    }

pub returns-clause-cost : goal.returns-clause-cost
returns-clause-cost g c = costs_free refl (omega (arith, c.in_ok-none.ensures.charge, c.in_ok-number.ensures.charge))
