use Rattle.std.proofs.Common.{ℤ, sym, subst}
use Rattle.stk_kinded.specs.Kinds.{key_kind}
use Rattle.stk_walking.specs.Keyed.{key_shown}
use Rattle.stk_walking.proofs.Resetting.{place_there}
use Rattle.stk_walking.proofs.inputs.input_value.Goals as goal

pub keyed-requires : goal.keyed-requires
keyed-requires g c =
    place_there (g.V.Values.has_key c.args.values.now) (g.O.WalkSetting.kinds c.args.out.now) c.place_of-place.result (key_kind (g.O.RunSetting.setting c.args.out.now) (key_shown c.args.key)) c.args.kind c.requires.keys c.requires.kind c.place_of-place.ensures.kind

pub returns-clause-value : goal.returns-clause-value
returns-clause-value g c = λ m served.
    subst (λ (z : ℤ). g.V.Values.shows c.keyed.new.values m c.args.kind c.in_ok-number.number z) (sym (c.place_of-place.ensures.number m)) (c.in_ok-number.ensures.value m served)

pub returns-clause-charge : goal.returns-clause-charge
returns-clause-charge g c = c.in_ok-number.ensures.charge
