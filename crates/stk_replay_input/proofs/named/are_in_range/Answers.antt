use Rattle.std.proofs.Common.{rules, ◌≡◌, ◌<◌, ◌≤◌, ◌∙◌, [], drop, ap, sym, map, length, get_or, to_z, of_z, arith}
use Rattle.std.specs.Int.{w128}
use Rattle.std.proofs.lemmas.List.{drop_all}
use Rattle.stk_numbers.specs.Kinds.{fits}
use Rattle.stk_meaning.specs.Maps.{AreInRange}
use Rattle.stk_function_env.specs.Infos.{info_in}
use Rattle.stk_replay_input.proofs.KeyRanges.{no_key, too_few, not_in_range, next_in_range, last_in_range}
use Rattle.stk_replay_input.proofs.named.are_in_range.Goals as goal

pub returns-in_default : goal.returns-in_default
returns-in_default c =
    let whole = AreInRange (map info_in c.args.keys.now) c.args.numbers.now in
    (λ t. absurd cc, λ w. absurd (too_few c.args.keys.now c.loop-info.info-index c.loop-info.rest.now whole c.loop-info.invariant c.loop-info-test.true c.in_default.ensures.cases w))

pub returns-then-not-fits : goal.returns-then-not-fits
returns-then-not-fits c =
    let whole = AreInRange (map info_in c.args.keys.now) c.args.numbers.now in
    let same : to_z w128 (of_z w128 c.in-Some.number.now) ≡ c.in-Some.number.now = search rules in
    let outside = sym (c.fits.ensures ∙ ap (fits (get_or c.args.keys.now c.loop-info.info-index no_key).kind) same) ∙ c.if-not-fits.true in
    (λ t. absurd cc, λ w. absurd (not_in_range c.args.keys.now c.loop-info.info-index c.loop-info.rest.now whole c.loop-info.invariant c.loop-info-test.true c.in-Some.number.now c.in-Some.behind.now c.in-Some.ensures.cases.0 outside w))

pub loop-info-preserved : goal.loop-info-preserved
loop-info-preserved c =
    let whole = AreInRange (map info_in c.args.keys.now) c.args.numbers.now in
    let same : to_z w128 (of_z w128 c.in-Some.number.now) ≡ c.in-Some.number.now = search rules in
    let inside = sym (c.fits.ensures ∙ ap (fits (get_or c.args.keys.now c.loop-info.info-index no_key).kind) same) ∙ c.if-not-fits.false in
    next_in_range c.args.keys.now c.loop-info.info-index c.loop-info.rest.now whole c.loop-info.invariant c.loop-info-test.true c.in-Some.number.now c.in-Some.behind.now c.in-Some.ensures.cases.0 inside

pub returns : goal.returns
returns c =
    let whole = AreInRange (map info_in c.args.keys.now) c.args.numbers.now in
    let past : length c.args.keys.now ≤ c.loop-info.info-index = search rules in
    last_in_range c.args.keys.now c.loop-info.info-index c.loop-info.rest.now whole c.loop-info.invariant (drop_all c.loop-info.info-index c.args.keys.now past) c.is_empty.result c.is_empty.ensures
