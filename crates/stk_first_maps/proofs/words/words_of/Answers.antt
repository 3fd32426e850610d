use Rattle.std.proofs.Common.{rules, ◌≡◌, ◌∙◌, ap, map, drop, get_or, to_z, of_z}
use Rattle.std.specs.Int.{w128}
use Rattle.stk_numbers.specs.Kinds.{wrap}
use Rattle.stk_function_env.specs.Infos.{info_in}
use Rattle.stk_first_maps.specs.Words.{wrapped_by}
use Rattle.stk_first_maps.proofs.Ranges.{no_key, next_word, last_word}
use Rattle.stk_first_maps.proofs.words.words_of.Goals as goal

pub returns-in_default : goal.returns-in_default
returns-in_default c = last_word (map info_in (drop c.loop-info.info-index c.args.keys.now)) c.loop-info.words.items c.loop-info.rest.now (wrapped_by (map info_in c.args.keys.now) c.args.numbers.now) c.loop-info.invariant c.in_default.ensures.cases

pub loop-info-preserved : goal.loop-info-preserved
loop-info-preserved c =
    let same : to_z w128 (of_z w128 c.in-Some.number.now) ≡ c.in-Some.number.now = search rules in
    next_word c.args.keys.now c.loop-info.info-index no_key c.loop-info.words.items c.push.new.self.items c.in-Some.number.now c.wrapped.result c.in-Some.behind.now c.loop-info.rest.now (wrapped_by (map info_in c.args.keys.now) c.args.numbers.now) c.loop-info-test.true c.loop-info.invariant c.in-Some.ensures.cases.0
    (c.wrapped.ensures ∙ ap (wrap (get_or c.args.keys.now c.loop-info.info-index no_key).kind) same)
    c.in_ok-push.ensures.items
