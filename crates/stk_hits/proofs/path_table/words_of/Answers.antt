use Rattle.std.proofs.Common.{rules, ◌≡◌, ◌∙◌, ap, get_or, to_z, of_z}
use Rattle.std.specs.Int.{w128}
use Rattle.stk_ctype.specs.declared.kind.IntKind.TheVariants as kind
use Rattle.stk_numbers.specs.Kinds.{wrap}
use Rattle.stk_hits.specs.PathTables.{wrapped}
use Rattle.stk_hits.proofs.Tabling.{next_word, last_word}
use Rattle.stk_hits.proofs.path_table.words_of.Goals as goal

pub returns-in_default : goal.returns-in_default
returns-in_default c = last_word c.args.kinds.now c.loop-kind.kind-index c.loop-kind.words.items c.loop-kind.rest.now (wrapped c.args.kinds.now c.args.numbers.now) c.loop-kind.invariant c.in_default.ensures.cases

pub loop-kind-preserved : goal.loop-kind-preserved
loop-kind-preserved c =
    let same : to_z w128 (of_z w128 c.in-Some.number.now) ≡ c.in-Some.number.now = search rules in
    next_word c.args.kinds.now c.loop-kind.kind-index kind.Bool c.loop-kind.words.items c.push.new.self.items c.in-Some.number.now c.wrapped.result c.in-Some.behind.now c.loop-kind.rest.now (wrapped c.args.kinds.now c.args.numbers.now) c.loop-kind-test.true c.loop-kind.invariant c.in-Some.ensures.cases.0
    (c.wrapped.ensures ∙ ap (wrap (get_or c.args.kinds.now c.loop-kind.kind-index kind.Bool)) same)
    c.in_ok-push.ensures.items
