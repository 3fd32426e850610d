use Rattle.std.proofs.Common.{◌≡◌, ◌≤◌, ◌-◌, length, drop, get_or, arith, ap, sym, ◌∙◌}
use Rattle.std.proofs.lemmas.List.{length-drop}
use Rattle.stk_lex.specs.Skimming.{closing}
use Rattle.stk_lex.specs.Gaps.{one_more}
use Rattle.stk_lex.proofs.Closings.{closing_within, closing_open, closing_close, closing_other}
use Rattle.stk_lex.proofs.Found.{found_here, found_ahead}
use Rattle.stk_lex.proofs.ahead.closing_with.Goals as goal

pub overflow_sub-behind : goal.overflow_sub-behind
overflow_sub-behind c =
    omega (arith, found_here (closing c.args.bytes.now 1) c.args.behind.now c.args.ends.now c.requires.ends, closing_within c.args.bytes.now c.args.behind.now 1)

pub one_more_than_both-requires : goal.one_more_than_both-requires
one_more_than_both-requires c =
    let find = closing c.args.bytes.now 1 in
    let behind = c.args.behind.now in
    let inner : get_or c.args.ends.now (length behind) 0 ≡ find behind = found_here find behind c.args.ends.now c.requires.ends in
    let within : find behind ≤ length behind = closing_within c.args.bytes.now behind 1 in
    let outer : get_or c.args.ends.now (length behind - find behind) 0 ≡ find (drop (find behind) behind) = found_ahead find behind c.args.ends.now (find behind) c.requires.ends within in
    rw (inner, outer) (omega (arith, within, closing_within c.args.bytes.now (drop (find behind) behind) 1, length-drop (find behind) behind, c.requires.few))

pub returns-then-opens : goal.returns-then-opens
returns-then-opens c =
    let find = closing c.args.bytes.now 1 in
    let behind = c.args.behind.now in
    let inner : get_or c.args.ends.now (length behind) 0 ≡ find behind = found_here find behind c.args.ends.now c.requires.ends in
    let outer : get_or c.args.ends.now (length behind - find behind) 0 ≡ find (drop (find behind) behind) = found_ahead find behind c.args.ends.now (find behind) c.requires.ends (closing_within c.args.bytes.now behind 1) in
    c.one_more_than_both.ensures ∙ rw (inner, outer) (sym (closing_open c.args.bytes.now c.args.token behind (sym c.opens.ensures ∙ c.if-opens.true)))

pub returns-then-closes : goal.returns-then-closes
returns-then-closes c = sym (closing_close c.args.bytes.now c.args.token c.args.behind.now (sym c.opens.ensures ∙ c.if-opens.false) (sym c.closes.ensures ∙ c.if-closes.true))

pub one_more-requires : goal.one_more-requires
one_more-requires c =
    omega (arith, found_here (closing c.args.bytes.now 1) c.args.behind.now c.args.ends.now c.requires.ends, closing_within c.args.bytes.now c.args.behind.now 1, c.requires.few)

pub returns : goal.returns
returns c =
    let inner = found_here (closing c.args.bytes.now 1) c.args.behind.now c.args.ends.now c.requires.ends in
    c.one_more.ensures ∙ ap one_more inner
    ∙ sym (closing_other c.args.bytes.now c.args.token c.args.behind.now (sym c.opens.ensures ∙ c.if-opens.false) (sym c.closes.ensures ∙ c.if-closes.false))
