use Rattle.std.proofs.Common.{◌≡◌, ◌+◌, ◌<◌, length, take, drop, true, sym, ◌∙◌, arith}
use Rattle.std.proofs.lemmas.List.{length-drop, take_rest}
use Rattle.stk_lex.specs.Gaps.{gap, begins}
use Rattle.stk_lex.proofs.ReadMarkers.{marker_is_there, no_marker_there}
use Rattle.stk_lex.proofs.markers.marker_at.Goals as goal

pub returns-clause-some : goal.returns-clause-some
returns-clause-some c =
    let text = c.args.bytes.now in
    let at = c.args.at in
    let some : 0 < gap text at = omega (arith, c.gap-n.ensures.value, c.if-n-eq0.false) in
    let hash : begins 35 (drop at text) ≡ true = rw c.split_at.ensures.back at (sym c.begins.ensures ∙ c.if-not-begins.false) in
    let other = rw (c.split_at.ensures.back, c.gap-n.ensures.value) at c.if-n-rest.false in
    let ended : at + gap text at < length text = omega (arith, other, c.gap-n.ensures.value, c.gap-n.ensures.within, length-drop at text) in
    marker_is_there text at c.marker_of.result c.requires.part some hash ended (rw (c.split_at-2.ensures.front, c.split_at.ensures.back, c.gap-n.ensures.value, take_rest (take (gap c.args.bytes.now c.args.at) (drop c.args.at c.args.bytes.now)) 1) at c.marker_of.ensures.value)

pub returns-clause-none : goal.returns-clause-none
returns-clause-none c =
    no_marker_there c.args.bytes.now c.args.at c.marker_of.result (rw (c.split_at-2.ensures.front, c.split_at.ensures.back, c.gap-n.ensures.value, take_rest (take (gap c.args.bytes.now c.args.at) (drop c.args.at c.args.bytes.now)) 1) at c.marker_of.ensures.value)
