use Rattle.std.proofs.Common.{◌≡◌, length, ◌∷◌, arith, sym, ◌∙◌}
use Rattle.stk_lex.specs.Skimming.{closing, kept_tokens, notes_of}
use Rattle.stk_lex.specs.Ahead.{unchanged}
use Rattle.stk_lex.proofs.Found.{found_behind}
use Rattle.stk_lex.proofs.Groups.{dropped_within}
use Rattle.stk_lex.proofs.Kept.{kept_spans, noted_positions}
use Rattle.stk_lex.proofs.Skims.{skims_keep, skims_drop, skims_all, skims_done}
use Rattle.stk_lex.proofs.skimming.skim.Goals as goal

pub dropped-n-requires-clause-ends : goal.dropped-n-requires-clause-ends
dropped-n-requires-clause-ends c =
    let s = rw c.in-Some.ensures.cases.0 at c.loop-token.invariant in
    rw c.deref.ensures.value (found_behind (closing c.args.bytes.now 1) c.in-Some.token.now c.in-Some.behind.now c.in_ok-ends.ends.items s.closed)

pub dropped-n-requires-clause-changes : goal.dropped-n-requires-clause-changes
dropped-n-requires-clause-changes c =
    let s = rw c.in-Some.ensures.cases.0 at c.loop-token.invariant in
    rw c.deref-in-Some.ensures.value (found_behind (unchanged c.args.bytes.now) c.in-Some.token.now c.in-Some.behind.now c.in_ok-changes.changes.items s.unchanging)

pub loop-token-init : goal.loop-token-init
loop-token-init c =
    rw (c.new-kept.ensures.items, c.new-notes.ensures.items)
    (skims_all c.args.bytes.now c.args.tokens.now c.in_ok-ends.ends.items c.in_ok-changes.changes.items c.in_ok-ends.ensures c.in_ok-changes.ensures)

pub loop-token-preserved-then-n-eq0 : goal.loop-token-preserved-then-n-eq0
loop-token-preserved-then-n-eq0 c =
    let s = rw c.in-Some.ensures.cases.0 at c.loop-token.invariant in
    rw (c.in_ok-push.ensures.items, c.depth_behind-depth.ensures.value)
    (skims_keep c.args.bytes.now c.args.tokens.now c.in_ok-ends.ends.items c.in_ok-changes.changes.items c.loop-token.kept.items c.loop-token.notes.items c.loop-token.depth c.in-Some.token.now c.in-Some.behind.now
    (sym c.dropped-n.ensures ∙ c.if-n-eq0.true) s)

pub split_at-requires : goal.split_at-requires
split_at-requires c =
    omega (arith, c.dropped-n.ensures, dropped_within c.args.bytes.now c.loop-token.depth (c.in-Some.token.now ∷ c.in-Some.behind.now), c.in-Some.ensures.cases.1)

pub loop-token-preserved : goal.loop-token-preserved
loop-token-preserved c =
    let s = rw c.in-Some.ensures.cases.0 at c.loop-token.invariant in
    let front = rw c.in-Some.ensures.cases.0 at c.split_at.ensures.front in
    let back = rw c.in-Some.ensures.cases.0 at c.split_at.ensures.back in
    rw (c.in_ok-add_note.ensures, front, back)
    (skims_drop c.args.bytes.now c.args.tokens.now c.in_ok-ends.ends.items c.in_ok-changes.changes.items c.loop-token.kept.items c.loop-token.notes.items c.loop-token.depth c.in-Some.token.now c.in-Some.behind.now
    c.dropped-n.result c.if-n-eq0.false c.dropped-n.ensures s)

pub returns : goal.returns
returns c =
    let done = skims_done c.args.bytes.now c.args.tokens.now c.in_ok-ends.ends.items c.in_ok-changes.changes.items c.loop-token.kept.items c.loop-token.notes.items c.loop-token.depth c.loop-token.rest.now
    c.in_default.ensures.cases c.loop-token.invariant in
    let tokens : c.from_vec.result ≡ kept_tokens c.args.bytes.now c.args.tokens.now = c.from_vec.ensures ∙ done.0 in
    let notes : c.from_vec-2.result ≡ notes_of c.args.bytes.now c.args.tokens.now = c.from_vec-2.ensures ∙ done.1 in
    record {
      tokens = tokens;
      notes = notes;
      few = rw c.from_vec.ensures (omega (arith, c.loop-token.invariant.few));
      spans = λ spans. rw tokens (kept_spans c.args.bytes.now (length c.args.bytes.now) c.args.tokens.now 0 0 0 spans);
      positions = λ spans. rw notes (noted_positions c.args.bytes.now (length c.args.bytes.now) c.args.tokens.now 0 0 0 spans);
    }
