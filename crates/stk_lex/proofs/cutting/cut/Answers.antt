use Rattle.std.proofs.Common.{◌≡◌, arith, sym, ◌∙◌}
use Rattle.stk_lex.proofs.UnitCuts.{AreCut, cuts_begin, cuts_on, cuts_end, cuts_none, cuts_last, begun_within, cut_joined}
use Rattle.stk_lex.proofs.cutting.cut.Goals as goal

pub loop-token-init : goal.loop-token-init
loop-token-init c =
    rw (c.new-pieces.ensures.items, c.as_slice-notes.ensures, c.as_slice-rest.ensures)
    (cuts_begin c.args.bytes.now c.args.skimmed.now.tokens c.args.skimmed.now.notes c.at-unit.result (c.at-unit.ensures.begun c.args.bytes.now) c.at-unit.ensures.from)

pub with-whole-requires-clause-deep : goal.with-whole-requires-clause-deep
with-whole-requires-clause-deep c =
    let s = c.loop-token.invariant in
    omega (arith, begun_within c.args.bytes.now c.loop-token.unit s.before s.begun, s.place, c.requires)

pub loop-token-preserved-then-is_ended_by : goal.loop-token-preserved-then-is_ended_by
loop-token-preserved-then-is_ended_by c =
    let bytes = c.args.bytes.now in
    let tokens = c.args.skimmed.now.tokens in
    let notes = c.args.skimmed.now.notes in
    let s = rw c.in-Some.ensures.cases.0 at c.loop-token.invariant in
    let whole = c.with-whole.ensures.begun s.before s.begun in
    let p = c.whole_piece.ensures in
    let ended = sym (c.is_ended_by.ensures s.before s.begun) ∙ c.if-is_ended_by.true in
    rw c.in_ok-push.ensures.items
    (cuts_end bytes tokens notes c.loop-token.pieces.items c.loop-token.notes.now c.notes_from-notes.result.now c.loop-token.unit c.with-whole.result c.at-unit-then-is_ended_by.result
    c.in-Some.token.now c.in-Some.behind.now c.whole_piece.result s whole c.with-whole.ensures.from ended p.from p.to p.body p.no_return c.notes_from-notes.ensures
    (c.at-unit-then-is_ended_by.ensures.begun bytes) c.at-unit-then-is_ended_by.ensures.from)

pub loop-token-preserved : goal.loop-token-preserved
loop-token-preserved c =
    let s = rw c.in-Some.ensures.cases.0 at c.loop-token.invariant in
    let whole = c.with-whole.ensures.begun s.before s.begun in
    let open_yet = sym (c.is_ended_by.ensures s.before s.begun) ∙ c.if-is_ended_by.false in
    cuts_on c.args.bytes.now c.args.skimmed.now.tokens c.args.skimmed.now.notes c.loop-token.pieces.items c.loop-token.notes.now c.loop-token.unit c.with-whole.result
    c.in-Some.token.now c.in-Some.behind.now s whole c.with-whole.ensures.from open_yet

pub returns-then-is_empty : goal.returns-then-is_empty
returns-then-is_empty c =
    let bytes = c.args.bytes.now in
    let tokens = c.args.skimmed.now.tokens in
    let notes = c.args.skimmed.now.notes in
    let s = c.loop-token.invariant in
    let empty = sym (c.is_empty.ensures bytes s.before s.begun) ∙ c.if-is_empty.true in
    let cut = cuts_none bytes tokens notes c.loop-token.pieces.items c.loop-token.notes.now c.loop-token.unit c.loop-token.rest.now s c.in_default.ensures.cases empty in
    record { bounds = cut.bounds; joined = cut_joined bytes tokens notes c.loop-token.pieces.items cut; units = cut.all }

pub returns : goal.returns
returns c =
    let bytes = c.args.bytes.now in
    let tokens = c.args.skimmed.now.tokens in
    let notes = c.args.skimmed.now.notes in
    let s = c.loop-token.invariant in
    let p = c.whole_piece-2.ensures in
    let some = sym (c.is_empty.ensures bytes s.before s.begun) ∙ c.if-is_empty.false in
    let last = cuts_last bytes tokens notes c.loop-token.pieces.items c.loop-token.notes.now c.loop-token.unit c.loop-token.rest.now c.whole_piece-2.result s c.in_default.ensures.cases some
    p.from p.to p.body p.no_return in
    let cut : AreCut bytes tokens notes c.push-2.new.self.items = rw c.in_ok-push-2.ensures.items last in
    record { bounds = cut.bounds; joined = cut_joined bytes tokens notes c.push-2.new.self.items cut; units = cut.all }
