use Rattle.std.proofs.Common.{◌≡◌, ◌<◌, None, ap, ◌∙◌, arith}
use Rattle.std.specs.Prelude.{option_map, length}
use Rattle.stk_tree.specs.View.{view_unit}
use Rattle.stk_units.specs.Pieces.{tokens_of_piece}
use Rattle.stk_source_audit.specs.Reading.{first_byte}
use Rattle.stk_source_audit.proofs.Looking.{piece_among, joined_behind, stops_here, orderly_behind, finds_here, passes_by, none_left}
use Rattle.stk_source_audit.proofs.units.find_unit.Goals as goal

pub tokens_of-requires : goal.tokens_of-requires
tokens_of-requires c =
    let text = c.args.text.now in
    let a = piece_among text.bytes.now text.tokens.now c.loop-piece.names c.loop-piece.rest.now c.in-Some.piece.now c.in-Some.behind.now c.in-Some.ensures.cases.0 c.loop-piece.invariant.joined in
    (omega (arith, a.some), a.within)

pub returns-then-begin-at : goal.returns-then-begin-at
returns-then-begin-at c =
    let text = c.args.text.now in
    let begin : c.from-begin.result ≡ first_byte (tokens_of_piece text.tokens.now c.in-Some.piece.now) = c.from-begin.ensures ∙ c.first_byte.ensures ∙ ap first_byte c.tokens_of.ensures in
    c.loop-piece.invariant.goes_on None c.loop-piece.names c.loop-piece.rest.now
    (stops_here text.bytes.now text.tokens.now c.loop-piece.names c.loop-piece.rest.now c.in-Some.piece.now c.in-Some.behind.now c.in-Some.ensures.cases.0 c.loop-piece.invariant.joined (length text.bytes.now) c.args.at c.requires.spans c.loop-piece.invariant.orderly (omega (arith, begin, c.if-begin-at.true)))

pub read_unit-requires-clause-within : goal.read_unit-requires-clause-within
read_unit-requires-clause-within c =
    let text = c.args.text.now in
    let a = piece_among text.bytes.now text.tokens.now c.loop-piece.names c.loop-piece.rest.now c.in-Some.piece.now c.in-Some.behind.now c.in-Some.ensures.cases.0 c.loop-piece.invariant.joined in
    (omega (arith, a.some), a.within)

pub returns-then-begin-at-2 : goal.returns-then-begin-at-2
returns-then-begin-at-2 c =
    let text = c.args.text.now in
    let begin : c.from-begin.result ≡ first_byte (tokens_of_piece text.tokens.now c.in-Some.piece.now) = c.from-begin.ensures ∙ c.first_byte.ensures ∙ ap first_byte c.tokens_of.ensures in
    c.loop-piece.invariant.goes_on (option_map view_unit c.in_ok-tree.tree) c.read_unit.new.names c.in-Some.behind.now
    (finds_here text.bytes.now text.tokens.now c.loop-piece.names c.loop-piece.rest.now c.in-Some.piece.now c.in-Some.behind.now c.in-Some.ensures.cases.0 c.loop-piece.invariant.joined (option_map view_unit c.in_ok-tree.tree) c.read_unit.new.names c.in_ok-tree.ensures c.requires.few c.loop-piece.invariant.orderly c.args.at (omega (arith, begin, c.if-begin-at-2.true)) (omega (arith, c.from-begin.ensures, c.if-begin-at-2.true, c.first_byte.type_inv)))

pub loop-piece-preserved-else-begin-at-2 : goal.loop-piece-preserved-else-begin-at-2
loop-piece-preserved-else-begin-at-2 c =
    let text = c.args.text.now in
    let begin : c.from-begin.result ≡ first_byte (tokens_of_piece text.tokens.now c.in-Some.piece.now) = c.from-begin.ensures ∙ c.first_byte.ensures ∙ ap first_byte c.tokens_of.ensures in
    let before : first_byte (tokens_of_piece text.tokens.now c.in-Some.piece.now) < c.args.at = omega (arith, begin, c.if-begin-at.false, c.if-begin-at-2.false) in
    record {
      joined = joined_behind text.bytes.now text.tokens.now c.loop-piece.names c.loop-piece.rest.now c.in-Some.piece.now c.in-Some.behind.now c.in-Some.ensures.cases.0 c.loop-piece.invariant.joined;
      orderly = orderly_behind text.bytes.now text.tokens.now c.loop-piece.names c.loop-piece.rest.now c.in-Some.piece.now c.in-Some.behind.now c.in-Some.ensures.cases.0 c.loop-piece.invariant.joined (option_map view_unit c.in_ok-tree.tree) c.read_unit.new.names c.in_ok-tree.ensures c.requires.few c.loop-piece.invariant.orderly;
      goes_on = λ tree now after h.
          c.loop-piece.invariant.goes_on tree now after
          (passes_by text.bytes.now text.tokens.now c.loop-piece.names c.loop-piece.rest.now c.in-Some.piece.now c.in-Some.behind.now c.in-Some.ensures.cases.0 c.loop-piece.invariant.joined (option_map view_unit c.in_ok-tree.tree) c.read_unit.new.names c.in_ok-tree.ensures c.requires.few c.loop-piece.invariant.orderly c.args.at before tree now after h);
    }

pub loop-piece-preserved : goal.loop-piece-preserved
loop-piece-preserved c =
    let text = c.args.text.now in
    let begin : c.from-begin.result ≡ first_byte (tokens_of_piece text.tokens.now c.in-Some.piece.now) = c.from-begin.ensures ∙ c.first_byte.ensures ∙ ap first_byte c.tokens_of.ensures in
    let before : first_byte (tokens_of_piece text.tokens.now c.in-Some.piece.now) < c.args.at = omega (arith, begin, c.if-begin-at.false, c.if-begin-at-2.false) in
    record {
      joined = joined_behind text.bytes.now text.tokens.now c.loop-piece.names c.loop-piece.rest.now c.in-Some.piece.now c.in-Some.behind.now c.in-Some.ensures.cases.0 c.loop-piece.invariant.joined;
      orderly = orderly_behind text.bytes.now text.tokens.now c.loop-piece.names c.loop-piece.rest.now c.in-Some.piece.now c.in-Some.behind.now c.in-Some.ensures.cases.0 c.loop-piece.invariant.joined (option_map view_unit c.in_ok-tree.tree) c.read_unit.new.names c.in_ok-tree.ensures c.requires.few c.loop-piece.invariant.orderly;
      goes_on = λ tree now after h.
          c.loop-piece.invariant.goes_on tree now after
          (passes_by text.bytes.now text.tokens.now c.loop-piece.names c.loop-piece.rest.now c.in-Some.piece.now c.in-Some.behind.now c.in-Some.ensures.cases.0 c.loop-piece.invariant.joined (option_map view_unit c.in_ok-tree.tree) c.read_unit.new.names c.in_ok-tree.ensures c.requires.few c.loop-piece.invariant.orderly c.args.at before tree now after h);
    }

pub returns : goal.returns
returns c =
    let text = c.args.text.now in
    c.loop-piece.invariant.goes_on None c.loop-piece.names c.loop-piece.rest.now (none_left text.bytes.now text.tokens.now c.loop-piece.names c.loop-piece.rest.now c.args.at c.in_default.ensures.cases c.loop-piece.invariant.orderly)
