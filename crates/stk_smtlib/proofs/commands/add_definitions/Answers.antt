use Rattle.std.proofs.Common.{◌+◌, ◌<◌, ◌++◌, Bool, false, List, length, get_or, ap, sym, ◌∙◌, append_assoc, arith}
use Rattle.stk_smtlib.specs.Written.{wanted_line}
use Rattle.stk_smtlib.proofs.Lines.{part_lines, part_next}
use Rattle.stk_smtlib.proofs.commands.add_definitions.Goals as goal

pub loop-place-preserved : goal.loop-place-preserved
loop-place-preserved c =
    let s = c.args.terms.now in
    let goal = c.args.goal.0 in
    let j = c.loop-place.place in
    let chosen = c.as_slice-chosen.result.now in
    let line = wanted_line s j (get_or chosen j false) in
    let many = ap (λ (m : List Bool). length m) c.as_slice-chosen.ensures ∙ c.in_ok-parts.ensures.count in
    let below = c.loop-place-test.true in
    let within : j < goal + 1 = omega (arith, below, many) in
    let told = ap (λ (m : List Bool). get_or m j false) c.as_slice-chosen.ensures ∙ c.in_ok-parts.ensures.told j (omega (arith, within)) in
    ap (λ u. u ++ part_lines s goal (j + 1)) c.in_ok-add_wanted.ensures
    ∙ append_assoc c.loop-place.text.items line (part_lines s goal (j + 1))
    ∙ ap (λ u. c.loop-place.text.items ++ u) (sym (part_next s goal j c.requires within (get_or chosen j false) told))
    ∙ c.loop-place.invariant
