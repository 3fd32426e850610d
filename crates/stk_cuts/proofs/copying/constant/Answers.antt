use Rattle.std.proofs.Common.{sym}
use Rattle.stk_terms.proofs.Reading.{there}
use Rattle.stk_cuts.proofs.Copied as on
use Rattle.stk_cuts.proofs.copying.constant.Goals as goal

pub constant-requires-clause-least : goal.constant-requires-clause-least
constant-requires-clause-least c =
    let s = c.args.of.now.terms.now in
    (on.constant_fits s c.args.of.now.cut.now c.count-count.ensures.sound c.args.out.now c.requires.inputs c.args.id.0 c.requires.exists _ _ (sym (c.in-Constant.ensures _ (there s c.count-count.ensures.sound c.args.id.0 c.requires.exists)))).0

pub constant-requires-clause-most : goal.constant-requires-clause-most
constant-requires-clause-most c =
    let s = c.args.of.now.terms.now in
    (on.constant_fits s c.args.of.now.cut.now c.count-count.ensures.sound c.args.out.now c.requires.inputs c.args.id.0 c.requires.exists _ _ (sym (c.in-Constant.ensures _ (there s c.count-count.ensures.sound c.args.id.0 c.requires.exists)))).1

pub constant-requires-clause-number : goal.constant-requires-clause-number
constant-requires-clause-number c =
    let s = c.args.of.now.terms.now in
    (on.constant_fits s c.args.of.now.cut.now c.count-count.ensures.sound c.args.out.now c.requires.inputs c.args.id.0 c.requires.exists _ _ (sym (c.in-Constant.ensures _ (there s c.count-count.ensures.sound c.args.id.0 c.requires.exists)))).2

pub returns-in_ok-v-in-Constant-clause-copies : goal.returns-in_ok-v-in-Constant-clause-copies
returns-in_ok-v-in-Constant-clause-copies c =
    let s = c.args.of.now.terms.now in
    on.copy_constant s c.args.of.now.cut.now c.count-count.ensures.sound c.args.out.now c.requires.inputs c.args.id.0 c.requires.exists c.constant.new.self c.in-Constant.width c.in-Constant.number c.in_ok-v-in-Constant.v.0 (sym (c.in-Constant.ensures _ (there s c.count-count.ensures.sound c.args.id.0 c.requires.exists))) c.in_ok-v-in-Constant.ensures.built
