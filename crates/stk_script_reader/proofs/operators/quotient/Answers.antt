use Rattle.std.proofs.Common.{◌<◌, sym, ◌∙◌, length}
use Rattle.stk_terms.specs.declared.term.TermOp.TheVariants.{Constant, Not, Eq, UDiv}
use Rattle.stk_terms.specs.Growth.{Keeps}
use Rattle.stk_script_reader.proofs.Kept.{keeps_then, longer_kept, leaf_kept, one_kept, two_kept}
use Rattle.stk_script_reader.proofs.Meant.{quotient_meant, zero_fits}
use Rattle.stk_script_reader.proofs.operators.quotient.Goals as goal

pub leaf-requires-clause-fits : goal.leaf-requires-clause-fits
leaf-requires-clause-fits c = zero_fits c.width-width.result c.width-width.ensures.least c.width-width.ensures.most

pub single-requires-clause-exists : goal.single-requires-clause-exists
single-requires-clause-exists c = c.in_ok-zero.ensures.made.there

pub returns-in_err-ones-clause-keeps : goal.returns-in_err-ones-clause-keeps
returns-in_err-ones-clause-keeps c = keeps_then _ _ _ c.leaf.ensures.keeps c.single.ensures.keeps

pub double-requires-clause-first : goal.double-requires-clause-first
double-requires-clause-first c = longer_kept _ _ c.args.b.0 (keeps_then _ _ _ c.leaf.ensures.keeps c.single.ensures.keeps) c.requires.second

pub double-requires-clause-second : goal.double-requires-clause-second
double-requires-clause-second c = longer_kept _ _ c.in_ok-zero.zero.0 c.single.ensures.keeps c.in_ok-zero.ensures.made.there

pub double-requires-clause-fits : goal.double-requires-clause-fits
double-requires-clause-fits c =
    let k = keeps_then _ _ _ c.leaf.ensures.keeps c.single.ensures.keeps in
    let z = c.in_ok-zero.ensures.made in
    k.wide c.args.b.0 c.requires.second ∙ sym c.requires.alike ∙ sym c.width-width.ensures.is ∙ sym z.wide ∙ sym (c.single.ensures.keeps.wide c.in_ok-zero.zero.0 z.there)

pub returns-in_err-test-clause-keeps : goal.returns-in_err-test-clause-keeps
returns-in_err-test-clause-keeps c = keeps_then _ _ _ (keeps_then _ _ _ c.leaf.ensures.keeps c.single.ensures.keeps) c.double.ensures.keeps

pub double-requires-2-clause-first : goal.double-requires-2-clause-first
double-requires-2-clause-first c = longer_kept _ _ c.args.a.0 (keeps_then _ _ _ (keeps_then _ _ _ c.leaf.ensures.keeps c.single.ensures.keeps) c.double.ensures.keeps) c.requires.first

pub double-requires-2-clause-second : goal.double-requires-2-clause-second
double-requires-2-clause-second c = longer_kept _ _ c.args.b.0 (keeps_then _ _ _ (keeps_then _ _ _ c.leaf.ensures.keeps c.single.ensures.keeps) c.double.ensures.keeps) c.requires.second

pub double-requires-2-clause-fits : goal.double-requires-2-clause-fits
double-requires-2-clause-fits c =
    let k = keeps_then _ _ _ (keeps_then _ _ _ c.leaf.ensures.keeps c.single.ensures.keeps) c.double.ensures.keeps in
    k.wide c.args.a.0 c.requires.first ∙ c.requires.alike ∙ sym (k.wide c.args.b.0 c.requires.second)

pub returns-in_err-plain-clause-keeps : goal.returns-in_err-plain-clause-keeps
returns-in_err-plain-clause-keeps c = keeps_then _ _ _ (keeps_then _ _ _ (keeps_then _ _ _ c.leaf.ensures.keeps c.single.ensures.keeps) c.double.ensures.keeps) c.double-2.ensures.keeps

pub choice-requires-clause-first : goal.choice-requires-clause-first
choice-requires-clause-first c = longer_kept _ _ c.in_ok-test.test.0 c.double-2.ensures.keeps c.in_ok-test.ensures.made.there

pub choice-requires-clause-second : goal.choice-requires-clause-second
choice-requires-clause-second c = longer_kept _ _ c.in_ok-ones.ones.0 (keeps_then _ _ _ c.double.ensures.keeps c.double-2.ensures.keeps) c.in_ok-ones.ensures.made.there

pub choice-requires-clause-third : goal.choice-requires-clause-third
choice-requires-clause-third c = c.in_ok-plain.ensures.made.there

pub choice-requires-clause-one : goal.choice-requires-clause-one
choice-requires-clause-one c = let t = c.in_ok-test.ensures.made in c.double-2.ensures.keeps.wide c.in_ok-test.test.0 t.there ∙ t.wide

pub choice-requires-clause-alike : goal.choice-requires-clause-alike
choice-requires-clause-alike c =
    let k = keeps_then _ _ _ (keeps_then _ _ _ (keeps_then _ _ _ c.leaf.ensures.keeps c.single.ensures.keeps) c.double.ensures.keeps) c.double-2.ensures.keeps in
    let l = keeps_then _ _ _ c.double.ensures.keeps c.double-2.ensures.keeps in
    let z = c.in_ok-zero.ensures.made in
    let o = c.in_ok-ones.ensures.made in
    let q = c.in_ok-plain.ensures.made in
    l.wide c.in_ok-ones.ones.0 o.there ∙ o.wide ∙ c.single.ensures.keeps.wide c.in_ok-zero.zero.0 z.there ∙ z.wide ∙ c.width-width.ensures.is ∙ sym (k.wide c.args.a.0 c.requires.first) ∙ sym q.wide

pub returns-in_err-made-clause-keeps : goal.returns-in_err-made-clause-keeps
returns-in_err-made-clause-keeps c = keeps_then _ _ _ (keeps_then _ _ _ (keeps_then _ _ _ (keeps_then _ _ _ c.leaf.ensures.keeps c.single.ensures.keeps) c.double.ensures.keeps) c.double-2.ensures.keeps) c.choice.ensures.keeps

pub returns-clause-keeps : goal.returns-clause-keeps
returns-clause-keeps c = keeps_then _ _ _ (keeps_then _ _ _ (keeps_then _ _ _ (keeps_then _ _ _ c.leaf.ensures.keeps c.single.ensures.keeps) c.double.ensures.keeps) c.double-2.ensures.keeps) c.choice.ensures.keeps

pub returns-clause-made : goal.returns-clause-made
returns-clause-made c =
    let s0 = c.args.terms.now in
    let s1 = c.leaf.new.terms in
    let s2 = c.single.new.terms in
    let s3 = c.double.new.terms in
    let s4 = c.double-2.new.terms in
    let s = c.choice.new.terms in
    let a = c.args.a.0 in
    let b = c.args.b.0 in
    let k1 : Keeps s0 s1 = c.leaf.ensures.keeps in
    let k2 : Keeps s1 s2 = c.single.ensures.keeps in
    let k3 : Keeps s2 s3 = c.double.ensures.keeps in
    let k4 : Keeps s3 s4 = c.double-2.ensures.keeps in
    let k5 : Keeps s4 s = c.choice.ensures.keeps in
    let k35 : Keeps s3 s = keeps_then s3 s4 s k4 k5 in
    let k25 : Keeps s2 s = keeps_then s2 s3 s k3 k35 in
    let k15 : Keeps s1 s = keeps_then s1 s2 s k2 k25 in
    let k05 : Keeps s0 s = keeps_then s0 s1 s k1 k15 in
    let k03 : Keeps s0 s3 = keeps_then s0 s2 s3 (keeps_then s0 s1 s2 k1 k2) k3 in
    let k04 : Keeps s0 s4 = keeps_then s0 s3 s4 k03 k4 in
    let zero = c.in_ok-zero.zero.0 in
    let ones = c.in_ok-ones.ones.0 in
    let z = c.in_ok-zero.ensures.made in
    let o = c.in_ok-ones.ensures.made in
    let zero2 : zero < length s2.terms = longer_kept s1 s2 zero k2 z.there in
    let zero3 : zero < length s3.terms = longer_kept s2 s3 zero k3 zero2 in
    quotient_meant s c.choice.ensures.sound c.width-width.result a b zero ones c.in_ok-test.test.0 c.in_ok-plain.plain.0 c.in_ok-made.made.0
    (k05.wide a c.requires.first ∙ sym c.width-width.ensures.is)
    (leaf_kept s1 s k15 (Constant c.width-width.result 0) zero z)
    (one_kept s2 s k25 Not zero ones zero2 o)
    (two_kept s3 s k35 Eq b zero c.in_ok-test.test.0 (longer_kept s0 s3 b k03 c.requires.second) zero3 c.in_ok-test.ensures.made)
    (two_kept s4 s k5 UDiv a b c.in_ok-plain.plain.0 (longer_kept s0 s4 a k04 c.requires.first) (longer_kept s0 s4 b k04 c.requires.second) c.in_ok-plain.ensures.made)
    c.in_ok-made.ensures.made
