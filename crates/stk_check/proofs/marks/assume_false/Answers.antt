use Rattle.std.proofs.Common.{◌*◌, ◌<◌, ◌≤◌, length, get_or, take, subst, arith, refl}
use Rattle.std.specs.List.{Contains}
use Rattle.std.proofs.lemmas.List.{take_all}
use Rattle.std.proofs.lemmas.List.Elements.{All-set, Contains-get_or}
use Rattle.std.proofs.lemmas.Bool.{false≢true}
use Rattle.stk_clauses.specs.declared.literal.Lit.{Lit}
use Rattle.stk_clauses.specs.Literals.{negated}
use Rattle.stk_check.specs.Marks.{IsMarked, IsGood, AreFalse}
use Rattle.stk_check.proofs.Marking.{good_more, false_more, in_take}
use Rattle.stk_check.proofs.marks.assume_false.Goals as goal

abbrev zero_lit : Lit
zero_lit = record { 0 = 0 }

pub returns-then-is_marked-clause-good : goal.returns-then-is_marked-clause-good
returns-then-is_marked-clause-good c =
    let cl = c.args.clause.now in
    let i = c.loop-lit.lit-index in
    let x : Lit = get_or cl i zero_lit in
    let m : IsMarked c.loop-lit.marks c.args.stamp x = c.is_marked.ensures.0 c.if-is_marked.true in
    let k : Contains (take i cl) (negated x) = (c.loop-lit.invariant.marked x).0 m in
    (λ e. absurd (false≢true e), λ good. absurd (good.1 x (Contains-get_or cl i zero_lit c.loop-lit-test.true) (in_take cl i (negated x) k)))

pub loop-lit-preserved : goal.loop-lit-preserved
loop-lit-preserved c =
    let cl = c.args.clause.now in
    let i = c.loop-lit.lit-index in
    let x : Lit = get_or cl i zero_lit in
    let lt : x.0 < 2 * c.args.vars = omega (arith, c.if-lit-marks.false, c.requires.sized, c.loop-lit.auto.marks) in
    let lt' : (negated x).0 < length c.loop-lit.marks = omega (arith, c.if-lit-marks.false, c.requires.sized, c.loop-lit.auto.marks) in
    let none : Contains (take i cl) (negated x) → ⊥ = λ k. let m = c.is_marked.ensures.1 ((c.loop-lit.invariant.marked x).1 k) in cc (m, c.if-is_marked.false) in
    rw c.negated.ensures record {
      good = good_more c.args.vars cl i zero_lit c.loop-lit-test.true lt none c.loop-lit.invariant.good;
      marked = false_more c.loop-lit.marks c.args.stamp cl i zero_lit c.loop-lit-test.true lt' c.loop-lit.invariant.marked;
      bounded = All-set (λ y. y ≤ c.args.stamp) c.loop-lit.marks (negated x).0 c.args.stamp (omega arith) c.loop-lit.invariant.bounded;
    }

pub returns-clause-good : goal.returns-clause-good
returns-clause-good c =
    let all = take_all c.loop-lit.lit-index c.args.clause.now c.loop-lit-test.false in
    (λ e. subst (λ xs. IsGood c.args.vars xs) all c.loop-lit.invariant.good, λ g. refl)

pub returns-clause-marked : goal.returns-clause-marked
returns-clause-marked c =
    let all = take_all c.loop-lit.lit-index c.args.clause.now c.loop-lit-test.false in
    λ e. subst (λ xs. AreFalse c.loop-lit.marks c.args.stamp xs) all c.loop-lit.invariant.marked
