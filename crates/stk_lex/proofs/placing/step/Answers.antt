use Rattle.std.proofs.Common.{◌≡◌, ◌+◌, ◌-◌, arith}
use Rattle.stk_lex.proofs.Stands.{none_between, plain_stand, marker_stand, marker_part}
use Rattle.stk_lex.proofs.placing.step.Goals as goal

pub along-requires-clause-none : goal.along-requires-clause-none
along-requires-clause-none c = none_between c.args.bytes.now c.args.stand c.part.result c.requires.stand c.part.ensures.part (λ marker is. absurd (c.in-None.ensures.none marker is))

pub returns-in-Some-clause-stand : goal.returns-in-Some-clause-stand
returns-in-Some-clause-stand c =
    rw c.line_behind.ensures (marker_stand c.args.bytes.now c.args.stand c.part.result c.in-Some.marker c.requires.stand c.part.ensures.part c.in-Some.ensures.some c.in-Some.ensures.bound)

pub returns-in-Some-clause-between : goal.returns-in-Some-clause-between
returns-in-Some-clause-between c =
    let text = c.args.bytes.now in
    let back : c.args.stand.at + c.part.result + 1 - 1 ≡ c.args.stand.at + c.part.result = omega arith in
    let long = marker_part text c.args.stand.at c.part.result c.in-Some.marker c.in-Some.ensures.some c.part.ensures.part in
    rw back (none_between text c.args.stand c.part.result c.requires.stand c.part.ensures.part (λ marker is. omega (arith, long)))

pub returns-in-None-clause-stand : goal.returns-in-None-clause-stand
returns-in-None-clause-stand c =
    plain_stand c.args.bytes.now c.args.stand c.part.result c.along.result c.requires.stand c.part.ensures.part c.part.ensures.within.1 c.in-None.ensures.none c.along.ensures

pub returns-in-None-clause-between : goal.returns-in-None-clause-between
returns-in-None-clause-between c =
    λ at marker is above within.
    none_between c.args.bytes.now c.args.stand c.part.result c.requires.stand c.part.ensures.part (λ marker is. absurd (c.in-None.ensures.none marker is)) at marker is above (omega (arith, within))
