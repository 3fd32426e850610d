use Rattle.std.proofs.Common.{◌≡◌, true, get_or, take, subst, sym}
use Rattle.std.specs.List.{Contains}
use Rattle.std.proofs.lemmas.List.{take_all}
use Rattle.stk_clauses.specs.declared.literal.Lit.{Lit}
use Rattle.stk_clauses.specs.Literals.{negated}
use Rattle.stk_check.specs.Marks.{IsMarked, IsSeenSoFar}
use Rattle.stk_check.proofs.Marking.{seen_false, seen_first, seen_again}
use Rattle.stk_check.proofs.marks.look.Goals as goal
use Rattle.stk_check.proofs.marks.look.Goals.{then-not-is_marked+in-None, then-not-is_marked+in-Some+else-other-lit, else-not-is_marked}

pub loop-lit-preserved : goal.loop-lit-preserved
loop-lit-preserved c =
    let S : Lit → Type 0 = IsMarked c.args.marks.now c.args.stamp in
    let cl = c.args.clause.now in
    let i = c.loop-lit.lit-index in
    let x : Lit = get_or cl i (record { 0 = 0 }) in
    let back : S (negated x) → c.is_marked.result ≡ true = λ s. c.is_marked.ensures.1 (subst S (sym c.negated.ensures) s) in
    let fore : c.is_marked.result ≡ true → S (negated x) = λ e. subst S c.negated.ensures (c.is_marked.ensures.0 e) in
    elim c.if-not-is_marked.branch [
      | then-not-is_marked+in-None w ↦ rw w.left-is (seen_first S cl i (record { 0 = 0 }) c.loop-lit-test.true (λ s. let p = back s in cc (p, w.if-not-is_marked.true)) _ w.in-None.is c.loop-lit.invariant)
      | then-not-is_marked+in-Some+else-other-lit w ↦ rw w.left-is (seen_again S cl i (record { 0 = 0 }) c.loop-lit-test.true w.in-Some.other w.if-other-lit.false _ w.in-Some.is c.loop-lit.invariant)
      | else-not-is_marked w ↦ rw w.left-is (seen_false S cl i (record { 0 = 0 }) c.loop-lit-test.true (fore w.if-not-is_marked.false) _ c.loop-lit.invariant)
    ]

pub returns-in-None-left : goal.returns-in-None-left
returns-in-None-left c =
    let S : Lit → Type 0 = IsMarked c.args.marks.now c.args.stamp in
    let all = take_all c.loop-lit.lit-index c.args.clause.now c.loop-lit-test.false in
    let h = subst (λ o. IsSeenSoFar S (take c.loop-lit.lit-index c.args.clause.now) o) c.in-None-left.is c.loop-lit.invariant in
    subst (λ xs. (m : Lit) → Contains xs m → S (negated m)) all h
