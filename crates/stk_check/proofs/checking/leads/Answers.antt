use Rattle.std.proofs.Common.{◌+◌, ◌*◌, ◌<◌, ◌≤◌, ◌++◌, [], length, ℕ, get_or, drop, subst, sym, arith}
use Rattle.std.proofs.lemmas.List.{drop_more, length-drop}
use Rattle.std.proofs.lemmas.List.Elements.{All-set, All-get_or, All-contains}
use Rattle.std.proofs.lemmas.Bool.{false≢true}
use Rattle.stk_clauses.specs.declared.literal.Lit.{Lit}
use Rattle.stk_clauses.specs.Literals.{AreBelow}
use Rattle.stk_clauses.specs.Hints.{Leads, IsUnit}
use Rattle.stk_clauses.specs.Derivations.{clauses_of_steps}
use Rattle.stk_check.specs.Marks.{IsMarked, IsSeen}
use Rattle.stk_check.specs.declared.marks.Seen.TheVariants.{Other}
use Rattle.stk_check.proofs.Following.{leads_other, leads_marked}
use Rattle.stk_check.proofs.checking.leads.Goals as goal

pub returns-in-Other-clause-leads : goal.returns-in-Other-clause-leads
returns-in-Other-clause-leads c =
    let cs = c.args.given.now ++ clauses_of_steps c.args.earlier.now in
    let S : Lit → Type 0 = IsMarked c.loop-i.marks c.args.stamp in
    let i = c.loop-i.i in
    let h : ℕ = get_or c.args.hints.now i 0 in
    let seen : IsSeen S (get_or cs h []) Other = subst (λ x. IsSeen S x Other) c.in-Some.ensures.1 c.in-Other.ensures in (
      λ e. absurd (false≢true e),
      λ r. absurd (leads_other cs S h (drop (i + 1) c.args.hints.now) seen
          (subst (λ x. Leads cs S x) (drop_more c.args.hints.now i 0 c.loop-i-test.true) (c.loop-i.invariant.leads.0 r))),
    )

pub loop-i-preserved : goal.loop-i-preserved
loop-i-preserved c =
    let cs = c.args.given.now ++ clauses_of_steps c.args.earlier.now in
    let S : Lit → Type 0 = IsMarked c.loop-i.marks c.args.stamp in
    let i = c.loop-i.i in
    let h : ℕ = get_or c.args.hints.now i 0 in
    let l = c.in-Single.lit in
    let unit : IsUnit S (get_or cs h []) l = subst (λ x. IsUnit S x l) c.in-Some.ensures.1 c.in-Single.ensures in
    let below : AreBelow c.args.vars (get_or cs h []) = All-get_or (AreBelow c.args.vars) cs h [] c.in-Some.ensures.0 c.requires.below in
    let small : l.0 < 2 * c.args.vars = All-contains (λ (y : Lit). y.0 < 2 * c.args.vars) (get_or cs h []) l below unit.0 in
    let lt : l.0 < length c.loop-i.marks = omega (arith, small, c.requires.sized, c.loop-i.auto.marks) in
    let some : 0 < length (drop (i + 1) c.args.hints.now) = omega (arith, length-drop (i + 1) c.args.hints.now, c.if-i-n.false, c.loop-i-test.true) in
    let step = leads_marked cs c.loop-i.marks c.args.stamp h (drop (i + 1) c.args.hints.now) l c.in-Some.ensures.0 lt unit some in
    let e = drop_more c.args.hints.now i 0 c.loop-i-test.true in
    record {
      leads = (λ r. step.0 (subst (λ x. Leads cs S x) e (c.loop-i.invariant.leads.0 r)), λ r. c.loop-i.invariant.leads.1 (subst (λ x. Leads cs S x) (sym e) (step.1 r)));
      bounded = All-set (λ y. y ≤ c.args.stamp) c.loop-i.marks l.0 c.args.stamp (omega arith) c.loop-i.invariant.bounded;
    }
