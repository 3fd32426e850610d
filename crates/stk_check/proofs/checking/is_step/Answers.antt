use Rattle.std.proofs.Common.{◌≡◌, ◌++◌, true, subst, sym}
use Rattle.std.specs.List.{Contains}
use Rattle.std.proofs.lemmas.Bool.{false≢true}
use Rattle.stk_clauses.specs.declared.literal.Lit.{Lit}
use Rattle.stk_clauses.specs.Literals.{negated}
use Rattle.stk_clauses.specs.Hints.{Leads}
use Rattle.stk_clauses.proofs.Steps.{Leads-same}
use Rattle.stk_clauses.specs.Derivations.{clauses_of_steps}
use Rattle.stk_check.specs.Marks.{IsMarked, IsGood, AreFalse}
use Rattle.stk_check.proofs.checking.is_step.Goals as goal

pub returns-then-not-assume_false-clause-holds : goal.returns-then-not-assume_false-clause-holds
returns-then-not-assume_false-clause-holds c =
    let g : IsGood c.args.vars c.args.step.now.clause → c.assume_false.result ≡ true = λ h. c.assume_false.ensures.good.1 (subst (λ xs. IsGood c.args.vars xs) (sym c.as_slice.ensures) h) in
    (λ e. absurd (false≢true e), λ s. let t = g (s.0, s.1) in cc (t, c.if-not-assume_false.true))

pub returns-clause-holds : goal.returns-clause-holds
returns-clause-holds c =
    let cl = c.args.step.now.clause in
    let cs = c.args.given.now ++ clauses_of_steps c.args.earlier.now in
    let S : Lit → Type 0 = IsMarked c.assume_false.new.marks c.args.stamp in
    let U : Lit → Type 0 = λ m. Contains cl (negated m) in
    let good : IsGood c.args.vars cl = subst (λ xs. IsGood c.args.vars xs) c.as_slice.ensures (c.assume_false.ensures.good.0 c.if-not-assume_false.false) in
    let are : AreFalse c.assume_false.new.marks c.args.stamp cl = subst (λ xs. AreFalse c.assume_false.new.marks c.args.stamp xs) c.as_slice.ensures (c.assume_false.ensures.marked c.if-not-assume_false.false) in (
      λ e. (
        good.0,
        good.1,
        Leads-same cs S U c.args.step.now.hints (λ m. (are m).0) (λ m. (are m).1)
            (subst (λ hs. Leads cs S hs) c.as_slice-2.ensures (c.leads.ensures.leads.0 e)),
      ),
      λ s. c.leads.ensures.leads.1 (subst (λ hs. Leads cs S hs) (sym c.as_slice-2.ensures) (Leads-same cs U S c.args.step.now.hints (λ m. (are m).1) (λ m. (are m).0) s.2)),
    )
