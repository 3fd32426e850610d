use Rattle.std.proofs.Common.{◌≡◌, ◌<◌, length, sym, ap, subst, ◌∙◌, arith, get_or}
use Rattle.stk_terms.specs.declared.term.TermId.{TermId}
use Rattle.stk_terms.specs.Terms.{child}
use Rattle.stk_rewrite.specs.Normal.{Simplifies}
use Rattle.stk_terms.proofs.Reading.{there, child_below}
use Rattle.stk_rewrite.proofs.Parted.{read_arg}
use Rattle.stk_rewrite.proofs.choosing.argument.Goals as goal

pub bounds-args-k : goal.bounds-args-k
bounds-args-k c =
    let e = ap length (c.args-args.ensures _ (there c.args.terms.now c.requires.sound c.args.id.0 c.requires.exists)) in
    omega (arith, e, c.requires.k)

pub at-requires : goal.at-requires
at-requires c =
    let a = c.args-args.ensures _ (there c.args.terms.now c.requires.sound c.args.id.0 c.requires.exists) in
    let l = subst (λ xs. c.args.k < length xs) (sym a) c.requires.k in
    let e = read_arg c.args.terms.now c.requires.sound c.args.id.0 c.args.k c.args-args.result.now _ a l in
    subst (λ n. n < length c.args.done.now) (sym e) (let b : child c.args.terms.now c.args.id.0 c.args.k < c.args.id.0 = child_below c.args.terms.now c.requires.sound c.args.id.0 c.args.k c.requires.exists c.requires.k in omega (arith, b, c.requires.count))

pub returns-clause-simplifies : goal.returns-clause-simplifies
returns-clause-simplifies c =
    let d : TermId = record { 0 = 0 } in
    let a = c.args-args.ensures _ (there c.args.terms.now c.requires.sound c.args.id.0 c.requires.exists) in
    let l = subst (λ xs. c.args.k < length xs) (sym a) c.requires.k in
    let e : (get_or c.args-args.result.now c.args.k d).0 ≡ child c.args.terms.now c.args.id.0 c.args.k = read_arg c.args.terms.now c.requires.sound c.args.id.0 c.args.k c.args-args.result.now d a l in
    subst (λ (v : TermId). Simplifies c.args.terms.now c.args.terms.now (child c.args.terms.now c.args.id.0 c.args.k) v.0) (sym c.at.ensures) (subst (λ n. Simplifies c.args.terms.now c.args.terms.now (child c.args.terms.now c.args.id.0 c.args.k) (get_or c.args.done.now n d).0) (sym e) (c.requires.done c.args.k d c.requires.k))

pub returns-clause-is : goal.returns-clause-is
returns-clause-is c =
    let d : TermId = record { 0 = 0 } in
    let a = c.args-args.ensures _ (there c.args.terms.now c.requires.sound c.args.id.0 c.requires.exists) in
    let l = subst (λ xs. c.args.k < length xs) (sym a) c.requires.k in
    let e : (get_or c.args-args.result.now c.args.k d).0 ≡ child c.args.terms.now c.args.id.0 c.args.k = read_arg c.args.terms.now c.requires.sound c.args.id.0 c.args.k c.args-args.result.now d a l in
    c.at.ensures ∙ ap (λ n. get_or c.args.done.now n d) e
