use Rattle.std.proofs.Common.{◌≡◌, ◌<◌, IfSome, length, sym, subst, get_or}
use Rattle.stk_terms.specs.declared.term.TermId.{TermId}
use Rattle.stk_terms.specs.Terms.{child}
use Rattle.stk_terms.proofs.Reading.{there}
use Rattle.stk_rewrite.proofs.Parted.{read_arg}
use Rattle.stk_cuts.specs.Cuts.{Copies}
use Rattle.stk_cuts.proofs.copying.argument.Goals as goal

pub returns : goal.returns
returns c = λ new cut all.
    let s = c.args.terms.now in
    let d : TermId = record { 0 = 0 } in
    let a = c.args-args.ensures _ (there s c.count-count.ensures.sound c.args.id.0 c.requires.exists) in
    let l = subst (λ xs. c.args.k < length xs) (sym a) c.requires.k in
    let e : (get_or c.args-args.result.now c.args.k d).0 ≡ child s c.args.id.0 c.args.k = read_arg s c.count-count.ensures.sound c.args.id.0 c.args.k c.args-args.result.now d a l in
    subst (λ n. IfSome c.found.result (λ v. Copies s cut new n v.0)) e (c.found.ensures s new cut all)
