use Rattle.std.proofs.Common.{subst, sym, arith}
use Rattle.std.specs.List.{Contains}
use Rattle.std.proofs.lemmas.List.{take_all}
use Rattle.stk_solver.proofs.marks.Marks.clear.Goals as goal

pub returns-clause-clean : goal.returns-clause-clean
returns-clause-clean c =
    let s = c.loop-at.invariant in
    record {
      sized = s.noted.sized;
      none = λ m h. s.gone m h (subst (λ ys. Contains ys m) (sym (take_all c.loop-at.at c.args.self.now.noted.items (omega (arith, c.loop-at-test.false, c.len-at-end.ensures, c.args.self.now.noted.ok.0)))) (subst (λ v. Contains v.items m) s.list (s.noted.noted m h)));
    }
