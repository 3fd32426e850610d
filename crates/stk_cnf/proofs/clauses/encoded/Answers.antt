use Rattle.std.proofs.Common.{◌&&◌, ap, ◌∙◌, arith}
use Rattle.std.proofs.lemmas.List.{take_all}
use Rattle.stk_gates.specs.Edges.{edge_value}
use Rattle.stk_cnf.specs.Clauses.{named, all_tied}
use Rattle.stk_cnf.proofs.Growing.{tied_more}
use Rattle.stk_cnf.proofs.clauses.encoded.Goals as goal

pub put_and-requires-clause-rising : goal.put_and-requires-clause-rising
put_and-requires-clause-rising c = c.requires.rising c.loop-n.n-index 0 c.loop-n-test.true

pub loop-n-preserved : goal.loop-n-preserved
loop-n-preserved c =
    let old = c.loop-n.invariant in
    let new = c.in_ok-put_and.ensures in
    record {
      value = λ v. tied_more c.args.gates.now (named c.args.names.now v) c.args.ands.now c.loop-n.n-index 0 _ _ c.loop-n-test.true (old.value v) (new.value v);
      few = omega (arith, old.few, new.few);
      short = λ h. new.short (old.short h);
      below = λ h. new.below (old.below h);
    }

pub returns-clause-grown : goal.returns-clause-grown
returns-clause-grown c =
    let old = c.loop-n.invariant in
    let new = c.in_ok-put_edge.ensures.grown in
    let whole = take_all c.loop-n.n-index c.args.ands.now (omega (arith, c.loop-n-test.false)) in
    record {
      value = λ v. new.value v ∙ ap (λ b. b && edge_value (named c.args.names.now v) c.args.goal) (old.value v ∙ ap (λ ns. all_tied c.args.gates.now (named c.args.names.now v) ns) whole);
      few = omega (arith, old.few, new.few);
      short = λ h. new.short (old.short h);
      below = λ h. new.below (old.below h);
    }
