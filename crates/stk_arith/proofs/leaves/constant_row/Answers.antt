use Rattle.std.proofs.Common.{◌≡◌, ◌%◌, ◌^◌, refl, subst, sym, ap, ◌∙◌, arith}
use Rattle.stk_arith.specs.Rows.{number, AreEdges}
use Rattle.stk_arith.proofs.Numbers.{edges_push}
use Rattle.stk_gates.proofs.Growth.{extends_same}
use Rattle.stk_arith.proofs.Steps.{constant_step}
use Rattle.stk_arith.proofs.leaves.constant_row.Goals as goal

pub loop-i-preserved : goal.loop-i-preserved
loop-i-preserved c =
    let old = c.loop-i.invariant in
    let items = c.in_ok-push.ensures.items in
    record {
      long = omega (arith, c.in_ok-push.ensures.len);
      edges = λ t. subst (AreEdges t) (sym items) (edges_push t t c.loop-i.row.items _ (extends_same t) (old.edges t) (omega arith));
      value = λ t gates o. constant_step t gates c.loop-i.row.items c.push.new.self.items c.args.value c.loop-i.i _ o items refl old.long (old.value t gates o);
    }

pub returns-clause-value : goal.returns-clause-value
returns-clause-value c t gates o =
    let all : c.loop-i.i ≡ c.args.width = omega arith in
    ap (number gates) c.from_vec.ensures ∙ (c.loop-i.invariant.value t gates o ∙ ap (λ n. c.args.value % 2 ^ n) all)
