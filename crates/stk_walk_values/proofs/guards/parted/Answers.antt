use Rattle.std.proofs.Common.{not}
use Rattle.stk_walk_values.proofs.guards.parted.Goals as goal

pub returns-clause-value : goal.returns-clause-value
returns-clause-value g c = λ m a b served hg ht.
    let k1 = c.opposite.ensures.keeps in
    let k2 = c.both.ensures.keeps in
    let k3 = c.both-2.ensures.keeps in
    let s1 = k1.served m served in
    let no = c.in_ok-opposite.ensures.value m b served ht in
    let first = c.in_ok-first.ensures.value m a b s1 (k1.shown m _ _ _ hg) (k1.shown m _ _ _ ht) in
    let second = c.in_ok-second.ensures.value m a (not b) (k2.served m s1) (k2.shown m _ _ _ (k1.shown m _ _ _ hg)) (k2.shown m _ _ _ no) in
    (k3.shown m _ _ _ first, second)
