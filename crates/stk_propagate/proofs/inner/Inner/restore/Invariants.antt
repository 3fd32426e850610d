use Rattle.std.proofs.Common.{◌≡◌, length}
use Rattle.stk_propagate.specs.Linked.{chain_of, InSpare, IsSized, AreLinked}
use Rattle.stk_propagate.proofs.inner.Inner.restore.Given as goal

abbrev pub invariant-loop-place : goal.invariant-loop-place
invariant-loop-place l = record {
  sized : IsSized l.self;
  linked : AreLinked l.self l.lit (InSpare l.self);
  rest : l.self ≡ record l.fn.self { chains = l.self.chains };
}

abbrev pub decreases-loop-place : goal.decreases-loop-place
decreases-loop-place l = length (chain_of l.self l.lit)
