use Rattle.std.proofs.Common.{◌≡◌, length}
use Rattle.stk_terms.specs.Fitting.{IsSound}
use Rattle.stk_terms.specs.Growth.{Keeps}
use Rattle.stk_terms.specs.Parts.{is_part}
use Rattle.stk_rewrite.specs.Carries.{Carries}
use Rattle.stk_rewrite.specs.Normal.{AreSimplified}
use Rattle.stk_rewrite.proofs.simplifying.simplify.Given as goal

-- the parts among the first terms are done
abbrev pub invariant-loop-i : goal.invariant-loop-i
invariant-loop-i l = record {
  sound : IsSound l.terms;
  keeps : Keeps l.fn.terms l.terms;
  count : length l.done.items ≡ l.i;
  done : AreSimplified l.terms (is_part l.fn.terms l.fn.id.0) l.done.items;
  carried : Carries l.fn.terms l.terms (is_part l.fn.terms l.fn.id.0) l.done.items;
}
