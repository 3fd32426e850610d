use Rattle.std.proofs.Common.{sym, ◌∙◌}
use Rattle.stk_query.proofs.Sayings.{refuted_never}
use Rattle.stk_query.proofs.searching.is_refuted.Goals as goal

pub returns-in-Refuted : goal.returns-in-Refuted
returns-in-Refuted c = λ e.
    refuted_never c.args.terms.now c.args.goal.0 c.in_ok-cnf.cnf c.in-Refuted.derivation c.in_ok-found-in-Refuted.found c.in_ok-cnf.ensures.stands c.in_ok-found-in-Refuted.ensures (sym c.is_some.ensures ∙ e)
