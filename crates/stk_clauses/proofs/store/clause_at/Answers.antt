use Rattle.std.proofs.Common.{length, arith}
use Rattle.stk_clauses.proofs.Cuts.{cut_at, rise_at}
use Rattle.stk_clauses.proofs.store.clause_at.Goals as goal

pub between-requires : goal.between-requires
between-requires c =
    let r = rise_at 0 c.args.ends.now (length c.args.literals.now) c.args.at c.requires.rising c.requires.exists in
    record { forwards = omega (arith, r.0, c.begin_of-from.ensures); within = omega (arith, r.1) }

pub returns : goal.returns
returns c = rw (cut_at c.args.literals.now 0 c.args.ends.now c.args.at c.requires.exists, ← c.begin_of-from.ensures) c.between.ensures
