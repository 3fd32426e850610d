use Rattle.std.proofs.Common.{sym, ◌∙◌}
use Rattle.stk_proofs.proofs.Distinctness.{unseen_new, unseen_old}
use Rattle.stk_proofs.proofs.distinct.add_unseen.Goals as goal

pub returns-then-fresh-clause-found : goal.returns-then-fresh-clause-found
returns-then-fresh-clause-found c = c.in_ok-push.ensures.items ∙ sym (unseen_new c.args.found.now.items c.args.literal c.args.seen.now.keys c.in_ok-fresh.fresh c.requires c.in_ok-fresh.ensures.added c.if-fresh.true)

pub returns-clause-found : goal.returns-clause-found
returns-clause-found c = sym (unseen_old c.args.found.now.items c.args.literal c.args.seen.now.keys c.in_ok-fresh.fresh c.requires c.in_ok-fresh.ensures.added c.if-fresh.false)
