use Rattle.std.proofs.Common.{◌≡◌, length, sym, ◌∙◌, ap, nat_eq}
use Rattle.std.proofs.lemmas.Bool.{false≢true}
use Rattle.stk_stmt.proofs.DeclarationHeads.{end_of_last}
use Rattle.stk_stmt.proofs.heads.end_of.Goals as goal

pub returns-else-is_empty-clause-from : goal.returns-else-is_empty-clause-from
returns-else-is_empty-clause-from c = end_of_last c.args.tokens.now _ (λ e. false≢true (sym c.if-is_empty.false ∙ c.is_empty.ensures ∙ ap (λ n. nat_eq n 0) e))

pub returns-else-is_empty-clause-to : goal.returns-else-is_empty-clause-to
returns-else-is_empty-clause-to c = end_of_last c.args.tokens.now _ (λ e. false≢true (sym c.if-is_empty.false ∙ c.is_empty.ensures ∙ ap (λ n. nat_eq n 0) e))
