use Rattle.std.proofs.Common.{◌≡◌, ◌-◌, ◌*◌, ℕ, List, length, get_or, ap, sym, ◌∙◌, subst}
use Rattle.std.proofs.lemmas.List.{get_or_default}
use Rattle.stk_weights.specs.declared.counting.Register.{Register}
use Rattle.stk_weights.specs.Sums.{capped}
use Rattle.stk_weights.specs.Counting.{nothing, count_in, IsMarked}
use Rattle.stk_weights.proofs.counting.assign.Goals as goal

pub returns-clause-known : goal.returns-clause-known
returns-clause-known c = λ m there h.
    let rows : List Register = c.args.rows.now.items in
    let size : ℕ = length c.args.begins.now in
    let same : c.index-row.result.now ≡ get_or rows c.args.register nothing = c.index-row.ensures ∙ get_or_default rows c.args.register c.index-row.result.now nothing there in
    let place : c.marked.result ≡ m = c.marked.ensures.is m (subst (λ (x : Register). IsMarked c.args.begins.now x.last m) (sym same) h) in
    c.saturating_mul.ensures ∙ ap (λ (x : Register). capped (x.count * (size - c.marked.result))) same ∙ ap (λ n. capped (count_in rows c.args.register * (size - n))) place
