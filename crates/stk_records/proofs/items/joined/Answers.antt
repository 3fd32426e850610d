use Rattle.std.proofs.Common.{◌≡◌, ◌∷◌, not, take, length, nat_eq, sym, ap, ◌∙◌}
use Rattle.std.specs.Cmp.Lexicographic.{pointwise}
use Rattle.std.proofs.lemmas.Bool.{true≢false}
use Rattle.stk_records.proofs.Forms.{front_of, alike}
use Rattle.stk_records.proofs.items.joined.Goals as goal

pub returns-then-ne : goal.returns-then-ne
returns-then-ne c text e =
    let front : c.split_at.result.0.now ≡ c.args.start.now = c.split_at.ensures.front ∙ (ap (take (length c.args.start.now)) e ∙ front_of c.args.start.now (61 ∷ text)) in
    true≢false (sym c.if-ne.true ∙ (c.ne.ensures ∙ ap not (ap (λ t. pointwise nat_eq t c.args.start.now) front ∙ alike c.args.start.now)))
