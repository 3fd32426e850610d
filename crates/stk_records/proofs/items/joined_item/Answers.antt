use Rattle.std.proofs.Common.{◌∷◌, map}
use Rattle.std.specs.String.{string_bytes}
use Rattle.stk_records.proofs.Forms.{other_none, lost, joined_alone, joined_none}
use Rattle.stk_records.proofs.items.joined_item.Goals as goal

pub returns-in_err-form : goal.returns-in_err-form
returns-in_err-form c = lost (λ b. b.now) (λ ws. map string_bytes ws) (c.args.first.now ∷ map string_bytes c.args.left.now) c.from_residual.result c.from_residual.ensures (λ x behind i. other_none c.requires c.in_err-form.ensures i)

pub returns-in_err-found : goal.returns-in_err-found
returns-in_err-found c = lost (λ b. b.now) (λ ws. map string_bytes ws) (c.args.first.now ∷ map string_bytes c.args.left.now) c.from_residual-in_err-found.result c.from_residual-in_err-found.ensures (joined_none c.in_ok-form.form c.in_ok-form.text.now c.in_ok-form.ensures c.in_err-found.ensures)

pub returns : goal.returns
returns c = joined_alone c.in_ok-form.form c.in_ok-form.ensures c.in_ok-found.ensures
