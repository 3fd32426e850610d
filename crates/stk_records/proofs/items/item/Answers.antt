use Rattle.std.proofs.Common.{map}
use Rattle.std.specs.String.{string_bytes}
use Rattle.stk_records.specs.Words.{form_word}
use Rattle.stk_records.proofs.Forms.{found_at}
use Rattle.stk_records.proofs.items.item.Goals as goal

pub returns-in-Some : goal.returns-in-Some
returns-in-Some c = found_at (λ b. b.now) (λ ws. map string_bytes ws) (map string_bytes c.args.left.now) c.form_item.result c.args.first.now (form_word c.in-Some.form) c.in-Some.ensures c.form_item.ensures
