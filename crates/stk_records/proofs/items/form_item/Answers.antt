use Rattle.std.proofs.Common.{map, ap, ◌∙◌, refl}
use Rattle.std.specs.String.{string_bytes}
use Rattle.stk_records.specs.declared.items.Form.TheVariants as form
use Rattle.stk_records.specs.Words.{form_word}
use Rattle.stk_records.proofs.Forms.{itself_alone, apart_found, takes_text}
use Rattle.stk_records.proofs.items.form_item.Goals as goal

pub returns-in-Json : goal.returns-in-Json
returns-in-Json c = itself_alone form.Json (ap form_word c.in-Json.is) refl

pub returns-in-Bundle : goal.returns-in-Bundle
returns-in-Bundle c = itself_alone form.Bundle (ap form_word c.in-Bundle.is) refl

pub returns-in_default : goal.returns-in_default
returns-in_default c = apart_found (λ b. b.now) (λ ws. map string_bytes ws) c.args.form (map string_bytes c.args.left.now) c.apart_item.result (takes_text c.args.form c.in_default.not-Json c.in_default.not-Bundle) c.apart_item.ensures
