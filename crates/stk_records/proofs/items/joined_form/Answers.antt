use Rattle.stk_records.proofs.Forms.{none_joined}
use Rattle.stk_records.proofs.items.joined_form.Goals as goal

pub returns : goal.returns
returns c = none_joined c.in_default.ensures c.in_default-joined.ensures c.in_default-joined-2.ensures c.in_default-joined-3.ensures c.in_default-joined-4.ensures c.in_default-joined-5.ensures c.in_default-joined-6.ensures c.in_default-joined-7.ensures
