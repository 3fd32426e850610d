use Rattle.std.proofs.Common.{◌≡◌, ◌-◌, ◌++◌, length, ap, ◌∙◌}
use Rattle.std.proofs.Common.{set}
use Rattle.stk_arith.proofs.Tops.{top_turned}
use Rattle.stk_arith.proofs.order.top_inverted.Goals as goal

pub returns-clause-value : goal.returns-clause-value
returns-clause-value c gates =
    let row = c.args.row.now in
    let e = c.inverted.result in
    let copy : c.extend_from_slice.new.self.items ≡ row = c.in_ok-extend_from_slice.ensures.items ∙ ap (λ l. l ++ row) c.new-top.ensures.items in
    top_turned gates row _ e (record { 0 = 0 }) c.requires (ap (λ l. set l (length row - 1) e) copy) (c.inverted.ensures.value gates)
