use Rattle.std.proofs.Common.{◌≡◌, ap, length, map, arith}
use Rattle.std.proofs.lemmas.List.{length-map}
use Rattle.stk_tree.specs.View.{view_declarator}
use Rattle.stk_stmt.proofs.UnitForms.{not_lone}
use Rattle.stk_stmt.proofs.units.lone.Goals as goal

pub returns-then-as_slice-ne1 : goal.returns-then-as_slice-ne1
returns-then-as_slice-ne1 c =
    not_lone (map view_declarator c.args.list) (λ e. c.if-as_slice-ne1.true (rw c.as_slice.ensures (omega (arith, e, length-map c.args.list view_declarator))))
