-- Parts of an initialiser are less deep than the whole.
use Rattle.std.proofs.Common.{◌≡◌, ◌<◌, Bool, List, sym, ap, ◌∙◌, arith}
use denote.Param.Weighed.{most}
use Rattle.stk_tree.specs.declared.declaration.Init.{Init, Init-F, roll-Init, out-roll-Init, size_is-Init}
use Rattle.stk_tree.specs.declared.declaration.Init.TheVariants as init
use Rattle.stk_tree.specs.declared.declaration.Item.{Item, out-Item, size_is-Item}
use Rattle.stk_tree.proofs.declaration.Init.TheLaws.{the_size as init_size}
use Rattle.stk_tree.proofs.declaration.Item.TheLaws.{the_size as item_size}

pub in_braces : (x : Init) (xs : List Item) (comma : Bool) → x ≡ init.Braces xs comma → most item_size xs < init_size x
in_braces x xs comma is =
    let same : init_size x ≡ init_size (roll-Init (Init-F.Braces xs comma)) = ap init_size (is ∙ sym (init.rolls-Braces xs comma)) in
    let row = rw (out-roll-Init (Init-F.Braces xs comma)) at (size_is-Init (roll-Init (Init-F.Braces xs comma))) in
    omega (arith, row)

pub in_item : (x : Item) → init_size (out-Item x).init < item_size x
in_item x = omega (arith, size_is-Item x)
