-- What a sum is replaced by, where it is known which operand is spelled like the other side.
use Rattle.std.proofs.Common.{◌≡◌, Bool, true, false, ◌&&◌, not, if◌then◌else◌, Option, Some, None, sym, ap, ◌∙◌}
use Rattle.stk_tree.specs.Syntax.{ExprTree}
use Rattle.stk_meaning.specs.Typings.{Typing}
use Rattle.stk_meaning.specs.Replacements.{Replaced, Summed, first_of_both, kept_if, replaced_sum, spelled_alike}

-- what a test chooses
pub chosen : (keeps b : Bool) (x : Replaced) → keeps ≡ b → keeps ≡ true → Some x ≡ (if b then Some x else None)
chosen keeps b x e h = ap (λ a. if a then Some x else None) (sym h ∙ e)

pub not_chosen : (keeps b : Bool) (x : Replaced) → keeps ≡ b → keeps ≡ false → None ≡ (if b then Some x else None)
not_chosen keeps b x e h = ap (λ a. if a then Some x else None) (sym h ∙ e)

-- what keeps the right operand, and what keeps the left one
abbrev pub keeps_right : Bool → Summed → Bool → Replaced
keeps_right first sum zero = record { kept = sum.right; is_right = true; sum_first = first; zero_first = zero }

abbrev pub keeps_left : Bool → Summed → Replaced
keeps_left first sum = record { kept = sum.left; is_right = false; sum_first = first; zero_first = not first }

-- the left operand is spelled like the other side
pub left_out : (ty : Typing) (first left zero : Bool) (sum : Summed) (other : ExprTree) (r : Option Replaced) → left ≡ spelled_alike ty.bytes sum.left other → left ≡ true → zero ≡ (if first then sum.minus else not sum.minus) → r ≡ kept_if ty true sum.left sum.right (keeps_right first sum zero) → r ≡ replaced_sum ty first sum other
left_out ty first left zero sum other r e l z h =
    h
    ∙ ap (λ z. kept_if ty true sum.left sum.right (keeps_right first sum z)) z
    ∙ ap (λ a. if a then kept_if ty true sum.left sum.right (keeps_right first sum (if first then sum.minus else not sum.minus)) else kept_if ty (spelled_alike ty.bytes sum.right other && not sum.minus) sum.right sum.left (keeps_left first sum)) (sym l ∙ e)

-- the left operand isn't
pub right_out : (ty : Typing) (first left right alike : Bool) (sum : Summed) (other : ExprTree) (r : Option Replaced) → left ≡ spelled_alike ty.bytes sum.left other → left ≡ false → right ≡ spelled_alike ty.bytes sum.right other → alike ≡ (right && not sum.minus) → r ≡ kept_if ty alike sum.right sum.left (keeps_left first sum) → r ≡ replaced_sum ty first sum other
right_out ty first left right alike sum other r e l f a h =
    h
    ∙ ap (λ b. kept_if ty b sum.right sum.left (keeps_left first sum)) a
    ∙ ap (λ b. kept_if ty (b && not sum.minus) sum.right sum.left (keeps_left first sum)) f
    ∙ ap (λ a. if a then kept_if ty true sum.left sum.right (keeps_right first sum (if first then sum.minus else not sum.minus)) else kept_if ty (spelled_alike ty.bytes sum.right other && not sum.minus) sum.right sum.left (keeps_left first sum)) (sym l ∙ e)

-- the first side that is replaced, and else the second
pub first_found : (a b : Option Replaced) (x : Replaced) → Some x ≡ a → Some x ≡ first_of_both a b
first_found a b x e = ap (λ o. first_of_both o b) e

pub second_found : (a b r : Option Replaced) → None ≡ a → r ≡ b → r ≡ first_of_both a b
second_found a b r e h = h ∙ ap (λ o. first_of_both o b) e
