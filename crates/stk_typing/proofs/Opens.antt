-- Where no array part is open, none of the first and of the rest is.
use Rattle.std.proofs.Common.{◌≡◌, Bool, true, false, ◌||◌, List, ◌∷◌, refl, sym, ap, ◌∙◌}
use Rattle.std.proofs.lemmas.Bool.{false≢true}
use Rattle.stk_typing.specs.declared.arrays.Size.{Size}
use Rattle.stk_typing.specs.Arrays.{is_open, has_open}

neither : (p q : Bool) → (p || q) ≡ false → (p ≡ false) × (q ≡ false)
neither true q e = absurd (false≢true (sym e))
neither false q e = (refl, e)

pub first_closed : (size : Size) (sizes : List Size) → has_open (size ∷ sizes) ≡ false → is_open size ≡ false
first_closed size sizes e = (neither (is_open size) (has_open sizes) e).0

pub rest_closed : (size : Size) (sizes all : List Size) → all ≡ size ∷ sizes → has_open all ≡ false → has_open sizes ≡ false
rest_closed size sizes all same e = (neither (is_open size) (has_open sizes) (sym (ap has_open same) ∙ e)).1

pub first_of : (size : Size) (sizes all : List Size) → all ≡ size ∷ sizes → has_open all ≡ false → is_open size ≡ false
first_of size sizes all same e = first_closed size sizes (sym (ap has_open same) ∙ e)

pub ruleset closed = (rest_closed, first_of)
