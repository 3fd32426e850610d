-- Tests that fail.
use Rattle.std.proofs.Common.{◌≡◌, ℕ, ◌-◌, ◌^◌, Bool, true, false, not, ◌&&◌, ◌||◌, nat_eq, refl, sym, ap, subst, ◌∙◌, Some, None}
use Rattle.stk_terms.specs.declared.term.TermOp.{TermOp}
use Rattle.stk_terms.specs.declared.term.TermOp.TheVariants.{Constant, Not, Neg, Add, Extract}
use Rattle.stk_rewrite.specs.Looks.{is_constant, is_number, is_ones, is_not, is_neg, is_add, is_extract}

pub neither : (x y : Bool) → x ≡ false → y ≡ false → (x || y) ≡ false
neither true y h k = absurd (cc)
neither false y h k = k

pub not_first : (x y : Bool) → x ≡ false → (x && y) ≡ false
not_first true y h = absurd (cc)
not_first false y h = refl

pub not_second : (x y : Bool) → y ≡ false → (x && y) ≡ false
not_second true y h = h
not_second false y h = refl

pub either_first : (x y : Bool) → (x || y) ≡ false → x ≡ false
either_first true y h = h
either_first false y h = refl

pub either_second : (x y : Bool) → (x || y) ≡ false → y ≡ false
either_second true y h = absurd (cc)
either_second false y h = h

pub both_true : (x y : Bool) → x ≡ true → (x && y) ≡ false → y ≡ false
both_true true y e h = h
both_true false y e h = absurd (cc)

pub and_true : (x y : Bool) → y ≡ true → (x && y) ≡ false → x ≡ false
and_true true y e h = absurd (cc)
and_true false y e h = refl

-- a constant is what these look for
pub no_number : (n : ℕ) (op : TermOp) → is_constant op ≡ false → is_number n op ≡ false
no_number n (Constant w m) h = absurd (cc)
no_number n _ h = refl

pub no_ones : (op : TermOp) → is_constant op ≡ false → is_ones op ≡ false
no_ones (Constant w m) h = absurd (cc)
no_ones _ h = refl

pub no_not : (op : TermOp) → is_constant op ≡ true → is_not op ≡ false
no_not (Constant w m) h = refl
no_not _ h = absurd (cc)

pub apart : (a b : ℕ) → (a ≡ b → ⊥) → nat_eq a b ≡ false
apart a b f = grind Rattle.std.proofs.Common.arith

-- operators that aren't
pub other_constant : (op : TermOp) → ((w n : ℕ) → op ≡ Constant w n → ⊥) → is_constant op ≡ false
other_constant (Constant w n) h = absurd (h w n refl)
other_constant _ h = refl

pub other_not : (op : TermOp) → (op ≡ Not → ⊥) → is_not op ≡ false
other_not Not h = absurd (h refl)
other_not _ h = refl

pub other_add : (op : TermOp) → (op ≡ Add → ⊥) → is_add op ≡ false
other_add Add h = absurd (h refl)
other_add _ h = refl

pub other_extract : (op : TermOp) → ((low w : ℕ) → op ≡ Extract low w → ⊥) → is_extract op ≡ false
other_extract (Extract low w) h = absurd (h low w refl)
other_extract _ h = refl

pub other_neg : (op : TermOp) → (op ≡ Neg → ⊥) → is_neg op ≡ false
other_neg Neg h = absurd (h refl)
other_neg _ h = refl
