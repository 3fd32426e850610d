-- What is read of terms of which no part is a left side.
use Rattle.std.specs.Prelude.{◌≡◌, ℕ, ◌+◌, ◌-◌, ◌/◌, ◌%◌, ◌^◌, ◌<◌, ◌≤◌, Bool, true, false, List}
use Rattle.stk_terms.specs.declared.term.TermOp.TheVariants.{Constant}
use Rattle.stk_terms.specs.Terms.{Stored, term_at, child}
use Rattle.stk_terms.specs.Values.{width_at, number_at}
use Rattle.stk_rewrite.specs.Looks.{is_constant, is_not, is_neg, is_extract, adds_constant}
use Rattle.stk_terms.specs.Cost.{IsClosed}
use Rattle.stk_rewrite.specs.Normal.{IsNormal}
use Rattle.stk_rewrite.specs.Rights.{IsWritten}

-- a is the constant n
pub record IsNumber (s : Stored) (a n : ℕ) : Type 0 where
  pub op_is : (term_at s a).op ≡ Constant (width_at s a) n
  pub value : (residues : List ℕ) → number_at s residues a ≡ n
  pub written : IsWritten (width_at s a) n

-- x is a part of which no part is a left side, and no constant
pub record IsPlain (s : Stored) (x : ℕ) : Type 0 where
  pub normal : IsNormal s x
  pub plain : is_constant (term_at s x).op ≡ false

-- a is x + c
pub record IsSum (s : Stored) (a x c : ℕ) : Type 0 where
  pub part : IsPlain s x
  pub reached : (chosen : ℕ → Bool) → IsClosed s chosen → chosen a ≡ true → chosen x ≡ true
  pub wide : width_at s x ≡ width_at s a
  pub once : adds_constant s x ≡ false
  pub written : c < 2 ^ width_at s a
  pub value : (residues : List ℕ) → number_at s residues a ≡ (number_at s residues x + c) % 2 ^ width_at s a

-- a is Not of x
pub record IsNegation (s : Stored) (a x : ℕ) : Type 0 where
  pub part : IsPlain s x
  pub reached : (chosen : ℕ → Bool) → IsClosed s chosen → chosen a ≡ true → chosen x ≡ true
  pub is : is_not (term_at s a).op ≡ true
  pub first : child s a 0 ≡ x
  pub wide : width_at s x ≡ width_at s a
  pub once : is_not (term_at s x).op ≡ false
  pub value : (residues : List ℕ) → number_at s residues a ≡ 2 ^ width_at s a - 1 - number_at s residues x

-- a is Neg of x
pub record IsNegative (s : Stored) (a x : ℕ) : Type 0 where
  pub part : IsPlain s x
  pub reached : (chosen : ℕ → Bool) → IsClosed s chosen → chosen a ≡ true → chosen x ≡ true
  pub wide : width_at s x ≡ width_at s a
  pub once : is_neg (term_at s x).op ≡ false
  pub value : (residues : List ℕ) → number_at s residues a ≡ (2 ^ width_at s a - number_at s residues x) % 2 ^ width_at s a

-- a is cut out of x, from the bit low on
pub record IsCut (s : Stored) (a low x : ℕ) : Type 0 where
  pub part : IsPlain s x
  pub reached : (chosen : ℕ → Bool) → IsClosed s chosen → chosen a ≡ true → chosen x ≡ true
  pub within : low + width_at s a ≤ width_at s x
  pub once : is_extract (term_at s x).op ≡ false
  pub value : (residues : List ℕ) → number_at s residues a ≡ number_at s residues x / 2 ^ low % 2 ^ width_at s a

-- two arguments of one width
pub record ArePair (s : Stored) (a b : ℕ) : Type 0 where
  pub first : IsNormal s a
  pub second : IsNormal s b
  pub alike : width_at s a ≡ width_at s b

-- an argument that is no constant, and a constant of its width
pub record IsBeside (s : Stored) (a w n : ℕ) : Type 0 where
  pub part : IsPlain s a
  pub alike : width_at s a ≡ w
  pub written : IsWritten w n
