-- The names of a script: they differ, and each stands for what was put under it.
use Rattle.std.proofs.Common.{◌≡◌, ◌≢◌, ℕ, ◌+◌, ◌^◌, ◌<◌, ◌≤◌, Bool, true, false, ◌&&◌, nat_eq, List, [], ◌∷◌, Some, None, ◌⊎◌, inl, inr, refl, ap, sym, subst, ◌∙◌, arith, decimal, if◌then◌else◌}
use Rattle.std.proofs.lemmas.Bool.Decides.{nat_tests}
use Rattle.stk_base.specs.Text.{same_text}
use Rattle.stk_scripts.specs.Numerals.{numeral}
use Rattle.stk_scripts.specs.Scripts.{found}
use Rattle.stk_scripts.proofs.Numerals.{numeral_of, same_is}
use Rattle.stk_smtlib.specs.Written.{input_name, term_name}

some_is : {A : Type 0} {x y : A} → Some x ≡ Some y → x ≡ y
some_is e = cc

tail_is : {x y : ℕ} {xs ys : List ℕ} → x ∷ xs ≡ y ∷ ys → xs ≡ ys
tail_is e = cc

decimals_same : (i j : ℕ) → i < 2 ^ 128 → j < 2 ^ 128 → decimal i ≡ decimal j → i ≡ j
decimals_same i j small little e = some_is (sym (numeral_of i small) ∙ ap numeral e ∙ numeral_of j little)

pub terms_same : (i j : ℕ) → i < 2 ^ 128 → j < 2 ^ 128 → term_name i ≡ term_name j → i ≡ j
terms_same i j small little e = decimals_same i j small little (tail_is e)

pub inputs_same : (i j : ℕ) → i < 2 ^ 128 → j < 2 ^ 128 → input_name i ≡ input_name j → i ≡ j
inputs_same i j small little e = decimals_same i j small little (tail_is e)

by_text : (a b : List ℕ) (t : Bool) → same_text a b ≡ t → (a ≡ b → ⊥) → same_text a b ≡ false
by_text a b true e differ = absurd (differ (same_is a b e))
by_text a b false e differ = e

pub texts_differ : (a b : List ℕ) → (a ≡ b → ⊥) → same_text a b ≡ false
texts_differ a b differ = by_text a b (same_text a b) refl differ

pub same_itself : (a : List ℕ) → same_text a a ≡ true
same_itself [] = refl
same_itself (x ∷ xs) = let e : nat_eq x x ≡ true = grind (arith, nat_tests) in subst (λ b. (b && same_text xs xs) ≡ true) (sym e) (same_itself xs)

pub equal_or : (i j : ℕ) → (i ≡ j) ⊎ (i ≡ j → ⊥)
equal_or i j = by (nat_eq i j) refl
  where
    by : (t : Bool) → nat_eq i j ≡ t → (i ≡ j) ⊎ (i ≡ j → ⊥)
    by true e = inl (grind (arith, nat_tests))
    by false e = inr (λ same. let differ : i ≢ j = grind (arith, nat_tests) in differ same)

module _ {A : Type 0} where
  found_there : (n : List ℕ) (x : A) (g : List (List ℕ × A)) → found ((n, x) ∷ g) n ≡ Some x
  found_there n x g = ap (λ b. if b then Some x else found g n) (same_itself n)

  found_behind : (n m : List ℕ) (x : A) (g : List (List ℕ × A)) → (n ≡ m → ⊥) → found ((n, x) ∷ g) m ≡ found g m
  found_behind n m x g differ = ap (λ b. if b then Some x else found g m) (texts_differ n m differ)

  -- the first so many inputs have names, and nothing else does
  pub record InputsNamed (input : ℕ → A) (k : ℕ) (g : List (List ℕ × A)) : Type 0 where
    pub few : k < 2 ^ 128
    pub inputs : (i : ℕ) → i < k → found g (input_name i) ≡ Some (input i)
    pub fresh : (i : ℕ) → k ≤ i → i < 2 ^ 128 → found g (input_name i) ≡ None
    pub terms : (i : ℕ) → found g (term_name i) ≡ None

  pub none_named : (input : ℕ → A) → InputsNamed input 0 []
  none_named input = record { few = omega arith; inputs = λ i h. absurd (omega (arith, h)); fresh = λ i h l. refl; terms = λ i. refl }

  pub input_named : (input : ℕ → A) (k : ℕ) (g : List (List ℕ × A)) → k + 1 < 2 ^ 128 → InputsNamed input k g → InputsNamed input (k + 1) ((input_name k, input k) ∷ g)
  input_named input k g few h = record {
    few = few;
    inputs = λ i below. elim (equal_or k i) [
      | inl e ↦ subst (λ j. found ((input_name k, input k) ∷ g) (input_name j) ≡ Some (input j)) e (found_there (input_name k) (input k) g)
      | inr other ↦ found_behind (input_name k) (input_name i) (input k) g (λ e. other (inputs_same k i h.few (omega (arith, below, few)) e)) ∙ h.inputs i (less i below other)
    ];
    fresh = λ i above small. found_behind (input_name k) (input_name i) (input k) g (λ e. let same = inputs_same k i h.few small e in absurd (omega (arith, above, same))) ∙ h.fresh i (omega (arith, above)) small;
    terms = λ i. h.terms i;
  }
    where
      less : (i : ℕ) → i < k + 1 → (k ≡ i → ⊥) → i < k
      less i below apart = let differ : k ≢ i = apart in omega (arith, below, differ)

  -- the inputs have names, and of the terms below a place those that are chosen
  pub record TermsNamed (input term : ℕ → A) (count : ℕ) (chosen : ℕ → Bool) (j : ℕ) (g : List (List ℕ × A)) : Type 0 where
    pub inputs : (i : ℕ) → i < count → found g (input_name i) ≡ Some (input i)
    pub terms : (i : ℕ) → i < j → chosen i ≡ true → found g (term_name i) ≡ Some (term i)
    pub fresh : (i : ℕ) → j ≤ i → i < 2 ^ 128 → found g (term_name i) ≡ None

  module _ (input term : ℕ → A) (count : ℕ) (chosen : ℕ → Bool) where
    pub terms_begin : (g : List (List ℕ × A)) → InputsNamed input count g → TermsNamed input term count chosen 0 g
    terms_begin g h = record { inputs = h.inputs; terms = λ i below c. absurd (omega (arith, below)); fresh = λ i above small. h.terms i }

    pub term_named : (j : ℕ) (g : List (List ℕ × A)) → j < 2 ^ 128 → TermsNamed input term count chosen j g → TermsNamed input term count chosen (j + 1) ((term_name j, term j) ∷ g)
    term_named j g few h = record {
      inputs = λ i below. h.inputs i below;
      terms = λ i below c. elim (equal_or j i) [
        | inl e ↦ subst (λ u. found ((term_name j, term j) ∷ g) (term_name u) ≡ Some (term u)) e (found_there (term_name j) (term j) g)
        | inr other ↦ found_behind (term_name j) (term_name i) (term j) g (λ e. other (terms_same j i few (omega (arith, below, few)) e)) ∙ h.terms i (less i below other) c
      ];
      fresh = λ i above small. found_behind (term_name j) (term_name i) (term j) g (λ e. let same = terms_same j i few small e in absurd (omega (arith, above, same))) ∙ h.fresh i (omega (arith, above)) small;
    }
      where
        less : (i : ℕ) → i < j + 1 → (j ≡ i → ⊥) → i < j
        less i below apart = let differ : j ≢ i = apart in omega (arith, below, differ)

    pub term_passed : (j : ℕ) (g : List (List ℕ × A)) → chosen j ≡ false → TermsNamed input term count chosen j g → TermsNamed input term count chosen (j + 1) g
    term_passed j g passed h = record {
      inputs = h.inputs;
      terms = λ i below c. elim (equal_or j i) [
        | inl e ↦ absurd (wrong i e c)
        | inr other ↦ let differ : j ≢ i = other in h.terms i (omega (arith, below, differ)) c
      ];
      fresh = λ i above small. h.fresh i (omega (arith, above)) small;
    }
      where
        wrong : (i : ℕ) → j ≡ i → chosen i ≡ true → ⊥
        wrong i e c = cc
