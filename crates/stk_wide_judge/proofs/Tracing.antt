-- Input maps as a path run takes them, and which of them are valid.
use Rattle.std.proofs.Common.{◌≡◌, Bool, true, List, ℤ, map, refl, sym, ap, ◌∙◌, subst}
use Rattle.stk_tree.specs.Syntax.{FunctionTree}
use Rattle.stk_numbers.specs.declared.conditions.Kinds.{Kinds}
use Rattle.stk_meaning.specs.Typings.{Typing}
use Rattle.stk_meaning.specs.Keys.{KeyInfo, keys_of, kept_of, objects_in}
use Rattle.stk_meaning.specs.Maps.{AreInRange, IsValid, are_valid, addresses_in}
use Rattle.stk_meaning.specs.Paths.{number_under}
use Rattle.std.specs.Prelude.{ℕ}
use Rattle.stk_first_maps.specs.Words.{wrapped_by}
use Rattle.stk_first_maps.proofs.Ranges.{wrapped_stays}

-- the words of numbers in range are these numbers
pub words_stay : (own keys : List KeyInfo) (words given numbers : List ℤ) → words ≡ wrapped_by own given → own ≡ keys → given ≡ numbers → AreInRange keys numbers → words ≡ numbers
words_stay own keys words given numbers is same e range = is ∙ ap (λ (ks : List KeyInfo). wrapped_by ks given) same ∙ ap (wrapped_by keys) e ∙ wrapped_stays keys numbers range

-- a map that is in range and whose addresses are valid is valid
pub valid_by_test : (ty : Typing) (without : Kinds) (f : FunctionTree) (kept : List ℕ) (own : List KeyInfo) (words numbers : List ℤ) (b : Bool) → kept ≡ kept_of ty without f → own ≡ keys_of ty without f → words ≡ numbers → AreInRange (keys_of ty without f) numbers
    → b ≡ are_valid kept (objects_in ty own) (addresses_in (number_under own words)) → b ≡ true → IsValid ty without f numbers
valid_by_test ty without f kept own words numbers b same keys e range test holds = record {
  covers = range;
  apart =
      sym
      (ap (λ (ks : List ℕ). are_valid ks (objects_in ty own) (addresses_in (number_under own words))) same
      ∙ ap (λ (ks : List KeyInfo). are_valid (kept_of ty without f) (objects_in ty ks) (addresses_in (number_under ks words))) keys
      ∙ ap (λ (xs : List ℤ). are_valid (kept_of ty without f) (objects_in ty (keys_of ty without f)) (addresses_in (number_under (keys_of ty without f) xs))) e)
      ∙ sym test
      ∙ holds;
}
