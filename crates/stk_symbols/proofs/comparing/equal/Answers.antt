use Rattle.std.proofs.Common.{◌≡◌, ◌<◌, ◌^◌, ℕ, not, nat_eq, sym, ap, subst, ◌∙◌, arith}
use Rattle.std.proofs.lemmas.Bool.Decides.{nat_tests}
use Rattle.stk_terms.specs.Terms.{Stored}
use Rattle.stk_terms.specs.Values.{bit}
use Rattle.stk_symbols.specs.Valued.{IsBitOf, IsZero}
use Rattle.stk_numbers.specs.Kinds.{width_of, is_signed}
use Rattle.stk_symbols.proofs.Made.{obeys_before as B, term_below}
use Rattle.stk_symbols.proofs.Signing.{equal_bits}
use Rattle.stk_symbols.proofs.comparing.equal.Goals as goal

small_bit : (n : ℕ) → n < 2 ^ 1 → n ≡ bit (nat_eq n 1)
small_bit n h = grind (arith, nat_tests)

against_zero : (n : ℕ) → n < 2 ^ 1 → bit (not (nat_eq n 1)) ≡ bit (nat_eq n 0)
against_zero n h = grind (arith, nat_tests)

pub returns-in_ok-v-in-Some-clause-value : goal.returns-in_ok-v-in-Some-clause-value
returns-in_ok-v-in-Some-clause-value c = λ numbers o.
    let k = c.args.kind in
    let n = numbers c.args.left.0 in
    let m = numbers c.args.right.0 in
    let t = numbers c.in-Some.bit.0 in
    let old = B _ _ _ numbers c.in_ok-v-in-Some.ensures.grown o in
    let h = term_below c.args.terms.now numbers _ c.args.left.0 old c.requires.first in
    let l = term_below c.args.terms.now numbers _ c.args.right.0 old c.requires.second in
    let found = subst (λ (s : Stored). IsBitOf s c.args.left.0 c.in-Some.bit.0 × IsZero s c.args.right.0) c.terms.ensures.same c.in-Some.ensures in
    let bits = found.0 in
    let same : n ≡ t = old.are c.args.left.0 c.requires.first.exists_ ∙ bits.same old.residues ∙ sym (old.are c.in-Some.bit.0 bits.term.exists_) in
    let none : m ≡ 0 = old.are c.args.right.0 c.requires.second.exists_ ∙ found.1 old.residues in
    let small = term_below c.args.terms.now numbers 1 c.in-Some.bit.0 old bits.term in
    c.in_ok-v-in-Some.ensures.value numbers (nat_eq t 1) o (small_bit t small)
    ∙ against_zero t small
    ∙ (λ j. bit (nat_eq (sym same j) (sym none j)))
    ∙ ap bit (equal_bits (is_signed k) (width_of k) n m h l)
