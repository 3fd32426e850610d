use Rattle.std.proofs.Common.{◌≡◌, ◌≤◌, ◌^◌, ◌∙◌, ap, subst, sym, arith}
use Rattle.stk_terms.specs.Fitting.{AreResidues}
use Rattle.stk_terms.specs.Values.{number_at}
use Rattle.stk_terms.specs.Ordered.{bits_in, residues_at, number_of, IsBefore}
use Rattle.stk_terms.proofs.Numbered.{residues_fit, number_itself, number_below, number_before}
use Rattle.stk_terms.proofs.enumerate.is_found.Goals as goal

pub number_with-requires-clause-residues : goal.number_with-requires-clause-residues
number_with-requires-clause-residues c =
    let ws = c.args.terms.now.inputs in
    let e = c.deref.ensures.value ∙ (c.in_ok-put_residues.ensures ∙ ap (λ ys. residues_at ys c.loop-number.number) c.widths.ensures) in
    subst (λ ys. AreResidues ws ys) (sym e) (residues_fit ws c.loop-number.number)

pub returns-then-number_with-eq1-clause-first : goal.returns-then-number_with-eq1-clause-first
returns-then-number_with-eq1-clause-first c _ =
    let s = c.args.terms.now in
    let ws = s.inputs in
    let n = c.loop-number.number in
    let e = c.in_ok-put_residues.ensures ∙ ap (λ ys. residues_at ys n) c.widths.ensures in
    record {
      residues = subst (λ ys. AreResidues ws ys) (sym e) (residues_fit ws n);
      one = subst (λ ys. number_at s ys c.args.goal.0 ≡ 1) c.deref.ensures.value (sym c.number_with.ensures.is ∙ c.if-number_with-eq1.true);
      first = λ qs h b is.
          let lt = number_before ws qs n h (subst (λ ys. IsBefore qs ys) e b) in
          c.loop-number.invariant.none (number_of ws qs) lt (ap (λ ys. number_at s ys c.args.goal.0) (number_itself ws qs h) ∙ is);
    }

pub returns-clause-none : goal.returns-clause-none
returns-clause-none c _ rs h is =
    let s = c.args.terms.now in
    let ws = s.inputs in
    let below = number_below ws rs h in
    let bits : c.input_bits-bits.result ≡ bits_in ws = c.input_bits-bits.ensures.few c.requires.few in
    let end : 2 ^ bits_in ws ≤ c.loop-number.number = subst (λ b. 2 ^ b ≤ c.loop-number.number) bits (omega (arith, c.count_of-number-end.ensures, c.loop-number-test.false)) in
    c.loop-number.invariant.none (number_of ws rs) (omega (arith, below, end)) (ap (λ ys. number_at s ys c.args.goal.0) (number_itself ws rs h) ∙ is)
