-- The bit in front of which a term has zeros.
use Rattle.std.proofs.Common.{◌≡◌, ℕ, ◌<◌, length, get_or, refl, sym, subst, ◌∙◌, arith}
use Rattle.stk_terms.specs.declared.term.TermOp.TheVariants.{ZeroExt}
use Rattle.stk_terms.specs.Terms.{Stored, term_at, child}
use Rattle.stk_terms.specs.Fitting.{IsSound}
use Rattle.stk_terms.specs.Values.{width_at}
use Rattle.stk_terms.proofs.Reading.{one_arg}
use Rattle.stk_symbols.specs.Valued.{IsBitOf}

pub extended_bit : (s : Stored) → IsSound s → (v w : ℕ) → v < length s.terms → (term_at s v).op ≡ ZeroExt w → width_at s (child s v 0) ≡ 1 → IsBitOf s v (child s v 0)
extended_bit s sound v w h e one =
    let p = one_arg s sound v h (ZeroExt w) e refl in
    record {
      term = record { exists_ = omega (arith, p.first, h); wide = one };
      same = p.value;
      reached = λ chosen closed c. closed.closed v 0 c (omega (arith, p.many));
    }
