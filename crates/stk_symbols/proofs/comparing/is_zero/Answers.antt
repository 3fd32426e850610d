use Rattle.std.proofs.Common.{◌≡◌, ℕ, Bool, true, false, nat_eq, refl, sym, ◌∙◌, arith}
use Rattle.std.proofs.lemmas.Bool.Decides.{nat_tests}
use Rattle.std.specs.Bool.{OnTrue}
use Rattle.stk_terms.specs.declared.term.TermOp.TheVariants.{Constant}
use Rattle.stk_terms.proofs.Reading.{there, no_args}
use Rattle.stk_symbols.specs.Valued.{IsZero}
use Rattle.stk_symbols.proofs.comparing.is_zero.Goals as goal

on_zero : (n : ℕ) (P : Type 0) → (n ≡ 0 → P) → OnTrue (nat_eq n 0) P
on_zero n P f = by (nat_eq n 0) refl
  where
    by : (t : Bool) → nat_eq n 0 ≡ t → OnTrue t P
    by true e = f (grind (arith, nat_tests))
    by false e = tt

pub returns-in-Constant : goal.returns-in-Constant
returns-in-Constant c =
    let s = c.args.terms.now in
    let i = c.args.id.0 in
    let o = sym (c.op.ensures _ (there s c.requires.sound i c.requires.exists)) ∙ c.in-Constant.is in
    let l = no_args s c.requires.sound i c.requires.exists (Constant c.in-Constant.field-0 c.in-Constant.number) o refl in
    on_zero c.in-Constant.number (IsZero s i) (λ e residues. l.value residues ∙ e)
