use Rattle.std.proofs.Common.{◌≡◌, nat_eq, true, sym, ap, ◌∙◌, eqb-true, eq-eqb}
use Rattle.std.specs.Cmp.Lexicographic.{pointwise_decides}
use Rattle.stk_clauses.specs.declared.literal.Lit.{Lit}
use Rattle.stk_clauses.proofs.comparing.same_clause.Goals as goal

same_lit : (x y : Lit) → (nat_eq x.0 y.0 ≡ true → x ≡ y) × (x ≡ y → nat_eq x.0 y.0 ≡ true)
same_lit x y = (λ e. ap (λ n. record { 0 = n }) (eqb-true x.0 y.0 e), λ e. eq-eqb x.0 y.0 (ap (λ (l : Lit). l.0) e))

pub returns : goal.returns
returns c =
    let both = pointwise_decides same_lit c.args.a.now c.args.b.now in
    (λ e. both.0 (sym c.eq.ensures ∙ e), λ e. c.eq.ensures ∙ both.1 e)
