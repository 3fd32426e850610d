use Rattle.std.proofs.Common.{◌≡◌, Err, ap, rules}
use Rattle.stk_type_rules.specs.Facts.{Fact, fact_of}
use Rattle.stk_declare.proofs.Answering.{refused_same, weaker}
use Rattle.stk_declare.proofs.Views.{view_base_node}
use Rattle.stk_declare.proofs.structs.named_base.Goals as goal

pub returns-in_err-fact-clause-gives : goal.returns-in_err-fact-clause-gives
returns-in_err-fact-clause-gives c = let same : c.from_residual.result ≡ Err c.in_err-fact.field-0.0 = search rules in rw (same, view_base_node c.args.b.now) (refused_same (λ x v. fact_of v ≡ x) _ _ _ (c.in_err-fact.ensures.fact _ c.base_rule.ensures.fact))

pub returns-clause-gives : goal.returns-clause-gives
returns-clause-gives c = rw (view_base_node c.args.b.now) (weaker (λ x v. fact_of v ≡ x) _ _ c.in_ok-fact.fact _ (λ x is. ap (λ (f : Fact). f.ty) is) (c.in_ok-fact.ensures.fact _ c.base_rule.ensures.fact))
