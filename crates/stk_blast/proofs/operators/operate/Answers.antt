use Rattle.std.proofs.Common.{◌≡◌, ℕ, Bool, length, sym, ap, ◌∙◌}
use Rattle.std.proofs.lemmas.Result.{IfOk-weaker}
use Rattle.stk_gates.specs.Tables.{Table, Obeys}
use Rattle.stk_arith.specs.Rows.{number}
use Rattle.stk_terms.specs.Values.{number_by}
use Rattle.stk_blast.specs.Inputs.{residues_of}
use Rattle.stk_blast.proofs.operators.operate.Goals as goal

pub returns-in-Constant-clause-value : goal.returns-in-Constant-clause-value
returns-in-Constant-clause-value c =
    let a = c.args in
    IfOk-weaker c.number_row.result (λ r. (t : Table) (values : ℕ → Bool) → Obeys t values → number values r ≡ c.in-Constant.value) _
    (λ r f values o. f a.gates.now values o ∙ sym (ap (λ op. number_by (residues_of a.inputs.now values) op (length a.x.now) (length a.y.now) (number values a.x.now) (number values a.y.now) (number values a.z.now)) c.in-Constant.is))
    c.number_row.ensures.value

pub returns-in-ZeroExt-clause-value : goal.returns-in-ZeroExt-clause-value
returns-in-ZeroExt-clause-value c =
    let a = c.args in
    IfOk-weaker c.zero_extended.result (λ r. (t : Table) (values : ℕ → Bool) → Obeys t values → number values r ≡ number values a.x.now) _
    (λ r f values o. f a.gates.now values o ∙ sym (ap (λ op. number_by (residues_of a.inputs.now values) op (length a.x.now) (length a.y.now) (number values a.x.now) (number values a.y.now) (number values a.z.now)) c.in-ZeroExt.is))
    c.zero_extended.ensures.value
