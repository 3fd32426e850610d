use Rattle.std.proofs.Common.{sym, subst}
use Rattle.stk_records.specs.declared.options.ConditionSet.TheVariants as set
use Rattle.stk_records.specs.declared.items.Form.{Form}
use Rattle.stk_records.specs.Words.{IsText}
use Rattle.stk_records.proofs.Forms.{script_found}
use Rattle.stk_records.proofs.items.text_item.Goals as goal

pub returns-in-Smt : goal.returns-in-Smt
returns-in-Smt c = script_found c.args.form set.All c.args.text.now c.script_in.result (λ x t. subst (λ (f : Form). IsText f c.args.text.now x) c.in-Smt.is t) (λ x t. subst (λ (f : Form). IsText f c.args.text.now x) (sym c.in-Smt.is) t) c.script_in.ensures

pub returns-in-SmtHit : goal.returns-in-SmtHit
returns-in-SmtHit c = script_found c.args.form set.Empty c.args.text.now c.script_in-in-SmtHit.result (λ x t. subst (λ (f : Form). IsText f c.args.text.now x) c.in-SmtHit.is t) (λ x t. subst (λ (f : Form). IsText f c.args.text.now x) (sym c.in-SmtHit.is) t) c.script_in-in-SmtHit.ensures
