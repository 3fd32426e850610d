use Rattle.std.proofs.Common.{[], sym, subst, ap}
use Rattle.stk_terms.specs.declared.term.TermOp.TheVariants.{Input}
use Rattle.stk_terms.specs.Terms.{term_of}
use Rattle.stk_terms.specs.Values.{Bits}
use Rattle.stk_rewrite.specs.Normal.{AreNormal}
use Rattle.stk_rewrite.proofs.Normals.{still_normal}
use Rattle.stk_rewrite.proofs.Built.{exists_at, input_left}
use Rattle.stk_rewrite.proofs.making.normal_input.Goals as goal

pub returns-clause-exists : goal.returns-clause-exists
returns-clause-exists c = exists_at c.make.new.self.terms c.in_ok-v.v.0 _ c.in_ok-v.ensures.made

pub returns-clause-value : goal.returns-clause-value
returns-clause-value c = λ r. ap (λ (b : Bits). b.number) (c.in_ok-v.ensures.value r)

pub returns-clause-normal : goal.returns-clause-normal
returns-clause-normal c = still_normal c.args.terms.now c.make.new.self c.count-count.ensures.sound c.make.ensures.keeps (term_of (Input c.args.key) []) c.in_ok-v.ensures.adds c.requires.normal (λ v st. input_left c.args.terms.now c.make.new.self c.count-count.ensures.sound c.make.ensures.keeps v c.args.key st)

pub returns-in_err-v-clause-normal : goal.returns-in_err-v-clause-normal
returns-in_err-v-clause-normal c = subst AreNormal (sym c.in_err-v.ensures.err) c.requires.normal
