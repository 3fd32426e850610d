use Rattle.std.proofs.Common.{[], sym, subst}
use Rattle.stk_terms.specs.declared.term.TermOp.TheVariants.{Constant}
use Rattle.stk_rewrite.proofs.Built.{number_built, number_left}
use Rattle.stk_rewrite.proofs.Normals.{still_normal}
use Rattle.stk_rewrite.specs.Normal.{AreNormal}
use Rattle.stk_terms.specs.Terms.{term_of}
use Rattle.stk_terms.proofs.Older.{got}
use Rattle.stk_rewrite.proofs.building.constant.Goals as goal

pub returns-clause-built : goal.returns-clause-built
returns-clause-built c = number_built c.args.terms.now c.make.new.self c.requires.sound c.make.ensures.keeps c.in_ok-v.v.0 c.args.width c.args.number c.in_ok-v.ensures.made c.in_ok-v.ensures.wide c.in_ok-v.ensures.value

pub returns-clause-stands : goal.returns-clause-stands
returns-clause-stands c = got c.make.new.self.terms c.in_ok-v.v.0 _ _ c.in_ok-v.ensures.made

pub returns-clause-normal : goal.returns-clause-normal
returns-clause-normal c = λ all. still_normal c.args.terms.now c.make.new.self c.requires.sound c.make.ensures.keeps (term_of (Constant c.args.width c.args.number) []) c.in_ok-v.ensures.adds all (λ v st. number_left c.args.terms.now c.make.new.self c.requires.sound c.make.ensures.keeps v c.args.width c.args.number st)

pub returns-in_err-v-clause-normal : goal.returns-in_err-v-clause-normal
returns-in_err-v-clause-normal c = λ all. subst AreNormal (sym c.in_err-v.ensures.err) all
