use Rattle.std.proofs.Common.{[], ◌∷◌, sym, subst}
use Rattle.stk_terms.specs.declared.term.TermOp.TheVariants.{Ite}
use Rattle.stk_rewrite.proofs.Built.{chosen_built, chosen_left}
use Rattle.stk_rewrite.proofs.Normals.{still_normal}
use Rattle.stk_rewrite.specs.Normal.{AreNormal}
use Rattle.stk_terms.specs.Terms.{term_of}
use Rattle.stk_rewrite.proofs.building.chosen.Goals as goal

pub returns-clause-built : goal.returns-clause-built
returns-clause-built c = chosen_built c.args.terms.now c.make.new.self c.requires.sound c.make.ensures.keeps c.in_ok-v.v.0 c.args.t c.args.a c.args.b c.requires.can c.in_ok-v.ensures.made c.in_ok-v.ensures.wide c.in_ok-v.ensures.value

pub returns-clause-normal : goal.returns-clause-normal
returns-clause-normal c = λ all. still_normal c.args.terms.now c.make.new.self c.requires.sound c.make.ensures.keeps (term_of Ite (c.args.t ∷ c.args.a ∷ c.args.b ∷ [])) c.in_ok-v.ensures.adds all (λ v st. chosen_left c.args.terms.now c.make.new.self c.requires.sound c.make.ensures.keeps v c.args.t c.args.a c.args.b c.requires.can st)

pub returns-in_err-v-clause-normal : goal.returns-in_err-v-clause-normal
returns-in_err-v-clause-normal c = λ all. subst AreNormal (sym c.in_err-v.ensures.err) all
