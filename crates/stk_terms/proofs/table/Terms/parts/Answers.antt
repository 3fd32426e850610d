use Rattle.std.proofs.Common.{subst}
use Rattle.stk_terms.specs.Fitting.{IsSound}
use Rattle.stk_terms.proofs.Parting.{told, reached, part_below}
use Rattle.stk_terms.proofs.table.Terms.parts.Goals as goal

pub returns-in_err-marks-clause-all : goal.returns-in_err-marks-clause-all
returns-in_err-marks-clause-all c = λ j p. let sound = subst IsSound c.self.view_is (record { widths_are = c.self.invariant.widths_are; fit = c.self.invariant.fit }) in (part_below c.args.self.now sound j c.args.id.0 p c.requires, told c.args.self.now sound c.args.id.0 j c.requires p)

pub returns-in_err-marks-clause-only : goal.returns-in_err-marks-clause-only
returns-in_err-marks-clause-only c = λ j h. reached c.args.id.0 c.args.self.now c.args.id.0 j h

pub returns-clause-all : goal.returns-clause-all
returns-clause-all c = λ j p. let sound = subst IsSound c.self.view_is (record { widths_are = c.self.invariant.widths_are; fit = c.self.invariant.fit }) in (part_below c.args.self.now sound j c.args.id.0 p c.requires, told c.args.self.now sound c.args.id.0 j c.requires p)

pub returns-clause-only : goal.returns-clause-only
returns-clause-only c = λ j h. reached c.args.id.0 c.args.self.now c.args.id.0 j h
