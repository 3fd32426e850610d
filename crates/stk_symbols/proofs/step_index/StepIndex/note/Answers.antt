use Rattle.std.proofs.Common.{refl, ap}
use Rattle.stk_symbols.specs.declared.step_index.StepIndex.{StepIndex}
use Rattle.stk_symbols.specs.Matters.{event_in}
use Rattle.stk_symbols.proofs.Chained.{noted_violation, noted_hit}
use Rattle.stk_symbols.proofs.step_index.StepIndex.note.Goals as goal

pub returns-in_ok-before-in-Violation-clause-last : goal.returns-in_ok-before-in-Violation-clause-last
returns-in_ok-before-in-Violation-clause-last c events h there =
    let now : StepIndex = record c.args.self.now { violations = c.insert.new.self } in
    noted_violation c.args.self.now now events (event_in c.args.event) c.in-Violation.condition c.key_of.result c.args.place (ap event_in c.in-Violation.is) c.key_of.ensures c.in_ok-before-in-Violation.ensures.updates.0 refl h there

pub returns-in_ok-before-in-Hit-clause-last : goal.returns-in_ok-before-in-Hit-clause-last
returns-in_ok-before-in-Hit-clause-last c events h there =
    let now : StepIndex = record c.args.self.now { hits = c.insert-in-Hit.new.self } in
    noted_hit c.args.self.now now events (event_in c.args.event) c.in-Hit.position c.args.place (ap event_in c.in-Hit.is) c.in_ok-before-in-Hit.ensures.updates.0 refl h there
