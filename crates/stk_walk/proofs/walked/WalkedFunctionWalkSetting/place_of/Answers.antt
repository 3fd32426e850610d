use Rattle.std.proofs.Common.{◌∙◌, ◌<◌, length, Some, None, sym, arith}
use Rattle.stk_walking.specs.Keyed.{key_shown}
use Rattle.stk_walk.proofs.Found.{place_within, kind_found, number_found}
use Rattle.stk_walk.proofs.walked.WalkedFunctionWalkSetting.place_of.Goals as goal

pub overflow_cast-result : goal.overflow_cast-result
overflow_cast-result g c =
    let keys = g.T.TableSetting.keys c.args.self.now.path.now in
    let within : c.in-Some.place < length keys = place_within (key_shown c.args.key) keys c.in-Some.place (sym c.place.ensures ∙ c.in-Some.is) in
    omega (arith, within, c.args.self.now.few)

pub returns-in-None-clause-number : goal.returns-in-None-clause-number
returns-in-None-clause-number g c = λ m.
    number_found (key_shown c.args.key) (g.T.TableSetting.keys c.args.self.now.path.now) None m (sym c.place.ensures ∙ c.in-None.is)

pub returns-in-Some-clause-number : goal.returns-in-Some-clause-number
returns-in-Some-clause-number g c = λ m.
    number_found (key_shown c.args.key) (g.T.TableSetting.keys c.args.self.now.path.now) (Some c.in-Some.place) m (sym c.place.ensures ∙ c.in-Some.is)

pub returns-in-Some-clause-kind : goal.returns-in-Some-clause-kind
returns-in-Some-clause-kind g c =
    let path = c.args.self.now.path.now in
    kind_found (g.T.RunSetting.setting path) (key_shown c.args.key) (g.T.TableSetting.keys path) c.in-Some.place c.args.self.now.kinded (sym c.place.ensures ∙ c.in-Some.is)
