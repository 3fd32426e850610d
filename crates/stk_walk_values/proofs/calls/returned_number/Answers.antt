use Rattle.std.proofs.lemmas.Result.{IfOk-weaker}
use Rattle.std.specs.Option.{option_map}
use Rattle.stk_tree.specs.View.{view_expression}
use Rattle.stk_meaning.specs.Typings.{number_kind}
use Rattle.stk_meaning.specs.Libraries.{called_signature, result_in}
use Rattle.stk_operators.specs.Shown.{library_shown}
use Rattle.stk_walk_values.proofs.Calling.{called_kind}
use Rattle.stk_walk_values.proofs.calls.returned_number.Goals as goal

pub library_number-requires-clause-value : goal.library_number-requires-clause-value
library_number-requires-clause-value g c =
    let G = g.O.RunSetting.setting c.args.out.now in
    let whole = called_kind G.typing (view_expression c.args.callee.now) (option_map library_shown c.args.library) (number_kind (G.typing.type_at c.args.node)) c.requires.library c.requires.kinded in
    rw c.in-Some.is at whole

pub returns-in-None-clause-follows : goal.returns-in-None-clause-follows
returns-in-None-clause-follows g c = rw c.in-None.is (IfOk-weaker c.outside_number.result _ _ (λ v h. λ xs m s served at. h xs m s served.0 at) c.outside_number.ensures.follows)

pub returns-in-Some-clause-follows : goal.returns-in-Some-clause-follows
returns-in-Some-clause-follows g c =
    let t = result_in (called_signature (g.O.RunSetting.setting c.args.out.now).typing (view_expression c.args.callee.now)) in
    rw c.in-Some.is (IfOk-weaker c.library_number.result _ _ (λ v h. h t) c.library_number.ensures.follows)

pub returns-in-None-clause-cost : goal.returns-in-None-clause-cost
returns-in-None-clause-cost g c = rw c.in-None.is c.outside_number.ensures.cost

pub returns-in-Some-clause-cost : goal.returns-in-Some-clause-cost
returns-in-Some-clause-cost g c = rw c.in-Some.is c.library_number.ensures.cost
