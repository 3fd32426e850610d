use Rattle.std.proofs.Common.{sym, ◌∙◌}
use Rattle.stk_meaning.specs.Typings.{is_array, stride_in}
use Rattle.stk_walk_values.proofs.Indexing.{bounds_are, bounds_charged, moves_are, moves_charged}
use Rattle.stk_walk_values.proofs.steps.index_tests.Goals as goal

pub returns-in-Some-clause-is : goal.returns-in-Some-clause-is
returns-in-Some-clause-is g c = bounds_are c.index_node_tests-asked.result c.in-Some.count (sym c.bounds_in.ensures ∙ c.in-Some.is) ∙ c.index_node_tests-asked.ensures

pub returns-in-Some-clause-charge : goal.returns-in-Some-clause-charge
returns-in-Some-clause-charge g c =
    let ty = (g.O.RunSetting.setting c.args.out.now).typing in
    λ a b. bounds_charged c.in-Some.count a b (stride_in ty (ty.type_at c.args.at))

pub returns-in-None-clause-is : goal.returns-in-None-clause-is
returns-in-None-clause-is g c =
    let ty = (g.O.RunSetting.setting c.args.out.now).typing in
    let t = ty.type_at c.args.at in
    rw (c.moved_tests.ensures, c.is_array_at-is_array.ensures, c.stride_at-size.ensures) (moves_are c.index_node_tests-asked.result (sym c.bounds_in.ensures ∙ c.in-None.is) c.args.accessed t (stride_in ty t) c.index_node_tests-asked.ensures)

pub returns-in-None-clause-charge : goal.returns-in-None-clause-charge
returns-in-None-clause-charge g c =
    let ty = (g.O.RunSetting.setting c.args.out.now).typing in
    let t = ty.type_at c.args.at in
    rw (c.moved_tests.ensures, c.is_array_at-is_array.ensures, c.stride_at-size.ensures) (λ a b. moves_charged c.args.accessed (is_array t) (stride_in ty t) a b)
