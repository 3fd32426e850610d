use Rattle.std.proofs.Common.{map, ap, ◌∙◌, ◌++◌}
use Rattle.stk_tree.specs.View.{view_function, view_parameter, parameters}
use Rattle.stk_function_types.specs.Nodes.{typing_in}
use Rattle.stk_function_types.specs.Visits.{marked_visit}
use Rattle.stk_function_types.specs.Gathered.{gathered}
use Rattle.stk_spelling.specs.Named.{parameters_named, visit_named}
use Rattle.stk_spelling.proofs.Naming.{names_made}
use Rattle.stk_spelling.proofs.names.names_of.Goals as goal

pub returns : goal.returns
returns c =
    let ps = parameters (map view_parameter c.parameters.result.now) in
    names_made (typing_in c.args.types.now) (view_function c.args.f.now) ps (map marked_visit c.in_ok-visits.visits.items) c.parameters_named.new.out.items c.visits_named.new.out.items c.parameters.ensures c.in_ok-visits.ensures
    (c.in_ok-parameters_named.ensures ∙ ap (λ xs. xs ++ parameters_named ps) c.new-out.ensures.items)
    (c.in_ok-visits_named.ensures ∙ ap (λ ms. c.parameters_named.new.out.items ++ gathered visit_named (map marked_visit ms)) c.as_slice.ensures.value)
