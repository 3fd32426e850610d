use Rattle.std.proofs.Common.{map, ap, ◌∙◌}
use Rattle.stk_tree.specs.View.{view_function, view_parameter, parameters}
use Rattle.stk_function_types.specs.Nodes.{typing_in}
use Rattle.stk_function_types.specs.Visits.{marked_visit}
use Rattle.stk_function_env.specs.Infos.{info_in}
use Rattle.stk_function_env.specs.Listed.{keys_kept}
use Rattle.stk_function_env.proofs.Made.{made}
use Rattle.stk_function_env.proofs.setting.Setting.new.Goals as goal

pub returns-clause-setting : goal.returns-clause-setting
returns-clause-setting c =
    let e = c.in_ok-first.ensures in
    (made c.args.types.now c.args.without (view_function c.args.f.now) (parameters (map view_parameter c.parameters-list.result.now)) (map marked_visit c.as_slice-visits.result.now) c.in_ok-first.first c.with_keys.result (map info_in c.in_ok-keys.keys.items) c.in_ok-kept.kept.items c.first_few.result.items c.parameters-list.ensures (ap (map marked_visit) c.as_slice-visits.ensures.value ∙ c.in_ok-all.ensures) (record { types = e.0; without = e.1; registers = e.2; mentions = e.3; kept = e.4 }) c.in_ok-keys.ensures (c.in_ok-kept.ensures ∙ ap (λ ks. keys_kept (typing_in c.args.types.now) (map info_in ks)) c.as_slice.ensures.value) c.first_few.ensures.is c.with_keys.ensures).setting

pub returns-clause-keys : goal.returns-clause-keys
returns-clause-keys c =
    let e = c.in_ok-first.ensures in
    (made c.args.types.now c.args.without (view_function c.args.f.now) (parameters (map view_parameter c.parameters-list.result.now)) (map marked_visit c.as_slice-visits.result.now) c.in_ok-first.first c.with_keys.result (map info_in c.in_ok-keys.keys.items) c.in_ok-kept.kept.items c.first_few.result.items c.parameters-list.ensures (ap (map marked_visit) c.as_slice-visits.ensures.value ∙ c.in_ok-all.ensures) (record { types = e.0; without = e.1; registers = e.2; mentions = e.3; kept = e.4 }) c.in_ok-keys.ensures (c.in_ok-kept.ensures ∙ ap (λ ks. keys_kept (typing_in c.args.types.now) (map info_in ks)) c.as_slice.ensures.value) c.first_few.ensures.is c.with_keys.ensures).keys
