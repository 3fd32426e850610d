use Rattle.std.proofs.Common.{◌≤◌, ◌^◌, ap, map, subst, ◌∙◌}
use Rattle.stk_tree.specs.View.{view_function}
use Rattle.stk_function_types.specs.Nodes.{typing_in}
use Rattle.stk_function_env.specs.Infos.{info_in}
use Rattle.stk_function_env.specs.Settings.{FunctionPlaces}
use Rattle.stk_hits.specs.InputMaps.{bits_in}
use Rattle.stk_hits.specs.PathSubjects.{kinds_of}
use Rattle.stk_hits.specs.PathTables.{IsTableOf}
use Rattle.stk_judge.proofs.Finding.{few_bits}
use Rattle.stk_judge.proofs.tried.TriedMaps.new.Goals as goal

pub table_of-requires-clause-few : goal.table_of-requires-clause-few
table_of-requires-clause-few c = few_bits c.as_slice.result.now (map info_in c.keys.result.now) c.args.tables.now.places.keys (c.as_slice.ensures.value ∙ c.in_ok-kinds.ensures) (c.keys.ensures ∙ ap (λ (p : FunctionPlaces). p.keys) c.setting.ensures) c.requires.few

pub returns : goal.returns
returns c =
    let p = c.args.tables.now.places in
    let f = view_function c.args.function.now in
    let own = c.keys.ensures ∙ ap (λ (x : FunctionPlaces). x.keys) c.setting.ensures in
    record {
      kinds = c.in_ok-kinds.ensures ∙ ap kinds_of (own ∙ c.requires.tables.keys);
      few = few_bits c.in_ok-kinds.kinds.items (map info_in c.keys.result.now) p.keys c.in_ok-kinds.ensures own c.requires.few;
      table = subst (λ ks. IsTableOf (typing_in p.types) p.without f (2 ^ bits_in ks) c.in_ok-table.table) c.as_slice.ensures.value c.in_ok-table.ensures;
    }
