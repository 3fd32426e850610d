use Rattle.std.proofs.Common.{sym, ap, ◌∙◌}
use Rattle.stk_tree.specs.View.{view_function}
use Rattle.stk_meaning.specs.Lists.{candidates, conditions}
use Rattle.stk_function_types.specs.Units.{TypedUnit}
use Rattle.stk_function_types.specs.Nodes.{typing_in}
use Rattle.stk_function_env.specs.Settings.{FunctionPlaces}
use Rattle.stk_claims.proofs.Made.{kinds_made}
use Rattle.stk_findings.proofs.Searched.{typed_functions_are_searched}
use Rattle.stk_bundles.proofs.Whole.{typed_function, function_written, function_stopped}
use Rattle.stk_bundles.proofs.functions.write_function.Goals as goal

pub write_searched-requires-clause-kinds : goal.write_searched-requires-clause-kinds
write_searched-requires-clause-kinds g c =
    let f = view_function c.args.f.now in
    let p = c.args.setting.now in
    let t = c.in_ok-tables.tables in
    let r = c.requires in
    let known = typed_function f t p c.in_ok-tables.ensures.places r.of (c.in_ok-tables.ensures.loops r.numbered) r.typed r.light in
    c.as_slice-3.ensures.value ∙ kinds_made t f (typed_functions_are_searched t f known) c.keys.result.now c.in_ok-kinds.kinds.items (c.keys.ensures ∙ ap (λ (x : FunctionPlaces). x.keys) (sym c.in_ok-tables.ensures.places)) c.in_ok-kinds.ensures

pub write_searched-requires-clause-searched : goal.write_searched-requires-clause-searched
write_searched-requires-clause-searched g c =
    let f = view_function c.args.f.now in
    let p = c.args.setting.now in
    let e = c.in_ok-tables.ensures.places in
    let r = c.requires in
    record {
      typed = typed_function f c.in_ok-tables.tables p e r.of (c.in_ok-tables.ensures.loops r.numbered) r.typed r.light;
      candidates = c.as_slice.ensures.value ∙ c.in_ok-list.ensures ∙ ap (λ (t : TypedUnit). candidates (typing_in t) f) c.types-types.ensures ∙ ap (λ (x : FunctionPlaces). candidates (typing_in x.types) f) (sym e);
      conditions = c.as_slice-2.ensures.value ∙ c.in_ok-all.ensures ∙ (λ i. conditions (typing_in (c.types-types.ensures i)) (c.without.ensures i) f) ∙ ap (λ (x : FunctionPlaces). conditions (typing_in x.types) x.without f) (sym e);
      least = r.least;
      most = r.most;
    }

pub returns-clause-written : goal.returns-clause-written
returns-clause-written g c =
    let f = view_function c.args.f.now in
    let p = c.args.setting.now in
    let q = c.in_ok-tables.tables.places in
    let o = c.args.options in
    let listed = c.as_slice.ensures.value ∙ c.in_ok-list.ensures ∙ ap (λ (t : TypedUnit). candidates (typing_in t) f) c.types-types.ensures in
    function_written f p q o.budget o.at c.as_slice.result.now (g.K.Sink.taken c.args.out.now) (g.K.Sink.taken c.write_searched.new.out) c.in_ok-tables.ensures.places c.requires.typed.typed listed c.write_searched.result _ _ c.write_searched.ensures.written

pub returns-clause-stopped : goal.returns-clause-stopped
returns-clause-stopped g c =
    let f = view_function c.args.f.now in
    let p = c.args.setting.now in
    let q = c.in_ok-tables.tables.places in
    let o = c.args.options in
    let listed = c.as_slice.ensures.value ∙ c.in_ok-list.ensures ∙ ap (λ (t : TypedUnit). candidates (typing_in t) f) c.types-types.ensures in
    function_stopped f p q o.budget o.at c.as_slice.result.now (g.K.Sink.taken c.args.out.now) (g.K.Sink.taken c.write_searched.new.out) c.in_ok-tables.ensures.places c.requires.typed.typed listed c.write_searched.result c.write_searched.ensures.stopped
