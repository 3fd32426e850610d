use Rattle.std.proofs.Common.{◌≤◌, map, sym, ap, subst, ◌∙◌}
use Rattle.stk_tree.specs.View.{view_function, view_unit}
use Rattle.stk_meaning.specs.Keys.{keys_of, setting_of, function_visits}
use Rattle.stk_meaning.specs.Lists.{candidates, conditions}
use Rattle.stk_meaning.specs.Weights.{weight, most_weight}
use Rattle.stk_run_laws.specs.Visits.{EachVisit}
use Rattle.stk_run_laws.specs.TypedTree.{IsTypedTree}
use Rattle.stk_kinded.specs.KindedStatements.{KindedFunction}
use Rattle.stk_type_laws.specs.Bits.{VisitHasBits}
use Rattle.stk_function_types.specs.Units.{TypedUnit}
use Rattle.stk_function_types.specs.Nodes.{typing_in}
use Rattle.stk_function_env.specs.Settings.{FunctionPlaces}
use Rattle.stk_findings.specs.Searched.{searched_subject}
use Rattle.stk_spelling.specs.Placed.{placed_in}
use Rattle.stk_spelling.specs.Texts.{key_text}
use Rattle.stk_unit_lines.specs.Parts.{IsJudged, AreFindingLines}
use Rattle.stk_units.proofs.Measures.{tables_of}
use Rattle.stk_unit_lines.proofs.Judging.{findings_there, judged_by}
use Rattle.stk_unit_lines.proofs.Taking.{wrote_weaker, stopped_weaker}
use Rattle.stk_unit_lines.proofs.functions.write_judged.Goals as goal

pub write_searched-requires-clause-searched : goal.write_searched-requires-clause-searched
write_searched-requires-clause-searched g c =
    let f = view_function c.args.f.now in
    let p = c.args.setting.now in
    let e = c.in_ok-tables.ensures.places in
    record {
      typed = record {
        typed = subst (λ (x : FunctionPlaces). IsTypedTree (typing_in x.types) x.without f) (sym e) c.requires.typed.typed;
        kinded = subst (λ (x : FunctionPlaces). KindedFunction (setting_of (typing_in x.types) x.without f) f) (sym e) c.requires.typed.kinded;
        bits = subst (λ (x : FunctionPlaces). EachVisit (VisitHasBits (typing_in x.types)) (function_visits (typing_in x.types) f)) (sym e) c.requires.typed.bits;
        tables = tables_of f c.in_ok-tables.tables p e c.requires.of (c.in_ok-tables.ensures.loops c.requires.numbered);
        light = subst (λ (x : FunctionPlaces). weight (typing_in x.types) x.without f ≤ most_weight) (sym e) c.requires.light;
      };
      candidates = c.as_slice-2.ensures.value ∙ c.in_ok-list.ensures ∙ ap (λ (t : TypedUnit). candidates (typing_in t) f) c.types-types.ensures ∙ ap (λ (x : FunctionPlaces). candidates (typing_in x.types) f) (sym e);
      conditions = c.as_slice-3.ensures.value ∙ c.in_ok-all.ensures ∙ (λ i. conditions (typing_in (c.types-types.ensures i)) (c.without.ensures i) f) ∙ ap (λ (x : FunctionPlaces). conditions (typing_in x.types) x.without f) (sym e);
      least = c.requires.least;
      most = c.requires.most;
    }

pub returns-clause-written : goal.returns-clause-written
returns-clause-written g c =
    let f = view_function c.args.f.now in
    let p = c.args.setting.now in
    let q = c.in_ok-tables.tables.places in
    let t = c.types-types.result.now in
    let o = c.args.file.now.options in
    let cs = c.as_slice-2.result.now in
    let keys = c.as_slice-5.result.now in
    let names = c.as_slice.ensures.value ∙ c.in_ok-names.ensures in
    let infos = c.keys.ensures ∙ c.requires.of.keys ∙ ap (λ (x : TypedUnit). keys_of (typing_in x) p.without f) (sym c.types-types.ensures) in
    let spelled = c.as_slice-5.ensures.value ∙ c.in_ok-keys.ensures ∙ (λ i. map (key_text (placed_in t) (names i)) (infos i)) in
    wrote_weaker (AreFindingLines (searched_subject (typing_in q.types) q.without f o.budget) (placed_in t) (typing_in t) f keys cs) (IsJudged p.types.bytes p.without o.budget p.types.entries (view_unit p.types.unit) f) o (g.K.Sink.taken c.args.out.now) (g.K.Sink.taken c.write_searched.new.out)
    (judged_by f p q t o.budget cs c.in_ok-tables.ensures.places c.requires.typed.typed keys c.types-types.ensures (c.as_slice-2.ensures.value ∙ c.in_ok-list.ensures) spelled) _ _ c.write_searched.result c.write_searched.ensures.written

pub returns-clause-stopped : goal.returns-clause-stopped
returns-clause-stopped g c =
    let f = view_function c.args.f.now in
    let p = c.args.setting.now in
    let q = c.in_ok-tables.tables.places in
    let t = c.types-types.result.now in
    let o = c.args.file.now.options in
    let cs = c.as_slice-2.result.now in
    let keys = c.as_slice-5.result.now in
    let names = c.as_slice.ensures.value ∙ c.in_ok-names.ensures in
    let infos = c.keys.ensures ∙ c.requires.of.keys ∙ ap (λ (x : TypedUnit). keys_of (typing_in x) p.without f) (sym c.types-types.ensures) in
    let spelled = c.as_slice-5.ensures.value ∙ c.in_ok-keys.ensures ∙ (λ i. map (key_text (placed_in t) (names i)) (infos i)) in
    let there = findings_there f p q t o.budget cs c.in_ok-tables.ensures.places c.requires.typed.typed in
    stopped_weaker (AreFindingLines (searched_subject (typing_in q.types) q.without f o.budget) (placed_in t) (typing_in t) f keys cs) (IsJudged p.types.bytes p.without o.budget p.types.entries (view_unit p.types.unit) f) o (g.K.Sink.taken c.args.out.now) (g.K.Sink.taken c.write_searched.new.out)
    (judged_by f p q t o.budget cs c.in_ok-tables.ensures.places c.requires.typed.typed keys c.types-types.ensures (c.as_slice-2.ensures.value ∙ c.in_ok-list.ensures) spelled) c.write_searched.result (c.write_searched.ensures.stopped there.0 there.1)
