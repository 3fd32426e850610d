use Rattle.std.proofs.Common.{◌≡◌, ◌∙◌, ◌++◌, ℕ, List, Bool, map, pos, replicate, length, None, refl, ap, sym, subst, ◌+◌, ◌*◌, ◌≤◌, arith}
use Rattle.stk_ctype.specs.declared.kind.IntKind.TheVariants.{Int}
use Rattle.stk_tree.specs.declared.statement.Stmt.{Stmt, out-Stmt}
use Rattle.stk_tree.specs.Syntax.{StmtTree}
use Rattle.stk_tree.specs.View.{view_statement}
use Rattle.stk_numbers.specs.declared.conditions.Candidate.{Candidate}
use Rattle.stk_meaning.specs.declared.entry.Entry.{Entry}
use Rattle.stk_meaning.specs.Typings.{statement_node, declarator_node}
use Rattle.stk_meaning.specs.Places.{Setting}
use Rattle.stk_meaning.specs.Worlds.{trace_of}
use Rattle.stk_meaning.specs.Statements.{statement_run}
use Rattle.stk_meaning.specs.Keys.{parameter_key, body_of, register_parameters, keys_of, kept_of, objects_of, setting_of}
use Rattle.stk_meaning.specs.Maps.{are_valid, addresses_in}
use Rattle.stk_meaning.specs.Paths.{InputMap, path_world, with_parameters, number_under, path}
use Rattle.stk_meaning.specs.Lists.{candidates}
use Rattle.stk_meaning.specs.Operations.{bit}
use Rattle.stk_exec_stmt.proofs.StatementViews.{view_node}
use Rattle.stk_run_laws.specs.Listed.{AreInOrder, CandidateBefore}
use Rattle.stk_run_laws.proofs.Lists.{candidates_in_order}
use Rattle.stk_run_laws.proofs.OnceLaws.{path_runs_are_listed}
use Rattle.stk_values.specs.declared.walked.Step.{Step}
use Rattle.stk_values.specs.Walks.{ListedEvent, EachTest, Says, event_of}
use Rattle.stk_walking.specs.declared.state.Event.{Event}
use Rattle.stk_walking.specs.declared.state.GuardedEvent.{GuardedEvent}
use Rattle.stk_walking.specs.Events.{Live, events_of, events_in}
use Rattle.stk_walking.specs.StatementEvents.{statement_events}
use Rattle.stk_walking.proofs.Carried.{keeps_then}
use Rattle.stk_event_laws.specs.Listed.{StandOnce}
use Rattle.stk_event_laws.specs.Positions.{listed_events, listed_event, listed_step}
use Rattle.stk_event_laws.proofs.EventLaws.{events_listed, events_once}
use Rattle.stk_event_laws.proofs.Places.{traces_listed}
use Rattle.stk_event_laws.proofs.Saying.{live_says}
use Rattle.stk_walk.specs.declared.objects.WalkObject.{WalkObject}
use Rattle.stk_walk.specs.Validity.{addresses_valid, walk_object, pairs_in}
use Rattle.stk_walk.specs.Starting.{started}
use Rattle.stk_walk.specs.Steps.{AreHitsIn}
use Rattle.stk_walk.proofs.ByPairs.{valid_by_pairs}
use Rattle.stk_walk.proofs.Once.{steps_once, steps_say}
use Rattle.stk_walk.proofs.Tracing.{trace_is, listed_hits, tests_made}
use Rattle.std.proofs.lemmas.List.{length-map}
use Rattle.stk_spending.specs.Statements.{statement_spent}
use Rattle.stk_walking.proofs.Costing.{plus, free_by, free_last}
use Rattle.stk_walk.proofs.Paired.{pairs_are, both_equal}
use Rattle.stk_walk.proofs.walking.walk.Goals as goal

node_is : (x : Stmt) → statement_node (view_statement x) ≡ (out-Stmt x).node.number
node_is x = ap statement_node (view_node x)

pub returns-clause-keeps : goal.returns-clause-keeps
returns-clause-keeps g c =
    let V = g.V.Values in
    keeps_then V.serves V.has_key V.made V.shows c.args.values.now c.addresses_valid.new.values c.walk_body.new.values c.in_ok-valid.ensures.keeps
    (keeps_then V.serves V.has_key V.made V.shows c.addresses_valid.new.values c.start.new.values c.walk_body.new.values c.in_ok-state.ensures.keeps c.in_ok-walk_body.ensures.keeps)

pub returns-clause-tests : goal.returns-clause-tests
returns-clause-tests g c =
    let made = g.V.Values.made c.walk_body.new.values in
    let slice = c.as_slice.ensures.value in
    let tests = c.in_ok-steps.ensures.tests ∙ ap (λ (xs : List (GuardedEvent g.row.V-Value.Denot)). map (λ x. x.test) xs) slice in (
      c.in_ok-walk_body.ensures.keeps.made_still _ _ (c.in_ok-state.ensures.keeps.made_still _ _ c.in_ok-valid.ensures.makes),
      subst (λ (ys : List (Step g.row.V-Value.Denot)). EachTest (made Int) ys) (sym c.from_vec.ensures) (tests_made made c.walk_body.new.state.steps.items c.in_ok-steps.steps.items tests c.in_ok-walk_body.ensures.made.steps),
    )

pub returns-clause-valid : goal.returns-clause-valid
returns-clause-valid g c = λ ty without f h m served.
    let shows = g.V.Values.shows in
    let under = g.O.WalkSetting.under c.args.out.now m in
    let os = c.args.parts.now.objects.now in
    let found = c.in_ok-walk_body.ensures.keeps.shown m _ _ _ (c.in_ok-state.ensures.keeps.shown m _ _ _ (c.in_ok-valid.ensures.value m served)) in
    let numbers = number_under (keys_of ty without f) m in
    let same : addresses_valid (addresses_in under) os ≡ are_valid (kept_of ty without f) (objects_of ty without f) (addresses_in numbers) =
    ap (λ (u : InputMap). addresses_valid (addresses_in u) os) (h.numbers m) ∙ ap (λ (xs : List WalkObject). addresses_valid (addresses_in numbers) xs) h.objects
    ∙ sym (valid_by_pairs (kept_of ty without f) (objects_of ty without f) (addresses_in numbers) h.distinct) in
    subst (λ (b : Bool). shows c.walk_body.new.values m Int c.in_ok-valid.valid (bit b)) same found

pub returns-clause-steps : goal.returns-clause-steps
returns-clause-steps g c = λ ty without f h m served.
    let now = g.V.Values.shows c.walk_body.new.values m in
    let G = g.O.RunSetting.setting c.args.out.now in
    let under = g.O.WalkSetting.under c.args.out.now m in
    let parts = c.args.parts.now in
    let body = view_statement parts.body.now in
    let numbers = number_under (keys_of ty without f) m in
    let steps = c.walk_body.new.state.steps.items in
    let trace = path ty without f m in
    let s0 = started parts.body.now.node.number parts.parameters.now (length parts.kept.now) (λ k. under (parameter_key k)) in
    let s1 = c.in_ok-valid.ensures.keeps.served m served in
    let s2 = c.in_ok-state.ensures.keeps.served m s1 in
    let e = c.in_ok-walk_body.ensures.follows m s0 s2 (c.in_ok-state.ensures.stands m s1) in
    let run : Setting → InputMap → StmtTree → List ℕ → List ℕ → List Entry = λ G U B P K. trace_of (statement_run G (path_world U) B (with_parameters P (λ k. U (parameter_key k)) (replicate (statement_node B) (pos 0))) (replicate (length K) None)) in
    let count : statement_node body ≡ parts.body.now.node.number = node_is parts.body.now in
    let begun : run G under body parts.parameters.now parts.kept.now ≡ trace_of (statement_run G (path_world under) body s0.numbers s0.kept) =
    ap (λ (n : ℕ). trace_of (statement_run G (path_world under) body (with_parameters parts.parameters.now (λ k. under (parameter_key k)) (replicate n (pos 0))) s0.kept)) count in
    let same : run G under body parts.parameters.now parts.kept.now ≡ trace =
    ap (λ x. run x under body parts.parameters.now parts.kept.now) h.setting ∙ ap (λ (x : InputMap). run (setting_of ty without f) x body parts.parameters.now parts.kept.now) (h.numbers m)
    ∙ ap (λ x. run (setting_of ty without f) numbers x parts.parameters.now parts.kept.now) h.body ∙ ap (λ (x : List ℕ). run (setting_of ty without f) numbers (body_of f) x parts.kept.now) h.parameters
    ∙ ap (λ (x : List ℕ). run (setting_of ty without f) numbers (body_of f) (map declarator_node (register_parameters ty f)) x) h.kept in
    let ended : e.standing.entries ≡ trace = trace_is (statement_run G (path_world under) body s0.numbers s0.kept) s0 e.standing e.flows refl refl ∙ sym begun ∙ same in
    let live = subst (λ (t : List Entry). Live (now Int) steps (events_of t)) ended e.stands.events in
    let says = live_says (now Int) parts.candidates.now steps (events_of trace) live in
    let order : AreInOrder CandidateBefore parts.candidates.now = subst (λ (xs : List Candidate). AreInOrder CandidateBefore xs) (sym h.candidates) (candidates_in_order ty f h.numbered) in
    let slice = c.as_slice.ensures.value in
    let events : events_in c.as_slice.result.now ≡ statement_events (setting_of ty without f) (body_of f) =
    ap (λ (xs : List (GuardedEvent g.row.V-Value.Denot)). events_in xs) slice ∙ c.in_ok-walk_body.ensures.events ∙ ap (λ (xs : List (GuardedEvent g.row.V-Value.Denot)). events_in xs ++ statement_events G body) c.in_ok-state.ensures.steps
    ∙ ap (λ x. statement_events x body) h.setting ∙ ap (λ x. statement_events (setting_of ty without f) x) h.body in
    let hits = subst (λ (xs : List Event). AreHitsIn (candidates ty f) xs) (sym events) (listed_hits ty without f (statement_events (setting_of ty without f) (body_of f)) (events_listed ty without f h.scalars)) in
    let inside = subst (λ (cs : List Candidate). AreHitsIn cs (events_in c.as_slice.result.now)) (sym h.candidates) hits in
    let are = c.in_ok-steps.ensures.are order inside ∙ ap (λ (xs : List (GuardedEvent g.row.V-Value.Denot)). map (λ x. listed_step parts.candidates.now x) xs) slice in
    let listed : map (listed_event parts.candidates.now) (events_of trace) ≡ listed_events (candidates ty f) trace =
    ap (λ (cs : List Candidate). map (listed_event cs) (events_of trace)) h.candidates ∙ sym (traces_listed ty without f h.numbered trace (path_runs_are_listed ty without f h.scalars m)) in
    let positioned = subst (λ (ys : List (Step g.row.V-Value.Denot)). Says (λ v b. now Int v (bit b)) ys (map (listed_event parts.candidates.now) (events_of trace))) (sym (c.from_vec.ensures ∙ are)) says in
    subst (λ (t : List ListedEvent). Says (λ v b. now Int v (bit b)) c.from_vec.result t) listed positioned

pub returns-clause-once : goal.returns-clause-once
returns-clause-once g c = λ ty without f h.
    let G = g.O.RunSetting.setting c.args.out.now in
    let parts = c.args.parts.now in
    let body = view_statement parts.body.now in
    let slice = c.as_slice.ensures.value in
    let order : AreInOrder CandidateBefore parts.candidates.now = subst (λ (xs : List Candidate). AreInOrder CandidateBefore xs) (sym h.candidates) (candidates_in_order ty f h.numbered) in
    let events : events_in c.as_slice.result.now ≡ statement_events (setting_of ty without f) (body_of f) =
    ap (λ (xs : List (GuardedEvent g.row.V-Value.Denot)). events_in xs) slice ∙ c.in_ok-walk_body.ensures.events ∙ ap (λ (xs : List (GuardedEvent g.row.V-Value.Denot)). events_in xs ++ statement_events G body) c.in_ok-state.ensures.steps
    ∙ ap (λ x. statement_events x body) h.setting ∙ ap (λ x. statement_events (setting_of ty without f) x) h.body in
    let hits = subst (λ (xs : List Event). AreHitsIn (candidates ty f) xs) (sym events) (listed_hits ty without f (statement_events (setting_of ty without f) (body_of f)) (events_listed ty without f h.scalars)) in
    let inside = subst (λ (cs : List Candidate). AreHitsIn cs (events_in c.as_slice.result.now)) (sym h.candidates) hits in
    let once = subst (λ (xs : List Event). StandOnce xs) (sym events) (events_once ty without f h.numbered h.scalars) in
    subst (λ (ys : List (Step g.row.V-Value.Denot)). StandOnce (map (λ y. event_of y) ys)) (sym (c.from_vec.ensures ∙ c.in_ok-steps.ensures.are order inside)) (steps_once parts.candidates.now c.as_slice.result.now inside once)

pub returns-clause-listed : goal.returns-clause-listed
returns-clause-listed g c =
    λ ty without f h.
    let G = g.O.RunSetting.setting c.args.out.now in
    let parts = c.args.parts.now in
    let body = view_statement parts.body.now in
    let slice = c.as_slice.ensures.value in
    let order : AreInOrder CandidateBefore parts.candidates.now = subst (λ (xs : List Candidate). AreInOrder CandidateBefore xs) (sym h.candidates) (candidates_in_order ty f h.numbered) in
    let events : events_in c.as_slice.result.now ≡ statement_events (setting_of ty without f) (body_of f) =
    ap (λ (xs : List (GuardedEvent g.row.V-Value.Denot)). events_in xs) slice ∙ c.in_ok-walk_body.ensures.events ∙ ap (λ (xs : List (GuardedEvent g.row.V-Value.Denot)). events_in xs ++ statement_events G body) c.in_ok-state.ensures.steps
    ∙ ap (λ x. statement_events x body) h.setting ∙ ap (λ x. statement_events (setting_of ty without f) x) h.body in
    let hits = subst (λ (xs : List Event). AreHitsIn (candidates ty f) xs) (sym events) (listed_hits ty without f (statement_events (setting_of ty without f) (body_of f)) (events_listed ty without f h.scalars)) in
    let inside = subst (λ (cs : List Candidate). AreHitsIn cs (events_in c.as_slice.result.now)) (sym h.candidates) hits in
    let are = c.from_vec.ensures ∙ c.in_ok-steps.ensures.are order inside in
    ap (λ (ys : List (Step g.row.V-Value.Denot)). map (λ y. event_of y) ys) are ∙ steps_say parts.candidates.now c.as_slice.result.now
    ∙ ap (λ (xs : List Event). map (listed_event parts.candidates.now) xs) events ∙ ap (λ (cs : List Candidate). map (listed_event cs) (statement_events (setting_of ty without f) (body_of f))) h.candidates

pub returns-clause-cost : goal.returns-clause-cost
returns-clause-cost g c =
    λ ty without f h.
    let G = g.O.RunSetting.setting c.args.out.now in
    let body = view_statement c.args.parts.now.body.now in
    let few : length c.in_ok-state.state.cells.items ≤ length G.kept = omega (arith, c.in_ok-state.ensures.cells) in
    let walked = c.in_ok-walk_body.ensures.cost.within few in
    let at = ap (λ (x : Setting). statement_spent x body) h.setting ∙ ap (λ x. statement_spent (setting_of ty without f) x) h.body in
    let objects = ap (λ (xs : List WalkObject). 1926 * length xs) h.objects ∙ ap (λ n. 1926 * n) (length-map (objects_of ty without f) (walk_object (kept_of ty without f))) in
    let pairs = ap (λ (xs : List WalkObject). 1286 * pairs_in xs) h.objects ∙ ap (λ n. 1286 * n) (pairs_are (kept_of ty without f) (objects_of ty without f)) in
    plus _ _ _ (free_last _ _ (free_by _ (both_equal objects pairs) c.in_ok-valid.ensures.charge) c.in_ok-state.ensures.charge) (free_by _ at walked)
