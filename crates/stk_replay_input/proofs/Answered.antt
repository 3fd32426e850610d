-- What is answered to executions, and to scripts.
use Rattle.std.proofs.Common.{◌≡◌, ℕ, ◌+◌, ◌*◌, ◌^◌, ◌<◌, ◌≤◌, ◌↔◌, List, length, ℤ, Bool, true, false, Option, Some, Result, Ok, Err, refl, sym, ap, subst, ◌∙◌, arith}
use Rattle.std.specs.Global.{Vec}
use Rattle.std.specs.Prelude.{IsTrue, MatchOption}
use Rattle.stk_tree.specs.Syntax.{FunctionTree}
use Rattle.stk_tree.specs.Nodes.{function_nodes}
use Rattle.stk_tree.specs.Unlaid.{no_node}
use Rattle.stk_numbers.specs.declared.conditions.Candidate.{Candidate}
use Rattle.stk_numbers.specs.declared.conditions.Kinds.{Kinds}
use Rattle.stk_meaning.specs.declared.entry.Entry.{Entry}
use Rattle.stk_meaning.specs.Typings.{Typing}
use Rattle.stk_meaning.specs.Worlds.{Ran, Flow, trace_of}
use Rattle.stk_meaning.specs.Executions.{Outside}
use Rattle.stk_meaning.specs.Keys.{KeyInfo, setting_of, objects_of, function_visits}
use Rattle.stk_meaning.specs.Maps.{AreInRange}
use Rattle.stk_meaning.specs.Lists.{candidates}
use Rattle.stk_meaning.specs.Weights.{visits_weight, pairs_among, weight, most_weight}
use Rattle.stk_function_types.specs.Units.{TypedUnit}
use Rattle.stk_function_types.specs.Nodes.{typing_in}
use Rattle.stk_function_env.specs.Settings.{FunctionPlaces}
use Rattle.stk_type_laws.proofs.FewCandidates.{few_candidates}
use Rattle.stk_spelling.specs.Placed.{placed_in}
use Rattle.stk_replaying.specs.Replaying.{end_of}
use Rattle.stk_replaying.specs.declared.execution.End.{End}
use Rattle.stk_replaying.specs.declared.execution.Replay.{Replay}
use Rattle.stk_replaying.specs.declared.execution.Replay.TheVariants as replay
use Rattle.stk_replay_script.specs.Starts.{IsStart}
use Rattle.stk_replay_script.proofs.StartTexts.{one_start}
use Rattle.stk_replay_text.specs.Text.{lines_text}
use Rattle.stk_replay_input.specs.declared.unreplayed.Unreplayed.{Unreplayed}
use Rattle.stk_replay_input.specs.Causes.{unreplayed_of}
use Rattle.stk_replay_input.specs.Lines.{run_lines}
use Rattle.stk_replay_input.specs.Named.{FunctionAtHand, run_text, most_entries, AnswersRun}

-- a function that isn't too heavy has few candidates
few_places : (n m a b c : ℕ) → n ≤ 4 * m → 128 * m + a + b + c ≤ 8000000 → n < 2 ^ 32
few_places n m a b c h k = omega (arith, h, k)

pub few_in : (ty : Typing) (without : Kinds) (f : FunctionTree) → weight ty without f ≤ most_weight → length (candidates ty f) < 2 ^ 32
few_in ty without f light =
    let g = setting_of ty without f in
    let objects = objects_of ty without f in
    few_places (length (candidates ty f)) (function_nodes f + 1) (visits_weight g true (function_visits ty f)) (2048 * length objects) (2048 * pairs_among g.kept objects) (few_candidates ty f no_node) light

-- a function at hand, by its setting
abbrev pub hand_in : FunctionPlaces → FunctionTree → FunctionAtHand
hand_in p f = record { placed = placed_in p.types; typing = typing_in p.types; without = p.without; tree = f }

-- an execution without a replay
pub answers_none : (f : FunctionAtHand) (run : Ran Flow Outside) (why : Replay) (r : Result (Vec ℕ) Unreplayed) → r ≡ Err (unreplayed_of why) → (why ≡ replay.TooLong → most_entries < length (trace_of run)) → AnswersRun f run r
answers_none f run replay.TooLong r e long = subst (AnswersRun f run) (sym e) (long refl)
answers_none f run replay.NoMemory r e long = subst (AnswersRun f run) (sym e) tt

-- the text of an execution
pub answers_text : (p : FunctionPlaces) (f : FunctionTree) (t : TypedUnit) (run : Ran Flow Outside) (list : List Candidate) (trace : List Entry) (ended : End) (text : List ℕ) → t ≡ p.types → list ≡ candidates (typing_in t) f
    → trace ≡ trace_of run → ended ≡ end_of run → length trace ≤ most_entries → text ≡ lines_text (run_lines (placed_in t) (typing_in t) f list trace ended)
    → (length (trace_of run) ≤ most_entries) × (text ≡ run_text (hand_in p f) run)
answers_text p f t run list trace ended text same listed traced ends short told = (
  subst (λ (es : List Entry). length es ≤ most_entries) traced short,
  told
      ∙ (λ i. lines_text (run_lines (placed_in t) (typing_in t) f (listed i) (traced i) (ends i)))
      ∙ ap (λ (u : TypedUnit). lines_text (run_lines (placed_in u) (typing_in u) f (candidates (typing_in u) f) (trace_of run) (end_of run))) same,
)

-- a start whose numbers aren't all in range, and that has no other numbers
pub no_other : (spelled : List (List ℕ)) (keys : List KeyInfo) (start : List ℕ) (numbers now : List ℤ) (b : Bool) → IsStart spelled start numbers → now ≡ numbers → IsTrue b ↔ AreInRange keys now → b ≡ false
    → (others : List ℤ) → IsStart spelled start others → AreInRange keys others → ⊥
no_other spelled keys start numbers now b given same told outside others read within =
    let here : AreInRange keys now = subst (AreInRange keys) (one_start spelled start others numbers read given ∙ sym same) within in
    let inside = told.1 here in
    absurd cc

pub at_some : {A : Type 0} (P : Type 0) (Q : A → Type 0) (o : Option A) (x : A) → o ≡ Some x → MatchOption o P Q → Q x
at_some P Q o x e h = let found = subst (λ o. MatchOption o P Q) e h in found
