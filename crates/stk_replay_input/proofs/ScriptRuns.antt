-- The execution that a script names of a function whose setting is at hand.
use Rattle.std.proofs.Common.{◌≡◌, ◌↔◌, ℕ, ◌≤◌, Bool, true, false, List, map, length, ℤ, Result, Ok, Err, sym, ap, subst, ◌∙◌}
use Rattle.std.specs.Prelude.{IsTrue}
use Rattle.std.specs.Global.{Vec}
use Rattle.stk_tree.specs.Syntax.{FunctionTree}
use Rattle.stk_meaning.specs.Worlds.{Ran, Flow, trace_of}
use Rattle.stk_meaning.specs.Executions.{Outside, execution_ran}
use Rattle.stk_meaning.specs.Keys.{KeyInfo, keys_of, kept_of, objects_in, objects_of, setting_of}
use Rattle.stk_meaning.specs.Maps.{AreInRange, addresses_in, are_valid, IsValid}
use Rattle.stk_meaning.specs.Paths.{number_under}
use Rattle.stk_function_types.specs.Nodes.{typing_in}
use Rattle.stk_function_env.specs.Settings.{FunctionPlaces}
use Rattle.stk_first_maps.specs.Words.{wrapped_by}
use Rattle.stk_first_maps.proofs.Ranges.{wrapped_stays}
use Rattle.stk_weights.specs.Units.{IsSettingOfFunction}
use Rattle.stk_memory.specs.declared.image.Cell.{Cell}
use Rattle.stk_memory.specs.declared.image.MemoryImage.{MemoryImage}
use Rattle.stk_memory.specs.declared.image.Reply.{Reply}
use Rattle.stk_memory.specs.Image.{image_memory, AreApart}
use Rattle.stk_spelling.specs.Named.{names_of}
use Rattle.stk_spelling.specs.Placed.{placed_in}
use Rattle.stk_spelling.specs.Texts.{key_text}
use Rattle.stk_replaying.specs.Outsides.{answers_of}
use Rattle.stk_replaying.specs.Replaying.{start_in}
use Rattle.stk_replay_script.specs.declared.script.Script.{Script}
use Rattle.stk_replay_script.specs.Starts.{IsStart}
use Rattle.stk_replay_script.proofs.StartTexts.{one_start}
use Rattle.stk_replay_input.specs.declared.unreplayed.Unreplayed.{Unreplayed}
use Rattle.stk_replay_input.specs.declared.unreplayed.Unreplayed.TheVariants.{BadScript, TooLong, NoMemory}
use Rattle.stk_replay_input.specs.Named.{FunctionAtHand, its_keys, spelled_keys, IsNamed, named_run, most_entries, AnswersRun, AnswersScript}
use Rattle.stk_replay_input.proofs.Answered.{hand_in}

-- an execution of a function, by its setting
abbrev pub run_by : FunctionPlaces → FunctionTree → List ℤ → MemoryImage → List Reply → ℕ → Ran Flow Outside
run_by p f numbers memory replies turns =
    let outside : Outside = record { memory = image_memory memory; answers = answers_of replies } in
    execution_ran (setting_of (typing_in p.types) p.without f) f (start_in (keys_of (typing_in p.types) p.without f) numbers) outside turns

-- addresses are valid, by the setting of a function
abbrev pub are_valid_in : FunctionPlaces → List ℤ → Bool
are_valid_in p numbers = are_valid p.kept (objects_in (typing_in p.types) p.keys) (addresses_in (number_under p.keys numbers))

-- the answer to an execution that a script names is one to the script
answers_named : (h : FunctionAtHand) (script : Script) (numbers : List ℤ) (run : Ran Flow Outside) → IsNamed h script numbers → run ≡ named_run h script numbers → (r : Result (Vec ℕ) Unreplayed) → AnswersRun h run r → AnswersScript h script r
answers_named h script numbers run named same (Ok text) told =
    let here = subst (λ (x : Ran Flow Outside). AnswersRun h x (Ok text)) same told in
    record { numbers = numbers; named = named; short = here.0; same = here.1 }
answers_named h script numbers run named same (Err BadScript) told = absurd told
answers_named h script numbers run named same (Err TooLong) told =
    record { numbers = numbers; named = named; long = subst (λ (x : Ran Flow Outside). AnswersRun h x (Err TooLong)) same told }
answers_named h script numbers run named same (Err NoMemory) told = tt

-- A start of a function's keys was read: its numbers, each in range, are these, as they are and converted to their
-- kinds.
pub record WasRead (p : FunctionPlaces) (f : FunctionTree) (script : Script) (numbers : List ℤ) : Type 0 where
  pub of : IsSettingOfFunction f p
  pub start : IsStart (spelled_keys (hand_in p f)) script.start numbers
  pub covers : AreInRange (its_keys (hand_in p f)) numbers

pub was_read : (p : FunctionPlaces) (f : FunctionTree) (script : Script) (start : List ℕ) (numbers : List ℤ) → IsSettingOfFunction f p → start ≡ script.start
    → IsStart (map (key_text (placed_in p.types) (names_of (typing_in p.types) f)) p.keys) start numbers × AreInRange p.keys numbers → WasRead p f script numbers
was_read p f script start numbers of same read = record {
  of = of;
  start = subst (λ (ks : List KeyInfo). IsStart (map (key_text (placed_in p.types) (names_of (typing_in p.types) f)) ks) script.start numbers) of.keys
      (subst (λ (s : List ℕ). IsStart (map (key_text (placed_in p.types) (names_of (typing_in p.types) f)) p.keys) s numbers) same read.0);
  covers = subst (λ (ks : List KeyInfo). AreInRange ks numbers) of.keys read.1;
}

-- numbers in range are converted to themselves
pub as_read : (p : FunctionPlaces) (keys : List KeyInfo) (numbers taken words given : List ℤ) → AreInRange p.keys numbers → keys ≡ p.keys → taken ≡ numbers → words ≡ wrapped_by keys taken → given ≡ words → given ≡ numbers
as_read p keys numbers taken words given covers ks same wrapped is =
    is ∙ wrapped ∙ (λ i. wrapped_by (ks i) (same i)) ∙ wrapped_stays p.keys numbers covers

module _ (p q : FunctionPlaces) (f : FunctionTree) (e : q ≡ p) (script : Script) (numbers given : List ℤ) (same : given ≡ numbers) (read : WasRead p f script numbers)
    (t : Bool) (cells : List Cell) (are : cells ≡ script.memory.cells) (told : IsTrue t ↔ ((are_valid_in q given ≡ true) × AreApart cells)) where
  valid_here : are_valid_in q given ≡ are_valid (kept_of (typing_in p.types) p.without f) (objects_of (typing_in p.types) p.without f) (addresses_in (number_under (keys_of (typing_in p.types) p.without f) numbers))
  valid_here =
      let kept : p.kept ≡ kept_of (typing_in p.types) p.without f = ap (λ g. g.kept) read.of.setting in
      let keys = read.of.keys in
      ap (λ (x : FunctionPlaces). are_valid_in x given) e
      ∙ (λ i. are_valid (kept i) (objects_in (typing_in p.types) (keys i)) (addresses_in (number_under (keys i) (same i))))

  -- where the test failed, the script names no execution
  pub names_none : t ≡ false → (others : List ℤ) → IsNamed (hand_in p f) script others → ⊥
  names_none no_start others named =
      let one : others ≡ numbers = one_start (spelled_keys (hand_in p f)) script.start others numbers named.start read.start in
      let valid = subst (λ (xs : List ℤ). IsValid (typing_in p.types) p.without f xs) one named.valid in
      let may = told.1 (valid_here ∙ valid.apart, subst AreApart (sym are) named.apart) in
      absurd cc

  -- where it held, the numbers are named
  pub is_named : t ≡ true → IsNamed (hand_in p f) script numbers
  is_named may =
      let start = told.0 may in
      record {
        start = read.start;
        valid = record { covers = read.covers; apart = sym valid_here ∙ start.0 };
        apart = subst AreApart are start.1;
      }

  -- and the answer to the execution is one to the script
  pub answers_script : t ≡ true → (replies : List Reply) → replies ≡ script.replies → (others : List ℤ) → others ≡ numbers → (r : Result (Vec ℕ) Unreplayed) → AnswersRun (hand_in q f) (run_by q f others script.memory replies script.turns) r → AnswersScript (hand_in p f) script r
  answers_script may replies answers others known r ran =
      let here = subst (λ (x : FunctionPlaces). AnswersRun (hand_in x f) (run_by x f others script.memory replies script.turns) r) e ran in
      answers_named (hand_in p f) script numbers (run_by p f others script.memory replies script.turns) (is_named may)
      (λ i. run_by p f (known i) script.memory (answers i) script.turns) r here
