-- An input names one execution at most, and what is answered to its script is answered to it.
use Rattle.std.proofs.Common.{◌≡◌, ◌⊎◌, inl, inr, ℕ, List, length, ℤ, Result, Ok, Err, refl, ap, subst, ◌∙◌, arith}
use Rattle.std.specs.Global.{Vec}
use Rattle.stk_replay_script.specs.declared.script.Script.{Script}
use Rattle.stk_replay_script.specs.Scripts.{IsInput}
use Rattle.stk_replay_script.proofs.ScriptTexts.{one_script}
use Rattle.stk_replay_script.proofs.StartTexts.{one_start}
use Rattle.stk_replay_input.specs.declared.unreplayed.Unreplayed.{Unreplayed}
use Rattle.stk_replay_input.specs.declared.unreplayed.Unreplayed.TheVariants.{BadScript, TooLong, NoMemory}
use Rattle.stk_replay_input.specs.Named.{IsNamed, AnswersScript, spelled_keys}
use Rattle.stk_replay_input.specs.Definitions.{Definition, at_hand, IsDefinitionIn}
use Rattle.stk_replay_input.specs.Replays.{Naming, Names, trace_of_naming, IsReplayText, HasLongRun}
use Rattle.stk_replay_input.specs.Searches.{AnswersSource, defined, not_defined, no_memory, AnswersInput}
use Rattle.stk_replay_input.proofs.OneDefinition.{one_definition}

-- what a script and a source name
naming_of : Script → List ℕ → Definition → List ℤ → Naming
naming_of script source d numbers = record { script = script; source = source; definition = d; numbers = numbers }

module _ (bytes : List ℕ) (script : Script) (source : List ℕ) (input : IsInput bytes script source) where
  -- what an input names, by its script and its source
  defined_here : (x : Naming) → Names bytes x → IsDefinitionIn source script.function x.definition
  defined_here x h =
      let read = one_script bytes x.script script x.source source h.input input in
      subst (λ (s : Script). IsDefinitionIn source s.function x.definition) read.0 (subst (λ (t : List ℕ). IsDefinitionIn t x.script.function x.definition) read.1 h.definition)

  named_here : (x : Naming) → Names bytes x → IsNamed (at_hand source x.definition) script x.numbers
  named_here x h =
      let read = one_script bytes x.script script x.source source h.input input in
      subst (λ (s : Script). IsNamed (at_hand source x.definition) s x.numbers) read.0 (subst (λ (t : List ℕ). IsNamed (at_hand t x.definition) x.script x.numbers) read.1 h.named)

  named_by : (d : Definition) → IsDefinitionIn source script.function d → (x : Naming) → Names bytes x → IsNamed (at_hand source d) script x.numbers
  named_by d is x h =
      subst (λ (e : Definition). IsNamed (at_hand source e) script x.numbers) (one_definition source script.function x.definition d (defined_here x h) is) (named_here x h)

  -- ---- what is answered to the script of its function, and to the script and its source, is answered to the input
  of_answer : (d : Definition) → IsDefinitionIn source script.function d → (r : Result (Vec ℕ) Unreplayed) → AnswersScript (at_hand source d) script r → AnswersInput bytes r
  unfolding naming_of
  of_answer d is (Ok text) h = record { naming = naming_of script source d h.numbers; names = record { input = input; definition = is; named = h.named }; short = h.short; same = h.same }
  of_answer d is (Err BadScript) none = record { none = λ x h. none x.numbers (named_by d is x h) }
  of_answer d is (Err TooLong) h = record { naming = naming_of script source d h.numbers; names = record { input = input; definition = is; named = h.named }; long = h.long }
  of_answer d is (Err NoMemory) h = tt

  pub input_answered : (r : Result (Vec ℕ) Unreplayed) → AnswersSource source script r → AnswersInput bytes r
  input_answered r (defined d is h) = of_answer d is r h
  input_answered r (not_defined none) = record { none = λ x h. none x.definition (defined_here x h) }
  input_answered r no_memory = tt

pub one_naming : (bytes : List ℕ) (x y : Naming) → Names bytes x → Names bytes y → x ≡ y
unfolding naming_of
one_naming bytes x y h k =
    let read = one_script bytes x.script y.script x.source y.source h.input k.input in
    let definition = one_definition y.source y.script.function x.definition y.definition (defined_here bytes y.script y.source k.input x h) k.definition in
    let named = named_by bytes y.script y.source k.input y.definition k.definition x h in
    let numbers = one_start (spelled_keys (at_hand y.source y.definition)) y.script.start x.numbers y.numbers named.start k.named.start in
    ap (λ s. naming_of s x.source x.definition x.numbers) read.0 ∙ ap (λ t. naming_of y.script t x.definition x.numbers) read.1
    ∙ ap (λ d. naming_of y.script y.source d x.numbers) definition ∙ ap (naming_of y.script y.source y.definition) numbers

-- a trace that is short enough isn't too long
never_both : (bytes text : List ℕ) → IsReplayText bytes text → HasLongRun bytes → ⊥
never_both bytes text h k =
    let same = ap (λ (x : Naming). length (trace_of_naming x)) (one_naming bytes h.naming k.naming h.names k.names) in
    absurd (omega (arith, same, h.short, k.long))

-- ---- when which answer comes

pub long_only : (bytes : List ℕ) (r : Result (Vec ℕ) Unreplayed) → AnswersInput bytes r → HasLongRun bytes → (r ≡ Err TooLong) ⊎ (r ≡ Err NoMemory)
long_only bytes (Ok text) h long = absurd (never_both bytes text.items h long)
long_only bytes (Err BadScript) h long = absurd (h.none long.naming long.names)
long_only bytes (Err TooLong) h long = inl refl
long_only bytes (Err NoMemory) h long = inr refl
