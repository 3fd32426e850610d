-- The setting that is made is that of the function.
use Rattle.std.proofs.Common.{ℕ, ◌≡◌, true, List, [], ◌++◌, take, ap, ◌∙◌}
use Rattle.stk_tree.specs.Syntax.{ParamTrees, FunctionTree}
use Rattle.stk_tree.specs.Parts.{declared_parameters}
use Rattle.stk_numbers.specs.declared.conditions.Kinds.{Kinds}
use Rattle.stk_meaning.specs.Places.{Setting}
use Rattle.stk_meaning.specs.Keys.{KeyInfo, head_of, function_visits, visit_registers, visit_mentions, visit_keys, first_setting, setting_of, keys_of}
use Rattle.stk_function_types.specs.Units.{TypedUnit}
use Rattle.stk_function_types.specs.Nodes.{typing_in}
use Rattle.stk_function_types.specs.Visits.{MarkedVisit, marked_visits}
use Rattle.stk_function_types.specs.Gathered.{gathered}
use Rattle.stk_function_env.specs.Listed.{parameters_registers, register_parameter_keys, memory_parameter_keys, keys_kept}
use Rattle.stk_function_env.specs.Settings.{FunctionPlaces, setting_in}
use Rattle.stk_function_env.proofs.Listing.{registers_are, mentions_are, keys_are, kept_are}

-- settings whose parts are the same
setting_by : (g h : Setting) → g.typing ≡ h.typing → g.without ≡ h.without → g.registers ≡ h.registers → g.mentions ≡ h.mentions → g.kept ≡ h.kept → g ≡ h
setting_by g h a b c d e =
    ap (λ x. let s : Setting = record { typing = x; without = g.without; registers = g.registers; mentions = g.mentions; kept = g.kept } in s) a
    ∙ ap (λ x. let s : Setting = record { typing = h.typing; without = x; registers = g.registers; mentions = g.mentions; kept = g.kept } in s) b
    ∙ ap (λ x. let s : Setting = record { typing = h.typing; without = h.without; registers = x; mentions = g.mentions; kept = g.kept } in s) c
    ∙ ap (λ x. let s : Setting = record { typing = h.typing; without = h.without; registers = h.registers; mentions = x; kept = g.kept } in s) d
    ∙ ap (λ x. let s : Setting = record { typing = h.typing; without = h.without; registers = h.registers; mentions = h.mentions; kept = x } in s) e

pub record IsMade (T : TypedUnit) (w : Kinds) (f : FunctionTree) (r : FunctionPlaces) : Type 0 where
  pub setting : setting_in r ≡ setting_of (typing_in T) w f
  pub keys : r.keys ≡ keys_of (typing_in T) w f
  pub types : r.types ≡ T

-- the first setting's parts
pub record IsFirst (T : TypedUnit) (w : Kinds) (ps : ParamTrees) (ms : List MarkedVisit) (first : FunctionPlaces) : Type 0 where
  pub types : first.types ≡ T
  pub without : first.without ≡ w
  pub registers : first.registers ≡ parameters_registers (typing_in T) ps ++ gathered (visit_registers (typing_in T)) ms
  pub mentions : first.mentions ≡ gathered (visit_mentions (typing_in T)) ms
  pub kept : first.kept ≡ []

pub made : (T : TypedUnit) (w : Kinds) (f : FunctionTree) (ps : ParamTrees) (ms : List MarkedVisit) (first r : FunctionPlaces) (ks : List KeyInfo) (all few : List ℕ) → ps ≡ declared_parameters (head_of f) → ms ≡ marked_visits true (function_visits (typing_in T) f) → IsFirst T w ps ms first → ks ≡ register_parameter_keys (typing_in first.types) ps ++ (memory_parameter_keys (typing_in first.types) ps ++ gathered (visit_keys (setting_in first)) ms) → all ≡ keys_kept (typing_in T) ks → few ≡ take 32 all → r ≡ record first { keys = ks; kept = few } → IsMade T w f r
made T w f ps ms first r ks all few hp hm h hk ha hf e =
    let registers = registers_are (typing_in T) f ps ms first.registers hp hm h.registers in
    let mentions = mentions_are (typing_in T) f ms first.mentions hm h.mentions in
    let begins = setting_by (setting_in first) (first_setting (typing_in T) w f) (ap typing_in h.types) h.without registers mentions h.kept in
    let keys = keys_are (typing_in T) w f (setting_in first) ps ms ks begins hp hm (hk ∙ ap (λ U. register_parameter_keys (typing_in U) ps ++ (memory_parameter_keys (typing_in U) ps ++ gathered (visit_keys (setting_in first)) ms)) h.types) in
    let kept = kept_are (typing_in T) w f ks few keys (hf ∙ ap (take 32) ha) in
    record {
      setting = setting_by (setting_in r) (setting_of (typing_in T) w f) (ap (λ p. typing_in p.types) e ∙ ap typing_in h.types) (ap (λ p. p.without) e ∙ h.without) (ap (λ p. p.registers) e ∙ registers) (ap (λ p. p.mentions) e ∙ mentions) (ap (λ p. p.kept) e ∙ kept);
      keys = ap (λ p. p.keys) e ∙ keys;
      types = ap (λ p. p.types) e ∙ h.types;
    }
