-- A goal that was read is 1 exactly for what its script denotes.
use Rattle.std.proofs.Common.{◌≡◌, ℕ, Bool, true, false, List, [], ◌∷◌, refl, sym, ap, subst, ◌∙◌}
use Rattle.std.specs.Prelude.{◌↔◌, Some, None, Err}
use Rattle.stk_terms.specs.Terms.{Stored}
use Rattle.stk_terms.specs.Fitting.{AreResidues}
use Rattle.stk_terms.specs.Growth.{Keeps}
use Rattle.stk_terms.specs.Values.{number_at, bit}
use Rattle.stk_scripts.specs.Syntax.{Declared, Defined, Script}
use Rattle.stk_scripts.specs.Table.{test_truth}
use Rattle.stk_scripts.specs.Texts.{Spells}
use Rattle.stk_scripts.specs.Tokens.{script_tokens}
use Rattle.stk_scripts.specs.Scripts.{meaning, width_in, same_width, names_of, behind_declared, behind_defined, with_inputs, with_defined, DeclaredFit, DefinedFit, IsWellFormed, IsScript, Denotes, holds_in}
use Rattle.stk_script_trees.specs.Shallow.{AreShallow, IsShallow}
use Rattle.stk_script_trees.specs.declared.fault.Fault.{Fault}
use Rattle.stk_script_trees.specs.declared.fault.Fault.TheVariants as fault
use Rattle.stk_script_reader.specs.declared.names.Names.{Names}
use Rattle.stk_script_reader.specs.Standing.{widths_named, IsTest, Tests}
use Rattle.stk_script_reader.specs.After.{IsAfter, WidthsFit}
use Rattle.stk_script_reader.proofs.Kept.{widths_kept, bits_kept}
use Rattle.stk_script_reader.proofs.Meant.{same_some}

-- definitions whose widths fit and that aren't deep, fit
pub defined_fit : (g : List (List ℕ × ℕ)) (ds : List Defined) → WidthsFit g ds → AreShallow 400 ds → DefinedFit g ds
defined_fit g [] f s = tt
defined_fit g (d ∷ ds) f s = (f.0, f.1, s.0, defined_fit ((d.name, d.width) ∷ g) ds f.2 s.1)

pub widths_fit : (g : List (List ℕ × ℕ)) (ds : List Defined) → DefinedFit g ds → WidthsFit g ds
widths_fit g [] f = tt
widths_fit g (d ∷ ds) f = (f.0, f.1, widths_fit ((d.name, d.width) ∷ g) ds f.3)

bit_one : (t : Bool) → (bit t ≡ 1) ↔ (t ≡ true)
bit_one true = (λ e. refl, λ e. refl)
bit_one false = (λ e. absurd cc, λ e. absurd cc)

-- after all commands
abbrev pub AfterAll : Names → Stored → List Declared → List Defined → Type 0
AfterAll table t ds es = IsAfter table t (behind_defined (behind_declared [] ds) es) (λ r. with_defined (with_inputs [] ds r) es)

module _ (bytes : List ℕ) (s : Script) (spelled : Spells (script_tokens s) bytes) (shallow : IsShallow 400 s) (table : Names) (t new : Stored)
    (after : IsAfter table t (names_of s) (λ r. with_defined (with_inputs [] s.declared r) s.defined)) (declared : DeclaredFit [] s.declared) (defined : WidthsFit (behind_declared [] s.declared) s.defined)
    (j : ℕ) (keeps : Keeps t new) (q : IsTest new after.names s.test s.left s.right j) where
  -- the text is the script
  pub is_script : IsScript bytes s
  is_script =
      let gs : widths_named new after.names ≡ names_of s = widths_kept t new keeps after.names after.exist ∙ after.widths in
      record {
        formed = record {
          declared = declared;
          defined = defined_fit (behind_declared [] s.declared) s.defined defined shallow.bodies;
          compares = (q.width, ap (λ g. width_in g s.left) (sym gs) ∙ q.left, ap (λ g. width_in g s.right) (sym gs) ∙ q.right);
          shallow = (shallow.left, shallow.right);
        };
        spelled = spelled;
      }

  -- and denotes what makes the goal 1
  pub means : (r : List ℕ) → AreResidues new.inputs r → (number_at new r j ≡ 1) ↔ Denotes s r
  means r h =
      let k : AreResidues t.inputs r = subst (λ ws. AreResidues ws r) keeps.inputs_stay h in
      let m = bits_kept t new keeps r after.names after.exist ∙ after.numbers r k in
      let value = q.value r h ∙ ap (λ g. bit (test_truth s.test (meaning g s.left).width (meaning g s.left).number (meaning g s.right).number)) m in
      let b = bit_one (holds_in (with_defined (with_inputs [] s.declared r) s.defined) s) in
      (λ e. b.0 (sym value ∙ e), λ e. value ∙ b.1 e)

-- ---- what isn't read

-- the text is no script, where the only one that it could be isn't well formed
pub no_script : (bytes : List ℕ) (s : Script) → ((z : Script) → IsScript bytes z → z ≡ s) → (IsWellFormed s → ⊥) → (z : Script) → IsScript bytes z → ⊥
no_script bytes s only never z i = never (subst IsWellFormed (only z i) i.formed)

-- a comparison that doesn't fit
pub no_test : (table : Names) (t new : Stored) (s : Script) (a : IsAfter table t (names_of s) (λ r. with_defined (with_inputs [] s.declared r) s.defined)) (f : Fault) → f ≡ fault.Bad
    → Tests t new a.names s.test s.left s.right (Err f) → IsWellFormed s → ⊥
no_test table t new s a fault.Bad b q w =
    let k = w.compares in
    let e : same_width (Some k.0) (Some k.0) ≡ None = (λ i. same_width (sym (ap (λ g. width_in g s.left) a.widths ∙ k.1) i) (sym (ap (λ g. width_in g s.right) a.widths ∙ k.2) i)) ∙ q in
    let l : Some k.0 ≡ None = sym (same_some k.0 k.0 refl) ∙ e in
    absurd cc
no_test table t new s a fault.NoMemory b q w = absurd cc
