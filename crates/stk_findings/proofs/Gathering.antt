-- Findings of a function of over 16 input bits, one after the other.
use Rattle.std.proofs.Common.{◌≡◌, ℕ, ◌<◌, Bool, true, false, List, Result, Ok, Err, refl, sym, subst, arith}
use Rattle.std.specs.Prelude.{nat_le, OnOk}
use Rattle.std.proofs.lemmas.Bool.{leb-true}
use Rattle.stk_tree.specs.Syntax.{FunctionTree}
use Rattle.stk_tree.specs.declared.unit.Function.{Function}
use Rattle.stk_tree.specs.View.{view_function}
use Rattle.stk_numbers.specs.declared.conditions.Condition.{Condition}
use Rattle.stk_numbers.specs.declared.conditions.Candidate.{Candidate}
use Rattle.stk_numbers.specs.declared.conditions.Kinds.{Kinds}
use Rattle.stk_meaning.specs.Typings.{Typing}
use Rattle.stk_meaning.specs.Keys.{keys_of, input_bits}
use Rattle.stk_meaning.specs.PathFindings.{most_bits}
use Rattle.stk_meaning.specs.declared.finding.Finding.{Finding}
use Rattle.stk_meaning.specs.Findings.{IsLawful}
use Rattle.stk_function_types.specs.Nodes.{typing_in}
use Rattle.stk_goals.specs.Rows.{Tables}
use Rattle.stk_findings.specs.Asked as goals
use Rattle.stk_hits.proofs.Agreeing.{Agrees, lawful}
use Rattle.stk_spent_queries.specs.Spent.{spent_at}
use Rattle.stk_wide_judge.specs.Wide.{asked_in, wide_subject}
use Rattle.stk_findings.specs.Searched.{searched_subject}

-- ---- not all maps are tried

many : (n : ℕ) → most_bits < n → nat_le n most_bits ≡ false
many n h = on (nat_le n most_bits) refl where
  on : (b : Bool) → nat_le n most_bits ≡ b → nat_le n most_bits ≡ false
  on true e = absurd (omega (arith, h, leb-true n most_bits e))
  on false e = e

module _ (ty : Typing) (without : Kinds) (f : FunctionTree) (budget : ℕ) (wide : most_bits < input_bits (keys_of ty without f)) where
  agrees : Agrees (wide_subject ty without f (spent_at ty without f budget)) (searched_subject ty without f budget)
  agrees = record {
    maps = λ xs v. v;
    back = λ xs v. v;
    before = λ xs ys q p b. b;
    run = λ xs v. refl;
    conditions = refl;
    all = sym (many (input_bits (keys_of ty without f)) wide);
    spent = λ c set h. h;
  }

  pub wide_finding : (c : Candidate) (x : Finding) → IsLawful (wide_subject ty without f (spent_at ty without f budget)) c x → IsLawful (searched_subject ty without f budget) c x
  wide_finding c x h = lawful (wide_subject ty without f (spent_at ty without f budget)) (searched_subject ty without f budget) agrees c (λ set u never. tt) x h

-- ---- who is asked by the goals of a function

module _ (s : goals.AskedFunction) (t : Tables) (f : Function) (b budget : ℕ) (tables : s.tables ≡ t) (function : s.function ≡ f) (same : b ≡ budget) where
  pub about_of : asked_in s.tables (view_function s.function) ≡ asked_in t (view_function f)
  about_of = λ i. asked_in (tables i) (view_function (function i))

  pub spent_of : (c : Candidate) (set : List Condition) → spent_at (goals.typing_asked s) (goals.without_asked s) (goals.tree_asked s) b c set → spent_at (typing_in t.places.types) t.places.without (view_function f) budget c set
  spent_of c set h =
      subst (λ (n : ℕ). spent_at (typing_in t.places.types) t.places.without (view_function f) n c set) same
      (subst (λ (x : Tables). spent_at (typing_in x.places.types) x.places.without (view_function f) b c set) tables
      (subst (λ (x : Function). spent_at (typing_in s.tables.places.types) s.tables.places.without (view_function x) b c set) function h))

-- ---- after a finding

pub still_ready : {T E : Type 0} (r : Result T E) (P Q : Type 0) → (P → Q) → OnOk r P → OnOk r Q
still_ready (Ok x) P Q k h = k h
still_ready (Err e) P Q k h = tt
