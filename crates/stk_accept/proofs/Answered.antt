-- What an answer says of the outcome.
use Rattle.std.proofs.Common.{◌≡◌, ◌∙◌, ℕ, List, Ok, Err, refl, sym, ap}
use Rattle.stk_type_rules.specs.declared.untyped.Untyped.TheVariants.{Rule}
use Rattle.stk_ctype.specs.declared.symbol.NameEntry.{NameEntry}
use Rattle.stk_type_rules.specs.Facts.{Fact}
use Rattle.stk_type_rules.specs.Outcome.{Outcome, Good, Refused}
use Rattle.stk_declare.specs.Answers.{Answers}

-- an outcome has a value that is shown so
pub record HasValue {A V : Type 0} (P : A → V → Type 0) (o : Outcome A) (v : V) : Type 0 where
  pub value : A
  pub facts : List Fact
  pub is : o ≡ Good value facts
  pub shown : P value v

pub value_of : {A V : Type 0} (P : A → V → Type 0) (o : Outcome A) (v : V) → Answers P o (Ok v) → HasValue P o v
value_of P (Good x t) v h = record { value = x; facts = t; is = refl; shown = h }
value_of P (Refused n r) v h = absurd h

pub refusal_of : {A V : Type 0} (P : A → V → Type 0) (o : Outcome A) (m s : ℕ) → Answers P o (Err (Rule m s)) → o ≡ Refused m s
refusal_of P (Good x t) m s h = absurd h
refusal_of P (Refused n r) m s h = ap (λ k. Refused k r) (sym h.0) ∙ ap (λ k. Refused m k) (sym h.1)

-- the names that a unit leaves, by an answer that is good
pub left_by_answer : (o : Outcome (List NameEntry)) (now : List NameEntry) (u : Unit {0}) → Answers (λ es u. now ≡ es) o (Ok u) → (facts : List Fact) × (o ≡ Good now facts)
left_by_answer o now u h = let v = value_of (λ es u. now ≡ es) o u h in (v.facts, v.is ∙ ap (λ (z : List NameEntry). Good z v.facts) (sym v.shown))
