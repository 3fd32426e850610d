-- Outcomes whose names in force are at most so many.
use Rattle.std.proofs.Common.{ℕ, ◌≤◌, ◌++◌, List, length}
use Rattle.std.proofs.Math.Nat.{le_trans}
use Rattle.stk_ctype.specs.declared.symbol.NameEntry.{NameEntry}
use Rattle.stk_type_rules.specs.Facts.{Fact}
use Rattle.stk_type_rules.specs.Outcome.{Outcome, Good, Refused, after, and_then}

-- what an outcome's value has in force is at most so many entries
pub data Within {A : Type 0} (f : A → List NameEntry) (n : ℕ) : Outcome A → Type 0 where
  good : {x : A} {t : List Fact} → length (f x) ≤ n → Within f n (Good x t)
  refused : {k r : ℕ} → Within f n (Refused k r)

-- facts that stand before change nothing
pub after_within : {A : Type 0} {f : A → List NameEntry} {n : ℕ} {o : Outcome A} (t : List Fact) → Within f n o → Within f n (after t o)
after_within t (good few) = good few
after_within t refused = refused

-- one part after another, which goes on from what the first has in force
pub then_within : {A B : Type 0} {f : A → List NameEntry} {h : B → List NameEntry} {m n : ℕ} {o : Outcome A} (next : A → Outcome B) → Within f m o → ((x : A) → length (f x) ≤ m → Within h n (next x)) → Within h n (and_then o next)
then_within next (good {x} {t} few) each = after_within t (each x few)
then_within next refused each = refused

-- the same behind a part that has no entries
pub behind_within : {A B : Type 0} {h : B → List NameEntry} {n : ℕ} (o : Outcome A) (next : A → Outcome B) → ((x : A) → Within h n (next x)) → Within h n (and_then o next)
behind_within (Good x t) next each = after_within t (each x)
behind_within (Refused k r) next each = refused

-- at most so many are at most more
pub wider_to : {A : Type 0} {f : A → List NameEntry} {m n : ℕ} {o : Outcome A} → m ≤ n → Within f m o → Within f n o
wider_to more (good few) = good (le_trans few more)
wider_to more refused = refused

pub few_of : {A : Type 0} {f : A → List NameEntry} {n : ℕ} {x : A} {t : List Fact} → Within f n (Good x t) → length (f x) ≤ n
few_of (good few) = few
