-- How the answers of parts make the answer of the whole.
use Rattle.std.proofs.Common.{List, Result, Ok, Err}
use Rattle.stk_type_rules.specs.declared.untyped.Untyped.{Untyped}
use Rattle.stk_type_rules.specs.declared.untyped.Untyped.TheVariants.{Rule, NoMemory}
use Rattle.stk_type_rules.specs.Facts.{Fact}
use Rattle.stk_type_rules.specs.Outcome.{Outcome, Good, Refused, after, and_then, Gives}
use Rattle.stk_declare.specs.Answers.{Answers}

-- want of memory is always an answer
pub free : {A V : Type 0} (P : A → V → Type 0) (o : Outcome A) → Answers P o (Err NoMemory)
free P (Good x t) = tt
free P (Refused n r) = tt

-- what the facts of nodes are plays no part
pub from_gives : {A V : Type 0} (P : A → V → Type 0) (o : Outcome A) (result : Result V Untyped) (a b : List Fact) → Gives P o result a b → Answers P o result
from_gives P (Good x t) (Ok v) a b h = h.1
from_gives P (Good x t) (Err (Rule n r)) a b h = h
from_gives P (Good x t) (Err NoMemory) a b h = tt
from_gives P (Refused n r) (Ok v) a b h = h
from_gives P (Refused n r) (Err (Rule m s)) a b h = h
from_gives P (Refused n r) (Err NoMemory) a b h = tt

pub behind_facts : {A V : Type 0} (P : A → V → Type 0) (t : List Fact) (o : Outcome A) (result : Result V Untyped) → Answers P o result → Answers P (after t o) result
behind_facts P t (Good x u) (Ok v) h = h
behind_facts P t (Good x u) (Err (Rule n r)) h = h
behind_facts P t (Good x u) (Err NoMemory) h = tt
behind_facts P t (Refused n r) (Ok v) h = h
behind_facts P t (Refused n r) (Err (Rule m s)) h = h
behind_facts P t (Refused n r) (Err NoMemory) h = tt

-- where the first part went, the rest decides
pub goes : {A B V W : Type 0} (P : A → V → Type 0) (Q : B → W → Type 0) (o : Outcome A) (f : A → Outcome B) (v : V) (result : Result W Untyped) →
    Answers P o (Ok v) → ((x : A) → P x v → Answers Q (f x) result) → Answers Q (and_then o f) result
goes P Q (Good x t) f v result h k = behind_facts Q t (f x) result (k x h)
goes P Q (Refused n r) f v result h k = absurd h

-- what fails in the first part fails as a whole
pub stops : {A B V W : Type 0} (P : A → V → Type 0) (Q : B → W → Type 0) (o : Outcome A) (f : A → Outcome B) (e : Untyped) →
    Answers P o (Err e) → Answers Q (and_then o f) (Err e)
stops P Q (Good x t) f (Rule n r) h = absurd h
stops P Q (Good x t) f NoMemory h = free Q (after t (f x))
stops P Q (Refused n r) f (Rule m s) h = h
stops P Q (Refused n r) f NoMemory h = tt

-- the same value, shown otherwise
pub weaker : {A V W : Type 0} (P : A → V → Type 0) (Q : A → W → Type 0) (o : Outcome A) (v : V) (w : W) → ((x : A) → P x v → Q x w) → Answers P o (Ok v) → Answers Q o (Ok w)
weaker P Q (Good x t) v w k h = k x h
weaker P Q (Refused n r) v w k h = h

-- a refusal is the same, whatever the value shows
pub refused_same : {A V W : Type 0} (P : A → V → Type 0) (Q : A → W → Type 0) (o : Outcome A) (e : Untyped) → Answers P o (Err e) → Answers Q o (Err e)
refused_same P Q (Good x t) (Rule n r) h = h
refused_same P Q (Good x t) NoMemory h = tt
refused_same P Q (Refused n r) (Rule m s) h = h
refused_same P Q (Refused n r) NoMemory h = tt
