-- What a run gives, how one part of it follows another, and how the outside answers it: path runs and executions are
-- one definition and differ in their world alone (C11 5.1.2.3).
use Rattle.std.specs.Prelude.{ℕ, zero, suc, Bool, List, [], ◌∷◌, ◌++◌, Option, Some, None, ℤ, pos, get_or, set}
use Rattle.stk_ctype.specs.declared.kind.IntKind.{IntKind}
use Rattle.stk_ctype.specs.Types.{TypeTree}
use Rattle.stk_meaning.specs.declared.entry.Entry.{Entry}
use Rattle.stk_meaning.specs.declared.entry.Entry.TheVariants.{Enter}
use Rattle.stk_meaning.specs.Places.{Target}

-- what a run of a part gives: a value, the registers by the numbers of their declarators, the world's state and the
-- entries made; or the entries up to where it is cut
pub data Ran (A S : Type 0) : Type 0 where
  Went : A → List ℤ → S → List Entry → Ran A S
  Cut : List Entry → Ran A S

-- How the outside answers: the address of an object; what a read at a node gives in a kind, and what a store changes,
-- for a place by name and its address; the number that a call at a node gives whose result has this type, or none,
-- which cuts the run; the writes of the outside, by a copy or the initialiser of a local array or struct; the number of
-- a register without initialiser; the declaration of a kept object without initialiser; what a loop first sets its
-- registers to, what it forgets, and how many turns it has at most.
pub record World (S : Type 0) : Type 0 where
  pub address : ℕ → ℕ
  pub load : Target → ℕ → IntKind → ℕ → S → ℤ × S
  pub store : Target → IntKind → ℕ → ℤ → S → S
  pub call : ℕ → TypeTree → S → Option (ℤ × S)
  pub write : S → Option S
  pub unset : ℕ → IntKind → S → Option (ℤ × S)
  pub begin_kept : ℕ → S → S
  pub reset : ℕ → List ℕ → List ℤ → List ℤ
  pub forget : (ℕ → Bool) → S → S
  pub turns : ℕ

-- how a statement ends (C11 6.8.6)
pub data Flow : Type 0 where
  Normal : Flow
  Break : Flow
  Continue : Flow
  Return : Flow

-- the entries of a run
abbrev pub trace_of : {A S : Type 0} → Ran A S → List Entry
trace_of (Went x r m t) = t
trace_of (Cut t) = t

-- a run behind entries
abbrev pub after : {A S : Type 0} → List Entry → Ran A S → Ran A S
after t (Went x r m u) = Went x r m (t ++ u)
after t (Cut u) = Cut (t ++ u)

-- one run after another
abbrev pub and_then : {A B S : Type 0} → Ran A S → (A → List ℤ → S → Ran B S) → Ran B S
and_then (Went x r m t) f = after t (f x r m)
and_then (Cut t) f = Cut t

-- a value, and nothing done
abbrev pub gives : {A S : Type 0} → A → List ℤ → S → Ran A S
gives x r m = Went x r m []

-- a run that enters a branch
abbrev pub entered : {A S : Type 0} → ℕ → Ran A S → Ran A S
entered k run = after (Enter k ∷ []) run

-- the world's number with the world's new state
abbrev pub told : {S : Type 0} → ℤ × S → List ℤ → Ran ℤ S
told x r = Went x.0 r x.1 []

-- the same where the world may have no answer left
abbrev pub answered : {S : Type 0} → Option (ℤ × S) → List ℤ → Ran ℤ S
answered None r = Cut []
answered (Some x) r = Went x.0 r x.1 []

-- a value behind the writes of the outside
abbrev pub written : {A S : Type 0} → A → Option S → List ℤ → Ran A S
written x None r = Cut []
written x (Some m) r = Went x r m []

-- the number of a register
abbrev pub register : ℕ → List ℤ → ℤ
register k r = get_or r k (pos 0)

-- what comes after a statement, where it ends as it should
abbrev pub next : {S : Type 0} → Ran Flow S → (List ℤ → S → Ran Flow S) → Ran Flow S
next (Went Normal r m t) f = after t (f r m)
next (Went Break r m t) f = Went Break r m t
next (Went Continue r m t) f = Went Continue r m t
next (Went Return r m t) f = Went Return r m t
next (Cut t) f = Cut t

-- some registers as they were
abbrev pub restored : List ℕ → List ℤ → List ℤ → List ℤ
restored [] old r = r
restored (k ∷ ks) old r = set (restored ks old r) k (register k old)

-- a scope gives back the registers that it declares, however it ends: no run can see it, since a register is read
-- behind its declarator and in its scope alone
abbrev pub give_back : {A S : Type 0} → List ℕ → List ℤ → Ran A S → Ran A S
give_back ks old (Went x r m t) = Went x (restored ks old r) m t
give_back ks old (Cut t) = Cut t

-- how a turn of a loop ends: it asks for another, or it ends the loop
pub data Turned : Type 0 where
  Another : Turned
  Ended : Flow → Turned

-- what comes after a turn
abbrev pub again : {S : Type 0} → Ran Turned S → (List ℤ → S → Ran Flow S) → Ran Flow S
again (Went Another r m t) f = after t (f r m)
again (Went (Ended flow) r m t) f = Went flow r m t
again (Cut t) f = Cut t

-- at most so many turns, and then a cut
abbrev pub repeated : {S : Type 0} → ℕ → (List ℤ → S → Ran Turned S) → List ℤ → S → Ran Flow S
repeated zero turn r m = Cut []
repeated (suc n) turn r m = again (turn r m) (repeated n turn)

-- what comes after the body of a loop: its step, or its test; a `break` ends the loop as it should (C11 6.8.6.2,
-- 6.8.6.3)
abbrev pub behind_body : {S : Type 0} → Ran Flow S → (List ℤ → S → Ran Turned S) → Ran Turned S
behind_body (Went Normal r m t) f = after t (f r m)
behind_body (Went Continue r m t) f = after t (f r m)
behind_body (Went Break r m t) f = Went (Ended Normal) r m t
behind_body (Went Return r m t) f = Went (Ended Return) r m t
behind_body (Cut t) f = Cut t

-- a `break` in a `switch` ends it as it should (C11 6.8.6.3)
abbrev pub left_switch : {S : Type 0} → Ran Flow S → Ran Flow S
left_switch (Went Normal r m t) = Went Normal r m t
left_switch (Went Break r m t) = Went Normal r m t
left_switch (Went Continue r m t) = Went Continue r m t
left_switch (Went Return r m t) = Went Return r m t
left_switch (Cut t) = Cut t
