-- What statements one after another leave, over plain values.
use Rattle.std.proofs.Common.{◌≡◌, inl, inr, ℕ, ◌+◌, ◌<◌, ◌≤◌, suc, Bool, true, false, if◌then◌else◌, List, [], ◌∷◌, ◌++◌, length, drop, get_or, add-one, drop-cons, Option, Some, None, ℤ, refl, sym, ap, subst, ◌∙◌, append_assoc, arith}
use Rattle.std.proofs.lemmas.List.{append-nil}
use Rattle.stk_meaning.specs.declared.entry.Entry.{Entry}
use Rattle.stk_meaning.specs.Operations.{truth}
use Rattle.stk_meaning.specs.Worlds.{Ran, Went, Cut, after, and_then, gives, Flow, Normal, Break, Continue, Return, next, give_back, restored, Turned, Another, Ended, again, behind_body, left_switch, repeated, trace_of}
use Rattle.stk_eval_expr.specs.declared.state.State.{State}
use Rattle.stk_eval_expr.specs.Leaving.{EndsWithin, Ends, Leaves, Stops, from}
use Rattle.stk_eval_expr.proofs.LeavingLaws.{trace_after, over_still, over_as, stays_then, ends_after, then_leaves, value_leaves, stops_leave}
use Rattle.stk_exec_stmt.specs.Ending.{is_normal, past_switch, loop_end, RunsTo}

-- what is left of a list begins with the element at this place
pub next_of : {A : Type 0} (xs : List A) (i : ℕ) (d : A) → i < length xs → d ≡ get_or xs i d → drop i xs ≡ d ∷ drop (i + 1) xs
next_of xs i d h e = rw add-one (drop-cons xs i d h ∙ ap (λ (z : _). z ∷ drop (suc i) xs) (sym e))

-- nothing before a run
after_none : {A S : Type 0} (R : Ran A S) → after [] R ≡ R
after_none (Went x r m t) = refl
after_none (Cut t) = refl

-- a body that is entered
after_twice : {A S : Type 0} (t u : List Entry) (R : Ran A S) → after (t ++ u) R ≡ after t (after u R)
after_twice t u (Went x r m v) = ap (Went x r m) (append_assoc t u v)
after_twice t u (Cut v) = ap Cut (append_assoc t u v)

behind_after : {S : Type 0} (t : List Entry) (R : Ran Flow S) (f : List ℤ → S → Ran Turned S) → behind_body (after t R) f ≡ after t (behind_body R f)
behind_after t (Went Normal r m u) f = after_twice t u (f r m)
behind_after t (Went Continue r m u) f = after_twice t u (f r m)
behind_after t (Went Break r m u) f = refl
behind_after t (Went Return r m u) f = refl
behind_after t (Cut u) f = refl

-- a turn, and what comes after it
again_is : {S : Type 0} (R : Ran Turned S) (h : List ℤ → S → Ran Flow S) → again R h ≡ and_then R (λ x r m. again (gives x r m) h)
again_is (Went Another r m t) h = ap (after t) (sym (after_none (h r m)))
again_is (Went (Ended f) r m t) h = ap (Went f r m) (sym (append-nil t))
again_is (Cut t) h = refl

-- the trace of what comes behind a statement, where something does
abbrev next_rest : {S : Type 0} → Ran Flow S → (List ℤ → S → Ran Flow S) → List Entry
next_rest (Went Normal r m t) f = trace_of (f r m)
next_rest (Went Break r m t) f = []
next_rest (Went Continue r m t) f = []
next_rest (Went Return r m t) f = []
next_rest (Cut t) f = []

trace_next : {S : Type 0} (R : Ran Flow S) (f : List ℤ → S → Ran Flow S) → trace_of R ++ next_rest R f ≡ trace_of (next R f)
trace_next (Went Normal r m t) f = sym (trace_after t (f r m))
trace_next (Went Break r m t) f = append-nil t
trace_next (Went Continue r m t) f = append-nil t
trace_next (Went Return r m t) f = append-nil t
trace_next (Cut t) f = append-nil t

abbrev behind_rest : {S : Type 0} → Ran Flow S → (List ℤ → S → Ran Turned S) → List Entry
behind_rest (Went Normal r m t) f = trace_of (f r m)
behind_rest (Went Continue r m t) f = trace_of (f r m)
behind_rest (Went Break r m t) f = []
behind_rest (Went Return r m t) f = []
behind_rest (Cut t) f = []

trace_behind : {S : Type 0} (R : Ran Flow S) (f : List ℤ → S → Ran Turned S) → trace_of R ++ behind_rest R f ≡ trace_of (behind_body R f)
trace_behind (Went Normal r m t) f = sym (trace_after t (f r m))
trace_behind (Went Continue r m t) f = sym (trace_after t (f r m))
trace_behind (Went Break r m t) f = append-nil t
trace_behind (Went Return r m t) f = append-nil t
trace_behind (Cut t) f = append-nil t

trace_scope : {A S : Type 0} (ks : List ℕ) (old : List ℤ) (R : Ran A S) → trace_of R ++ [] ≡ trace_of (give_back ks old R)
trace_scope ks old (Went x r m t) = append-nil t
trace_scope ks old (Cut t) = append-nil t

trace_left : {S : Type 0} (R : Ran Flow S) → trace_of R ++ [] ≡ trace_of (left_switch R)
trace_left (Went Normal r m t) = append-nil t
trace_left (Went Break r m t) = append-nil t
trace_left (Went Continue r m t) = append-nil t
trace_left (Went Return r m t) = append-nil t
trace_left (Cut t) = append-nil t

-- the entries of a run that can't have too many are its trace
pub whole_trace : {S : Type 0} (run : Ran Flow S) (most : ℕ) (entries : List Entry) (flow : Option Flow) → length entries ≤ most → RunsTo run most entries flow → entries ≡ trace_of run
whole_trace run most entries flow h (inl e) = e.0
whole_trace run most entries flow h (inr e) = absurd (omega (arith, h, e.0))

module _ {K S : Type 0} (shown : K → S) where
  -- one that ended otherwise ends the whole
  ends_stop : (R : Ran Flow S) (f : List ℤ → S → Ran Flow S) (v : Flow) (s0 s1 : State K) → is_normal v ≡ false → EndsWithin shown R v s0 s1 → EndsWithin shown (next R f) v s0 s1
  ends_stop (Went Normal r m t) f v s0 s1 e a = let never : true ≡ false = sym (ap is_normal a.0) ∙ e in absurd cc
  ends_stop (Went Break r m t) f v s0 s1 e a = a
  ends_stop (Went Continue r m t) f v s0 s1 e a = a
  ends_stop (Went Return r m t) f v s0 s1 e a = a
  ends_stop (Cut t) f v s0 s1 e a = a

  -- a scope gives registers back
  ends_scope : {A : Type 0} (ks : List ℕ) (old : List ℤ) (R : Ran A S) (v : A) (s0 s1 s2 : State K) → EndsWithin shown R v s0 s1 → s2.cut ≡ s1.cut → s2.registers.items ≡ restored ks old s1.registers.items → (shown s2.kept) ≡ (shown s1.kept) → s2.entries.items ≡ s1.entries.items → EndsWithin shown (give_back ks old R) v s0 s2
  ends_scope ks old (Went x r m t) v s0 s1 s2 a c e k n = (a.0, c ∙ a.1, e ∙ ap (restored ks old) a.2, k ∙ a.3, n ∙ a.4)
  ends_scope ks old (Cut t) v s0 s1 s2 a c e k n = (c ∙ a.0, n ∙ a.1)

  -- a body that ends its loop
  ends_loop : (R : Ran Flow S) (f : List ℤ → S → Ran Turned S) (x y : Flow) (s0 s1 : State K) → Some y ≡ loop_end x → EndsWithin shown R x s0 s1 → EndsWithin shown (behind_body R f) (Ended y) s0 s1
  ends_loop (Went Normal r m t) f x y s0 s1 e a = let never : Some y ≡ None = e ∙ ap loop_end a.0 in absurd cc
  ends_loop (Went Continue r m t) f x y s0 s1 e a = let never : Some y ≡ None = e ∙ ap loop_end a.0 in absurd cc
  ends_loop (Went Break r m t) f x y s0 s1 e a = let some : Some y ≡ Some Normal = e ∙ ap loop_end a.0 in let same : y ≡ Normal = cc in (ap Ended same, a.1, a.2, a.3, a.4)
  ends_loop (Went Return r m t) f x y s0 s1 e a = let some : Some y ≡ Some Return = e ∙ ap loop_end a.0 in let same : y ≡ Return = cc in (ap Ended same, a.1, a.2, a.3, a.4)
  ends_loop (Cut t) f x y s0 s1 e a = a

  -- the sections of a `switch`
  ends_left : (R : Ran Flow S) (x : Flow) (s0 s1 : State K) → EndsWithin shown R x s0 s1 → EndsWithin shown (left_switch R) (past_switch x) s0 s1
  ends_left (Went Normal r m t) x s0 s1 a = (ap past_switch a.0, a.1, a.2, a.3, a.4)
  ends_left (Went Continue r m t) x s0 s1 a = (ap past_switch a.0, a.1, a.2, a.3, a.4)
  ends_left (Went Break r m t) x s0 s1 a = (ap past_switch a.0, a.1, a.2, a.3, a.4)
  ends_left (Went Return r m t) x s0 s1 a = (ap past_switch a.0, a.1, a.2, a.3, a.4)
  ends_left (Cut t) x s0 s1 a = a

  -- a loop begins with registers and a state of its own
  ends_moved : {A : Type 0} (R : Ran A S) (v : A) (s0 s1 s2 : State K) → s1.entries.items ≡ s0.entries.items → Ends shown R v s1 s2 → Ends shown R v s0 s2
  ends_moved (Went x r m t) v s0 s1 s2 en (inl e) = inl (e.0, e.1, e.2, e.3, e.4 ∙ ap (λ z. z ++ t) en)
  ends_moved (Cut t) v s0 s1 s2 en (inl e) = inl (e.0, e.1 ∙ ap (λ z. z ++ t) en)
  ends_moved R v s0 s1 s2 en (inr e) = inr (record { cut = e.cut; over = e.over; rest = e.rest; is = e.is ∙ ap (λ z. z ++ trace_of R) en })

  -- the same steps as those of a part, or more entries than there may be
  ends_grown : {A B : Type 0} (R : Ran A S) (Q : Ran B S) (x : A) (y : B) (u : List Entry) (s0 s1 : State K) → (EndsWithin shown R x s0 s1 → EndsWithin shown Q y s0 s1) → trace_of R ++ u ≡ trace_of Q → Ends shown R x s0 s1 → Ends shown Q y s0 s1
  ends_grown R Q x y u s0 s1 f e (inl a) = inl (f a)
  ends_grown R Q x y u s0 s1 f e (inr a) = inr (over_as (trace_of R ++ u) (trace_of Q) s0 s1 e (over_still (trace_of R) u s0 s1 s1 a (record { cut = a.cut; entries = refl }) refl))

  -- a scope that gives registers back, or more entries than there may be
  ends_given : {A : Type 0} (ks : List ℕ) (old : List ℤ) (R : Ran A S) (v : A) (s0 s1 s2 : State K) → Ends shown R v s0 s1 → s2.cut ≡ s1.cut → s2.registers.items ≡ restored ks old s1.registers.items → s2.kept ≡ s1.kept → s2.entries.items ≡ s1.entries.items → s2.most ≡ s1.most → Ends shown (give_back ks old R) v s0 s2
  ends_given ks old R v s0 s1 s2 (inl a) c e k n m = inl (ends_scope ks old R v s0 s1 s2 a c e (ap shown k) n)
  ends_given ks old R v s0 s1 s2 (inr a) c e k n m = inr (over_as (trace_of R ++ []) (trace_of (give_back ks old R)) s0 s2 (trace_scope ks old R) (over_still (trace_of R) [] s0 s1 s2 a (record { cut = c ∙ a.cut; entries = n }) m))

  -- a whole run: its trace and how it ended, or more entries than there may be
  whole_ends : (R : Ran Flow S) (v : Flow) (s0 s1 : State K) → s0.entries.items ≡ [] → Ends shown R v s0 s1 → s1.most ≡ s0.most → RunsTo R s0.most s1.entries.items (if s1.cut then None else Some v)
  whole_ends (Went x r m t) v s0 s1 n (inl e) b = inl (e.4 ∙ ap (λ z. z ++ t) n, ap (λ (c : Bool). if c then None else Some v) e.1 ∙ ap Some e.0)
  whole_ends (Cut t) v s0 s1 n (inl e) b = inl (e.1 ∙ ap (λ z. z ++ t) n, ap (λ (c : Bool). if c then None else Some v) e.0)
  whole_ends R v s0 s1 n (inr e) b = inr (subst (λ (k : ℕ). k < length s1.entries.items) b e.over, (e.rest, e.is ∙ ap (λ z. z ++ trace_of R) n))

module _ {K S : Type 0} {shown : K → S} where
  -- the same steps as those of a part
  pub grown : {A B : Type 0} (R : Ran A S) (Q : Ran B S) (x : A) (y : B) (u : List Entry) (s0 s1 : State K) → (EndsWithin shown R x s0 s1 → EndsWithin shown Q y s0 s1) → trace_of R ++ u ≡ trace_of Q → Leaves shown R x s0 s1 → Leaves shown Q y s0 s1
  grown R Q x y u s0 s1 f e a = record { goes = λ h. ends_grown shown R Q x y u s0 s1 f e (a.goes h); stays = a.stays; most = a.most }

  -- a value of another type by the same steps
  pub revalued : {A B : Type 0} (x : A) (y : B) (r : List ℤ) (m : S) (t : List Entry) (s0 s1 : State K) → Leaves shown (Went x r m t) x s0 s1 → Leaves shown (Went y r m t) y s0 s1
  revalued x y r m t s0 s1 a = grown (Went x r m t) (Went y r m t) x y [] s0 s1 (λ e. (refl, e.1, e.2, e.3, e.4)) (append-nil t) a

  -- after a statement that ended as it should comes what follows
  ends_next : (R : Ran Flow S) (f : List ℤ → S → Ran Flow S) (v : Flow) (s0 s1 s2 : State K) → Ends shown R Normal s0 s1 → Leaves shown (f s1.registers.items (shown s1.kept)) v s1 s2 → Ends shown (next R f) v s0 s2
  ends_next (Went Normal r m t) f v s0 s1 s2 (inl a) b =
      let b0 = b.goes a.1 in
      let b1 = subst (λ (z : List ℤ). Ends shown (f z (shown s1.kept)) v s1 s2) a.2 b0 in
      let b2 = subst (λ (z : S). Ends shown (f r z) v s1 s2) a.3 b1 in
      ends_after shown t (f r m) v s0 s1 s2 a.4 b2
  ends_next (Went Break r m t) f v s0 s1 s2 (inl a) b = absurd cc
  ends_next (Went Continue r m t) f v s0 s1 s2 (inl a) b = absurd cc
  ends_next (Went Return r m t) f v s0 s1 s2 (inl a) b = absurd cc
  ends_next (Cut t) f v s0 s1 s2 (inl a) b = let still = b.stays a.0 in inl (still.cut, still.entries ∙ a.1)
  ends_next R f v s0 s1 s2 (inr a) b = inr (over_as (trace_of R ++ next_rest R f) (trace_of (next R f)) s0 s2 (trace_next R f) (over_still (trace_of R) (next_rest R f) s0 s1 s2 a (b.stays a.cut) b.most))

  pub next_leaves : (R : Ran Flow S) (f : List ℤ → S → Ran Flow S) (x v : Flow) (s0 s1 s2 : State K) → is_normal x ≡ true → Leaves shown R x s0 s1 → Leaves shown (f s1.registers.items (shown s1.kept)) v s1 s2 → Leaves shown (next R f) v s0 s2
  next_leaves R f Normal v s0 s1 s2 e a b = record {
    goes = λ h. ends_next R f v s0 s1 s2 (a.goes h) b;
    stays = λ h. let first = a.stays h in stays_then s0 s1 s2 first (b.stays first.cut);
    most = b.most ∙ a.most;
  }
  next_leaves R f Break v s0 s1 s2 e a b = absurd cc
  next_leaves R f Continue v s0 s1 s2 e a b = absurd cc
  next_leaves R f Return v s0 s1 s2 e a b = absurd cc

  pub stop_leaves : (R : Ran Flow S) (f : List ℤ → S → Ran Flow S) (v : Flow) (s0 s1 : State K) → is_normal v ≡ false → Leaves shown R v s0 s1 → Leaves shown (next R f) v s0 s1
  stop_leaves R f v s0 s1 e a = grown R (next R f) v v (next_rest R f) s0 s1 (ends_stop shown R f v s0 s1 e) (trace_next R f) a

  -- one of two branches, by a controlling expression
  pub tested_leaves : {A : Type 0} (R : Ran ℤ S) (f h : List ℤ → S → Ran A S) (x : ℤ) (b : Bool) (v : A) (s0 s1 s2 : State K) → b ≡ truth x → Leaves shown R x s0 s1 → Leaves shown (if b then from shown f s1 else from shown h s1) v s1 s2 → Leaves shown (and_then R (λ x r m. if truth x then f r m else h r m)) v s0 s2
  tested_leaves R f h x b v s0 s1 s2 is a c =
      then_leaves R (λ x r m. if truth x then f r m else h r m) x v s0 s1 s2 a (subst (λ (u : Bool). Leaves shown (if u then from shown f s1 else from shown h s1) v s1 s2) is c)

  pub scope_leaves : {A : Type 0} (ks : List ℕ) (old : List ℤ) (R : Ran A S) (v : A) (s0 s1 s2 : State K) → Leaves shown R v s0 s1 → s2.cut ≡ s1.cut → s2.registers.items ≡ restored ks old s1.registers.items → s2.kept ≡ s1.kept → s2.entries.items ≡ s1.entries.items → s2.most ≡ s1.most → Leaves shown (give_back ks old R) v s0 s2
  scope_leaves ks old R v s0 s1 s2 a c e k n m = record {
    goes = λ h. ends_given shown ks old R v s0 s1 s2 (a.goes h) c e k n m;
    stays = λ h. let still = a.stays h in record { cut = c ∙ still.cut; entries = n ∙ still.entries };
    most = m ∙ a.most;
  }

  -- behind the body of a loop that goes on
  ends_behind : (R : Ran Flow S) (f : List ℤ → S → Ran Turned S) (x : Flow) (v : Turned) (s0 s1 s2 : State K) → None ≡ loop_end x → Ends shown R x s0 s1 → Leaves shown (f s1.registers.items (shown s1.kept)) v s1 s2 → Ends shown (behind_body R f) v s0 s2
  ends_behind (Went Normal r m t) f x v s0 s1 s2 e (inl a) b =
      let b0 = b.goes a.1 in
      let b1 = subst (λ (z : List ℤ). Ends shown (f z (shown s1.kept)) v s1 s2) a.2 b0 in
      let b2 = subst (λ (z : S). Ends shown (f r z) v s1 s2) a.3 b1 in
      ends_after shown t (f r m) v s0 s1 s2 a.4 b2
  ends_behind (Went Continue r m t) f x v s0 s1 s2 e (inl a) b =
      let b0 = b.goes a.1 in
      let b1 = subst (λ (z : List ℤ). Ends shown (f z (shown s1.kept)) v s1 s2) a.2 b0 in
      let b2 = subst (λ (z : S). Ends shown (f r z) v s1 s2) a.3 b1 in
      ends_after shown t (f r m) v s0 s1 s2 a.4 b2
  ends_behind (Went Break r m t) f x v s0 s1 s2 e (inl a) b = let never : None ≡ Some Normal = e ∙ ap loop_end a.0 in absurd cc
  ends_behind (Went Return r m t) f x v s0 s1 s2 e (inl a) b = let never : None ≡ Some Return = e ∙ ap loop_end a.0 in absurd cc
  ends_behind (Cut t) f x v s0 s1 s2 e (inl a) b = let still = b.stays a.0 in inl (still.cut, still.entries ∙ a.1)
  ends_behind R f x v s0 s1 s2 e (inr a) b = inr (over_as (trace_of R ++ behind_rest R f) (trace_of (behind_body R f)) s0 s2 (trace_behind R f) (over_still (trace_of R) (behind_rest R f) s0 s1 s2 a (b.stays a.cut) b.most))

  behind_leaves : (R : Ran Flow S) (f : List ℤ → S → Ran Turned S) (x : Flow) (v : Turned) (s0 s1 s2 : State K) → None ≡ loop_end x → Leaves shown R x s0 s1 → Leaves shown (f s1.registers.items (shown s1.kept)) v s1 s2 → Leaves shown (behind_body R f) v s0 s2
  behind_leaves R f x v s0 s1 s2 e a b = record {
    goes = λ h. ends_behind R f x v s0 s1 s2 e (a.goes h) b;
    stays = λ h. let first = a.stays h in stays_then s0 s1 s2 first (b.stays first.cut);
    most = b.most ∙ a.most;
  }

  loop_leaves : (R : Ran Flow S) (f : List ℤ → S → Ran Turned S) (x y : Flow) (s0 s1 : State K) → Some y ≡ loop_end x → Leaves shown R x s0 s1 → Leaves shown (behind_body R f) (Ended y) s0 s1
  loop_leaves R f x y s0 s1 e a = grown R (behind_body R f) x (Ended y) (behind_rest R f) s0 s1 (ends_loop shown R f x y s0 s1 e) (trace_behind R f) a

  pub entered_goes_on : (t : List Entry) (R : Ran Flow S) (f : List ℤ → S → Ran Turned S) (x : Flow) (v : Turned) (s0 s1 s2 : State K) → None ≡ loop_end x → Leaves shown (after t R) x s0 s1 → Leaves shown (f s1.registers.items (shown s1.kept)) v s1 s2 → Leaves shown (after t (behind_body R f)) v s0 s2
  entered_goes_on t R f x v s0 s1 s2 e a b = subst (λ (u : Ran Turned S). Leaves shown u v s0 s2) (behind_after t R f) (behind_leaves (after t R) f x v s0 s1 s2 e a b)

  pub entered_ends : (t : List Entry) (R : Ran Flow S) (f : List ℤ → S → Ran Turned S) (x y : Flow) (s0 s1 : State K) → Some y ≡ loop_end x → Leaves shown (after t R) x s0 s1 → Leaves shown (after t (behind_body R f)) (Ended y) s0 s1
  entered_ends t R f x y s0 s1 e a = subst (λ (u : Ran Turned S). Leaves shown u (Ended y) s0 s1) (behind_after t R f) (loop_leaves (after t R) f x y s0 s1 e a)

  pub left_leaves : (R : Ran Flow S) (x : Flow) (s0 s1 : State K) → Leaves shown R x s0 s1 → Leaves shown (left_switch R) (past_switch x) s0 s1
  left_leaves R x s0 s1 a = grown R (left_switch R) x (past_switch x) [] s0 s1 (ends_left shown R x s0 s1) (trace_left R) a

  pub again_leaves : (R : Ran Turned S) (h : List ℤ → S → Ran Flow S) (x : Turned) (v : Flow) (s0 s1 s2 : State K) → Leaves shown R x s0 s1 → Leaves shown (again (gives x s1.registers.items (shown s1.kept)) h) v s1 s2 → Leaves shown (again R h) v s0 s2
  again_leaves R h x v s0 s1 s2 a b = subst (λ (u : Ran Flow S). Leaves shown u v s0 s2) (sym (again_is R h)) (then_leaves R (λ x r m. again (gives x r m) h) x v s0 s1 s2 a b)

  pub begun_leaves : {A : Type 0} (f : List ℤ → S → Ran A S) (r : List ℤ) (m : S) (v : A) (s0 s1 s2 : State K) → s1.registers.items ≡ r → shown s1.kept ≡ m → s1.cut ≡ s0.cut → s1.entries.items ≡ s0.entries.items → s1.most ≡ s0.most → Leaves shown (from shown f s1) v s1 s2 → Leaves shown (f r m) v s0 s2
  begun_leaves {A} f r m v s0 s1 s2 er em ec en eb a =
      let a0 = subst (λ (z : List ℤ). Leaves shown (f z (shown s1.kept)) v s1 s2) er a in
      let a1 = subst (λ (z : S). Leaves shown (f r z) v s1 s2) em a0 in
      record {
        goes = λ h. ends_moved shown (f r m) v s0 s1 s2 en (a1.goes (ec ∙ h));
        stays = λ h. let still = a1.stays (ec ∙ h) in record { cut = still.cut; entries = still.entries ∙ en };
        most = a1.most ∙ eb;
      }

  -- a turn that asks for another one, and what is left of the loop
  pub another_leaves : (turn : List ℤ → S → Ran Turned S) (n : ℕ) (x : Turned) (v : Flow) (s0 s1 s2 : State K) → x ≡ Another → Leaves shown (from shown turn s0) x s0 s1 → Leaves shown (from shown (repeated n turn) s1) v s1 s2 → Leaves shown (from shown (repeated (suc n) turn) s0) v s0 s2
  another_leaves turn n x v s0 s1 s2 is a b =
      let a0 = subst (λ (u : Turned). Leaves shown (from shown turn s0) u s0 s1) is a in
      again_leaves (from shown turn s0) (repeated n turn) Another v s0 s1 s2 a0 (subst (λ (u : Ran Flow S). Leaves shown u v s1 s2) (sym (after_none (from shown (repeated n turn) s1))) b)

  -- a turn that ends the loop
  pub ended_leaves : (turn : List ℤ → S → Ran Turned S) (n : ℕ) (x : Turned) (v : Flow) (s0 s1 : State K) → x ≡ Ended v → Leaves shown (from shown turn s0) x s0 s1 → Leaves shown (from shown (repeated (suc n) turn) s0) v s0 s1
  ended_leaves turn n x v s0 s1 is a =
      let a0 = subst (λ (u : Turned). Leaves shown (from shown turn s0) u s0 s1) is a in
      again_leaves (from shown turn s0) (repeated n turn) (Ended v) v s0 s1 s1 a0 (value_leaves v v s1 refl)

  -- a loop without a turn left
  pub spent_leaves : (turn : List ℤ → S → Ran Turned S) (n : ℕ) (v : Flow) (s0 s1 : State K) → n ≡ 0 → Stops s0 s1 → Leaves shown (from shown (repeated n turn) s0) v s0 s1
  spent_leaves turn n v s0 s1 is a = subst (λ (k : ℕ). Leaves shown (from shown (repeated k turn) s0) v s0 s1) (sym is) (stops_leave v s0 s1 a)

  pub whole_leaves : (R : Ran Flow S) (v : Flow) (s0 s1 : State K) → s0.cut ≡ false → s0.entries.items ≡ [] → Leaves shown R v s0 s1 → RunsTo R s0.most s1.entries.items (if s1.cut then None else Some v)
  whole_leaves R v s0 s1 c n a = whole_ends shown R v s0 s1 n (a.goes c) a.most
