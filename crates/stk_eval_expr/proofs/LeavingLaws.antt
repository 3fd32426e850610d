-- What parts of a run leave, together.
use Rattle.std.proofs.Common.{◌≡◌, ◌<◌, ◌⊎◌, inl, inr, ℕ, true, false, List, [], length, ◌++◌, ℤ, refl, sym, ap, ◌∙◌, subst, append_assoc}
use Rattle.std.proofs.lemmas.List.{append-nil}
use Rattle.stk_meaning.specs.declared.entry.Entry.{Entry}
use Rattle.stk_meaning.specs.Worlds.{Ran, Went, Cut, after, and_then, gives, trace_of}
use Rattle.stk_eval_expr.specs.declared.state.State.{State}
use Rattle.stk_eval_expr.specs.Leaving.{IsOver, Ends, Stays, Leaves, AddsWithin, Adds, Bounds, Stops}

-- the trace of a run behind entries
pub trace_after : {A S : Type 0} (t : List Entry) (R : Ran A S) → trace_of (after t R) ≡ t ++ trace_of R
trace_after t (Went x r m u) = refl
trace_after t (Cut u) = refl

-- the trace of a run begins with that of its first part
abbrev trace_rest : {A B S : Type 0} → Ran A S → (A → List ℤ → S → Ran B S) → List Entry
trace_rest (Went x r m t) f = trace_of (f x r m)
trace_rest (Cut t) f = []

trace_then : {A B S : Type 0} (R : Ran A S) (f : A → List ℤ → S → Ran B S) → trace_of (and_then R f) ≡ trace_of R ++ trace_rest R f
trace_then (Went x r m t) f = trace_after t (f x r m)
trace_then (Cut t) f = sym (append-nil t)

module _ {K : Type 0} where
  -- a program that went over stays so, whatever comes behind
  pub over_still : (t u : List Entry) (s0 s1 s2 : State K) → IsOver t s0 s1 → Stays s1 s2 → s2.most ≡ s1.most → IsOver (t ++ u) s0 s2
  over_still t u s0 s1 s2 a b m = record {
    cut = b.cut;
    over = subst (λ (n : ℕ). n < length s2.entries.items) (sym m) (subst (λ (es : List Entry). s1.most < length es) (sym b.entries) a.over);
    rest = a.rest ++ u;
    is = ap (λ (es : List Entry). es ++ (a.rest ++ u)) b.entries ∙ sym (append_assoc s1.entries.items a.rest u) ∙ ap (λ (es : List Entry). es ++ u) a.is ∙ append_assoc s0.entries.items t u;
  }

  -- entries that were added before
  pub over_behind : (t u : List Entry) (s0 s1 s2 : State K) → s1.entries.items ≡ s0.entries.items ++ t → IsOver u s1 s2 → IsOver (t ++ u) s0 s2
  over_behind t u s0 s1 s2 e a = record {
    cut = a.cut;
    over = a.over;
    rest = a.rest;
    is = a.is ∙ ap (λ (es : List Entry). es ++ u) e ∙ append_assoc s0.entries.items t u;
  }

  pub over_as : (t u : List Entry) (s0 s1 : State K) → t ≡ u → IsOver t s0 s1 → IsOver u s0 s1
  over_as t u s0 s1 same a = subst (λ (es : List Entry). IsOver es s0 s1) same a

  -- a program that was not cut, with its entries bounded behind more of them
  bounded : (t : List Entry) (s0 s1 s2 : State K) → s1.cut ≡ false → s1.registers.items ≡ s0.registers.items → s1.kept ≡ s0.kept → s1.entries.items ≡ s0.entries.items ++ t → Bounds s1 s2 →
      (s2.cut ≡ s1.cut) ⊎ ((s2.cut ≡ true) × (s2.most < length s2.entries.items)) → AddsWithin t s0 s2 ⊎ IsOver t s0 s2
  bounded t s0 s1 s2 cut er ek en b (inl e) = inl (e ∙ cut, b.registers ∙ er, b.kept ∙ ek, b.entries ∙ en)
  bounded t s0 s1 s2 cut er ek en b (inr e) = inr (record { cut = e.0; over = e.1; rest = []; is = append-nil s2.entries.items ∙ b.entries ∙ en })

  pub bounded_adds : (t : List Entry) (s0 s1 s2 : State K) → s0.cut ≡ false → s1.cut ≡ s0.cut → s1.registers.items ≡ s0.registers.items → s1.kept ≡ s0.kept → s1.most ≡ s0.most → s1.entries.items ≡ s0.entries.items ++ t → Bounds s1 s2 → Adds t s0 s2
  bounded_adds t s0 s1 s2 still ec er ek em en b = record {
    goes = λ h. bounded t s0 s1 s2 (ec ∙ still) er ek en b b.verdict;
    stays = λ h. let never : true ≡ false = sym h ∙ still in absurd cc;
    most = b.most ∙ em;
  }

  -- one that is cut adds nothing, and neither does one that has nothing to add
  pub cut_adds : (t : List Entry) (s : State K) → s.cut ≡ true → Adds t s s
  cut_adds t s cut = record {
    goes = λ h. let never : true ≡ false = sym cut ∙ h in absurd cc;
    stays = λ h. record { cut = h; entries = refl };
    most = refl;
  }

  pub nothing_adds : (t : List Entry) (s : State K) → t ≡ [] → Adds t s s
  nothing_adds t s none = record {
    goes = λ h. inl (h, refl, refl, sym (append-nil s.entries.items) ∙ ap (λ (es : List Entry). s.entries.items ++ es) (sym none));
    stays = λ h. record { cut = h; entries = refl };
    most = refl;
  }

  -- what is cut stays cut
  pub stays_then : (s0 s1 s2 : State K) → Stays s0 s1 → Stays s1 s2 → Stays s0 s2
  stays_then s0 s1 s2 a b = record { cut = b.cut; entries = b.entries ∙ a.entries }

module _ {K S : Type 0} (shown : K → S) where
  -- entries that were added before
  pub ends_after : {A : Type 0} (t : List Entry) (R : Ran A S) (v : A) (s0 s1 s2 : State K) → s1.entries.items ≡ s0.entries.items ++ t → Ends shown R v s1 s2 → Ends shown (after t R) v s0 s2
  ends_after t (Went x r m u) v s0 s1 s2 e (inl g) = inl (g.0, g.1, g.2, g.3, g.4 ∙ ap (λ z. z ++ u) e ∙ append_assoc s0.entries.items t u)
  ends_after t (Cut u) v s0 s1 s2 e (inl g) = inl (g.0, g.1 ∙ ap (λ z. z ++ u) e ∙ append_assoc s0.entries.items t u)
  ends_after t R v s0 s1 s2 e (inr g) = inr (over_as (t ++ trace_of R) (trace_of (after t R)) s0 s2 (sym (trace_after t R)) (over_behind t (trace_of R) s0 s1 s2 e g))

  -- a value behind entries
  value_behind : {A : Type 0} (t : List Entry) (x y : A) (s0 s1 : State K) → y ≡ x → AddsWithin t s0 s1 ⊎ IsOver t s0 s1 → Ends shown (Went x s0.registers.items (shown s0.kept) t) y s0 s1
  value_behind t x y s0 s1 e (inl d) = inl (e, d.0, d.1, ap shown d.2, d.3)
  value_behind t x y s0 s1 e (inr d) = inr d

module _ {K S : Type 0} {shown : K → S} where
  ends_then : {A B : Type 0} (R : Ran A S) (f : A → List ℤ → S → Ran B S) (x : A) (v : B) (s0 s1 s2 : State K) → Ends shown R x s0 s1 → Leaves shown (f x s1.registers.items (shown s1.kept)) v s1 s2 → Ends shown (and_then R f) v s0 s2
  ends_then {A} {B} (Went y r m t) f x v s0 s1 s2 (inl a) b =
      let b0 = b.goes a.1 in
      let b1 = subst (λ (z : A). Ends shown (f z s1.registers.items (shown s1.kept)) v s1 s2) a.0 b0 in
      let b2 = subst (λ (z : List ℤ). Ends shown (f y z (shown s1.kept)) v s1 s2) a.2 b1 in
      let b3 = subst (λ (z : S). Ends shown (f y r z) v s1 s2) a.3 b2 in
      ends_after shown t (f y r m) v s0 s1 s2 a.4 b3
  ends_then (Cut t) f x v s0 s1 s2 (inl a) b = let still = b.stays a.0 in inl (still.cut, still.entries ∙ a.1)
  ends_then R f x v s0 s1 s2 (inr a) b = inr (over_as (trace_of R ++ trace_rest R f) (trace_of (and_then R f)) s0 s2 (sym (trace_then R f)) (over_still (trace_of R) (trace_rest R f) s0 s1 s2 a (b.stays a.cut) b.most))

  -- one part after another
  pub then_leaves : {A B : Type 0} (R : Ran A S) (f : A → List ℤ → S → Ran B S) (x : A) (v : B) (s0 s1 s2 : State K) → Leaves shown R x s0 s1 → Leaves shown (f x s1.registers.items (shown s1.kept)) v s1 s2 → Leaves shown (and_then R f) v s0 s2
  then_leaves R f x v s0 s1 s2 a b = record {
    goes = λ h. ends_then R f x v s0 s1 s2 (a.goes h) b;
    stays = λ h. let first = a.stays h in stays_then s0 s1 s2 first (b.stays first.cut);
    most = b.most ∙ a.most;
  }

  -- entries before a part
  adds_ends : {A : Type 0} (t : List Entry) (f : List ℤ → S → Ran A S) (v : A) (s0 s1 s2 : State K) → AddsWithin t s0 s1 ⊎ IsOver t s0 s1 → Leaves shown (f s1.registers.items (shown s1.kept)) v s1 s2 → Ends shown (after t (f s0.registers.items (shown s0.kept))) v s0 s2
  adds_ends t f v s0 s1 s2 (inl e) b =
      let b0 = b.goes e.0 in
      let b1 = subst (λ (z : List ℤ). Ends shown (f z (shown s1.kept)) v s1 s2) e.1 b0 in
      let b2 = subst (λ (z : K). Ends shown (f s0.registers.items (shown z)) v s1 s2) e.2 b1 in
      ends_after shown t (f s0.registers.items (shown s0.kept)) v s0 s1 s2 e.3 b2
  adds_ends t f v s0 s1 s2 (inr e) b =
      let R = f s0.registers.items (shown s0.kept) in
      inr (over_as (t ++ trace_of R) (trace_of (after t R)) s0 s2 (sym (trace_after t R)) (over_still t (trace_of R) s0 s1 s2 e (b.stays e.cut) b.most))

  pub after_leaves : {A : Type 0} (t : List Entry) (f : List ℤ → S → Ran A S) (v : A) (s0 s1 s2 : State K) → Adds t s0 s1 → Leaves shown (f s1.registers.items (shown s1.kept)) v s1 s2 → Leaves shown (after t (f s0.registers.items (shown s0.kept))) v s0 s2
  after_leaves t f v s0 s1 s2 a b = record {
    goes = λ h. adds_ends t f v s0 s1 s2 (a.goes h) b;
    stays = λ h. let first = a.stays h in stays_then s0 s1 s2 first (b.stays first.cut);
    most = b.most ∙ a.most;
  }

  pub adds_leaves : {A : Type 0} (t : List Entry) (x y : A) (s0 s1 : State K) → Adds t s0 s1 → y ≡ x → Leaves shown (Went x s0.registers.items (shown s0.kept) t) y s0 s1
  adds_leaves t x y s0 s1 a e = record { goes = λ h. value_behind shown t x y s0 s1 e (a.goes h); stays = a.stays; most = a.most }

  -- a cut behind entries
  pub adds_cut : {A : Type 0} (t : List Entry) (y : A) (s0 s1 s2 : State K) → Adds t s0 s1 → Leaves {A = A} shown (Cut []) y s1 s2 → Leaves {A = A} shown (after t (Cut [])) y s0 s2
  adds_cut t y s0 s1 s2 a b = after_leaves t (λ r m. Cut []) y s0 s1 s2 a b

  -- a value, and nothing done
  pub value_leaves : {A : Type 0} (x y : A) (s : State K) → y ≡ x → Leaves shown (gives x s.registers.items (shown s.kept)) y s s
  value_leaves x y s e = record { goes = λ h. inl (e, h, refl, refl, sym (append-nil s.entries.items)); stays = λ h. record { cut = h; entries = refl }; most = refl }

  -- a run that ends here
  pub stops_leave : {A : Type 0} (v : A) (s0 s1 : State K) → Stops s0 s1 → Leaves {A = A} shown (Cut []) v s0 s1
  stops_leave v s0 s1 a = record { goes = λ h. inl (a.cut, a.entries ∙ sym (append-nil s0.entries.items)); stays = λ h. record { cut = a.cut; entries = a.entries }; most = a.most }

  -- the same value by another name
  pub same_leaves : {A : Type 0} (R : Ran A S) (x y : A) (s0 s1 : State K) → x ≡ y → Leaves shown R x s0 s1 → Leaves shown R y s0 s1
  same_leaves R x y s0 s1 e a = subst (λ z. Leaves shown R z s0 s1) e a

  -- a value behind entries that are said otherwise
  pub adds_value : {A : Type 0} (t u : List Entry) (x y : A) (s0 s1 : State K) → u ≡ t → Adds u s0 s1 → y ≡ x → Leaves shown (Went x s0.registers.items (shown s0.kept) t) y s0 s1
  adds_value t u x y s0 s1 same a e = adds_leaves t x y s0 s1 (subst (λ (z : List Entry). Adds z s0 s1) same a) e
