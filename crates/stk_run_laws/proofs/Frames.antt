-- Parts that are visited in another order, or in another role.
use Rattle.std.proofs.Common.{◌≡◌, ℕ, Bool, true, false, ◌||◌, List, ℤ, refl, inl, inr}
use Rattle.stk_tree.specs.Syntax.{ExprTree, ExprFormTree, StmtTree}
use Rattle.stk_tree.specs.Syntax as s
use Rattle.stk_tree.specs.Parts.{bare}
use Rattle.stk_meaning.specs.declared.entry.Entry.{Entry}
use Rattle.stk_meaning.specs.Typings.{Typing, node_of}
use Rattle.stk_meaning.specs.Visits.{Role, reading, as_arm, as_test, inside, at_expression, Visits, no_visit, one_visit, both_visits, collected, expression_visits, form_visits, statement_visits}
use Rattle.stk_meaning.specs.Changes.{changes}
use Rattle.stk_meaning.specs.Worlds.{Ran, Went, Cut, after, and_then}
use Rattle.stk_meaning.specs.Keys.{visit_keys}
use Rattle.stk_meaning.specs.Paths.{InputMap, KeptNumbers}
use Rattle.stk_meaning.specs.Executions.{Outside}
use Rattle.stk_run_laws.proofs.Nodes.{Stands, Apart, in_either}
use Rattle.stk_run_laws.proofs.Maps.{Ground, Good, good_left, good_right}
use Rattle.stk_run_laws.proofs.Join.{EndsIn}
use Rattle.stk_run_laws.proofs.Same.{or_left, or_right}
use Rattle.stk_run_laws.proofs.Parts.{Part, Reframes, part_as, part_then, part_went, reframes_left, reframes_then}

-- the nodes strictly inside an expression, parentheses aside, and those of the expression and its parentheses
abbrev pub inner_visits : Typing → Role → ExprTree → Visits
inner_visits ty role (s.expression n (s.paren e)) = inner_visits ty (inside role) e
inner_visits ty role (s.expression n f) = form_visits ty n.number role f

abbrev pub outer_visits : Typing → Role → ExprTree → Visits
outer_visits ty role (s.expression n (s.paren e)) = both_visits (outer_visits ty (inside role) e) (one_visit (at_expression n.number role (s.paren e)))
outer_visits ty role (s.expression n f) = one_visit (at_expression n.number role f)

or_both : (a b : Bool) → a ≡ false → b ≡ false → a || b ≡ false
or_both true b p q = absurd cc
or_both false b p q = q

module _ (c : Ground) where
  pub reframes_refl : (v : Visits) → Reframes c v v
  reframes_refl v = record { good = λ h. h; stands = λ k h. h; changes = λ x h. h }

  -- facts of two parts make facts of both
  good_both : (v w : Visits) → Apart v w → Good c v → Good c w → Good c (both_visits v w)
  good_both v w h a b = record {
    ground = a.ground;
    distinct = (a.distinct, b.distinct, h);
    listed = λ x i. elim (in_either x (collected (visit_keys c.setting) v) (collected (visit_keys c.setting) w) i) [ inl j ↦ a.listed x j | inr j ↦ b.listed x j ];
    typed = (a.typed, b.typed);
  }

  -- a first part that is visited otherwise, and a second one
  pub reframes_first : (v v' w : Visits) → Reframes c v v' → Reframes c (both_visits v w) (both_visits v' w)
  reframes_first v v' w a = record {
    good = λ h. good_both v w (record { by = λ k p q. h.distinct.2.by k (a.stands k p) q }) (a.good (good_left c v' w h)) (good_right c v' w h);
    stands = λ k h. elim h [ inl i ↦ inl (a.stands k i) | inr i ↦ inr i ];
    changes = λ x h. or_both (changes c.setting v x) (changes c.setting w x) (a.changes x (or_left (changes c.setting v' x) (changes c.setting w x) h)) (or_right (changes c.setting v' x) (changes c.setting w x) h);
  }

  pub reframes_swapped : (v w : Visits) → Reframes c (both_visits v w) (both_visits w v)
  reframes_swapped v w = record {
    good = λ h. good_both v w (record { by = λ k p q. h.distinct.2.by k q p }) (good_right c w v h) (good_left c w v h);
    stands = λ k h. elim h [ inl i ↦ inr i | inr i ↦ inl i ];
    changes = λ x h. or_both (changes c.setting v x) (changes c.setting w x) (or_right (changes c.setting w x) (changes c.setting v x) h) (or_left (changes c.setting w x) (changes c.setting v x) h);
  }

  pub reframes_second : (v w w' : Visits) → Reframes c w w' → Reframes c (both_visits v w) (both_visits v w')
  reframes_second v w w' a =
      reframes_then c (both_visits v w) (both_visits w v) (both_visits v w') (reframes_swapped v w)
      (reframes_then c (both_visits w v) (both_visits w' v) (both_visits v w') (reframes_first w w' v a) (reframes_swapped w' v))

  pub reframes_grouped : (v w x : Visits) → Reframes c (both_visits v (both_visits w x)) (both_visits (both_visits v w) x)
  reframes_grouped v w x = record {
    good = λ h.
        let vw = good_left c (both_visits v w) x h in
        good_both v (both_visits w x) (record { by = λ k p q. elim q [ inl i ↦ vw.distinct.2.by k p i | inr i ↦ h.distinct.2.by k (inl p) i ] }) (good_left c v w vw)
        (good_both w x (record { by = λ k p q. h.distinct.2.by k (inr p) q }) (good_right c v w vw) (good_right c (both_visits v w) x h));
    stands = λ k h. elim h [ inl i ↦ inl (inl i) | inr i ↦ elim i [ inl j ↦ inl (inr j) | inr j ↦ inr j ] ];
    changes = λ y h.
        let vw = or_left (changes c.setting v y || changes c.setting w y) (changes c.setting x y) h in
        or_both (changes c.setting v y) (changes c.setting w y || changes c.setting x y) (or_left (changes c.setting v y) (changes c.setting w y) vw)
        (or_both (changes c.setting w y) (changes c.setting x y) (or_right (changes c.setting v y) (changes c.setting w y) vw) (or_right (changes c.setting v y || changes c.setting w y) (changes c.setting x y) h));
  }

  -- two operands, the second one evaluated before the first, and what comes behind them
  pub reframes_crossed : (v w x : Visits) → Reframes c (both_visits w (both_visits v x)) (both_visits (both_visits v w) x)
  reframes_crossed v w x =
      reframes_then c (both_visits w (both_visits v x)) (both_visits (both_visits w v) x) (both_visits (both_visits v w) x) (reframes_grouped w v x)
      (reframes_first (both_visits w v) (both_visits v w) x (reframes_swapped w v))

  -- what has no node before a part
  pub reframes_alone : (v : Visits) → Reframes c (both_visits no_visit v) v
  reframes_alone v = record {
    good = λ h. record { ground = h.ground; distinct = (tt, h.distinct, record { by = λ k p q. p }); listed = h.listed; typed = (tt, h.typed) };
    stands = λ k h. elim h [ inl i ↦ absurd i | inr i ↦ i ];
    changes = λ x h. h;
  }

  pub reframes_split : (role : Role) (e : ExprTree) → Reframes c (both_visits (inner_visits c.setting.typing role e) (outer_visits c.setting.typing role e)) (expression_visits c.setting.typing role e)
  reframes_split role (s.expression n (s.paren e)) =
      let i = inner_visits c.setting.typing (inside role) e in
      let o = outer_visits c.setting.typing (inside role) e in
      let visit = one_visit (at_expression n.number role (s.paren e)) in
      reframes_then c (both_visits i (both_visits o visit)) (both_visits (both_visits i o) visit) (both_visits (expression_visits c.setting.typing (inside role) e) visit) (reframes_grouped i o visit)
      (reframes_first (both_visits i o) (expression_visits c.setting.typing (inside role) e) visit (reframes_split (inside role) e))
  reframes_split role (s.expression n f) = reframes_refl (both_visits (form_visits c.setting.typing n.number role f) (one_visit (at_expression n.number role f)))

  pub reframes_inner : (role : Role) (e : ExprTree) → Reframes c (inner_visits c.setting.typing role e) (expression_visits c.setting.typing role e)
  reframes_inner role e =
      let i = inner_visits c.setting.typing role e in
      let o = outer_visits c.setting.typing role e in
      reframes_then c i (both_visits i o) (expression_visits c.setting.typing role e) (reframes_left c i o) (reframes_split role e)

  pub bare_stands : (role : Role) (e : ExprTree) → Stands (node_of (bare e)) (outer_visits c.setting.typing role e)
  bare_stands role (s.expression n (s.paren e)) = inl (bare_stands (inside role) e)
  bare_stands role (s.expression n f) = refl

  -- a branch, and a controlling expression
  pub reframes_arm : (e : ExprTree) → Reframes c (expression_visits c.setting.typing reading e) (expression_visits c.setting.typing as_arm e)
  reframes_arm (s.expression n (s.paren e)) = record {
    good = λ h. record { ground = h.ground; distinct = (h.distinct.0, tt, record { by = h.distinct.2.by }); listed = h.listed; typed = h.typed };
    stands = λ k h. h;
    changes = λ x h. h;
  }
  reframes_arm (s.expression n f) = record {
    good = λ h. record { ground = h.ground; distinct = (h.distinct.0, tt, record { by = h.distinct.2.by }); listed = h.listed; typed = h.typed };
    stands = λ k h. h;
    changes = λ x h. h;
  }

  reframes_parens : (k : ℕ) (e : ExprTree) → Reframes c (one_visit (at_expression k reading (s.paren e))) (one_visit (at_expression k as_test (s.paren e)))
  reframes_parens k e = record { good = λ h. record { ground = h.ground; distinct = tt; listed = h.listed; typed = tt }; stands = λ j h. h; changes = λ x h. h }

  pub reframes_test : (e : ExprTree) → Reframes c (expression_visits c.setting.typing reading e) (expression_visits c.setting.typing as_test e)
  reframes_test (s.expression n (s.paren e)) =
      let v = expression_visits c.setting.typing reading e in
      let w = expression_visits c.setting.typing as_test e in
      let x = one_visit (at_expression n.number reading (s.paren e)) in
      reframes_then c (both_visits v x) (both_visits w x) (both_visits w (one_visit (at_expression n.number as_test (s.paren e)))) (reframes_first v w x (reframes_test e)) (reframes_second w x (one_visit (at_expression n.number as_test (s.paren e))) (reframes_parens n.number e))
  reframes_test (s.expression n f) = record {
    good = λ h. record { ground = h.ground; distinct = (h.distinct.0, tt, record { by = h.distinct.2.by }); listed = h.listed; typed = h.typed };
    stands = λ k h. h;
    changes = λ x h. h;
  }

  pub reframes_statement : (x : StmtTree) → Reframes c (statement_visits c.setting.typing false x) (statement_visits c.setting.typing true x)
  reframes_statement (s.statement n f) = record {
    good = λ h. record { ground = h.ground; distinct = (h.distinct.0, tt, record { by = h.distinct.2.by }); listed = h.listed; typed = h.typed };
    stands = λ k h. h;
    changes = λ x h. h;
  }

  -- ---- entries before a part

  pub part_after : {A : Type 0} (Q : Type 0) (v : Visits) (t : List Entry) (RO : List ℤ → Outside → Ran A Outside) (PO : InputMap → List ℤ → KeptNumbers → Ran A KeptNumbers) → Part c Q v RO PO → Part c Q v (λ r s. after t (RO r s)) (λ m r kept. after t (PO m r kept))
  part_after Q v t RO PO a =
      part_as c Q (both_visits no_visit v) v _ _ (reframes_alone v)
      (part_then c Q (λ (x : ℕ). Q) no_visit v (λ r s. Went 0 r s t) (λ m r kept. Went 0 r kept t) (λ x. RO) (λ m x. PO m) (part_went c Q no_visit (λ r. 0) t) (λ q h r s. q) (λ x. a))

  -- a part behind another one of which nothing more is known than before
  pub part_keep : {A B : Type 0} (Q : Type 0) (v w : Visits) (RA : List ℤ → Outside → Ran A Outside) (PA : InputMap → List ℤ → KeptNumbers → Ran A KeptNumbers) (RB : A → List ℤ → Outside → Ran B Outside) (PB : InputMap → A → List ℤ → KeptNumbers → Ran B KeptNumbers) → Part c Q v RA PA → ((x : A) → Part c Q w (RB x) (λ m. PB m x)) → Part c Q (both_visits v w) (λ r s. and_then (RA r s) RB) (λ m r kept. and_then (PA m r kept) (PB m))
  part_keep {A} Q v w RA PA RB PB a b = part_then c Q (λ (x : A). Q) v w RA PA RB PB a (λ q h r s. ends (RA r s) q) b
    where
      ends : (x : Ran A Outside) → Q → EndsIn (λ (y : A). Q) x
      ends (Went y r s t) q = q
      ends (Cut t) q = tt
