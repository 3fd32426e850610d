-- Loops and scopes: a path run shows what any turn of an execution does.
use Rattle.std.proofs.Common.{◌≡◌, ℕ, zero, suc, ◌==◌, ◌⊎◌, None, Bool, true, false, not, ◌&&◌, List, [], ◌∷◌, ◌++◌, ℤ, pos, refl, sym, ap, ◌∙◌, subst, inl, inr, append_assoc, get_or}
use Rattle.std.proofs.lemmas.List.{append-nil}
use Rattle.std.specs.Prelude.{if◌then◌else◌}
use Rattle.stk_numbers.specs.Kinds.{fits}
use Rattle.stk_tree.specs.Syntax.{StmtFormTree}
use Rattle.stk_meaning.specs.declared.entry.Entry.{Entry}
use Rattle.stk_meaning.specs.Typings.{number_kind, is_among}
use Rattle.stk_meaning.specs.Visits.{at_statement, Visits, one_visit, both_visits, scope, turn_visits}
use Rattle.stk_meaning.specs.Changes.{Spot, register_spot, changes, assigned_in, forgotten_in}
use Rattle.stk_meaning.specs.Worlds.{Ran, Went, Cut, trace_of, after, Flow, give_back, Turned, Another, Ended, again, repeated}
use Rattle.stk_meaning.specs.Statements.{loop_run}
use Rattle.stk_meaning.specs.Keys.{Key, parameter_key, address_key, unset_key, load_key, call_key, loop_key, loop_keys, number_info}
use Rattle.stk_meaning.specs.Paths.{InputMap, KeptNumbers, forgotten, reset_all, path_world}
use Rattle.stk_meaning.specs.Executions.{Outside}
use Rattle.stk_run_laws.specs.Visits.{IsIn}
use Rattle.stk_run_laws.proofs.Nodes.{Stands}
use Rattle.stk_run_laws.proofs.Keeping.{agrees_forget}
use Rattle.stk_run_laws.proofs.Maps.{Ground, held, Changes, agree_wider, IsListed, Covers, OnlyIn, only_refl, only_both, put, put_here, put_there, put_only, Good, good_left, good_right}
use Rattle.stk_run_laws.proofs.Join.{Incl, incl_more, place, HitToo, EndsToo, Gathered, gathered_cut, Shows, trace_after}
use Rattle.stk_run_laws.proofs.Same.{Fit, Same, SameBy, same_refl, same_trans, or_left, by_part, by_after, by_from}
use Rattle.stk_run_laws.proofs.Parts.{Right, sides, Part}
use Rattle.stk_run_laws.proofs.Leaves.{real}
use Rattle.stk_run_laws.proofs.Registers.{same_at, apart_at, reset_reaches, reset_same, filter_keeps, restored_length, restored_at}

again-same : {S : Type 0} (x y : Ran Turned S) (f g : List ℤ → S → Ran Flow S) → x ≡ y → ((r : List ℤ) (s : S) → f r s ≡ g r s) → again x f ≡ again y g
again-same x y f g e h = same x ∙ ap (λ z. again z g) e
  where
    same : (x : _) → again x f ≡ again x g
    same (Went Another r s t) = ap (after t) (h r s)
    same (Went (Ended flow) r s t) = refl
    same (Cut t) = refl

shows_again : {T : Type 0} (PA : InputMap → Ran Turned T) (PB : InputMap → List ℤ → T → Ran Flow T) → Shows PA (λ m. again (PA m) (PB m))
shows_again {T} PA PB = record { more = λ m. more (PA m) (PB m) }
  where
    more : (x : Ran Turned T) (f : List ℤ → T → Ran Flow T) → (rest : List Entry) × (trace_of (again x f) ≡ trace_of x ++ rest)
    more (Went Another r s t) f = (trace_of (f r s), trace_after t (f r s))
    more (Went (Ended flow) r s t) f = ([], sym (append-nil t))
    more (Cut t) f = ([], sym (append-nil t))

-- ---- the numbers of a loop's registers

abbrev put_registers : InputMap → ℕ → List ℕ → List ℤ → InputMap
put_registers m k [] r = m
put_registers m k (j ∷ js) r = put (put_registers m k js r) (loop_key k j) (get_or r j (pos 0))

loop_itself : (k i j : ℕ) → loop_key k i ≡ loop_key k j → i ≡ j
loop_itself k i j e = cc

put_registers_here : (m : InputMap) (k : ℕ) (js : List ℕ) (r : List ℤ) (i : ℕ) → IsIn i js → put_registers m k js r (loop_key k i) ≡ get_or r i (pos 0)
put_registers_here m k [] r i h = absurd h
put_registers_here m k (j ∷ js) r i h = by (i == j) refl h (λ a. put_registers_here m k js r i a)
  where
    by : (b : Bool) → i == j ≡ b → (i ≡ j) ⊎ IsIn i js → (IsIn i js → put_registers m k js r (loop_key k i) ≡ get_or r i (pos 0)) → put (put_registers m k js r) (loop_key k j) (get_or r j (pos 0)) (loop_key k i) ≡ get_or r i (pos 0)
    by b d (inl e) more = subst (λ z. put (put_registers m k js r) (loop_key k j) (get_or r j (pos 0)) (loop_key k z) ≡ get_or r z (pos 0)) (sym e) (put_here (put_registers m k js r) (loop_key k j) (get_or r j (pos 0)))
    by true d (inr a) more = subst (λ z. put (put_registers m k js r) (loop_key k j) (get_or r j (pos 0)) (loop_key k z) ≡ get_or r z (pos 0)) (sym (same_at i j d)) (put_here (put_registers m k js r) (loop_key k j) (get_or r j (pos 0)))
    by false d (inr a) more = put_there (put_registers m k js r) (loop_key k j) (get_or r j (pos 0)) (loop_key k i) (λ e. apart_at i j d (sym (loop_itself k j i e))) ∙ more a

module _ (c : Ground) where
  put_registers_only : (v : Visits) (m : InputMap) (k : ℕ) (js : List ℕ) (r : List ℤ) → Stands k v → ((j : ℕ) → IsIn j js → IsListed c.keys (loop_key k j)) → Fit c r → OnlyIn c v m (put_registers m k js r)
  put_registers_only v m k [] r st listed fit = only_refl c v m
  put_registers_only v m k (j ∷ js) r st listed fit =
      only_both c v v v m (put_registers m k js r) (put_registers m k (j ∷ js) r) (λ i h. h) (λ i h. h) (put_registers_only v m k js r st (λ i h. listed i (inr h)) fit)
      (put_only c v (put_registers m k js r) (loop_key k j) (get_or r j (pos 0)) (listed j (inl refl)) (fit.at j) (λ o e. cc) st)

  -- the keys of a loop's registers
  loop_listed : (k : ℕ) (js : List ℕ) (j : ℕ) → IsIn j js → IsListed (loop_keys c.setting k js) (loop_key k j)
  loop_listed k [] j h = absurd h
  loop_listed k (i ∷ js) j (inl e) = record { info = number_info c.setting.typing (loop_key k i) (c.setting.typing.type_at i) None; among = inl refl; is = ap (loop_key k) (sym e) }
  loop_listed k (i ∷ js) j (inr h) = let a = loop_listed k js j h in record { info = a.info; among = inr a.among; is = a.is }

  -- ---- what turns leave

  by_again : (p : Spot → Bool) (r : List ℤ) (s : Outside) (x : Ran Turned Outside) (f : List ℤ → Outside → Ran Flow Outside) → SameBy c p r s x → ((r' : List ℤ) (s' : Outside) → SameBy c p r' s' (f r' s')) → SameBy c p r s (again x f)
  by_again p r s (Went Another r' s' t) f a b = by_after c p r s t (f r' s') (by_from c p r s r' s' (f r' s') a (b r' s'))
  by_again p r s (Went (Ended flow) r' s' t) f a b = a
  by_again p r s (Cut t) f a b = tt

  by_turns : (p : Spot → Bool) (n : ℕ) (f : List ℤ → Outside → Ran Turned Outside) → ((r : List ℤ) (s : Outside) → SameBy c p r s (f r s)) → (r : List ℤ) (s : Outside) → SameBy c p r s (repeated n f r s)
  by_turns p zero f h r s = tt
  by_turns p (suc n) f h r s = by_again p r s (f r s) (repeated n f) (h r s) (by_turns p n f h)

  -- ---- a loop

  module _ (k : ℕ) (arm : Bool) (f : StmtFormTree) (RO : List ℤ → Outside → Ran Turned Outside) (PO : InputMap → List ℤ → KeptNumbers → Ran Turned KeptNumbers) (turn : Part c (Unit {0}) (turn_visits c.setting.typing f) RO PO) where
    abbrev body : Visits
    body = turn_visits c.setting.typing f

    abbrev whole : Visits
    whole = both_visits (turn_visits c.setting.typing f) (one_visit (at_statement k arm f))

    -- the registers that the loop sets, and what it forgets
    abbrev js : List ℕ
    js = assigned_in c.setting f

    abbrev fresh : KeptNumbers → KeptNumbers
    fresh kept = forgotten (forgotten_in c.setting f) kept

    -- the path run of the loop, from the registers and kept numbers before it
    abbrev once : List ℤ → KeptNumbers → InputMap → Ran Flow KeptNumbers
    once r0 kept0 m = repeated 1 (PO m) (reset_all m k js r0) (fresh kept0)

    -- the map with the loop's numbers of a turn
    abbrev at_registers : InputMap → List ℤ → InputMap
    at_registers m r = put_registers m k js r

    -- what passes over what a turn changes passes over the registers of the loop
    passed_over : (r0 : List ℤ) (s0 : Outside) (r : List ℤ) (s : Outside) → Same c (changes c.setting body) r0 s0 r s → (i : ℕ) → (IsIn i js → ⊥) → get_or r0 i (pos 0) ≡ get_or r i (pos 0)
    passed_over r0 s0 r s same i h = by (is_among i c.setting.registers) refl (changes c.setting body (register_spot i)) refl
      where
        by : (a : Bool) → is_among i c.setting.registers ≡ a → (b : Bool) → changes c.setting body (register_spot i) ≡ b → get_or r0 i (pos 0) ≡ get_or r i (pos 0)
        by false d b e = sym (same.others i d)
        by true d false e = sym (same.registers i e)
        by true d true e = absurd (h (filter_keeps (λ j. changes c.setting body (register_spot j)) c.setting.registers i d e))

    module _ (good : Good c whole) where
      own_listed : (j : ℕ) → IsIn j js → IsListed c.keys (loop_key k j)
      own_listed j h = let a = loop_listed k js j h in record { info = a.info; among = (good_right c body (one_visit (at_statement k arm f)) good).listed a.info a.among; is = a.is }

      -- with the loop's numbers as the registers of a later turn, it is the path run of that turn
      at_turn : (r0 : List ℤ) (s0 : Outside) (kept0 : KeptNumbers) (r : List ℤ) (s : Outside) (m0 m : InputMap) → Same c (changes c.setting body) r0 s0 r s → OnlyIn c body (at_registers m0 r) m → once r0 kept0 m ≡ again (PO m r (fresh kept0)) (repeated 0 (PO m))
      at_turn r0 s0 kept0 r s m0 m same o =
          let there : (j : ℕ) → IsIn j js → m (loop_key k j) ≡ get_or r j (pos 0) = λ j h. o.others (loop_key k j) (λ st. good.distinct.2.by k st refl) ∙ put_registers_here m0 k js r j h in
          ap (λ r. again (PO m r (fresh kept0)) (repeated 0 (PO m))) (reset_reaches m k js r r0 (sym same.size) there (passed_over r0 s0 r s same))

      whole_only : (m0 m : InputMap) (r : List ℤ) → Fit c r → OnlyIn c body (at_registers m0 r) m → OnlyIn c whole m0 m
      whole_only m0 m r fit o =
          only_both c (one_visit (at_statement k arm f)) body whole m0 (at_registers m0 r) m (λ i h. inr h) (λ i h. inl h)
          (put_registers_only (one_visit (at_statement k arm f)) m0 k js r refl own_listed fit) o

      -- a turn of the execution, and what is shown of the turns behind it
      gathered_turn : (r0 : List ℤ) (s0 : Outside) (kept0 : KeptNumbers) (r : List ℤ) (s : Outside) (m0 : InputMap) (X : Ran Turned Outside) (later : List ℤ → Outside → Ran Flow Outside) → Fit c r → Same c (changes c.setting body) r0 s0 r s → SameBy c (changes c.setting body) r s X → Gathered (sides c) body (at_registers m0 r) X (λ m. PO m r (fresh kept0)) → ((r' : List ℤ) (s' : Outside) → Fit c r' → Same c (changes c.setting body) r0 s0 r' s' → Gathered (sides c) whole m0 (later r' s') (once r0 kept0)) → Gathered (sides c) whole m0 (again X later) (once r0 kept0)
      gathered_turn r0 s0 kept0 r s m0 X later fit same by a ih = cases X by a
        where
          in_turn : (X : Ran Turned Outside) → Gathered (sides c) body (at_registers m0 r) X (λ m. PO m r (fresh kept0)) → (before : List Entry) (e : Entry) (rest : List Entry) → trace_of X ≡ before ++ e ∷ rest → HitToo (sides c) whole m0 (once r0 kept0) before e
          in_turn X a before e rest h =
              let b = a.hits before e rest h in
              let n = (shows_again (λ m. PO m r (fresh kept0)) (λ m. repeated 0 (PO m))).more b.map in
              record {
                map = b.map;
                only = whole_only m0 b.map r fit b.only;
                earlier = b.earlier;
                rest = b.rest ++ n.0;
                is = ap trace_of (at_turn r0 s0 kept0 r s m0 b.map same b.only) ∙ n.1 ∙ ap (λ t. t ++ n.0) b.is ∙ append_assoc b.earlier (e ∷ b.rest) n.0;
                within = b.within;
              }

          over : (flow : Flow) (r' : List ℤ) (s' : Outside) (t : List Entry) → Gathered (sides c) body (at_registers m0 r) (Went (Ended flow) r' s' t) (λ m. PO m r (fresh kept0)) → Gathered (sides c) whole m0 (Went flow r' s' t) (once r0 kept0)
          over flow r' s' t a =
              let b = a.ends in
              record {
                ends = record { map = b.map; only = whole_only m0 b.map r fit b.only; kept = b.kept; entries = b.entries; is = at_turn r0 s0 kept0 r s m0 b.map same b.only ∙ ap (λ z. again z (repeated 0 (PO b.map))) b.is; right = b.right; within = b.within };
                hits = in_turn (Went (Ended flow) r' s' t) a;
              }

          goes_on : (t : List Entry) (r' : List ℤ) (s' : Outside) → Gathered (sides c) body (at_registers m0 r) (Went Another r' s' t) (λ m. PO m r (fresh kept0)) → (Y : Ran Flow Outside) → Gathered (sides c) whole m0 Y (once r0 kept0) → Gathered (sides c) whole m0 (after t Y) (once r0 kept0)
          goes_on t r' s' a Y b = record { ends = ends Y b.ends; hits = hits }
            where
              ends : (Y : Ran Flow Outside) → EndsToo (sides c) whole m0 Y (once r0 kept0) → EndsToo (sides c) whole m0 (after t Y) (once r0 kept0)
              ends (Went x r'' s'' u) d = record { map = d.map; only = d.only; kept = d.kept; entries = d.entries; is = d.is; right = d.right; within = incl_more d.entries t u d.within }
              ends (Cut u) d = tt

              hits : (before : List Entry) (e : Entry) (rest : List Entry) → trace_of (after t Y) ≡ before ++ e ∷ rest → HitToo (sides c) whole m0 (once r0 kept0) before e
              hits before e rest h =
                  elim (place t (trace_of Y) before e rest (sym (trace_after t Y) ∙ h)) [
                    | inl i ↦ in_turn (Went Another r' s' t) a before e i.rest i.is
                    | inr i ↦
                        let d = b.hits i.earlier e rest i.is in
                        record { map = d.map; only = d.only; earlier = d.earlier; rest = d.rest; is = d.is; within = subst (Incl d.earlier) (sym i.front) (incl_more d.earlier t i.earlier d.within) }
                  ]

          cases : (X : Ran Turned Outside) → SameBy c (changes c.setting body) r s X → Gathered (sides c) body (at_registers m0 r) X (λ m. PO m r (fresh kept0)) → Gathered (sides c) whole m0 (again X later) (once r0 kept0)
          cases (Went Another r' s' t) by a = goes_on t r' s' a (later r' s') (ih r' s' (by.fits fit) (same_trans c (changes c.setting body) r0 s0 r s r' s' same by))
          cases (Went (Ended flow) r' s' t) by a = over flow r' s' t a
          cases (Cut t) by a = record { ends = tt; hits = in_turn (Cut t) a }

      gathered_turns : (j : ℕ) (r0 : List ℤ) (s0 : Outside) (kept0 : KeptNumbers) (r : List ℤ) (s : Outside) (m0 : InputMap) → Covers c m0 → Right c kept0 s0 → Fit c r → Same c (changes c.setting body) r0 s0 r s → Gathered (sides c) whole m0 (repeated j RO r s) (once r0 kept0)
      gathered_turns zero r0 s0 kept0 r s m0 base right fit same = gathered_cut (sides c) whole m0 (once r0 kept0)
      gathered_turns (suc j) r0 s0 kept0 r s m0 base right fit same =
          gathered_turn r0 s0 kept0 r s m0 (RO r s) (repeated j RO) fit same (turn.same tt (good_left c body (one_visit (at_statement k arm f)) good) r s)
          (turn.gathers tt (good_left c body (one_visit (at_statement k arm f)) good) (at_registers m0 r) r s (fresh kept0)
          ((put_registers_only (one_visit (at_statement k arm f)) m0 k js r refl own_listed fit).keeps base) fit
          (agrees_forget (held c) (forgotten_in c.setting f) kept0 s0.memory s.memory right same.objects))
          (λ r' s' fit' same'. gathered_turns j r0 s0 kept0 r' s' m0 base right fit' same')

    pub part_loop : (n : ℕ) → Part c (Unit {0}) (both_visits (turn_visits c.setting.typing f) (one_visit (at_statement k arm f))) (loop_run c.setting (real c n) k f RO) (λ m. loop_run c.setting (path_world m) k f (PO m))
    part_loop n = record {
      frame = λ m m' h r kept.
          ap (λ z. repeated 1 (PO m) z (fresh kept)) (reset_same m m' k js r (λ j. h.at (loop_key k j) (inr refl)))
          ∙ again-same (PO m (reset_all m' k js r) (fresh kept)) (PO m' (reset_all m' k js r) (fresh kept)) (repeated 0 (PO m)) (repeated 0 (PO m')) (turn.frame m m' (agree_wider body whole m m' (λ i p. inl p) h) (reset_all m' k js r) (fresh kept)) (λ r s. refl);
      same = λ q h r s. by_part c (changes c.setting body) (changes c.setting whole) r s (repeated n RO r s) (λ x. or_left (changes c.setting body x) (changes c.setting (one_visit (at_statement k arm f)) x)) (by_turns (changes c.setting body) n RO (turn.same tt (good_left c body (one_visit (at_statement k arm f)) h)) r s);
      gathers = λ q h m r s kept base fit right. gathered_turns h n r s kept r s m base right fit (same_refl c (changes c.setting body) r s);
    }

  -- ---- scopes

  scope_good : (ks : List ℕ) (v : Visits) → Good c (scope ks v) → Good c v
  scope_good ks v h = record { ground = h.ground; distinct = h.distinct; listed = h.listed; typed = h.typed }

  choose_same : (b : Bool) (x y z : ℤ) → (b ≡ false → y ≡ x) → (if b then x else y) ≡ x
  choose_same true x y z h = refl
  choose_same false x y z h = h refl

  scope_same : (ks : List ℕ) (v : Visits) (r : List ℤ) (s : Outside) (x : Ran Flow Outside) → SameBy c (changes c.setting v) r s x → SameBy c (changes c.setting (scope ks v)) r s (give_back ks r x)
  scope_same ks v r s (Went flow r' s' t) a = record {
    size = restored_length ks r r' ∙ a.size;
    registers = λ i h. restored_at ks r r' a.size i ∙ choose_same (is_among i ks) (get_or r i (pos 0)) (get_or r' i (pos 0)) (pos 0) (λ no. a.registers i (free (is_among i ks) (changes c.setting v (register_spot i)) no h));
    others = λ i h. restored_at ks r r' a.size i ∙ choose_same (is_among i ks) (get_or r i (pos 0)) (get_or r' i (pos 0)) (pos 0) (λ no. a.others i h);
    fits = λ fit. record { at = λ i. subst (λ z. fits (number_kind (c.setting.typing.type_at i)) z ≡ true) (sym (restored_at ks r r' a.size i)) (either (is_among i ks) i (fit.at i) ((a.fits fit).at i)) };
    objects = a.objects;
  }
    where
      free : (b d : Bool) → b ≡ false → not b && d ≡ false → d ≡ false
      free true d e h = absurd cc
      free false d e h = h

      either : (b : Bool) (i : ℕ) → fits (number_kind (c.setting.typing.type_at i)) (get_or r i (pos 0)) ≡ true → fits (number_kind (c.setting.typing.type_at i)) (get_or r' i (pos 0)) ≡ true → fits (number_kind (c.setting.typing.type_at i)) (if b then get_or r i (pos 0) else get_or r' i (pos 0)) ≡ true
      either true i p q = p
      either false i p q = q
  scope_same ks v r s (Cut t) a = tt

  back_trace : {S : Type 0} (ks : List ℕ) (r : List ℤ) (x : Ran Flow S) → trace_of (give_back ks r x) ≡ trace_of x
  back_trace ks r (Went y r' m t) = refl
  back_trace ks r (Cut t) = refl

  scope_gathers : (ks : List ℕ) (v : Visits) (m0 : InputMap) (r : List ℤ) (X : Ran Flow Outside) (P : InputMap → Ran Flow KeptNumbers) → Gathered (sides c) v m0 X P → Gathered (sides c) (scope ks v) m0 (give_back ks r X) (λ m. give_back ks r (P m))
  scope_gathers ks v m0 r X P a = record {
    ends = ends X a.ends;
    hits = λ before e rest h.
        let b = a.hits before e rest (sym (back_trace ks r X) ∙ h) in
        record { map = b.map; only = record { others = λ key p. b.only.others key (λ q. p (wider key q)); keeps = b.only.keeps }; earlier = b.earlier; rest = b.rest; is = back_trace ks r (P b.map) ∙ b.is; within = b.within };
  }
    where
      wider : (key : Key) → Changes v key → Changes (scope ks v) key
      wider (parameter_key i) h = h
      wider (address_key i) h = h
      wider (unset_key i) h = h
      wider (load_key i) h = h
      wider (call_key i) h = h
      wider (loop_key i j) h = h

      ends : (X : Ran Flow Outside) → EndsToo (sides c) v m0 X P → EndsToo (sides c) (scope ks v) m0 (give_back ks r X) (λ m. give_back ks r (P m))
      ends (Went x r' s t) b = record { map = b.map; only = record { others = λ key p. b.only.others key (λ q. p (wider key q)); keeps = b.only.keeps }; kept = b.kept; entries = b.entries; is = ap (give_back ks r) b.is; right = b.right; within = b.within }
      ends (Cut t) b = tt

  pub part_scope : (ks : List ℕ) (v : Visits) (RO : List ℤ → Outside → Ran Flow Outside) (PO : InputMap → List ℤ → KeptNumbers → Ran Flow KeptNumbers) → Part c (Unit {0}) v RO PO → Part c (Unit {0}) (scope ks v) (λ r s. give_back ks r (RO r s)) (λ m r kept. give_back ks r (PO m r kept))
  part_scope ks v RO PO a = record {
    frame = λ m m' h r kept. ap (give_back ks r) (a.frame m m' (agree_wider v (scope ks v) m m' (λ k p. p) h) r kept);
    same = λ q h r s. scope_same ks v r s (RO r s) (a.same tt (scope_good ks v h) r s);
    gathers = λ q h m r s kept base fit right. scope_gathers ks v m r (RO r s) (λ m. PO m r kept) (a.gathers tt (scope_good ks v h) m r s kept base fit right);
  }
