-- A part of a function: what its path runs ask, what its executions leave, and that path runs show what executions do;
-- and how parts are composed.
use Rattle.std.proofs.Common.{◌≡◌, ℕ, Bool, true, false, ◌||◌, List, [], ℤ, refl, sym, ap, ◌∙◌, subst, inl, inr}
use Rattle.std.specs.Prelude.{if◌then◌else◌}
use Rattle.stk_meaning.specs.declared.entry.Entry.{Entry}
use Rattle.stk_meaning.specs.Visits.{Visits, no_visit, both_visits, collected}
use Rattle.stk_meaning.specs.Changes.{Spot, changes}
use Rattle.stk_meaning.specs.Worlds.{Ran, Went, Cut, after, and_then}
use Rattle.stk_meaning.specs.Keys.{visit_keys}
use Rattle.stk_meaning.specs.Paths.{InputMap, KeptNumbers}
use Rattle.stk_meaning.specs.Executions.{Outside}
use Rattle.stk_run_laws.specs.Held.{Agrees}
use Rattle.stk_run_laws.proofs.Nodes.{Stands, in_either}
use Rattle.stk_run_laws.proofs.Maps.{Ground, held, Agree, agree_wider, Covers, only_refl, Good, good_left, good_right}
use Rattle.stk_run_laws.proofs.Join.{Sides, Gathered, gathered_wider, gathered_as, gathered_cut, gathered_same, EndsIn, FitBy, gathered_then}
use Rattle.stk_run_laws.proofs.Same.{Fit, SameBy, same_refl, or_left, or_right, by_part, by_after, by_from}

-- kept numbers are what the execution's memory gives
abbrev pub Right : Ground → KeptNumbers → Outside → Type 0
Right c kept s = Agrees (held c) kept s.memory

abbrev pub sides : Ground → Sides Outside KeptNumbers
sides c = record { ground = c; fit = Fit c; right = Right c }

pub and_then-same : {A B S : Type 0} (x y : Ran A S) (f g : A → List ℤ → S → Ran B S) → x ≡ y → ((v : A) (r : List ℤ) (s : S) → f v r s ≡ g v r s) → and_then x f ≡ and_then y g
and_then-same x y f g e h = same x ∙ ap (λ z. and_then z g) e
  where
    same : (x : _) → and_then x f ≡ and_then x g
    same (Went v r s t) = ap (after t) (h v r s)
    same (Cut t) = refl

module _ (c : Ground) where
  -- Q is what is asked for the part beside its being good
  pub record Part {A : Type 0} (Q : Type 0) (v : Visits) (RO : List ℤ → Outside → Ran A Outside) (PO : InputMap → List ℤ → KeptNumbers → Ran A KeptNumbers) : Type 0 where
    pub frame : (m m' : InputMap) → Agree v m m' → (r : List ℤ) (kept : KeptNumbers) → PO m r kept ≡ PO m' r kept
    pub same : Q → Good c v → (r : List ℤ) (s : Outside) → SameBy c (changes c.setting v) r s (RO r s)
    pub gathers : Q → Good c v → (m : InputMap) (r : List ℤ) (s : Outside) (kept : KeptNumbers) → Covers c m → Fit c r → Right c kept s → Gathered (sides c) v m (RO r s) (λ m. PO m r kept)

  pub fit_of : {A : Type 0} (p : Spot → Bool) (r : List ℤ) (s : Outside) (x : Ran A Outside) → Fit c r → SameBy c p r s x → FitBy (sides c) x
  fit_of p r s (Went y r' s' t) f k = k.fits f
  fit_of p r s (Cut t) f k = tt

  -- ---- one part after another

  then_same : {A B : Type 0} (W : A → Type 0) (v w : Visits) (r : List ℤ) (s : Outside) (x : Ran A Outside) (F : A → List ℤ → Outside → Ran B Outside) → EndsIn W x → SameBy c (changes c.setting v) r s x → ((y : A) (r : List ℤ) (s : Outside) → W y → SameBy c (changes c.setting w) r s (F y r s)) → SameBy c (changes c.setting (both_visits v w)) r s (and_then x F)
  then_same W v w r s (Went y r' s' t) F q a b =
      by_after c (changes c.setting (both_visits v w)) r s t (F y r' s')
      (by_from c (changes c.setting (both_visits v w)) r s r' s' (F y r' s')
      (by_part c (changes c.setting v) (changes c.setting (both_visits v w)) r s (Went y r' s' t) (λ z. or_left (changes c.setting v z) (changes c.setting w z)) a)
      (by_part c (changes c.setting w) (changes c.setting (both_visits v w)) r' s' (F y r' s') (λ z. or_right (changes c.setting v z) (changes c.setting w z)) (b y r' s' q)))
  then_same W v w r s (Cut t) F q a b = tt

  pub part_then : {A B : Type 0} (Q : Type 0) (W : A → Type 0) (v w : Visits) (RA : List ℤ → Outside → Ran A Outside) (PA : InputMap → List ℤ → KeptNumbers → Ran A KeptNumbers) (RB : A → List ℤ → Outside → Ran B Outside) (PB : InputMap → A → List ℤ → KeptNumbers → Ran B KeptNumbers) → Part Q v RA PA → (Q → Good c v → (r : List ℤ) (s : Outside) → EndsIn W (RA r s)) → ((x : A) → Part (W x) w (RB x) (λ m. PB m x)) → Part Q (both_visits v w) (λ r s. and_then (RA r s) RB) (λ m r kept. and_then (PA m r kept) (PB m))
  part_then Q W v w RA PA RB PB a ends b = record {
    frame = λ m m' h r kept. and_then-same (PA m r kept) (PA m' r kept) (PB m) (PB m') (a.frame m m' (agree_wider v (both_visits v w) m m' (λ k i. inl i) h) r kept) (λ x r kept. (b x).frame m m' (agree_wider w (both_visits v w) m m' (λ k i. inr i) h) r kept);
    same = λ q h r s. then_same W v w r s (RA r s) RB (ends q (good_left c v w h) r s) (a.same q (good_left c v w h) r s) (λ y r s z. (b y).same z (good_right c v w h) r s);
    gathers = λ q h m r s kept base fit right.
        gathered_then (sides c) v w W m (RA r s) (λ m. PA m r kept) RB PB h.distinct.2 base (fit_of (changes c.setting v) r s (RA r s) fit (a.same q (good_left c v w h) r s)) (ends q (good_left c v w h) r s)
        (record { same = λ m m' z. a.frame m m' z r kept }) (a.gathers q (good_left c v w h) m r s kept base fit right)
        (λ m x r s kept z base fit right. (b x).gathers z (good_right c v w h) m r s kept base fit right);
  }

  ends_any : {A : Type 0} (x : Ran A Outside) → EndsIn (λ (y : A). Unit {0}) x
  ends_any (Went y r s t) = tt
  ends_any (Cut t) = tt

  -- where nothing is asked of the first value
  pub part_seq : {A B : Type 0} (Q : Type 0) (v w : Visits) (RA : List ℤ → Outside → Ran A Outside) (PA : InputMap → List ℤ → KeptNumbers → Ran A KeptNumbers) (RB : A → List ℤ → Outside → Ran B Outside) (PB : InputMap → A → List ℤ → KeptNumbers → Ran B KeptNumbers) → Part Q v RA PA → ((x : A) → Part (Unit {0}) w (RB x) (λ m. PB m x)) → Part Q (both_visits v w) (λ r s. and_then (RA r s) RB) (λ m r kept. and_then (PA m r kept) (PB m))
  part_seq {A} Q v w RA PA RB PB a b = part_then Q (λ (y : A). Unit {0}) v w RA PA RB PB a (λ q h r s. ends_any (RA r s)) b

  -- ---- the same part, visited otherwise

  pub record Reframes (v w : Visits) : Type 0 where
    pub good : Good c w → Good c v
    pub stands : (k : ℕ) → Stands k v → Stands k w
    pub changes : (x : Spot) → changes c.setting w x ≡ false → changes c.setting v x ≡ false

  pub part_as : {A : Type 0} (Q : Type 0) (v w : Visits) (RO : List ℤ → Outside → Ran A Outside) (PO : InputMap → List ℤ → KeptNumbers → Ran A KeptNumbers) → Reframes v w → Part Q v RO PO → Part Q w RO PO
  part_as Q v w RO PO h a = record {
    frame = λ m m' i. a.frame m m' (agree_wider v w m m' h.stands i);
    same = λ q i r s. by_part c (changes c.setting v) (changes c.setting w) r s (RO r s) h.changes (a.same q (h.good i) r s);
    gathers = λ q i m r s kept base fit right. gathered_wider (sides c) v w m (RO r s) (λ m. PO m r kept) h.stands (a.gathers q (h.good i) m r s kept base fit right);
  }

  pub reframes_left : (v w : Visits) → Reframes v (both_visits v w)
  reframes_left v w = record { good = good_left c v w; stands = λ k i. inl i; changes = λ x. or_left (changes c.setting v x) (changes c.setting w x) }

  pub reframes_right : (v w : Visits) → Reframes w (both_visits v w)
  reframes_right v w = record { good = good_right c v w; stands = λ k i. inr i; changes = λ x. or_right (changes c.setting v x) (changes c.setting w x) }

  pub reframes_then : (v w x : Visits) → Reframes v w → Reframes w x → Reframes v x
  reframes_then v w x a b = record { good = λ h. a.good (b.good h); stands = λ k h. b.stands k (a.stands k h); changes = λ y h. a.changes y (b.changes y h) }

  -- runs that are written otherwise
  pub part_equal : {A : Type 0} (Q : Type 0) (v : Visits) (RO RO' : List ℤ → Outside → Ran A Outside) (PO PO' : InputMap → List ℤ → KeptNumbers → Ran A KeptNumbers) → ((r : List ℤ) (s : Outside) → RO r s ≡ RO' r s) → ((m : InputMap) (r : List ℤ) (kept : KeptNumbers) → PO' m r kept ≡ PO m r kept) → Part Q v RO PO → Part Q v RO' PO'
  part_equal Q v RO RO' PO PO' real path a = record {
    frame = λ m m' h r kept. path m r kept ∙ a.frame m m' h r kept ∙ sym (path m' r kept);
    same = λ q h r s. subst (SameBy c (changes c.setting v) r s) (real r s) (a.same q h r s);
    gathers = λ q h m r s kept base fit right. gathered_as (sides c) v m (RO r s) (RO' r s) (λ m. PO m r kept) (λ m. PO' m r kept) (real r s) (λ m. path m r kept) (a.gathers q h m r s kept base fit right);
  }

  -- more may be asked for
  pub part_if : {A : Type 0} (Q Q' : Type 0) (v : Visits) (RO : List ℤ → Outside → Ran A Outside) (PO : InputMap → List ℤ → KeptNumbers → Ran A KeptNumbers) → (Q' → Good c v → Q) → Part Q v RO PO → Part Q' v RO PO
  part_if Q Q' v RO PO h a = record { frame = a.frame; same = λ q i. a.same (h q i) i; gathers = λ q i. a.gathers (h q i) i }

  pub part_choose : {A : Type 0} (Q : Type 0) (v : Visits) (b : Bool) (RO RO' : List ℤ → Outside → Ran A Outside) (PO PO' : InputMap → List ℤ → KeptNumbers → Ran A KeptNumbers) → Part Q v RO PO → Part Q v RO' PO' → Part Q v (λ r s. if b then RO r s else RO' r s) (λ m r kept. if b then PO m r kept else PO' m r kept)
  part_choose Q v true RO RO' PO PO' p q = p
  part_choose Q v false RO RO' PO PO' p q = q

  -- ---- what changes nothing

  pub part_went : {A : Type 0} (Q : Type 0) (v : Visits) (f : List ℤ → A) (t : List Entry) → Part Q v (λ r s. Went (f r) r s t) (λ m r kept. Went (f r) r kept t)
  part_went Q v f t = record {
    frame = λ m m' h r kept. refl;
    same = λ q h r s. same_refl c (changes c.setting v) r s;
    gathers = λ q h m r s kept base fit right. gathered_same (sides c) v m m (f r) r s kept t (λ m. Went (f r) r kept t) (only_refl c v m) right refl;
  }

  -- what is cut at once
  pub part_cut : {A : Type 0} (Q : Type 0) (v : Visits) (RO : List ℤ → Outside → Ran A Outside) (PO : InputMap → List ℤ → KeptNumbers → Ran A KeptNumbers) → ((r : List ℤ) (s : Outside) → RO r s ≡ Cut []) → ((m : InputMap) (r : List ℤ) (kept : KeptNumbers) → PO m r kept ≡ Cut []) → Part Q v RO PO
  part_cut Q v RO PO real path = record {
    frame = λ m m' h r kept. path m r kept ∙ sym (path m' r kept);
    same = λ q h r s. subst (SameBy c (changes c.setting v) r s) (sym (real r s)) tt;
    gathers = λ q h m r s kept base fit right. subst (λ x. Gathered (sides c) v m x (λ m. PO m r kept)) (sym (real r s)) (gathered_cut (sides c) v m (λ m. PO m r kept));
  }

  -- something behind a part, in its own nodes: it asks no map, and changes nothing
  pub part_tail : {A B : Type 0} (Q : Type 0) (v : Visits) (RA : List ℤ → Outside → Ran A Outside) (PA : InputMap → List ℤ → KeptNumbers → Ran A KeptNumbers) (f : A → List ℤ → B) (t : A → List Entry) → Part Q v RA PA → Part Q v (λ r s. and_then (RA r s) (λ x r s. Went (f x r) r s (t x))) (λ m r kept. and_then (PA m r kept) (λ x r kept. Went (f x r) r kept (t x)))
  part_tail Q v RA PA f t a =
      part_as Q (both_visits v no_visit) v _ _ (record { good = λ h. record { ground = h.ground; distinct = (h.distinct, tt, record { by = λ k p q. q }); listed = λ x i. h.listed x (elim (in_either x (collected (visit_keys c.setting) v) [] i) [ inl j ↦ j | inr j ↦ absurd j ]); typed = (h.typed, tt) }; stands = λ k i. elim i [ inl j ↦ j | inr j ↦ absurd j ]; changes = λ x h. either (changes c.setting v x) h })
      (part_seq Q v no_visit RA PA (λ x r s. Went (f x r) r s (t x)) (λ m x r kept. Went (f x r) r kept (t x)) a (λ x. part_went (Unit {0}) no_visit (f x) (t x)))
    where
      either : (b : Bool) → b ≡ false → b || false ≡ false
      either true h = h
      either false h = refl
