-- What was made and what is shown, from store to store.
use Rattle.std.proofs.Common.{◌≡◌, ℕ, ◌+◌, Bool, true, false, ◌&&◌, not, List, [], ◌∷◌, ◌++◌, ℤ, Some, None, refl, sym, ap, ◌∙◌, append_assoc}
use Rattle.std.proofs.lemmas.List.{append-nil}
use Rattle.std.specs.Prelude.{if◌then◌else◌}
use Rattle.stk_ctype.specs.declared.kind.IntKind.{IntKind}
use Rattle.stk_ctype.specs.declared.kind.IntKind.TheVariants.{Int}
use Rattle.stk_numbers.specs.declared.conditions.CandKind.TheVariants.{Arm, AlwaysTrue, AlwaysFalse, Algebra}
use Rattle.stk_meaning.specs.declared.entry.Entry.{Entry}
use Rattle.stk_meaning.specs.declared.entry.Entry.TheVariants.{Enter, Seen}
use Rattle.stk_meaning.specs.Operations.{bit}
use Rattle.stk_meaning.specs.Paths.{KeptNumbers}
use Rattle.stk_meaning.specs.Places.{Setting}
use Rattle.stk_values.specs.Keeping.{Keeps}
use Rattle.stk_guarded.specs.Standing.{Standing}
use Rattle.stk_walking.specs.declared.state.KeptCell.{KeptCell}
use Rattle.stk_walking.specs.declared.state.Event.{Event}
use Rattle.stk_walking.specs.declared.state.GuardedEvent.{GuardedEvent}
use Rattle.stk_walking.specs.declared.state.WalkState.{WalkState}
use Rattle.stk_walking.specs.Events.{Live, hit, one_if, differs, entry_events, events_of, events_in}
use Rattle.stk_kinded.specs.Kinds.{register_kind, cell_kind}
use Rattle.stk_walking.specs.Stands.{RowShows, CellsShow, Stands, RowMade, CellsMade, StepsMade, IsMade}

-- a store after two calls
pub keeps_then : {S V : Type 0} (serves : S → List ℤ → Type 0) (has_key : S → ℕ → IntKind → Type 0) (made : S → IntKind → V → Type 0) (shows : S → List ℤ → IntKind → V → ℤ → Type 0) (a b c : S) → Keeps serves has_key made shows a b → Keeps serves has_key made shows b c → Keeps serves has_key made shows a c
keeps_then serves has_key made shows a b c h k = record {
  served = λ m x. k.served m (h.served m x);
  served_before = λ m x. h.served_before m (k.served_before m x);
  keys = λ key j x. k.keys key j (h.keys key j x);
  keys_before = λ key j x. h.keys_before key j (k.keys_before key j x);
  made_still = λ j v x. k.made_still j v (h.made_still j v x);
  shown = λ m j v z x. k.shown m j v z (h.shown m j v z x);
}

-- a store after no call
pub keeps_none : {S V : Type 0} (serves : S → List ℤ → Type 0) (has_key : S → ℕ → IntKind → Type 0) (made : S → IntKind → V → Type 0) (shows : S → List ℤ → IntKind → V → ℤ → Type 0) (a : S) → Keeps serves has_key made shows a a
keeps_none serves has_key made shows a = record { served = λ m x. x; served_before = λ m x. x; keys = λ key j x. x; keys_before = λ key j x. x; made_still = λ j v x. x; shown = λ m j v z x. x }

-- ---- what was made

-- registers
pub row_made : {V : Type 0} (f h : IntKind → V → Type 0) → ((k : IntKind) (v : V) → f k v → h k v) → (kinds : ℕ → IntKind) (i : ℕ) (vs : List V) → RowMade f kinds i vs → RowMade h kinds i vs
row_made f h keep kinds i [] a = tt
row_made f h keep kinds i (v ∷ vs) a = (keep (kinds i) v a.0, row_made f h keep kinds (i + 1) vs a.1)

-- kept objects
pub cells_made : {V : Type 0} (f h : IntKind → V → Type 0) → ((k : IntKind) (v : V) → f k v → h k v) → (kinds : ℕ → IntKind) (q : ℕ) (cs : List (KeptCell V)) → CellsMade f kinds q cs → CellsMade h kinds q cs
cells_made f h keep kinds q [] a = tt
cells_made f h keep kinds q (c ∷ cs) a = (keep Int c.known a.0, (keep (kinds q) c.number a.1.0, cells_made f h keep kinds (q + 1) cs a.1.1))

-- steps
pub steps_made : {V : Type 0} (f h : IntKind → V → Type 0) → ((k : IntKind) (v : V) → f k v → h k v) → (xs : List (GuardedEvent V)) → StepsMade f xs → StepsMade h xs
steps_made f h keep [] a = tt
steps_made f h keep (x ∷ xs) a = (keep Int x.test a.0, steps_made f h keep xs a.1)

-- a step more
pub steps_more : {V : Type 0} (f : IntKind → V → Type 0) (xs : List (GuardedEvent V)) (x : GuardedEvent V) → StepsMade f xs → f Int x.test → StepsMade f (xs ++ x ∷ [])
steps_more f [] x a m = (m, tt)
steps_more f (y ∷ xs) x a m = (a.0, steps_more f xs x a.1 m)

-- all values of a walk
pub is_made_still : {V : Type 0} (f h : IntKind → V → Type 0) → ((k : IntKind) (v : V) → f k v → h k v) → (g : Setting) (w : WalkState V) → IsMade f g w → IsMade h g w
is_made_still f h keep g w a = record {
  guard = keep Int w.guard a.guard;
  broken = keep Int w.broken a.broken;
  continued = keep Int w.continued a.continued;
  registers = row_made f h keep (register_kind g) 0 w.registers.items a.registers;
  cells = cells_made f h keep (cell_kind g) 0 w.cells.items a.cells;
  steps = steps_made f h keep w.steps.items a.steps;
}

-- ---- what is shown

-- registers
pub row_shown : {V : Type 0} (f h : IntKind → V → ℤ → Type 0) → ((k : IntKind) (v : V) (z : ℤ) → f k v z → h k v z) → (kinds : ℕ → IntKind) (i : ℕ) (vs : List V) (xs : List ℤ) → RowShows f kinds i vs xs → RowShows h kinds i vs xs
row_shown f h keep kinds i [] [] a = tt
row_shown f h keep kinds i [] (x ∷ xs) a = absurd a
row_shown f h keep kinds i (v ∷ vs) [] a = absurd a
row_shown f h keep kinds i (v ∷ vs) (x ∷ xs) a = (keep (kinds i) v x a.0, row_shown f h keep kinds (i + 1) vs xs a.1)

-- kept objects
pub cells_shown : {V : Type 0} (f h : IntKind → V → ℤ → Type 0) → ((k : IntKind) (v : V) (z : ℤ) → f k v z → h k v z) → (kinds : ℕ → IntKind) (q : ℕ) (cs : List (KeptCell V)) (xs : KeptNumbers) → CellsShow f kinds q cs xs → CellsShow h kinds q cs xs
cells_shown f h keep kinds q [] [] a = tt
cells_shown f h keep kinds q [] (x ∷ xs) a = absurd a
cells_shown f h keep kinds q (c ∷ cs) [] a = absurd a
cells_shown f h keep kinds q (c ∷ cs) (x ∷ xs) a =
    (record { known = a.0.known; number = a.0.number; known_is = keep Int c.known (bit a.0.known) a.0.known_is; number_is = keep (kinds q) c.number a.0.number a.0.number_is; is = a.0.is }, cells_shown f h keep kinds (q + 1) cs xs a.1)

-- steps
pub live_shown : {V : Type 0} (f h : V → ℤ → Type 0) → ((v : V) (z : ℤ) → f v z → h v z) → (xs : List (GuardedEvent V)) (t : List Event) → Live f xs t → Live h xs t
live_shown f h keep [] t a = a
live_shown f h keep (x ∷ xs) t a = (a.0, a.1, keep x.test (bit a.0) a.2, live_shown f h keep xs a.1 a.3, a.4)

-- a step more
pub live_more : {V : Type 0} (f : V → ℤ → Type 0) (xs : List (GuardedEvent V)) (t : List Event) (x : GuardedEvent V) (b : Bool) → Live f xs t → f x.test (bit b) → Live f (xs ++ x ∷ []) (t ++ one_if b x.event)
live_more f [] t x b a s = (b, [], s, refl, ap (λ z. z ++ one_if b x.event) a ∙ sym (append-nil (one_if b x.event)))
live_more f (y ∷ xs) t x b a s = (a.0, a.1 ++ one_if b x.event, a.2, live_more f xs a.1 x b a.3 s, ap (λ z. z ++ one_if b x.event) a.4 ∙ append_assoc (one_if a.0 y.event) a.1 (one_if b x.event))

-- where a walk stands
pub stands_still : {V : Type 0} (f h : IntKind → V → ℤ → Type 0) → ((k : IntKind) (v : V) (z : ℤ) → f k v z → h k v z) → (g : Setting) (w : WalkState V) (s : Standing) → Stands f g w s → Stands h g w s
stands_still f h keep g w s a = record {
  guard = keep Int w.guard (bit s.alive) a.guard;
  broken = keep Int w.broken (bit s.broken) a.broken;
  continued = keep Int w.continued (bit s.continued) a.continued;
  numbers = row_shown f h keep (register_kind g) 0 w.registers.items s.numbers a.numbers;
  kept = cells_shown f h keep (cell_kind g) 0 w.cells.items s.kept a.kept;
  events = live_shown (f Int) (h Int) (keep Int) w.steps.items (events_of s.entries) a.events;
}

-- ---- marks of entries

-- entries one after another
pub events_append : (t u : List Entry) → events_of (t ++ u) ≡ events_of t ++ events_of u
events_append [] u = refl
events_append (e ∷ t) u = ap (λ z. entry_events e ++ z) (events_append t u) ∙ sym (append_assoc (entry_events e) (events_of t) (events_of u))

-- entries under a guard
pub events_under : (b : Bool) (t : List Entry) → events_of (if b then t else []) ≡ (if b then events_of t else [])
events_under true t = refl
events_under false t = refl

-- a branch that is entered
pub events_entered : (b : Bool) (t : List Entry) (k : ℕ) → events_of t ++ one_if b (hit k Arm) ≡ events_of (t ++ (if b then Enter k ∷ [] else []))
events_entered true t k = sym (events_append t (Enter k ∷ []))
events_entered false t k = append-nil (events_of t) ∙ ap events_of (sym (append-nil t))

-- what is seen of a test without a replacement
pub events_seen : (g b : Bool) (t : List Entry) (k : ℕ) → (events_of t ++ one_if (g && not b) (hit k AlwaysTrue)) ++ one_if (g && b) (hit k AlwaysFalse) ≡ events_of (t ++ (if g then Seen k b None ∷ [] else []))
events_seen true true t k = ap (λ z. z ++ hit k AlwaysFalse ∷ []) (append-nil (events_of t)) ∙ sym (events_append t (Seen k true None ∷ []))
events_seen true false t k = append-nil (events_of t ++ hit k AlwaysTrue ∷ []) ∙ sym (events_append t (Seen k false None ∷ []))
events_seen false b t k = append-nil (events_of t ++ []) ∙ append-nil (events_of t) ∙ ap events_of (sym (append-nil t))

-- what is seen of a test with one
pub events_replaced : (g b c : Bool) (t : List Entry) (k : ℕ) → ((events_of t ++ one_if (g && not b) (hit k AlwaysTrue)) ++ one_if (g && b) (hit k AlwaysFalse)) ++ one_if (g && differs b c) (hit k Algebra) ≡ events_of (t ++ (if g then Seen k b (Some c) ∷ [] else []))
events_replaced true true true t k = append-nil ((events_of t ++ []) ++ hit k AlwaysFalse ∷ []) ∙ ap (λ z. z ++ hit k AlwaysFalse ∷ []) (append-nil (events_of t)) ∙ sym (events_append t (Seen k true (Some true) ∷ []))
events_replaced true true false t k = ap (λ z. (z ++ hit k AlwaysFalse ∷ []) ++ hit k Algebra ∷ []) (append-nil (events_of t)) ∙ append_assoc (events_of t) (hit k AlwaysFalse ∷ []) (hit k Algebra ∷ []) ∙ sym (events_append t (Seen k true (Some false) ∷ []))
events_replaced true false true t k = ap (λ z. z ++ hit k Algebra ∷ []) (append-nil (events_of t ++ hit k AlwaysTrue ∷ [])) ∙ append_assoc (events_of t) (hit k AlwaysTrue ∷ []) (hit k Algebra ∷ []) ∙ sym (events_append t (Seen k false (Some true) ∷ []))
events_replaced true false false t k = append-nil ((events_of t ++ hit k AlwaysTrue ∷ []) ++ []) ∙ append-nil (events_of t ++ hit k AlwaysTrue ∷ []) ∙ sym (events_append t (Seen k false (Some false) ∷ []))
events_replaced false b c t k = append-nil ((events_of t ++ []) ++ []) ∙ append-nil (events_of t ++ []) ∙ append-nil (events_of t) ∙ ap events_of (sym (append-nil t))

-- the events of a step more
pub events_more : {V : Type 0} (xs : List (GuardedEvent V)) (x : GuardedEvent V) → events_in (xs ++ x ∷ []) ≡ events_in xs ++ x.event ∷ []
events_more [] x = refl
events_more (y ∷ xs) x = ap (λ z. y.event ∷ z) (events_more xs x)

-- under another guard
pub is_made_guarded : {V : Type 0} (f : IntKind → V → Type 0) (g : Setting) (w : WalkState V) (v : V) → IsMade f g w → f Int v → IsMade f g (record w { guard = v })
is_made_guarded f g w v a m = record { guard = m; broken = a.broken; continued = a.continued; registers = a.registers; cells = a.cells; steps = a.steps }

-- where the body of a loop begins
pub is_made_opened : {V : Type 0} (f : IntKind → V → Type 0) (g : Setting) (w : WalkState V) (v : V) → IsMade f g w → f Int v → IsMade f g (record w { broken = v; continued = v })
is_made_opened f g w v a m = record { guard = a.guard; broken = m; continued = m; registers = a.registers; cells = a.cells; steps = a.steps }
