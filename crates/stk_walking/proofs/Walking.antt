-- How parts of a walk make a whole: one after another, with a value of what the last answered, behind a branch that is
-- entered, and in branches.
use Rattle.std.proofs.Common.{◌≡◌, ℕ, Bool, false, ◌&&◌, ◌||◌, not, List, [], ◌∷◌, ◌++◌, ℤ, sym, ap, ◌∙◌, subst, append_assoc}
use Rattle.std.proofs.lemmas.List.{append-nil}
use Rattle.std.specs.Prelude.{if◌then◌else◌}
use Rattle.stk_ctype.specs.declared.kind.IntKind.{IntKind}
use Rattle.stk_ctype.specs.declared.kind.IntKind.TheVariants.{Int}
use Rattle.stk_numbers.specs.declared.conditions.CandKind.TheVariants.{Arm}
use Rattle.stk_meaning.specs.declared.entry.Entry.{Entry}
use Rattle.stk_meaning.specs.declared.entry.Entry.TheVariants.{Enter}
use Rattle.stk_meaning.specs.Operations.{bit}
use Rattle.stk_meaning.specs.Places.{Setting}
use Rattle.stk_meaning.specs.Worlds.{Ran, Went, Cut, and_then, gives, entered}
use Rattle.stk_meaning.specs.Paths.{KeptNumbers}
use Rattle.stk_values.specs.Keeping.{Keeps}
use Rattle.stk_guarded.specs.Standing.{Standing, live, added}
use Rattle.stk_walking.specs.declared.state.Event.{Event}
use Rattle.stk_walking.specs.declared.state.WalkState.{WalkState}
use Rattle.stk_walking.specs.Events.{events_in, hit}
use Rattle.stk_walking.specs.Stands.{Stands, IsMade}
use Rattle.stk_walking.specs.Leads.{Leads}
use Rattle.stk_walking.specs.Walks.{IsReady, Walks}
use Rattle.stk_guarded.proofs.Evaluations.{adds_goes, gives_goes, cut_goes}
use Rattle.stk_walking.proofs.Carried.{keeps_then, is_made_still, is_made_guarded, stands_still}
use Rattle.stk_walking.proofs.Leading.{guarded, stands_guarded, leads_then, leads_value, leads_after, leads_branch, leads_either}

module _ {S V : Type 0} {serves : S → List ℤ → Type 0} {has_key : S → ℕ → IntKind → Type 0} {made : S → IntKind → V → Type 0} {shows : S → List ℤ → IntKind → V → ℤ → Type 0} {g : Setting} where
  -- what a later part may rest on
  pub ready_keeps : {kinds : List IntKind} {a b : S} {w : WalkState V} → IsReady has_key made kinds g a w → Keeps serves has_key made shows a b → IsReady has_key made kinds g b w
  ready_keeps {kinds} {a} {b} {w} r k = record { keys = λ key j h. k.keys key j (r.keys key j h); values_made = is_made_still (made a) (made b) k.made_still g w r.values_made }

  pub ready_walked : {A : Type 0} {kinds : List IntKind} {a b : S} {w w1 w2 : WalkState V} {P : List ℤ → Type 0} {answer : S → Type 0} {shown : S → List ℤ → A → Type 0} {R : List ℤ → List ℤ → KeptNumbers → Ran A KeptNumbers} {es : List Event} →
      IsReady has_key made kinds g a w → Walks serves has_key made shows g P answer shown R es a b w1 w2 → IsReady has_key made kinds g b w2
  ready_walked r p = record { keys = λ key j h. p.keeps.keys key j (r.keys key j h); values_made = p.values_made }

  -- one part after another, where the second may rest on what the first showed
  pub walks_then : {A B : Type 0} {a b c : S} {w1 w2 w3 : WalkState V} {P : List ℤ → Type 0} {Q : A → List ℤ → Type 0} {answer answer2 : S → Type 0} {shown : S → List ℤ → A → Type 0} {shown2 : S → List ℤ → B → Type 0}
      {R : List ℤ → List ℤ → KeptNumbers → Ran A KeptNumbers} (F : A → List ℤ → List ℤ → KeptNumbers → Ran B KeptNumbers) {es fs : List Event} (z : A) →
      Walks serves has_key made shows g P answer shown R es a b w1 w2 → ((x : A) → Walks serves has_key made shows g (Q x) answer2 shown2 (F x) fs b c w2 w3) →
      ((m : List ℤ) (x : A) → serves a m → P m → shown b m x → Q x m) →
      Walks serves has_key made shows g P answer2 shown2 (λ m r k. and_then (R m r k) (λ x. F x m)) (es ++ fs) a c w1 w3
  walks_then {A} {B} {a} {b} {c} {w1} {w2} {w3} {P} {Q} {answer} {answer2} {shown} {shown2} {R} F {es} {fs} z p q premise = record {
    answered = (q z).answered;
    values_made = (q z).values_made;
    events = (q z).events ∙ ap (λ u. u ++ fs) p.events ∙ append_assoc (events_in w1.steps.items) es fs;
    leads = λ m s served h at.
        let x = p.leads m s served h at in
        let y = (q x.number).leads m x.standing (p.keeps.served m served) (premise m x.number served h x.value) x.stands in
        leads_then (shows b m) (shows c m) g (shown b m) (shown2 c m) (R m s.numbers s.kept) (λ n. F n m) s w2 w3 x y;
    keeps = keeps_then serves has_key made shows a b c p.keeps (q z).keeps;
  }

  -- a value of what a part answered, in a store that keeps all
  pub walks_value : {A B : Type 0} {a b c : S} {w1 w2 : WalkState V} {P : List ℤ → Type 0} {answer answer2 : S → Type 0} {shown : S → List ℤ → A → Type 0} {shown2 : S → List ℤ → B → Type 0}
      {R : List ℤ → List ℤ → KeptNumbers → Ran A KeptNumbers} (f : List ℤ → A → B) {es : List Event} →
      Walks serves has_key made shows g P answer shown R es a b w1 w2 → Keeps serves has_key made shows b c → answer2 c →
      ((m : List ℤ) (x : A) → serves a m → P m → serves b m → shown b m x → shown2 c m (f m x)) →
      Walks serves has_key made shows g P answer2 shown2 (λ m r k. and_then (R m r k) (λ x. gives (f m x))) es a c w1 w2
  walks_value {A} {B} {a} {b} {c} {w1} {w2} {P} {answer} {answer2} {shown} {shown2} {R} f {es} p k n show = record {
    answered = n;
    values_made = is_made_still (made b) (made c) k.made_still g w2 p.values_made;
    events = p.events;
    leads = λ m s served h at.
        let x = p.leads m s served h at in
        leads_value (shows b m) (shows c m) g (shown b m) (shown2 c m) (R m s.numbers s.kept) (f m) s w2 (k.shown m) x (show m x.number served h (p.keeps.served m served) x.value);
    keeps = keeps_then serves has_key made shows a b c p.keeps k;
  }

  -- another value for the same number
  pub walks_shown : {A : Type 0} {a b c : S} {w1 w2 : WalkState V} {P : List ℤ → Type 0} {answer answer2 : S → Type 0} {shown shown2 : S → List ℤ → A → Type 0}
      {R : List ℤ → List ℤ → KeptNumbers → Ran A KeptNumbers} {es : List Event} →
      Walks serves has_key made shows g P answer shown R es a b w1 w2 → Keeps serves has_key made shows b c → answer2 c →
      ((m : List ℤ) (x : A) → serves a m → P m → serves b m → shown b m x → shown2 c m x) →
      Walks serves has_key made shows g P answer2 shown2 R es a c w1 w2
  walks_shown {A} {a} {b} {c} {w1} {w2} {P} {answer} {answer2} {shown} {shown2} {R} {es} p k n show = record {
    answered = n;
    values_made = is_made_still (made b) (made c) k.made_still g w2 p.values_made;
    events = p.events;
    leads = λ m s served h at.
        let x = p.leads m s served h at in
        record { number = x.number; standing = x.standing; value = show m x.number served h (p.keeps.served m served) x.value; stands = stands_still (shows b m) (shows c m) (k.shown m) g w2 x.standing x.stands; goes = x.goes };
    keeps = keeps_then serves has_key made shows a b c p.keeps k;
  }

  -- under a stronger premise
  pub walks_under : {A : Type 0} {a b : S} {w1 w2 : WalkState V} {P Q : List ℤ → Type 0} {answer : S → Type 0} {shown : S → List ℤ → A → Type 0} {R : List ℤ → List ℤ → KeptNumbers → Ran A KeptNumbers} {es : List Event} →
      Walks serves has_key made shows g P answer shown R es a b w1 w2 → ((m : List ℤ) → Q m → P m) → Walks serves has_key made shows g Q answer shown R es a b w1 w2
  walks_under p h = record { answered = p.answered; values_made = p.values_made; events = p.events; leads = λ m s served q at. p.leads m s served (h m q) at; keeps = p.keeps }

  -- after store calls that change nothing of the state
  pub walks_behind : {A : Type 0} {a b c : S} {w1 w2 : WalkState V} {P Q : List ℤ → Type 0} {answer : S → Type 0} {shown : S → List ℤ → A → Type 0} {R : List ℤ → List ℤ → KeptNumbers → Ran A KeptNumbers} {es : List Event} →
      Keeps serves has_key made shows a b → Walks serves has_key made shows g P answer shown R es b c w1 w2 → ((m : List ℤ) → serves a m → Q m → P m) → Walks serves has_key made shows g Q answer shown R es a c w1 w2
  walks_behind {A} {a} {b} {c} {w1} k p h = record {
    answered = p.answered;
    values_made = p.values_made;
    events = p.events;
    leads = λ m s served q at. p.leads m s (k.served m served) (h m served q) (stands_still (shows a m) (shows b m) (k.shown m) g w1 s at);
    keeps = keeps_then serves has_key made shows a b c k p.keeps;
  }

  -- the same by equal runs
  pub walks_as : {A : Type 0} {a b : S} {w1 w2 : WalkState V} {P : List ℤ → Type 0} {answer : S → Type 0} {shown : S → List ℤ → A → Type 0} {R : List ℤ → List ℤ → KeptNumbers → Ran A KeptNumbers} (Q : List ℤ → List ℤ → KeptNumbers → Ran A KeptNumbers) {es : List Event} →
      Walks serves has_key made shows g P answer shown R es a b w1 w2 → ((m r : List ℤ) (k : KeptNumbers) → R m r k ≡ Q m r k) → Walks serves has_key made shows g P answer shown Q es a b w1 w2
  walks_as {A} {a} {b} {w1} {w2} {P} {answer} {shown} {R} Q p e = record {
    answered = p.answered;
    values_made = p.values_made;
    events = p.events;
    leads = λ m s served q at. subst (λ (u : Ran A KeptNumbers). Leads (shows b m) g (shown b m) u s w2) (e m s.numbers s.kept) (p.leads m s served q at);
    keeps = p.keeps;
  }

  -- the same by equal events
  pub walks_marked : {A : Type 0} {a b : S} {w1 w2 : WalkState V} {P : List ℤ → Type 0} {answer : S → Type 0} {shown : S → List ℤ → A → Type 0} {R : List ℤ → List ℤ → KeptNumbers → Ran A KeptNumbers} {es fs : List Event} →
      Walks serves has_key made shows g P answer shown R es a b w1 w2 → es ≡ fs → Walks serves has_key made shows g P answer shown R fs a b w1 w2
  walks_marked {A} {a} {b} {w1} {w2} {P} {answer} {shown} {R} p e = record { answered = p.answered; values_made = p.values_made; events = p.events ∙ ap (λ u. events_in w1.steps.items ++ u) e; leads = p.leads; keeps = p.keeps }

  -- a branch that is entered
  pub walks_entered : {A : Type 0} {a b : S} {w1 w2 w3 : WalkState V} {P : List ℤ → Type 0} {answer : S → Type 0} {shown : S → List ℤ → A → Type 0} {R : List ℤ → List ℤ → KeptNumbers → Ran A KeptNumbers} {es : List Event} (n : ℕ) →
      events_in w2.steps.items ≡ events_in w1.steps.items ++ hit n Arm ∷ [] → ((m : List ℤ) (s : Standing) → Stands (shows a m) g w1 s → Stands (shows a m) g w2 (added (Enter n ∷ []) s)) →
      Walks serves has_key made shows g P answer shown R es a b w2 w3 → Walks serves has_key made shows g P answer shown (λ m r k. entered n (R m r k)) (hit n Arm ∷ es) a b w1 w3
  walks_entered {A} {a} {b} {w1} {w2} {w3} {P} {answer} {shown} {R} {es} n events stands p = record {
    answered = p.answered;
    values_made = p.values_made;
    events = p.events ∙ ap (λ u. u ++ es) events ∙ append_assoc (events_in w1.steps.items) (hit n Arm ∷ []) es;
    leads = λ m s served h at. leads_after (shows a m) (shows b m) g (shown b m) (Enter n ∷ []) (R m) s w3 (p.leads m (added (Enter n ∷ []) s) served h (stands m s at));
    keeps = p.keeps;
  }

  -- a value behind the entries of what is violated
  pub walks_violated : {A : Type 0} {a b : S} {w1 w2 : WalkState V} {P : List ℤ → Type 0} {answer : S → Type 0} {shown : S → List ℤ → A → Type 0} (x : List ℤ → A) (t : List ℤ → List Entry) {es : List Event} →
      answer b → IsMade (made b) g w2 → events_in w2.steps.items ≡ events_in w1.steps.items ++ es → Keeps serves has_key made shows a b →
      ((m : List ℤ) (s : Standing) → serves a m → P m → Stands (shows a m) g w1 s → Stands (shows b m) g w2 (added (t m) s)) → ((m : List ℤ) → serves a m → P m → shown b m (x m)) →
      Walks serves has_key made shows g P answer shown (λ m r k. Went (x m) r k (t m)) es a b w1 w2
  walks_violated x t n a e k stands show = record {
    answered = n;
    values_made = a;
    events = e;
    leads = λ m s served h at. record { number = x m; standing = added (t m) s; value = show m served h; stands = stands m s served h at; goes = adds_goes (t m) (x m) s };
    keeps = k;
  }

  -- a value of the store alone
  pub walks_alone : {A : Type 0} {a b : S} {w : WalkState V} {P : List ℤ → Type 0} {answer : S → Type 0} {shown : S → List ℤ → A → Type 0} (x : List ℤ → A) →
      answer b → IsMade (made a) g w → Keeps serves has_key made shows a b → ((m : List ℤ) → serves a m → P m → shown b m (x m)) →
      Walks serves has_key made shows g P answer shown (λ m. gives (x m)) [] a b w w
  walks_alone {A} {a} {b} {w} x n i k show = record {
    answered = n;
    values_made = is_made_still (made a) (made b) k.made_still g w i;
    events = sym (append-nil (events_in w.steps.items));
    leads = λ m s served h at. record { number = x m; standing = s; value = show m served h; stands = stands_still (shows a m) (shows b m) (k.shown m) g w s at; goes = gives_goes (x m) s };
    keeps = k;
  }

  -- a branch alone, under the guard and a test; else a value
  pub walks_branch : {A : Type 0} {a a1 b c : S} {w1 w2 : WalkState V} {P Q : List ℤ → Type 0} {answer answer2 : S → Type 0} {shown shown2 : S → List ℤ → A → Type 0} {R : List ℤ → List ℤ → KeptNumbers → Ran A KeptNumbers} {es : List Event} (d : Bool) (z : A) (first end : V) →
      Keeps serves has_key made shows a a1 → Walks serves has_key made shows g P answer shown R es a1 b (guarded w1 first) w2 → Keeps serves has_key made shows b c → answer2 c → made c Int end →
      ((m : List ℤ) → serves a m → Q m → P m) →
      ((m : List ℤ) (s : Standing) → serves a m → Q m → Stands (shows a m) g w1 s → shows a1 m Int first (bit (s.alive && d))) →
      ((m : List ℤ) (s t : Standing) → serves a m → Q m → Stands (shows a m) g w1 s → shows b m Int w2.guard (bit t.alive) → shows c m Int end (bit ((s.alive && not d) || t.alive))) →
      ((m : List ℤ) (x : A) → serves a m → Q m → shown b m x → shown2 c m (if d then x else z)) →
      Walks serves has_key made shows g Q answer2 shown2 (λ m r k. if d then R m r k else gives z r k) es a c w1 (guarded w2 end)
  walks_branch {A} {a} {a1} {b} {c} {w1} {w2} {P} {Q} {answer} {answer2} {shown} {shown2} {R} {es} d z first end k p l n made_end premise first_shown end_shown value = record {
    answered = n;
    values_made = is_made_guarded (made c) g w2 end (is_made_still (made b) (made c) l.made_still g w2 p.values_made) made_end;
    events = p.events;
    leads = λ m s served q at.
        let start = stands_guarded (shows a1 m) g w1 s first (s.alive && d) (stands_still (shows a m) (shows a1 m) (k.shown m) g w1 s at) (first_shown m s served q at) in
        let x = p.leads m (live (s.alive && d) s) (k.served m served) (premise m served q) start in
        leads_branch (shows b m) (shows c m) g (shown b m) (shown2 c m) d (R m) z s w2 end (l.shown m) x (value m x.number served q x.value) (end_shown m s x.standing served q at x.stands.guard);
    keeps = keeps_then serves has_key made shows a a1 c k (keeps_then serves has_key made shows a1 b c p.keeps l);
  }

  -- either branch
  pub walks_either : {A : Type 0} {a a1 b c e : S} {w1 w2 w3 : WalkState V} {P1 P2 Q : List ℤ → Type 0} {answer1 answer2 answer3 : S → Type 0} {shown1 shown2 shown3 : S → List ℤ → A → Type 0} {R1 R2 : List ℤ → List ℤ → KeptNumbers → Ran A KeptNumbers} {es fs : List Event} (d : Bool) (first second end : V) →
      Keeps serves has_key made shows a a1 → Walks serves has_key made shows g P1 answer1 shown1 R1 es a1 b (guarded w1 first) w2 → Walks serves has_key made shows g P2 answer2 shown2 R2 fs b c (guarded w2 second) w3 → Keeps serves has_key made shows c e → answer3 e → made e Int end →
      ((m : List ℤ) → serves a m → Q m → P1 m) → ((m : List ℤ) → serves a m → Q m → P2 m) →
      ((m : List ℤ) (s : Standing) → serves a m → Q m → Stands (shows a m) g w1 s → shows a1 m Int first (bit (s.alive && d))) →
      ((m : List ℤ) (s : Standing) → serves a m → Q m → Stands (shows a m) g w1 s → shows a1 m Int second (bit (s.alive && not d))) →
      ((m : List ℤ) (t u : Standing) → serves a m → shows b m Int w2.guard (bit t.alive) → shows c m Int w3.guard (bit u.alive) → shows e m Int end (bit (t.alive || u.alive))) →
      ((m : List ℤ) (x y : A) → serves a m → Q m → shown1 b m x → shown2 c m y → shown3 e m (if d then x else y)) →
      Walks serves has_key made shows g Q answer3 shown3 (λ m r k. if d then R1 m r k else R2 m r k) (es ++ fs) a e w1 (guarded w3 end)
  walks_either {A} {a} {a1} {b} {c} {e} {w1} {w2} {w3} {P1} {P2} {Q} {answer1} {answer2} {answer3} {shown1} {shown2} {shown3} {R1} {R2} {es} {fs} d first second end k p q l n made_end premise1 premise2 first_shown second_shown end_shown value = record {
    answered = n;
    values_made = is_made_guarded (made e) g w3 end (is_made_still (made c) (made e) l.made_still g w3 q.values_made) made_end;
    events = q.events ∙ ap (λ u. u ++ fs) p.events ∙ append_assoc (events_in w1.steps.items) es fs;
    leads = λ m s served h at.
        let at1 = stands_guarded (shows a1 m) g w1 s first (s.alive && d) (stands_still (shows a m) (shows a1 m) (k.shown m) g w1 s at) (first_shown m s served h at) in
        let x = p.leads m (live (s.alive && d) s) (k.served m served) (premise1 m served h) at1 in
        let at2 = stands_guarded (shows b m) g w2 x.standing second (s.alive && not d) x.stands (p.keeps.shown m Int second (bit (s.alive && not d)) (second_shown m s served h at)) in
        let y = q.leads m (live (s.alive && not d) x.standing) (p.keeps.served m (k.served m served)) (premise2 m served h) at2 in
        leads_either (shows b m) (shows c m) (shows e m) g (shown1 b m) (shown2 c m) (shown3 e m) d (R1 m) (R2 m) s w2 w3 end (l.shown m) x y (value m x.number y.number served h x.value y.value)
        (end_shown m x.standing y.standing served x.stands.guard y.stands.guard);
    keeps = keeps_then serves has_key made shows a a1 e k (keeps_then serves has_key made shows a1 b e p.keeps (keeps_then serves has_key made shows b c e q.keeps l));
  }

  -- a cut: nothing goes on from here
  pub walks_cut : {A : Type 0} {a b : S} {w : WalkState V} {P : List ℤ → Type 0} {answer : S → Type 0} {shown : S → List ℤ → A → Type 0} (x : List ℤ → A) (none : V) →
      answer b → made b Int none → IsMade (made a) g w → Keeps serves has_key made shows a b → ((m : List ℤ) → serves a m → P m → shown b m (x m)) → ((m : List ℤ) → serves a m → shows b m Int none (bit false)) →
      Walks serves has_key made shows g P answer shown (λ m r k. Cut []) [] a b w (guarded w none)
  walks_cut {A} {a} {b} {w} x none n made_none i k show over = record {
    answered = n;
    values_made = is_made_guarded (made b) g w none (is_made_still (made a) (made b) k.made_still g w i) made_none;
    events = sym (append-nil (events_in w.steps.items));
    leads = λ m s served h at. record { number = x m; standing = live false s; value = show m served h; stands = stands_guarded (shows b m) g w s none false (stands_still (shows a m) (shows b m) (k.shown m) g w s at) (over m served); goes = cut_goes (x m) s };
    keeps = k;
  }

  -- a part whose steps are none
  pub walks_follows : {A : Type 0} {a b : S} {w1 w2 : WalkState V} {P : List ℤ → Type 0} {answer : S → Type 0} {shown : S → List ℤ → A → Type 0} (R : List ℤ → List ℤ → KeptNumbers → Ran A KeptNumbers) →
      answer b → IsMade (made b) g w2 → events_in w2.steps.items ≡ events_in w1.steps.items → ((m : List ℤ) (s : Standing) → serves a m → P m → Stands (shows a m) g w1 s → Leads (shows b m) g (shown b m) (R m s.numbers s.kept) s w2) →
      Keeps serves has_key made shows a b → Walks serves has_key made shows g P answer shown R [] a b w1 w2
  walks_follows {A} {a} {b} {w1} R n i e leads k = record { answered = n; values_made = i; events = e ∙ sym (append-nil (events_in w1.steps.items)); leads = leads; keeps = k }
