-- What parts of a walk leave together.
use Rattle.std.proofs.Common.{◌≡◌, ℕ, List, [], ◌++◌, ℤ, sym, ap, ◌∙◌, append_assoc}
use Rattle.std.proofs.lemmas.List.{append-nil}
use Rattle.stk_ctype.specs.declared.kind.IntKind.{IntKind}
use Rattle.stk_meaning.specs.Places.{Setting}
use Rattle.stk_meaning.specs.Worlds.{Ran, and_then, gives, Normal}
use Rattle.stk_meaning.specs.Paths.{KeptNumbers}
use Rattle.stk_values.specs.Keeping.{Keeps}
use Rattle.stk_guarded.specs.Standing.{Standing}
use Rattle.stk_guarded.proofs.Evaluations.{then_goes, gives_goes}
use Rattle.stk_walking.specs.declared.state.Event.{Event}
use Rattle.stk_walking.specs.declared.state.WalkState.{WalkState}
use Rattle.stk_walking.specs.Events.{events_in}
use Rattle.stk_walking.specs.Stands.{IsMade}
use Rattle.stk_walking.specs.Leads.{Evaluates}
use Rattle.stk_walking.specs.Keyed.{AreThere}
use Rattle.stk_walking.proofs.Carried.{keeps_none, keeps_then}
use Rattle.stk_walk_statements.specs.Walked.{Course, Walked, as_part}

-- the events of two parts
pub events_then : (a b c es fs : List Event) → b ≡ a ++ es → c ≡ b ++ fs → c ≡ a ++ (es ++ fs)
events_then a b c es fs h k = k ∙ ap (λ z. z ++ fs) h ∙ append_assoc a es fs

-- a part with events behind one that has none
pub events_behind : (a b c es : List Event) → b ≡ a → c ≡ b ++ es → c ≡ a ++ es
events_behind a b c es h k = k ∙ ap (λ z. z ++ es) h

-- and in front of one
pub events_before : (a b c es : List Event) → b ≡ a ++ es → c ≡ b → c ≡ a ++ es
events_before a b c es h k = k ∙ h

-- none at all
pub events_none : (a b : List Event) → b ≡ a → b ≡ a ++ []
events_none a b h = h ∙ sym (append-nil a)

-- the keys stay in the store
pub there_still : {S V : Type 0} (serves : S → List ℤ → Type 0) (has_key : S → ℕ → IntKind → Type 0) (makes : S → IntKind → V → Type 0) (shows : S → List ℤ → IntKind → V → ℤ → Type 0) (a b : S) (kinds : List IntKind) → Keeps serves has_key makes shows a b → AreThere (has_key a) kinds → AreThere (has_key b) kinds
there_still serves has_key makes shows a b kinds k h = λ key j e. k.keys key j (h key j e)

module _ {S V : Type 0} (serves : S → List ℤ → Type 0) (has_key : S → ℕ → IntKind → Type 0) (makes : S → IntKind → V → Type 0) (shows : S → List ℤ → IntKind → V → ℤ → Type 0) (g : Setting) where
  -- a part that does nothing
  pub walked_none : (P : Course) (a : S) (w : WalkState V) → IsMade (makes a) g w → ((m : List ℤ) (s : Standing) → P m s s) → Walked serves has_key makes shows g [] P a a w w
  walked_none P a w made same = record {
    made = made;
    events = sym (append-nil (events_in w.steps.items));
    follows = λ m s served at. record { standing = s; stands = at; is = same m s };
    keeps = keeps_none serves has_key makes shows a;
  }

  -- a part of another course
  pub walked_as : (es : List Event) (P Q : Course) (a b : S) (w1 w2 : WalkState V) → ((m : List ℤ) (s t : Standing) → P m s t → Q m s t) → Walked serves has_key makes shows g es P a b w1 w2 → Walked serves has_key makes shows g es Q a b w1 w2
  walked_as es P Q a b w1 w2 other x = record {
    made = x.made;
    events = x.events;
    follows = λ m s served at. let y = x.follows m s served at in record { standing = y.standing; stands = y.stands; is = other m s y.standing y.is };
    keeps = x.keeps;
  }

  -- one part after another
  pub walked_then : (es fs : List Event) (P Q R : Course) (a b c : S) (w1 w2 w3 : WalkState V) → ((m : List ℤ) (s t u : Standing) → P m s t → Q m t u → R m s u) →
      Walked serves has_key makes shows g es P a b w1 w2 → Walked serves has_key makes shows g fs Q b c w2 w3 → Walked serves has_key makes shows g (es ++ fs) R a c w1 w3
  walked_then es fs P Q R a b c w1 w2 w3 together x y = record {
    made = y.made;
    events = events_then (events_in w1.steps.items) (events_in w2.steps.items) (events_in w3.steps.items) es fs x.events y.events;
    follows = λ m s served at.
        let x1 = x.follows m s served at in
        let y1 = y.follows m x1.standing (x.keeps.served m served) x1.stands in
        record { standing = y1.standing; stands = y1.stands; is = together m s x1.standing y1.standing x1.is y1.is };
    keeps = keeps_then serves has_key makes shows a b c x.keeps y.keeps;
  }

  -- parts of which nothing is left
  pub walked_end : (es fs : List Event) (P Q : Course) (a b : S) (w1 w2 : WalkState V) → es ++ [] ≡ fs → ((m : List ℤ) (s t : Standing) → P m s t → Q m s t) → Walked serves has_key makes shows g es P a b w1 w2 → Walked serves has_key makes shows g fs Q a b w1 w2
  walked_end es fs P Q a b w1 w2 e other x = record {
    made = x.made;
    events = x.events ∙ ap (λ z. events_in w1.steps.items ++ z) (sym (append-nil es) ∙ e);
    follows = λ m s served at. let y = x.follows m s served at in record { standing = y.standing; stands = y.stands; is = other m s y.standing y.is };
    keeps = x.keeps;
  }

  -- an expression whose value isn't used
  pub walked_value : (es : List Event) (R : List ℤ → List ℤ → KeptNumbers → Ran ℤ KeptNumbers) (fa : List ℤ → ℤ → Type 0) (a b : S) (w1 w2 : WalkState V) → IsMade (makes b) g w2 → events_in w2.steps.items ≡ events_in w1.steps.items ++ es →
      Evaluates (serves a) (shows a) (shows b) g fa R w1 w2 → Keeps serves has_key makes shows a b → Walked serves has_key makes shows g es (as_part (λ m r k. and_then (R m r k) (λ x. gives Normal))) a b w1 w2
  walked_value es R fa a b w1 w2 made events follows keeps = record {
    made = made;
    events = events;
    follows = λ m s served at.
        let x = follows m s served at in
        record { standing = x.standing; stands = x.stands; is = then_goes (R m s.numbers s.kept) (λ x. gives Normal) x.number Normal s x.standing x.standing x.goes (gives_goes Normal x.standing) };
    keeps = keeps;
  }
