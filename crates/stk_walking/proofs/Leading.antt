-- What parts of a walk leave together, at one input map.
use Rattle.std.proofs.Common.{◌≡◌, ℕ, Bool, true, false, ◌&&◌, ◌||◌, not, List, [], ◌++◌, ℤ, refl}
use Rattle.std.specs.Prelude.{if◌then◌else◌}
use Rattle.stk_ctype.specs.declared.kind.IntKind.{IntKind}
use Rattle.stk_ctype.specs.declared.kind.IntKind.TheVariants.{Int}
use Rattle.stk_meaning.specs.declared.entry.Entry.{Entry}
use Rattle.stk_meaning.specs.Worlds.{Ran, after, and_then, gives, Flow, Normal, next, give_back, again, behind_body, Turned, Ended, left_switch}
use Rattle.stk_meaning.specs.Operations.{bit}
use Rattle.stk_meaning.specs.Places.{Setting}
use Rattle.stk_meaning.specs.Paths.{KeptNumbers}
use Rattle.stk_guarded.specs.Standing.{Standing, live, added, moved_to}
use Rattle.stk_guarded.specs.Statements.{given_back_to}
use Rattle.stk_guarded.specs.Turns.{opened, closed, no_more, turn_end}
use Rattle.stk_guarded.specs.Sections.{begun, past}
use Rattle.stk_guarded.proofs.Evaluations.{then_goes, after_goes, gives_goes, branch_goes, either_goes}
use Rattle.stk_guarded.proofs.Statements.{then_flows, next_flows, branch_flows, either_flows, scope_flows}
use Rattle.stk_guarded.proofs.Turns.{turn_flows, tested_flows, moved_flows}
use Rattle.stk_guarded.proofs.Sections.{left_flows}
use Rattle.stk_walking.specs.declared.state.WalkState.{WalkState}
use Rattle.stk_walking.specs.Stands.{Stands}
use Rattle.stk_walking.specs.Leads.{Leads, Ends}
use Rattle.stk_walking.proofs.Carried.{stands_still}

-- a walk under another guard
abbrev pub guarded : {V : Type 0} → WalkState V → V → WalkState V
guarded w v = record w { guard = v }

-- where it stands
pub stands_guarded : {V : Type 0} (shows : IntKind → V → ℤ → Type 0) (g : Setting) (w : WalkState V) (s : Standing) (v : V) (b : Bool) → Stands shows g w s → shows Int v (bit b) → Stands shows g (guarded w v) (live b s)
stands_guarded shows g w s v b a h = record { guard = h; broken = a.broken; continued = a.continued; numbers = a.numbers; kept = a.kept; events = a.events }

module _ {V : Type 0} (f h : IntKind → V → ℤ → Type 0) (g : Setting) where
  -- one part after another
  pub leads_then : {A B : Type 0} (fa : A → Type 0) (hb : B → Type 0) (R : Ran A KeptNumbers) (F : A → List ℤ → KeptNumbers → Ran B KeptNumbers) (s : Standing) (w1 w2 : WalkState V) →
      (a : Leads f g fa R s w1) → Leads h g hb (F a.number a.standing.numbers a.standing.kept) a.standing w2 → Leads h g hb (and_then R F) s w2
  leads_then fa hb R F s w1 w2 a b = record {
    number = b.number;
    standing = b.standing;
    value = b.value;
    stands = b.stands;
    goes = then_goes R F a.number b.number s a.standing b.standing a.goes b.goes;
  }

  -- what follows entries
  pub leads_after : {B : Type 0} (hb : B → Type 0) (t : List Entry) (F : List ℤ → KeptNumbers → Ran B KeptNumbers) (s : Standing) (w2 : WalkState V) →
      Leads h g hb (F s.numbers s.kept) (added t s) w2 → Leads h g hb (after t (F s.numbers s.kept)) s w2
  leads_after hb t F s w2 b = record { number = b.number; standing = b.standing; value = b.value; stands = b.stands; goes = after_goes t F b.number s b.standing b.goes }

  -- the value of the last part, by a function of its number, in a store that keeps it
  pub leads_value : {A B : Type 0} (fa : A → Type 0) (hb : B → Type 0) (R : Ran A KeptNumbers) (p : A → B) (s : Standing) (w : WalkState V) → ((k : IntKind) (v : V) (z : ℤ) → f k v z → h k v z) →
      (a : Leads f g fa R s w) → hb (p a.number) → Leads h g hb (and_then R (λ x. gives (p x))) s w
  leads_value fa hb R p s w keep a b = record {
    number = p a.number;
    standing = a.standing;
    value = b;
    stands = stands_still f h keep g w a.standing a.stands;
    goes = then_goes R (λ x. gives (p x)) a.number (p a.number) s a.standing a.standing a.goes (gives_goes (p a.number) a.standing);
  }

-- a branch, under the guard and the test; w1 is where the test leaves the walk
pub leads_branch : {V A : Type 0} (f h : IntKind → V → ℤ → Type 0) (g : Setting) (fa : A → Type 0) (ha : A → Type 0) (b : Bool) (R : List ℤ → KeptNumbers → Ran A KeptNumbers) (z : A) (s : Standing) (w : WalkState V) (v : V) →
    ((k : IntKind) (v : V) (z : ℤ) → f k v z → h k v z) →
    (a : Leads f g fa (R s.numbers s.kept) (live (s.alive && b) s) w) → ha (if b then a.number else z) → h Int v (bit ((s.alive && not b) || a.standing.alive)) →
    Leads h g ha (if b then R s.numbers s.kept else gives z s.numbers s.kept) s (guarded w v)
leads_branch f h g fa ha b R z s w v keep a n e = record {
  number = if b then a.number else z;
  standing = live ((s.alive && not b) || a.standing.alive) a.standing;
  value = n;
  stands = stands_guarded h g w a.standing v ((s.alive && not b) || a.standing.alive) (stands_still f h keep g w a.standing a.stands) e;
  goes = branch_goes b R a.number z s a.standing a.goes;
}

-- either branch
pub leads_either : {V A : Type 0} (f1 f2 h : IntKind → V → ℤ → Type 0) (g : Setting) (fa fb ha : A → Type 0) (b : Bool) (R Q : List ℤ → KeptNumbers → Ran A KeptNumbers) (s : Standing) (w1 w2 : WalkState V) (v : V) →
    ((k : IntKind) (v : V) (z : ℤ) → f2 k v z → h k v z) →
    (a : Leads f1 g fa (R s.numbers s.kept) (live (s.alive && b) s) w1) → (c : Leads f2 g fb (Q a.standing.numbers a.standing.kept) (live (s.alive && not b) a.standing) w2) →
    ha (if b then a.number else c.number) → h Int v (bit (a.standing.alive || c.standing.alive)) →
    Leads h g ha (if b then R s.numbers s.kept else Q s.numbers s.kept) s (guarded w2 v)
leads_either f1 f2 h g fa fb ha b R Q s w1 w2 v keep a c n e = record {
  number = if b then a.number else c.number;
  standing = live (a.standing.alive || c.standing.alive) c.standing;
  value = n;
  stands = stands_guarded h g w2 c.standing v (a.standing.alive || c.standing.alive) (stands_still f2 h keep g w2 c.standing c.stands) e;
  goes = either_goes b R Q a.number c.number s a.standing c.standing a.goes c.goes;
}

-- ---- statements

-- a statement behind an expression
pub ends_then : {V A : Type 0} (f h : IntKind → V → ℤ → Type 0) (g : Setting) (ks : List ℕ) (fa : A → Type 0) (R : Ran A KeptNumbers) (F : A → List ℤ → KeptNumbers → Ran Flow KeptNumbers) (s : Standing) (w1 w2 : WalkState V) →
    (a : Leads f g fa R s w1) → Ends h g ks (F a.number a.standing.numbers a.standing.kept) a.standing w2 → Ends h g ks (and_then R F) s w2
ends_then f h g ks fa R F s w1 w2 a b = record { standing = b.standing; stands = b.stands; flows = then_flows ks R F a.number s a.standing b.standing a.goes b.flows }

-- a statement behind a statement
pub ends_next : {V : Type 0} (f h : IntKind → V → ℤ → Type 0) (g : Setting) (js ks : List ℕ) (R : Ran Flow KeptNumbers) (F : List ℤ → KeptNumbers → Ran Flow KeptNumbers) (s : Standing) (w1 w2 : WalkState V) →
    (a : Ends f g js R s w1) → Ends h g ks (F a.standing.numbers a.standing.kept) a.standing w2 → Ends h g (js ++ ks) (next R F) s w2
ends_next f h g js ks R F s w1 w2 a b = record { standing = b.standing; stands = b.stands; flows = next_flows js ks R F s a.standing b.standing a.flows b.flows }

-- either branch
pub ends_either : {V : Type 0} (f1 f2 h : IntKind → V → ℤ → Type 0) (g : Setting) (b : Bool) (R Q : List ℤ → KeptNumbers → Ran Flow KeptNumbers) (s : Standing) (w1 w2 : WalkState V) (v : V) →
    ((k : IntKind) (v : V) (z : ℤ) → f2 k v z → h k v z) →
    (a : Ends f1 g [] (R s.numbers s.kept) (live (s.alive && b) s) w1) → (c : Ends f2 g [] (Q a.standing.numbers a.standing.kept) (live (s.alive && not b) a.standing) w2) →
    h Int v (bit (a.standing.alive || c.standing.alive)) →
    Ends h g [] (if b then R s.numbers s.kept else Q s.numbers s.kept) s (guarded w2 v)
ends_either f1 f2 h g b R Q s w1 w2 v keep a c e = record {
  standing = live (a.standing.alive || c.standing.alive) c.standing;
  stands = stands_guarded h g w2 c.standing v (a.standing.alive || c.standing.alive) (stands_still f2 h keep g w2 c.standing c.stands) e;
  flows = either_flows b R Q s a.standing c.standing a.flows c.flows;
}

-- a branch alone
pub ends_branch : {V : Type 0} (f h : IntKind → V → ℤ → Type 0) (g : Setting) (b : Bool) (R : List ℤ → KeptNumbers → Ran Flow KeptNumbers) (s : Standing) (w : WalkState V) (v : V) →
    ((k : IntKind) (v : V) (z : ℤ) → f k v z → h k v z) →
    (a : Ends f g [] (R s.numbers s.kept) (live (s.alive && b) s) w) → h Int v (bit ((s.alive && not b) || a.standing.alive)) →
    Ends h g [] (if b then R s.numbers s.kept else gives Normal s.numbers s.kept) s (guarded w v)
ends_branch f h g b R s w v keep a e = record {
  standing = live ((s.alive && not b) || a.standing.alive) a.standing;
  stands = stands_guarded h g w a.standing v ((s.alive && not b) || a.standing.alive) (stands_still f h keep g w a.standing a.stands) e;
  flows = branch_flows b R s a.standing a.flows;
}

-- a walk that has left a loop, with what the statements round it had
abbrev pub leaving : {V : Type 0} → WalkState V → V → V → V → WalkState V
leaving w v b c = record w { guard = v; broken = b; continued = c }

-- the turn of a loop: its body from where nothing has left it, and what follows the body
pub ends_turn : {V A : Type 0} (f1 f2 h : IntKind → V → ℤ → Type 0) (g : Setting) (fa : A → Type 0) (q : A → Bool) (S : List ℤ → KeptNumbers → Ran A KeptNumbers) (B : List ℤ → KeptNumbers → Ran Flow KeptNumbers) (s : Standing) (w1 w2 : WalkState V) (v b c : V) →
    ((k : IntKind) (v : V) (z : ℤ) → f2 k v z → h k v z) →
    (a : Ends f1 g [] (B s.numbers s.kept) (opened s) w1) → (d : Leads f2 g fa (S a.standing.numbers a.standing.kept) (live (a.standing.alive || a.standing.continued) a.standing) w2) →
    h Int v (bit ((d.standing.alive && not (q d.number)) || d.standing.broken)) → h Int b (bit s.broken) → h Int c (bit s.continued) →
    Ends h g [] (again (behind_body (B s.numbers s.kept) (turn_end q S)) no_more) s (leaving w2 v b c)
ends_turn f1 f2 h g fa q S B s w1 w2 v b c keep a d hv hb hc =
    let u = stands_still f2 h keep g w2 d.standing d.stands in
    record {
      standing = closed ((d.standing.alive && not (q d.number)) || d.standing.broken) s d.standing;
      stands = record { guard = hv; broken = hb; continued = hc; numbers = u.numbers; kept = u.kept; events = u.events };
      flows = turn_flows q S B d.number s a.standing d.standing a.flows d.goes;
    }

-- a test before the turn
pub ends_tested : {V : Type 0} (f1 f2 h : IntKind → V → ℤ → Type 0) (g : Setting) (fa : ℤ → Type 0) (T : Ran ℤ KeptNumbers) (q : ℤ → Bool) (R : List ℤ → KeptNumbers → Ran Turned KeptNumbers) (s : Standing) (w1 w2 : WalkState V) (v : V) →
    ((k : IntKind) (v : V) (z : ℤ) → f2 k v z → h k v z) →
    (a : Leads f1 g fa T s w1) → (c : Ends f2 g [] (again (R a.standing.numbers a.standing.kept) no_more) (live (a.standing.alive && q a.number) a.standing) w2) →
    h Int v (bit ((a.standing.alive && not (q a.number)) || c.standing.alive)) →
    Ends h g [] (again (and_then T (λ x r m. if q x then R r m else gives (Ended Normal) r m)) no_more) s (guarded w2 v)
ends_tested f1 f2 h g fa T q R s w1 w2 v keep a c e = record {
  standing = live ((a.standing.alive && not (q a.number)) || c.standing.alive) c.standing;
  stands = stands_guarded h g w2 c.standing v ((a.standing.alive && not (q a.number)) || c.standing.alive) (stands_still f2 h keep g w2 c.standing c.stands) e;
  flows = tested_flows T q R a.number s a.standing c.standing a.goes c.flows;
}

-- a loop begins with registers and kept numbers of its own
pub ends_moved : {V : Type 0} (h : IntKind → V → ℤ → Type 0) (g : Setting) (R : List ℤ → KeptNumbers → Ran Flow KeptNumbers) (r : List ℤ) (m : KeptNumbers) (s : Standing) (w : WalkState V) →
    Ends h g [] (R (moved_to r m s).numbers (moved_to r m s).kept) (moved_to r m s) w → Ends h g [] (R r m) s w
ends_moved h g R r m s w a = record { standing = a.standing; stands = a.stands; flows = moved_flows R r m s a.standing a.flows }

-- a scope gives back what it declares; numbers are those of the values that are put back
pub ends_scope : {V : Type 0} (h : IntKind → V → ℤ → Type 0) (g : Setting) (ks : List ℕ) (R : Ran Flow KeptNumbers) (s : Standing) (w w2 : WalkState V) →
    (a : Ends h g ks R s w) → Stands h g w2 (given_back_to ks s.numbers a.standing) → Ends h g [] (give_back ks s.numbers R) s w2
ends_scope h g ks R s w w2 a b = record { standing = given_back_to ks s.numbers a.standing; stands = b; flows = scope_flows ks R s a.standing a.flows }

-- where the body of a loop begins
pub stands_opened : {V : Type 0} (shows : IntKind → V → ℤ → Type 0) (g : Setting) (w : WalkState V) (s : Standing) (v : V) → Stands shows g w s → shows Int v (bit false) → Stands shows g (record w { broken = v; continued = v }) (opened s)
stands_opened shows g w s v a h = record { guard = a.guard; broken = h; continued = h; numbers = a.numbers; kept = a.kept; events = a.events }

-- a turn that always asks for another goes on only by `break`
pub unbroken : (alive broken : Bool) → ((alive && not true) || broken) ≡ broken
unbroken true broken = refl
unbroken false broken = refl

-- where a `switch` ends: what it began with stands again
pub ends_left : {V : Type 0} (h : IntKind → V → ℤ → Type 0) (g : Setting) (R : Ran Flow KeptNumbers) (s : Standing) (w : WalkState V) (v b : V) →
    (a : Ends h g [] R (begun s) w) → h Int v (bit (a.standing.alive || a.standing.broken)) → h Int b (bit s.broken) →
    Ends h g [] (left_switch R) s (record w { guard = v; broken = b })
ends_left h g R s w v b a hv hb = record {
  standing = past s a.standing;
  stands = record { guard = hv; broken = hb; continued = a.stands.continued; numbers = a.stands.numbers; kept = a.stands.kept; events = a.stands.events };
  flows = left_flows R s a.standing a.flows;
}
