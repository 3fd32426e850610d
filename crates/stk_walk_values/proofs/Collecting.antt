-- The arguments of a call, one after another.
use Rattle.std.proofs.Common.{◌≡◌, ℕ, zero, suc, ◌<◌, List, [], ◌∷◌, ◌++◌, length, get_or, map, ℤ, Option, refl, sym, ap, ◌∙◌, subst, append_assoc, add-one, arith}
use Rattle.std.proofs.lemmas.List.{append-nil, length-append}
use Rattle.stk_ctype.specs.declared.kind.IntKind.{IntKind}
use Rattle.stk_ctype.specs.Types.{TypeTrees}
use Rattle.stk_tree.specs.declared.expression.Expr.{Expr}
use Rattle.stk_tree.specs.Syntax.{ExprTree, ExprTrees, no_expressions, then_expression}
use Rattle.stk_tree.specs.View.{view_expression, expressions}
use Rattle.stk_meaning.specs.Libraries.{Library}
use Rattle.stk_meaning.specs.Places.{Setting}
use Rattle.stk_meaning.specs.Worlds.{and_then, gives}
use Rattle.stk_meaning.specs.Paths.{InputMap, path_world}
use Rattle.stk_meaning.specs.Expressions.{arguments_values, passed, later_parameters}
use Rattle.stk_eval_expr.specs.Leaving.{meaning_in}
use Rattle.stk_kinded.specs.Kinded.{Kinded, KindedAll}
use Rattle.stk_values.specs.Keeping.{Keeps}
use Rattle.stk_guarded.specs.Standing.{Standing, Goes}
use Rattle.stk_guarded.proofs.Evaluations.{then_goes, gives_goes, same_goes}
use Rattle.stk_walking.specs.declared.state.Event.{Event}
use Rattle.stk_walking.specs.declared.state.WalkState.{WalkState}
use Rattle.stk_walking.specs.Events.{events_in}
use Rattle.stk_walking.specs.ExpressionEvents.{expression_events, argument_events}
use Rattle.stk_walking.specs.Stands.{Stands, IsMade}
use Rattle.stk_walking.specs.Walks.{Walks, WalksTo}
use Rattle.stk_walking.proofs.Carried.{keeps_then, is_made_still, stands_still}
use Rattle.stk_walk_values.specs.declared.calls.Arguments.{Arguments}
use Rattle.stk_walk_values.proofs.Lasting.{operands_made}
use Rattle.stk_walk_values.specs.Arguments.{Takes, ArgumentsMade, ArgumentsShow, parameters_behind}

-- at one map: the numbers so far, where the walk stands, and that what completes the rest completes the whole
pub record PassedAt {V : Type 0} (shows : IntKind → V → ℤ → Type 0) (g : Setting) (library : Option Library) (found : Arguments V) (ts : TypeTrees) (i : InputMap) (whole rest : ExprTrees) (s : Standing) (w : WalkState V) : Type 0 where
  pub numbers : List ℤ
  pub standing : Standing
  pub shown : ArgumentsShow shows library found numbers
  pub stands : Stands shows g w standing
  pub completes : (ys : List ℤ) (u : Standing) → Goes (arguments_values g (path_world i) (parameters_behind (length numbers) ts) rest standing.numbers standing.kept) ys standing u → Goes (arguments_values g (path_world i) ts whole s.numbers s.kept) (numbers ++ ys) s u

-- from one store and state to others
pub record Passed {S V : Type 0} (serves : S → List ℤ → Type 0) (has_key : S → ℕ → IntKind → Type 0) (made : S → IntKind → V → Type 0) (shows : S → List ℤ → IntKind → V → ℤ → Type 0) (g : Setting) (under : List ℤ → InputMap) (library : Option Library) (found : Arguments V) (whole rest : ExprTrees) (a b : S) (w1 w2 : WalkState V) : Type 0 where
  pub so_far : List Event
  pub completes : so_far ++ argument_events g rest ≡ argument_events g whole
  pub answered : ArgumentsMade (made b) library found
  pub values_made : IsMade (made b) g w2
  pub events : events_in w2.steps.items ≡ events_in w1.steps.items ++ so_far
  pub leads : (ts : TypeTrees) → Takes library ts → (m : List ℤ) (s : Standing) → serves a m → Stands (shows a m) g w1 s → PassedAt (shows b m) g library found ts (under m) whole rest s w2
  pub keeps : Keeps serves has_key made shows a b

-- an argument more
one_more : (g : Setting) (ts : TypeTrees) (i : InputMap) (whole : ExprTrees) (s : Standing) (xs : List ℤ) (t : Standing) (e : ExprTree) (es : ExprTrees) →
    ((ys : List ℤ) (u : Standing) → Goes (arguments_values g (path_world i) (parameters_behind (length xs) ts) (then_expression e es) t.numbers t.kept) ys t u → Goes (arguments_values g (path_world i) ts whole s.numbers s.kept) (xs ++ ys) s u) →
    (x : ℤ) (t1 : Standing) → Goes ((meaning_in g i e).value t.numbers t.kept) x t t1 → (ys : List ℤ) (u : Standing) →
    Goes (arguments_values g (path_world i) (parameters_behind (length (xs ++ passed (parameters_behind (length xs) ts) x ∷ [])) ts) es t1.numbers t1.kept) ys t1 u →
    Goes (arguments_values g (path_world i) ts whole s.numbers s.kept) ((xs ++ passed (parameters_behind (length xs) ts) x ∷ []) ++ ys) s u
one_more g ts i whole s xs t e es done x t1 goes ys u h =
    let us = parameters_behind (length xs) ts in
    let n = passed us x in
    let longer : length (xs ++ n ∷ []) ≡ suc (length xs) = length-append xs (n ∷ []) ∙ add-one (length xs) in
    let rest = subst (λ (j : ℕ). Goes (arguments_values g (path_world i) (parameters_behind j ts) es t1.numbers t1.kept) ys t1 u) longer h in
    let whole_goes = done (n ∷ ys) u
    (then_goes ((meaning_in g i e).value t.numbers t.kept) (λ x r m. and_then (arguments_values g (path_world i) (later_parameters us) es r m) (λ xs. gives (passed us x ∷ xs))) x (n ∷ ys) t t1 u goes
    (then_goes (arguments_values g (path_world i) (later_parameters us) es t1.numbers t1.kept) (λ xs. gives (n ∷ xs)) ys (n ∷ ys) t1 u u rest (gives_goes (n ∷ ys) u))) in
    same_goes (arguments_values g (path_world i) ts whole s.numbers s.kept) (xs ++ n ∷ ys) ((xs ++ n ∷ []) ++ ys) s u (sym (append_assoc xs (n ∷ []) ys)) whole_goes

module _ {S V : Type 0} {serves : S → List ℤ → Type 0} {has_key : S → ℕ → IntKind → Type 0} {made : S → IntKind → V → Type 0} {shows : S → List ℤ → IntKind → V → ℤ → Type 0} {g : Setting} {under : List ℤ → InputMap} {library : Option Library} where
  -- none yet
  pub passed_none : {a b : S} {w : WalkState V} {found : Arguments V} (es : ExprTrees) → ArgumentsMade (made b) library found → ((m : List ℤ) → serves a m → ArgumentsShow (shows b m) library found []) → IsMade (made a) g w → Keeps serves has_key made shows a b →
      Passed serves has_key made shows g under library found es es a b w w
  passed_none {a} {b} {w} es n show i k = record {
    so_far = [];
    completes = refl;
    answered = n;
    values_made = is_made_still (made a) (made b) k.made_still g w i;
    events = sym (append-nil (events_in w.steps.items));
    leads = λ ts takes m s served at. record { numbers = []; standing = s; shown = show m served; stands = stands_still (shows a m) (shows b m) (k.shown m) g w s at; completes = λ ys u h. h };
    keeps = k;
  }

  -- one more
  pub passed_more : {a b c d : S} {w1 w2 w3 : WalkState V} {found more : Arguments V} {k : IntKind} {v : V} {whole : ExprTrees} (e : ExprTree) (es : ExprTrees) →
      Passed serves has_key made shows g under library found whole (then_expression e es) a b w1 w2 →
      WalksTo serves has_key made shows g k v (λ m. (meaning_in g (under m) e).value) (expression_events g e).value b c w2 w3 →
      ArgumentsMade (made d) library more →
      ((m : List ℤ) (ts : TypeTrees) (xs : List ℤ) (x : ℤ) → serves c m → Takes library ts → ArgumentsShow (shows c m) library found xs → shows c m k v x → ArgumentsShow (shows d m) library more (xs ++ passed (parameters_behind (length xs) ts) x ∷ [])) →
      ((m : List ℤ) (xs : List ℤ) → ArgumentsShow (shows b m) library found xs → ArgumentsShow (shows c m) library found xs) →
      Keeps serves has_key made shows c d → Passed serves has_key made shows g under library more whole es a d w1 w3
  passed_more {a} {b} {c} {d} {w1} {w2} {w3} {found} {more} {k} {v} {whole} e es p q n show still l = record {
    so_far = p.so_far ++ (expression_events g e).value;
    completes = append_assoc p.so_far (expression_events g e).value (argument_events g es) ∙ p.completes;
    answered = n;
    values_made = is_made_still (made c) (made d) l.made_still g w3 q.values_made;
    events = q.events ∙ ap (λ z. z ++ (expression_events g e).value) p.events ∙ append_assoc (events_in w1.steps.items) p.so_far (expression_events g e).value;
    leads = λ ts takes m s served at.
        let x = p.leads ts takes m s served at in
        let s1 = p.keeps.served m served in
        let y = q.leads m x.standing s1 tt x.stands in
        let us = parameters_behind (length x.numbers) ts in
        let number = passed us y.number in
        record {
          numbers = x.numbers ++ number ∷ [];
          standing = y.standing;
          shown = show m ts x.numbers y.number (q.keeps.served m s1) takes (still m x.numbers x.shown) y.value;
          stands = stands_still (shows c m) (shows d m) (l.shown m) g w3 y.standing y.stands;
          completes = one_more g ts (under m) whole s x.numbers x.standing e es x.completes y.number y.standing y.goes;
        };
    keeps = keeps_then serves has_key made shows a b d p.keeps (keeps_then serves has_key made shows b c d q.keeps l);
  }

  -- all of them
  pub passed_all : {a b : S} {w1 w2 : WalkState V} {found : Arguments V} {whole : ExprTrees} (rest : ExprTrees) → rest ≡ no_expressions → Passed serves has_key made shows g under library found whole rest a b w1 w2 → (ts : TypeTrees) → Takes library ts →
      Walks serves has_key made shows g (λ m. Unit {0}) (λ c. ArgumentsMade (made c) library found) (λ c m xs. ArgumentsShow (shows c m) library found xs) (λ m. arguments_values g (path_world (under m)) ts whole) (argument_events g whole) a b w1 w2
  passed_all {a} {b} {w1} {w2} {found} {whole} rest none p ts takes = record {
    answered = p.answered;
    values_made = p.values_made;
    events = p.events ∙ ap (λ z. events_in w1.steps.items ++ z) (sym (append-nil p.so_far) ∙ ap (λ r. p.so_far ++ argument_events g r) (sym none) ∙ p.completes);
    leads = λ m s served h at.
        let x = p.leads ts takes m s served at in
        let ended = subst (λ (r : ExprTrees). Goes (arguments_values g (path_world (under m)) (parameters_behind (length x.numbers) ts) r x.standing.numbers x.standing.kept) [] x.standing x.standing) (sym none) (gives_goes [] x.standing) in
        record {
          number = x.numbers;
          standing = x.standing;
          value = x.shown;
          stands = x.stands;
          goes = same_goes (arguments_values g (path_world (under m)) ts whole s.numbers s.kept) (x.numbers ++ []) x.numbers s x.standing (append-nil x.numbers) (x.completes [] x.standing ended);
        };
    keeps = p.keeps;
  }

-- what is asked of the kinds of arguments is asked of each
pub kinded_argument : (g : Setting) (xs : List Expr) (i : ℕ) (d : Expr) → i < length xs → d ≡ get_or xs i d → KindedAll g (expressions (map view_expression xs)) → Kinded g (view_expression d)
kinded_argument g [] i d h e a = absurd (omega arith)
kinded_argument g (x ∷ xs) zero d h e a = subst (λ (u : Expr). Kinded g (view_expression u)) (sym e) a.0
kinded_argument g (x ∷ xs) (suc i) d h e a = let below : i < length xs = omega arith in kinded_argument g xs i d below e a.1

-- from store to store
pub arguments_made_still : {V : Type 0} (f h : IntKind → V → Type 0) (library : Option Library) (xs : Arguments V) → ((k : IntKind) (v : V) → f k v → h k v) → ArgumentsMade f library xs → ArgumentsMade h library xs
arguments_made_still f h library xs keep a = record { operands = operands_made f h keep xs.operands a.operands; first = a.first }
