-- Where a `switch` goes, test by test.
use Rattle.std.proofs.Common.{◌≡◌, ◌<◌, ◌+◌, ℕ, zero, suc, Bool, true, false, not, ◌&&◌, ◌||◌, List, [], ◌∷◌, ◌++◌, length, get_or, set, map, Option, Some, None, ℤ, refl, sym, ap, subst, arith}
use Rattle.std.specs.Prelude.{if◌then◌else◌, option_map}
use Rattle.std.specs.Option.{unwrap_or}
use Rattle.stk_ctype.specs.declared.kind.IntKind.{IntKind}
use Rattle.stk_ctype.specs.declared.kind.IntKind.TheVariants.{Int}
use Rattle.stk_tree.specs.declared.statement.Section.{Section}
use Rattle.stk_tree.specs.Syntax.{LabelTrees}
use Rattle.stk_tree.specs.View.{view_section, sections}
use Rattle.stk_meaning.specs.Operations.{bit}
use Rattle.stk_meaning.specs.Statements.{sections_before, or_default, labels_of}
use Rattle.stk_guarded.specs.Sections.{is_first, behind_first}
use Rattle.stk_walk_statements.specs.Selected.{TestsMade, TestsLead, goes_if, is_none}

some_one : {A : Type 0} {a b : A} → Some a ≡ Some b → a ≡ b
some_one {A} {a} {b} h = ap (λ o. unwrap_or o a) h

pub or_false : (b : Bool) → (b || false) ≡ b
or_false true = refl
or_false false = refl

-- what is found so far, or by a test, or later
pub or_later : (b c d : Bool) → ((b || c) || d) ≡ (b || (if c then true else d))
or_later true c d = refl
or_later false true d = refl
or_later false false d = refl

-- ---- the tests of sections

pub tests_made_still : {V : Type 0} (f h : IntKind → V → Type 0) → ((k : IntKind) (v : V) → f k v → h k v) → (vs : List V) → TestsMade f vs → TestsMade h vs
tests_made_still f h keep [] a = tt
tests_made_still f h keep (v ∷ vs) a = (keep Int v a.0, tests_made_still f h keep vs a.1)

pub tests_made_more : {V : Type 0} (f : IntKind → V → Type 0) (vs : List V) (v : V) → TestsMade f vs → f Int v → TestsMade f (vs ++ v ∷ [])
tests_made_more f [] v a m = (m, tt)
tests_made_more f (w ∷ vs) v a m = (a.0, tests_made_more f vs v a.1 m)

pub tests_made_set : {V : Type 0} (f : IntKind → V → Type 0) (vs : List V) (j : ℕ) (v : V) → TestsMade f vs → f Int v → TestsMade f (set vs j v)
tests_made_set f [] j v a m = tt
tests_made_set f (w ∷ vs) zero v a m = (m, a.1)
tests_made_set f (w ∷ vs) (suc j) v a m = (a.0, tests_made_set f vs j v a.1 m)

pub tests_made_at : {V : Type 0} (f : IntKind → V → Type 0) (vs : List V) (j : ℕ) (v : V) → TestsMade f vs → j < length vs → get_or vs j v ≡ v → f Int v
tests_made_at f [] j v a l e = absurd (omega arith)
tests_made_at {V} f (w ∷ vs) zero v a l e = subst (λ (z : V). f Int z) e a.0
tests_made_at f (w ∷ vs) (suc j) v a l e = tests_made_at f vs j v a.1 (omega arith) e

pub tests_still : {V : Type 0} (f h : IntKind → V → ℤ → Type 0) → ((k : IntKind) (v : V) (z : ℤ) → f k v z → h k v z) → (vs : List V) (o p : Option ℕ) → TestsLead f vs o p → TestsLead h vs o p
tests_still f h keep [] o p a = a
tests_still f h keep (v ∷ vs) o p a = (keep Int v (bit (is_first o)) a.0, tests_still f h keep vs (behind_first o) p a.1)

-- one more
pub tests_more : {V : Type 0} (f : IntKind → V → ℤ → Type 0) (vs : List V) (v : V) (o p : Option ℕ) → TestsLead f vs o p → f Int v (bit (is_first p)) → TestsLead f (vs ++ v ∷ []) o (behind_first p)
tests_more f [] v o p a m = (subst (λ (q : Option ℕ). f Int v (bit (is_first q))) (sym a) m, ap behind_first a)
tests_more f (w ∷ vs) v o p a m = (a.0, tests_more f vs v (behind_first o) p a.1 m)

-- a section with a case, or another one, in front of others
not_first : (o : Option ℕ) → is_first (option_map (λ n. n + 1) o) ≡ false
not_first None = refl
not_first (Some n) = let more : suc n ≡ n + 1 = omega arith in ap (λ k. is_first (Some k)) (sym more)

behind_it : (o : Option ℕ) → behind_first (option_map (λ n. n + 1) o) ≡ o
behind_it None = refl
behind_it (Some n) = let more : suc n ≡ n + 1 = omega arith in ap (λ k. behind_first (Some k)) (sym more)

still_none : (o : Option ℕ) → is_none (option_map (λ n. n + 1) o) ≡ is_none o
still_none None = refl
still_none (Some n) = refl

pub first_by : (b c : Bool) (o : Option ℕ) → (b && c) ≡ is_first (goes_if b (if c then Some 0 else option_map (λ n. n + 1) o))
first_by false c o = refl
first_by true true o = refl
first_by true false o = sym (not_first o)

pub behind_by : (b c : Bool) (o : Option ℕ) → behind_first (goes_if b (if c then Some 0 else option_map (λ n. n + 1) o)) ≡ goes_if (b && not c) o
behind_by false c o = refl
behind_by true true o = refl
behind_by true false o = behind_it o

pub none_by : (b c : Bool) (o : Option ℕ) → ((b && not c) && is_none o) ≡ (b && is_none (if c then Some 0 else option_map (λ n. n + 1) o))
none_by false c o = refl
none_by true true o = refl
none_by true false o = sym (still_none o)

-- behind all sections
pub goes_nowhere : (b : Bool) → goes_if b None ≡ None
goes_nowhere true = refl
goes_nowhere false = refl

pub and_true : (b : Bool) → b ≡ (b && true)
and_true true = refl
and_true false = refl

-- ---- the section with a `default`

abbrev pub is_at : ℕ → Option ℕ → Bool
is_at zero o = is_first o
is_at (suc j) o = is_at j (behind_first o)

pub test_at : {V : Type 0} (f : IntKind → V → ℤ → Type 0) (vs : List V) (j : ℕ) (v : V) (o p : Option ℕ) → TestsLead f vs o p → j < length vs → get_or vs j v ≡ v → f Int v (bit (is_at j o))
test_at f [] j v o p a l e = absurd (omega arith)
test_at {V} f (w ∷ vs) zero v o p a l e = subst (λ (z : V). f Int z (bit (is_first o))) e a.0
test_at f (w ∷ vs) (suc j) v o p a l e = test_at f vs j v (behind_first o) p a.1 (omega arith) e

-- control goes to it, where it goes to no other
default_on : {V : Type 0} (f : IntKind → V → ℤ → Type 0) (vs : List V) (j : ℕ) (v : V) → TestsLead f vs None None → j < length vs → f Int v (bit true) → TestsLead f (set vs j v) (Some j) None
default_on f [] j v a l m = absurd (omega arith)
default_on f (w ∷ vs) zero v a l m = (m, a.1)
default_on f (w ∷ vs) (suc j) v a l m = (a.0, default_on f vs j v a.1 (omega arith) m)

-- and where it goes to another, or hasn't come here, the tests stay
default_off : {V : Type 0} (f : IntKind → V → ℤ → Type 0) (vs : List V) (j : ℕ) (v : V) (o p : Option ℕ) → TestsLead f vs o p → f Int v (bit (is_at j o)) → TestsLead f (set vs j v) o p
default_off f [] j v o p a m = a
default_off f (w ∷ vs) zero v o p a m = (m, a.1)
default_off f (w ∷ vs) (suc j) v o p a m = (a.0, default_off f vs j v (behind_first o) p a.1 m)

nowhere_at : (j : ℕ) → is_at j None ≡ false
nowhere_at zero = refl
nowhere_at (suc j) = nowhere_at j

pub default_set : {V : Type 0} (f : IntKind → V → ℤ → Type 0) (vs : List V) (j : ℕ) (v : V) (a : Bool) (o : Option ℕ) → TestsLead f vs (goes_if a o) None → j < length vs → f Int v (bit (is_at j (goes_if a o) || (a && is_none o))) → TestsLead f (set vs j v) (goes_if a (or_default o (Some j))) None
default_set f vs j v false o h l m = default_off f vs j v None None h (subst (λ (b : Bool). f Int v (bit b)) (or_false (is_at j None)) m)
default_set f vs j v true None h l m = default_on f vs j v h l (subst (λ (b : Bool). f Int v (bit (b || true))) (nowhere_at j) m)
default_set f vs j v true (Some n) h l m = default_off f vs j v (Some n) None h (subst (λ (b : Bool). f Int v (bit b)) (or_false (is_at j (Some n))) m)

pub none_left : (a : Bool) (o : Option ℕ) (j : ℕ) → false ≡ (a && is_none (or_default o (Some j)))
none_left false o j = refl
none_left true None j = refl
none_left true (Some n) j = refl

pub no_default : (o : Option ℕ) → or_default o None ≡ o
no_default None = refl
no_default (Some n) = refl

-- the position of a section that is looked for is that of one
later_within : (o : Option ℕ) (j l : ℕ) → Some j ≡ option_map (λ n. n + 1) o → ((n : ℕ) → Some n ≡ o → n < l) → j < suc l
later_within None j l e h = absurd cc
later_within (Some n) j l e h =
    let z : j ≡ n + 1 = some_one e in
    let within = h n refl in
    omega (arith, z, within)

here_within : (c : Bool) (o : Option ℕ) (j l : ℕ) → Some j ≡ (if c then Some 0 else option_map (λ n. n + 1) o) → ((n : ℕ) → Some n ≡ o → n < l) → j < suc l
here_within true o j l e h = let z : j ≡ 0 = some_one e in omega (arith, z)
here_within false o j l e h = later_within o j l e h

pub before_within : (test : LabelTrees → Bool) (xs : List Section) (j : ℕ) → Some j ≡ sections_before test (sections (map view_section xs)) → j < length xs
before_within test [] j e = absurd cc
before_within test (x ∷ xs) j e = here_within (test (labels_of (view_section x))) (sections_before test (sections (map view_section xs))) j (length xs) e (λ n h. before_within test xs n h)
