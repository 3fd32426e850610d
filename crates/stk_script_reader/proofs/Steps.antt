-- One command more.
use Rattle.std.proofs.Common.{◌≡◌, ℕ, zero, suc, ◌<◌, ◌≤◌, Bool, true, false, List, [], ◌∷◌, length, get_or, drop, refl, sym, ap, subst, ◌∙◌, arith, if◌then◌else◌}
use Rattle.std.specs.Prelude.{Some, None}
use Rattle.stk_base.specs.Text.{same_text}
use Rattle.stk_terms.specs.declared.term.TermOp.TheVariants.{Input}
use Rattle.stk_terms.specs.Terms.{Stored}
use Rattle.stk_terms.specs.Fitting.{AreResidues, AreWidths}
use Rattle.stk_terms.specs.Growth.{Keeps}
use Rattle.stk_terms.specs.Values.{width_at, number_at}
use Rattle.stk_scripts.specs.Syntax.{Declared, Defined}
use Rattle.stk_scripts.specs.Scripts.{Bits, bits, found, meaning, width_in, is_name, IsNew, behind_declared, behind_defined, with_inputs, with_defined, widths_in, DeclaredFit}
use Rattle.stk_script_reader.specs.declared.names.Names.{Names}
use Rattle.stk_script_reader.specs.Names.{StandsFor}
use Rattle.stk_script_reader.specs.Standing.{widths_named, IsTerm, Known}
use Rattle.stk_script_reader.specs.Made.{IsLeaf}
use Rattle.stk_script_reader.specs.After.{IsAfter, WidthsFit, Declaring, Defining}
use Rattle.stk_script_reader.proofs.Kept.{stand_kept, widths_kept, bits_kept, residues_kept}

-- ---- lists

some_is : {A : Type 0} (x y : A) → Some x ≡ Some y → x ≡ y
some_is x y e = cc

head_is : (x y : ℕ) (xs ys : List ℕ) → x ∷ xs ≡ y ∷ ys → x ≡ y
head_is x y xs ys e = cc

tail_is : (x y : ℕ) (xs ys : List ℕ) → x ∷ xs ≡ y ∷ ys → xs ≡ ys
tail_is x y xs ys e = cc

drop_get : (xs : List ℕ) (k y : ℕ) (ys : List ℕ) → drop k xs ≡ y ∷ ys → get_or xs k 0 ≡ y
drop_get [] zero y ys e = absurd cc
drop_get [] (suc k) y ys e = absurd cc
drop_get (x ∷ xs) zero y ys e = head_is x y xs ys e
drop_get (x ∷ xs) (suc k) y ys e = drop_get xs k y ys e

drop_next : (xs : List ℕ) (k y : ℕ) (ys : List ℕ) → drop k xs ≡ y ∷ ys → drop (suc k) xs ≡ ys
drop_next [] zero y ys e = absurd cc
drop_next [] (suc k) y ys e = absurd cc
drop_next (x ∷ xs) zero y ys e = tail_is x y xs ys e
drop_next (x ∷ xs) (suc k) y ys e = drop_next xs k y ys e

drop_within : (xs : List ℕ) (k y : ℕ) (ys : List ℕ) → drop k xs ≡ y ∷ ys → k < length xs
drop_within [] zero y ys e = absurd cc
drop_within [] (suc k) y ys e = absurd cc
drop_within (x ∷ xs) zero y ys e = omega arith
drop_within (x ∷ xs) (suc k) y ys e = let h = drop_within xs k y ys e in omega (arith, h)

drop_is : (xs : List ℕ) (k : ℕ) → k < length xs → drop k xs ≡ get_or xs k 0 ∷ drop (suc k) xs
drop_is [] k h = absurd (omega arith)
drop_is (x ∷ xs) zero h = refl
drop_is (x ∷ xs) (suc k) h = drop_is xs k (omega (arith, h))

as_many : (ws rs : List ℕ) → AreResidues ws rs → length rs ≡ length ws
as_many [] [] h = refl
as_many [] (r ∷ rs) h = absurd h
as_many (w ∷ ws) [] h = absurd h
as_many (w ∷ ws) (r ∷ rs) h = ap suc (as_many ws rs h.1)

narrow_at : (ws : List ℕ) (k w : ℕ) (rest : List ℕ) → AreWidths ws → drop k ws ≡ w ∷ rest → (1 ≤ w) × (w ≤ 64)
narrow_at [] zero w rest h e = absurd cc
narrow_at [] (suc k) w rest h e = absurd cc
narrow_at (v ∷ ws) zero w rest h e = subst (λ u. (1 ≤ u) × (u ≤ 64)) (head_is v w ws rest e) (h.0, h.1)
narrow_at (v ∷ ws) (suc k) w rest h e = narrow_at ws k w rest h.2 e

pub no_more : {A : Type 0} (xs : List A) → length xs ≡ 0 → xs ≡ []
no_more [] e = refl
no_more (x ∷ xs) e = absurd (omega (arith, e))

-- ---- names

-- which way a search goes
found_none : {A : Type 0} (x : List ℕ × A) (xs : List (List ℕ × A)) (n : List ℕ) → found (x ∷ xs) n ≡ None → (same_text x.0 n ≡ false) × (found xs n ≡ None)
found_none {A} x xs n e = by (same_text x.0 n) refl
  where
    by : (t : Bool) → same_text x.0 n ≡ t → (same_text x.0 n ≡ false) × (found xs n ≡ None)
    by true k = absurd (let l : Some x.1 ≡ None = sym (ap (λ b. if b then Some x.1 else found xs n) k) ∙ e in cc)
    by false k = (k, sym (ap (λ b. if b then Some x.1 else found xs n) k) ∙ e)

not_found : {A : Type 0} (x : List ℕ × A) (xs : List (List ℕ × A)) (n : List ℕ) → same_text x.0 n ≡ false → found xs n ≡ None → found (x ∷ xs) n ≡ None
not_found x xs n k e = ap (λ b. if b then Some x.1 else found xs n) k ∙ e

-- what is found, seen by widths
pub widths_found : (s : Stored) (names : List (List ℕ × ℕ)) (n : List ℕ) → found names n ≡ None → found (widths_named s names) n ≡ None
widths_found s [] n e = refl
widths_found s (x ∷ xs) n e = let k = found_none x xs n e in not_found (x.0, width_at s x.1) (widths_named s xs) n k.0 (widths_found s xs n k.1)

names_found : (s : Stored) (names : List (List ℕ × ℕ)) (n : List ℕ) → found (widths_named s names) n ≡ None → found names n ≡ None
names_found s [] n e = refl
names_found s (x ∷ xs) n e = let k = found_none (x.0, width_at s x.1) (widths_named s xs) n e in not_found x xs n k.0 (names_found s xs n k.1)

-- a name that is new for a table is new for widths, and the other way
pub new_of : (table : Names) (s : Stored) (g : List (List ℕ × ℕ)) (b : List ℕ → List (List ℕ × Bits)) (a : IsAfter table s g b) (n : List ℕ) → is_name n ≡ true → found a.names n ≡ None → IsNew g n
new_of table s g b a n h e = record { name = h; new = subst (λ ws. found ws n ≡ None) a.widths (widths_found s a.names n e) }

pub new_for : (table : Names) (s : Stored) (g : List (List ℕ × ℕ)) (b : List ℕ → List (List ℕ × Bits)) (a : IsAfter table s g b) (n : List ℕ) → IsNew g n → (is_name n ≡ true) × (found a.names n ≡ None)
new_for table s g b a n h = (h.name, names_found s a.names n (subst (λ ws. found ws n ≡ None) (sym a.widths) h.new))

pub known_of : (table : Names) (s : Stored) (g : List (List ℕ × ℕ)) (b : List ℕ → List (List ℕ × Bits)) → IsAfter table s g b → Known table s
known_of table s g b a = record { names = a.names; stand = a.stand; exist = a.exist }

-- one more name
pub named_more : (table new : Names) (s t : Stored) (g : List (List ℕ × ℕ)) (b : List ℕ → List (List ℕ × Bits)) (a : IsAfter table s g b) → Keeps s t → (n : List ℕ) (j w : ℕ) (own : List ℕ → Bits)
    → j < length t.terms → width_at t j ≡ w → ((r : List ℕ) → AreResidues t.inputs r → bits (width_at t j) (number_at t r j) ≡ own r)
    → ((names : List (List ℕ × ℕ)) → StandsFor table names → StandsFor new ((n, j) ∷ names)) → IsAfter new t ((n, w) ∷ g) (λ r. (n, own r) ∷ b r)
named_more table new s t g b a keeps n j w own there wide means adds = record {
  names = (n, j) ∷ a.names;
  stand = adds a.names a.stand;
  exist = (there, stand_kept s t keeps a.names a.exist);
  widths = λ i. (n, wide i) ∷ (widths_kept s t keeps a.names a.exist ∙ a.widths) i;
  numbers = λ r h. (λ i. (n, means r h i) ∷ (bits_kept s t keeps r a.names a.exist ∙ a.numbers r (residues_kept s t keeps r h)) i);
}

-- ---- declarations

pub declare_start : (table : Names) (s : Stored) (all : List Declared) → StandsFor table [] → s.inputs ≡ widths_in all → Declaring table s all all 0
declare_start table s all h e = record {
  g = [];
  bits = λ r. [];
  after = record { names = []; stand = h; exist = tt; widths = refl; numbers = λ r k. refl };
  inputs = e;
  places = e;
  widths = refl;
  numbers = λ r k. refl;
  fits = λ f. f;
  whole = λ f. f;
}

pub declare_place : (table : Names) (s : Stored) (all : List Declared) (d : Declared) (rest : List Declared) (key : ℕ) → Declaring table s all (d ∷ rest) key → key < length s.inputs
declare_place table s all d rest key m = drop_within s.inputs key d.width (widths_in rest) m.places

pub declare_step : (table new : Names) (s t : Stored) (all : List Declared) (d : Declared) (rest : List Declared) (key j : ℕ) (m : Declaring table s all (d ∷ rest) key) → AreWidths s.inputs → is_name d.name ≡ true → found m.after.names d.name ≡ None
    → Keeps s t → IsLeaf t (Input key) j → ((names : List (List ℕ × ℕ)) → StandsFor table names → StandsFor new ((d.name, j) ∷ names)) → Declaring new t all rest (suc key)
declare_step table new s t all d rest key j m narrow name fresh keeps leaf adds =
    let inputs = s.inputs in
    let wide : width_at t j ≡ d.width = leaf.wide ∙ ap (λ ws. get_or ws key 0) keeps.inputs_stay ∙ drop_get inputs key d.width (widths_in rest) m.places in
    let few = narrow_at inputs key d.width (widths_in rest) narrow m.places in
    record {
      g = (d.name, d.width) ∷ m.g;
      bits = λ r. (d.name, bits d.width (get_or r key 0)) ∷ m.bits r;
      after = named_more table new s t m.g m.bits m.after keeps d.name j d.width (λ r. bits d.width (get_or r key 0)) leaf.there wide (λ r h. (λ i. bits (wide i) (leaf.value r i))) adds;
      inputs = keeps.inputs_stay ∙ m.inputs;
      places = ap (drop (suc key)) keeps.inputs_stay ∙ drop_next inputs key d.width (widths_in rest) m.places;
      widths = m.widths;
      numbers = λ r h.
          let k = residues_kept s t keeps r h in
          let within = drop_within inputs key d.width (widths_in rest) m.places in
          let many = as_many inputs r k in
          ap (with_inputs (m.bits r) (d ∷ rest)) (sym (drop_is r key (omega (arith, within, many)))) ∙ m.numbers r k;
      fits = λ f. (m.fits f).3;
      whole = λ f. m.whole (new_of table s m.g m.bits m.after d.name name fresh, few.0, few.1, f);
    }

-- a name that isn't new
pub declare_bad : (table : Names) (s : Stored) (all : List Declared) (d : Declared) (rest : List Declared) (key : ℕ) (m : Declaring table s all (d ∷ rest) key) → ((is_name d.name ≡ true) × (found m.after.names d.name ≡ None) → ⊥) → DeclaredFit [] all → ⊥
declare_bad table s all d rest key m never f = never (new_for table s m.g m.bits m.after d.name (m.fits f).0)

pub declare_done : (table : Names) (s : Stored) (all : List Declared) (key : ℕ) → Declaring table s all [] key → IsAfter table s (behind_declared [] all) (with_inputs [] all) × DeclaredFit [] all
declare_done table s all key m = (
  record { names = m.after.names; stand = m.after.stand; exist = m.after.exist; widths = m.after.widths ∙ m.widths; numbers = λ r h. m.after.numbers r h ∙ m.numbers r h },
  m.whole tt,
)

-- ---- definitions

pub define_start : (table : Names) (s : Stored) (first : List (List ℕ × ℕ)) (start : List ℕ → List (List ℕ × Bits)) (all : List Defined) → IsAfter table s first start → Defining table s s.inputs first start all all
define_start table s first start all a = record { g = first; bits = start; after = a; same = refl; widths = refl; numbers = λ r h. refl; fits = λ f. f; whole = λ f. f }

module _ (table : Names) (s : Stored) (inputs : List ℕ) (first : List (List ℕ × ℕ)) (start : List ℕ → List (List ℕ × Bits)) (all : List Defined) (d : Defined) (rest : List Defined) (m : Defining table s inputs first start all (d ∷ rest)) where
  pub define_step : (new : Names) (t : Stored) (j : ℕ) → is_name d.name ≡ true → found m.after.names d.name ≡ None → Keeps s t → IsTerm t m.after.names d.body j → width_at t j ≡ d.width
      → ((names : List (List ℕ × ℕ)) → StandsFor table names → StandsFor new ((d.name, j) ∷ names)) → Defining new t inputs first start all rest
  define_step new t j name fresh keeps term wide adds =
      let gs : widths_named t m.after.names ≡ m.g = widths_kept s t keeps m.after.names m.after.exist ∙ m.after.widths in
      record {
        g = (d.name, d.width) ∷ m.g;
        bits = λ r. (d.name, meaning (m.bits r) d.body) ∷ m.bits r;
        after = named_more table new s t m.g m.bits m.after keeps d.name j d.width (λ r. meaning (m.bits r) d.body) term.there wide (λ r h. sym (term.means r h) ∙ ap (λ g. meaning g d.body) (bits_kept s t keeps r m.after.names m.after.exist ∙ m.after.numbers r (residues_kept s t keeps r h))) adds;
        same = keeps.inputs_stay ∙ m.same;
        widths = m.widths;
        numbers = m.numbers;
        fits = λ f. (m.fits f).2;
        whole = λ f. m.whole (new_of table s m.g m.bits m.after d.name name fresh, ap (λ g. width_in g d.body) (sym gs) ∙ term.wide ∙ ap (λ w. Some w) wide, f);
      }

  pub define_new : ((is_name d.name ≡ true) × (found m.after.names d.name ≡ None) → ⊥) → WidthsFit first all → ⊥
  define_new never f = never (new_for table s m.g m.bits m.after d.name (m.fits f).0)

  pub define_fit : width_in (widths_named s m.after.names) d.body ≡ None → WidthsFit first all → ⊥
  define_fit none f = let k : Some d.width ≡ None = sym (m.fits f).1 ∙ ap (λ g. width_in g d.body) (sym m.after.widths) ∙ none in absurd cc

  pub define_wide : (t : Stored) (j : ℕ) → Keeps s t → IsTerm t m.after.names d.body j → (width_at t j ≡ d.width → ⊥) → WidthsFit first all → ⊥
  define_wide t j keeps term never f =
      never (some_is (width_at t j) d.width (sym term.wide ∙ ap (λ g. width_in g d.body) (widths_kept s t keeps m.after.names m.after.exist ∙ m.after.widths) ∙ (m.fits f).1))

pub define_done : (table : Names) (s : Stored) (inputs : List ℕ) (first : List (List ℕ × ℕ)) (start : List ℕ → List (List ℕ × Bits)) (all : List Defined) → Defining table s inputs first start all [] → IsAfter table s (behind_defined first all) (λ r. with_defined (start r) all) × WidthsFit first all
define_done table s inputs first start all m = (
  record { names = m.after.names; stand = m.after.stand; exist = m.after.exist; widths = m.after.widths ∙ m.widths; numbers = λ r h. m.after.numbers r h ∙ m.numbers r (subst (λ ws. AreResidues ws r) m.same h) },
  m.whole tt,
)
