-- What a text says has a text.
use Rattle.std.proofs.Common.{◌≡◌, ℕ, zero, suc, ◌+◌, ◌-◌, ◌*◌, ◌/◌, ◌^◌, ◌<◌, ◌≤◌, Bool, true, false, ◌&&◌, nat_eq, nat_le, nat_lt, if◌then◌else◌, List, [], ◌∷◌, ◌++◌, length, map, Option, Some, None, refl, sym, ap, subst, arith}
use Rattle.std.specs.Prelude.{codes}
use Rattle.std.specs.List.{All, AllByRecursion}
use Rattle.std.specs.Option.{option_map, option_and_then}
use Rattle.std.proofs.lemmas.List.Elements.{All-from_recursion}
use Rattle.stk_base.specs.Text.{same_text}
use Rattle.stk_clauses.specs.declared.literal.Lit.{Lit}
use Rattle.stk_clauses.specs.declared.store.Cnf.{Cnf}
use Rattle.stk_clauses.specs.declared.derivation.Derived.{Derived}
use Rattle.stk_clauses.specs.declared.derivation.Derivation.{Derivation}
use Rattle.stk_clauses.specs.Literals.{AreBelow}
use Rattle.stk_proofs.specs.declared.entries.Entry.{Entry}
use Rattle.stk_proofs.specs.declared.entries.Entry.TheVariants.{Bad, End, Item}
use Rattle.stk_proofs.specs.Words.{words_of}
use Rattle.stk_proofs.specs.Numbers.{number_in}
use Rattle.stk_proofs.specs.Entries.{positive_entry, negative_entry, literal_entry, hint_of, hint_entry, listed, listed_from}
use Rattle.stk_proofs.specs.Distinct.{is_among, with_literal, distinct_behind, distinct}
use Rattle.stk_proofs.specs.Dimacs.{literal_count, clauses_in, cnf_of, cnf_behind, cnf_in, dimacs_in, FitsDimacs}
use Rattle.stk_proofs.specs.Lrat.{most_number, AreLratSteps, no_step, then_step, IsLrat, FitsLratLine, FitsLrat}
use Rattle.stk_proofs.proofs.Steps.{number_small, some_of, no_some}

-- ---- what is listed

from_entry : {A : Type 0} (f : List ℕ → Entry A) (P : A → Type 0) (ws : List (List ℕ)) (xs : List A) (behind : List (List ℕ)) (e : Entry A) (r : Option (List A × List (List ℕ))) → ((x : A) → e ≡ Item x → P x)
    → ((ys : List A) (others : List (List ℕ)) → r ≡ Some (ys, others) → AllByRecursion P ys) → listed_from e ws r ≡ Some (xs, behind) → AllByRecursion P xs
from_entry f P ws xs behind Bad r one rest h = absurd (no_some h)
from_entry f P ws xs behind End r one rest h = subst (AllByRecursion P) (ap (λ p. p.0) (some_of h)) tt
from_entry f P ws xs behind (Item x) None one rest h = absurd (no_some h)
from_entry f P ws xs behind (Item x) (Some p) one rest h = subst (AllByRecursion P) (ap (λ q. q.0) (some_of h)) (one x refl, rest p.0 p.1 refl)

-- each item of a list is one of an entry
pub listed_all : {A : Type 0} (f : List ℕ → Entry A) (P : A → Type 0) → ((w : List ℕ) (x : A) → f w ≡ Item x → P x) → (ws : List (List ℕ)) (xs : List A) (behind : List (List ℕ)) → listed f ws ≡ Some (xs, behind) → AllByRecursion P xs
listed_all f P each [] xs behind h = absurd (no_some h)
listed_all f P each (w ∷ ws) xs behind h = from_entry f P ws xs behind (f w) (listed f ws) (each w) (listed_all f P each ws) h

positive_by : (most n : ℕ) (l : Lit) (a b : Bool) → nat_eq n 0 ≡ a → nat_le n most ≡ b → (if a then End else (if b then Item (record { 0 = 2 * (n - 1) }) else Bad)) ≡ Item l → l.0 < 2 * most
positive_by most n l true b p q e = cc
positive_by most n l false true p q e =
    let same : ◌≡◌ {A = Lit} (record { 0 = 2 * (n - 1) }) l = cc in
    let less : 2 * (n - 1) < 2 * most = grind (arith, p, q) in
    subst (λ (k : Lit). k.0 < 2 * most) same less
positive_by most n l false false p q e = cc

positive_below : (most : ℕ) (o : Option ℕ) (l : Lit) → positive_entry most o ≡ Item l → l.0 < 2 * most
positive_below most None l e = cc
positive_below most (Some n) l e = positive_by most n l (nat_eq n 0) (nat_le n most) refl refl e

negative_by : (most n : ℕ) (l : Lit) (a b : Bool) → nat_le 1 n ≡ a → nat_le n most ≡ b → (if a && b then Item (record { 0 = 2 * (n - 1) + 1 }) else Bad) ≡ Item l → l.0 < 2 * most
negative_by most n l true true p q e =
    let same : ◌≡◌ {A = Lit} (record { 0 = 2 * (n - 1) + 1 }) l = cc in
    let less : 2 * (n - 1) + 1 < 2 * most = grind (arith, p, q) in
    subst (λ (k : Lit). k.0 < 2 * most) same less
negative_by most n l true false p q e = cc
negative_by most n l false b p q e = cc

negative_below : (most : ℕ) (o : Option ℕ) (l : Lit) → negative_entry most o ≡ Item l → l.0 < 2 * most
negative_below most None l e = cc
negative_below most (Some n) l e = negative_by most n l (nat_le 1 n) (nat_le n most) refl refl e

signed_below : (most : ℕ) (signed : Bool) (o p : Option ℕ) (l : Lit) → (if signed then negative_entry most o else positive_entry most p) ≡ Item l → l.0 < 2 * most
signed_below most true o p l e = negative_below most o l e
signed_below most false o p l e = positive_below most p l e

-- a literal that is read is below the bound
pub literal_below : (most : ℕ) (w : List ℕ) (l : Lit) → literal_entry most w ≡ Item l → l.0 < 2 * most
literal_below most [] l e = cc
literal_below most (b ∷ bs) l e = signed_below most (nat_eq b 45) (number_in bs) (number_in (b ∷ bs)) l e

hint_by : (n h : ℕ) (a : Bool) → nat_eq n 0 ≡ a → n < 2 ^ 31 → (if a then End else Item (n - 1)) ≡ Item h → h + 1 < 2 ^ 31
hint_by n h true p small e = cc
hint_by n h false p small e =
    let same : n - 1 ≡ h = cc in
    let less : n - 1 + 1 < 2 ^ 31 = grind (arith, p, small) in
    subst (λ (k : ℕ). k + 1 < 2 ^ 31) same less

hint_from : (w : List ℕ) (h : ℕ) (o : Option ℕ) → number_in w ≡ o → hint_of o ≡ Item h → h + 1 < 2 ^ 31
hint_from w h None n e = cc
hint_from w h (Some m) n e = hint_by m h (nat_eq m 0) refl (number_small w m n) e

hint_small : (w : List ℕ) (h : ℕ) → hint_entry w ≡ Item h → h + 1 < 2 ^ 31
hint_small w h e = hint_from w h (number_in w) refl e

-- ---- clause lists

abbrev pub IsBelow : ℕ → Lit → Type 0
IsBelow vars l = l.0 < 2 * vars

abbrev pub AllBelow : ℕ → List (List Lit) → Type 0
AllBelow vars [] = Unit {0}
AllBelow vars (c ∷ cs) = AllByRecursion (IsBelow vars) c × AllBelow vars cs

and_others : (vars n : ℕ) (c : List Lit) (cs : List (List Lit)) (r : Option (List (List Lit))) → AllByRecursion (IsBelow vars) c → ((ds : List (List Lit)) → r ≡ Some ds → (length ds ≡ n) × AllBelow vars ds)
    → option_map (λ ds. c ∷ ds) r ≡ Some cs → (length cs ≡ suc n) × AllBelow vars cs
and_others vars n c cs None below others e = absurd (no_some e)
and_others vars n c cs (Some ds) below others e = subst (λ xs. (length xs ≡ suc n) × AllBelow vars xs) (some_of e) (ap suc (others ds refl).0, (below, (others ds refl).1))

and_clauses : (vars n : ℕ) (ws : List (List ℕ)) (cs : List (List Lit)) (r : Option (List Lit × List (List ℕ))) → listed (literal_entry vars) ws ≡ r → ((vs : List (List ℕ)) (ds : List (List Lit)) → clauses_in vars n vs ≡ Some ds → (length ds ≡ n) × AllBelow vars ds)
    → option_and_then (λ p. option_map (λ ds. p.0 ∷ ds) (clauses_in vars n p.1)) r ≡ Some cs → (length cs ≡ suc n) × AllBelow vars cs
and_clauses vars n ws cs None l others e = absurd (no_some e)
and_clauses vars n ws cs (Some p) l others e = and_others vars n p.0 cs (clauses_in vars n p.1) (listed_all (literal_entry vars) (IsBelow vars) (literal_below vars) ws p.0 p.1 l) (others p.1) e

-- clauses that are read are as many as are said, over the variables that are said
pub clauses_below : (vars n : ℕ) (ws : List (List ℕ)) (cs : List (List Lit)) → clauses_in vars n ws ≡ Some cs → (length cs ≡ n) × AllBelow vars cs
clauses_below vars zero [] cs e = subst (λ xs. (length xs ≡ 0) × AllBelow vars xs) (some_of e) (refl, tt)
clauses_below vars zero (w ∷ ws) cs e = absurd (no_some e)
clauses_below vars (suc n) ws cs e = and_clauses vars n ws cs (listed (literal_entry vars) ws) refl (clauses_below vars n) e

push_all : (P : Lit → Type 0) (xs : List Lit) (l : Lit) → AllByRecursion P xs → P l → AllByRecursion P (xs ++ l ∷ [])
push_all P [] l h p = (p, tt)
push_all P (x ∷ xs) l h p = (h.0, push_all P xs l h.1 p)

with_all : (P : Lit → Type 0) (found : List Lit) (l : Lit) (b : Bool) → AllByRecursion P found → P l → AllByRecursion P (if b then found else found ++ l ∷ [])
with_all P found l true h p = h
with_all P found l false h p = push_all P found l h p

distinct_all : (P : Lit → Type 0) (found ls : List Lit) → AllByRecursion P found → AllByRecursion P ls → AllByRecursion P (distinct_behind found ls)
distinct_all P found [] h k = h
distinct_all P found (l ∷ ls) h k = distinct_all P (with_literal found l) ls (with_all P found l (is_among found l) h k.0) k.1

push_length : (xs : List Lit) (l : Lit) → length (xs ++ l ∷ []) ≡ suc (length xs)
push_length [] l = refl
push_length (x ∷ xs) l = ap suc (push_length xs l)

with_length : (found : List Lit) (l : Lit) (b : Bool) → length (if b then found else found ++ l ∷ []) ≤ suc (length found)
with_length found l true = omega arith
with_length found l false = omega (arith, push_length found l)

distinct_length : (found ls : List Lit) → length (distinct_behind found ls) ≤ length found + length ls
distinct_length found [] = omega arith
distinct_length found (l ∷ ls) = omega (arith, distinct_length (with_literal found l) ls, with_length found l (is_among found l))

distinct_count : (cs : List (List Lit)) → literal_count (map distinct cs) ≤ literal_count cs
distinct_count [] = omega arith
distinct_count (c ∷ cs) = omega (arith, distinct_count cs, distinct_length [] c)

map_count : (cs : List (List Lit)) → length (map distinct cs) ≡ length cs
map_count [] = refl
map_count (c ∷ cs) = ap suc (map_count cs)

distinct_below : (vars : ℕ) (cs : List (List Lit)) → AllBelow vars cs → AllByRecursion (AreBelow vars) (map distinct cs)
distinct_below vars [] h = tt
distinct_below vars (c ∷ cs) h = (All-from_recursion (IsBelow vars) (distinct c) (distinct_all (IsBelow vars) [] c tt h.0), distinct_below vars cs h.1)

fits_of : (vars count : ℕ) (cs : List (List Lit)) → vars ≤ 1073741823 → count < 2 ^ 31 - 1 → literal_count cs < 2 ^ 31 → (length cs ≡ count) × AllBelow vars cs → FitsDimacs (record { vars = vars; store = map distinct cs })
fits_of vars count cs small few lits h =
    let len = h.0 in
    record {
      vars = small;
      few = omega (arith, map_count cs, len, few);
      literals = omega (arith, distinct_count cs, lits);
      within = All-from_recursion (AreBelow vars) (map distinct cs) (distinct_below vars cs h.1);
    }

count_by : (vars count : ℕ) (cs : List (List Lit)) (cnf : Cnf) (b : Bool) → nat_lt (literal_count cs) (2 ^ 31) ≡ b → vars ≤ 1073741823 → count < 2 ^ 31 - 1 → (length cs ≡ count) × AllBelow vars cs
    → (if b then Some (record { vars = vars; store = map distinct cs }) else None) ≡ Some cnf → FitsDimacs cnf
count_by vars count cs cnf true p small few h e = let lits : literal_count cs < 2 ^ 31 = grind (arith, p) in subst FitsDimacs (some_of e) (fits_of vars count cs small few lits h)
count_by vars count cs cnf false p small few h e = absurd (no_some e)

of_clauses : (vars count : ℕ) (ws : List (List ℕ)) (r : Option (List (List Lit))) (cnf : Cnf) → clauses_in vars count ws ≡ r → vars ≤ 1073741823 → count < 2 ^ 31 - 1 → cnf_of vars r ≡ Some cnf → FitsDimacs cnf
of_clauses vars count ws None cnf is small few e = absurd (no_some e)
of_clauses vars count ws (Some cs) cnf is small few e = count_by vars count cs cnf (nat_lt (literal_count cs) (2 ^ 31)) refl small few (clauses_below vars count ws cs is) e

-- clauses that are read behind V and C have a text
pub clauses_fit : (vars count : ℕ) (ws : List (List ℕ)) (cnf : Cnf) → vars ≤ 1073741823 → count < 2 ^ 31 - 1 → cnf_of vars (clauses_in vars count ws) ≡ Some cnf → FitsDimacs cnf
clauses_fit vars count ws cnf small few e = of_clauses vars count ws (clauses_in vars count ws) cnf refl small few e

bounded : (vars count : ℕ) (ws : List (List ℕ)) (cnf : Cnf) (a b : Bool) → nat_le vars 1073741823 ≡ a → nat_lt count (2 ^ 31 - 1) ≡ b → (if a && b then cnf_of vars (clauses_in vars count ws) else None) ≡ Some cnf → FitsDimacs cnf
bounded vars count ws cnf true true p q e =
    let small : vars ≤ 1073741823 = grind (arith, p) in
    let few : count < 2 ^ 31 - 1 = grind (arith, q) in
    clauses_fit vars count ws cnf small few e
bounded vars count ws cnf true false p q e = absurd (no_some e)
bounded vars count ws cnf false b p q e = absurd (no_some e)

behind_fits : (v n : Option ℕ) (ws : List (List ℕ)) (cnf : Cnf) → cnf_behind v n ws ≡ Some cnf → FitsDimacs cnf
behind_fits None n ws cnf e = absurd (no_some e)
behind_fits (Some vars) None ws cnf e = absurd (no_some e)
behind_fits (Some vars) (Some count) ws cnf e = bounded vars count ws cnf (nat_le vars 1073741823) (nat_lt count (2 ^ 31 - 1)) refl refl e

named_fits : (b : Bool) (v n : Option ℕ) (ws : List (List ℕ)) (cnf : Cnf) → (if b then cnf_behind v n ws else None) ≡ Some cnf → FitsDimacs cnf
named_fits true v n ws cnf e = behind_fits v n ws cnf e
named_fits false v n ws cnf e = absurd (no_some e)

words_fit : (ws : List (List ℕ)) (cnf : Cnf) → cnf_in ws ≡ Some cnf → FitsDimacs cnf
words_fit [] cnf e = absurd (no_some e)
words_fit (p ∷ []) cnf e = absurd (no_some e)
words_fit (p ∷ c ∷ []) cnf e = absurd (no_some e)
words_fit (p ∷ c ∷ v ∷ []) cnf e = absurd (no_some e)
words_fit (p ∷ c ∷ v ∷ n ∷ ws) cnf e = named_fits (same_text p (codes "p") && same_text c (codes "cnf")) (number_in v) (number_in n) ws cnf e

-- the clause list that a text says has a text
pub list_fits : (bytes : List ℕ) (cnf : Cnf) → dimacs_in bytes ≡ Some cnf → FitsDimacs cnf
list_fits bytes cnf e = words_fit (words_of bytes) cnf e

-- ---- derivations

-- a derivation's parts fit where it does
pub fits_from : (given : ℕ) (d : Derivation) (ss : List Derived) → ss ≡ d.steps → (0 < length ss → given + length ss < 2 ^ 31) → All FitsLratLine ss → FitsLrat given d
fits_from given d ss e ids lines = record {
  ids = subst (λ xs. 0 < length xs → given + length xs < 2 ^ 31) e ids;
  steps = subst (All FitsLratLine) e lines;
}

pub lines_from : (given : ℕ) (d : Derivation) (ss : List Derived) → ss ≡ d.steps → FitsLrat given d → All FitsLratLine ss
lines_from given d ss e h = subst (All FitsLratLine) (sym e) h.steps

number_fits : (w : List ℕ) (l : Lit) → literal_entry most_number w ≡ Item l → l.0 / 2 + 1 < 2 ^ 31
number_fits w l e = let below = literal_below most_number w l e in omega (arith, below)

lines_fit : (id : ℕ) (ws : List (List ℕ)) (ss : List Derived) → AreLratSteps id ws ss → AllByRecursion FitsLratLine ss
lines_fit id ws ss no_step = tt
lines_fit id all ss (then_step {ws = ws} {behind = behind} {rest = rest} {clause = clause} {hints = hints} {ss = others} n l h steps) = (
  record {
    literals = All-from_recursion (λ (m : Lit). m.0 / 2 + 1 < 2 ^ 31) clause (listed_all (literal_entry most_number) (λ (m : Lit). m.0 / 2 + 1 < 2 ^ 31) number_fits ws clause behind l);
    hints = All-from_recursion (λ (k : ℕ). k + 1 < 2 ^ 31) hints (listed_all hint_entry (λ (k : ℕ). k + 1 < 2 ^ 31) hint_small behind hints rest h);
  },
  lines_fit (id + 1) rest others steps,
)

one_id_more : (id : ℕ) (ss : List Derived) → id < 2 ^ 31 → (0 < length ss → id + 1 + length ss < 2 ^ 31 + 1) → id + suc (length ss) < 2 ^ 31 + 1
one_id_more id [] small others = omega (arith, small)
one_id_more id (s ∷ ss) small others = let more = others (omega arith) in omega (arith, more)

ids_fit : (id : ℕ) (ws : List (List ℕ)) (ss : List Derived) → AreLratSteps id ws ss → 0 < length ss → id + length ss < 2 ^ 31 + 1
ids_fit id ws ss no_step some = absurd (omega (arith, some))
ids_fit id all ss (then_step {w = w} {rest = rest} {ss = others} n l h steps) some = one_id_more id others (number_small w id n) (ids_fit (id + 1) rest others steps)

all_ids : (given : ℕ) (ss : List Derived) → (0 < length ss → given + 1 + length ss < 2 ^ 31 + 1) → 0 < length ss → given + length ss < 2 ^ 31
all_ids given ss h some = let g = h some in omega (arith, g)

-- the derivation that a text says has a text
pub derivation_fits : (given : ℕ) (bytes : List ℕ) (d : Derivation) → IsLrat given bytes d → FitsLrat given d
derivation_fits given bytes d h = record {
  ids = all_ids given d.steps (ids_fit (given + 1) (words_of bytes) d.steps h);
  steps = All-from_recursion FitsLratLine d.steps (lines_fit (given + 1) (words_of bytes) d.steps h);
}
