-- Texts of kinds: each kind has a name of its own, and a text names kinds in one way alone.
use Rattle.std.proofs.Common.{◌≡◌, ℕ, Bool, true, false, ◌||◌, nat_eq, if◌then◌else◌, List, [], ◌∷◌, ◌++◌, length, append_assoc, refl, sym, ap, ◌∙◌, subst, arith}
use Rattle.std.specs.List.{list_all}
use Rattle.std.proofs.lemmas.Bool.{true≢false}
use Rattle.std.proofs.lemmas.List.Folds.{list_any-append}
use Rattle.stk_numbers.specs.declared.conditions.UbKind.{UbKind}
use Rattle.stk_numbers.specs.declared.conditions.UbKind.TheVariants as ub
use Rattle.stk_numbers.specs.Taken.{number_of}
use Rattle.stk_line_reading.specs.Cuts.{is_other, begins_or_ends, IsCut}
use Rattle.stk_records.specs.Kinds.{kind_name}
use Rattle.stk_bundle.specs.Kinds.{more_kinds, kinds_text, is_listed, StandOnce, AreKinds}
use Rattle.stk_line_reading.proofs.Texts.{one_cut}

-- a name has no comma
plain_name : (k : UbKind) → list_all (is_other 44) (kind_name k) ≡ true
plain_name ub.Overflow = refl
plain_name ub.Zero = refl
plain_name ub.Shift = refl
plain_name ub.Null = refl
plain_name ub.Pointer = refl
plain_name ub.Bounds = refl
plain_name ub.AbsValue = refl
plain_name ub.Overlap = refl

-- each kind has a name of its own, which its first letter tells
first_of : List ℕ → ℕ
first_of [] = 0
first_of (b ∷ bs) = b

kind_of_first : ℕ → UbKind
kind_of_first b =
    if nat_eq b 111 then ub.Overflow else (if nat_eq b 122 then ub.Zero else (if nat_eq b 115 then ub.Shift else (if nat_eq b 110 then ub.Null
    else (if nat_eq b 112 then ub.Pointer else (if nat_eq b 98 then ub.Bounds else (if nat_eq b 97 then ub.AbsValue else ub.Overlap))))))

kind_back : (k : UbKind) → kind_of_first (first_of (kind_name k)) ≡ k
unfolding first_of kind_of_first
kind_back ub.Overflow = refl
kind_back ub.Zero = refl
kind_back ub.Shift = refl
kind_back ub.Null = refl
kind_back ub.Pointer = refl
kind_back ub.Bounds = refl
kind_back ub.AbsValue = refl
kind_back ub.Overlap = refl

pub own_name : (j k : UbKind) → kind_name j ≡ kind_name k → j ≡ k
own_name j k e = sym (kind_back j) ∙ (ap (λ t. kind_of_first (first_of t)) e ∙ kind_back k)

no_dash_first : (k : UbKind) (t : List ℕ) → nat_eq (first_of (kind_name k ++ t)) 45 ≡ false
unfolding first_of
no_dash_first ub.Overflow t = refl
no_dash_first ub.Zero t = refl
no_dash_first ub.Shift t = refl
no_dash_first ub.Null t = refl
no_dash_first ub.Pointer t = refl
no_dash_first ub.Bounds t = refl
no_dash_first ub.AbsValue t = refl
no_dash_first ub.Overlap t = refl

-- a text of one or more kinds isn't `-`
pub no_dash : (k : UbKind) (ks : List UbKind) → kinds_text (k ∷ ks) ≡ 45 ∷ [] → ⊥
unfolding first_of
no_dash k ks e = true≢false (sym (ap (λ t. nat_eq (first_of t) 45) e) ∙ no_dash_first k (more_kinds ks))

more_stops : (ks : List UbKind) → begins_or_ends 44 (more_kinds ks) ≡ true
more_stops [] = refl
more_stops (k ∷ ks) = refl

-- what stands in front of the first comma is the first name, and the others behind it
pub first_name : (left name behind : List ℕ) (k : UbKind) (ks : List UbKind) → IsCut 44 left name behind → left ≡ kinds_text (k ∷ ks) → (name ≡ kind_name k) × (behind ≡ more_kinds ks)
first_name left name behind k ks cut e =
    one_cut 44 left name behind (kind_name k) (more_kinds ks) cut (record { whole = e; others = plain_name k; stops = more_stops ks })

tail_of : {a b : ℕ} {x y : List ℕ} → a ∷ x ≡ b ∷ y → x ≡ y
tail_of e = cc

one_name_of : (k j : UbKind) (ks js : List UbKind) → kinds_text (k ∷ ks) ≡ kinds_text (j ∷ js) → (k ≡ j) × (more_kinds ks ≡ more_kinds js)
one_name_of k j ks js e =
    let parts = first_name (kinds_text (k ∷ ks)) (kind_name k) (more_kinds ks) j js (record { whole = refl; others = plain_name k; stops = more_stops ks }) e in
    (own_name k j parts.0, parts.1)

one_more : (ks js : List UbKind) → more_kinds ks ≡ more_kinds js → ks ≡ js
one_more [] [] e = refl
one_more [] (j ∷ js) e = absurd cc
one_more (k ∷ ks) [] e = absurd cc
one_more (k ∷ ks) (j ∷ js) e =
    let parts = one_name_of k j ks js (tail_of e) in
    ap (λ i. i ∷ ks) parts.0 ∙ ap (λ is. j ∷ is) (one_more ks js parts.1)

-- a text is a list of kinds in one way alone
pub one_list_of_kinds : (ks js : List UbKind) → kinds_text ks ≡ kinds_text js → ks ≡ js
one_list_of_kinds [] [] e = refl
one_list_of_kinds [] (j ∷ js) e = absurd (no_dash j js (sym e))
one_list_of_kinds (k ∷ ks) [] e = absurd (no_dash k ks e)
one_list_of_kinds (k ∷ ks) (j ∷ js) e =
    let parts = one_name_of k j ks js e in
    ap (λ i. i ∷ ks) parts.0 ∙ ap (λ is. j ∷ is) (one_more ks js parts.1)

-- ---- kinds that stand once

eq_swap : (a b : ℕ) → nat_eq a b ≡ nat_eq b a
eq_swap a b = grind arith

or_false : (a b : Bool) → a || b ≡ false → (a ≡ false) × (b ≡ false)
or_false true b e = absurd cc
or_false false b e = (refl, e)

no_or : (a b : Bool) → a ≡ false → b ≡ false → a || b ≡ false
no_or a b p q = ap (λ x. x || b) p ∙ q

-- a kind that stands behind others isn't among them
pub not_before : (done : List UbKind) (k : UbKind) (rest : List UbKind) → StandOnce (done ++ k ∷ rest) → is_listed done k ≡ false
not_before [] k rest h = refl
not_before (j ∷ done) k rest h =
    let parts = or_false (is_listed done j) (is_listed (k ∷ rest) j) (sym (list_any-append (λ i. nat_eq (number_of i) (number_of j)) done (k ∷ rest)) ∙ h.0) in
    let other = or_false (nat_eq (number_of k) (number_of j)) (is_listed rest j) parts.1 in
    no_or (nat_eq (number_of j) (number_of k)) (is_listed done k) (eq_swap (number_of j) (number_of k) ∙ other.0) (not_before done k rest h.1)

-- one more that isn't among them
pub once_more : (done : List UbKind) (k : UbKind) → StandOnce done → is_listed done k ≡ false → StandOnce (done ++ k ∷ [])
once_more [] k h e = (refl, tt)
once_more (j ∷ done) k h e =
    let parts = or_false (nat_eq (number_of j) (number_of k)) (is_listed done k) e in
    (list_any-append (λ i. nat_eq (number_of i) (number_of j)) done (k ∷ []) ∙ no_or (is_listed done j) (is_listed (k ∷ []) j) h.0 (no_or (nat_eq (number_of k) (number_of j)) false (eq_swap (number_of k) (number_of j) ∙ parts.0) refl), once_more done k h.1 parts.1)

-- ---- reading names one after the other

-- names that follow those that were read
pub record NamesFollow (text left : List ℕ) (done : List UbKind) : Type 0 where
  pub front : (k : UbKind) (ks : List UbKind) → left ≡ kinds_text (k ∷ ks) → text ≡ kinds_text (done ++ k ∷ ks)
  pub once : StandOnce done
  pub whole : (ks : List UbKind) → AreKinds text ks → (k : UbKind) × (rest : List UbKind) × (ks ≡ done ++ k ∷ rest) × (left ≡ kinds_text (k ∷ rest))

-- before the first name
pub none_read : (text : List ℕ) → (text ≡ 45 ∷ [] → ⊥) → NamesFollow text text []
none_read text named = record {
  front = λ k ks e. e;
  once = tt;
  whole = λ ks a. first_of_all text ks named a;
}
  where
    first_of_all : (text : List ℕ) (ks : List UbKind) → (text ≡ 45 ∷ [] → ⊥) → AreKinds text ks → (k : UbKind) × (rest : List UbKind) × (ks ≡ k ∷ rest) × (text ≡ kinds_text (k ∷ rest))
    first_of_all text [] named a = absurd (named a.same)
    first_of_all text (k ∷ ks) named a = (k, ks, refl, a.same)

-- where what stands in front of the comma is no name, the text names no kinds
pub no_name : (text left name behind : List ℕ) (done : List UbKind) → NamesFollow text left done → IsCut 44 left name behind → ((k : UbKind) → name ≡ kind_name k → ⊥) → (ks : List UbKind) → AreKinds text ks → ⊥
no_name text left name behind done f cut none ks a =
    let w = f.whole ks a in
    none w.0 (first_name left name behind w.0 w.1 cut w.3).0

-- nor where it names a kind again
pub named_before : (text left name behind : List ℕ) (done : List UbKind) (j : UbKind) → NamesFollow text left done → IsCut 44 left name behind → name ≡ kind_name j → is_listed done j ≡ true → (ks : List UbKind) → AreKinds text ks → ⊥
named_before text left name behind done j f cut is again ks a =
    let w = f.whole ks a in
    let same : j ≡ w.0 = own_name j w.0 (sym is ∙ (first_name left name behind w.0 w.1 cut w.3).0) in
    true≢false (sym again ∙ (ap (is_listed done) same ∙ not_before done w.0 w.1 (subst StandOnce w.2 a.once)))

none_left : (xs : List ℕ) → length xs ≡ 0 → xs ≡ []
none_left [] e = refl
none_left (x ∷ xs) e = absurd (omega arith)

-- the last name
pub last_name : (text left name behind : List ℕ) (done : List UbKind) (j : UbKind) → NamesFollow text left done → IsCut 44 left name behind → name ≡ kind_name j → is_listed done j ≡ false → length behind ≡ 0 → AreKinds text (done ++ j ∷ [])
last_name text left name behind done j f cut is new none =
    record {
      same = f.front j [] (cut.whole ∙ (ap (λ t. name ++ t) (none_left behind none) ∙ ap (λ t. t ++ []) is));
      once = once_more done j f.once new;
    }

-- one name more
pub one_name : (text left name behind rest : List ℕ) (first : ℕ) (done : List UbKind) (j : UbKind) → NamesFollow text left done → IsCut 44 left name behind → name ≡ kind_name j → is_listed done j ≡ false → behind ≡ first ∷ rest → NamesFollow text rest (done ++ j ∷ [])
one_name text left name behind rest first done j f cut is new e =
    record {
      front = λ k ks s. subst (λ (ds : List UbKind). text ≡ kinds_text ds) (sym (append_assoc done (j ∷ []) (k ∷ ks)))
          (f.front j (k ∷ ks) (cut.whole ∙ (ap (λ t. name ++ t) (e ∙ (ap (λ b. b ∷ rest) comma ∙ ap (λ t. 44 ∷ t) s)) ∙ ap (λ t. t ++ 44 ∷ kinds_text (k ∷ ks)) is)));
      once = once_more done j f.once new;
      whole = λ ks a. let w = f.whole ks a in goes_down w.0 w.1 ks w.2 w.3;
    }
  where
    stop : begins_or_ends 44 (first ∷ rest) ≡ true
    stop = ap (begins_or_ends 44) (sym e) ∙ cut.stops

    comma : first ≡ 44
    comma = grind (arith, stop)

    goes_down : (k : UbKind) (others ks : List UbKind) → ks ≡ done ++ k ∷ others → left ≡ kinds_text (k ∷ others) → (i : UbKind) × (more : List UbKind) × (ks ≡ (done ++ j ∷ []) ++ i ∷ more) × (rest ≡ kinds_text (i ∷ more))
    goes_down k [] ks s t =
        let nothing : first ∷ rest ≡ [] = sym e ∙ (first_name left name behind k [] cut t).1 in absurd cc
    goes_down k (i ∷ more) ks s t =
        let parts = first_name left name behind k (i ∷ more) cut t in
        let same : k ≡ j = own_name k j (sym parts.0 ∙ is) in
        (i, more, s ∙ (ap (λ h. done ++ h ∷ (i ∷ more)) same ∙ sym (append_assoc done (j ∷ []) (i ∷ more))), tail_of (sym e ∙ parts.1))
