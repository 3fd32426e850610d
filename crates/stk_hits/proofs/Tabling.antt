-- A table that takes up one path run after the other.
use Rattle.std.proofs.Common.{◌≡◌, ℕ, zero, suc, ◌+◌, ◌/◌, ◌%◌, ◌^◌, ◌<◌, ◌⊎◌, pos, List, [], ◌∷◌, ◌++◌, length, slice_get, Option, Some, Result, Ok, Err, OnOk, ℤ, refl, sym, ap, ◌∙◌, inl, inr, arith, length-append}
use Rattle.std.proofs.Common.{drop, get_or, drop-cons, append_assoc}
use Rattle.std.proofs.lemmas.List.{append-nil}
use Rattle.stk_tree.specs.Syntax.{FunctionTree}
use Rattle.stk_ctype.specs.declared.kind.IntKind.{IntKind}
use Rattle.stk_numbers.specs.Kinds.{wrap}
use Rattle.stk_numbers.specs.declared.conditions.Kinds.{Kinds}
use Rattle.stk_numbers.proofs.Wrapping.{wrap_twice}
use Rattle.stk_meaning.specs.declared.entry.Entry.{Entry}
use Rattle.stk_meaning.specs.Typings.{Typing}
use Rattle.stk_meaning.specs.Keys.{keys_of}
use Rattle.stk_meaning.specs.Paths.{path}
use Rattle.stk_hits.specs.InputMaps.{bits_in, map_at}
use Rattle.stk_hits.specs.Tables.{Table, Describes}
use Rattle.stk_hits.specs.PathSubjects.{ArePathRuns, kinds_of}
use Rattle.stk_hits.specs.PathTables.{IsTableOf, wrapped}

pub weaker : {A E : Type 0} {P Q : Type 0} (r : Result A E) → (P → Q) → OnOk r P → OnOk r Q
weaker (Ok x) g p = g p
weaker (Err e) g p = p

-- the numbers of a map are in the ranges of their kinds
pub wrapped_map : (ks : List IntKind) (n : ℕ) → wrapped ks (map_at ks n) ≡ map_at ks n
wrapped_map [] n = refl
wrapped_map (k ∷ ks) n = λ i. wrap_twice k (pos (n / 2 ^ bits_in ks)) i ∷ wrapped_map ks (n % 2 ^ bits_in ks) i

-- one number more
pub next_word : (ks : List IntKind) (i : ℕ) (d : IntKind) (made now : List ℤ) (x w : ℤ) (xs rest all : List ℤ) → i < length ks → made ++ wrapped (drop i ks) rest ≡ all → rest ≡ x ∷ xs → w ≡ wrap (get_or ks i d) x → now ≡ made ++ w ∷ [] → now ++ wrapped (drop (i + 1) ks) xs ≡ all
next_word ks i d made now x w xs rest all within h is word more =
    let e : suc i ≡ i + 1 = omega arith in
    let here : drop i ks ≡ get_or ks i d ∷ drop (i + 1) ks = drop-cons ks i d within ∙ ap (λ n. get_or ks i d ∷ drop n ks) e in
    ap (λ l. l ++ wrapped (drop (i + 1) ks) xs) more
    ∙ append_assoc made (w ∷ []) (wrapped (drop (i + 1) ks) xs)
    ∙ ap (λ z. made ++ z ∷ wrapped (drop (i + 1) ks) xs) word
    ∙ ap (λ l. made ++ wrapped l (x ∷ xs)) (sym here)
    ∙ ap (λ l. made ++ wrapped (drop i ks) l) (sym is)
    ∙ h

length-zero : {A : Type 0} (xs : List A) → length xs ≡ 0 → xs ≡ []
length-zero [] e = refl
length-zero (x ∷ xs) e = absurd (omega (arith, e))

-- no number is left
pub last_word : (ks : List IntKind) (i : ℕ) (made rest all : List ℤ) → made ++ wrapped (drop i ks) rest ≡ all → length rest ≡ 0 → made ≡ all
last_word ks i made rest all h empty = let none : rest ≡ [] = length-zero rest empty in sym (append-nil made) ∙ ap (λ l. made ++ l) (sym (nothing_left (drop i ks))) ∙ ap (λ l. made ++ wrapped (drop i ks) l) (sym none) ∙ h where
  nothing_left : (l : List IntKind) → wrapped l [] ≡ []
  nothing_left [] = refl
  nothing_left (k ∷ l) = refl

get_front : {A : Type 0} (xs : List A) (y : A) (n : ℕ) → n < length xs → slice_get (xs ++ y ∷ []) n ≡ slice_get xs n
get_front [] y n less = absurd (omega (arith, less))
get_front (x ∷ xs) y zero less = refl
get_front (x ∷ xs) y (suc n) less = get_front xs y n (omega (arith, less))

get_last : {A : Type 0} (xs : List A) (y : A) → slice_get (xs ++ y ∷ []) (length xs) ≡ Some y
get_last [] y = refl
get_last (x ∷ xs) y = get_last xs y

last_or_less : (n m : ℕ) → n < m + 1 → (n < m) ⊎ (n ≡ m)
last_or_less zero zero less = inr refl
last_or_less zero (suc m) less = inl (omega arith)
last_or_less (suc n) zero less = absurd (omega (arith, less))
last_or_less (suc n) (suc m) less = elim (last_or_less n m (omega (arith, less))) [ inl a ↦ inl (omega (arith, a)) | inr e ↦ inr (ap suc e) ]

module _ (ty : Typing) (without : Kinds) (f : FunctionTree) where
  abbrev numbered : ℕ → List Entry
  numbered n = path ty without f (map_at (kinds_of (keys_of ty without f)) n)

  pub nothing : (table : Table) → Describes [] [] table → IsTableOf ty without f 0 table
  nothing table d = record { runs = []; count = refl; are = record { each = λ n less. absurd (omega (arith, less)) }; described = d }

  runs_more : (runs : List (Option (List Entry))) (t : List Entry) → ArePathRuns ty without f runs → t ≡ numbered (length runs) → ArePathRuns ty without f (runs ++ Some t ∷ [])
  runs_more runs t are is = record {
    each = λ n less. elim (last_or_less n (length runs) (omega (arith, less, length-append runs (Some t ∷ [])))) [
      | inl front ↦ get_front runs (Some t) n front ∙ are.each n front
      | inr last ↦ ap (slice_get (runs ++ Some t ∷ [])) last ∙ get_last runs (Some t) ∙ ap (λ u. Some (Some u)) (is ∙ ap numbered (sym last))
    ];
  }

  -- one run more
  pub one_more : {E : Type 0} {U : Type 0} (result : Result U E) (n : ℕ) (old new : Table) (t : List Entry) → t ≡ path ty without f (map_at (kinds_of (keys_of ty without f)) n)
      → ((runs : List (Option (List Entry))) → Describes runs [] old → n ≡ length runs → OnOk result (Describes (runs ++ Some t ∷ []) [] new))
      → IsTableOf ty without f n old → OnOk result (IsTableOf ty without f (n + 1) new)
  one_more result n old new t is records h =
      weaker result (λ d. record {
        runs = h.runs ++ Some t ∷ [];
        count = length-append h.runs (Some t ∷ []) ∙ ap (λ k. k + 1) h.count;
        are = runs_more h.runs t h.are (is ∙ ap numbered (sym h.count));
        described = d;
      }) (records h.runs h.described (sym h.count))
