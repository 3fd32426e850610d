-- Numbers in the ranges of their keys.
use Rattle.std.proofs.Common.{◌≡◌, ℕ, ◌+◌, ◌<◌, true, List, [], ◌∷◌, ◌++◌, map, length, take, drop, get_or, ℤ, refl, sym, ap, ◌∙◌, subst, arith, suc, drop-cons, append_assoc, None}
use Rattle.std.proofs.lemmas.List.{append-nil}
use Rattle.stk_numbers.specs.Kinds.{fits, wrap}
use Rattle.stk_numbers.proofs.Wrapping.{wrap_stays}
use Rattle.stk_meaning.specs.Keys as keys
use Rattle.stk_meaning.specs.Maps.{AreInRange}
use Rattle.stk_ctype.specs.declared.kind.IntKind.TheVariants.{Bool}
use Rattle.stk_function_env.specs.declared.infos.Key.TheVariants.{Parameter}
use Rattle.stk_function_env.specs.declared.infos.KeyInfo.{KeyInfo}
use Rattle.stk_function_env.specs.Infos.{info_in}
use Rattle.stk_first_maps.specs.Words.{wrapped_by}

-- what stands for a key that isn't there
abbrev pub no_key : KeyInfo
no_key = record { key = Parameter 0; kind = Bool; size = 0; name = None }

-- numbers in range are converted to themselves
pub wrapped_stays : (ks : List keys.KeyInfo) (xs : List ℤ) → AreInRange ks xs → wrapped_by ks xs ≡ xs
wrapped_stays [] [] h = refl
wrapped_stays [] (x ∷ xs) h = absurd h
wrapped_stays (k ∷ ks) [] h = absurd h
wrapped_stays (k ∷ ks) (x ∷ xs) h = λ i. wrap_stays k.kind x h.0 i ∷ wrapped_stays ks xs h.1 i

in_range_more : (ks : List keys.KeyInfo) (xs : List ℤ) (k : keys.KeyInfo) (x : ℤ) → AreInRange ks xs → fits k.kind x ≡ true → AreInRange (ks ++ k ∷ []) (xs ++ x ∷ [])
in_range_more [] [] k x h fit = (fit, tt)
in_range_more [] (y ∷ ys) k x h fit = absurd h
in_range_more (j ∷ ks) [] k x h fit = absurd h
in_range_more (j ∷ ks) (y ∷ ys) k x h fit = (h.0, in_range_more ks ys k x h.1 fit)

map_append : (xs ys : List KeyInfo) → map info_in (xs ++ ys) ≡ map info_in xs ++ map info_in ys
map_append [] ys = refl
map_append (x ∷ xs) ys = ap (λ (zs : List keys.KeyInfo). info_in x ∷ zs) (map_append xs ys)

-- one number more, in the range of the next key
pub next_in_range : (front more : List KeyInfo) (k : KeyInfo) (made now : List ℤ) (x : ℤ) → AreInRange (map info_in front) made → more ≡ front ++ k ∷ [] → fits k.kind x ≡ true → now ≡ made ++ x ∷ [] → AreInRange (map info_in more) now
next_in_range front more k made now x h is fit grown =
    subst (λ (xs : List ℤ). AreInRange (map info_in more) xs) (sym grown)
    (subst (λ (l : List keys.KeyInfo). AreInRange l (made ++ x ∷ [])) (sym (ap (map info_in) is ∙ map_append front (k ∷ []))) (in_range_more (map info_in front) made (info_in k) x h fit))

-- one word more
pub next_word : (ks : List KeyInfo) (i : ℕ) (d : KeyInfo) (made now : List ℤ) (x w : ℤ) (xs rest all : List ℤ) → i < length ks → made ++ wrapped_by (map info_in (drop i ks)) rest ≡ all → rest ≡ x ∷ xs → w ≡ wrap (get_or ks i d).kind x → now ≡ made ++ w ∷ [] → now ++ wrapped_by (map info_in (drop (i + 1) ks)) xs ≡ all
next_word ks i d made now x w xs rest all within h is word more =
    let e : suc i ≡ i + 1 = omega arith in
    let here : drop i ks ≡ get_or ks i d ∷ drop (i + 1) ks = drop-cons ks i d within ∙ ap (λ n. get_or ks i d ∷ drop n ks) e in
    ap (λ l. l ++ wrapped_by (map info_in (drop (i + 1) ks)) xs) more
    ∙ append_assoc made (w ∷ []) (wrapped_by (map info_in (drop (i + 1) ks)) xs)
    ∙ ap (λ z. made ++ z ∷ wrapped_by (map info_in (drop (i + 1) ks)) xs) word
    ∙ ap (λ l. made ++ wrapped_by (map info_in l) (x ∷ xs)) (sym here)
    ∙ ap (λ l. made ++ wrapped_by (map info_in (drop i ks)) l) (sym is)
    ∙ h

length-zero : {A : Type 0} (xs : List A) → length xs ≡ 0 → xs ≡ []
length-zero [] e = refl
length-zero (x ∷ xs) e = absurd (omega (arith, e))

-- no number is left
pub last_word : (ks : List keys.KeyInfo) (made rest all : List ℤ) → made ++ wrapped_by ks rest ≡ all → length rest ≡ 0 → made ≡ all
last_word ks made rest all h empty = let none : rest ≡ [] = length-zero rest empty in sym (append-nil made) ∙ ap (λ l. made ++ l) (sym (nothing_left ks)) ∙ ap (λ l. made ++ wrapped_by ks l) (sym none) ∙ h where
  nothing_left : (l : List keys.KeyInfo) → wrapped_by l [] ≡ []
  nothing_left [] = refl
  nothing_left (k ∷ l) = refl
