-- The bytes that a text spells, gathered from left to right.
use Rattle.std.proofs.Common.{◌≡◌, ℕ, zero, suc, ◌+◌, ◌-◌, ◌≤◌, ◌<◌, Bool, true, false, List, [], ◌∷◌, ◌++◌, length, Option, Some, None, refl, sym, ap, ◌∙◌, arith, append_assoc, ◌==◌, map, drop, get_or, drop-cons}
use Rattle.stk_base.specs.declared.span.Span.{Span}
use Rattle.std.proofs.lemmas.List.{append-nil}
use Rattle.std.specs.Option.{option_map, option_and_then}
use Rattle.stk_numbers.specs.Characters.{byte_at}
use Rattle.stk_numbers.specs.Strings.{in_front, spelled, literal_bytes, string_bytes, if_all}

spelled_nothing : (most : ℕ) → spelled most [] ≡ Some []
spelled_nothing zero = refl
spelled_nothing (suc most) = refl

spelled_first : (most n : ℕ) (rest behind : List ℕ) → Some (n, behind) ≡ byte_at rest → spelled (suc most) rest ≡ option_map (λ ns. n ∷ ns) (spelled most behind)
spelled_first most n [] behind is = cc
spelled_first most n (c ∷ cs) behind is = ap (option_and_then (λ p. option_map (λ ns. p.0 ∷ ns) (spelled most p.1))) (sym is)

spelled_none : (most c : ℕ) (cs : List ℕ) → None ≡ byte_at (c ∷ cs) → spelled (suc most) (c ∷ cs) ≡ None
spelled_none most c cs is = ap (option_and_then (λ p. option_map (λ ns. p.0 ∷ ns) (spelled most p.1))) (sym is)

one_more : (found : List ℕ) (n : ℕ) (more : Option (List ℕ)) → in_front found (option_map (λ ns. n ∷ ns) more) ≡ in_front (found ++ (n ∷ [])) more
one_more found n None = refl
one_more found n (Some ns) = ap Some (sym (append_assoc found (n ∷ []) ns))

left : (total turn : ℕ) → turn < total → total - turn ≡ suc (total - (turn + 1))
left total turn within = omega (arith, within)

none_left : (total turn : ℕ) → total ≤ turn → total - turn ≡ zero
none_left total turn beyond = omega (arith, beyond)

-- one byte more is gathered
pub goes_on : (total turn n : ℕ) (found new rest behind : List ℕ) (whole : Option (List ℕ)) → turn < total → Some (n, behind) ≡ byte_at rest → new ≡ found ++ (n ∷ []) → in_front found (spelled (total - turn) rest) ≡ whole → in_front new (spelled (total - (turn + 1)) behind) ≡ whole
goes_on total turn n found new rest behind whole within is grown so_far =
    ap (λ f. in_front f (spelled (total - (turn + 1)) behind)) grown
    ∙ sym (one_more found n (spelled (total - (turn + 1)) behind))
    ∙ ap (in_front found) (sym (ap (λ k. spelled k rest) (left total turn within) ∙ spelled_first (total - (turn + 1)) n rest behind is))
    ∙ so_far

not_empty : (c : ℕ) (cs : List ℕ) → (length (c ∷ cs) == 0) ≡ false
not_empty c cs = grind arith

nothing_more : (found : List ℕ) → if_all true found ≡ in_front found (Some [])
nothing_more found = ap Some (sym (append-nil found))

-- no byte can be gathered: nothing is left, or what is left begins with none
pub stops : (total turn : ℕ) (found rest : List ℕ) (whole : Option (List ℕ)) → turn < total → None ≡ byte_at rest → in_front found (spelled (total - turn) rest) ≡ whole → if_all (length rest == 0) found ≡ whole
stops total turn found [] whole within is so_far = nothing_more found ∙ ap (in_front found) (sym (spelled_nothing (total - turn))) ∙ so_far
stops total turn found (c ∷ cs) whole within is so_far =
    ap (λ b. if_all b found) (not_empty c cs)
    ∙ sym (ap (in_front found) (ap (λ k. spelled k (c ∷ cs)) (left total turn within) ∙ spelled_none (total - (turn + 1)) c cs is)) ∙ so_far

-- as many bytes were gathered as there may be
pub ends : (total turn : ℕ) (found rest : List ℕ) (whole : Option (List ℕ)) → total ≤ turn → in_front found (spelled (total - turn) rest) ≡ whole → if_all (length rest == 0) found ≡ whole
ends total turn found [] whole beyond so_far = nothing_more found ∙ ap (in_front found) (sym (spelled_nothing (total - turn))) ∙ so_far
ends total turn found (c ∷ cs) whole beyond so_far =
    ap (λ b. if_all b found) (not_empty c cs)
    ∙ sym (ap (in_front found) (ap (λ k. spelled k (c ∷ cs)) (none_left total turn beyond))) ∙ so_far

two_fronts : (found ns : List ℕ) (more : Option (List ℕ)) → in_front found (in_front ns more) ≡ in_front (found ++ ns) more
two_fronts found ns None = refl
two_fronts found ns (Some ms) = ap Some (sym (append_assoc found ns ms))

refused : (found : List ℕ) (bytes rest : Option (List ℕ)) → None ≡ in_front found bytes → None ≡ in_front found (option_and_then (λ ns. in_front ns rest) bytes)
refused found None rest none = refl
refused found (Some ns) rest none = cc

kept : (found new : List ℕ) (bytes rest : Option (List ℕ)) → Some new ≡ in_front found bytes → in_front new rest ≡ in_front found (option_and_then (λ ns. in_front ns rest) bytes)
kept found new None rest some = cc
kept found new (Some ns) rest some =
    let same : new ≡ found ++ ns = cc in
    ap (λ f. in_front f rest) same ∙ sym (two_fronts found ns rest)

-- a literal of a row has no bytes
pub row_refused : (found new text : List ℕ) (texts left whole : List (List ℕ)) (all : Bool) → all ≡ false → if_all all new ≡ in_front found (literal_bytes text) → left ≡ text ∷ texts → in_front found (string_bytes left) ≡ string_bytes whole → None ≡ string_bytes whole
row_refused found new text texts left whole all none_ added here so_far =
    refused found (literal_bytes text) (string_bytes texts) (ap (λ b. if_all b new) (sym none_) ∙ added)
    ∙ ap (λ ts. in_front found (string_bytes ts)) (sym here)
    ∙ so_far

-- a literal of a row has its bytes
pub row_kept : (found new text : List ℕ) (texts left whole : List (List ℕ)) (all : Bool) → all ≡ true → if_all all new ≡ in_front found (literal_bytes text) → left ≡ text ∷ texts → in_front found (string_bytes left) ≡ string_bytes whole → in_front new (string_bytes texts) ≡ string_bytes whole
row_kept found new text texts left whole all yes_ added here so_far =
    kept found new (literal_bytes text) (string_bytes texts) (ap (λ b. if_all b new) (sym yes_) ∙ added)
    ∙ ap (λ ts. in_front found (string_bytes ts)) (sym here)
    ∙ so_far

-- the texts from a place on, with the first one in front
pub first_text : (f : Span → List ℕ) (spans : List Span) (i : ℕ) (d : Span) (text : List ℕ) → i < length spans → text ≡ f (get_or spans i d) → map f (drop i spans) ≡ text ∷ map f (drop (i + 1) spans)
first_text f spans i d text within is =
    let next : suc i ≡ i + 1 = omega arith in
    ap (map f) (drop-cons spans i d within ∙ ap (λ n. get_or spans i d ∷ drop n spans) next) ∙ ap (λ t. t ∷ map f (drop (i + 1) spans)) (sym is)
