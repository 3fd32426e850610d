-- Pairs of types behind others, and the parts of types in front of pairs.
use Rattle.std.proofs.Common.{◌≡◌, ◌∙◌, ◌&&◌, ◌+◌, ◌<◌, ◌++◌, ℕ, Bool, true, false, List, [], ◌∷◌, map, refl, sym, ap, subst, suc, length, drop, get_or, add-one, drop-cons, Result, Ok, Err}
use Rattle.std.specs.Prelude.{IfOk}
use Rattle.std.specs.Borrow.{Bor}
use Rattle.stk_ctype.specs.declared.ctype.CType.{CType}
use Rattle.stk_ctype.specs.declared.ctype.Signature.{Signature}
use Rattle.stk_ctype.specs.Types.{type_of, row_of, signature_of}
use Rattle.stk_compatible.specs.Same.{same, same_row, same_signature, same_truth}
use Rattle.stk_compatible.specs.Pairs.{are_same, pairs_of}

and_swap : (p q r : Bool) → (p && (q && r)) ≡ (q && (p && r))
and_swap true true r = refl
and_swap true false r = refl
and_swap false true r = refl
and_swap false false r = refl

pub and_turn : (r s a : Bool) → (r && (s && a)) ≡ ((s && r) && a)
and_turn true true a = refl
and_turn true false a = refl
and_turn false true a = refl
and_turn false false a = refl

and_true : (a : Bool) → (a && true) ≡ a
and_true true = refl
and_true false = refl

same_behind : (ps : List (Bor CType × Bor CType)) (l r : Bor CType) → are_same (pairs_of (ps ++ (l, r) ∷ [])) ≡ (same (type_of l.now) (type_of r.now) && are_same (pairs_of ps))
same_behind [] l r = refl
same_behind (p ∷ ps) l r = ap (λ b. same (type_of p.0.now) (type_of p.1.now) && b) (same_behind ps l r) ∙ and_swap (same (type_of p.0.now) (type_of p.1.now)) (same (type_of l.now) (type_of r.now)) (are_same (pairs_of ps))

pub pairs_more : (ps qs : List (Bor CType × Bor CType)) (l r : Bor CType) → qs ≡ ps ++ (l, r) ∷ [] → are_same (pairs_of qs) ≡ (same (type_of l.now) (type_of r.now) && are_same (pairs_of ps))
pairs_more ps qs l r is = ap (λ xs. are_same (pairs_of xs)) is ∙ same_behind ps l r

-- ---- signatures
pub signatures_same : (f g : Signature) → same_truth f.more g.more ≡ true
    → same_signature (signature_of f) (signature_of g) ≡ (same (type_of f.result) (type_of g.result) && same_row (row_of (map type_of f.params)) (row_of (map type_of g.params)))
signatures_same f g is = ap (λ b. b && (same (type_of f.result) (type_of g.result) && same_row (row_of (map type_of f.params)) (row_of (map type_of g.params)))) is

-- rows whose first types are these
pub rows_same : (xs ys xt yt : List CType) (x y : CType) (a : Bool) → xs ≡ x ∷ xt → ys ≡ y ∷ yt → (same_row (row_of (map type_of xs)) (row_of (map type_of ys)) && a) ≡ (same_row (row_of (map type_of xt)) (row_of (map type_of yt)) && (same (type_of x) (type_of y) && a))
rows_same xs ys xt yt x y a left right =
    ap (λ zs. same_row (row_of (map type_of zs)) (row_of (map type_of ys)) && a) left ∙ ap (λ zs. same_row (row_of (map type_of (x ∷ xt))) (row_of (map type_of zs)) && a) right
    ∙ sym (and_turn (same_row (row_of (map type_of xt)) (row_of (map type_of yt))) (same (type_of x) (type_of y)) a)

-- what is left begins with the element at this place
pub next_of : {A : Type 0} (xs : List A) (i : ℕ) (d : A) → i < length xs → d ≡ get_or xs i d → drop i xs ≡ d ∷ drop (i + 1) xs
next_of xs i d h e = rw add-one (drop-cons xs i d h ∙ ap (λ (z : _). z ∷ drop (suc i) xs) (sym e))

-- ---- the answers of calls, put together
pub after_pair : {E : Type 0} (r : Result Bool E) (now mid old same_first same_rest : Bool) → IfOk r (λ b. (b && now) ≡ (same_rest && mid)) → mid ≡ (same_first && old) → IfOk r (λ b. (b && now) ≡ ((same_first && same_rest) && old))
after_pair (Ok b) now mid old first rest so is = so ∙ ap (λ a. rest && a) is ∙ and_turn rest first old
after_pair (Err e) now mid old first rest so is = tt

pub whole_same : {E : Type 0} (r : Result Bool E) (now old : Bool) (s t : Bool) → s ≡ t → IfOk r (λ b. (b && now) ≡ (s && old)) → IfOk r (λ b. (b && now) ≡ (t && old))
whole_same r now old s t is so = subst (λ (u : Bool). IfOk r (λ b. (b && now) ≡ (u && old))) is so

-- a pair alone
pub pair_alone : {E : Type 0} (result : Result Bool E) (ps qs : List (Bor CType × Bor CType)) (l r : Bor CType) → ps ≡ [] → qs ≡ ps ++ (l, r) ∷ [] → IfOk result (λ b. b ≡ are_same (pairs_of qs)) → IfOk result (λ b. b ≡ same (type_of l.now) (type_of r.now))
pair_alone (Ok b) ps qs l r none is so = so ∙ pairs_more ps qs l r is ∙ ap (λ xs. same (type_of l.now) (type_of r.now) && are_same (pairs_of xs)) none ∙ and_true (same (type_of l.now) (type_of r.now))
pair_alone (Err e) ps qs l r none is so = tt
