-- Marks at places of a list.
use Rattle.std.proofs.Common.{ℕ, zero, suc, ◌≡◌, ◌<◌, ◌∙◌, Bool, true, false, ◌||◌, ◌==◌, List, [], ◌∷◌, ◌++◌, length, get_or, set, refl, sym, ap, eqb-true}
use Rattle.std.proofs.lemmas.Bool.{eqb-false}
use Rattle.std.proofs.lemmas.List.{get_or-set_same, get_or-set_other}

pub unset_behind : (marks : List Bool) (k : ℕ) → get_or (marks ++ false ∷ []) k false ≡ get_or marks k false
unset_behind [] zero = refl
unset_behind [] (suc k) = refl
unset_behind (m ∷ ms) zero = refl
unset_behind (m ∷ ms) (suc k) = unset_behind ms k

pub set_mark : (marks : List Bool) (place k : ℕ) → place < length marks → get_or (set marks place true) k false ≡ (k == place || get_or marks k false)
set_mark marks place k h = by (k == place) refl where
  by : (v : Bool) → (k == place) ≡ v → get_or (set marks place true) k false ≡ (k == place || get_or marks k false)
  by true e = ap (λ i. get_or (set marks place true) i false) (eqb-true k place e) ∙ get_or-set_same marks place true false h ∙ sym (ap (λ v. v || get_or marks k false) e)
  by false e = get_or-set_other marks place k true false (eqb-false k place e) ∙ sym (ap (λ v. v || get_or marks k false) e)

turned : (a p js : Bool) → ((a || p) || js) ≡ (p || (a || js))
turned true true js = refl
turned true false js = refl
turned false true js = refl
turned false false js = refl

pub one_more : (before now rest whole a : Bool) → now ≡ (a || before) → (before || (a || rest)) ≡ whole → (now || rest) ≡ whole
one_more before now rest whole a is so = ap (λ v. v || rest) is ∙ turned a before rest ∙ so
