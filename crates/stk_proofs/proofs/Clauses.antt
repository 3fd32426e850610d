-- Clauses that are read one by one.
use Rattle.std.proofs.Common.{◌≡◌, ℕ, suc, ◌+◌, ◌^◌, ◌<◌, min, Bool, nat_lt, if◌then◌else◌, List, [], ◌∷◌, ◌++◌, length, map, Option, Some, None, refl, sym, ap, ◌∙◌, arith, append_assoc}
use Rattle.std.specs.Option.{option_map, option_and_then}
use Rattle.stk_clauses.specs.declared.literal.Lit.{Lit}
use Rattle.stk_clauses.specs.declared.store.Cnf.{Cnf}
use Rattle.stk_proofs.specs.Entries.{literal_entry, in_front, listed}
use Rattle.stk_proofs.specs.Distinct.{distinct}
use Rattle.stk_proofs.specs.Dimacs.{literal_count, clauses_in, cnf_of}

-- the clause list of clauses that were read, with so many literals as they were written, and of those that come
abbrev pub cnf_after : ℕ → List (List Lit) → ℕ → Option (List (List Lit)) → Option Cnf
cnf_after vars store total None = None
cnf_after vars store total (Some cs) = if nat_lt (total + literal_count cs) (2 ^ 31) then Some (record { vars = vars; store = store ++ map distinct cs }) else None

-- nothing was read yet
pub cnf_from_start : (vars : ℕ) (r : Option (List (List Lit))) → cnf_after vars [] 0 r ≡ cnf_of vars r
cnf_from_start vars None = refl
cnf_from_start vars (Some cs) =
    let none : 0 + literal_count cs ≡ literal_count cs = omega arith in
    ap (λ n. if nat_lt n (2 ^ 31) then Some (record { vars = vars; store = map distinct cs }) else None) none

-- nothing stands in front of what is read
pub no_front : {A : Type 0} (r : Option (List A × List (List ℕ))) → in_front [] r ≡ r
no_front None = refl
no_front (Some p) = refl

lt_same : (a b c : ℕ) → (a < c → b < c) → (b < c → a < c) → nat_lt a c ≡ nat_lt b c
lt_same a b c f g = by (nat_lt a c) (nat_lt b c) refl refl
  where
    by : (x y : Bool) → nat_lt a c ≡ x → nat_lt b c ≡ y → nat_lt a c ≡ nat_lt b c
    by x y p q = grind arith

longer_store : (vars total len : ℕ) (store : List (List Lit)) (raw : List Lit) (r : Option (List (List Lit))) → len ≡ length raw
    → cnf_after vars store total (option_map (λ cs. raw ∷ cs) r) ≡ cnf_after vars (store ++ distinct raw ∷ []) (min (total + len) (2 ^ 31)) r
longer_store vars total len store raw None e = refl
longer_store vars total len store raw (Some cs) e =
    ap (λ b. if b then Some (record { vars = vars; store = store ++ distinct raw ∷ map distinct cs }) else None) (lt_same (total + literal_count (raw ∷ cs)) (min (total + len) (2 ^ 31) + literal_count cs) (2 ^ 31) (λ h. omega (arith, e, h)) (λ h. omega (arith, e, h)))
    ∙ ap (λ s. if nat_lt (min (total + len) (2 ^ 31) + literal_count cs) (2 ^ 31) then Some (record { vars = vars; store = s }) else None) (sym (append_assoc store (distinct raw ∷ []) (map distinct cs)))

-- one clause more
pub clause_step : (vars total now left next : ℕ) (store new : List (List Lit)) (raw : List Lit) (ws behind : List (List ℕ)) (whole : Option Cnf) → left ≡ suc next → listed (literal_entry vars) ws ≡ Some (raw, behind) → new ≡ store ++ distinct raw ∷ [] → now ≡ min (total + length raw) (2 ^ 31)
    → cnf_after vars store total (clauses_in vars left ws) ≡ whole → cnf_after vars new now (clauses_in vars next behind) ≡ whole
clause_step vars total now left next store new raw ws behind whole some read grown counted so_far =
    ap (λ s. cnf_after vars s now (clauses_in vars next behind)) grown
    ∙ (ap (λ t. cnf_after vars (store ++ distinct raw ∷ []) t (clauses_in vars next behind)) counted
    ∙ (sym (longer_store vars total (length raw) store raw (clauses_in vars next behind) refl)
    ∙ (sym (ap (λ n. cnf_after vars store total (clauses_in vars n ws)) some
    ∙ ap (λ r. cnf_after vars store total (option_and_then (λ p. option_map (λ cs. p.0 ∷ cs) (clauses_in vars next p.1)) r)) read) ∙ so_far)))
