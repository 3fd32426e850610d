-- The text of a clause list, and of a derivation, is read as it.
use Rattle.std.proofs.Common.{◌≡◌, ℕ, ◌+◌, ◌-◌, ◌*◌, ◌/◌, ◌^◌, ◌<◌, ◌≤◌, true, false, ◌&&◌, nat_le, nat_lt, if◌then◌else◌, List, [], ◌∷◌, ◌++◌, length, map, Some, None, refl, ap, ◌∙◌, arith, append_assoc}
use Rattle.std.specs.Prelude.{decimal, codes}
use Rattle.std.specs.List.{All, AllByRecursion}
use Rattle.std.proofs.lemmas.List.Elements.{recursion_from_All}
use Rattle.std.proofs.lemmas.Fmt.{decimal_nonempty}
use Rattle.stk_clauses.specs.declared.literal.Lit.{Lit}
use Rattle.stk_clauses.specs.declared.store.Cnf.{Cnf}
use Rattle.stk_clauses.specs.declared.derivation.Derived.{Derived}
use Rattle.stk_clauses.specs.declared.derivation.Derivation.{Derivation}
use Rattle.stk_clauses.specs.Literals.{AreBelow, AreDistinct}
use Rattle.stk_proofs.specs.Words.{words_of}
use Rattle.stk_proofs.specs.Numbers.{number_in}
use Rattle.stk_proofs.specs.Distinct.{distinct}
use Rattle.stk_proofs.specs.Dimacs.{clauses_text, head_text, dimacs_text, literal_count, clauses_in, cnf_of, cnf_behind, cnf_in, dimacs_in, FitsDimacs}
use Rattle.stk_proofs.specs.Lrat.{most_number, lrat_text, IsLrat, FitsLratLine, FitsLrat}
use Rattle.stk_proofs.proofs.Distinctness.{distinct_stays}
use Rattle.stk_proofs.proofs.WrittenWords.{words_from, word_at, plain_number, number_back, AllSmall, AllClausesSmall, clauses_back}
use Rattle.stk_proofs.proofs.Steps.{AllHintsSmall, AllStepsSmall, steps_back}

small_literals : (vars : ℕ) (ls : List Lit) → AllByRecursion (λ (l : Lit). l.0 < 2 * vars) ls → AllSmall vars ls
small_literals vars [] h = tt
small_literals vars (l ∷ ls) h = (let g = h.0 in omega (arith, g), small_literals vars ls h.1)

small_clauses : (vars : ℕ) (cs : List (List Lit)) → AllByRecursion (AreBelow vars) cs → AllClausesSmall vars cs
small_clauses vars [] h = tt
small_clauses vars (c ∷ cs) h = (small_literals vars c (recursion_from_All (λ (l : Lit). l.0 < 2 * vars) c h.0), small_clauses vars cs h.1)

each_once : (cs : List (List Lit)) → AllByRecursion AreDistinct cs → map distinct cs ≡ cs
each_once [] h = refl
each_once (c ∷ cs) h = ap (λ x. x ∷ map distinct cs) (distinct_stays c h.0) ∙ ap (λ xs. c ∷ xs) (each_once cs h.1)

-- the text with its first line cut into words
cut_head : (vars count : ℕ) (t : List ℕ) → head_text vars count ++ t ≡ 112 ∷ 32 ∷ 99 ∷ 110 ∷ 102 ∷ 32 ∷ (decimal vars ++ 32 ∷ (decimal count ++ 10 ∷ t))
cut_head vars count t =
    append_assoc ((codes "p cnf " ++ decimal vars) ++ 32 ∷ decimal count) (10 ∷ []) t
    ∙ (append_assoc (codes "p cnf " ++ decimal vars) (32 ∷ decimal count) (10 ∷ t) ∙ append_assoc (codes "p cnf ") (decimal vars) (32 ∷ (decimal count ++ 10 ∷ t)))

two_words : (t : List ℕ) → words_of (112 ∷ 32 ∷ 99 ∷ 110 ∷ 102 ∷ 32 ∷ t) ≡ (112 ∷ []) ∷ (99 ∷ 110 ∷ 102 ∷ []) ∷ words_from false t
two_words t = refl

head_words : (vars count : ℕ) (t : List ℕ) → vars < 2 ^ 31 → count < 2 ^ 31 → words_of (head_text vars count ++ t) ≡ (112 ∷ []) ∷ (99 ∷ 110 ∷ 102 ∷ []) ∷ decimal vars ∷ decimal count ∷ words_from true t
head_words vars count t small few =
    let a : vars < 2 ^ 64 = omega (arith, small) in
    let b : count < 2 ^ 64 = omega (arith, few) in
    ap words_of (cut_head vars count t)
    ∙ (two_words (decimal vars ++ 32 ∷ (decimal count ++ 10 ∷ t))
    ∙ ap (λ ws. (112 ∷ []) ∷ (99 ∷ 110 ∷ 102 ∷ []) ∷ ws) (word_at false (decimal vars) (decimal count ++ 10 ∷ t) 32 (decimal_nonempty vars a) (plain_number vars a) refl
    ∙ ap (λ ws. decimal vars ∷ ws) (word_at false (decimal count) t 10 (decimal_nonempty count b) (plain_number count b) refl)))

named : (v n : List ℕ) (ws : List (List ℕ)) → cnf_in ((112 ∷ []) ∷ (99 ∷ 110 ∷ 102 ∷ []) ∷ v ∷ n ∷ ws) ≡ cnf_behind (number_in v) (number_in n) ws
named v n ws = refl

within : (vars count : ℕ) (ws : List (List ℕ)) → vars ≤ 1073741823 → count < 2 ^ 31 - 1 → cnf_behind (Some vars) (Some count) ws ≡ cnf_of vars (clauses_in vars count ws)
within vars count ws small few =
    let a : nat_le vars 1073741823 ≡ true = grind (arith, small) in
    let b : nat_lt count (2 ^ 31 - 1) ≡ true = grind (arith, few) in
    ap (λ x. if x && nat_lt count (2 ^ 31 - 1) then cnf_of vars (clauses_in vars count ws) else None) a
    ∙ ap (λ x. if x then cnf_of vars (clauses_in vars count ws) else None) b

few_literals : (vars : ℕ) (cs : List (List Lit)) → literal_count cs < 2 ^ 31 → map distinct cs ≡ cs → cnf_of vars (Some cs) ≡ Some (record { vars = vars; store = cs })
few_literals vars cs few same =
    let a : nat_lt (literal_count cs) (2 ^ 31) ≡ true = grind (arith, few) in
    ap (λ x. if x then Some (record { vars = vars; store = map distinct cs }) else None) a ∙ ap (λ s. Some (record { vars = vars; store = s })) same

-- the text of a clause list says that clause list
pub cnf_back : (cnf : Cnf) → All AreDistinct cnf.store → FitsDimacs cnf → dimacs_in (dimacs_text cnf) ≡ Some cnf
cnf_back cnf distinct h =
    let small = h.vars in
    let few = h.few in
    let vars_small : cnf.vars < 2 ^ 31 = omega (arith, small) in
    let count_small : length cnf.store < 2 ^ 31 = omega (arith, few) in
    let cs = clauses_back cnf.vars cnf.store vars_small (small_clauses cnf.vars cnf.store (recursion_from_All (AreBelow cnf.vars) cnf.store h.within)) in
    ap cnf_in (head_words cnf.vars (length cnf.store) (clauses_text cnf.store) vars_small count_small)
    ∙ (named (decimal cnf.vars) (decimal (length cnf.store)) (words_from true (clauses_text cnf.store))
    ∙ (ap (λ o. cnf_behind o (number_in (decimal (length cnf.store))) (words_from true (clauses_text cnf.store))) (number_back cnf.vars vars_small)
    ∙ (ap (λ o. cnf_behind (Some cnf.vars) o (words_from true (clauses_text cnf.store))) (number_back (length cnf.store) count_small)
    ∙ (within cnf.vars (length cnf.store) (words_from true (clauses_text cnf.store)) small few
    ∙ (ap (cnf_of cnf.vars) cs
    ∙ few_literals cnf.vars cnf.store h.literals (each_once cnf.store (recursion_from_All AreDistinct cnf.store distinct)))))))

-- ---- derivations

small_numbers : (ls : List Lit) → AllByRecursion (λ (l : Lit). l.0 / 2 + 1 < 2 ^ 31) ls → AllSmall most_number ls
small_numbers [] h = tt
small_numbers (l ∷ ls) h = (let g = h.0 in omega (arith, g), small_numbers ls h.1)

small_hints : (hs : List ℕ) → AllByRecursion (λ (h : ℕ). h + 1 < 2 ^ 31) hs → AllHintsSmall hs
small_hints [] h = tt
small_hints (x ∷ xs) h = (h.0, small_hints xs h.1)

small_steps : (ss : List Derived) → AllByRecursion FitsLratLine ss → AllStepsSmall ss
small_steps [] h = tt
small_steps (s ∷ ss) h =
    let g = h.0 in
    (small_numbers s.clause (recursion_from_All (λ (l : Lit). l.0 / 2 + 1 < 2 ^ 31) s.clause g.literals), small_hints s.hints (recursion_from_All (λ (k : ℕ). k + 1 < 2 ^ 31) s.hints g.hints), small_steps ss h.1)

by_length : (given : ℕ) (ss : List Derived) → (0 < length ss → given + length ss < 2 ^ 31) → 0 < length ss → given + 1 + length ss < 2 ^ 31 + 1
by_length given ss ids some = omega (arith, ids some)

-- the text of a derivation says that derivation
pub derivation_back : (given : ℕ) (d : Derivation) → FitsLrat given d → IsLrat given (lrat_text given d) d
derivation_back given d h =
    let ids = h.ids in
    steps_back (given + 1) d.steps (by_length given d.steps ids) (small_steps d.steps (recursion_from_All FitsLratLine d.steps h.steps))
