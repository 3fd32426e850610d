-- Findings of candidates by the table of their function.
use Rattle.std.proofs.Common.{◌≡◌, ℕ, ◌≤◌, ◌^◌, List, [], length, Option, Result, Ok, Err, IfOk, sym, ap, subst, ◌∙◌}
use Rattle.stk_tree.specs.Syntax.{FunctionTree}
use Rattle.stk_ctype.specs.declared.kind.IntKind.{IntKind}
use Rattle.stk_numbers.specs.declared.conditions.Candidate.{Candidate}
use Rattle.stk_numbers.specs.declared.conditions.Condition.{Condition}
use Rattle.stk_numbers.specs.declared.conditions.Kinds.{Kinds}
use Rattle.stk_meaning.specs.declared.entry.Entry.{Entry}
use Rattle.stk_meaning.specs.Typings.{Typing}
use Rattle.stk_meaning.specs.Keys.{KeyInfo, keys_of, input_bits}
use Rattle.stk_meaning.specs.Lists.{conditions}
use Rattle.stk_hits.specs.InputMaps.{bits_in}
use Rattle.stk_meaning.specs.declared.finding.Finding.{Finding}
use Rattle.stk_meaning.specs.Findings.{IsLawful}
use Rattle.stk_hits.specs.Tables.{Table, Describes}
use Rattle.stk_hits.specs.Subjects.{subject_of}
use Rattle.stk_hits.specs.PathSubjects.{path_subject, kinds_of}
use Rattle.stk_hits.proofs.KeyKinds.{bits}
use Rattle.stk_hits.proofs.Same.{lawful_paths}
use Rattle.stk_hits.specs.PathTables.{IsTableOf}

-- what is lawful by the table of a function is lawful for the function
lawful_here : (ty : Typing) (without : Kinds) (f : FunctionTree) (ks : List IntKind) (cs : List Condition) (table : Table) (c : Candidate) (x : Finding)
    → ks ≡ kinds_of (keys_of ty without f) → bits_in ks ≤ 16 → cs ≡ conditions ty without f → IsTableOf ty without f (2 ^ bits_in ks) table
    → ((runs : List (Option (List Entry))) → Describes runs [] table → length runs ≡ 2 ^ bits_in ks → IsLawful (subject_of ks runs cs) c x)
    → IsLawful (path_subject ty without f) c x
lawful_here ty without f ks cs table c x kinds few all h found =
    let keys = keys_of ty without f in
    let less : input_bits keys ≤ 16 = subst (λ n. n ≤ 16) (ap bits_in kinds ∙ bits keys) few in
    let count : length h.runs ≡ 2 ^ bits_in (kinds_of keys) = h.count ∙ ap (λ l. 2 ^ bits_in l) kinds in
    let lawful = found h.runs h.described h.count in
    lawful_paths ty without f h.runs less count h.are c x
    (subst (λ l. IsLawful (subject_of (kinds_of keys) h.runs l) c x) all (subst (λ l. IsLawful (subject_of l h.runs cs) c x) kinds lawful))

-- the same of what may be missing
pub lawful_found : {E : Type 0} (ty : Typing) (without : Kinds) (f : FunctionTree) (ks : List IntKind) (cs : List Condition) (table : Table) (c : Candidate) (result : Result Finding E)
    → ks ≡ kinds_of (keys_of ty without f) → bits_in ks ≤ 16 → cs ≡ conditions ty without f → IsTableOf ty without f (2 ^ bits_in ks) table
    → ((runs : List (Option (List Entry))) → Describes runs [] table → length runs ≡ 2 ^ bits_in ks → IfOk result (IsLawful (subject_of ks runs cs) c))
    → IfOk result (IsLawful (path_subject ty without f) c)
lawful_found ty without f ks cs table c (Ok x) kinds few all h found = lawful_here ty without f ks cs table c x kinds few all h found
lawful_found ty without f ks cs table c (Err e) kinds few all h found = tt

-- the kinds of a function's keys have few bits together
pub few_bits : (ks : List IntKind) (own keys : List KeyInfo) → ks ≡ kinds_of own → own ≡ keys → input_bits keys ≤ 16 → bits_in ks ≤ 16
few_bits ks own keys e same few = subst (λ n. n ≤ 16) (sym (ap bits_in (e ∙ ap kinds_of same) ∙ bits keys)) few
