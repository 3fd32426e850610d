-- What the calls of path runs give for a function's own tables.
use Rattle.std.proofs.Common.{◌≡◌, ℕ, Bool, true, ◌&&◌, List, ℤ, sym, ap, ◌∙◌}
use Rattle.stk_tree.specs.Syntax.{FunctionTree}
use Rattle.stk_numbers.specs.declared.conditions.Candidate.{Candidate}
use Rattle.stk_numbers.specs.declared.conditions.Condition.{Condition}
use Rattle.stk_numbers.specs.declared.conditions.Kinds.{Kinds}
use Rattle.stk_meaning.specs.declared.entry.Entry.{Entry}
use Rattle.stk_meaning.specs.Typings.{Typing}
use Rattle.stk_meaning.specs.Keys.{KeyInfo, keys_of, kept_of, objects_in}
use Rattle.stk_meaning.specs.Maps.{are_valid, addresses_in}
use Rattle.stk_meaning.specs.Paths.{number_under, path}
use Rattle.stk_meaning.specs.Hits.{is_hit_free}
use Rattle.stk_goals.specs.Queries.{has_addresses}
use Rattle.stk_source_audit.specs.Asked.{answers_test}

-- the addresses of a map are valid, and its run hits
pub runs_test : (ty : Typing) (without : Kinds) (f : FunctionTree) (c : Candidate) (set : List Condition) (kept : List ℕ) (own : List KeyInfo) (words : List ℤ) (trace given : List Entry) (valid hit : Bool) → kept ≡ kept_of ty without f → own ≡ keys_of ty without f
    → valid ≡ are_valid kept (objects_in ty own) (addresses_in (number_under own words)) → valid ≡ true → trace ≡ path ty without f words → given ≡ trace → hit ≡ is_hit_free set c given → hit ≡ answers_test ty without f c set words
runs_test ty without f c set kept own words trace given valid hit same keys is holds ran taken free =
    let addresses : has_addresses ty without f words ≡ true
    = sym (ap (λ (ks : List ℕ). are_valid ks (objects_in ty own) (addresses_in (number_under own words))) same ∙ ap (λ (ks : List KeyInfo). are_valid (kept_of ty without f) (objects_in ty ks) (addresses_in (number_under ks words))) keys) ∙ sym is ∙ holds in
    free
    ∙ ap (is_hit_free set c) (taken ∙ ran)
    ∙ ap (λ (b : Bool). b && is_hit_free set c (path ty without f words)) (sym addresses)
