-- The findings that a table of all path runs gives are those of the function.
use Rattle.std.proofs.Common.{◌≡◌, ◌^◌, ◌<◌, ◌≤◌, true, List, length, slice_get, ℤ, Option, Some, refl, sym, ap, ◌∙◌, subst, arith}
use Rattle.stk_tree.specs.Syntax.{FunctionTree}
use Rattle.stk_numbers.specs.declared.conditions.Candidate.{Candidate}
use Rattle.stk_numbers.specs.declared.conditions.Kinds.{Kinds}
use Rattle.stk_ctype.specs.declared.kind.IntKind.{IntKind}
use Rattle.stk_meaning.specs.declared.entry.Entry.{Entry}
use Rattle.stk_meaning.specs.Typings.{Typing}
use Rattle.stk_meaning.specs.Keys.{KeyInfo, keys_of, kept_of, input_bits}
use Rattle.stk_meaning.specs.Lists.{conditions}
use Rattle.stk_meaning.specs.Maps.{IsValid, are_valid, addresses_in}
use Rattle.stk_meaning.specs.Paths.{path, number_under}
use Rattle.stk_meaning.specs.declared.finding.Finding.{Finding}
use Rattle.stk_meaning.specs.Findings.{IsLawful}
use Rattle.stk_hits.specs.InputMaps.{bits_in, Covers, map_at}
use Rattle.stk_hits.proofs.Numbering.{by_number}
use Rattle.stk_hits.proofs.Starts.{number_back}
use Rattle.stk_hits.specs.Subjects.{subject_of, number_of, trace_at}
use Rattle.stk_hits.specs.PathSubjects.{path_subject, kinds_of, ArePathRuns}
use Rattle.stk_hits.proofs.Agreeing.{Agrees, lawful}
use Rattle.stk_hits.proofs.KeyKinds.{covers, in_range, precedes}
use Rattle.stk_hits.proofs.Objects.{no_objects}

-- a map that covers the keys is that of its number
record IsNumbered (ks : List IntKind) (xs : List ℤ) : Type 0 where
  below : number_of ks xs < 2 ^ bits_in ks
  is : map_at ks (number_of ks xs) ≡ xs

is_numbered : (ks : List IntKind) (xs : List ℤ) → Covers ks xs → IsNumbered ks xs
is_numbered ks xs h =
    let n = (by_number ks).numbered xs h in
    let same : number_of ks xs ≡ n.number = sym (ap (number_of ks) n.is) ∙ number_back ks n.number n.below in
    record { below = subst (λ u. u < 2 ^ bits_in ks) (sym same) n.below; is = ap (map_at ks) same ∙ n.is }

module _ (ty : Typing) (without : Kinds) (f : FunctionTree) (runs : List (Option (List Entry))) (few : input_bits (keys_of ty without f) ≤ 16) where
  abbrev keys : List KeyInfo
  keys = keys_of ty without f

  abbrev ks : List IntKind
  ks = kinds_of keys

  valid : (xs : List ℤ) → Covers ks xs → IsValid ty without f xs
  valid xs h = record {
    covers = in_range keys xs h;
    apart = subst (λ os. are_valid (kept_of ty without f) os (addresses_in (number_under keys xs)) ≡ true) (sym (no_objects ty without f (omega (arith, few)))) refl;
  }

  module _ (all : length runs ≡ 2 ^ bits_in ks) (are : ArePathRuns ty without f runs) where
    run_at : (xs : List ℤ) → Covers ks xs → slice_get runs (number_of ks xs) ≡ Some (Some (path ty without f xs))
    run_at xs h =
        let n = is_numbered ks xs h in
        are.each (number_of ks xs) (subst (λ u. number_of ks xs < u) (sym all) n.below) ∙ ap (λ ys. Some (Some (path ty without f ys))) n.is

    agrees : Agrees (subject_of ks runs (conditions ty without f)) (path_subject ty without f)
    agrees = record {
      maps = λ xs h. valid xs h.0;
      back = λ xs v. (covers keys xs v.covers, record { trace = path ty without f xs; is = run_at xs (covers keys xs v.covers) });
      before = λ xs ys q p b. precedes keys xs ys b;
      run = λ xs h. ap trace_at (run_at xs h.0);
      conditions = refl;
      all = refl;
      spent = λ c set h. h;
    }

    -- what is lawful by the table of all path runs is lawful for the function
    pub lawful_paths : (c : Candidate) (x : Finding) → IsLawful (subject_of ks runs (conditions ty without f)) c x → IsLawful (path_subject ty without f) c x
    lawful_paths c x h = lawful _ _ agrees c (λ set u never. tt) x h
