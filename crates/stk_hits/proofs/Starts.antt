-- Input maps and the numbers of their runs: a map answers a query exactly where the run of its number does.
use Rattle.std.proofs.Common.{◌≡◌, ℕ, zero, suc, ◌+◌, ◌*◌, ◌/◌, ◌%◌, ◌^◌, ◌<◌, List, [], ◌∷◌, ℤ, pos, length, slice_get, Option, Some, None, refl, sym, ap, ◌∙◌, subst, arith}
use Rattle.std.proofs.Math.Nat.{mod-lt, div-add-mod, mul_comm}
use Rattle.std.proofs.lemmas.Nat.{pow_pos, pow-add}
use Rattle.std.proofs.lemmas.Option.{none-some}
use Rattle.stk_ctype.specs.declared.kind.IntKind.{IntKind}
use Rattle.stk_numbers.specs.declared.conditions.Candidate.{Candidate}
use Rattle.stk_numbers.specs.declared.conditions.Condition.{Condition}
use Rattle.stk_numbers.specs.Kinds.{width_of, wrap, residue}
use Rattle.stk_meaning.specs.declared.entry.Entry.{Entry}
use Rattle.stk_meaning.specs.Hits.{HitsFree}
use Rattle.stk_meaning.specs.Findings.{Answers, NoAnswer, IsFirstAnswer}
use Rattle.stk_hits.specs.InputMaps.{bits_in, Covers, Precedes, map_at, HasNumber, AreNumbered}
use Rattle.stk_hits.proofs.Numbering.{by_number, residue_wrap, first_below, within}
use Rattle.stk_hits.specs.Queries.{IsFree, NoneIsFree, IsFirstFree}
use Rattle.stk_hits.specs.Subjects.{number_of, trace_at, HasRun, subject_of}

-- the number of a number's map is that number
pub number_back : (ks : List IntKind) (n : ℕ) → n < 2 ^ bits_in ks → number_of ks (map_at ks n) ≡ n
number_back [] n h = omega arith
number_back (k ∷ ks) n h =
    let D = 2 ^ bits_in ks in
    let positive : 0 < D = pow_pos (bits_in ks) in
    let first : residue (width_of k) (wrap k (pos (n / D))) ≡ n / D = residue_wrap k (n / D) (first_below (2 ^ width_of k) D n positive (within (width_of k) (bits_in ks) n h)) in
    let rest : number_of ks (map_at ks (n % D)) ≡ n % D = number_back ks (n % D) (mod-lt n positive) in
    ap (λ q. q * D + number_of ks (map_at ks (n % D))) first ∙ (ap (λ m. n / D * D + m) rest ∙ whole D n)
  where
    whole : (D n : ℕ) → n / D * D + n % D ≡ n
    whole D n = let e : D * (n / D) + n % D ≡ n = div-add-mod n D in let c : n / D * D ≡ D * (n / D) = mul_comm (n / D) D in omega arith

-- a map that covers the keys is that of its number
record IsNumbered (ks : List IntKind) (xs : List ℤ) : Type 0 where
  below : number_of ks xs < 2 ^ bits_in ks
  is : map_at ks (number_of ks xs) ≡ xs

is_numbered : (ks : List IntKind) (xs : List ℤ) → Covers ks xs → IsNumbered ks xs
is_numbered ks xs h =
    let n = (by_number ks).numbered xs h in
    let same : number_of ks xs ≡ n.number = sym (ap (number_of ks) n.is) ∙ number_back ks n.number n.below in
    record { below = subst (λ u. u < 2 ^ bits_in ks) (sym same) n.below; is = ap (map_at ks) same ∙ n.is }

get_below : (runs : List (Option (List Entry))) (n : ℕ) (x : Option (List Entry)) → slice_get runs n ≡ Some x → n < length runs
get_below [] n x h = absurd (none-some _ h)
get_below (r ∷ rs) zero x h = omega arith
get_below (r ∷ rs) (suc n) x h = let b = get_below rs n x h in omega arith

module _ (ks : List IntKind) (runs : List (Option (List Entry))) (all : List Condition) (c : Candidate) (set : List Condition) where
  -- the run of a map that answers is free
  free_of_answer : (start : List ℤ) → Answers (subject_of ks runs all) c set start → IsFree runs c set (number_of ks start)
  free_of_answer start a = record {
    trace = a.valid.1.trace;
    is = a.valid.1.is;
    hits = subst (λ t. HitsFree set c t) (ap trace_at a.valid.1.is) a.hits;
  }

  -- the map of a run that is free answers
  answer_of_free : (n : ℕ) → length runs ≡ 2 ^ bits_in ks → IsFree runs c set n → Answers (subject_of ks runs all) c set (map_at ks n)
  answer_of_free n many f =
      let below : n < 2 ^ bits_in ks = subst (λ u. n < u) many (get_below runs n (Some f.trace) f.is) in
      let back : number_of ks (map_at ks n) ≡ n = number_back ks n below in
      let is : slice_get runs (number_of ks (map_at ks n)) ≡ Some (Some f.trace) = ap (slice_get runs) back ∙ f.is in
      record {
        valid = ((by_number ks).covers n below, record { trace = f.trace; is = is });
        hits = subst (λ t. HitsFree set c t) (sym (ap trace_at is)) f.hits;
      }

  pub no_answer : NoneIsFree runs c set → NoAnswer (subject_of ks runs all) c set
  no_answer none start a = none (number_of ks start) (free_of_answer start a)

  pub first_answer : (n : ℕ) (start : List ℤ) → length runs ≡ 2 ^ bits_in ks → start ≡ map_at ks n → IsFirstFree runs c set n → IsFirstAnswer (subject_of ks runs all) c set start
  first_answer n start many is f = subst (λ xs. IsFirstAnswer (subject_of ks runs all) c set xs) (sym is) (record {
    answers = answer_of_free n many f.free;
    first = λ other before a.
        let own = is_numbered ks other a.valid.0 in
        let below : n < 2 ^ bits_in ks = subst (λ u. n < u) many (get_below runs n (Some f.free.trace) f.free.is) in
        let less : number_of ks other < n = (by_number ks).ordered (number_of ks other) n own.below below (subst (λ xs. Precedes ks xs (map_at ks n)) (sym own.is) before) in
        f.first (number_of ks other) less (free_of_answer other a);
  })
