-- Known starts and their runs: a start answers a query exactly where the run at its place does.
use Rattle.std.proofs.Common.{◌≡◌, ℕ, zero, suc, ◌+◌, ◌<◌, ◌≤◌, ◌⊎◌, inl, inr, List, [], ◌∷◌, ◌++◌, ℤ, map, length, slice_get, Option, Some, None, refl, sym, ap, ◌∙◌, subst, arith}
use Rattle.std.specs.Prelude.{option_map, MatchOption}
use Rattle.std.proofs.lemmas.Option.{none-some, slice_get-map}
use Rattle.std.proofs.lemmas.List.{map-append, length-map, length-append}
use Rattle.stk_numbers.specs.declared.conditions.Candidate.{Candidate}
use Rattle.stk_numbers.specs.declared.conditions.Condition.{Condition}
use Rattle.stk_numbers.specs.declared.conditions.Inputs.{Inputs}
use Rattle.stk_meaning.specs.declared.entry.Entry.{Entry}
use Rattle.stk_meaning.specs.Maps.{IsValid}
use Rattle.stk_meaning.specs.Paths.{path}
use Rattle.stk_meaning.specs.Hits.{HitsFree}
use Rattle.stk_meaning.specs.Findings.{Subject, Answers, NoAnswer, IsFirstAnswer}
use Rattle.stk_hits.specs.Queries.{IsFree, NoneIsFree, IsFirstFree}
use Rattle.stk_hits.specs.Tables.{Table, Describes}
use Rattle.stk_hits.proofs.Numbers.{some_one}
use Rattle.stk_guess.specs.Known.{IsAt, IsKnown, IsKnownBelow, known_subject, runs_of}
use Rattle.stk_wide_judge.specs.Wide.{AskedFunction}
use Rattle.stk_wide_judge.specs.Starts.{AreKnown, known_of}

-- the answer of a table and the first known start that it means
abbrev pub TableAnswer : List (Option (List Entry)) → Candidate → List Condition → Option ℕ → Type 0
TableAnswer runs c set found = MatchOption found (NoneIsFree runs c set) (IsFirstFree runs c set)

abbrev pub run_of : AskedFunction → List ℤ → List Entry
run_of a = path a.typing a.without a.tree

pub run_at : (run : List ℤ → List Entry) (starts : List Inputs) (n : ℕ) (s : Inputs) → slice_get starts n ≡ Some s → slice_get (runs_of run starts) n ≡ Some (Some (run s.numbers))
run_at run starts n s e = slice_get-map (λ (s : Inputs). Some (run s.numbers)) starts n ∙ ap (option_map (λ (s : Inputs). Some (run s.numbers))) e

-- the start of a run
pub record HasStart (run : List ℤ → List Entry) (starts : List Inputs) (n : ℕ) (trace : List Entry) : Type 0 where
  pub start : Inputs
  pub is : slice_get starts n ≡ Some start
  pub same : run start.numbers ≡ trace

pub start_at : (run : List ℤ → List Entry) (starts : List Inputs) (n : ℕ) (trace : List Entry) → slice_get (runs_of run starts) n ≡ Some (Some trace) → HasStart run starts n trace
start_at run [] n trace e = absurd (none-some _ e)
start_at run (s ∷ ss) zero trace e = record { start = s; is = refl; same = some_one (some_one e) }
start_at run (s ∷ ss) (suc n) trace e = let h = start_at run ss n trace e in record { start = h.start; is = h.is; same = h.same }

module _ (a : AskedFunction) (starts : List Inputs) (c : Candidate) (set : List Condition) where
  free_at : (n : ℕ) (numbers : List ℤ) → IsAt starts n numbers → HitsFree set c (run_of a numbers) → IsFree (runs_of (run_of a) starts) c set n
  free_at n numbers at hits = record {
    trace = run_of a at.start.numbers;
    is = run_at (run_of a) starts n at.start at.is;
    hits = subst (λ (xs : List ℤ). HitsFree set c (run_of a xs)) (sym at.same) hits;
  }

  pub none_known : NoneIsFree (runs_of (run_of a) starts) c set → NoAnswer (known_of a starts) c set
  none_known none start x = none x.valid.place (free_at x.valid.place start x.valid.at x.hits)

  pub first_known : (n : ℕ) (s : Inputs) (numbers : List ℤ) → slice_get starts n ≡ Some s → numbers ≡ s.numbers → IsFirstFree (runs_of (run_of a) starts) c set n → IsFirstAnswer (known_of a starts) c set numbers
  first_known n s numbers is same f =
      let here : IsAt starts n numbers = record { start = s; is = is; same = sym same } in
      let trace : f.free.trace ≡ run_of a s.numbers = some_one (some_one (sym f.free.is ∙ run_at (run_of a) starts n s is)) in
      record {
        answers = record {
          valid = record { place = n; at = here };
          hits = subst (λ (t : List Entry). HitsFree set c t) (trace ∙ sym (ap (run_of a) same)) f.free.hits;
        };
        first = λ other before x. let b = before n here in f.first b.place b.below (free_at b.place other b.at x.hits);
      }

  pub no_first : (found : Option ℕ) → found ≡ None → TableAnswer (runs_of (run_of a) starts) c set found → NoAnswer (known_of a starts) c set
  no_first found is m = none_known (subst (λ (o : Option ℕ). TableAnswer (runs_of (run_of a) starts) c set o) is m)

  pub no_start : (found : Option ℕ) (n : ℕ) → found ≡ Some n → slice_get starts n ≡ None → TableAnswer (runs_of (run_of a) starts) c set found → ⊥
  no_start found n is none m =
      let f : IsFirstFree (runs_of (run_of a) starts) c set n = subst (λ (o : Option ℕ). TableAnswer (runs_of (run_of a) starts) c set o) is m in
      let h = start_at (run_of a) starts n f.free.trace f.free.is in
      none-some _ (sym none ∙ h.is)

  pub a_first : (found : Option ℕ) (n : ℕ) (s : Inputs) (numbers : List ℤ) → found ≡ Some n → slice_get starts n ≡ Some s → numbers ≡ s.numbers → TableAnswer (runs_of (run_of a) starts) c set found → IsFirstAnswer (known_of a starts) c set numbers
  a_first found n s numbers is at same m = first_known n s numbers at same (subst (λ (o : Option ℕ). TableAnswer (runs_of (run_of a) starts) c set o) is m)

-- a start at a place of a list with one more is one of the others or that one
known_either : (starts : List Inputs) (s : Inputs) (n : ℕ) (x : Inputs) → slice_get (starts ++ s ∷ []) n ≡ Some x → (slice_get starts n ≡ Some x) ⊎ (s ≡ x)
known_either [] s zero x e = inr (some_one e)
known_either [] s (suc n) x e = absurd (none-some _ e)
known_either (y ∷ ys) s zero x e = inl e
known_either (y ∷ ys) s (suc n) x e = known_either ys s n x e

-- one start more
pub joined : (a : AskedFunction) (starts later : List Inputs) (old new : Table) (start copy : Inputs) (trace : List Entry) → AreKnown a starts old → length starts < 8192 → IsValid a.typing a.without a.tree start.numbers → copy.numbers ≡ start.numbers → later ≡ starts ++ copy ∷ [] → trace ≡ run_of a start.numbers → Describes (runs_of (run_of a) starts ++ Some trace ∷ []) [] new → AreKnown a later new
joined a starts later old new start copy trace known few valid same is traced d =
    let own : IsValid a.typing a.without a.tree copy.numbers = subst (λ (xs : List ℤ). IsValid a.typing a.without a.tree xs) (sym same) valid in
    let run : trace ≡ run_of a copy.numbers = traced ∙ sym (ap (run_of a) same) in
    subst (λ (ss : List Inputs). AreKnown a ss new) (sym is) (record {
      maps = λ numbers k. elim (known_either starts copy k.place k.at.start k.at.is) [
        | inl e ↦ known.maps numbers (record { place = k.place; at = record { start = k.at.start; is = e; same = k.at.same } })
        | inr e ↦ subst (λ (xs : List ℤ). IsValid a.typing a.without a.tree xs) (ap (λ (x : Inputs). x.numbers) e ∙ k.at.same) own
      ];
      described = subst (λ (rs : List (Option (List Entry))). Describes rs [] new) (ap (λ (t : List Entry). runs_of (run_of a) starts ++ Some t ∷ []) run ∙ sym (map-append (λ (s : Inputs). Some (run_of a s.numbers)) starts (copy ∷ []))) d;
      few = (let e : length (starts ++ copy ∷ []) ≡ length starts + 1 = length-append starts (copy ∷ []) in omega (arith, e, few));
    })

pub many_runs : (a : AskedFunction) (starts : List Inputs) → length (runs_of (run_of a) starts) ≡ length starts
many_runs a starts = length-map starts (λ (s : Inputs). Some (run_of a s.numbers))

-- no start is known
pub none_yet : (a : AskedFunction) (starts : List Inputs) (t : Table) → starts ≡ [] → Describes [] [] t → AreKnown a starts t
none_yet a starts t none d = subst (λ (ss : List Inputs). AreKnown a ss t) (sym none) (record {
  maps = λ numbers k. absurd (none-some _ k.at.is);
  described = d;
  few = omega arith;
})
