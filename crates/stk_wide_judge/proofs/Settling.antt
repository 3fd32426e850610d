-- What follows from a guess, and from the answers to queries.
use Rattle.std.proofs.Common.{◌≡◌, ℕ, ◌+◌, ◌≤◌, true, false, List, [], ◌∷◌, ◌++◌, reverse, ℤ, Option, Some, None, is_some, refl, sym, ap, ◌∙◌, subst, arith}
use Rattle.std.proofs.lemmas.Bool.{true≢false}
use Rattle.stk_numbers.specs.declared.conditions.Candidate.{Candidate}
use Rattle.stk_numbers.specs.declared.conditions.Condition.{Condition}
use Rattle.stk_numbers.specs.declared.conditions.Inputs.{Inputs}
use Rattle.stk_meaning.specs.declared.finding.Need.{Need}
use Rattle.stk_meaning.specs.declared.finding.Finding.TheVariants.{Clear, Unstable}
use Rattle.stk_meaning.specs.Lists.{conditions}
use Rattle.stk_meaning.specs.Findings.{Subject, members, Answers, NoAnswer, IsFirstAnswer, IsMinimal, no_more, member, open_member, no_member, IsGivenUp, IsUndecidedHit, IsUnstable, IsLawfulReport}
use Rattle.stk_hits.specs.Tables.{Table}
use Rattle.stk_guess.specs.Needed.{IsNeededSet}
use Rattle.stk_guess.proofs.Deletion.{IsNeededBehind, all_asked}
use Rattle.stk_guess.specs.Known.{AreMaps, IsGuess, known_subject}
use Rattle.stk_guess.proofs.Guessing.{answer_less, nothing_included, guess_right, lawful, dead, from_known}
use Rattle.stk_wide_judge.specs.declared.asking.QueryAnswer.{QueryAnswer}
use Rattle.stk_wide_judge.specs.declared.asking.QueryAnswer.TheVariants.{Start, GivenUp}
use Rattle.stk_wide_judge.specs.Answers.{IsAnswer}
use Rattle.stk_wide_judge.specs.Wide.{AskedFunction, asked_subject, never_spent}
use Rattle.stk_spent_queries.specs.Marks.{open_count}
use Rattle.stk_wide_judge.specs.Starts.{AreKnown, known_of, KnownAnswer}
use Rattle.stk_wide_judge.specs.Rounds.{IsDecided}

module _ (a : AskedFunction) (starts : List Inputs) (c : Candidate) where
  abbrev q : Subject
  q = asked_subject a never_spent

  are_maps : (t : Table) → AreKnown a starts t → AreMaps q starts
  are_maps t k = record { by = k.maps }

  -- a set that is guessed has no open member
  none_open : (below rest : List Condition) (needs : List Need) → IsMinimal (known_of a starts) c below rest needs → open_count needs ≡ 0
  none_open below [] [] no_more = refl
  none_open below [] (n ∷ ns) x = elim x [ ]
  none_open below (k ∷ rest) needs (member {start = start} {needs = behind} m p) = let e = none_open (below ++ k ∷ []) rest behind m in omega (arith, e)
  none_open below (k ∷ rest) needs (open_member m g) = absurd (true≢false g.wide)
  none_open below (k ∷ rest) needs (no_member m none) = none_open (below ++ k ∷ []) rest needs m

  -- and where no known start hits the candidate, none at all
  none_needed : (below rest : List Condition) (needs : List Need) → NoAnswer (known_of a starts) c [] → IsMinimal (known_of a starts) c below rest needs → needs ≡ []
  none_needed below [] [] nothing no_more = refl
  none_needed below [] (n ∷ ns) nothing x = elim x [ ]
  none_needed below (k ∷ rest) needs nothing (member {start = start} {needs = behind} m p) = absurd (nothing start (answer_less (known_of a starts) c [] (below ++ members behind) start (nothing_included (below ++ members behind)) p.answers))
  none_needed below (k ∷ rest) needs nothing (open_member m g) = absurd (true≢false g.wide)
  none_needed below (k ∷ rest) needs nothing (no_member m none) = none_needed (below ++ k ∷ []) rest needs nothing m

  pub settled_dead : (needs : List Need) → IsGuess q starts c needs → NoAnswer q c (members needs) → (found : Option Inputs) → found ≡ None → KnownAnswer a starts c [] found → IsDecided a c Clear
  settled_dead needs g none found is h =
      let nothing : NoAnswer (known_of a starts) c [] = subst (λ (o : Option Inputs). KnownAnswer a starts c [] o) is h in
      record { lawful = dead q c needs (none_needed [] q.conditions needs nothing g.minimal) none; decided = refl }

  pub settled_hit : (needs : List Need) (start : Inputs) (t : Table) → AreKnown a starts t → IsGuess q starts c needs → NoAnswer q c (members needs) → (found : Option Inputs) → found ≡ Some start → KnownAnswer a starts c [] found → IsDecided a c (Unstable start needs)
  settled_hit needs start t k g none found is h =
      let first : IsFirstAnswer (known_of a starts) c [] start.numbers = subst (λ (o : Option Inputs). KnownAnswer a starts c [] o) is h in
      let maps = are_maps t k in
      record {
        lawful = lawful q c needs start.numbers refl (λ h. tt) (guess_right q starts c maps refl needs g none) (from_known q starts c maps refl [] start.numbers first.answers);
        decided = none_open [] q.conditions needs g.minimal;
      }

  -- a known start that is free of all conditions
  pub settled_free : (t : Table) (all : List Condition) → all ≡ conditions a.typing a.without a.tree → AreKnown a starts t → (found : Option Inputs) → is_some found ≡ true → KnownAnswer a starts c all found → IsDecided a c Clear
  settled_free t all same k None some h = absurd (true≢false (sym some))
  settled_free t all same k (Some start) some h =
      let first : IsFirstAnswer (known_of a starts) c q.conditions start.numbers = subst (λ (u : List Condition). IsFirstAnswer (known_of a starts) c u start.numbers) same h in
      record { lawful = λ u. u.none_free start.numbers (from_known q starts c (are_maps t k) refl q.conditions start.numbers first.answers); decided = refl }

  pub none_free : (set : List Condition) (found : Option Inputs) → is_some found ≡ false → KnownAnswer a starts c set found → NoAnswer (known_of a starts) c set
  none_free set None some h = h
  none_free set (Some start) some h = absurd (true≢false some)

  -- an answer of the known starts is one of all maps
  pub known_answer : (spent : Candidate → List Condition → Type 0) (t : Table) (set : List Condition) (found : Option Inputs) (start : Inputs) → AreKnown a starts t → found ≡ Some start → KnownAnswer a starts c set found → Answers (asked_subject a spent) c set start.numbers
  known_answer spent t set found start k is h =
      let first : IsFirstAnswer (known_of a starts) c set start.numbers = subst (λ (o : Option Inputs). KnownAnswer a starts c set o) is h in
      record { valid = k.maps start.numbers first.answers.valid; hits = first.answers.hits }

module _ (a : AskedFunction) (spent : Candidate → List Condition → Type 0) (c : Candidate) where
  -- the report by the queries of the definition
  pub reported : (all : List Condition) (start : Inputs) (needs : List Need) → all ≡ conditions a.typing a.without a.tree → NoAnswer (asked_subject a spent) c all → Answers (asked_subject a spent) c [] start.numbers → IsNeededSet (asked_subject a spent) c all needs → IsLawfulReport (asked_subject a spent) c start.numbers needs
  reported all start needs same none hit set = record {
    unstable = record { start = start.numbers; hit = hit; none_free = subst (λ (u : List Condition). NoAnswer (asked_subject a spent) c u) same none };
    hit = hit;
    minimal = subst (λ (u : List Condition). IsMinimal (asked_subject a spent) c [] u needs) same set.minimal;
    path_sufficient = set.sufficient;
    sufficient = tt;
  }

-- the set of a deletion over the known starts is the guessed one
pub guessed : (a : AskedFunction) (starts : List Inputs) (c : Candidate) (all : List Condition) (i : ℕ) (needs now : List Need) → all ≡ conditions a.typing a.without a.tree → i ≤ 0 → IsNeededBehind (known_of a starts) c all i needs → now ≡ reverse needs → IsGuess (asked_subject a never_spent) starts c now
guessed a starts c all i needs now same none n is =
    let set : IsNeededSet (known_of a starts) c all now = subst (λ (u : List Need). IsNeededSet (known_of a starts) c all u) (sym is) (all_asked (known_of a starts) c all i needs none n) in
    record {
      minimal = subst (λ (u : List Condition). IsMinimal (known_of a starts) c [] u now) same set.minimal;
      apart = set.sufficient;
    }

module _ (a : AskedFunction) (spent : Candidate → List Condition → Type 0) (c : Candidate) where
  -- a start that is free of all conditions makes the candidate clear
  pub clear_free : (all : List Condition) (x : QueryAnswer) (start : Inputs) → all ≡ conditions a.typing a.without a.tree → x ≡ Start start → IsAnswer (asked_subject a spent) c all x → IsUnstable (asked_subject a spent) c → ⊥
  clear_free all x start same is h u =
      let answer : Answers (asked_subject a spent) c all start.numbers = subst (λ (y : QueryAnswer). IsAnswer (asked_subject a spent) c all y) is h in
      u.none_free start.numbers (subst (λ (set : List Condition). Answers (asked_subject a spent) c set start.numbers) same answer)

  -- the query that is free of all conditions was given up
  pub undecided_free : (all : List Condition) (x : QueryAnswer) → all ≡ conditions a.typing a.without a.tree → x ≡ GivenUp → IsAnswer (asked_subject a spent) c all x → IsGivenUp (asked_subject a spent) c (conditions a.typing a.without a.tree)
  undecided_free all x same is h = record {
    wide = refl;
    spent = subst (λ (set : List Condition). spent c set) same (subst (λ (y : QueryAnswer). IsAnswer (asked_subject a spent) c all y) is h);
  }

  -- no start is free of all conditions, and the query for any start was given up
  pub undecided_hit : (all : List Condition) (x : QueryAnswer) → all ≡ conditions a.typing a.without a.tree → NoAnswer (asked_subject a spent) c all → x ≡ GivenUp → IsAnswer (asked_subject a spent) c [] x → IsUndecidedHit (asked_subject a spent) c
  undecided_hit all x same none is h = record {
    none_free = subst (λ (set : List Condition). NoAnswer (asked_subject a spent) c set) same none;
    given_up = record {
      wide = refl;
      spent = subst (λ (y : QueryAnswer). IsAnswer (asked_subject a spent) c [] y) is h;
    };
  }
