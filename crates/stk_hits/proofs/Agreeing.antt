-- Findings that are lawful for one subject are so for another that has the same maps, order, runs and conditions.
use Rattle.std.proofs.Common.{◌≡◌, Bool, true, false, List, [], ℤ, sym, subst}
use Rattle.stk_numbers.specs.declared.conditions.Candidate.{Candidate}
use Rattle.stk_numbers.specs.declared.conditions.Condition.{Condition}
use Rattle.stk_meaning.specs.declared.finding.Finding.{Finding}
use Rattle.stk_meaning.specs.declared.finding.Finding.TheVariants.{Clear, Unstable, Undecided}
use Rattle.stk_meaning.specs.declared.finding.Need.{Need}
use Rattle.stk_meaning.specs.declared.finding.Phase.{Phase}
use Rattle.stk_meaning.specs.declared.finding.Phase.TheVariants.{Free, Hit}
use Rattle.stk_meaning.specs.Hits.{HitsFree}
use Rattle.stk_meaning.specs.Findings.{Subject, members, Answers, NoAnswer, IsFirstAnswer, IsPrintedOf, IsGivenUp, IsUnstable, IsMinimal, no_more, member, open_member, no_member, IsLawfulPhase, IsLawful}

-- the first subject agrees with the second
pub record Agrees (q p : Subject) : Type 0 where
  pub maps : (xs : List ℤ) → q.IsMap xs → p.IsMap xs
  pub back : (xs : List ℤ) → p.IsMap xs → q.IsMap xs
  pub before : (xs ys : List ℤ) → q.IsMap ys → p.IsMap xs → p.Before xs ys → q.Before xs ys
  pub run : (xs : List ℤ) → q.IsMap xs → q.run xs ≡ p.run xs
  pub conditions : q.conditions ≡ p.conditions
  pub all : q.tries_all ≡ p.tries_all
  pub spent : (c : Candidate) (set : List Condition) → q.Spent c set → p.Spent c set

module _ (q p : Subject) (h : Agrees q p) (c : Candidate) where
  answers : (set : List Condition) (start : List ℤ) → Answers q c set start → Answers p c set start
  answers set start a = record { valid = h.maps start a.valid; hits = subst (λ t. HitsFree set c t) (h.run start a.valid) a.hits }

  answers_back : (set : List Condition) (start : List ℤ) → Answers p c set start → Answers q c set start
  answers_back set start a =
      let valid = h.back start a.valid in
      record { valid = valid; hits = subst (λ t. HitsFree set c t) (sym (h.run start valid)) a.hits }

  none : (set : List Condition) → NoAnswer q c set → NoAnswer p c set
  none set never start a = never start (answers_back set start a)

  none_back : (set : List Condition) → NoAnswer p c set → NoAnswer q c set
  none_back set never start a = never start (answers set start a)

  first : (set : List Condition) (start : List ℤ) → IsFirstAnswer q c set start → IsFirstAnswer p c set start
  first set start a = record {
    answers = answers set start a.answers;
    first = λ other before found. a.first other (h.before other start a.answers.valid found.valid before) (answers_back set other found);
  }

  printed : (b : Bool) (set : List Condition) (start : List ℤ) → IsPrintedOf q c b set start → IsPrintedOf p c b set start
  printed true set start a = first set start a
  printed false set start a = answers set start a

  printed_by : (set : List Condition) (start : List ℤ) → IsPrintedOf q c q.tries_all set start → IsPrintedOf p c p.tries_all set start
  printed_by set start a = printed p.tries_all set start (subst (λ b. IsPrintedOf q c b set start) h.all a)

  given_up : (set : List Condition) → IsGivenUp q c set → IsGivenUp p c set
  given_up set g = record { wide = subst (λ b. b ≡ false) h.all g.wide; spent = h.spent c set g.spent }

  unstable : IsUnstable q c → IsUnstable p c
  unstable u = record { start = u.start; hit = answers [] u.start u.hit; none_free = subst (λ set. NoAnswer p c set) h.conditions (none q.conditions u.none_free) }

  unstable_back : IsUnstable p c → IsUnstable q c
  unstable_back u = record { start = u.start; hit = answers_back [] u.start u.hit; none_free = subst (λ set. NoAnswer q c set) (sym h.conditions) (none_back p.conditions u.none_free) }

  minimal : {below rest : List Condition} {needs : List Need} → IsMinimal q c below rest needs → IsMinimal p c below rest needs
  minimal no_more = no_more
  minimal (member m start) = member (minimal m) (printed_by _ _ start)
  minimal (open_member m g) = open_member (minimal m) (given_up _ g)
  minimal (no_member m never) = no_member (minimal m) (none _ never)

  phase : (x : Phase) → IsLawfulPhase q c x → IsLawfulPhase p c x
  phase Free g = subst (λ set. IsGivenUp p c set) h.conditions (given_up q.conditions g)
  phase Hit g = record { none_free = subst (λ set. NoAnswer p c set) h.conditions (none q.conditions g.none_free); given_up = given_up [] g.given_up }

  -- what suffices in path runs must suffice for the second subject
  pub lawful : ((set : List Condition) → IsUnstable p c → NoAnswer p c set → p.Suffices c set) → (x : Finding) → IsLawful q c x → IsLawful p c x
  lawful suffices Clear l = λ u. l (unstable_back u)
  lawful suffices (Unstable start needs) l =
      let never = none (members needs) l.path_sufficient in
      let u = unstable l.unstable in
      record {
        unstable = u;
        hit = printed_by [] start.numbers l.hit;
        minimal = subst (λ set. IsMinimal p c [] set needs) h.conditions (minimal l.minimal);
        path_sufficient = never;
        sufficient = suffices (members needs) u never;
      }
  lawful suffices (Undecided x) l = phase x l
