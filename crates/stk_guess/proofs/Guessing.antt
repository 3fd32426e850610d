-- What is guessed from known starts, and when it is right.
use Rattle.std.proofs.Common.{◌≡◌, Bool, true, false, List, [], ◌∷◌, ◌++◌, ℤ, length, slice_get, Some, refl, sym, ◌∙◌, subst, append_assoc}
use Rattle.std.specs.Prelude.{not, ◌&&◌, ◌||◌}
use Rattle.std.proofs.lemmas.Bool.{true≢false}
use Rattle.std.proofs.lemmas.List.Folds.{list_any-append}
use Rattle.stk_numbers.specs.declared.conditions.Candidate.{Candidate}
use Rattle.stk_numbers.specs.declared.conditions.Condition.{Condition}
use Rattle.stk_numbers.specs.declared.conditions.Inputs.{Inputs}
use Rattle.stk_meaning.specs.declared.entry.Entry.{Entry}
use Rattle.stk_meaning.specs.declared.entry.Entry.TheVariants.{Ub, Enter, Seen}
use Rattle.stk_meaning.specs.Hits.{same_condition, has, breaks, free_of, HitsFree}
use Rattle.stk_meaning.specs.declared.finding.Need.{Need}
use Rattle.stk_meaning.specs.Findings.{Subject, members, Answers, NoAnswer, IsPrintedOf, IsPrinted, IsMinimal, no_more, member, open_member, no_member, IsUnstable, IsLawfulReport}
use Rattle.stk_guess.specs.Known.{AreIncluded, AreMaps, IsGuess, known_subject}
use Rattle.stk_guess.specs.Laws.{IsRight, IsProgress}

-- inclusion
has_append : (xs ys : List Condition) (k : Condition) → has (xs ++ ys) k ≡ (has xs k || has ys k)
has_append xs ys k = list_any-append (λ j. same_condition j k) xs ys

or_split : (a b c d : Bool) → (a ≡ true → c ≡ true) → (b ≡ true → d ≡ true) → a || b ≡ true → c || d ≡ true
or_split true b true d f g e = refl
or_split true b false d f g e = absurd (true≢false (sym (f refl)))
or_split false b true d f g e = refl
or_split false b false d f g e = g e

or_behind : (a b : Bool) → b ≡ true → a || b ≡ true
or_behind true b e = refl
or_behind false b e = e

pub included_same : (xs : List Condition) → AreIncluded xs xs
included_same xs = record { by = λ k e. e }

pub included_behind : (below xs ys : List Condition) → AreIncluded xs ys → AreIncluded (below ++ xs) (below ++ ys)
included_behind below xs ys i = record {
  by = λ k e. has_append below ys k ∙ or_split (has below k) (has xs k) (has below k) (has ys k) (λ h. h) (i.by k) (sym (has_append below xs k) ∙ e);
}

pub included_more : (k : Condition) (xs ys : List Condition) → AreIncluded xs ys → AreIncluded xs (k ∷ ys)
included_more k xs ys i = record { by = λ j e. or_behind (same_condition k j) (has ys j) (i.by j e) }

pub included_cons : (k : Condition) (xs ys : List Condition) → AreIncluded xs ys → AreIncluded (k ∷ xs) (k ∷ ys)
included_cons k xs ys i = included_behind (k ∷ []) xs ys i

pub nothing_included : (xs : List Condition) → AreIncluded [] xs
nothing_included xs = record { by = λ k e. absurd (true≢false (sym e)) }

-- what is free of a larger set is free of a smaller one
not_broken : (a b : Bool) → (a ≡ true → b ≡ true) → not b ≡ true → not a ≡ true
not_broken true b f e = absurd (true≢false (sym (subst (λ x. not x ≡ true) (f refl) e)))
not_broken false b f e = refl

pub and_split : (a b : Bool) → a && b ≡ true → (a ≡ true) × (b ≡ true)
and_split true true e = (refl, refl)
and_split true false e = absurd cc
and_split false b e = absurd cc

pub and_join : (a b : Bool) → a ≡ true → b ≡ true → a && b ≡ true
and_join true true p q = refl
and_join true false p q = q
and_join false b p q = p

breaks_more : (small large : List Condition) → AreIncluded small large → (e : Entry) → breaks small e ≡ true → breaks large e ≡ true
breaks_more small large i (Ub k) h = i.by k h
breaks_more small large i (Enter n) h = h
breaks_more small large i (Seen n truth other) h = h

free_less : (small large : List Condition) → AreIncluded small large → (entries : List Entry) → free_of large entries ≡ true → free_of small entries ≡ true
free_less small large i [] h = refl
free_less small large i (e ∷ t) h =
    let both = and_split (not (breaks large e)) (free_of large t) h in
    and_join (not (breaks small e)) (free_of small t) (not_broken (breaks small e) (breaks large e) (breaks_more small large i e) both.0) (free_less small large i t both.1)

pub hit_less : (small large : List Condition) (c : Candidate) (trace : List Entry) → AreIncluded small large → HitsFree large c trace → HitsFree small c trace
hit_less small large c trace i h = record { before = h.before; entry = h.entry; behind = h.behind; is = h.is; hit = h.hit; free = free_less small large i h.before h.free }

pub answer_less : (q : Subject) (c : Candidate) (small large : List Condition) (start : List ℤ) → AreIncluded small large → Answers q c large start → Answers q c small start
answer_less q c small large start i a = record { valid = a.valid; hits = hit_less small large c (q.run start) i a.hits }

pub none_more : (q : Subject) (c : Candidate) (small large : List Condition) → AreIncluded small large → NoAnswer q c small → NoAnswer q c large
none_more q c small large i none start a = none start (answer_less q c small large start i a)

-- the members of a minimal set are among the conditions
pub members_among : (q : Subject) (c : Candidate) (below rest : List Condition) (needs : List Need) → IsMinimal q c below rest needs → AreIncluded (members needs) rest
members_among q c below [] [] no_more = nothing_included []
members_among q c below [] (n ∷ ns) x = elim x [ ]
members_among q c below (k ∷ rest) needs (member {start = start} {needs = behind} m p) = included_cons k (members behind) rest (members_among q c (below ++ k ∷ []) rest behind m)
members_among q c below (k ∷ rest) needs (open_member {needs = behind} m g) = included_cons k (members behind) rest (members_among q c (below ++ k ∷ []) rest behind m)
members_among q c below (k ∷ rest) needs (no_member m none) = included_more k (members needs) rest (members_among q c (below ++ k ∷ []) rest needs m)

module _ (q : Subject) (starts : List Inputs) (c : Candidate) (maps : AreMaps q starts) (wide : q.tries_all ≡ false) where
  -- what a known start answers, it answers
  pub from_known : (set : List Condition) (start : List ℤ) → Answers (known_subject q starts) c set start → Answers q c set start
  from_known set start a = record { valid = maps.by start a.valid; hits = a.hits }

  printed : (set : List Condition) (start : List ℤ) → Answers q c set start → IsPrinted q c set start
  printed set start a = subst (λ b. IsPrintedOf q c b set start) (sym wide) a

  regroup : (below : List Condition) (k : Condition) (behind : List Condition) → NoAnswer q c (below ++ k ∷ behind) → NoAnswer q c ((below ++ k ∷ []) ++ behind)
  regroup below k behind none = subst (λ (u : List Condition). NoAnswer q c u) (sym (append_assoc below (k ∷ []) behind)) none

  -- deletion over the known starts is deletion over all maps, where no map answers the query for what is left
  right : (below rest : List Condition) (needs : List Need) → NoAnswer q c (below ++ members needs) → IsMinimal (known_subject q starts) c below rest needs → IsMinimal q c below rest needs
  right below [] [] none no_more = no_more
  right below [] (n ∷ ns) none x = elim x [ ]
  right below (k ∷ rest) needs none (member {start = start} {needs = behind} m p) =
      member (right (below ++ k ∷ []) rest behind (regroup below k (members behind) none) m) (printed (below ++ members behind) start (from_known (below ++ members behind) start p.answers))
  right below (k ∷ rest) needs none (open_member m g) = absurd (true≢false g.wide)
  right below (k ∷ rest) needs none (no_member m known_none) =
      no_member
      (right (below ++ k ∷ []) rest needs
      (regroup below k (members needs) (none_more q c (below ++ members needs) (below ++ k ∷ members needs) (included_behind below (members needs) (k ∷ members needs) (included_more k (members needs) (members needs) (included_same (members needs)))) none)) m)
      none

  pub guess_right : (needs : List Need) → IsGuess q starts c needs → NoAnswer q c (members needs) → IsRight q c needs
  guess_right needs g none = record {
    minimal = right [] q.conditions needs none g.minimal;
    sufficient = none;
    none_free = none_more q c (members needs) q.conditions (members_among (known_subject q starts) c [] q.conditions needs g.minimal) none;
  }

pub lawful : (q : Subject) (c : Candidate) (needs : List Need) (start : List ℤ) → q.tries_all ≡ false → (NoAnswer q c (members needs) → q.Suffices c (members needs)) → IsRight q c needs → Answers q c [] start → IsLawfulReport q c start needs
lawful q c needs start wide suffices r hit = record {
  unstable = record { start = start; hit = hit; none_free = r.none_free };
  hit = subst (λ b. IsPrintedOf q c b [] start) (sym wide) hit;
  minimal = r.minimal;
  path_sufficient = r.sufficient;
  sufficient = suffices r.sufficient;
}

pub dead : (q : Subject) (c : Candidate) (needs : List Need) → needs ≡ [] → NoAnswer q c (members needs) → IsUnstable q c → ⊥
dead q c needs is none u = subst (λ (n : List Need). NoAnswer q c (members n)) is none u.start u.hit

-- the last of a list stands behind the others
last_at : (starts : List Inputs) (start : Inputs) → slice_get (starts ++ start ∷ []) (length starts) ≡ Some start
last_at [] start = refl
last_at (s ∷ ss) start = last_at ss start

pub progress : (q : Subject) (starts : List Inputs) (c : Candidate) (needs : List Need) (start : Inputs) → IsGuess q starts c needs → Answers q c (members needs) start.numbers → IsProgress q starts c needs start
progress q starts c needs start g a = record {
  new = λ known. g.apart start.numbers (record { valid = known; hits = a.hits });
  other = λ later h same.
      h.apart start.numbers (record {
        valid = record { place = length starts; at = record { start = start; is = last_at starts start; same = refl } };
        hits = subst (λ (u : List Condition). HitsFree u c (q.run start.numbers)) (sym same) a.hits;
      });
}
