-- What was answered later is right of what was asked before.
use Rattle.std.proofs.Common.{◌≡◌, ℕ, ◌≤◌, List, [], ◌++◌, Result, Ok, Err, IfOk, ℤ, refl, sym, ◌∙◌, subst, arith}
use Rattle.stk_numbers.specs.declared.conditions.Candidate.{Candidate}
use Rattle.stk_numbers.specs.declared.conditions.Condition.{Condition}
use Rattle.stk_numbers.specs.declared.conditions.Inputs.{Inputs}
use Rattle.stk_meaning.specs.declared.finding.Finding.{Finding}
use Rattle.stk_meaning.specs.declared.finding.Need.{Need}
use Rattle.stk_meaning.specs.Findings.{members, Answers, NoAnswer, IsMinimal, no_more, member, open_member, no_member, IsLawful}
use Rattle.stk_guess.specs.Needed.{IsNeededSet}
use Rattle.stk_hits.proofs.Agreeing.{Agrees, lawful}
use Rattle.stk_wide_judge.specs.declared.asking.QueryAnswer.{QueryAnswer}
use Rattle.stk_wide_judge.specs.declared.asking.QueryAnswer.TheVariants.{Start, Never, GivenUp}
use Rattle.stk_wide_judge.specs.Wide.{AskedFunction, asked_subject, never_spent}
use Rattle.stk_wide_judge.specs.Answers.{IsAnswer, HasValidStart, IsLater}

pub later_same : (a : AskedFunction) (spent : Candidate → List Condition → Type 0) (n : ℕ) → IsLater a a spent spent n n
later_same a spent n = record { about = refl; spent = λ c set h. h; counted = omega arith }

pub later_more : (a b d : AskedFunction) (first second third : Candidate → List Condition → Type 0) (l m n : ℕ) → IsLater a b first second l m → IsLater b d second third m n → IsLater a d first third l n
later_more a b d first second third l m n x y = record {
  about = y.about ∙ x.about;
  spent = λ c set h. x.spent c set (y.spent c set h);
  counted = (let p = x.counted in let q = y.counted in omega arith);
}

-- that no map answers doesn't depend on what is spent
pub none_for : (a : AskedFunction) (was is : Candidate → List Condition → Type 0) (c : Candidate) (set : List Condition) → NoAnswer (asked_subject a is) c set → NoAnswer (asked_subject a was) c set
none_for a was is c set none start x = none start (record { valid = x.valid; hits = x.hits })

pub answer_earlier : (a : AskedFunction) (was is : Candidate → List Condition → Type 0) (c : Candidate) (set : List Condition) (x : QueryAnswer) → ((c : Candidate) (set : List Condition) → is c set → was c set) → IsAnswer (asked_subject a is) c set x → IsAnswer (asked_subject a was) c set x
answer_earlier a was is c set (Start start) earlier h = record { valid = h.valid; hits = h.hits }
answer_earlier a was is c set Never earlier h = none_for a was is c set h
answer_earlier a was is c set GivenUp earlier h = earlier c set h

-- an answer to who is asked of this function
pub answer_about : (a b : AskedFunction) (spent : Candidate → List Condition → Type 0) (c : Candidate) (set : List Condition) (x : QueryAnswer) → b ≡ a → IsAnswer (asked_subject b spent) c set x → IsAnswer (asked_subject a spent) c set x
answer_about a b spent c set x e h = subst (λ (u : AskedFunction). IsAnswer (asked_subject u spent) c set x) e h

pub valid_start : (a : AskedFunction) (spent : Candidate → List Condition → Type 0) (c : Candidate) (set : List Condition) (x : QueryAnswer) → IsAnswer (asked_subject a spent) c set x → HasValidStart a x
valid_start a spent c set (Start start) h = h.valid
valid_start a spent c set Never h = tt
valid_start a spent c set GivenUp h = tt

pub lawful_earlier : (a : AskedFunction) (was is : Candidate → List Condition → Type 0) (c : Candidate) (x : Finding) → ((c : Candidate) (set : List Condition) → is c set → was c set) → IsLawful (asked_subject a is) c x → IsLawful (asked_subject a was) c x
lawful_earlier a was is c x earlier l = lawful (asked_subject a is) (asked_subject a was) agrees c (λ set u none. tt) x l
  where
    agrees : Agrees (asked_subject a is) (asked_subject a was)
    agrees = record {
      maps = λ xs h. h;
      back = λ xs h. h;
      before = λ xs ys q p b. b;
      run = λ xs h. refl;
      conditions = refl;
      all = refl;
      spent = earlier;
    }

-- a finding without a query that was given up
pub lawful_decided : (a : AskedFunction) (spent : Candidate → List Condition → Type 0) (c : Candidate) (x : Finding) → IsLawful (asked_subject a never_spent) c x → IsLawful (asked_subject a spent) c x
lawful_decided a spent c x l = lawful_earlier a spent never_spent c x (λ c set h. absurd h) l

-- that nobody answers a query says who is asked of this function
pub none_about : (a b : AskedFunction) (spent : Candidate → List Condition → Type 0) (c : Candidate) (set seen : List Condition) (x : QueryAnswer) → b ≡ a → seen ≡ set → x ≡ Never → IsAnswer (asked_subject b spent) c seen x → NoAnswer (asked_subject a never_spent) c set
none_about a b spent c set seen x e same is h =
    let never : IsAnswer (asked_subject a spent) c seen Never = subst (λ (u : QueryAnswer). IsAnswer (asked_subject a spent) c seen u) is (answer_about a b spent c seen x e h) in
    subst (λ (u : List Condition). NoAnswer (asked_subject a never_spent) c u) same (none_for a never_spent spent c seen never)

-- a start is an answer
pub started : (a : AskedFunction) (spent : Candidate → List Condition → Type 0) (c : Candidate) (set : List Condition) (x : QueryAnswer) (start : Inputs) → x ≡ Start start → IsAnswer (asked_subject a spent) c set x → Answers (asked_subject a spent) c set start.numbers
started a spent c set x start is h = subst (λ (u : QueryAnswer). IsAnswer (asked_subject a spent) c set u) is h

minimal_earlier : (a : AskedFunction) (was is : Candidate → List Condition → Type 0) (c : Candidate) → ((c : Candidate) (set : List Condition) → is c set → was c set) → {below rest : List Condition} {needs : List Need} → IsMinimal (asked_subject a is) c below rest needs → IsMinimal (asked_subject a was) c below rest needs
minimal_earlier a was is c earlier no_more = no_more
minimal_earlier a was is c earlier (member m start) = member (minimal_earlier a was is c earlier m) (record { valid = start.valid; hits = start.hits })
minimal_earlier a was is c earlier (open_member {below = below} {needs = needs} m given) = open_member (minimal_earlier a was is c earlier m) (record { wide = refl; spent = earlier c (below ++ members needs) given.spent })
minimal_earlier a was is c earlier (no_member m none) = no_member (minimal_earlier a was is c earlier m) (none_for a was is c _ none)

pub needed_earlier : (a : AskedFunction) (was is : Candidate → List Condition → Type 0) (c : Candidate) (all : List Condition) (needs : List Need) → ((c : Candidate) (set : List Condition) → is c set → was c set) → IsNeededSet (asked_subject a is) c all needs → IsNeededSet (asked_subject a was) c all needs
needed_earlier a was is c all needs earlier set = record { minimal = minimal_earlier a was is c earlier set.minimal; sufficient = none_for a was is c (members needs) set.sufficient }

pub lawful_result : {E : Type 0} (a : AskedFunction) (was is : Candidate → List Condition → Type 0) (c : Candidate) (result : Result Finding E) → ((c : Candidate) (set : List Condition) → is c set → was c set) → IfOk result (IsLawful (asked_subject a is) c) → IfOk result (IsLawful (asked_subject a was) c)
lawful_result a was is c (Ok x) earlier h = lawful_earlier a was is c x earlier h
lawful_result a was is c (Err e) earlier h = h
