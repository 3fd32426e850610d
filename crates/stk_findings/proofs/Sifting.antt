-- Who tells findings of a function of at most 16 input bits: by queries what is clear, and by all its maps the rest.
use Rattle.std.proofs.Common.{◌≡◌, ℕ, ◌≤◌, None, Some, List, Result, Ok, Err, sym, subst, arith}
use Rattle.std.specs.Prelude.{OnOk}
use Rattle.stk_tree.specs.Syntax.{FunctionTree}
use Rattle.stk_numbers.specs.declared.conditions.Candidate.{Candidate}
use Rattle.stk_numbers.specs.declared.conditions.Kinds.{Kinds}
use Rattle.stk_meaning.specs.Typings.{Typing}
use Rattle.stk_meaning.specs.Keys.{input_bits}
use Rattle.stk_meaning.specs.declared.finding.Finding.{Finding}
use Rattle.stk_meaning.specs.declared.finding.Finding.TheVariants.{Clear}
use Rattle.stk_meaning.specs.Findings.{IsLawful}
use Rattle.stk_judge.specs.declared.tried.TriedMaps.{TriedMaps}
use Rattle.stk_spent_queries.specs.Spent.{spent_at}
use Rattle.stk_spent_queries.specs.Marks.{marks, AreCounted}
use Rattle.stk_spent_queries.proofs.Counting.{counted_none}
use Rattle.stk_wide_judge.specs.Wide.{wide_subject}
use Rattle.stk_findings.specs.declared.judge.SearchedFunction.{SearchedFunction}
use Rattle.stk_findings.specs.declared.queries.Queries.{Queries}
use Rattle.stk_findings.specs.Searched.{searched_subject}
use Rattle.stk_findings.specs.Telling.{CanAsk, CanTellByMaps, CanSift}

-- before any map is run
pub sifts_none : (q : Queries) (s : SearchedFunction) → input_bits s.tables.now.places.keys ≤ 16 → CanAsk q s → CanSift (record { queries = q; maps = None }) s
sifts_none q s few asks = record { few = few; asks = asks; tried = λ maps e. absurd (cc) }

-- once all have been run
pub sifts_all : (q : Queries) (m : TriedMaps) (s : SearchedFunction) → input_bits s.tables.now.places.keys ≤ 16 → CanAsk q s → CanTellByMaps m s → CanSift (record { queries = q; maps = Some m }) s
sifts_all q m s few asks tells = record {
  few = few;
  asks = asks;
  tried = λ maps e. (let same : m ≡ maps = cc in subst (λ (x : TriedMaps). CanTellByMaps x s) same tells);
}

-- a candidate that isn't unstable is clear, whether or not all maps are tried
pub clear_finding : (ty : Typing) (without : Kinds) (f : FunctionTree) (budget : ℕ) (c : Candidate) → IsLawful (wide_subject ty without f (spent_at ty without f budget)) c Clear → IsLawful (searched_subject ty without f budget) c Clear
clear_finding ty without f budget c h u = h (record {
  start = u.start;
  hit = record { valid = u.hit.valid; hits = u.hit.hits };
  none_free = λ start k. u.none_free start (record { valid = k.valid; hits = k.hits });
})

-- a finding without a mark is counted by any count that hasn't fallen
pub counted_unmarked : (before now : ℕ) → before ≤ now → (x : Finding) → marks x ≡ 0 → AreCounted before now (marks x)
counted_unmarked before now up x e = subst (AreCounted before now) (sym e) (counted_none before now up)

-- what is known whatever comes is known after it
pub ready_still : {T E : Type 0} (r : Result T E) (P : Type 0) → P → OnOk r P
ready_still (Ok x) P h = h
ready_still (Err e) P h = tt
