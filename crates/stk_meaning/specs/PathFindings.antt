-- The findings of a function: by its path runs, for its valid input maps.
use Rattle.std.specs.Prelude.{ℕ, nat_le, List}
use Rattle.stk_tree.specs.Syntax.{FunctionTree}
use Rattle.stk_numbers.specs.declared.conditions.Candidate.{Candidate}
use Rattle.stk_numbers.specs.declared.conditions.Condition.{Condition}
use Rattle.stk_numbers.specs.declared.conditions.Kinds.{Kinds}
use Rattle.stk_meaning.specs.Typings.{Typing}
use Rattle.stk_meaning.specs.Keys.{keys_of, input_bits}
use Rattle.stk_meaning.specs.Lists.{conditions}
use Rattle.stk_meaning.specs.Maps.{IsValid, Precedes}
use Rattle.stk_meaning.specs.Paths.{path}
use Rattle.stk_meaning.specs.Sufficient.{IsSufficient}
use Rattle.stk_meaning.specs.Findings.{Subject}

-- the most input bits of a function whose maps are all tried
abbrev pub most_bits : ℕ
most_bits = 16

-- what the findings of a function speak of, where queries may be given up as `spent` says
abbrev pub function_subject : Typing → Kinds → FunctionTree → (Candidate → List Condition → Type 0) → Subject
function_subject ty without f spent = record {
  IsMap = IsValid ty without f;
  Before = Precedes (keys_of ty without f);
  run = path ty without f;
  conditions = conditions ty without f;
  tries_all = nat_le (input_bits (keys_of ty without f)) most_bits;
  Spent = spent;
  Suffices = λ c set. IsSufficient ty without f c set;
}
