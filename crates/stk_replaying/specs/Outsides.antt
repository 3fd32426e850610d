-- The outside of an execution in the code.
use Rattle.std.specs.Prelude.{◌≡◌, List, [], ◌∷◌, Option, Some, None, ℤ}
use Rattle.stk_meaning.specs.Memory.{Write, put_all}
use Rattle.stk_meaning.specs.Executions.{Answer, Outside}
use Rattle.stk_memory.specs.declared.image.Reply.{Reply}
use Rattle.stk_memory.specs.Image.{memory_of, writes_of}
use Rattle.stk_replaying.specs.declared.outside.OutsideLeft.{OutsideLeft}

-- the answers of the outside
abbrev pub answer_of : Reply → Answer
answer_of x = record { number = x.number; writes = writes_of x.writes }

abbrev pub answers_of : List Reply → List Answer
answers_of [] = []
answers_of (x ∷ xs) = answer_of x ∷ answers_of xs

-- what the code's outside is
abbrev pub outside_of : OutsideLeft → Outside
outside_of k = record { memory = memory_of k.memory; answers = answers_of k.replies.now }

-- the next answer is taken with its writes, or there is none
abbrev pub Takes : Option ℤ → Outside → Outside → Type 0
Takes None before after = before.answers ≡ []
Takes (Some z) before after = (writes : List Write) × (rest : List Answer) × (before.answers ≡ record { number = z; writes = writes } ∷ rest) × (after ≡ record { memory = put_all writes before.memory; answers = rest })

-- the same without its writes
abbrev pub TakesNumber : Option ℤ → Outside → Outside → Type 0
TakesNumber None before after = before.answers ≡ []
TakesNumber (Some z) before after = (writes : List Write) × (rest : List Answer) × (before.answers ≡ record { number = z; writes = writes } ∷ rest) × (after ≡ record { memory = before.memory; answers = rest })
