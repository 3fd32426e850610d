-- What a setting of the code shows: the registers of a function, its first mentions of objects of file scope, and its
-- kept objects.
use Rattle.std.specs.Prelude.{ℕ, List, [], ◌∷◌, ◌++◌}
use Rattle.stk_base.specs.Text.{text_of}
use Rattle.stk_numbers.specs.declared.conditions.Kinds.{Kinds}
use Rattle.stk_meaning.specs.Places as places
use Rattle.stk_meaning.specs.Keys.{KeyInfo}
use Rattle.stk_function_types.specs.Units.{TypedUnit}
use Rattle.stk_function_types.specs.Nodes.{typing_in}
use Rattle.stk_function_env.specs.declared.mentions.Mention.{Mention}

-- The types of a function; the kinds of conditions that are taken out; the declarators of its registers, in order; its
-- mentions of objects of file scope, in order; its kept objects, each by the node of its address, in order; and its
-- keys, in order.
pub record FunctionPlaces : Type 0 where
  pub types : TypedUnit
  pub without : Kinds
  pub registers : List ℕ
  pub mentions : List places.Mention
  pub kept : List ℕ
  pub keys : List KeyInfo

-- what the runs of the function rest on
abbrev pub setting_in : FunctionPlaces → places.Setting
setting_in p = record { typing = typing_in p.types; without = p.without; registers = p.registers; mentions = p.mentions; kept = p.kept }

-- a mention of a name of the input
abbrev pub mention_in : List ℕ → Mention → places.Mention
mention_in bytes m = record { name = text_of bytes m.name; node = m.node }

-- the names of mentions with their nodes, the last one first
abbrev pub words_behind : List places.Mention → List (List ℕ × ℕ)
words_behind [] = []
words_behind (m ∷ ms) = words_behind ms ++ (m.name, m.node) ∷ []
