-- What a record tells of a place in a function: where a node begins, what is claimed of a candidate, and the name of
-- the function.
use Rattle.std.specs.Prelude.{ℕ, List, [], Some, None}
use Rattle.stk_base.specs.Text.{text_of}
use Rattle.stk_tree.specs.Syntax.{DeclrTree, FunctionTree}
use Rattle.stk_tree.specs.Syntax as s
use Rattle.stk_numbers.specs.declared.conditions.CandKind.{CandKind}
use Rattle.stk_numbers.specs.declared.conditions.CandKind.TheVariants.{Arm, AlwaysTrue, AlwaysFalse, Algebra}
use Rattle.stk_meaning.specs.Typings.{Typing}
use Rattle.stk_records.specs.declared.line.Spot.{Spot}
use Rattle.stk_records.specs.declared.line.Claim.{Claim}
use Rattle.stk_records.specs.declared.line.Claim.TheVariants.{NeverEntered, AlwaysTrue as IsAlwaysTrue, AlwaysFalse as IsAlwaysFalse, SameAs}
use Rattle.stk_units.specs.Spots.{spot_at}
use Rattle.stk_spelling.specs.Placed.{Placed, span_at}
use Rattle.stk_spelling.specs.Replaced.{replaced_at}

-- where a node begins
abbrev pub node_spot : Placed → ℕ → Spot
node_spot q k = spot_at q.bytes (span_at q k).from

-- what is claimed of a candidate
abbrev pub claim_by : Typing → FunctionTree → ℕ → CandKind → Claim
claim_by ty f k Arm = NeverEntered
claim_by ty f k AlwaysTrue = IsAlwaysTrue
claim_by ty f k AlwaysFalse = IsAlwaysFalse
claim_by ty f k Algebra = SameAs (replaced_at ty f k)

-- the name of a function
abbrev pub declarator_name : List ℕ → DeclrTree → List ℕ
declarator_name bytes (s.declarator n count (Some at) tail init) = text_of bytes at
declarator_name bytes (s.declarator n count None tail init) = []
