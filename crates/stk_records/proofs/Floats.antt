-- No line has a number with a fraction.
use Rattle.std.proofs.Common.{◌≡◌, ℕ, ℤ, pos, negsuc, Bool, true, false, List, [], ◌∷◌, ◌++◌, map, Option, Some, None, refl, codes}
use Rattle.std.specs.Prelude.{◌||◌, if◌then◌else◌}
use Rattle.serde_json.specs.Data.{Data, null, string, number, no_members, member}
use Rattle.serde_json.specs.Find.{of_integer}
use Rattle.serde_json.specs.View.{items_of}
use Rattle.serde_json.specs.Written.{has_float, items_have_float, members_have_float}
use Rattle.stk_numbers.specs.declared.conditions.UbKind.{UbKind}
use Rattle.stk_numbers.specs.declared.conditions.Kinds.{Kinds}
use Rattle.stk_numbers.specs.Taken.{is_taken}
use Rattle.stk_records.specs.Kinds.{kind_name}
use Rattle.stk_records.specs.declared.line.Claim.{Claim}
use Rattle.stk_records.specs.declared.line.Claim.TheVariants.{NeverEntered, AlwaysTrue, AlwaysFalse, SameAs}
use Rattle.stk_records.specs.declared.line.Input.{Input}
use Rattle.stk_records.specs.declared.line.StartInputs.{StartInputs}
use Rattle.stk_records.specs.declared.line.Needed.{Needed}
use Rattle.stk_records.specs.declared.line.Cause.TheVariants.{NoTree, Rule, Nodes, Weight}
use Rattle.stk_records.specs.declared.line.Line.{Line}
use Rattle.stk_records.specs.declared.line.Line.TheVariants.{Unstable, Undecided, Skipped, Summary}
use Rattle.stk_records.specs.Json.{fits_word, number_data, input_data, start_data, without_data, needed_data, with_replacement, taken_words, all_kinds, line_data}

either : (a b : Bool) → a ≡ false → b ≡ false → (a || b) ≡ false
either a b p q = rw (p, q) refl

integer_none : (z : ℤ) → has_float (number (of_integer z)) ≡ false
integer_none (pos n) = refl
integer_none (negsuc n) = refl

number_none : (z : ℤ) → has_float (number_data z) ≡ false
number_none z = on (fits_word z) where
  on : (b : Bool) → has_float (if b then number (of_integer z) else null) ≡ false
  on true = integer_none z
  on false = refl

inputs_none : (xs : List Input) → items_have_float (items_of (map input_data xs)) ≡ false
inputs_none [] = refl
inputs_none (x ∷ xs) = either _ _ (either _ _ (number_none x.number) refl) (inputs_none xs)

start_none : (s : StartInputs) → has_float (start_data s) ≡ false
start_none s = inputs_none s.inputs

without_none : (o : Option StartInputs) → has_float (without_data o) ≡ false
without_none None = refl
without_none (Some s) = start_none s

needs_none : (ns : List Needed) → items_have_float (items_of (map needed_data ns)) ≡ false
needs_none [] = refl
needs_none (n ∷ ns) = either _ _ (either _ _ (without_none n.without) refl) (needs_none ns)

tail_none : (c : Claim) (what : List ℕ) → members_have_float (with_replacement c (member (codes "type") (string what) no_members)) ≡ false
tail_none NeverEntered what = refl
tail_none AlwaysTrue what = refl
tail_none AlwaysFalse what = refl
tail_none (SameAs text) what = refl

words_by : (b : Bool) (k : UbKind) (ds : List Data) → items_have_float (items_of ds) ≡ false → items_have_float (items_of ((if b then string (kind_name k) ∷ [] else []) ++ ds)) ≡ false
words_by true k ds h = h
words_by false k ds h = h

words_none : (ks : Kinds) (list : List UbKind) → items_have_float (items_of (taken_words ks list)) ≡ false
words_none ks [] = refl
words_none ks (k ∷ list) = words_by (is_taken ks k) k (taken_words ks list) (words_none ks list)

pub no_float : (line : Line) → has_float (line_data line) ≡ false
no_float (Unstable x hit needs) = either _ _ (start_none hit) (either _ _ (needs_none needs) (tail_none x.claim _))
no_float (Undecided x phase) = tail_none x.claim _
no_float (Skipped at NoTree) = refl
no_float (Skipped at (Rule rule place)) = refl
no_float (Skipped at (Nodes count)) = refl
no_float (Skipped at (Weight sum)) = refl
no_float (Summary counts without) = either _ _ (words_none without all_kinds) refl
