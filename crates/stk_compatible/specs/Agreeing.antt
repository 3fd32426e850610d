-- What a later declaration makes of the type that an earlier one gave a name (C11 6.2.7p3, 6.7.6.3p15): an array's
-- unknown size and a function's `( )` agree with what says more.
use Rattle.std.specs.Prelude.{ℕ, Bool, true, false, ◌&&◌, ◌==◌, if◌then◌else◌, Option, Some, None}
use Rattle.stk_ctype.specs.Types.{TypeTree, array_type, function_type, SignatureTree, signature, TypeTrees, no_types, then_type}
use Rattle.stk_compatible.specs.declared.agreement.Agreement.{Agreement}
use Rattle.stk_compatible.specs.declared.agreement.Agreement.TheVariants.{Differ, Old, New}
use Rattle.stk_compatible.specs.Same.{same, same_row, same_truth}

-- types that say equally much
abbrev pub by_same : Bool → Agreement
by_same true = Old
by_same false = Differ

-- the sizes of two arrays
abbrev pub agree_count : Option ℕ → Option ℕ → Agreement
agree_count None None = Old
agree_count None (Some n) = New
agree_count (Some m) None = Old
agree_count (Some m) (Some n) = by_same (m == n)

-- `( )`
abbrev pub is_unspecified : TypeTrees → Bool → Bool
is_unspecified no_types more = more
is_unspecified (then_type t ts) more = false

-- the parameters of two functions
abbrev pub agree_parameters : TypeTrees → Bool → TypeTrees → Bool → Agreement
agree_parameters ps more qs others =
    if is_unspecified qs others then Old else (if is_unspecified ps more then New else by_same (same_truth more others && same_row ps qs))

abbrev pub agree_signature : SignatureTree → SignatureTree → Agreement
agree_signature (signature r ps more x) (signature s qs others y) = if same r s then agree_parameters ps more qs others else Differ

-- the earlier type, and the later one
abbrev pub agree : TypeTree → TypeTree → Agreement
agree (array_type t c) (array_type u d) = if same t u then agree_count c d else Differ
agree (function_type f) (function_type g) = agree_signature f g
agree t u = by_same (same t u)
