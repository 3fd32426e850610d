-- How many elements an initialiser gives an array of unknown size (C11 6.7.9p22), where this profile counts them:
-- string literals; braces without designators whose items are all in braces, or none of them, and then the elements are
-- scalars. Items aren't flattened.
use Rattle.std.specs.Prelude.{ℕ, ◌+◌, Bool, true, false, not, ◌&&◌, ◌||◌, if◌then◌else◌, List, length, map, Option, Some, None}
use Rattle.std.specs.Option.{option_map}
use Rattle.stk_base.specs.Text.{text_of}
use Rattle.stk_tree.specs.Syntax.{ExprTree, ExprFormTree, InitTree, MaybeInitTree, ItemTree, ItemTrees, DesigTrees}
use Rattle.stk_tree.specs.Syntax as s
use Rattle.stk_numbers.specs.Strings.{string_bytes}

-- string literals: their bytes and a zero
abbrev pub form_count : List ℕ → ExprFormTree → Option ℕ
form_count bytes (s.text parts) = option_map (λ ns. length ns + 1) (string_bytes (map (text_of bytes) parts))
form_count bytes other = None

abbrev pub expression_count : List ℕ → ExprTree → Option ℕ
expression_count bytes (s.expression n f) = form_count bytes f

-- whether an initialiser stands in braces
abbrev pub is_braced : InitTree → Bool
is_braced (s.plain e) = false
is_braced (s.braces is comma) = true

-- whether there are designators
abbrev pub designates : DesigTrees → Bool
designates s.no_designators = false
designates (s.then_designator d ds) = true

-- whether an item has no designators, and stands in braces or doesn't
abbrev pub is_like : Bool → ItemTree → Bool
is_like true (s.item ds i) = not (designates ds) && is_braced i
is_like false (s.item ds i) = not (designates ds) && not (is_braced i)

-- whether all items do
abbrev pub are_like : Bool → ItemTrees → Bool
are_like braced s.no_items = true
are_like braced (s.then_item i is) = is_like braced i && are_like braced is

abbrev pub item_count : ItemTrees → ℕ
item_count s.no_items = 0
item_count (s.then_item i is) = item_count is + 1

-- items in braces, for elements that are scalars or not
abbrev pub items_count : Bool → ItemTrees → Option ℕ
items_count scalar is = if are_like true is || (scalar && are_like false is) then Some (item_count is) else None

-- the number of elements that an initialiser gives
abbrev pub initial_count : List ℕ → Bool → InitTree → Option ℕ
initial_count bytes scalar (s.plain e) = expression_count bytes e
initial_count bytes scalar (s.braces is comma) = items_count scalar is

-- none where there is no initialiser
abbrev pub given_count : List ℕ → Bool → MaybeInitTree → Option ℕ
given_count bytes scalar s.no_initialiser = None
given_count bytes scalar (s.some_initialiser i) = initial_count bytes scalar i
