-- What a declarator of file scope declares, and how it agrees with earlier declarations of its name (C11 6.7, 6.2.7,
-- 6.9).
use Rattle.std.specs.Prelude.{ℕ, Bool, true, false, not, ◌&&◌, ◌||◌, if◌then◌else◌, List, [], ◌∷◌, Option, Some, None}
use Rattle.stk_ctype.specs.declared.symbol.Symbol.{Symbol}
use Rattle.stk_ctype.specs.declared.symbol.Symbol.TheVariants as symbol
use Rattle.stk_ctype.specs.declared.symbol.NameEntry.{NameEntry}
use Rattle.stk_ctype.specs.declared.symbol.NameEntry.TheVariants as entry
use Rattle.stk_ctype.specs.Types.{TypeTree, void_type, integer_type, pointer_type, array_type, struct_type, function_type, SignatureTree, signature, type_of, signature_of}
use Rattle.stk_ctype.specs.Structs.{Structs}
use Rattle.stk_tree.specs.declared.declaration.Storage.{Storage}
use Rattle.stk_tree.specs.declared.declaration.Storage.TheVariants as storage
use Rattle.stk_tree.specs.Syntax.{MaybeInitTree}
use Rattle.stk_tree.specs.Syntax as s
use Rattle.stk_type_rules.specs.Facts.{Ruled, Breaks, Fits, declares}
use Rattle.stk_type_rules.specs.Types.{is_complete, is_void}
use Rattle.stk_typing.specs.declared.arrays.Size.{Size}
use Rattle.stk_typing.specs.Arrays.{is_open}
use Rattle.stk_typing.specs.Fitting.{fits}
use Rattle.stk_declarators.specs.Functions.{function_of}
use Rattle.stk_declarators.specs.Tails.{TailShape, of_arrays, of_function}
use Rattle.stk_declare.specs.declared.symbols.SymbolSort.{SymbolSort}
use Rattle.stk_declare.specs.declared.symbols.SymbolSort.TheVariants as sort
use Rattle.stk_compatible.specs.declared.agreement.Agreement.{Agreement}
use Rattle.stk_compatible.specs.declared.agreement.Agreement.TheVariants.{Differ, Old, New}
use Rattle.stk_compatible.specs.Agreeing.{agree}
use Rattle.stk_compatible.specs.Making.{made, made_signature}

-- an object, or a function where a typedef names the type of one
abbrev pub sort_by_type : TypeTree → SymbolSort
sort_by_type void_type = sort.Object
sort_by_type (integer_type k) = sort.Object
sort_by_type (pointer_type t) = sort.Object
sort_by_type (array_type t count) = sort.Object
sort_by_type (struct_type id) = sort.Object
sort_by_type (function_type f) = sort.Function

-- what follows the name decides, or the type alone where nothing does
abbrev pub sort_by_tail : TailShape → TypeTree → SymbolSort
sort_by_tail (of_function ps more) t = sort.Function
sort_by_tail (of_arrays (size ∷ sizes)) t = sort.Object
sort_by_tail (of_arrays []) t = sort_by_type t

abbrev pub sort_of : Option Storage → TailShape → TypeTree → SymbolSort
sort_of None tail t = sort_by_tail tail t
sort_of (Some storage.Typedef) tail t = sort.TypeName
sort_of (Some storage.Extern) tail t = sort_by_tail tail t
sort_of (Some storage.Static) tail t = sort_by_tail tail t

-- whether a name stands for something of another sort, or for what can't be declared twice
abbrev pub clashes : Option Symbol → SymbolSort → Bool
clashes None what = false
clashes (Some (symbol.TypeDef t)) what = true
clashes (Some (symbol.Enumerator v)) what = true
clashes (Some (symbol.Object t)) sort.TypeName = true
clashes (Some (symbol.Object t)) sort.Object = false
clashes (Some (symbol.Object t)) sort.Function = true
clashes (Some (symbol.Function f)) sort.TypeName = true
clashes (Some (symbol.Function f)) sort.Object = true
clashes (Some (symbol.Function f)) sort.Function = false

-- how a type agrees with what an earlier declaration says
abbrev pub agreement : Option Symbol → TypeTree → Agreement
agreement None t = New
agreement (Some (symbol.TypeDef u)) t = Differ
agreement (Some (symbol.Object u)) t = agree (type_of u) t
agreement (Some (symbol.Function f)) t = agree (function_type (signature_of f)) t
agreement (Some (symbol.Enumerator v)) t = Differ

-- an array of unknown size
abbrev pub is_open_array : TypeTree → Bool
is_open_array (array_type t None) = true
is_open_array t = false

-- whether an object has an initialiser
abbrev pub is_begun : MaybeInitTree → Bool
is_begun s.no_initialiser = false
is_begun (s.some_initialiser i) = true

-- whether an object may be incomplete: an `extern` one without an initialiser
abbrev pub may_lack_size : Option Storage → Bool → Bool
may_lack_size None begun = false
may_lack_size (Some storage.Typedef) begun = false
may_lack_size (Some storage.Extern) begun = not begun
may_lack_size (Some storage.Static) begun = false

-- an object has a complete type, but for an `extern` one without an initialiser, whose type may be an array of unknown
-- size or an incomplete struct
abbrev pub may_be_object : Structs → Option Storage → Bool → TypeTree → Bool
may_be_object structs word begun t = if may_lack_size word begun then not (is_void t) else is_complete structs t

-- a typedef name stands for no array of unknown size
abbrev pub may_be : Structs → Option Storage → SymbolSort → Bool → TypeTree → Bool
may_be structs word sort.TypeName begun t = not (is_open_array t)
may_be structs word sort.Object begun t = may_be_object structs word begun t
may_be structs word sort.Function begun t = true

-- an object may have an initialiser that fits its type
abbrev pub may_begin : SymbolSort → TypeTree → MaybeInitTree → Bool
may_begin what t s.no_initialiser = true
may_begin sort.TypeName t (s.some_initialiser i) = false
may_begin sort.Object t (s.some_initialiser i) = fits t i
may_begin sort.Function t (s.some_initialiser i) = false

-- a declarator that declares this type, by how it agrees with earlier declarations
abbrev pub agreed_rule : Structs → Option Storage → SymbolSort → MaybeInitTree → TypeTree → Agreement → Ruled
agreed_rule structs word what i t Differ = Breaks 3
agreed_rule structs word what i t Old = if may_be structs word what (is_begun i) t then (if may_begin what t i then Fits (declares t) else Breaks 16) else Breaks 4
agreed_rule structs word what i t New = if may_be structs word what (is_begun i) t then (if may_begin what t i then Fits (declares t) else Breaks 16) else Breaks 4

-- the same of what its parts make
abbrev pub made_rule : Structs → Option Storage → SymbolSort → Option Symbol → MaybeInitTree → Ruled → Ruled
made_rule structs word what earlier i (Breaks r) = Breaks r
made_rule structs word what earlier i (Fits x) = agreed_rule structs word what i x.ty (agreement earlier x.ty)

-- a declarator, whose name means this before it
abbrev pub declarator_rule : Structs → Option Storage → SymbolSort → Option Symbol → MaybeInitTree → Ruled → Ruled
declarator_rule structs word what earlier i made = if clashes earlier what then Breaks 3 else made_rule structs word what earlier i made

-- the outermost array part has no size, and no initialiser counts one
abbrev pub is_unsized : Option ℕ → List Size → Bool
is_unsized (Some n) sizes = false
is_unsized None [] = false
is_unsized None (size ∷ sizes) = is_open size

-- a declarator behind this storage word, with an initialiser or without, lacks a size, by what follows its name and how
-- many elements its initialiser counts
abbrev pub lacks_size : Option Storage → Bool → TailShape → Option ℕ → Bool
lacks_size word begun (of_arrays sizes) count = is_unsized count sizes && not (may_lack_size word begun)
lacks_size word begun (of_function ps more) count = false

-- a size that is missing refuses a declarator before what is wrong with its other parts, by the lower rule
abbrev pub size_first : Bool → Ruled → Ruled
size_first lacking (Breaks r) = Breaks (if lacking then 4 else r)
size_first lacking (Fits x) = Fits x

-- whether types differ
abbrev pub is_differ : Agreement → Bool
is_differ Differ = true
is_differ Old = false
is_differ New = false

-- a function's declarator says another type than an earlier declaration, whatever else is wrong with it
abbrev pub says_otherwise : Option Symbol → TailShape → TypeTree → Bool
says_otherwise earlier (of_arrays sizes) t = false
says_otherwise earlier (of_function ps more) t = is_differ (agreement earlier (function_of t ps more))

-- that refuses it before what is wrong with its parts, by the lower rule
abbrev pub agreement_first : Bool → Ruled → Ruled
agreement_first differs (Breaks r) = Breaks (if differs then 3 else r)
agreement_first differs (Fits x) = Fits x

-- ---- the entry that it adds
-- whether a function was marked as not returning
abbrev pub was_marked : Option Symbol → Bool
was_marked None = false
was_marked (Some (symbol.TypeDef t)) = false
was_marked (Some (symbol.Object t)) = false
was_marked (Some (symbol.Function f)) = f.no_return
was_marked (Some (symbol.Enumerator v)) = false

-- a signature with this mark
abbrev pub marked : Bool → SignatureTree → SignatureTree
marked mark (signature r ps more x) = signature r ps more mark

-- the signature of a function's type
abbrev pub signature_in : TypeTree → Option SignatureTree
signature_in void_type = None
signature_in (integer_type k) = None
signature_in (pointer_type t) = None
signature_in (array_type t count) = None
signature_in (struct_type id) = None
signature_in (function_type f) = Some f

-- the meaning of a function's name, by the signature of its type
abbrev pub function_meaning : Bool → TypeTree → Option SignatureTree → Symbol
function_meaning mark t None = symbol.Object (made t)
function_meaning mark t (Some f) = symbol.Function (made_signature (marked mark f))

-- the meaning of a name of this sort and type
abbrev pub meaning : SymbolSort → Bool → TypeTree → Symbol
meaning sort.TypeName mark t = symbol.TypeDef (made t)
meaning sort.Object mark t = symbol.Object (made t)
meaning sort.Function mark t = function_meaning mark t (signature_in t)

-- the type that holds: the earlier one, or this one
abbrev pub holding : Option Symbol → TypeTree → Agreement → TypeTree
holding earlier t New = t
holding earlier t Differ = t
holding None t Old = t
holding (Some (symbol.TypeDef u)) t Old = t
holding (Some (symbol.Object u)) t Old = type_of u
holding (Some (symbol.Function f)) t Old = function_type (signature_of f)
holding (Some (symbol.Enumerator v)) t Old = t

-- whether a declaration says something new: its type, or a mark
abbrev pub says_more : Bool → Bool → Agreement → Bool
says_more was now Differ = true
says_more was now New = true
says_more was now Old = now && not was

-- the entries that a declarator adds: its name with the type that holds, where it says something new
abbrev pub added : List ℕ → SymbolSort → Bool → Option Symbol → TypeTree → List NameEntry
added name what mark earlier t =
    if says_more (was_marked earlier) mark (agreement earlier t)
    then entry.Symbol name (meaning what (mark || was_marked earlier) (holding earlier t (agreement earlier t))) ∷ [] else []
