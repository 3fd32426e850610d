-- What a unit declares (C11 6.7, 6.9): the entries in force behind it, or the first node that a rule refuses.
use Rattle.std.specs.Prelude.{ℕ, Bool, true, false, List, [], ◌++◌, Option, Some, None}
use Rattle.stk_base.specs.declared.span.Span.{Span}
use Rattle.stk_base.specs.Text.{text_of}
use Rattle.stk_ctype.specs.declared.symbol.Symbol.{Symbol}
use Rattle.stk_ctype.specs.declared.symbol.NameEntry.{NameEntry}
use Rattle.stk_ctype.specs.Types.{TypeTree}
use Rattle.stk_ctype.specs.Structs.{structs_of}
use Rattle.stk_ctype.specs.Names.{find}
use Rattle.stk_tree.specs.declared.declaration.Storage.{Storage}
use Rattle.stk_tree.specs.declared.declaration.Storage.TheVariants as storage
use Rattle.stk_tree.specs.Syntax.{BaseTree, DeclrTree, DeclrTrees, DeclarationTree, FunctionTree, UnitTree, MaybeInitTree}
use Rattle.stk_tree.specs.Syntax as s
use Rattle.stk_type_rules.specs.Facts.{Ruled, Breaks, Fits, plain}
use Rattle.stk_type_rules.specs.Outcome.{Outcome, Good, and_then, finish}
use Rattle.stk_typing.specs.Arrays.{starred}
use Rattle.stk_typing.specs.Typing.{base_typed}
use Rattle.stk_declarators.specs.Uses.{base_uses, declarator_uses}
use Rattle.stk_declarators.specs.Counting.{given_count}
use Rattle.stk_declarators.specs.Tails.{TailShape, of_arrays, of_function, tail_typed, tail_type, are_scalars}
use Rattle.stk_declare.specs.Tags.{at_file, behind_uses}
use Rattle.stk_declare.specs.Symbols.{sort_of, agreement_first, declarator_rule, added, is_begun, lacks_size, says_otherwise, size_first}
use Rattle.stk_declare.specs.Structs.{base_declared}

-- the name of a declarator
abbrev pub declared_name : List ℕ → Option Span → List ℕ
declared_name bytes None = []
declared_name bytes (Some at) = text_of bytes at

-- how many elements an initialiser counts for what follows the name
abbrev pub count_for : List ℕ → TailShape → TypeTree → MaybeInitTree → Option ℕ
count_for bytes (of_arrays sizes) t i = given_count bytes (are_scalars sizes t) i
count_for bytes (of_function ps more) t i = None

-- what the parts of a declarator make, whose name means this before it: the type that it declares, or the rule that
-- refuses them
abbrev pub made_for : List ℕ → List NameEntry → Option Symbol → Bool → Option Storage → TypeTree → MaybeInitTree → TailShape → Ruled
made_for bytes es earlier defines word whole init shape =
    agreement_first (says_otherwise earlier shape whole) (size_first (lacks_size word (is_begun init) shape (count_for bytes shape whole init)) (tail_type (structs_of es) defines (count_for bytes shape whole init) whole shape))

-- a declarator, of a function definition or not, in a unit that is marked as not returning or isn't, under a base with
-- a storage word that names a type. Its initialiser isn't typed.
abbrev pub declarator_declared : List ℕ → Bool → Bool → Option Storage → List NameEntry → TypeTree → DeclrTree → Outcome (List NameEntry)
declarator_declared bytes mark defines word es t (s.declarator k count at tail init) =
    let name = declared_name bytes at in
    let whole = starred count t in
    and_then (tail_typed (at_file bytes es) defines tail) (λ shape.
    and_then (finish k.number (declarator_rule (structs_of es) word (sort_of word shape whole) (find name es) init (made_for bytes es (find name es) defines word whole init shape))) (λ x.
    Good (es ++ added name (sort_of word shape whole) mark (find name es) x.ty) []))

-- declarators, each with those before it in force
abbrev pub declarators_declared : List ℕ → Bool → Option Storage → List NameEntry → TypeTree → DeclrTrees → Outcome (List NameEntry)
declarators_declared bytes mark word es t s.no_declarators = Good es []
declarators_declared bytes mark word es t (s.then_declarator d ds) =
    and_then (declarator_declared bytes mark false word (behind_uses bytes es (declarator_uses d)) t d) (λ now. declarators_declared bytes mark word now t ds)

abbrev pub declaration_declared : List ℕ → Bool → List NameEntry → DeclarationTree → Outcome (List NameEntry)
declaration_declared bytes mark es (s.declaration word b ds) = and_then (base_declared bytes es b) (λ x. declarators_declared bytes mark word x.entries x.ty ds)

-- the storage word of a function definition
abbrev pub definition_rule : Option Storage → Ruled
definition_rule None = Fits plain
definition_rule (Some storage.Typedef) = Breaks 15
definition_rule (Some storage.Extern) = Fits plain
definition_rule (Some storage.Static) = Fits plain

-- the storage word that its declarator goes by
abbrev pub definition_word : Option Storage → Option Storage
definition_word None = None
definition_word (Some storage.Typedef) = None
definition_word (Some storage.Extern) = Some storage.Extern
definition_word (Some storage.Static) = Some storage.Static

-- the head of a function definition, whose unit has this number, with the struct tags in force that it uses
abbrev pub head_declared : List ℕ → Bool → ℕ → List NameEntry → Option Storage → BaseTree → DeclrTree → Outcome (List NameEntry)
head_declared bytes mark n es word b d =
    and_then (base_typed (at_file bytes es) b) (λ x.
    and_then (declarator_declared bytes mark true (definition_word word) es x.ty d) (λ now.
    and_then (finish n (definition_rule word)) (λ y. Good now [])))

abbrev pub definition_declared : List ℕ → Bool → ℕ → List NameEntry → FunctionTree → Outcome (List NameEntry)
definition_declared bytes mark n es (s.function word b d body) =
    head_declared bytes mark n (behind_uses bytes es (base_uses b ++ declarator_uses d)) word b d

-- the entries in force behind a unit that is marked as not returning or isn't
abbrev pub unit_declared : List ℕ → Bool → List NameEntry → UnitTree → Outcome (List NameEntry)
unit_declared bytes mark es (s.empty_unit n) = Good es []
unit_declared bytes mark es (s.declares n d) = declaration_declared bytes mark es d
unit_declared bytes mark es (s.defines n f) = definition_declared bytes mark n.number es f
