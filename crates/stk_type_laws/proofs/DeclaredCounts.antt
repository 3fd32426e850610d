-- What a unit declares has at most one entry more for each token.
use Rattle.std.proofs.Common.{ℕ, ◌≡◌, ◌≤◌, ◌+◌, suc, Bool, true, false, ◌&&◌, ◌||◌, ◌++◌, [], ◌∷◌, List, length, Option, Some, None, refl, sym, subst, arith, if◌then◌else◌}
use Rattle.std.proofs.lemmas.List.{length-append}
use Rattle.stk_base.specs.declared.span.Span.{Span}
use Rattle.stk_base.specs.Text.{text_of}
use Rattle.stk_ctype.specs.declared.symbol.MemberInfo.{MemberInfo}
use Rattle.stk_ctype.specs.declared.symbol.NameEntry.{NameEntry}
use Rattle.stk_ctype.specs.declared.symbol.Symbol.{Symbol}
use Rattle.stk_ctype.specs.declared.symbol.Tag.{Tag}
use Rattle.stk_ctype.specs.declared.symbol.Tag.TheVariants as tag
use Rattle.stk_ctype.specs.Types.{TypeTree}
use Rattle.stk_ctype.specs.Names.{tag_of, find}
use Rattle.stk_ctype.specs.Structs.{structs_of}
use Rattle.stk_ctype.specs.declared.symbol.NameEntry.TheVariants as entry
use Rattle.stk_tree.specs.declared.declaration.Storage.{Storage}
use Rattle.stk_tree.specs.Syntax.{BaseFormTree, BaseTree, DeclarationTree, DeclrTree, DeclrTrees, EnumrTree, EnumrTrees, FunctionTree, MemberTree, MemberTrees, StmtFormTree, StmtTree, TailTree, UnitTree}
use Rattle.stk_tree.specs.Syntax as s
use Rattle.stk_tree.specs.Tokens.{base_form_tokens, base_tokens, declaration_tokens, declarator_tokens, declarators_tokens, enumerator_tokens, enumerators_tokens, function_tokens, member_tokens, members_tokens, more_declarators, more_enumerators, statement_form_tokens, statement_tokens, tail_tokens, unit_tokens}
use Rattle.stk_type_rules.specs.declared.facts.Constancy.{Constancy}
use Rattle.stk_type_rules.specs.declared.facts.Constancy.TheVariants.{Varies, Violates, Number}
use Rattle.stk_type_rules.specs.Facts.{Fact}
use Rattle.stk_type_rules.specs.Outcome.{Outcome, Good, and_then, finish}
use Rattle.stk_declarators.specs.Parameters.{array_parts}
use Rattle.stk_typing.specs.Bases.{base_rule}
use Rattle.stk_typing.specs.Arrays.{starred}
use Rattle.stk_typing.specs.Typing.{base_typed, expression_typed}
use Rattle.stk_declarators.specs.Tails.{tail_typed}
use Rattle.stk_declarators.specs.declared.uses.TagUse.{TagUse}
use Rattle.stk_declarators.specs.declared.uses.TagUse.TheVariants as used
use Rattle.stk_declarators.specs.Uses.{base_uses, declarator_uses, dimensions_uses, expression_uses, form_uses}
use Rattle.stk_declare.specs.Tags.{at_file, with_struct, past, behind_uses}
use Rattle.stk_declare.specs.Bases.{Based, plain_declared}
use Rattle.stk_declare.specs.Enumerations.{Enumerated, none_enumerated, enumeration_rule, tag_before, with_value, enumerator_declared, enumerators_declared, enumeration_declared, with_enumeration}
use Rattle.stk_declare.specs.Structs.{Membered, Opening, opening, opening_named, member_name, member_typed, with_member, struct_rule, member_declarator, member_declarators, struct_closed, base_declared, form_declared, members_declared, member_declared, ends_members, ends_declarators}
use Rattle.stk_declare.specs.Declaring.{declared_name, made_for, definition_rule, definition_word, head_declared, declarator_declared, declarators_declared, declaration_declared, definition_declared, unit_declared}
use Rattle.stk_declare.specs.declared.symbols.SymbolSort.{SymbolSort}
use Rattle.stk_declare.specs.Symbols.{added, says_more, was_marked, agreement, meaning, holding, sort_of, declarator_rule}
use Rattle.stk_type_laws.proofs.Uses.{form_few, base_few, expression_few, dimensions_few, declarator_few}
use Rattle.stk_type_laws.proofs.Within.{Within, good, then_within, behind_within, wider_to, few_of}
use Rattle.stk_type_laws.specs.Entries.{AddsFewEntries}

-- ---- tags

with_struct_few : (es : List NameEntry) (name : List ℕ) (t : Option Tag) → length (with_struct es name t) ≤ length es + 1
with_struct_few es name None = simp length-append (omega arith)
with_struct_few es name (Some t) = omega arith

past_few : (t : Option Tag) (es rest : List NameEntry) (n : ℕ) → length es ≤ n → length rest ≤ n → length (past t es rest) ≤ n
past_few None es rest n a b = a
past_few (Some t) es rest n a b = b

uses_few : (bytes : List ℕ) (es : List NameEntry) (us : List TagUse) → length (behind_uses bytes es us) ≤ length es + length us
uses_few bytes es [] = omega arith
uses_few bytes es (used.Struct at ∷ us) =
    let now = with_struct es (text_of bytes at) (tag_of (text_of bytes at) es) in
    let first : length now ≤ length es + 1 = with_struct_few es (text_of bytes at) (tag_of (text_of bytes at) es) in
    let more : length (behind_uses bytes now us) ≤ length now + length us = uses_few bytes now us in
    omega arith
uses_few bytes es (used.Enumeration at ∷ us) =
    let more : length (behind_uses bytes es us) ≤ length es + length us = uses_few bytes es us in
    past_few (tag_of (text_of bytes at) es) es (behind_uses bytes es us) (length es + suc (length us)) (omega arith) (omega arith)

-- ---- bases without braces

based : List NameEntry → Fact → Outcome Based
based es x = Good (record { entries = es; ty = x.ty }) []

plain_few : (bytes : List ℕ) (es : List NameEntry) (k : ℕ) (f : BaseFormTree) → Within (λ x. x.entries) (length es + length (base_form_tokens f)) (plain_declared bytes es k f)
unfolding based
plain_few bytes es k f =
    let uses : length (behind_uses bytes es (form_uses f)) ≤ length es + length (form_uses f) = uses_few bytes es (form_uses f) in
    let few = form_few f in
    behind_within (finish k (base_rule bytes (behind_uses bytes es (form_uses f)) f)) (based (behind_uses bytes es (form_uses f))) (λ x. good (omega arith))

-- ---- enumerations

with_value_few : (c : Enumerated) (es : List NameEntry) (name : List ℕ) (v : Constancy) → length (with_value c es name v).entries ≡ length es + 1
with_value_few c es name Varies = length-append es _
with_value_few c es name Violates = length-append es _
with_value_few c es name (Number z) = length-append es _

enumerator_few : (bytes : List ℕ) (c : Enumerated) (e : EnumrTree) → Within (λ x. x.entries) (length c.entries + length (enumerator_tokens e)) (enumerator_declared bytes c e)
enumerator_few bytes c (s.enumerator at s.no_expression) = good (simp length-append (omega arith))
enumerator_few bytes c (s.enumerator at (s.some_expression e)) =
    let now = behind_uses bytes c.entries (expression_uses e) in
    let uses : length now ≤ length c.entries + length (expression_uses e) = uses_few bytes c.entries (expression_uses e) in
    let few = expression_few e in
    behind_within (expression_typed (at_file bytes now) e) (λ x. Good (with_value c now (text_of bytes at) x.constancy) [])
    (λ x. good (let one = with_value_few c now (text_of bytes at) x.constancy in omega arith))

enumerators_few : (bytes : List ℕ) (c : Enumerated) (rs : EnumrTrees) → Within (λ x. x.entries) (length c.entries + length (more_enumerators rs)) (enumerators_declared bytes c rs)
enumerators_few bytes c s.no_enumerators = good (omega arith)
enumerators_few bytes c (s.then_enumerator r rs) =
    let joined = length-append (enumerator_tokens r) (more_enumerators rs) in
    then_within (λ d. enumerators_declared bytes d rs) (enumerator_few bytes c r) (λ d few. wider_to (omega arith) (enumerators_few bytes d rs))

first_enumerators_few : (bytes : List ℕ) (c : Enumerated) (rs : EnumrTrees) → Within (λ x. x.entries) (length c.entries + length (enumerators_tokens rs)) (enumerators_declared bytes c rs)
first_enumerators_few bytes c s.no_enumerators = good (omega arith)
first_enumerators_few bytes c (s.then_enumerator r rs) =
    let joined = length-append (enumerator_tokens r) (more_enumerators rs) in
    then_within (λ d. enumerators_declared bytes d rs) (enumerator_few bytes c r) (λ d few. wider_to (omega arith) (enumerators_few bytes d rs))

with_enumeration_few : (bytes : List ℕ) (es : List NameEntry) (at : Option Span) → length (with_enumeration bytes es at) ≤ length es + 1
with_enumeration_few bytes es None = omega arith
with_enumeration_few bytes es (Some at) = simp length-append (omega arith)

enumeration_few : (bytes : List ℕ) (es : List NameEntry) (k : ℕ) (at : Option Span) (rs : EnumrTrees) → Within (λ x. x.entries) (length es + length (enumerators_tokens rs) + 1) (enumeration_declared bytes es k at rs)
enumeration_few bytes es k at rs =
    then_within (λ c. and_then (finish k (enumeration_rule c (tag_before bytes c.entries at))) (λ x. Good (record { entries = with_enumeration bytes c.entries at; ty = x.ty }) []))
    (first_enumerators_few bytes (none_enumerated es) rs)
    (λ c few. behind_within (finish k (enumeration_rule c (tag_before bytes c.entries at))) (λ x. Good (record { entries = with_enumeration bytes c.entries at; ty = x.ty }) [])
    (λ x. good (let one = with_enumeration_few bytes c.entries at in omega arith)))

-- ---- structs

opening_named_few : (es : List NameEntry) (name : List ℕ) (t : Option Tag) → length (opening_named es name t).entries ≤ length es + 1
opening_named_few es name None = simp length-append (omega arith)
opening_named_few es name (Some (tag.Struct id)) = omega arith
opening_named_few es name (Some tag.Enumeration) = simp length-append (omega arith)

opening_few : (bytes : List ℕ) (es : List NameEntry) (at : Option Span) → length (opening bytes es at).entries ≤ length es + 1
opening_few bytes es None = simp length-append (omega arith)
opening_few bytes es (Some at) = opening_named_few es (text_of bytes at) (tag_of (text_of bytes at) es)

parts_few : (tail : TailTree) → length (dimensions_uses (array_parts tail)) ≤ length (tail_tokens tail)
parts_few (s.arrays ds) = dimensions_few ds
parts_few s.unspecified = omega arith
parts_few s.void_parameters = omega arith
parts_few (s.with_parameters ps more) = omega arith

member_declarator_few : (bytes : List ℕ) (es : List NameEntry) (before : List MemberInfo) (last : Bool) (t : TypeTree) (d : DeclrTree) → Within (λ x. x.entries) (length es + length (declarator_tokens d)) (member_declarator bytes es before last t d)
member_declarator_few bytes es before last t (s.declarator k count at tail init) =
    let now = behind_uses bytes es (dimensions_uses (array_parts tail)) in
    let uses : length now ≤ length es + length (dimensions_uses (array_parts tail)) = uses_few bytes es (dimensions_uses (array_parts tail)) in
    let few = parts_few tail in
    behind_within (member_typed bytes now before last t (s.declarator k count at tail init)) (λ x. Good (with_member now before (member_name bytes at) x) [])
    (λ x. good (simp length-append (omega arith)))

members_declarators_few : (bytes : List ℕ) (es : List NameEntry) (before : List MemberInfo) (last : Bool) (t : TypeTree) (ds : DeclrTrees) → Within (λ x. x.entries) (length es + length (more_declarators ds)) (member_declarators bytes es before last t ds)
members_declarators_few bytes es before last t s.no_declarators = good (omega arith)
members_declarators_few bytes es before last t (s.then_declarator d ds) =
    let joined = length-append (declarator_tokens d) (more_declarators ds) in
    then_within (λ m. member_declarators bytes m.entries m.members last t ds) (member_declarator_few bytes es before (last && ends_declarators ds) t d)
    (λ m few. wider_to (omega arith) (members_declarators_few bytes m.entries m.members last t ds))

first_declarators_few : (bytes : List ℕ) (es : List NameEntry) (before : List MemberInfo) (last : Bool) (t : TypeTree) (ds : DeclrTrees) → Within (λ x. x.entries) (length es + length (declarators_tokens ds)) (member_declarators bytes es before last t ds)
first_declarators_few bytes es before last t s.no_declarators = good (omega arith)
first_declarators_few bytes es before last t (s.then_declarator d ds) =
    let joined = length-append (declarator_tokens d) (more_declarators ds) in
    then_within (λ m. member_declarators bytes m.entries m.members last t ds) (member_declarator_few bytes es before (last && ends_declarators ds) t d)
    (λ m few. wider_to (omega arith) (members_declarators_few bytes m.entries m.members last t ds))

struct_closed_few : (k : ℕ) (o : Opening) (m : Membered) → Within (λ x. x.entries) (length m.entries + 1) (struct_closed k o m)
struct_closed_few k o m =
    behind_within (finish k (struct_rule (structs_of m.entries) o m.members)) (λ x. Good (record { entries = m.entries ++ entry.Members o.id m.members ∷ []; ty = x.ty }) [])
    (λ x. good (simp length-append (omega arith)))

mutual
  based_few : (bytes : List ℕ) (es : List NameEntry) (b : BaseTree) → Within (λ x. x.entries) (length es + length (base_tokens b)) (base_declared bytes es b)
  based_few bytes es (s.base n f) = form_declared_few bytes es n.number f

  form_declared_few : (bytes : List ℕ) (es : List NameEntry) (k : ℕ) (f : BaseFormTree) → Within (λ x. x.entries) (length es + length (base_form_tokens f)) (form_declared bytes es k f)
  form_declared_few bytes es k (s.words ws) = plain_few bytes es k (s.words ws)
  form_declared_few bytes es k (s.struct_ref at) = plain_few bytes es k (s.struct_ref at)
  form_declared_few bytes es k (s.struct_def at ms) =
      let one = opening_few bytes es at in
      then_within (λ m. struct_closed k (opening bytes es at) m) (members_few bytes (opening bytes es at).entries [] ms)
      (λ m few. wider_to (simp length-append (omega arith)) (struct_closed_few k (opening bytes es at) m))
  form_declared_few bytes es k (s.enum_ref at) = plain_few bytes es k (s.enum_ref at)
  form_declared_few bytes es k (s.enum_def at rs comma) = wider_to (simp length-append (omega arith)) (enumeration_few bytes es k at rs)
  form_declared_few bytes es k (s.named at) = plain_few bytes es k (s.named at)

  members_few : (bytes : List ℕ) (es : List NameEntry) (before : List MemberInfo) (ms : MemberTrees) → Within (λ x. x.entries) (length es + length (members_tokens ms)) (members_declared bytes es before ms)
  members_few bytes es before s.no_members = good (omega arith)
  members_few bytes es before (s.then_member m ms) =
      let joined = length-append (member_tokens m) (members_tokens ms) in
      then_within (λ r. members_declared bytes r.entries r.members ms) (member_few bytes es before (ends_members ms) m)
      (λ r few. wider_to (omega arith) (members_few bytes r.entries r.members ms))

  member_few : (bytes : List ℕ) (es : List NameEntry) (before : List MemberInfo) (last : Bool) (m : MemberTree) → Within (λ x. x.entries) (length es + length (member_tokens m)) (member_declared bytes es before last m)
  member_few bytes es before last (s.member b ds) =
      then_within (λ x. member_declarators bytes x.entries before last x.ty ds) (based_few bytes es b)
      (λ x few. wider_to (simp length-append (omega arith)) (first_declarators_few bytes x.entries before last x.ty ds))

-- ---- declarators, declarations and heads

one_at_most : (b : Bool) (x : NameEntry) → length (if b then x ∷ [] else []) ≤ 1
one_at_most true x = omega arith
one_at_most false x = omega arith

added_few : (name : List ℕ) (what : SymbolSort) (mark : Bool) (earlier : Option Symbol) (t : TypeTree) → length (added name what mark earlier t) ≤ 1
added_few name what mark earlier t =
    one_at_most (says_more (was_marked earlier) mark (agreement earlier t)) (entry.Symbol name (meaning what (mark || was_marked earlier) (holding earlier t (agreement earlier t))))

declarator_few_entries : (bytes : List ℕ) (mark defines : Bool) (word : Option Storage) (es : List NameEntry) (t : TypeTree) (d : DeclrTree) → Within (λ x. x) (length es + 1) (declarator_declared bytes mark defines word es t d)
declarator_few_entries bytes mark defines word es t (s.declarator k count at tail init) =
    let name = declared_name bytes at in
    let whole = starred count t in
    behind_within (tail_typed (at_file bytes es) defines tail)
    (λ shape. and_then (finish k.number (declarator_rule (structs_of es) word (sort_of word shape whole) (find name es) init (made_for bytes es (find name es) defines word whole init shape))) (λ x. Good (es ++ added name (sort_of word shape whole) mark (find name es) x.ty) []))
    (λ shape. behind_within (finish k.number (declarator_rule (structs_of es) word (sort_of word shape whole) (find name es) init (made_for bytes es (find name es) defines word whole init shape))) (λ x. Good (es ++ added name (sort_of word shape whole) mark (find name es) x.ty) [])
    (λ x. good (let one = added_few name (sort_of word shape whole) mark (find name es) x.ty in let joined = length-append es (added name (sort_of word shape whole) mark (find name es) x.ty) in omega arith)))

declarators_few : (bytes : List ℕ) (mark : Bool) (word : Option Storage) (es : List NameEntry) (t : TypeTree) (ds : DeclrTrees) → Within (λ x. x) (length es + length (more_declarators ds)) (declarators_declared bytes mark word es t ds)
declarators_few bytes mark word es t s.no_declarators = good (omega arith)
declarators_few bytes mark word es t (s.then_declarator d ds) =
    let before = behind_uses bytes es (declarator_uses d) in
    let uses : length before ≤ length es + length (declarator_uses d) = uses_few bytes es (declarator_uses d) in
    let few = declarator_few d in
    let joined = length-append (declarator_tokens d) (more_declarators ds) in
    then_within (λ now. declarators_declared bytes mark word now t ds) (declarator_few_entries bytes mark false word before t d)
    (λ now one. wider_to (omega arith) (declarators_few bytes mark word now t ds))

first_few : (bytes : List ℕ) (mark : Bool) (word : Option Storage) (es : List NameEntry) (t : TypeTree) (ds : DeclrTrees) → Within (λ x. x) (length es + length (declarators_tokens ds) + 1) (declarators_declared bytes mark word es t ds)
first_few bytes mark word es t s.no_declarators = good (omega arith)
first_few bytes mark word es t (s.then_declarator d ds) =
    let before = behind_uses bytes es (declarator_uses d) in
    let uses : length before ≤ length es + length (declarator_uses d) = uses_few bytes es (declarator_uses d) in
    let few = declarator_few d in
    let joined = length-append (declarator_tokens d) (more_declarators ds) in
    then_within (λ now. declarators_declared bytes mark word now t ds) (declarator_few_entries bytes mark false word before t d)
    (λ now one. wider_to (omega arith) (declarators_few bytes mark word now t ds))

declaration_few : (bytes : List ℕ) (mark : Bool) (es : List NameEntry) (d : DeclarationTree) → Within (λ x. x) (length es + length (declaration_tokens d)) (declaration_declared bytes mark es d)
declaration_few bytes mark es (s.declaration word b ds) =
    then_within (λ x. declarators_declared bytes mark word x.entries x.ty ds) (based_few bytes es b)
    (λ x few. wider_to (simp length-append (omega arith)) (first_few bytes mark word x.entries x.ty ds))

form_prints : (f : StmtFormTree) → 1 ≤ length (statement_form_tokens f)
form_prints (s.block ps) = omega arith
form_prints (s.expression_statement e) = simp length-append (omega arith)
form_prints (s.if_statement e x y) = omega arith
form_prints (s.switch_statement e ss) = omega arith
form_prints (s.while_statement e x) = omega arith
form_prints (s.do_statement x e) = omega arith
form_prints (s.for_statement first test step x) = omega arith
form_prints s.break_statement = omega arith
form_prints s.continue_statement = omega arith
form_prints (s.return_statement e) = omega arith

statement_prints : (x : StmtTree) → 1 ≤ length (statement_tokens x)
statement_prints (s.statement n f) = form_prints f

head_few : (bytes : List ℕ) (mark : Bool) (n : ℕ) (es : List NameEntry) (word : Option Storage) (b : BaseTree) (d : DeclrTree) → Within (λ x. x) (length es + 1) (head_declared bytes mark n es word b d)
head_few bytes mark n es word b d =
    behind_within (base_typed (at_file bytes es) b) (λ x. and_then (declarator_declared bytes mark true (definition_word word) es x.ty d) (λ now. and_then (finish n (definition_rule word)) (λ y. Good now [])))
    (λ x. then_within (λ now. and_then (finish n (definition_rule word)) (λ y. Good now [])) (declarator_few_entries bytes mark true (definition_word word) es x.ty d)
    (λ now few. behind_within (finish n (definition_rule word)) (λ y. Good now []) (λ y. good few)))

definition_few : (bytes : List ℕ) (mark : Bool) (n : ℕ) (es : List NameEntry) (f : FunctionTree) → Within (λ x. x) (length es + length (function_tokens f)) (definition_declared bytes mark n es f)
definition_few bytes mark n es (s.function word b d body) =
    let uses : length (behind_uses bytes es (base_uses b ++ declarator_uses d)) ≤ length es + length (base_uses b ++ declarator_uses d) = uses_few bytes es (base_uses b ++ declarator_uses d) in
    let both = length-append (base_uses b) (declarator_uses d) in
    let in_base = base_few b in
    let in_declarator = declarator_few d in
    let prints = statement_prints body in
    wider_to (simp length-append (omega arith)) (head_few bytes mark n (behind_uses bytes es (base_uses b ++ declarator_uses d)) word b d)

unit_few : (bytes : List ℕ) (mark : Bool) (es : List NameEntry) (u : UnitTree) → Within (λ x. x) (length es + length (unit_tokens u)) (unit_declared bytes mark es u)
unit_few bytes mark es (s.empty_unit n) = good (omega arith)
unit_few bytes mark es (s.declares n d) = declaration_few bytes mark es d
unit_few bytes mark es (s.defines n f) = definition_few bytes mark n.number es f

pub adds_few : AddsFewEntries
adds_few bytes mark es now facts u same = few_of (subst (λ o. Within (λ x. x) (length es + length (unit_tokens u)) o) same (unit_few bytes mark es u))
