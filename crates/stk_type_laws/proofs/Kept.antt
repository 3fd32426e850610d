-- What a unit declares keeps the names in force orderly.
use Rattle.std.proofs.Common.{◌≡◌, ◌≤◌, ◌<◌, ◌+◌, ℕ, Bool, true, false, not, ◌||◌, ◌&&◌, ◌++◌, List, [], ◌∷◌, length, Option, Some, None, IsSome, refl, sym, ap, ◌∙◌, subst, inl, inr, arith, append_assoc, append-nil}
use Rattle.std.specs.Prelude.{if◌then◌else◌, IfSome}
use Rattle.std.specs.Option.{is_some}
use Rattle.std.proofs.lemmas.List.Sums.{sum_by-cons}
use Rattle.stk_base.specs.declared.span.Span.{Span}
use Rattle.stk_base.specs.Text.{text_of, same_text}
use Rattle.stk_ctype.specs.declared.symbol.MemberInfo.{MemberInfo}
use Rattle.stk_ctype.specs.declared.symbol.Symbol.{Symbol}
use Rattle.stk_ctype.specs.declared.symbol.NameEntry.{NameEntry}
use Rattle.stk_ctype.specs.declared.symbol.NameEntry.TheVariants as entry
use Rattle.stk_ctype.specs.declared.symbol.Tag.{Tag}
use Rattle.stk_ctype.specs.declared.symbol.Tag.TheVariants as tag
use Rattle.stk_ctype.specs.Types.{TypeTree, void_type, integer_type, pointer_type, array_type, struct_type, function_type, type_of}
use Rattle.stk_ctype.specs.Names.{later_of, symbol_named, find, structs_in, struct_count, tag_named, tag_behind, tag_of}
use Rattle.stk_ctype.specs.Structs.{Structs, StructLayout, array_size, size_of, struct_at, structs_of, layout_of}
use Rattle.stk_ctype.specs.Sound.{IsOpenArray}
use Rattle.stk_ctype.proofs.Noting.{struct_count-append, length-structs_behind}
use Rattle.stk_tree.specs.declared.declaration.Storage.{Storage}
use Rattle.stk_tree.specs.Syntax.{BaseFormTree, BaseTree, DeclarationTree, DeclrTree, DeclrTrees, EnumrTree, EnumrTrees, FunctionTree, MemberTree, MemberTrees, UnitTree, MaybeInitTree}
use Rattle.stk_tree.specs.Syntax as s
use Rattle.stk_type_rules.specs.declared.facts.Constancy.{Constancy}
use Rattle.stk_type_rules.specs.declared.facts.Constancy.TheVariants.{Varies, Violates, Number}
use Rattle.stk_type_rules.specs.Facts.{Fact, Ruled, Breaks, Fits, names_type}
use Rattle.stk_type_rules.specs.Outcome.{Outcome, Good, and_then, finish}
use Rattle.stk_type_rules.specs.Types.{is_complete}
use Rattle.stk_declarators.specs.Parameters.{array_parts}
use Rattle.stk_declarators.specs.Tails.{TailShape, tail_typed}
use Rattle.stk_typing.specs.declared.arrays.Size.{Size}
use Rattle.stk_typing.specs.Bases.{base_rule}
use Rattle.stk_typing.specs.Arrays.{starred, declared_type}
use Rattle.stk_typing.specs.Typing.{base_typed, expression_typed, dimensions_typed}
use Rattle.stk_declarators.specs.declared.uses.TagUse.{TagUse}
use Rattle.stk_declarators.specs.declared.uses.TagUse.TheVariants as used
use Rattle.stk_declarators.specs.Uses.{base_uses, declarator_uses, dimensions_uses, expression_uses, form_uses}
use Rattle.stk_compatible.specs.Making.{made}
use Rattle.stk_compatible.proofs.Made.{shown}
use Rattle.stk_declare.specs.Tags.{at_file, with_struct, past, behind_uses}
use Rattle.stk_declare.specs.Bases.{Based, plain_declared}
use Rattle.stk_declare.specs.Enumerations.{Enumerated, none_enumerated, enumeration_rule, tag_before, with_value, enumerator_declared, enumerators_declared, enumeration_declared, with_enumeration}
use Rattle.stk_declare.specs.Structs.{Membered, Opening, opening_new, opening, opening_named, struct_rule, member_name, has_member, is_empty, may_be_member, member_made, member_rule, member_size_first, with_member, member_typed, member_declarator, member_declarators, struct_closed, base_declared, form_declared, members_declared, member_declared, ends_members}
use Rattle.stk_declare.specs.Declaring.{declared_name, count_for, made_for, definition_rule, definition_word, head_declared, declarator_declared, declarators_declared, declaration_declared, definition_declared, unit_declared}
use Rattle.stk_declare.specs.Symbols.{is_open_array, was_marked, agreement, meaning, holding, says_more, added, sort_of, declarator_rule, is_begun, lacks_size, says_otherwise}
use Rattle.stk_declare.specs.declared.symbols.SymbolSort.{SymbolSort}
use Rattle.stk_type_laws.specs.Orderly.{DeclaresObject, HaveObjectTypes, GivesMembers, AreOrderly, UnitsKeepOrder}
use Rattle.stk_type_laws.proofs.Leaving.{Leaves, good, refused, then_leaves, behind_leaves, left_by, leaves_less}
use Rattle.stk_type_laws.proofs.Sorts.{held, passed, not_broken, HasEarlier, added_objects}
use Rattle.stk_type_laws.proofs.Growth.{Kept, kept_same, kept_then, kept_one, AllSized, SizedSoFar, all_sized_stays, all_sized_append, sized_append, sized_so_far}

-- ---- what a name means

later_has : (a b : Option Symbol) → HasEarlier a → HasEarlier b → HasEarlier (later_of a b)
later_has a None p q = p
later_has a (Some x) p q = q

own_has : (b : Bool) (x : Symbol) → HasEarlier (Some x) → HasEarlier (if b then Some x else None)
own_has true x h = h
own_has false x h = tt

named_has : (name : List ℕ) (e : NameEntry) → DeclaresObject e → HasEarlier (symbol_named name e)
named_has name (entry.Symbol n x) h = own_has (same_text n name) x h
named_has name (entry.Struct t) h = tt
named_has name (entry.Members id ms) h = tt
named_has name (entry.Enumeration t) h = tt

pub find_has : (name : List ℕ) (es : List NameEntry) → HaveObjectTypes es → HasEarlier (find name es)
find_has name [] h = tt
find_has name (e ∷ es) h = later_has (symbol_named name e) (find name es) (named_has name e h.0) (find_has name es h.1)

-- ---- what a tag means: a struct that is declared

abbrev IsAmong : ℕ → Tag → Type 0
IsAmong n (tag.Struct id) = id < n
IsAmong n tag.Enumeration = Unit {0}

either_among : (n : ℕ) (a b : Option Tag) → IfSome a (IsAmong n) → IfSome b (IsAmong n) → IfSome (later_of a b) (IsAmong n)
either_among n a None p q = p
either_among n a (Some x) p q = q

own_among : (n : ℕ) (b : Bool) (x : Tag) → IsAmong n x → IfSome (if b then Some x else None) (IsAmong n)
own_among n true x h = h
own_among n false x h = tt

named_among : (count n : ℕ) (name : List ℕ) (e : NameEntry) → count + structs_in e ≤ n → IfSome (tag_named count name e) (IsAmong n)
named_among count n name (entry.Symbol m x) few = tt
named_among count n name (entry.Struct None) few = tt
named_among count n name (entry.Struct (Some t)) few = own_among n (same_text t name) (tag.Struct count) (omega (arith, few))
named_among count n name (entry.Members id ms) few = tt
named_among count n name (entry.Enumeration t) few = own_among n (same_text t name) tag.Enumeration tt

behind_among : (count n : ℕ) (name : List ℕ) (es : List NameEntry) → count + struct_count es ≤ n → IfSome (tag_behind count name es) (IsAmong n)
behind_among count n name [] few = tt
behind_among count n name (e ∷ es) few =
    let step = sum_by-cons structs_in e es in
    either_among n (tag_named count name e) (tag_behind (count + structs_in e) name es) (named_among count n name e (omega (arith, few, step))) (behind_among (count + structs_in e) n name es (omega (arith, few, step)))

tag_among : (name : List ℕ) (es : List NameEntry) → IfSome (tag_of name es) (IsAmong (length (structs_of es)))
tag_among name es = behind_among 0 (length (structs_of es)) name es (omega (arith, length-structs_behind [] es))

-- ---- uses of tags

struct_kept : (es : List NameEntry) (name : List ℕ) (t : Option Tag) → AreOrderly es → Kept es (with_struct es name t)
struct_kept es name None h = kept_one es (entry.Struct (Some name)) h tt tt
struct_kept es name (Some t) h = kept_same es h

past_kept : (t : Option Tag) (es rest : List NameEntry) → AreOrderly es → Kept es rest → Kept es (past t es rest)
past_kept None es rest p q = kept_same es p
past_kept (Some t) es rest p q = q

uses_kept : (bytes : List ℕ) (us : List TagUse) (es : List NameEntry) → AreOrderly es → Kept es (behind_uses bytes es us)
uses_kept bytes [] es h = kept_same es h
uses_kept bytes (used.Struct at ∷ us) es h =
    let now = with_struct es (text_of bytes at) (tag_of (text_of bytes at) es) in
    let k = struct_kept es (text_of bytes at) (tag_of (text_of bytes at) es) h in
    kept_then es now (behind_uses bytes now us) k (uses_kept bytes us now k.orderly)
uses_kept bytes (used.Enumeration at ∷ us) es h = past_kept (tag_of (text_of bytes at) es) es (behind_uses bytes es us) h (uses_kept bytes us es h)

-- ---- bases without braces

abbrev based : List NameEntry → Fact → Outcome Based
based es x = Good (record { entries = es; ty = x.ty }) []

abbrev BaseKept : List NameEntry → Based → Type 0
BaseKept es x = Kept es x.entries

plain_kept : (bytes : List ℕ) (es : List NameEntry) (k : ℕ) (f : BaseFormTree) → AreOrderly es → Leaves (BaseKept es) (plain_declared bytes es k f)
plain_kept bytes es k f h =
    let now = behind_uses bytes es (form_uses f) in
    behind_leaves (finish k (base_rule bytes now f)) (based now) (λ x. good (uses_kept bytes (form_uses f) es h))

-- ---- enumerations

abbrev EnumeratedKept : List NameEntry → Enumerated → Type 0
EnumeratedKept es c = Kept es c.entries

value_kept : (c : Enumerated) (es : List NameEntry) (name : List ℕ) (v : Constancy) → AreOrderly es → Kept es (with_value c es name v).entries
value_kept c es name Varies h = kept_one es _ h tt tt
value_kept c es name Violates h = kept_one es _ h tt tt
value_kept c es name (Number z) h = kept_one es _ h tt tt

enumerator_kept : (bytes : List ℕ) (c : Enumerated) (e : EnumrTree) → AreOrderly c.entries → Leaves (EnumeratedKept c.entries) (enumerator_declared bytes c e)
enumerator_kept bytes c (s.enumerator at s.no_expression) h = good (kept_one c.entries _ h tt tt)
enumerator_kept bytes c (s.enumerator at (s.some_expression e)) h =
    let now = behind_uses bytes c.entries (expression_uses e) in
    let k = uses_kept bytes (expression_uses e) c.entries h in
    behind_leaves (expression_typed (at_file bytes now) e) (λ x. Good (with_value c now (text_of bytes at) x.constancy) [])
    (λ x. good (kept_then c.entries now (with_value c now (text_of bytes at) x.constancy).entries k (value_kept c now (text_of bytes at) x.constancy k.orderly)))

enumerators_kept : (bytes : List ℕ) (rs : EnumrTrees) (c : Enumerated) → AreOrderly c.entries → Leaves (EnumeratedKept c.entries) (enumerators_declared bytes c rs)
enumerators_kept bytes s.no_enumerators c h = good (kept_same c.entries h)
enumerators_kept bytes (s.then_enumerator r rs) c h =
    then_leaves (λ d. enumerators_declared bytes d rs) (enumerator_kept bytes c r h)
    (λ d k. leaves_less (λ x q. kept_then c.entries d.entries x.entries k q) (enumerators_kept bytes rs d k.orderly))

with_enumeration_kept : (bytes : List ℕ) (es : List NameEntry) (at : Option Span) → AreOrderly es → Kept es (with_enumeration bytes es at)
with_enumeration_kept bytes es None h = kept_same es h
with_enumeration_kept bytes es (Some at) h = kept_one es _ h tt tt

enumeration_kept : (bytes : List ℕ) (es : List NameEntry) (k : ℕ) (at : Option Span) (rs : EnumrTrees) → AreOrderly es → Leaves (BaseKept es) (enumeration_declared bytes es k at rs)
enumeration_kept bytes es k at rs h =
    then_leaves (λ c. and_then (finish k (enumeration_rule c (tag_before bytes c.entries at))) (λ x. Good (record { entries = with_enumeration bytes c.entries at; ty = x.ty }) []))
    (enumerators_kept bytes rs (none_enumerated es) h)
    (λ c q. behind_leaves (finish k (enumeration_rule c (tag_before bytes c.entries at))) (λ x. Good (record { entries = with_enumeration bytes c.entries at; ty = x.ty }) [])
    (λ x. good (kept_then es c.entries (with_enumeration bytes c.entries at) q (with_enumeration_kept bytes c.entries at q.orderly))))

-- ---- structs: the one that is given members is declared

record OpeningKept (es : List NameEntry) (o : Opening) : Type 0 where
  kept : Kept es o.entries
  there : o.id < length (structs_of o.entries)

new_kept : (es : List NameEntry) (name : Option (List ℕ)) (clash : Bool) → AreOrderly es → OpeningKept es (opening_new es name clash)
new_kept es name clash h =
    let more = length-structs_behind [] (es ++ entry.Struct name ∷ []) in
    let one = count_more es name in
    record { kept = kept_one es (entry.Struct name) h tt tt; there = omega (arith, more, one) }
  where
    count_more : (fs : List NameEntry) (n : Option (List ℕ)) → struct_count (fs ++ entry.Struct n ∷ []) ≡ struct_count fs + 1
    count_more fs n = struct_count-append fs (entry.Struct n)

opening_named_kept : (es : List NameEntry) (name : List ℕ) (t : Option Tag) → tag_of name es ≡ t → AreOrderly es → OpeningKept es (opening_named es name t)
opening_named_kept es name None p h = new_kept es (Some name) false h
opening_named_kept es name (Some (tag.Struct id)) p h = record { kept = kept_same es h; there = subst (λ o. IfSome o (IsAmong (length (structs_of es)))) p (tag_among name es) }
opening_named_kept es name (Some tag.Enumeration) p h = new_kept es None true h

opening_kept : (bytes : List ℕ) (es : List NameEntry) (at : Option Span) → AreOrderly es → OpeningKept es (opening bytes es at)
opening_kept bytes es None h = new_kept es None false h
opening_kept bytes es (Some at) h = opening_named_kept es (text_of bytes at) (tag_of (text_of bytes at) es) refl h

-- ---- members: each has a size, but perhaps the last one

-- a type as the code holds it has its size, and is an array of unknown size where it is one
made_size : (S : Structs) (t : TypeTree) → size_of S (type_of (made t)) ≡ size_of S t
made_size S t = ap (size_of S) (shown t)

open_is : (t : TypeTree) → is_open_array t ≡ true → IsOpenArray t
open_is void_type e = absurd cc
open_is (integer_type k) e = absurd cc
open_is (pointer_type t) e = absurd cc
open_is (array_type t None) e = refl
open_is (array_type t (Some n)) e = absurd cc
open_is (struct_type id) e = absurd cc
open_is (function_type f) e = absurd cc

made_open : (t : TypeTree) → is_open_array t ≡ true → IsOpenArray (type_of (made t))
made_open t e = subst IsOpenArray (sym (shown t)) (open_is t e)

some_size : (o : Option ℕ) → is_some o ≡ true → IsSome o
some_size None e = absurd cc
some_size (Some n) e = refl

complete_made : (S : Structs) (t : TypeTree) → is_complete S t ≡ true → IsSome (size_of S (type_of (made t)))
complete_made S t e = subst IsSome (sym (made_size S t)) (some_size (size_of S t) e)

member_sized : (S : Structs) (before : List MemberInfo) (first last : Bool) (name : List ℕ) (t : TypeTree) → AllSized S before → may_be_member S first last t ≡ true → SizedSoFar last S (before ++ record { name = name; ty = made t } ∷ [])
member_sized S before first last name t all may = by last (is_complete S t) (is_open_array t) refl refl may
  where
    by : (l c o : Bool) → is_complete S t ≡ c → is_open_array t ≡ o → (c || (o && (l && not first))) ≡ true → SizedSoFar l S (before ++ record { name = name; ty = made t } ∷ [])
    by true true o p q e = sized_append S before (record { name = name; ty = made t }) all (inl (complete_made S t p))
    by true false true p q e = sized_append S before (record { name = name; ty = made t }) all (inr (made_open t q))
    by true false false p q e = absurd cc
    by false true o p q e = all_sized_append S before (record { name = name; ty = made t }) all (complete_made S t p)
    by false false true p q e = absurd cc
    by false false false p q e = absurd cc

-- a member's rule
member_made_at : (S : Structs) (first last : Bool) (r : Ruled) (x : Fact) → member_made S first last r ≡ Fits x → may_be_member S first last x.ty ≡ true
member_made_at S first last (Breaks n) x e = absurd (not_broken n x e)
member_made_at S first last (Fits y) x e =
    let h = held (may_be_member S first last y.ty) (Fits y) 4 x e in
    subst (λ (z : Fact). may_be_member S first last z.ty ≡ true) (same_of y x h.rule) h.test
  where
    same_of : (y x : Fact) → Fits y ≡ Fits x → y ≡ x
    same_of y x e = cc

member_fits : (S : Structs) (last : Bool) (before : List MemberInfo) (name : List ℕ) (r : Ruled) (x : Fact) → member_rule S last before name r ≡ Fits x → may_be_member S (is_empty before) last x.ty ≡ true
member_fits S last before name r x e = member_made_at S (is_empty before) last r x (passed (has_member name before) (member_made S (is_empty before) last r) 3 x e).rule

-- what holds of a node's fact where its rule fits
fitting : (k : ℕ) (r : Ruled) (P : Fact → Type 0) → ((x : Fact) → r ≡ Fits x → P x) → Leaves P (finish k r)
fitting k (Breaks n) P g = refused
fitting k (Fits x) P g = good (g x refl)

member_typed_fits : (bytes : List ℕ) (es : List NameEntry) (before : List MemberInfo) (last : Bool) (t : TypeTree) (d : DeclrTree) → Leaves (λ (x : Fact). may_be_member (structs_of es) (is_empty before) last x.ty ≡ true) (member_typed bytes es before last t d)
member_typed_fits bytes es before last t (s.declarator k count at tail init) =
    let S = structs_of es in
    let rule : List Size → Ruled = λ sizes. member_rule S last before (member_name bytes at) (member_size_first last before sizes (declared_type S sizes (starred count t))) in
    behind_leaves (dimensions_typed (at_file bytes es) (array_parts tail)) (λ sizes. finish k.number (rule sizes))
    (λ sizes. fitting k.number (rule sizes) (λ (x : Fact). may_be_member S (is_empty before) last x.ty ≡ true)
    (λ x e. member_fits S last before (member_name bytes at) (member_size_first last before sizes (declared_type S sizes (starred count t))) x e))

-- the names kept, and the members so far
record MembersKept (es : List NameEntry) (last : Bool) (m : Membered) : Type 0 where
  kept : Kept es m.entries
  sized : SizedSoFar last (structs_of m.entries) m.members

member_declarator_kept : (bytes : List ℕ) (es : List NameEntry) (before : List MemberInfo) (last : Bool) (t : TypeTree) (d : DeclrTree) → AreOrderly es → AllSized (structs_of es) before → Leaves (MembersKept es last) (member_declarator bytes es before last t d)
member_declarator_kept bytes es before last t (s.declarator k count at tail init) h all =
    let now = behind_uses bytes es (dimensions_uses (array_parts tail)) in
    let kept = uses_kept bytes (dimensions_uses (array_parts tail)) es h in
    let still = all_sized_stays (structs_of es) (structs_of now) kept.keeps before all in
    then_leaves (λ x. Good (with_member now before (member_name bytes at) x) []) (member_typed_fits bytes now before last t (s.declarator k count at tail init))
    (λ x may. good (record { kept = kept; sized = member_sized (structs_of now) before (is_empty before) last (member_name bytes at) x.ty still may }))

and_true : (b : Bool) → (b && true) ≡ b
and_true true = refl
and_true false = refl

and_false : (b : Bool) → (b && false) ≡ false
and_false true = refl
and_false false = refl

members_then : (es mid : List NameEntry) (last : Bool) (m : Membered) → Kept es mid → MembersKept mid last m → MembersKept es last m
members_then es mid last m k q = record { kept = kept_then es mid m.entries k q.kept; sized = q.sized }

member_declarators_kept : (bytes : List ℕ) (ds : DeclrTrees) (es : List NameEntry) (before : List MemberInfo) (last : Bool) (t : TypeTree) → AreOrderly es → AllSized (structs_of es) before → Leaves (MembersKept es last) (member_declarators bytes es before last t ds)
member_declarators_kept bytes s.no_declarators es before last t h all = good (record { kept = kept_same es h; sized = sized_so_far last (structs_of es) before all })
member_declarators_kept bytes (s.then_declarator d s.no_declarators) es before last t h all =
    then_leaves (λ m. member_declarators bytes m.entries m.members last t s.no_declarators) (member_declarator_kept bytes es before (last && true) t d h all)
    (λ m q. good (record { kept = q.kept; sized = subst (λ b. SizedSoFar b (structs_of m.entries) m.members) (and_true last) q.sized }))
member_declarators_kept bytes (s.then_declarator d (s.then_declarator e ds)) es before last t h all =
    then_leaves (λ m. member_declarators bytes m.entries m.members last t (s.then_declarator e ds)) (member_declarator_kept bytes es before (last && false) t d h all)
    (λ m q. leaves_less (λ x r. members_then es m.entries last x q.kept r)
    (member_declarators_kept bytes (s.then_declarator e ds) m.entries m.members last t q.kept.orderly (subst (λ b. SizedSoFar b (structs_of m.entries) m.members) (and_false last) q.sized)))

-- a struct behind its members
closed_at : (S : Structs) (o : Opening) (ms : List MemberInfo) (x : Fact) → struct_rule S o ms ≡ Fits x → struct_at S o.id ≡ None
closed_at S o ms x e =
    let h = held (is_some (layout_of S ms)) (if o.clash || is_some (struct_at S o.id) then Breaks 17 else Fits (names_type (struct_type o.id))) 5 x e in
    let p = passed (o.clash || is_some (struct_at S o.id)) (Fits (names_type (struct_type o.id))) 17 x h.rule in
    none_of (struct_at S o.id) (neither o.clash (is_some (struct_at S o.id)) p.test)
  where
    neither : (a b : Bool) → (a || b) ≡ false → b ≡ false
    neither true b e = absurd cc
    neither false b e = e

    none_of : (l : Option StructLayout) → is_some l ≡ false → l ≡ None
    none_of None e = refl
    none_of (Some l) e = absurd cc

struct_closed_kept : (es : List NameEntry) (k : ℕ) (o : Opening) (m : Membered) → OpeningKept es o → MembersKept o.entries true m → Leaves (BaseKept es) (struct_closed k o m)
struct_closed_kept es k o m p q =
    let S = structs_of m.entries in
    then_leaves (λ x. Good (record { entries = m.entries ++ entry.Members o.id m.members ∷ []; ty = x.ty }) [])
    (fitting k (struct_rule S o m.members) (λ x. struct_at S o.id ≡ None) (λ x e. closed_at S o m.members x e))
    (λ x none.
    let there : o.id < length S = omega (arith, p.there, q.kept.count) in
    good (kept_then es o.entries (m.entries ++ entry.Members o.id m.members ∷ []) p.kept
    (kept_then o.entries m.entries (m.entries ++ entry.Members o.id m.members ∷ []) q.kept (kept_one m.entries (entry.Members o.id m.members) q.kept.orderly tt (there, none, q.sized)))))

mutual
  based_kept : (bytes : List ℕ) (es : List NameEntry) (b : BaseTree) → AreOrderly es → Leaves (BaseKept es) (base_declared bytes es b)
  based_kept bytes es (s.base n f) h = form_kept bytes es n.number f h

  form_kept : (bytes : List ℕ) (es : List NameEntry) (k : ℕ) (f : BaseFormTree) → AreOrderly es → Leaves (BaseKept es) (form_declared bytes es k f)
  form_kept bytes es k (s.words ws) h = plain_kept bytes es k (s.words ws) h
  form_kept bytes es k (s.struct_ref at) h = plain_kept bytes es k (s.struct_ref at) h
  form_kept bytes es k (s.struct_def at ms) h =
      let o = opening_kept bytes es at h in
      then_leaves (λ m. struct_closed k (opening bytes es at) m) (members_kept bytes (opening bytes es at).entries [] ms o.kept.orderly tt) (λ m q. struct_closed_kept es k (opening bytes es at) m o q)
  form_kept bytes es k (s.enum_ref at) h = plain_kept bytes es k (s.enum_ref at) h
  form_kept bytes es k (s.enum_def at rs comma) h = enumeration_kept bytes es k at rs h
  form_kept bytes es k (s.named at) h = plain_kept bytes es k (s.named at) h

  members_kept : (bytes : List ℕ) (es : List NameEntry) (before : List MemberInfo) (ms : MemberTrees) → AreOrderly es → AllSized (structs_of es) before → Leaves (MembersKept es true) (members_declared bytes es before ms)
  members_kept bytes es before s.no_members h all = good (record { kept = kept_same es h; sized = sized_so_far true (structs_of es) before all })
  members_kept bytes es before (s.then_member m ms) h all =
      then_leaves (λ r. members_declared bytes r.entries r.members ms) (member_kept bytes es before (ends_members ms) m h all) (λ r q. rest_kept bytes es r ms q)

  -- the members behind one
  rest_kept : (bytes : List ℕ) (es : List NameEntry) (r : Membered) (ms : MemberTrees) → MembersKept es (ends_members ms) r → Leaves (MembersKept es true) (members_declared bytes r.entries r.members ms)
  rest_kept bytes es r s.no_members q = good q
  rest_kept bytes es r (s.then_member m ms) q =
      then_leaves (λ z. members_declared bytes z.entries z.members ms) (member_kept bytes r.entries r.members (ends_members ms) m q.kept.orderly q.sized)
      (λ z p. leaves_less (λ x y. y) (rest_kept bytes es z ms (members_then es r.entries (ends_members ms) z q.kept p)))

  member_kept : (bytes : List ℕ) (es : List NameEntry) (before : List MemberInfo) (last : Bool) (m : MemberTree) → AreOrderly es → AllSized (structs_of es) before → Leaves (MembersKept es last) (member_declared bytes es before last m)
  member_kept bytes es before last (s.member b ds) h all =
      then_leaves (λ x. member_declarators bytes x.entries before last x.ty ds) (based_kept bytes es b h)
      (λ x k. leaves_less (λ z q. members_then es x.entries last z k q) (member_declarators_kept bytes ds x.entries before last x.ty k.orderly (all_sized_stays (structs_of es) (structs_of x.entries) k.keeps before all)))

-- ---- declarators, declarations and heads

-- entries that give no struct its members
abbrev AreNames : List NameEntry → Type 0
AreNames [] = Unit {0}
AreNames (e ∷ es) = ((S : Structs) → GivesMembers S e) × AreNames es

-- such entries behind others
names_kept : (es fs : List NameEntry) → AreOrderly es → HaveObjectTypes fs → AreNames fs → Kept es (es ++ fs)
names_kept es [] h objects names = subst (Kept es) (sym (append-nil es)) (kept_same es h)
names_kept es (f ∷ fs) h objects names =
    let one = kept_one es f h objects.0 (names.0 (structs_of es)) in
    let more = names_kept (es ++ f ∷ []) fs one.orderly objects.1 names.1 in
    kept_then es (es ++ f ∷ []) (es ++ f ∷ fs) one (subst (Kept (es ++ f ∷ [])) (append_assoc es (f ∷ []) fs) more)

name_if : (b : Bool) (name : List ℕ) (x : Symbol) → AreNames (if b then entry.Symbol name x ∷ [] else [])
name_if true name x = (λ S. tt, tt)
name_if false name x = tt

added_names : (name : List ℕ) (what : SymbolSort) (mark : Bool) (earlier : Option Symbol) (t : TypeTree) → AreNames (added name what mark earlier t)
added_names name what mark earlier t = name_if (says_more (was_marked earlier) mark (agreement earlier t)) name (meaning what (mark || was_marked earlier) (holding earlier t (agreement earlier t)))

-- under what follows the name
shape_kept : (bytes : List ℕ) (mark defines : Bool) (word : Option Storage) (es : List NameEntry) (k : ℕ) (name : List ℕ) (whole : TypeTree) (init : MaybeInitTree) (shape : TailShape) → AreOrderly es
    → Leaves (Kept es) (and_then (finish k (declarator_rule (structs_of es) word (sort_of word shape whole) (find name es) init (made_for bytes es (find name es) defines word whole init shape))) (λ x. Good (es ++ added name (sort_of word shape whole) mark (find name es) x.ty) []))
shape_kept bytes mark defines word es k name whole init shape h =
    let what = sort_of word shape whole in
    let rule = declarator_rule (structs_of es) word what (find name es) init (made_for bytes es (find name es) defines word whole init shape) in
    then_leaves (λ x. Good (es ++ added name what mark (find name es) x.ty) []) (fitting k rule (λ x. rule ≡ Fits x) (λ x e. e))
    (λ x e. good (names_kept es (added name what mark (find name es) x.ty) h
    (added_objects (structs_of es) word defines (says_otherwise (find name es) shape whole) (lacks_size word (is_begun init) shape (count_for bytes shape whole init)) mark (count_for bytes shape whole init) whole shape name (find name es) init x (find_has name es h.objects) e)
    (added_names name what mark (find name es) x.ty)))

declarator_kept : (bytes : List ℕ) (mark defines : Bool) (word : Option Storage) (es : List NameEntry) (t : TypeTree) (d : DeclrTree) → AreOrderly es → Leaves (Kept es) (declarator_declared bytes mark defines word es t d)
declarator_kept bytes mark defines word es t (s.declarator k count at tail init) h =
    let name = declared_name bytes at in
    let whole = starred count t in
    behind_leaves (tail_typed (at_file bytes es) defines tail)
    (λ shape. and_then (finish k.number (declarator_rule (structs_of es) word (sort_of word shape whole) (find name es) init (made_for bytes es (find name es) defines word whole init shape))) (λ x. Good (es ++ added name (sort_of word shape whole) mark (find name es) x.ty) []))
    (λ shape. shape_kept bytes mark defines word es k.number name whole init shape h)

declarators_kept : (bytes : List ℕ) (mark : Bool) (word : Option Storage) (ds : DeclrTrees) (es : List NameEntry) (t : TypeTree) → AreOrderly es → Leaves (Kept es) (declarators_declared bytes mark word es t ds)
declarators_kept bytes mark word s.no_declarators es t h = good (kept_same es h)
declarators_kept bytes mark word (s.then_declarator d ds) es t h =
    let before = behind_uses bytes es (declarator_uses d) in
    let k = uses_kept bytes (declarator_uses d) es h in
    then_leaves (λ now. declarators_declared bytes mark word now t ds) (declarator_kept bytes mark false word before t d k.orderly)
    (λ now q. leaves_less (λ x r. kept_then es before x k (kept_then before now x q r)) (declarators_kept bytes mark word ds now t q.orderly))

declaration_kept : (bytes : List ℕ) (mark : Bool) (es : List NameEntry) (d : DeclarationTree) → AreOrderly es → Leaves (Kept es) (declaration_declared bytes mark es d)
declaration_kept bytes mark es (s.declaration word b ds) h =
    then_leaves (λ x. declarators_declared bytes mark word x.entries x.ty ds) (based_kept bytes es b h)
    (λ x k. leaves_less (λ z q. kept_then es x.entries z k q) (declarators_kept bytes mark word ds x.entries x.ty k.orderly))

head_kept : (bytes : List ℕ) (mark : Bool) (n : ℕ) (es : List NameEntry) (word : Option Storage) (b : BaseTree) (d : DeclrTree) → AreOrderly es → Leaves (Kept es) (head_declared bytes mark n es word b d)
head_kept bytes mark n es word b d h =
    behind_leaves (base_typed (at_file bytes es) b) (λ x. and_then (declarator_declared bytes mark true (definition_word word) es x.ty d) (λ now. and_then (finish n (definition_rule word)) (λ y. Good now [])))
    (λ x. then_leaves (λ now. and_then (finish n (definition_rule word)) (λ y. Good now [])) (declarator_kept bytes mark true (definition_word word) es x.ty d h)
    (λ now k. behind_leaves (finish n (definition_rule word)) (λ y. Good now []) (λ y. good k)))

definition_kept : (bytes : List ℕ) (mark : Bool) (n : ℕ) (es : List NameEntry) (f : FunctionTree) → AreOrderly es → Leaves (Kept es) (definition_declared bytes mark n es f)
definition_kept bytes mark n es (s.function word b d body) h =
    let before = behind_uses bytes es (base_uses b ++ declarator_uses d) in
    let k = uses_kept bytes (base_uses b ++ declarator_uses d) es h in
    leaves_less (λ x q. kept_then es before x k q) (head_kept bytes mark n before word b d k.orderly)

unit_kept : (bytes : List ℕ) (mark : Bool) (es : List NameEntry) (u : UnitTree) → AreOrderly es → Leaves (Kept es) (unit_declared bytes mark es u)
unit_kept bytes mark es (s.empty_unit n) h = good (kept_same es h)
unit_kept bytes mark es (s.declares n d) h = declaration_kept bytes mark es d h
unit_kept bytes mark es (s.defines n f) h = definition_kept bytes mark n.number es f h

pub units_keep_order : UnitsKeepOrder
units_keep_order = record {
  first = record { objects = tt; structs = tt };
  next = λ bytes mark es now facts u same h. (left_by (subst (λ o. Leaves (Kept es) o) same (unit_kept bytes mark es u h))).orderly;
}
