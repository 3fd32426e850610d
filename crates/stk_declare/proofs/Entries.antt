-- The entry of a declarator, the heads of functions, and enumerations: how the answers of their parts make theirs.
use Rattle.std.proofs.Common.{◌≡◌, ◌∙◌, ◌++◌, ℕ, Bool, true, Vec, Global, List, [], ◌∷◌, Option, Result, Ok, Err, refl, sym, ap, subst}
use Rattle.stk_base.specs.declared.span.Span.{Span}
use Rattle.stk_base.specs.Text.{text_of}
use Rattle.stk_ctype.specs.declared.ctype.CType.{CType}
use Rattle.stk_ctype.specs.declared.symbol.MemberInfo.{MemberInfo}
use Rattle.stk_ctype.specs.declared.symbol.NameEntry.{NameEntry}
use Rattle.stk_ctype.specs.Names.{find}
use Rattle.stk_ctype.specs.Structs.{structs_of}
use Rattle.stk_ctype.specs.Types.{TypeTree, type_of}
use Rattle.stk_tree.specs.declared.node.Node.{Node}
use Rattle.stk_tree.specs.declared.declaration.Storage.{Storage}
use Rattle.stk_tree.specs.Syntax.{BaseTree, DeclrTree, EnumrTrees, MemberTrees, MaybeInitTree, TailTree, ExprTree}
use Rattle.stk_tree.specs.Syntax as s
use Rattle.stk_type_rules.specs.declared.facts.Constancy.{Constancy}
use Rattle.stk_type_rules.specs.declared.facts.Constancy.TheVariants as constancy
use Rattle.stk_type_rules.specs.declared.facts.NodeFact.{NodeFact}
use Rattle.stk_type_rules.specs.declared.untyped.Untyped.{Untyped}
use Rattle.stk_type_rules.specs.Facts.{Fact, Ruled, fact_of, plain}
use Rattle.stk_type_rules.specs.Outcome.{Outcome, Good, and_then, finish, Gives}
use Rattle.stk_typing.specs.declared.arrays.Size.{Size}
use Rattle.stk_typing.specs.Arrays.{starred, declared_type}
use Rattle.stk_typing.specs.Locals.{Local}
use Rattle.stk_declarators.specs.Uses.{expression_uses, dimensions_uses}
use Rattle.stk_typing.specs.Typing.{base_typed, dimensions_typed, expression_typed}
use Rattle.stk_declarators.specs.Parameters.{array_parts}
use Rattle.stk_compatible.specs.Making.{made}
use Rattle.stk_compatible.proofs.Made.{made_type}
use Rattle.stk_declarators.specs.declared.tails.Tailed.{Tailed}
use Rattle.stk_declarators.specs.Rows.{IsShape, IsTail}
use Rattle.stk_declarators.specs.Tails.{TailShape, tail_typed}
use Rattle.stk_declare.specs.declared.enumerations.Counter.{Counter}
use Rattle.stk_declare.specs.declared.structs.Opened.{Opened}
use Rattle.stk_declare.specs.Answers.{Answers, listed}
use Rattle.stk_declare.specs.Bases.{Based}
use Rattle.stk_declare.specs.Declaring.{declarator_declared, declared_name, definition_rule, definition_word, head_declared, made_for}
use Rattle.stk_declare.specs.Enumerations.{Enumerated, enumerator_declared, enumerators_declared, enumeration_declared, enumeration_rule, none_enumerated, tag_before, with_enumeration, with_value}
use Rattle.stk_declare.specs.Shown.{based, enumerated, membered, opening_of}
use Rattle.stk_declare.specs.Structs.{Membered, Opening, form_declared, member_declarator, member_declared_as, member_name, member_rule, member_size_first, member_typed, members_declared, opening, struct_closed, with_member}
use Rattle.stk_declare.specs.Symbols.{added, declarator_rule, sort_of}
use Rattle.stk_declare.specs.Tags.{at_file, behind_uses}
use Rattle.stk_declare.proofs.Answering.{from_gives, goes, stops}

abbrev pub IsFact : Fact → NodeFact → Type 0
IsFact x f = fact_of f ≡ x

-- ---- declarators

module _ (bytes : List ℕ) (mark defines : Bool) (word : Option Storage) (es : List NameEntry) (t whole : TypeTree) (k : Node) (count : ℕ) (at : Option Span) (tail : TailTree) (init : MaybeInitTree) where
  -- what the rules make of it, by what follows its name
  abbrev pub rule_for : TypeTree → TailShape → Ruled
  rule_for w shape = declarator_rule (structs_of es) word (sort_of word shape w) (find (declared_name bytes at) es) init (made_for bytes es (find (declared_name bytes at) es) defines word w init shape)

  abbrev AreEntries : List NameEntry → Option NameEntry → Type 0
  AreEntries now e = es ++ listed e ≡ now

  abbrev rest_for : TypeTree → TailShape → Outcome (List NameEntry)
  rest_for w shape = and_then (finish k.number (rule_for w shape)) (λ x. Good (es ++ added (declared_name bytes at) (sort_of word shape w) mark (find (declared_name bytes at) es) x.ty) [])

  pub entry_gives : (tailed : Tailed) (before now : List Local) (a b : List Fact) (f : NodeFact) (e : Option NameEntry) → whole ≡ starred count t → Gives (IsTail before now) (tail_typed (at_file bytes es) defines tail) (Ok tailed) a b
      → ((shape : TailShape) → IsShape shape tailed → Answers IsFact (finish k.number (rule_for whole shape)) (Ok f))
      → ((shape : TailShape) → IsShape shape tailed → listed e ≡ added (declared_name bytes at) (sort_of word shape whole) mark (find (declared_name bytes at) es) (type_of f.ty))
      → Answers (λ now e. es ++ listed e ≡ now) (declarator_declared bytes mark defines word es t (s.declarator k count at tail init)) (Ok e)
  entry_gives tailed before now a b f e is typed ruled adds =
      goes (IsTail before now) AreEntries (tail_typed (at_file bytes es) defines tail) (rest_for (starred count t)) tailed (Ok e) (from_gives (IsTail before now) (tail_typed (at_file bytes es) defines tail) (Ok tailed) a b typed)
      (λ shape shown. subst (λ (w : TypeTree). Answers AreEntries (rest_for w shape) (Ok e)) is
      (goes IsFact AreEntries (finish k.number (rule_for whole shape)) (λ x. Good (es ++ added (declared_name bytes at) (sort_of word shape whole) mark (find (declared_name bytes at) es) x.ty) []) f (Ok e) (ruled shape shown.0)
      (λ x same. ap (λ (l : List NameEntry). es ++ l) (adds shape shown.0 ∙ ap (λ (y : Fact). added (declared_name bytes at) (sort_of word shape whole) mark (find (declared_name bytes at) es) y.ty) same))))

  pub entry_stops : (tailed : Tailed) (before now : List Local) (a b : List Fact) (e : Untyped) → whole ≡ starred count t → Gives (IsTail before now) (tail_typed (at_file bytes es) defines tail) (Ok tailed) a b
      → ((shape : TailShape) → IsShape shape tailed → Answers IsFact (finish k.number (rule_for whole shape)) (Err e))
      → Answers (λ now e. es ++ listed e ≡ now) (declarator_declared bytes mark defines word es t (s.declarator k count at tail init)) (Err e)
  entry_stops tailed before now a b e is typed ruled =
      goes (IsTail before now) AreEntries (tail_typed (at_file bytes es) defines tail) (rest_for (starred count t)) tailed (Err e) (from_gives (IsTail before now) (tail_typed (at_file bytes es) defines tail) (Ok tailed) a b typed)
      (λ shape shown. subst (λ (w : TypeTree). Answers AreEntries (rest_for w shape) (Err e)) is
      (stops IsFact AreEntries (finish k.number (rule_for whole shape)) (λ x. Good (es ++ added (declared_name bytes at) (sort_of word shape whole) mark (find (declared_name bytes at) es) x.ty) []) e (ruled shape shown.0)))

  pub tail_stops : (before now : List Local) (a b : List Fact) (e : Untyped) → Gives (IsTail before now) (tail_typed (at_file bytes es) defines tail) (Err e) a b
      → Answers (λ now e. es ++ listed e ≡ now) (declarator_declared bytes mark defines word es t (s.declarator k count at tail init)) (Err e)
  tail_stops before now a b e typed = stops (IsTail before now) AreEntries (tail_typed (at_file bytes es) defines tail) (rest_for (starred count t)) e (from_gives (IsTail before now) (tail_typed (at_file bytes es) defines tail) (Err e) a b typed)

-- ---- heads of functions

abbrev IsTypeOf : Fact → CType → Type 0
IsTypeOf x t = type_of t ≡ x.ty

abbrev pub IsNow : List NameEntry → List NameEntry → Unit {0} → Type 0
IsNow now es u = now ≡ es

abbrev pub IsPlain : Fact → Unit {0} → Type 0
IsPlain x u = x ≡ plain

module _ (bytes : List ℕ) (mark : Bool) (n : ℕ) (es now : List NameEntry) (word : Option Storage) (b : BaseTree) (d : DeclrTree) (t : CType) where
  pub head_gives : (u : Unit {0}) (result : Result (Unit {0}) Untyped) → Answers (λ x t. type_of t ≡ x.ty) (base_typed (at_file bytes es) b) (Ok t) → Answers (IsNow now) (declarator_declared bytes mark true (definition_word word) es (type_of t) d) (Ok u)
      → Answers IsPlain (finish n (definition_rule word)) result → Answers (IsNow now) (head_declared bytes mark n es word b d) result
  head_gives u result base declr rule =
      goes IsTypeOf (IsNow now) (base_typed (at_file bytes es) b) (λ x. and_then (declarator_declared bytes mark true (definition_word word) es x.ty d) (λ z. and_then (finish n (definition_rule word)) (λ y. Good z []))) t result base
      (λ x is. subst (λ (w : TypeTree). Answers (IsNow now) (and_then (declarator_declared bytes mark true (definition_word word) es w d) (λ z. and_then (finish n (definition_rule word)) (λ y. Good z []))) result) is
      (goes (IsNow now) (IsNow now) (declarator_declared bytes mark true (definition_word word) es (type_of t) d) (λ z. and_then (finish n (definition_rule word)) (λ y. Good z [])) u result declr
      (λ z same. on z result same rule)))
    where
      on : (z : List NameEntry) (result : Result (Unit {0}) Untyped) → now ≡ z → Answers IsPlain (finish n (definition_rule word)) result → Answers (IsNow now) (and_then (finish n (definition_rule word)) (λ y. Good z [])) result
      on z (Ok v) same rule = goes IsPlain (IsNow now) (finish n (definition_rule word)) (λ y. Good z []) v (Ok v) rule (λ y is. same)
      on z (Err e) same rule = stops IsPlain (IsNow now) (finish n (definition_rule word)) (λ y. Good z []) e rule

  pub head_stops : (e : Untyped) → Answers (λ x t. type_of t ≡ x.ty) (base_typed (at_file bytes es) b) (Ok t) → Answers (IsNow now) (declarator_declared bytes mark true (definition_word word) es (type_of t) d) (Err e)
      → Answers (IsNow now) (head_declared bytes mark n es word b d) (Err e)
  head_stops e base declr =
      goes IsTypeOf (IsNow now) (base_typed (at_file bytes es) b) (λ x. and_then (declarator_declared bytes mark true (definition_word word) es x.ty d) (λ z. and_then (finish n (definition_rule word)) (λ y. Good z []))) t (Err e) base
      (λ x is. subst (λ (w : TypeTree). Answers (IsNow now) (and_then (declarator_declared bytes mark true (definition_word word) es w d) (λ z. and_then (finish n (definition_rule word)) (λ y. Good z []))) (Err e)) is
      (stops (IsNow now) (IsNow now) (declarator_declared bytes mark true (definition_word word) es (type_of t) d) (λ z. and_then (finish n (definition_rule word)) (λ y. Good z [])) e declr))

-- ---- enumerations

abbrev AreCounted : List NameEntry → Enumerated → Counter → Type 0
AreCounted now x v = enumerated now v ≡ x

abbrev pub AreBased : List NameEntry → Based → CType → Type 0
AreBased now x t = based now t ≡ x

module _ (bytes : List ℕ) (es mid now : List NameEntry) (k : ℕ) (at : Option Span) (rs : EnumrTrees) (c : Counter) where
  abbrev rest_of : Enumerated → Outcome Based
  rest_of c = and_then (finish k (enumeration_rule c (tag_before bytes c.entries at))) (λ x. Good (record { entries = with_enumeration bytes c.entries at; ty = x.ty }) [])

  pub enumeration_gives : (f : NodeFact) (t : CType) → Answers (λ x v. enumerated mid v ≡ x) (enumerators_declared bytes (none_enumerated es) rs) (Ok c) → Answers IsFact (finish k (enumeration_rule (enumerated mid c) (tag_before bytes mid at))) (Ok f)
      → now ≡ with_enumeration bytes mid at → type_of t ≡ type_of f.ty → Answers (λ x t. based now t ≡ x) (enumeration_declared bytes es k at rs) (Ok t)
  enumeration_gives f t counted ruled is ty =
      goes (AreCounted mid) (AreBased now) (enumerators_declared bytes (none_enumerated es) rs) rest_of c (Ok t) counted
      (λ x same. subst (λ (z : Enumerated). Answers (AreBased now) (rest_of z) (Ok t)) same
      (goes IsFact (AreBased now) (finish k (enumeration_rule (enumerated mid c) (tag_before bytes mid at))) (λ x. Good (record { entries = with_enumeration bytes mid at; ty = x.ty }) []) f (Ok t) ruled
      (λ y made. λ j. record { entries = is j; ty = (ty ∙ ap (λ (z : Fact). z.ty) made) j })))

  pub enumeration_stops : (e : Untyped) → Answers (λ x v. enumerated mid v ≡ x) (enumerators_declared bytes (none_enumerated es) rs) (Ok c) → Answers IsFact (finish k (enumeration_rule (enumerated mid c) (tag_before bytes mid at))) (Err e)
      → Answers (λ x t. based now t ≡ x) (enumeration_declared bytes es k at rs) (Err e)
  enumeration_stops e counted ruled =
      goes (AreCounted mid) (AreBased now) (enumerators_declared bytes (none_enumerated es) rs) rest_of c (Err e) counted
      (λ x same. subst (λ (z : Enumerated). Answers (AreBased now) (rest_of z) (Err e)) same
      (stops IsFact (AreBased now) (finish k (enumeration_rule (enumerated mid c) (tag_before bytes mid at))) (λ x. Good (record { entries = with_enumeration bytes mid at; ty = x.ty }) []) e ruled))

abbrev IsConstancy : Fact → Constancy → Type 0
IsConstancy x v = x.constancy ≡ v

-- an enumerator with a value
pub value_gives : (bytes : List ℕ) (es mid now : List NameEntry) (c v : Counter) (at : Span) (e : ExprTree) (value : Constancy) → mid ≡ behind_uses bytes es (expression_uses e) → Answers (λ x v. x.constancy ≡ v) (expression_typed (at_file bytes mid) e) (Ok value)
    → ((z : Constancy) → z ≡ value → enumerated now v ≡ with_value (enumerated es c) mid (text_of bytes at) z)
    → Answers (λ x v. enumerated now v ≡ x) (enumerator_declared bytes (enumerated es c) (s.enumerator at (s.some_expression e))) (Ok v)
value_gives bytes es mid now c v at e value used typed made =
    let rest : List NameEntry → Fact → Outcome Enumerated = λ z x. Good (with_value (enumerated es c) z (text_of bytes at) x.constancy) [] in
    subst (λ (z : List NameEntry). Answers (AreCounted now) (and_then (expression_typed (at_file bytes z) e) (rest z)) (Ok v)) used
    (goes IsConstancy (AreCounted now) (expression_typed (at_file bytes mid) e) (rest mid) value (Ok v) typed (λ x is. made x.constancy is))

pub value_stops : (bytes : List ℕ) (es mid now : List NameEntry) (c : Counter) (at : Span) (e : ExprTree) (x : Untyped) → mid ≡ behind_uses bytes es (expression_uses e) → Answers (λ x v. x.constancy ≡ v) (expression_typed (at_file bytes mid) e) (Err x)
    → Answers (λ x v. enumerated now v ≡ x) (enumerator_declared bytes (enumerated es c) (s.enumerator at (s.some_expression e))) (Err x)
value_stops bytes es mid now c at e x used typed =
    let rest : List NameEntry → Fact → Outcome Enumerated = λ z x. Good (with_value (enumerated es c) z (text_of bytes at) x.constancy) [] in
    subst (λ (z : List NameEntry). Answers (AreCounted now) (and_then (expression_typed (at_file bytes z) e) (rest z)) (Err x)) used
    (stops IsConstancy (AreCounted now) (expression_typed (at_file bytes mid) e) (rest mid) x typed)

-- what is known before counts alone
pub value_same : (a b es : List NameEntry) (c : Counter) (name : List ℕ) (v : Constancy) → with_value (enumerated a c) es name v ≡ with_value (enumerated b c) es name v
value_same a b es c name constancy.Varies = refl
value_same a b es c name constancy.Violates = refl
value_same a b es c name (constancy.Number z) = refl

-- ---- members
abbrev pub AreSizes : List Size → Vec Size Global → Type 0
AreSizes sizes v = v.items ≡ sizes

abbrev pub AreMembered : List NameEntry → List MemberInfo → Membered → Unit {0} → Type 0
AreMembered now ms x u = membered now ms ≡ x

module _ (bytes : List ℕ) (es : List NameEntry) (before : List MemberInfo) (last : Bool) (t : TypeTree) (k : Node) (count : ℕ) (at : Option Span) (tail : TailTree) (init : MaybeInitTree) where
  pub member_gives : (whole : TypeTree) (v : Vec Size Global) (result : Result NodeFact Untyped) → whole ≡ starred count t → Answers AreSizes (dimensions_typed (at_file bytes es) (array_parts tail)) (Ok v)
      → Answers IsFact (finish k.number (member_rule (structs_of es) last before (member_name bytes at) (member_size_first last before v.items (declared_type (structs_of es) v.items whole)))) result → Answers IsFact (member_typed bytes es before last t (s.declarator k count at tail init)) result
  member_gives whole v result is sized ruled =
      goes AreSizes IsFact (dimensions_typed (at_file bytes es) (array_parts tail)) (λ sizes. finish k.number (member_rule (structs_of es) last before (member_name bytes at) (member_size_first last before sizes (declared_type (structs_of es) sizes (starred count t))))) v result sized
      (λ sizes same. subst (λ (z : List Size). Answers IsFact (finish k.number (member_rule (structs_of es) last before (member_name bytes at) (member_size_first last before z (declared_type (structs_of es) z (starred count t))))) result) same
      (subst (λ (w : TypeTree). Answers IsFact (finish k.number (member_rule (structs_of es) last before (member_name bytes at) (member_size_first last before v.items (declared_type (structs_of es) v.items w)))) result) is ruled))

  pub sizes_stop : (e : Untyped) → Answers AreSizes (dimensions_typed (at_file bytes es) (array_parts tail)) (Err e) → Answers IsFact (member_typed bytes es before last t (s.declarator k count at tail init)) (Err e)
  sizes_stop e sized = stops AreSizes IsFact (dimensions_typed (at_file bytes es) (array_parts tail)) (λ sizes. finish k.number (member_rule (structs_of es) last before (member_name bytes at) (member_size_first last before sizes (declared_type (structs_of es) sizes (starred count t))))) e sized

  pub member_adds : (mid : List NameEntry) (now : List MemberInfo) (f : NodeFact) (u : Unit {0}) → mid ≡ behind_uses bytes es (dimensions_uses (array_parts tail)) → Answers IsFact (member_typed bytes mid before last t (s.declarator k count at tail init)) (Ok f)
      → now ≡ before ++ record { name = member_name bytes at; ty = f.ty } ∷ [] → Answers (AreMembered mid now) (member_declarator bytes es before last t (s.declarator k count at tail init)) (Ok u)
  member_adds mid now f u used typed is =
      let whole : List NameEntry → Outcome Membered = λ z. member_declared_as bytes z before at (member_typed bytes z before last t (s.declarator k count at tail init)) in
      subst (λ (z : List NameEntry). Answers (AreMembered mid now) (whole z) (Ok u)) used
      (goes IsFact (AreMembered mid now) (member_typed bytes mid before last t (s.declarator k count at tail init)) (λ x. Good (with_member mid before (member_name bytes at) x) []) f (Ok u) typed
      (λ x same. λ j. record { entries = mid; members = (is ∙ ap (λ (y : CType). before ++ record { name = member_name bytes at; ty = y } ∷ []) (sym (made_type f.ty) ∙ ap (λ (z : Fact). made z.ty) same)) j }))

  pub member_stops : (mid : List NameEntry) (now : List MemberInfo) (e : Untyped) → mid ≡ behind_uses bytes es (dimensions_uses (array_parts tail)) → Answers IsFact (member_typed bytes mid before last t (s.declarator k count at tail init)) (Err e)
      → Answers (AreMembered mid now) (member_declarator bytes es before last t (s.declarator k count at tail init)) (Err e)
  member_stops mid now e used typed =
      let whole : List NameEntry → Outcome Membered = λ z. member_declared_as bytes z before at (member_typed bytes z before last t (s.declarator k count at tail init)) in
      subst (λ (z : List NameEntry). Answers (AreMembered mid now) (whole z) (Err e)) used
      (stops IsFact (AreMembered mid now) (member_typed bytes mid before last t (s.declarator k count at tail init)) (λ x. Good (with_member mid before (member_name bytes at) x) []) e typed)

-- ---- bases with braces, and without
pub struct_gives : (bytes : List ℕ) (es mid next now : List NameEntry) (k : ℕ) (tag : Option Span) (ms : MemberTrees) (o : Opened) (found : List MemberInfo) (u : Unit {0}) (result : Result CType Untyped) → opening_of mid o ≡ opening bytes es tag
    → Answers (AreMembered next found) (members_declared bytes mid [] ms) (Ok u) → ((zs : List NameEntry) → Answers (AreBased now) (struct_closed k (opening_of zs o) (membered next found)) result)
    → Answers (AreBased now) (form_declared bytes es k (s.struct_def tag ms)) result
struct_gives bytes es mid next now k tag ms o found u result opened members closed =
    subst (λ (z : Opening). Answers (AreBased now) (and_then (members_declared bytes z.entries [] ms) (λ m. struct_closed k z m)) result) opened
    (goes (AreMembered next found) (AreBased now) (members_declared bytes mid [] ms) (λ m. struct_closed k (opening_of mid o) m) u result members
    (λ m is. subst (λ (z : Membered). Answers (AreBased now) (struct_closed k (opening_of mid o) z) result) is (closed mid)))

pub members_stop_struct : (bytes : List ℕ) (es mid next now : List NameEntry) (k : ℕ) (tag : Option Span) (ms : MemberTrees) (o : Opened) (found : List MemberInfo) (e : Untyped) → opening_of mid o ≡ opening bytes es tag
    → Answers (AreMembered next found) (members_declared bytes mid [] ms) (Err e) → Answers (AreBased now) (form_declared bytes es k (s.struct_def tag ms)) (Err e)
members_stop_struct bytes es mid next now k tag ms o found e opened members =
    subst (λ (z : Opening). Answers (AreBased now) (and_then (members_declared bytes z.entries [] ms) (λ m. struct_closed k z m)) (Err e)) opened
    (stops (AreMembered next found) (AreBased now) (members_declared bytes mid [] ms) (λ m. struct_closed k (opening_of mid o) m) e members)
