-- What a declarator of file scope declares as an object has a type of one, and what it declares as a function has the
-- type of one.
use Rattle.std.proofs.Common.{◌≡◌, ℕ, Bool, true, false, ◌||◌, ◌&&◌, List, [], ◌∷◌, Option, Some, None, refl, sym, ap, subst, ◌∙◌}
use Rattle.std.specs.Prelude.{if◌then◌else◌, nat_le, pos}
use Rattle.stk_ctype.specs.declared.symbol.Symbol.{Symbol}
use Rattle.stk_ctype.specs.declared.symbol.Symbol.TheVariants as symbol
use Rattle.stk_ctype.specs.declared.symbol.NameEntry.TheVariants as entry
use Rattle.stk_ctype.specs.Types.{TypeTree, void_type, integer_type, pointer_type, array_type, struct_type, function_type, type_of}
use Rattle.stk_ctype.specs.Structs.{Structs, size_of, size_limit}
use Rattle.stk_tree.specs.declared.declaration.Storage.{Storage}
use Rattle.stk_tree.specs.declared.declaration.Storage.TheVariants as storage
use Rattle.stk_tree.specs.Syntax.{MaybeInitTree}
use Rattle.stk_type_rules.specs.declared.facts.Constancy.TheVariants.{Number}
use Rattle.stk_type_rules.specs.Facts.{Fact, Ruled, Breaks, Fits, declares}
use Rattle.stk_typing.specs.declared.arrays.Size.{Size}
use Rattle.stk_typing.specs.declared.arrays.Size.TheVariants.{Open, Sized}
use Rattle.stk_typing.specs.Arrays.{count_of, fitting, array_within, around, nested, lacks_element, declared_as, declared_type}
use Rattle.stk_declarators.specs.Functions.{may_return, function_of, function_rule}
use Rattle.stk_declarators.specs.Parameters.{Parameter, have_unnamed}
use Rattle.stk_declarators.specs.Tails.{TailShape, of_arrays, of_function, counted_sizes, tail_type}
use Rattle.stk_compatible.specs.declared.agreement.Agreement.{Agreement}
use Rattle.stk_compatible.specs.declared.agreement.Agreement.TheVariants.{Differ, Old, New}
use Rattle.stk_compatible.specs.Making.{made}
use Rattle.stk_compatible.proofs.Made.{shown}
use Rattle.stk_declare.specs.declared.symbols.SymbolSort.{SymbolSort}
use Rattle.stk_declare.specs.declared.symbols.SymbolSort.TheVariants as sort
use Rattle.stk_declare.specs.Symbols.{agreement_first, is_begun, sort_by_type, sort_by_tail, sort_of, clashes, agreement, may_be_object, may_be, may_begin, agreed_rule, made_rule, declarator_rule, size_first, was_marked, signature_in, function_meaning, meaning, holding, says_more, added}
use Rattle.stk_type_laws.specs.Orderly.{is_object_type, HasObjectType, HaveObjectTypes}

-- ---- rules that fit

does_fit : Ruled → Type 0
does_fit (Breaks n) = ⊥
does_fit (Fits x) = Unit {0}

fact_in : Fact → Ruled → Fact
fact_in d (Breaks n) = d
fact_in d (Fits x) = x

pub not_broken : (n : ℕ) (y : Fact) → Breaks n ≡ Fits y → ⊥
unfolding does_fit
not_broken n y e = subst does_fit (sym e) tt

same_fact : (x y : Fact) → Fits x ≡ Fits y → x ≡ y
unfolding fact_in
same_fact x y e = ap (fact_in x) e

pub record Held (c d : Bool) (r : Ruled) (y : Fact) : Type 0 where
  pub test : c ≡ d
  pub rule : r ≡ Fits y

pub held : (c : Bool) (r : Ruled) (n : ℕ) (y : Fact) → (if c then r else Breaks n) ≡ Fits y → Held c true r y
held true r n y e = record { test = refl; rule = e }
held false r n y e = absurd (not_broken n y e)

pub passed : (c : Bool) (r : Ruled) (n : ℕ) (y : Fact) → (if c then Breaks n else r) ≡ Fits y → Held c false r y
passed true r n y e = absurd (not_broken n y e)
passed false r n y e = record { test = refl; rule = e }

-- ---- sorts and types

-- the type of a function
abbrev is_function : TypeTree → Bool
is_function void_type = false
is_function (integer_type k) = false
is_function (pointer_type t) = false
is_function (array_type t count) = false
is_function (struct_type id) = false
is_function (function_type f) = true

-- an object has a type of one, and a function the type of one
abbrev SuitsSort : SymbolSort → TypeTree → Type 0
SuitsSort sort.TypeName t = Unit {0}
SuitsSort sort.Object t = is_object_type t ≡ true
SuitsSort sort.Function t = is_function t ≡ true

array_object : (o : Option ℕ) (t u : TypeTree) → fitting o t ≡ Some u → is_object_type t ≡ true → is_object_type u ≡ true
array_object None t u e h = absurd cc
array_object (Some n) t u e h = by (nat_le n size_limit) e
  where
    by : (b : Bool) → (if b then Some t else None) ≡ Some u → is_object_type u ≡ true
    by true q = let same : t ≡ u = cc in subst (λ z. is_object_type z ≡ true) same h
    by false q = absurd cc

within_object : (structs : Structs) (c : Option ℕ) (t u : TypeTree) → array_within structs c t ≡ Some u → is_object_type u ≡ true
within_object structs None t u e = absurd cc
within_object structs (Some n) t u e = array_object (size_of structs (array_type t (Some n))) (array_type t (Some n)) u e refl

around_object : (structs : Structs) (size : Size) (o : Option TypeTree) (u : TypeTree) → around structs size o ≡ Some u → is_object_type u ≡ true
around_object structs size None u e = absurd cc
around_object structs Open (Some t) u e = let same : array_type t None ≡ u = cc in subst (λ z. is_object_type z ≡ true) same refl
around_object structs (Sized c) (Some t) u e = within_object structs (count_of c) t u e

declared_some : (o : Option TypeTree) (y : Fact) → declared_as o ≡ Fits y → o ≡ Some y.ty
declared_some None y e = absurd (not_broken 5 y e)
declared_some (Some t) y e = ap (λ (z : Fact). Some z.ty) (same_fact (declares t) y e)

-- array parts make an array
parts_object : (structs : Structs) (size : Size) (sizes : List Size) (t : TypeTree) (y : Fact) → declared_type structs (size ∷ sizes) t ≡ Fits y → is_object_type y.ty ≡ true
parts_object structs size sizes t y e =
    let p = passed (lacks_element structs (size ∷ sizes) t) (declared_as (nested structs (size ∷ sizes) t)) 4 y e in
    around_object structs size (nested structs sizes t) y.ty (declared_some (nested structs (size ∷ sizes) t) y p.rule)

counted_object : (structs : Structs) (c : Option ℕ) (size : Size) (sizes : List Size) (t : TypeTree) (y : Fact) → declared_type structs (counted_sizes c (size ∷ sizes)) t ≡ Fits y → is_object_type y.ty ≡ true
counted_object structs None size sizes t y e = parts_object structs size sizes t y e
counted_object structs (Some n) Open sizes t y e = parts_object structs (Sized (Number (pos n))) sizes t y e
counted_object structs (Some n) (Sized c) sizes t y e = parts_object structs (Sized c) sizes t y e

-- no array part leaves the type
no_parts : (structs : Structs) (c : Option ℕ) (t : TypeTree) (y : Fact) → declared_type structs (counted_sizes c []) t ≡ Fits y → t ≡ y.ty
no_parts structs None t y e = ap (λ (z : Fact). z.ty) (same_fact (declares t) y e)
no_parts structs (Some n) t y e = ap (λ (z : Fact). z.ty) (same_fact (declares t) y e)

no_void : (structs : Structs) (word : Option Storage) (begun : Bool) → may_be_object structs word begun void_type ≡ true → ⊥
no_void structs None begun e = absurd cc
no_void structs (Some storage.Typedef) begun e = absurd cc
no_void structs (Some storage.Extern) true e = absurd cc
no_void structs (Some storage.Extern) false e = absurd cc
no_void structs (Some storage.Static) begun e = absurd cc

-- the type alone decides
type_suits : (structs : Structs) (word : Option Storage) (begun : Bool) (t : TypeTree) → may_be structs word (sort_by_type t) begun t ≡ true → SuitsSort (sort_by_type t) t
type_suits structs word begun void_type e = absurd (no_void structs word begun e)
type_suits structs word begun (integer_type k) e = refl
type_suits structs word begun (pointer_type t) e = refl
type_suits structs word begun (array_type t count) e = refl
type_suits structs word begun (struct_type id) e = refl
type_suits structs word begun (function_type f) e = refl

function_suits : (structs : Structs) (defines : Bool) (t : TypeTree) (ps : List Parameter) (more : Bool) (y : Fact) → function_rule structs defines t ps more ≡ Fits y → is_function y.ty ≡ true
function_suits structs defines t ps more y e =
    let h = held (may_return structs defines t) (if defines && have_unnamed ps then Breaks 15 else Fits (declares (function_of t ps more))) 4 y e in
    let p = passed (defines && have_unnamed ps) (Fits (declares (function_of t ps more))) 15 y h.rule in
    ap (λ (z : Fact). is_function z.ty) (sym (same_fact (declares (function_of t ps more)) y p.rule))

tail_suits : (structs : Structs) (word : Option Storage) (begun defines : Bool) (c : Option ℕ) (t : TypeTree) (shape : TailShape) (y : Fact) → tail_type structs defines c t shape ≡ Fits y → may_be structs word (sort_by_tail shape t) begun y.ty ≡ true → SuitsSort (sort_by_tail shape t) y.ty
tail_suits structs word begun defines c t (of_function ps more) y e may = function_suits structs defines t ps more y e
tail_suits structs word begun defines c t (of_arrays (size ∷ sizes)) y e may = counted_object structs c size sizes t y e
tail_suits structs word begun defines c t (of_arrays []) y e may =
    let same = no_parts structs c t y e in
    subst (λ z. SuitsSort (sort_by_type t) z) same (type_suits structs word begun t (subst (λ z. may_be structs word (sort_by_type t) begun z ≡ true) (sym same) may))

sort_suits : (structs : Structs) (word : Option Storage) (begun defines : Bool) (c : Option ℕ) (t : TypeTree) (shape : TailShape) (y : Fact) → tail_type structs defines c t shape ≡ Fits y → may_be structs word (sort_of word shape t) begun y.ty ≡ true → SuitsSort (sort_of word shape t) y.ty
sort_suits structs None begun defines c t shape y e may = tail_suits structs None begun defines c t shape y e may
sort_suits structs (Some storage.Typedef) begun defines c t shape y e may = tt
sort_suits structs (Some storage.Extern) begun defines c t shape y e may = tail_suits structs (Some storage.Extern) begun defines c t shape y e may
sort_suits structs (Some storage.Static) begun defines c t shape y e may = tail_suits structs (Some storage.Static) begun defines c t shape y e may

-- ---- a declarator that fits

record Fitting (structs : Structs) (word : Option Storage) (what : SymbolSort) (earlier : Option Symbol) (begun : Bool) (makes : Ruled) (x : Fact) : Type 0 where
  clear : clashes earlier what ≡ false
  own : Fact
  is : makes ≡ Fits own
  type : own.ty ≡ x.ty
  may : may_be structs word what begun own.ty ≡ true

allowed : (structs : Structs) (word : Option Storage) (what : SymbolSort) (i : MaybeInitTree) (t : TypeTree) (x : Fact) → (if may_be structs word what (is_begun i) t then (if may_begin what t i then Fits (declares t) else Breaks 16) else Breaks 4) ≡ Fits x
    → (may_be structs word what (is_begun i) t ≡ true) × (t ≡ x.ty)
allowed structs word what i t x e =
    let h = held (may_be structs word what (is_begun i) t) (if may_begin what t i then Fits (declares t) else Breaks 16) 4 x e in
    let g = held (may_begin what t i) (Fits (declares t)) 16 x h.rule in
    (h.test, ap (λ (z : Fact). z.ty) (same_fact (declares t) x g.rule))

agreed_at : (structs : Structs) (word : Option Storage) (what : SymbolSort) (i : MaybeInitTree) (t : TypeTree) (a : Agreement) (x : Fact) → agreed_rule structs word what i t a ≡ Fits x → (may_be structs word what (is_begun i) t ≡ true) × (t ≡ x.ty)
agreed_at structs word what i t Differ x e = absurd (not_broken 3 x e)
agreed_at structs word what i t Old x e = allowed structs word what i t x e
agreed_at structs word what i t New x e = allowed structs word what i t x e

made_at : (structs : Structs) (word : Option Storage) (what : SymbolSort) (earlier : Option Symbol) (i : MaybeInitTree) (makes : Ruled) (x : Fact) → clashes earlier what ≡ false → made_rule structs word what earlier i makes ≡ Fits x → Fitting structs word what earlier (is_begun i) makes x
made_at structs word what earlier i (Breaks n) x clear e = absurd (not_broken n x e)
made_at structs word what earlier i (Fits y) x clear e =
    let a = agreed_at structs word what i y.ty (agreement earlier y.ty) x e in
    record { clear = clear; own = y; is = refl; type = a.1; may = a.0 }

fitting_at : (structs : Structs) (word : Option Storage) (what : SymbolSort) (earlier : Option Symbol) (i : MaybeInitTree) (makes : Ruled) (x : Fact) → declarator_rule structs word what earlier i makes ≡ Fits x → Fitting structs word what earlier (is_begun i) makes x
fitting_at structs word what earlier i makes x e =
    let p = passed (clashes earlier what) (made_rule structs word what earlier i makes) 3 x e in
    made_at structs word what earlier i makes x p.test p.rule

size_passed : (lacking : Bool) (r : Ruled) (y : Fact) → size_first lacking r ≡ Fits y → r ≡ Fits y
size_passed lacking (Breaks n) y e = absurd (not_broken (if lacking then 4 else n) y e)
size_passed lacking (Fits x) y e = e

agreement_passed : (differs : Bool) (r : Ruled) (y : Fact) → agreement_first differs r ≡ Fits y → r ≡ Fits y
agreement_passed differs (Breaks n) y e = absurd (not_broken (if differs then 3 else n) y e)
agreement_passed differs (Fits x) y e = e

-- ---- what is added

-- the code's type of a type
made_object : (t : TypeTree) → is_object_type t ≡ true → is_object_type (type_of (made t)) ≡ true
made_object t e = ap is_object_type (shown t) ∙ e

-- what an earlier declaration says
abbrev pub HasEarlier : Option Symbol → Type 0
HasEarlier None = Unit {0}
HasEarlier (Some x) = HasObjectType x

-- the type that holds suits the sort too
holds_suits : (what : SymbolSort) (earlier : Option Symbol) (t : TypeTree) (a : Agreement) → HasEarlier earlier → clashes earlier what ≡ false → SuitsSort what t → SuitsSort what (holding earlier t a)
holds_suits what earlier t New has clear suits = suits
holds_suits what earlier t Differ has clear suits = suits
holds_suits what None t Old has clear suits = suits
holds_suits what (Some (symbol.TypeDef u)) t Old has clear suits = suits
holds_suits what (Some (symbol.Enumerator v)) t Old has clear suits = suits
holds_suits sort.TypeName (Some (symbol.Object u)) t Old has clear suits = tt
holds_suits sort.Object (Some (symbol.Object u)) t Old has clear suits = has
holds_suits sort.Function (Some (symbol.Object u)) t Old has clear suits = absurd cc
holds_suits sort.TypeName (Some (symbol.Function f)) t Old has clear suits = tt
holds_suits sort.Object (Some (symbol.Function f)) t Old has clear suits = absurd cc
holds_suits sort.Function (Some (symbol.Function f)) t Old has clear suits = refl

function_has : (mark : Bool) (t : TypeTree) → is_function t ≡ true → HasObjectType (function_meaning mark t (signature_in t))
function_has mark void_type e = absurd cc
function_has mark (integer_type k) e = absurd cc
function_has mark (pointer_type t) e = absurd cc
function_has mark (array_type t c) e = absurd cc
function_has mark (struct_type id) e = absurd cc
function_has mark (function_type f) e = tt

meaning_has : (what : SymbolSort) (mark : Bool) (t : TypeTree) → SuitsSort what t → HasObjectType (meaning what mark t)
meaning_has sort.TypeName mark t suits = tt
meaning_has sort.Object mark t suits = made_object t suits
meaning_has sort.Function mark t suits = function_has mark t suits

added_if : (b : Bool) (name : List ℕ) (x : Symbol) → HasObjectType x → HaveObjectTypes (if b then entry.Symbol name x ∷ [] else [])
added_if true name x h = (h, tt)
added_if false name x h = tt

-- the entry that a declarator adds
pub added_objects : (structs : Structs) (word : Option Storage) (defines differs lacking mark : Bool) (c : Option ℕ) (t : TypeTree) (shape : TailShape) (name : List ℕ) (earlier : Option Symbol) (i : MaybeInitTree) (x : Fact) → HasEarlier earlier
    → declarator_rule structs word (sort_of word shape t) earlier i (agreement_first differs (size_first lacking (tail_type structs defines c t shape))) ≡ Fits x → HaveObjectTypes (added name (sort_of word shape t) mark earlier x.ty)
added_objects structs word defines differs lacking mark c t shape name earlier i x has e =
    let what = sort_of word shape t in
    let f = fitting_at structs word what earlier i (agreement_first differs (size_first lacking (tail_type structs defines c t shape))) x e in
    let own = size_passed lacking (tail_type structs defines c t shape) f.own (agreement_passed differs (size_first lacking (tail_type structs defines c t shape)) f.own f.is) in
    let suits : SuitsSort what x.ty = subst (SuitsSort what) f.type (sort_suits structs word (is_begun i) defines c t shape f.own own f.may) in
    let holds = holds_suits what earlier x.ty (agreement earlier x.ty) has f.clear suits in
    added_if (says_more (was_marked earlier) mark (agreement earlier x.ty)) name (meaning what (mark || was_marked earlier) (holding earlier x.ty (agreement earlier x.ty)))
    (meaning_has what (mark || was_marked earlier) (holding earlier x.ty (agreement earlier x.ty)) holds)
