-- Parameters and their types, one after the other.
use Rattle.std.proofs.Common.{◌≡◌, ◌++◌, ◌||◌, ◌+◌, ℕ, suc, length, arith, Bool, true, false, List, [], ◌∷◌, map, refl, sym, ap, ◌∙◌, subst, append_assoc, append-nil, Result, Ok, Err}
use Rattle.std.proofs.lemmas.List.{map-append}
use Rattle.std.specs.Prelude.{OnOk}
use Rattle.stk_typing.specs.declared.locals.LocalName.{LocalName}
use Rattle.stk_ctype.specs.declared.ctype.CType.{CType}
use Rattle.stk_ctype.specs.Types.{TypeTree, function_type, signature, type_of, row_of}
use Rattle.stk_ctype.specs.Structs.{Structs}
use Rattle.stk_ctype.specs.Sound.{IsSound, AreSound}
use Rattle.stk_tree.specs.declared.declaration.Declr.{Declr, out-Declr, fold_out-Declr}
use Rattle.stk_tree.specs.declared.declaration.Item.{Item}
use Rattle.stk_tree.specs.declared.declaration.Param.{Param, out-Param, fold_out-Param}
use Rattle.stk_tree.specs.Syntax.{BaseFormTree, DesigTree, DimensionTree, InitTree, TailTree, ExprFormTree, BaseTree, DeclrTree, EnumrTree, ItemTree, MaybeInitTree, MemberTree, ParamTree, ParamTrees, TypeNameTree, ExprTree}
use Rattle.stk_tree.specs.Syntax as s
use Rattle.stk_tree.specs.View.{base_form_step, designator_step, dimension_step, initialiser_step, tail_step, expression_form_step, base_step, declarator_step, enumerator_step, item_step, member_step, parameter_step, type_name_step, expression_step, items, view_item, view_base, view_declarator, view_parameter, view_tail}
use Rattle.stk_type_rules.specs.declared.untyped.Untyped.{Untyped}
use Rattle.stk_type_rules.specs.Facts.{Fact, fact_at, plain}
use Rattle.stk_type_rules.specs.Outcome.{Outcome, Good, and_then, finish, IsAt, Gives}
use Rattle.stk_type_rules.proofs.Steps.{goes}
use Rattle.stk_typing.proofs.Turns.{mapped}
use Rattle.stk_typing.specs.Locals.{Local, AreSoundLocals, local_of}
use Rattle.stk_typing.specs.Scope.{Scope, unevaluated}
use Rattle.stk_typing.specs.Arrays.{starred}
use Rattle.stk_typing.specs.Forms.{structs_in}
use Rattle.stk_typing.specs.Typing.{base_typed, dimensions_typed}
use Rattle.stk_declarators.specs.declared.prototypes.Params.{Params}
use Rattle.stk_declarators.specs.Counting.{item_count}
use Rattle.stk_declarators.specs.Parameters.{Parameter, parameter_rule, is_taken, name_text, array_parts, with_locals, as_local, as_locals, types_of, is_unnamed, have_unnamed, parameter_type, parameter_typed, parameter_of, parameters_typed}
use Rattle.stk_declarators.specs.Rows.{AreSoundTypes, AreParams}

-- ---- the types of a signature are sound
row_sound : (structs : Structs) (ts : List CType) → AreSoundTypes structs ts → AreSound structs (row_of (map type_of ts))
row_sound structs [] so = tt
row_sound structs (t ∷ ts) so = (so.0, row_sound structs ts so.1)

pub type_behind : (structs : Structs) (ts : List CType) (t : CType) → IsSound structs (type_of t) → AreSoundTypes structs ts → AreSoundTypes structs (ts ++ t ∷ [])
type_behind structs [] t so all = (so, tt)
type_behind structs (x ∷ ts) t so all = (all.0, type_behind structs ts t so all.1)

local_behind : (structs : Structs) (ls : List Local) (l : Local) → IsSound structs l.ty → AreSoundLocals structs ls → AreSoundLocals structs (ls ++ l ∷ [])
local_behind structs [] l so all = (so, tt)
local_behind structs (x ∷ ls) l so all = (all.0, local_behind structs ls l so all.1)

pub local_pushed : {E : Type 0} (structs : Structs) (r : Result (Unit {0}) E) (old new : List LocalName) (l : LocalName) → OnOk r (new ≡ old ++ l ∷ []) → IsSound structs (type_of l.ty) → AreSoundLocals structs (map local_of old) → OnOk r (AreSoundLocals structs (map local_of new))
local_pushed structs (Ok u) old new l is so all = subst (λ (ls : List Local). AreSoundLocals structs ls) (sym (ap (map local_of) is ∙ map-append local_of old (l ∷ []))) (local_behind structs (map local_of old) (local_of l) so all)
local_pushed structs (Err e) old new l is so all = tt

-- ---- items are as many as the list has
pub counted : (xs : List Item) → item_count (items (map view_item xs)) ≡ length xs
counted [] = refl
counted (x ∷ xs) = let one : length xs + 1 ≡ suc (length xs) = omega arith in ap (λ n. n + 1) (counted xs) ∙ one

pub function_sound : (structs : Structs) (r : CType) (ps : List CType) (more no_return : Bool) (t : TypeTree) → t ≡ function_type (signature (type_of r) (row_of (map type_of ps)) more no_return) → IsSound structs (type_of r) → AreSoundTypes structs ps → IsSound structs t
function_sound structs r ps more no_return t is given so = subst (IsSound structs) (sym is) (given, row_sound structs ps so)

-- ---- what the trees of the code show
-- a declarator, with some initialiser or none
view_declared : (d : Declr) → (i : MaybeInitTree) × (view_declarator d ≡ s.declarator (out-Declr d).node (out-Declr d).stars (out-Declr d).name (view_tail (out-Declr d).tail) i)
view_declared d = (_, fold_out-Declr BaseFormTree DesigTree DimensionTree InitTree TailTree ExprFormTree BaseTree DeclrTree EnumrTree ItemTree MemberTree ParamTree TypeNameTree ExprTree base_form_step designator_step dimension_step initialiser_step tail_step expression_form_step base_step declarator_step enumerator_step item_step member_step parameter_step type_name_step expression_step d)

view_given : (p : Param) → view_parameter p ≡ s.parameter (out-Param p).node (view_base (out-Param p).base) (view_declarator (out-Param p).declr)
view_given p = fold_out-Param BaseFormTree DesigTree DimensionTree InitTree TailTree ExprFormTree BaseTree DeclrTree EnumrTree ItemTree MemberTree ParamTree TypeNameTree ExprTree base_form_step designator_step dimension_step initialiser_step tail_step expression_form_step base_step declarator_step enumerator_step item_step member_step parameter_step type_name_step expression_step p

pub view_whole : (p : Param) → (i : MaybeInitTree) × (view_parameter p ≡ s.parameter (out-Param p).node (view_base (out-Param p).base) (s.declarator (out-Declr (out-Param p).declr).node (out-Declr (out-Param p).declr).stars (out-Declr (out-Param p).declr).name (view_tail (out-Declr (out-Param p).declr).tail) i))
view_whole p = let d = view_declared (out-Param p).declr in (d.0, view_given p ∙ ap (s.parameter (out-Param p).node (view_base (out-Param p).base)) d.1)

-- what a parameter is, by its parts
pub given_parameter : (bytes : List ℕ) (t : TypeTree) (p : Param) → let d = out-Declr (out-Param p).declr in parameter_of bytes t (view_parameter p) ≡ record { name = name_text bytes d.name; node = d.node.number; ty = t }
given_parameter bytes t p = ap (parameter_of bytes t) (view_whole p).1

pub given_type : (scope : Scope) (defines : Bool) (p : Param) → let d = out-Declr (out-Param p).declr in
    parameter_type scope defines (view_parameter p) ≡ and_then (base_typed scope (view_base (out-Param p).base)) (λ x. and_then (dimensions_typed (unevaluated scope) (array_parts (view_tail d.tail))) (λ sizes.
    finish d.node.number (parameter_rule (structs_in scope) defines (is_taken scope.locals (name_text scope.bytes d.name)) sizes (starred d.stars x.ty))))
given_type scope defines p = ap (parameter_type scope defines) (view_whole p).1

-- ---- parameters behind others
-- the types are those before and those of the parameters, and so on
pub record AreBehind (acc : Params) (before now : List Local) (ps : List Parameter) (r : Params) : Type 0 where
  pub types : map type_of r.types.items ≡ map type_of acc.types.items ++ types_of ps
  pub unnamed : r.unnamed ≡ (acc.unnamed || have_unnamed ps)
  pub locals : now ≡ before ++ as_locals ps

or_assoc : (p q r : Bool) → ((p || q) || r) ≡ (p || (q || r))
or_assoc true q r = refl
or_assoc false q r = refl

or_false : (p : Bool) → (p || false) ≡ p
or_false true = refl
or_false false = refl

pub none_behind : (acc : Params) (before : List Local) → AreBehind acc before before [] acc
none_behind acc before = record { types = sym (append-nil (map type_of acc.types.items)); unnamed = sym (or_false acc.unnamed); locals = sym (append-nil before) }

one_more : (acc next r : Params) (before mid now : List Local) (l : Parameter) (ls : List Parameter) → map type_of next.types.items ≡ map type_of acc.types.items ++ l.ty ∷ [] → next.unnamed ≡ (acc.unnamed || is_unnamed l) → mid ≡ before ++ as_local l
    → AreBehind next mid now ls r → AreBehind acc before now (l ∷ ls) r
one_more acc next r before mid now l ls types unnamed locals so = record {
  types = so.types ∙ ap (λ ts. ts ++ types_of ls) types ∙ append_assoc (map type_of acc.types.items) (l.ty ∷ []) (types_of ls);
  unnamed = so.unnamed ∙ ap (λ b. b || have_unnamed ls) unnamed ∙ or_assoc acc.unnamed (is_unnamed l) (have_unnamed ls);
  locals = so.locals ∙ ap (λ xs. xs ++ as_locals ls) locals ∙ append_assoc before (as_local l) (as_locals ls);
}

pub parameters_turn : (scope next_scope : Scope) (defines : Bool) (p : ParamTree) (ps : ParamTrees) (acc next : Params) (before mid now : List Local) (l : Parameter) (i : ℕ) (result : Result Params Untyped) (a b c : List Fact) →
    Gives (IsAt b) (parameter_typed scope defines p) (Ok i) a b → parameter_of scope.bytes (fact_at b i).ty p ≡ l →
    map type_of next.types.items ≡ map type_of acc.types.items ++ l.ty ∷ [] → next.unnamed ≡ (acc.unnamed || is_unnamed l) → mid ≡ before ++ as_local l → next_scope ≡ with_locals scope (as_local l) →
    Gives (AreBehind next mid now) (parameters_typed next_scope defines ps) result b c →
    Gives (AreBehind acc before now) (parameters_typed scope defines (s.then_parameter p ps)) result a c
parameters_turn scope next_scope defines p ps acc next before mid now l i result a b c h made types unnamed locals grown g =
    let from_parameter : Parameter → Outcome (List Parameter) = λ m. and_then (parameters_typed (with_locals scope (as_local m)) defines ps) (λ ls. Good (m ∷ ls) []) in
    goes (IsAt b) (AreBehind acc before now) (parameter_typed scope defines p) (λ y. from_parameter (parameter_of scope.bytes y.ty p)) i result a b c h
    (λ y at. subst (λ (m : Parameter). Gives (AreBehind acc before now) (from_parameter m) result b c) (sym made ∙ ap (λ (f : Fact). parameter_of scope.bytes f.ty p) at.is)
    (mapped (AreBehind next mid now) (AreBehind acc before now) (parameters_typed (with_locals scope (as_local l)) defines ps) (λ ls. l ∷ ls) result b c
    (λ ls r so. one_more acc next r before mid now l ls types unnamed locals so)
    (subst (λ (z : Scope). Gives (AreBehind next mid now) (parameters_typed z defines ps) result b c) grown g)))
