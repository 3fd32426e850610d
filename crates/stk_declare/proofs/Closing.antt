-- Structs: one that is new, one that gets its members, and members so far.
use Rattle.std.proofs.Common.{◌≡◌, ◌∙◌, ◌≤◌, ◌+◌, ◌++◌, ℕ, Bool, true, false, ◌&&◌, ◌||◌, not, List, [], ◌∷◌, length, Option, Some, None, Ok, refl, sym, ap, subst, arith, inl, inr, ◌⊎◌, length-append}
use Rattle.std.specs.Prelude.{IsSome, slice_index_or, if◌then◌else◌, nat_le}
use Rattle.std.specs.Option.{is_some, option_map}
use Rattle.std.proofs.lemmas.Bool.{leb-true, false≢true}
use Rattle.stk_ctype.specs.declared.ctype.CType.{CType}
use Rattle.stk_ctype.specs.declared.symbol.MemberInfo.{MemberInfo}
use Rattle.stk_ctype.specs.declared.symbol.NameEntry.{NameEntry}
use Rattle.stk_ctype.specs.declared.symbol.NameEntry.TheVariants as entry
use Rattle.stk_ctype.specs.Types.{TypeTree, void_type, integer_type, pointer_type, array_type, struct_type, function_type, type_of}
use Rattle.stk_ctype.specs.Structs.{Structs, StructLayout, structs_of, struct_at, struct_size, size_of, size_limit, layout_of, within_limit}
use Rattle.stk_ctype.specs.Sound.{IsSound, IsWithinLimit, IsMember, IsLastMember, IsOpenArray, AreMembers, RestsOn}
use Rattle.stk_ctype.specs.Names.{struct_count}
use Rattle.stk_ctype.proofs.Noting.{structs_behind-append, length-structs_behind}
use Rattle.stk_type_rules.specs.declared.facts.NodeFact.{NodeFact}
use Rattle.stk_type_rules.specs.Facts.{Ruled, Breaks, Fits, fact_of, names_type}
use Rattle.stk_type_rules.specs.Outcome.{Good, and_then, finish}
use Rattle.stk_type_rules.specs.Types.{is_complete}
use Rattle.stk_declare.specs.Answers.{Answers}
use Rattle.stk_declare.specs.Members.{AreComplete, AreMembersSoFar}
use Rattle.stk_declare.specs.Shown.{based}
use Rattle.stk_declare.specs.Structs.{Opening, struct_rule, may_be_member, is_empty}
use Rattle.stk_declare.specs.Symbols.{is_open_array}

-- ---- a struct that is new

last_none : (s : Structs) → slice_index_or (s ++ None ∷ []) (length s) None ≡ None
last_none [] = refl
last_none (x ∷ s) = last_none s

pub open_sound : (es now : List NameEntry) (tag : Option (List ℕ)) (id : ℕ) → now ≡ es ++ entry.Struct tag ∷ [] → id ≡ struct_count es → IsSound (structs_of now) (struct_type id)
open_sound es now tag id is count =
    let s : Structs = structs_of es in
    let grown : structs_of now ≡ s ++ None ∷ [] = ap structs_of is ∙ structs_behind-append [] es (entry.Struct tag) in
    let many : length s ≡ 0 + struct_count es = length-structs_behind [] es in
    let same : id ≡ length s = omega (arith, count, many) in
    let longer : length (s ++ None ∷ []) ≡ length s + 1 = length-append s (None ∷ []) in
    let incomplete : struct_at (s ++ None ∷ []) id ≡ None = ap (struct_at (s ++ None ∷ [])) same ∙ last_none s in
    let P : Structs → Type 0 = λ z. IsSound z (struct_type id) in
    subst P (sym grown) (omega (arith, same, longer), subst (λ (o : Option StructLayout). IsWithinLimit (option_map (λ l. l.size) o)) (sym incomplete) tt)

-- ---- a struct that gets its members

rule_by : Bool → Bool → ℕ → Ruled
rule_by fits twice id = if fits then (if twice then Breaks 17 else Fits (names_type (struct_type id))) else Breaks 5

both_of : (a b : Bool) → a && b ≡ true → (a ≡ true) × (b ≡ true)
both_of true b h = (refl, h)
both_of false b h = absurd (false≢true h)

none_of : {A : Type 0} (o : Option A) → is_some o ≡ false → o ≡ None
none_of None h = refl
none_of (Some x) h = absurd (false≢true (sym h))

second_false : (a b : Bool) → (a || b) ≡ false → b ≡ false
second_false true b h = absurd (false≢true (sym h))
second_false false b h = h

-- a number that is within the limit
within : (n : ℕ) → is_some (within_limit n) ≡ true → (1 ≤ n) × (n ≤ size_limit)
within n h = on (nat_le 1 n && nat_le n size_limit) refl h where
  on : (b : Bool) → nat_le 1 n && nat_le n size_limit ≡ b → is_some (if b then Some n else None) ≡ true → (1 ≤ n) × (n ≤ size_limit)
  on true e h = let two = both_of (nat_le 1 n) (nat_le n size_limit) e in (leb-true 1 n two.0, leb-true n size_limit two.1)
  on false e h = absurd (false≢true h)

-- what it says that the rule is kept
pub record Keeps_rule (structs : Structs) (o : Opening) (ms : List MemberInfo) : Type 0 where
  pub fits : is_some (layout_of structs ms) ≡ true
  pub once : (o.clash || is_some (struct_at structs o.id)) ≡ false

kept_by : (k : ℕ) (fits twice : Bool) (id : ℕ) (f : NodeFact) → Answers (λ x v. fact_of v ≡ x) (finish k (rule_by fits twice id)) (Ok f) → (fits ≡ true) × (twice ≡ false)
unfolding rule_by
kept_by k true true id f h = absurd h
kept_by k true false id f h = (refl, refl)
kept_by k false twice id f h = absurd h

pub rule_kept : (k : ℕ) (structs : Structs) (o : Opening) (ms : List MemberInfo) (f : NodeFact) → Answers (λ x v. fact_of v ≡ x) (finish k (struct_rule structs o ms)) (Ok f) → Keeps_rule structs o ms
unfolding rule_by
rule_kept k structs o ms f h =
    let two = kept_by k (is_some (layout_of structs ms)) (o.clash || is_some (struct_at structs o.id)) o.id f h in
    record { fits = two.0; once = two.1 }

pub members_rest : (structs : Structs) (o : Opening) (ms : List MemberInfo) → Keeps_rule structs o ms → IsSound structs (struct_type o.id) → AreMembers structs ms → RestsOn structs (entry.Members o.id ms)
members_rest structs o ms h so are =
    let size = within (struct_size structs ms) h.fits in
    (so.0, none_of (struct_at structs o.id) (second_false o.clash (is_some (struct_at structs o.id)) h.once), are, size.0, size.1)

closed_by : (k : ℕ) (fits twice : Bool) (id : ℕ) (es now : List NameEntry) (t : CType) → fits ≡ true → twice ≡ false → now ≡ es → type_of t ≡ struct_type id
    → Answers (λ x v. based now v ≡ x) (and_then (finish k (rule_by fits twice id)) (λ x. Good (record { entries = es; ty = x.ty }) [])) (Ok t)
unfolding rule_by
closed_by k true true id es now t fits once is ty = absurd (false≢true (sym once))
closed_by k true false id es now t fits once is ty = λ j. record { entries = is j; ty = ty j }
closed_by k false twice id es now t fits once is ty = absurd (false≢true fits)

pub struct_made : (k : ℕ) (structs : Structs) (o : Opening) (ms : List MemberInfo) (es now : List NameEntry) (t : CType) → Keeps_rule structs o ms → now ≡ es → type_of t ≡ struct_type o.id
    → Answers (λ x v. based now v ≡ x) (and_then (finish k (struct_rule structs o ms)) (λ x. Good (record { entries = es; ty = x.ty }) [])) (Ok t)
unfolding rule_by
struct_made k structs o ms es now t h is ty = closed_by k (is_some (layout_of structs ms)) (o.clash || is_some (struct_at structs o.id)) o.id es now t h.fits h.once is ty

-- ---- members so far

some_of : {A : Type 0} (o : Option A) → is_some o ≡ true → IsSome o
some_of None h = absurd (false≢true h)
some_of (Some x) h = refl

open_of : (t : TypeTree) → is_open_array t ≡ true → IsOpenArray t
open_of void_type h = absurd (false≢true h)
open_of (integer_type k) h = absurd (false≢true h)
open_of (pointer_type t) h = absurd (false≢true h)
open_of (array_type t None) h = refl
open_of (array_type t (Some n)) h = absurd (false≢true h)
open_of (struct_type id) h = absurd (false≢true h)
open_of (function_type f) h = absurd (false≢true h)

-- a member that may be the last one, by two tests
last_by : (structs : Structs) (t : TypeTree) (complete unsized may : Bool) → is_some (size_of structs t) ≡ complete → is_open_array t ≡ unsized → (complete || (unsized && may)) ≡ true → IsSome (size_of structs t) ⊎ IsOpenArray t
last_by structs t true unsized may c o h = inl (some_of (size_of structs t) c)
last_by structs t false true may c o h = inr (open_of t o)
last_by structs t false false may c o h = absurd (false≢true h)

pub last_member : (structs : Structs) (first last : Bool) (m : MemberInfo) → is_complete structs (type_of m.ty) ≡ is_some (size_of structs (type_of m.ty)) → may_be_member structs first last (type_of m.ty) ≡ true → IsSound structs (type_of m.ty) → IsLastMember structs m
last_member structs first last m complete may so =
    (so, last_by structs (type_of m.ty) (is_some (size_of structs (type_of m.ty))) (is_open_array (type_of m.ty)) (last && not first) refl refl (sym (ap (λ b. b || (is_open_array (type_of m.ty) && (last && not first))) complete) ∙ may))

inner_by : (structs : Structs) (t : TypeTree) (complete unsized : Bool) → is_some (size_of structs t) ≡ complete → (complete || (unsized && false)) ≡ true → IsSome (size_of structs t)
inner_by structs t true unsized c h = some_of (size_of structs t) c
inner_by structs t false true c h = absurd (false≢true h)
inner_by structs t false false c h = absurd (false≢true h)

pub inner_member : (structs : Structs) (first : Bool) (m : MemberInfo) → is_complete structs (type_of m.ty) ≡ is_some (size_of structs (type_of m.ty)) → may_be_member structs first false (type_of m.ty) ≡ true → IsSound structs (type_of m.ty) → IsMember structs m
inner_member structs first m complete may so =
    (so, inner_by structs (type_of m.ty) (is_some (size_of structs (type_of m.ty))) (is_open_array (type_of m.ty)) refl (sym (ap (λ b. b || (is_open_array (type_of m.ty) && false)) complete) ∙ may))

pub complete_behind : (structs : Structs) (ms : List MemberInfo) (m : MemberInfo) → AreComplete structs ms → IsMember structs m → AreComplete structs (ms ++ m ∷ [])
complete_behind structs [] m all is = (is, tt)
complete_behind structs (x ∷ ms) m all is = (all.0, complete_behind structs ms m all.1 is)

pub last_behind : (structs : Structs) (ms : List MemberInfo) (m : MemberInfo) → AreComplete structs ms → IsLastMember structs m → AreMembers structs (ms ++ m ∷ [])
last_behind structs [] m all is = is
last_behind structs (x ∷ []) m all is = (all.0, is)
last_behind structs (x ∷ y ∷ ms) m all is = (all.0, last_behind structs (y ∷ ms) m all.1 is)

-- members of which each is complete may be all
pub all_complete : (structs : Structs) (ms : List MemberInfo) → AreComplete structs ms → AreMembers structs ms
all_complete structs [] all = tt
all_complete structs (m ∷ []) all = (all.0.0, inl all.0.1)
all_complete structs (m ∷ n ∷ ms) all = (all.0, all_complete structs (n ∷ ms) all.1)

pub so_far : (last : Bool) (structs : Structs) (ms : List MemberInfo) → AreComplete structs ms → AreMembersSoFar last structs ms
so_far true structs ms all = all_complete structs ms all
so_far false structs ms all = all

-- one member more
pub so_far_more : (last : Bool) (structs : Structs) (ms now : List MemberInfo) (m : MemberInfo) → now ≡ ms ++ m ∷ [] → AreComplete structs ms → IsSound structs (type_of m.ty) → may_be_member structs (is_empty ms) last (type_of m.ty) ≡ true → AreMembersSoFar last structs now
so_far_more true structs ms now m is all so may = subst (λ (z : List MemberInfo). AreMembers structs z) (sym is) (last_behind structs ms m all (last_member structs (is_empty ms) true m refl may so))
so_far_more false structs ms now m is all so may = subst (λ (z : List MemberInfo). AreComplete structs z) (sym is) (complete_behind structs ms m all (inner_member structs (is_empty ms) m refl may so))
