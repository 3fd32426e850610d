-- The place of a member by its name.
use Rattle.std.proofs.Common.{◌≡◌, ℕ, zero, suc, ◌+◌, ◌-◌, ◌<◌, ◌≤◌, Bool, true, false, cond, List, [], ◌∷◌, Option, Some, None, MatchOption, length, refl, ap, sym, subst, ◌∙◌, arith}
use Rattle.std.specs.Prelude.{slice_index_or}
use Rattle.stk_base.specs.Text.{same_text}
use Rattle.stk_ctype.specs.declared.ctype.CType.{CType}
use Rattle.stk_ctype.specs.declared.symbol.MemberInfo.{MemberInfo}
use Rattle.stk_ctype.specs.Names.{later_of}
use Rattle.stk_ctype.specs.Structs.{member_named}
use Rattle.stk_ctype.specs.Index.{last_meaning}
use Rattle.stk_ctype.specs.Facts.{member_words}
use Rattle.stk_ctype.proofs.Lookups.{last-append}

-- the offset and the type of the member at a place
abbrev pub at_place : List MemberInfo → List ℕ → ℕ → Option (ℕ × CType)
at_place [] offsets p = None
at_place (m ∷ ms) [] p = None
at_place (m ∷ ms) (o ∷ os) zero = Some (o, m.ty)
at_place (m ∷ ms) (o ∷ os) (suc p) = at_place ms os p

-- a place that is found, counted from a first one, is that of the first member of the name
pub record IsMemberPlace (name : List ℕ) (first : ℕ) (ms : List MemberInfo) (os : List ℕ) (p : ℕ) : Type 0 where
  pub low : first ≤ p
  pub high : p < first + length ms
  pub same : member_named name ms os ≡ at_place ms os (p - first)

nowhere : (ms : List MemberInfo) (p : ℕ) → at_place ms [] p ≡ None
nowhere [] p = refl
nowhere (m ∷ ms) p = refl

none_named : (name : List ℕ) (ms : List MemberInfo) → member_named name ms [] ≡ None
none_named name [] = refl
none_named name (m ∷ ms) = refl

-- what is found of a member and those behind it, by whether it has the name
join : (b : Bool) (name : List ℕ) (first : ℕ) (m : MemberInfo) (ms : List MemberInfo) (o : ℕ) (os : List ℕ) (rest : Option ℕ) → MatchOption rest (member_named name ms os ≡ None) (IsMemberPlace name (first + 1) ms os)
    → (named : Option (ℕ × CType)) → named ≡ cond b (Some (o, m.ty)) (member_named name ms os) → named ≡ member_named name (m ∷ ms) (o ∷ os)
    → MatchOption (later_of rest (cond b (Some first) None)) (member_named name (m ∷ ms) (o ∷ os) ≡ None) (IsMemberPlace name first (m ∷ ms) (o ∷ os))
join true name first m ms o os rest there named is same =
    let here : 0 ≡ first - first = omega arith in
    record { low = omega arith; high = omega arith; same = sym same ∙ is ∙ ap (at_place (m ∷ ms) (o ∷ os)) here }
join false name first m ms o os None there named is same = sym same ∙ is ∙ there
join false name first m ms o os (Some p) there named is same =
    let step : suc (p - (first + 1)) ≡ p - first = omega (arith, there.low) in
    record { low = omega (arith, there.low); high = omega (arith, there.high); same = sym same ∙ is ∙ there.same ∙ ap (at_place (m ∷ ms) (o ∷ os)) step }

join_bare : (b : Bool) (name : List ℕ) (first : ℕ) (m : MemberInfo) (ms : List MemberInfo) (rest : Option ℕ) → MatchOption rest (member_named name ms [] ≡ None) (IsMemberPlace name (first + 1) ms [])
    → MatchOption (later_of rest (cond b (Some first) None)) (member_named name (m ∷ ms) [] ≡ None) (IsMemberPlace name first (m ∷ ms) [])
join_bare true name first m ms rest there = record { low = omega arith; high = omega arith; same = refl }
join_bare false name first m ms None there = refl
join_bare false name first m ms (Some p) there = record { low = omega (arith, there.low); high = omega (arith, there.high); same = refl }

pub member_found : (name : List ℕ) (first : ℕ) (ms : List MemberInfo) (os : List ℕ) → MatchOption (last_meaning name (member_words first ms)) (member_named name ms os ≡ None) (IsMemberPlace name first ms os)
member_found name first [] os = refl
member_found name first (m ∷ ms) [] =
    subst (λ w. MatchOption w (member_named name (m ∷ ms) [] ≡ None) (IsMemberPlace name first (m ∷ ms) [])) (sym (last-append name (member_words (first + 1) ms) ((m.name, first) ∷ [])))
    (join_bare (same_text m.name name) name first m ms (last_meaning name (member_words (first + 1) ms)) (member_found name (first + 1) ms []))
member_found name first (m ∷ ms) (o ∷ os) =
    subst (λ w. MatchOption w (member_named name (m ∷ ms) (o ∷ os) ≡ None) (IsMemberPlace name first (m ∷ ms) (o ∷ os))) (sym (last-append name (member_words (first + 1) ms) ((m.name, first) ∷ [])))
    (join (same_text m.name name) name first m ms o os (last_meaning name (member_words (first + 1) ms)) (member_found name (first + 1) ms os) (member_named name (m ∷ ms) (o ∷ os)) refl refl)

-- a name that has no place is that of no member
pub no_member : (name : List ℕ) (ms : List MemberInfo) (os : List ℕ) → last_meaning name (member_words 0 ms) ≡ None → member_named name ms os ≡ None
no_member name ms os e = subst (λ w. MatchOption w (member_named name ms os ≡ None) (IsMemberPlace name 0 ms os)) e (member_found name 0 ms os)

pub member_there : (name : List ℕ) (ms : List MemberInfo) (os : List ℕ) (p : ℕ) → last_meaning name (member_words 0 ms) ≡ Some p → IsMemberPlace name 0 ms os p
member_there name ms os p e = subst (λ w. MatchOption w (member_named name ms os ≡ None) (IsMemberPlace name 0 ms os)) e (member_found name 0 ms os)

at_some : (ms : List MemberInfo) (os : List ℕ) (p o : ℕ) (d : MemberInfo) → p < length ms → p < length os → o ≡ slice_index_or os p o → at_place ms os p ≡ Some (o, (slice_index_or ms p d).ty)
at_some [] os p o d h k e = absurd (omega (arith, h))
at_some (m ∷ ms) [] p o d h k e = absurd (omega (arith, k))
at_some (m ∷ ms) (x ∷ os) zero o d h k e = ap (λ n. Some (n, m.ty)) (sym e)
at_some (m ∷ ms) (x ∷ os) (suc p) o d h k e = at_some ms os p o d (omega (arith, h)) (omega (arith, k)) e

at_none : (ms : List MemberInfo) (os : List ℕ) (p : ℕ) → length os ≤ p → at_place ms os p ≡ None
at_none [] os p e = refl
at_none (m ∷ ms) [] p e = refl
at_none (m ∷ ms) (x ∷ os) zero e = absurd (omega (arith, e))
at_none (m ∷ ms) (x ∷ os) (suc p) e = at_none ms os p (omega (arith, e))

-- the member at the place of its name is the one of this name
pub is_member : (name : List ℕ) (ms : List MemberInfo) (os : List ℕ) (p o : ℕ) (m : MemberInfo) → last_meaning name (member_words 0 ms) ≡ Some p → p < length os → o ≡ slice_index_or os p o → Some (o, (slice_index_or ms p m).ty) ≡ member_named name ms os
is_member name ms os p o m e within there =
    let so = member_there name ms os p e in
    let first : p - 0 ≡ p = omega arith in
    sym (so.same ∙ ap (at_place ms os) first ∙ at_some ms os p o m (omega (arith, so.high)) within there)

pub no_offset : (name : List ℕ) (ms : List MemberInfo) (os : List ℕ) (p : ℕ) → last_meaning name (member_words 0 ms) ≡ Some p → length os ≤ p → member_named name ms os ≡ None
no_offset name ms os p e few =
    let so = member_there name ms os p e in
    let first : p - 0 ≡ p = omega arith in
    so.same ∙ ap (at_place ms os) first ∙ at_none ms os p few

pub is_within : (name : List ℕ) (ms : List MemberInfo) (p : ℕ) → last_meaning name (member_words 0 ms) ≡ Some p → p < length ms
is_within name ms p e = let so = member_there name ms [] p e in omega (arith, so.high)
