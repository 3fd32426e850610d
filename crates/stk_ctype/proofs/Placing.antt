-- Placing the members of a struct one after the other.
use Rattle.std.proofs.Common.{◌≡◌, ◌<◌, ◌≤◌, ◌+◌, ℕ, suc, Bool, true, false, List, [], ◌∷◌, ◌++◌, Option, Some, None, length, refl, sym, ap, subst, ◌∙◌, arith, append_assoc, max, drop, add-one, drop-cons, le-leb, cond}
use Rattle.std.specs.Prelude.{IfSome, slice_index_or, nat_le, ◌&&◌}
use mathlib.Core.Logic.{⊎_elim}
use Rattle.std.specs.Option.{option_map_or}
use Rattle.std.proofs.lemmas.Bool.Decides.{leb_tells}
use Rattle.std.proofs.lemmas.Bool.{leb-true}
use Rattle.stk_ctype.specs.declared.symbol.MemberInfo.{MemberInfo}
use Rattle.stk_ctype.specs.declared.symbol.NameEntry.{NameEntry}
use Rattle.stk_ctype.specs.declared.facts.Layout.{Layout}
use Rattle.stk_ctype.specs.declared.facts.Facts.{Facts}
use Rattle.stk_ctype.specs.Types.{TypeTree, void_type, integer_type, pointer_type, array_type, struct_type, function_type, type_of}
use Rattle.stk_ctype.specs.Structs.{Structs, StructLayout, struct_at, structs_of, alignment_of, size_limit, round_up, offset_behind, end_behind, offsets_behind, end_of, greatest_alignment, struct_size, within_limit}
use Rattle.stk_ctype.specs.Sound.{IsSound, AreMembers}
use Rattle.stk_ctype.specs.Facts.{IsKept, AreFactsOf}
use Rattle.stk_ctype.proofs.SizesOfTypes.{bytes_least}

-- ---- alignments are at least 1
abbrev pub HaveAlignments : Structs → Type 0
HaveAlignments structs = (id : ℕ) → IfSome (struct_at structs id) (λ s. 1 ≤ s.alignment)

kept_alignment : (es : List NameEntry) (id : ℕ) (k : Option Layout) (s : Option StructLayout) → IsKept es id k s → IfSome s (λ l. 1 ≤ l.alignment)
kept_alignment es id None None so = tt
kept_alignment es id None (Some s) so = absurd so
kept_alignment es id (Some k) None so = tt
kept_alignment es id (Some k) (Some s) so = so.least

pub have_alignments : (facts : Facts) (es : List NameEntry) → AreFactsOf facts es → HaveAlignments (structs_of es)
have_alignments facts es so id = kept_alignment es id _ _ (so.layouts id)

mapped_alignment : (o : Option StructLayout) → IfSome o (λ s. 1 ≤ s.alignment) → 1 ≤ option_map_or (λ s. s.alignment) o 1
mapped_alignment None so = omega arith
mapped_alignment (Some s) so = so

least_alignment : (S : Structs) → HaveAlignments S → (t : TypeTree) → 1 ≤ alignment_of S t
least_alignment S have void_type = omega arith
least_alignment S have (integer_type k) = bytes_least k
least_alignment S have (pointer_type t) = omega arith
least_alignment S have (array_type t count) = least_alignment S have t
least_alignment S have (struct_type id) = mapped_alignment (struct_at S id) (have id)
least_alignment S have (function_type f) = omega arith

greatest_least : (S : Structs) (ms : List MemberInfo) → 1 ≤ greatest_alignment S ms
greatest_least S [] = omega arith
greatest_least S (m ∷ ms) = omega (arith, greatest_least S ms)

-- ---- places only grow
pub round_up_least : (a n : ℕ) → 1 ≤ a → n ≤ round_up a n
round_up_least a n h = let some : 0 < a = h in omega arith

end_behind_least : (S : Structs) → HaveAlignments S → (behind : ℕ) (m : MemberInfo) → behind ≤ end_behind S behind m
end_behind_least S have behind m = omega (arith, round_up_least (alignment_of S (type_of m.ty)) behind (least_alignment S have (type_of m.ty)))

end_of_least : (S : Structs) → HaveAlignments S → (behind : ℕ) (ms : List MemberInfo) → behind ≤ end_of S behind ms
end_of_least S have behind [] = omega arith
end_of_least S have behind (m ∷ ms) = omega (arith, end_behind_least S have behind m, end_of_least S have (end_behind S behind m) ms)

size_least : (S : Structs) (ms : List MemberInfo) → end_of S 0 ms ≤ struct_size S ms
size_least S ms = round_up_least (greatest_alignment S ms) (end_of S 0 ms) (greatest_least S ms)

-- ---- the loop
sound_front : (S : Structs) (m : MemberInfo) (ms : List MemberInfo) → AreMembers S (m ∷ ms) → IsSound S (type_of m.ty) × AreMembers S ms
sound_front S m [] so = (so.0, tt)
sound_front S m (next ∷ ms) so = (so.0.0, so.1)

-- the members before the rest are placed: they end at `behind`, and have this alignment
pub record ArePlaced (S : Structs) (all rest : List MemberInfo) (behind alignment : ℕ) : Type 0 where
  pub sound : AreMembers S rest
  pub end : end_of S behind rest ≡ end_of S 0 all
  pub greatest : max alignment (greatest_alignment S rest) ≡ greatest_alignment S all
  pub small : behind ≤ size_limit
  pub least : 1 ≤ alignment
  pub most : alignment ≤ 8

pub none_placed : (S : Structs) (all : List MemberInfo) → AreMembers S all → ArePlaced S all all 0 1
none_placed S all so = record { sound = so; end = refl; greatest = omega (arith, greatest_least S all); small = omega arith; least = omega arith; most = omega arith }

-- what is left begins with the member at hand
pub next_member : (all : List MemberInfo) (i : ℕ) (m : MemberInfo) → i < length all → m ≡ slice_index_or all i m → drop i all ≡ m ∷ drop (i + 1) all
next_member all i m within is = drop-cons all i m within ∙ ap (λ x. x ∷ drop (suc i) all) (sym is) ∙ ap (λ n. m ∷ drop n all) (sym (add-one i))

pub placed_sound : (S : Structs) (all rest ms : List MemberInfo) (m : MemberInfo) (behind alignment : ℕ) → rest ≡ m ∷ ms → ArePlaced S all rest behind alignment → IsSound S (type_of m.ty)
placed_sound S all rest ms m behind alignment is so = (sound_front S m ms (subst (AreMembers S) is so.sound)).0

pub placed_more : (S : Structs) (all rest ms : List MemberInfo) (m : MemberInfo) (behind alignment next own : ℕ) → rest ≡ m ∷ ms → ArePlaced S all rest behind alignment → next ≡ end_behind S behind m → own ≡ alignment_of S (type_of m.ty)
    → next ≤ size_limit → 1 ≤ own → own ≤ 8 → ArePlaced S all ms next (max own alignment)
placed_more S all rest ms m behind alignment next own is so at aligned small least most = record {
  sound = (sound_front S m ms (subst (AreMembers S) is so.sound)).1;
  end = ap (λ n. end_of S n ms) at ∙ sym (ap (end_of S behind) is) ∙ so.end;
  greatest = omega (arith, aligned, sym (ap (greatest_alignment S) is), so.greatest);
  small = small;
  least = omega (arith, so.least);
  most = omega (arith, so.most, most);
}

pub all_placed : (S : Structs) (all rest : List MemberInfo) (behind alignment : ℕ) → rest ≡ [] → ArePlaced S all rest behind alignment → (behind ≡ end_of S 0 all) × (alignment ≡ greatest_alignment S all)
all_placed S all rest behind alignment is so =
    (sym (ap (end_of S behind) is) ∙ so.end, omega (arith, so.greatest, ap (greatest_alignment S) is, so.least))

pub all_sized : (S : Structs) (all rest : List MemberInfo) (behind alignment : ℕ) → rest ≡ [] → ArePlaced S all rest behind alignment → round_up alignment behind ≡ struct_size S all
all_sized S all rest behind alignment is so =
    let both = all_placed S all rest behind alignment is so in
    ap (λ a. round_up a behind) both.1 ∙ ap (round_up (greatest_alignment S all)) both.0

-- where a member ends past the limit the struct is too large
pub too_large : (S : Structs) (all rest ms : List MemberInfo) (m : MemberInfo) (behind alignment next : ℕ) → HaveAlignments S → rest ≡ m ∷ ms → ArePlaced S all rest behind alignment → next ≡ end_behind S behind m → next ≤ struct_size S all
too_large S all rest ms m behind alignment next have is so at =
    let ends = ap (λ n. end_of S n ms) at ∙ sym (ap (end_of S behind) is) ∙ so.end in
    omega (arith, end_of_least S have next ms, ends, size_least S all)

within_cases : (n : ℕ) (p q : Bool) → nat_le 1 n ≡ p → nat_le n size_limit ≡ q → within_limit n ≡ cond (p && q) (Some n) None
within_cases n p q e f = ap (λ x. cond (x && nat_le n size_limit) (Some n) None) e ∙ ap (λ x. cond (p && x) (Some n) None) f

pub is_within : (n : ℕ) → 1 ≤ n → n ≤ size_limit → within_limit n ≡ Some n
is_within n low high = within_cases n true true (le-leb 1 n low) (le-leb n size_limit high)

gt-leb : (a b : ℕ) → b < a → nat_le a b ≡ false
gt-leb a b h = ⊎_elim (λ yes_. absurd (omega (arith, yes_.1, h))) (λ no_. no_.0) (leb_tells a b)

none_beyond : (p : Bool) (n : ℕ) → cond (p && false) (Some n) None ≡ None
none_beyond true n = refl
none_beyond false n = refl

pub is_beyond : (n : ℕ) → size_limit < n → within_limit n ≡ None
is_beyond n high = within_cases n (nat_le 1 n) false refl (gt-leb n size_limit high) ∙ none_beyond (nat_le 1 n) n

-- ---- the offsets of the members before the rest, and of the rest
pub offsets_more : (S : Structs) (all rest ms : List MemberInfo) (m : MemberInfo) (so_far grown : List ℕ) (behind next offset : ℕ) → rest ≡ m ∷ ms → grown ≡ so_far ++ offset ∷ [] → offset ≡ offset_behind S behind m → next ≡ end_behind S behind m
    → so_far ++ offsets_behind S behind rest ≡ offsets_behind S 0 all → grown ++ offsets_behind S next ms ≡ offsets_behind S 0 all
offsets_more S all rest ms m so_far grown behind next offset is more here at so =
    ap (λ g. g ++ offsets_behind S next ms) more ∙ append_assoc so_far (offset ∷ []) (offsets_behind S next ms)
    ∙ ap (λ o. so_far ++ o ∷ offsets_behind S next ms) here ∙ ap (λ n. so_far ++ offset_behind S behind m ∷ offsets_behind S n ms) at ∙ sym (ap (λ r. so_far ++ offsets_behind S behind r) is) ∙ so

-- a struct within the limit has no member that ends past it
pub none_too_large : (S : Structs) (all rest ms : List MemberInfo) (m : MemberInfo) (behind alignment next : ℕ) → HaveAlignments S → struct_size S all ≤ size_limit → rest ≡ m ∷ ms → ArePlaced S all rest behind alignment → next ≡ end_behind S behind m → next ≤ size_limit
none_too_large S all rest ms m behind alignment next have fits is so at = omega (arith, fits, too_large S all rest ms m behind alignment next have is so at)

cond_some : (p q : Bool) (n k : ℕ) → Some k ≡ cond (p && q) (Some n) None → (p ≡ true) × (q ≡ true)
cond_some true true n k e = (refl, refl)
cond_some true false n k e = cc
cond_some false q n k e = cc

-- a size that is given is within the limit
pub within_known : (n k : ℕ) → Some k ≡ within_limit n → (1 ≤ n) × (n ≤ size_limit)
within_known n k e = let both = cond_some (nat_le 1 n) (nat_le n size_limit) n k e in (leb-true 1 n both.0, leb-true n size_limit both.1)

-- a struct that nothing is kept of is incomplete
pub not_kept : (es : List NameEntry) (id : ℕ) (s : Option StructLayout) → IsKept es id None s → s ≡ None
not_kept es id None so = refl
not_kept es id (Some s) so = absurd so
