-- The members of a struct so far, and what is kept beside them so that they are found fast.
use Rattle.std.specs.Prelude.{ℕ, ◌+◌, Bool, true, false, List, [], ◌∷◌}
use Rattle.stk_ctype.specs.declared.symbol.MemberInfo.{MemberInfo}
use Rattle.stk_ctype.specs.Structs.{Structs}
use Rattle.stk_ctype.specs.Sound.{IsMember, AreMembers}

-- each of the members has a sound type that is complete, so that others may follow
abbrev pub AreComplete : Structs → List MemberInfo → Type 0
AreComplete structs [] = Unit {0}
AreComplete structs (m ∷ ms) = IsMember structs m × AreComplete structs ms

-- members with the last one, or with others to follow
abbrev pub AreMembersSoFar : Bool → Structs → List MemberInfo → Type 0
AreMembersSoFar true structs ms = AreMembers structs ms
AreMembersSoFar false structs ms = AreComplete structs ms

-- the names of members with their places, counted from a first one
abbrev pub member_words : ℕ → List MemberInfo → List (List ℕ × ℕ)
member_words at [] = []
member_words at (m ∷ ms) = (m.name, at) ∷ member_words (at + 1) ms
