-- Declarators, enumerators and members, one after the other.
use Rattle.std.proofs.Common.{◌≡◌, ◌∙◌, ◌-◌, ℕ, suc, Bool, true, false, ◌&&◌, List, [], ◌∷◌, length, map, Result, Ok, Err, refl, ap, subst, arith}
use Rattle.std.specs.Prelude.{nat_eq}
use Rattle.std.proofs.lemmas.Bool.{ne_eqb}
use Rattle.stk_ctype.specs.declared.symbol.MemberInfo.{MemberInfo}
use Rattle.stk_ctype.specs.declared.symbol.NameEntry.{NameEntry}
use Rattle.stk_ctype.specs.Types.{TypeTree}
use Rattle.stk_ctype.specs.Structs.{Structs}
use Rattle.stk_tree.specs.declared.declaration.Declr.{Declr}
use Rattle.stk_tree.specs.declared.declaration.Member.{Member}
use Rattle.stk_tree.specs.declared.declaration.Storage.{Storage}
use Rattle.stk_tree.specs.Syntax.{DeclrTree, DeclrTrees, EnumrTree, EnumrTrees, MemberTree, MemberTrees}
use Rattle.stk_tree.specs.Syntax as s
use Rattle.stk_tree.specs.View.{declarators, members, view_declarator, view_member}
use Rattle.stk_type_rules.specs.declared.untyped.Untyped.{Untyped}
use Rattle.std.proofs.Common.{Option}
use Rattle.stk_declarators.specs.Uses.{declarator_uses}
use Rattle.stk_declare.specs.declared.enumerations.Counter.{Counter}
use Rattle.stk_declare.specs.Answers.{Answers}
use Rattle.stk_declare.specs.Declaring.{declarator_declared, declarators_declared}
use Rattle.stk_declare.specs.Enumerations.{Enumerated, enumerator_declared, enumerators_declared}
use Rattle.stk_declare.specs.Members.{AreComplete, AreMembersSoFar}
use Rattle.stk_declare.specs.Shown.{enumerated, membered}
use Rattle.stk_declare.specs.Structs.{Membered, ends_declarators, ends_members, member_declarator, member_declarators, member_declared, members_declared}
use Rattle.stk_declare.specs.Tags.{behind_uses}
use Rattle.stk_declare.proofs.Answering.{goes, stops}
use Rattle.stk_declare.proofs.Closing.{so_far}

-- ---- the members before what is left to declare, of a row with which the members end or don't: as long as others
-- follow, each is complete
abbrev pub AreSoFar : {A : Type 0} → Bool → Structs → List MemberInfo → List A → Type 0
AreSoFar last structs ms [] = AreMembersSoFar last structs ms
AreSoFar last structs ms (x ∷ xs) = AreComplete structs ms

pub begun : {A : Type 0} (last : Bool) (structs : Structs) (ms : List MemberInfo) (xs : List A) → AreComplete structs ms → AreSoFar last structs ms xs
begun last structs ms [] all = so_far last structs ms all
begun last structs ms (x ∷ xs) all = all

pub still_complete : {A : Type 0} (last : Bool) (structs : Structs) (ms : List MemberInfo) (xs rest : List A) (x : A) → xs ≡ x ∷ rest → AreSoFar last structs ms xs → AreComplete structs ms
still_complete last structs ms xs rest x is h = let P : List _ → Type 0 = λ z. AreSoFar last structs ms z in subst P is h

-- whether nothing is left
none_left : {A : Type 0} (x : A) (xs : List A) → nat_eq (length (x ∷ xs)) 0 ≡ false
none_left x xs = let some : ¬ (length (x ∷ xs) ≡ 0) = omega arith in ne_eqb (length (x ∷ xs)) 0 some

and_true : (b : Bool) → (b && true) ≡ b
and_true true = refl
and_true false = refl

and_false : (b c : Bool) → c ≡ false → (b && c) ≡ false
and_false true c e = e
and_false false c e = refl

-- one member more, with these left
pub went_on : {A : Type 0} (last : Bool) (structs : Structs) (ms : List MemberInfo) (rest : List A) (left : ℕ) → left ≡ length rest → AreMembersSoFar (last && nat_eq left 0) structs ms → AreSoFar last structs ms rest
went_on last structs ms [] left is all = let P : Bool → Type 0 = λ b. AreMembersSoFar b structs ms in subst P (ap (λ n. last && nat_eq n 0) is ∙ and_true last) all
went_on last structs ms (x ∷ rest) left is all = let P : Bool → Type 0 = λ b. AreMembersSoFar b structs ms in subst P (ap (λ n. last && nat_eq n 0) is ∙ and_false last (nat_eq (length (x ∷ rest)) 0) (none_left x rest)) all

pub ends_here : (rest : List Declr) (left : ℕ) → left ≡ length rest → nat_eq left 0 ≡ ends_declarators (declarators (map view_declarator rest))
ends_here [] left is = ap (λ n. nat_eq n 0) is
ends_here (d ∷ rest) left is = ap (λ n. nat_eq n 0) is ∙ none_left d rest

pub members_end_here : (rest : List Member) (left : ℕ) → left ≡ length rest → nat_eq left 0 ≡ ends_members (members (map view_member rest))
members_end_here [] left is = ap (λ n. nat_eq n 0) is
members_end_here (m ∷ rest) left is = ap (λ n. nat_eq n 0) is ∙ none_left m rest

-- one less is left, behind the next one
pub fewer : {A : Type 0} (xs rest : List A) (x : A) (left : ℕ) → xs ≡ x ∷ rest → left ≡ length xs → left - 1 ≡ length rest
fewer xs rest x left is count =
    let long : length xs ≡ suc (length rest) = ap length is in
    omega (arith, long, count)

-- ---- one turn of a loop
abbrev pub IsNow : List NameEntry → List NameEntry → Unit {0} → Type 0
IsNow now es u = now ≡ es

pub declarators_turn : (bytes : List ℕ) (mark : Bool) (word : Option Storage) (es mid next now : List NameEntry) (t : TypeTree) (d : DeclrTree) (ds : DeclrTrees) (u : Unit {0}) (result : Result (Unit {0}) Untyped) → mid ≡ behind_uses bytes es (declarator_uses d)
    → Answers (IsNow next) (declarator_declared bytes mark false word mid t d) (Ok u) → Answers (IsNow now) (declarators_declared bytes mark word next t ds) result
    → Answers (IsNow now) (declarators_declared bytes mark word es t (s.then_declarator d ds)) result
declarators_turn bytes mark word es mid next now t d ds u result used h rest =
    goes (IsNow next) (IsNow now) (declarator_declared bytes mark false word (behind_uses bytes es (declarator_uses d)) t d) (λ z. declarators_declared bytes mark word z t ds) u result
    (subst (λ (z : List NameEntry). Answers (IsNow next) (declarator_declared bytes mark false word z t d) (Ok u)) used h)
    (λ z is. subst (λ (w : List NameEntry). Answers (IsNow now) (declarators_declared bytes mark word w t ds) result) is rest)

pub declarators_stop : (bytes : List ℕ) (mark : Bool) (word : Option Storage) (es mid next now : List NameEntry) (t : TypeTree) (d : DeclrTree) (ds : DeclrTrees) (e : Untyped) → mid ≡ behind_uses bytes es (declarator_uses d)
    → Answers (IsNow next) (declarator_declared bytes mark false word mid t d) (Err e) → Answers (IsNow now) (declarators_declared bytes mark word es t (s.then_declarator d ds)) (Err e)
declarators_stop bytes mark word es mid next now t d ds e used h =
    stops (IsNow next) (IsNow now) (declarator_declared bytes mark false word (behind_uses bytes es (declarator_uses d)) t d) (λ z. declarators_declared bytes mark word z t ds) e
    (subst (λ (z : List NameEntry). Answers (IsNow next) (declarator_declared bytes mark false word z t d) (Err e)) used h)

abbrev AreCounted : List NameEntry → Enumerated → Counter → Type 0
AreCounted now x v = enumerated now v ≡ x

pub enumerators_turn : (bytes : List ℕ) (c : Enumerated) (next now : List NameEntry) (e : EnumrTree) (es : EnumrTrees) (v : Counter) (result : Result Counter Untyped)
    → Answers (λ x v. enumerated next v ≡ x) (enumerator_declared bytes c e) (Ok v) → Answers (λ x v. enumerated now v ≡ x) (enumerators_declared bytes (enumerated next v) es) result
    → Answers (λ x v. enumerated now v ≡ x) (enumerators_declared bytes c (s.then_enumerator e es)) result
enumerators_turn bytes c next now e es v result h rest =
    goes (AreCounted next) (AreCounted now) (enumerator_declared bytes c e) (λ d. enumerators_declared bytes d es) v result h
    (λ d is. subst (λ (z : Enumerated). Answers (AreCounted now) (enumerators_declared bytes z es) result) is rest)

pub enumerators_stop : (bytes : List ℕ) (c : Enumerated) (next now : List NameEntry) (e : EnumrTree) (es : EnumrTrees) (x : Untyped) → Answers (λ x v. enumerated next v ≡ x) (enumerator_declared bytes c e) (Err x)
    → Answers (λ x v. enumerated now v ≡ x) (enumerators_declared bytes c (s.then_enumerator e es)) (Err x)
enumerators_stop bytes c next now e es x h = stops (AreCounted next) (AreCounted now) (enumerator_declared bytes c e) (λ d. enumerators_declared bytes d es) x h

abbrev pub AreMembered : List NameEntry → List MemberInfo → Membered → Unit {0} → Type 0
AreMembered now ms x u = membered now ms ≡ x

pub member_declarators_turn : (bytes : List ℕ) (es next now : List NameEntry) (before mid ms : List MemberInfo) (last ends : Bool) (t : TypeTree) (d : DeclrTree) (ds : DeclrTrees) (u : Unit {0}) (result : Result (Unit {0}) Untyped) → ends ≡ (last && ends_declarators ds)
    → Answers (AreMembered next mid) (member_declarator bytes es before ends t d) (Ok u) → Answers (AreMembered now ms) (member_declarators bytes next mid last t ds) result
    → Answers (AreMembered now ms) (member_declarators bytes es before last t (s.then_declarator d ds)) result
member_declarators_turn bytes es next now before mid ms last ends t d ds u result same h rest =
    goes (AreMembered next mid) (AreMembered now ms) (member_declarator bytes es before (last && ends_declarators ds) t d) (λ m. member_declarators bytes m.entries m.members last t ds) u result
    (subst (λ (b : Bool). Answers (AreMembered next mid) (member_declarator bytes es before b t d) (Ok u)) same h)
    (λ m is. subst (λ (z : Membered). Answers (AreMembered now ms) (member_declarators bytes z.entries z.members last t ds) result) is rest)

pub member_declarators_stop : (bytes : List ℕ) (es next now : List NameEntry) (before mid ms : List MemberInfo) (last ends : Bool) (t : TypeTree) (d : DeclrTree) (ds : DeclrTrees) (e : Untyped) → ends ≡ (last && ends_declarators ds)
    → Answers (AreMembered next mid) (member_declarator bytes es before ends t d) (Err e) → Answers (AreMembered now ms) (member_declarators bytes es before last t (s.then_declarator d ds)) (Err e)
member_declarators_stop bytes es next now before mid ms last ends t d ds e same h =
    stops (AreMembered next mid) (AreMembered now ms) (member_declarator bytes es before (last && ends_declarators ds) t d) (λ m. member_declarators bytes m.entries m.members last t ds) e
    (subst (λ (b : Bool). Answers (AreMembered next mid) (member_declarator bytes es before b t d) (Err e)) same h)

pub members_turn : (bytes : List ℕ) (es next now : List NameEntry) (before mid ms : List MemberInfo) (ends : Bool) (m : MemberTree) (rest : MemberTrees) (u : Unit {0}) (result : Result (Unit {0}) Untyped) → ends ≡ ends_members rest
    → Answers (AreMembered next mid) (member_declared bytes es before ends m) (Ok u) → Answers (AreMembered now ms) (members_declared bytes next mid rest) result
    → Answers (AreMembered now ms) (members_declared bytes es before (s.then_member m rest)) result
members_turn bytes es next now before mid ms ends m rest u result same h others =
    goes (AreMembered next mid) (AreMembered now ms) (member_declared bytes es before (ends_members rest) m) (λ r. members_declared bytes r.entries r.members rest) u result
    (subst (λ (b : Bool). Answers (AreMembered next mid) (member_declared bytes es before b m) (Ok u)) same h)
    (λ r is. subst (λ (z : Membered). Answers (AreMembered now ms) (members_declared bytes z.entries z.members rest) result) is others)

pub members_stop : (bytes : List ℕ) (es next now : List NameEntry) (before mid ms : List MemberInfo) (ends : Bool) (m : MemberTree) (rest : MemberTrees) (e : Untyped) → ends ≡ ends_members rest
    → Answers (AreMembered next mid) (member_declared bytes es before ends m) (Err e) → Answers (AreMembered now ms) (members_declared bytes es before (s.then_member m rest)) (Err e)
members_stop bytes es next now before mid ms ends m rest e same h =
    stops (AreMembered next mid) (AreMembered now ms) (member_declared bytes es before (ends_members rest) m) (λ r. members_declared bytes r.entries r.members rest) e
    (subst (λ (b : Bool). Answers (AreMembered next mid) (member_declared bytes es before b m) (Err e)) same h)
