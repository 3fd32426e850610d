-- Bases that may have braces, and the members of a `struct`.
use Rattle.std.proofs.Common.{◌≡◌, ℕ, zero, suc, ◌+◌, ◌<◌, ◌≤◌, Bool, true, false, cond, ◌&&◌, List, [], ◌∷◌, ◌++◌, length, Option, Some, None, refl, sym, ap, subst, ◌∙◌, length-append, arith}
use Rattle.stk_base.specs.declared.span.Span.{Span}
use Rattle.stk_base.specs.declared.token.Class.TheVariants.{Word}
use Rattle.stk_tree.specs.declared.fixed.Fixed.{Fixed}
use Rattle.stk_tree.specs.declared.fixed.Fixed.TheVariants as fixed
use Rattle.stk_tree.specs.declared.fixed.Lexeme.{Lexeme}
use Rattle.stk_tree.specs.declared.fixed.Lexeme.TheVariants.{Leaf, Fixed as Token}
use Rattle.stk_tree.specs.Syntax.{BaseFormTree, BaseTree, DeclrTree, DeclrTrees, EnumrTrees, MemberTree, MemberTrees}
use Rattle.stk_tree.specs.Syntax as s
use Rattle.stk_tree.specs.Nesting.{base_form_nesting, member_nesting, members_nesting}
use Rattle.stk_tree.specs.Placed.{all_basic, base_form_placed, base_placed, declarator_placed, declarators_placed, has_name, is_basic, member_declarators, parameter_declarator, member_placed, members_placed, some_declarators, some_enumerators, enumerators_placed, some_members}
use Rattle.stk_tree.specs.Tokens.{base_tokens, declarators_tokens, member_tokens}
use Rattle.stk_tree.specs.Unlaid.{no_node, unlaid_base_form, unlaid_declarators, unlaid_enumerators, unlaid_member, unlaid_members}
use Rattle.stk_tree.specs.Fits.{base_form_fits, declarators_fits, member_fits, members_fits}
use Rattle.stk_grammar.specs.Reading.{◌>>=◌, Found, behind_left_brace, behind_right_brace, words_at, words_base}
use Rattle.stk_grammar.proofs.Complete.{cond_true, words_read}
use Rattle.stk_grammar.proofs.Operators.{bind_some, both_true, if_some, some_is, true_both}
use Rattle.stk_grammar.proofs.Prints.{prints_words}
use Rattle.stk_grammar.proofs.Sound.{words_are}
use Rattle.stk_grammar.specs.DeclarationReading.{Reader, array_declarator_at, declarators_at, enum_on, enumerator_at, enumerators_at, full_base_at, full_base_from, full_base_on, member_at, members_at, members_on, more_members_at, optional_word_at, struct_on}
use Rattle.stk_grammar.proofs.Arrays.{array_declarator_found, array_declarator_read, array_placed}
use Rattle.stk_grammar.proofs.Enumerators.{enumerators_found, enumerators_read, prints_enumerators_inside}
use Rattle.stk_grammar.proofs.Lists.{ReadsDeclarators, declarators_found, declarators_read, list_no_left_brace, list_no_words, members_of, named_members, of_members, prints_declarator_list}
use Rattle.stk_grammar.proofs.DeclarationPunctuators.{basic_no_right_brace, left_brace_is, right_brace_is}
use Rattle.stk_grammar.proofs.DeclarationPrints.{member-append, prints_member, prints_members, prints_name, prints_specifier_form}
use Rattle.stk_grammar.proofs.Stands.{FindsOnly, Stands}

-- ---- the forms of a base

basic_on : (members : Reader MemberTrees) (enumerators : Reader (EnumrTrees × Bool)) (w : Fixed) (ts : List Lexeme) → is_basic w ≡ true → full_base_on members enumerators w ts ≡ words_base w (words_at ts)
basic_on members enumerators fixed.Struct ts h = absurd cc
basic_on members enumerators fixed.Enum ts h = absurd cc
basic_on members enumerators w ts h = cond_true (is_basic w) (words_base w (words_at ts)) None h

words_form_read : (named : Span → Bool) (inner : ℕ) (w : Fixed) (ws : List Fixed) (r : List Lexeme) → is_basic w ≡ true → all_basic ws ≡ true → words_at r ≡ ([], r)
    → full_base_at named (suc inner) (Token w ∷ prints_words ws r) ≡ Some (s.words (w ∷ ws), r)
unfolding full_base_at
words_form_read named inner w ws r h k stays = basic_on _ _ w (prints_words ws r) h ∙ ap (words_base w) (words_read ws r stays k)

named_form_read : (named : Span → Bool) (inner : ℕ) (at : Span) (r : List Lexeme) → named at ≡ true → full_base_at named (suc inner) (Leaf Word at ∷ r) ≡ Some (s.named at, r)
unfolding full_base_at
named_form_read named inner at r h = cond_true (named at) _ _ h

-- the reader of the members of a `struct`
abbrev member_inside : (Span → Bool) → ℕ → Reader MemberTree
member_inside named inner = member_at named inner (full_base_at named inner)

struct_ref_read : (named : Span → Bool) (inner : ℕ) (tag : Span) (r : List Lexeme) → behind_left_brace r ≡ None → full_base_at named (suc inner) (Token fixed.Struct ∷ Leaf Word tag ∷ r) ≡ Some (s.struct_ref tag, r)
unfolding full_base_at
struct_ref_read named inner tag r none = ap (λ o. struct_on (members_at (member_inside named inner)) (Some tag) r o) none

struct_def_read : (named : Span → Bool) (inner : ℕ) (tag : Option Span) (ms : MemberTrees) (inside rest : List Lexeme) → members_at (member_inside named inner) inside ≡ Some (ms, rest)
    → full_base_at named (suc inner) (Token fixed.Struct ∷ prints_name tag (Token fixed.LeftBrace ∷ inside)) ≡ Some (s.struct_def tag ms, rest)
unfolding full_base_at
struct_def_read named inner None ms inside rest e = ap (λ (o : Found MemberTrees). o >>= λ ms. let y : Found BaseFormTree = Some (s.struct_def None ms.0, ms.1) in y) e
struct_def_read named inner (Some tag) ms inside rest e = ap (λ (o : Found MemberTrees). o >>= λ ms. let y : Found BaseFormTree = Some (s.struct_def (Some tag) ms.0, ms.1) in y) e

enum_ref_read : (named : Span → Bool) (inner : ℕ) (tag : Span) (r : List Lexeme) → behind_left_brace r ≡ None → full_base_at named (suc inner) (Token fixed.Enum ∷ Leaf Word tag ∷ r) ≡ Some (s.enum_ref tag, r)
unfolding full_base_at
enum_ref_read named inner tag r none = ap (λ o. enum_on (enumerators_at (enumerator_at named inner)) (Some tag) r o) none

enum_def_read : (named : Span → Bool) (inner : ℕ) (tag : Option Span) (es : EnumrTrees) (comma : Bool) (inside rest : List Lexeme) → enumerators_at (enumerator_at named inner) inside ≡ Some ((es, comma), rest)
    → full_base_at named (suc inner) (Token fixed.Enum ∷ prints_name tag (Token fixed.LeftBrace ∷ inside)) ≡ Some (s.enum_def tag es comma, rest)
unfolding full_base_at
enum_def_read named inner None es comma inside rest e = ap (λ (o : Found (EnumrTrees × Bool)). o >>= λ es. let y : Found BaseFormTree = Some (s.enum_def None es.0.0 es.0.1, es.1) in y) e
enum_def_read named inner (Some tag) es comma inside rest e = ap (λ (o : Found (EnumrTrees × Bool)). o >>= λ es. let y : Found BaseFormTree = Some (s.enum_def (Some tag) es.0.0 es.0.1, es.1) in y) e

-- ---- members

form_no_right_brace : (f : BaseFormTree) (r : List Lexeme) → base_form_placed f ≡ true → behind_right_brace (prints_specifier_form f r) ≡ None
form_no_right_brace (s.words []) r p = absurd cc
form_no_right_brace (s.words (w ∷ ws)) r p = basic_no_right_brace w (prints_words ws r) (both_true (is_basic w) (all_basic ws) p).0
form_no_right_brace (s.struct_ref tag) r p = refl
form_no_right_brace (s.struct_def tag ms) r p = refl
form_no_right_brace (s.enum_ref tag) r p = refl
form_no_right_brace (s.enum_def tag es comma) r p = refl
form_no_right_brace (s.named at) r p = refl

-- the four tests of a member
member_tests : (b : BaseTree) (ds : DeclrTrees) → member_placed (s.member b ds) ≡ true → (base_placed b ≡ true) × (some_declarators ds ≡ true) × (member_declarators ds ≡ true) × (declarators_placed ds ≡ true)
member_tests b ds p =
    let a = both_true (base_placed b && some_declarators ds && member_declarators ds) (declarators_placed ds) p in
    let c = both_true (base_placed b && some_declarators ds) (member_declarators ds) a.0 in
    let e = both_true (base_placed b) (some_declarators ds) c.0 in
    (e.0, e.1, c.1, a.1)

member_no_right_brace : (x : MemberTree) (r : List Lexeme) → member_placed x ≡ true → behind_right_brace (prints_member x r) ≡ None
member_no_right_brace (s.member (s.base n f) ds) r p = form_no_right_brace f (prints_declarator_list ds r) (member_tests (s.base n f) ds p).0

member_longer : (x : MemberTree) (r : List Lexeme) → length r < length (prints_member x r)
member_longer (s.member b ds) r = omega (arith, ap length (member-append (s.member b ds) r), length-append (member_tokens (s.member b ds)) r, member_takes b ds)
  where
    member_takes : (b : BaseTree) (ds : DeclrTrees) → 0 < length (member_tokens (s.member b ds))
    member_takes b ds = omega (arith, length-append (base_tokens b ++ declarators_tokens ds) (Token fixed.Semicolon ∷ []))

array_reads : (named : Span → Bool) (room : ℕ) → ReadsDeclarators named (array_placed false) room (array_declarator_at named room false)
array_reads named room d r p q low ends =
    let a = both_true (parameter_declarator d && has_name d) (declarator_placed d) p in
    let b = both_true (parameter_declarator d) (has_name d) a.0 in
    array_declarator_read d named room false r b.0 b.1 a.1 q low ends

member_some : (named : Span → Bool) (inner : ℕ) (b : BaseFormTree) (ds : DeclrTrees) (ts middle rest : List Lexeme) → full_base_at named inner ts ≡ Some (b, middle) → declarators_at (array_declarator_at named inner false) middle ≡ Some (ds, rest)
    → member_inside named inner ts ≡ Some (s.member (s.base no_node b) ds, rest)
member_some named inner b ds ts middle rest by later = rw (by, later) refl

member_next : (one : Reader MemberTree) (f : ℕ) (x : MemberTree) (xs : MemberTrees) (ts next rest : List Lexeme) → behind_right_brace ts ≡ None → one ts ≡ Some (x, next) → more_members_at one f next ≡ Some (xs, rest)
    → more_members_at one (suc f) ts ≡ Some (s.then_member x xs, rest)
unfolding more_members_at
member_next one f x xs ts next rest none by later = rw (none, by, later) refl

members_end : (one : Reader MemberTree) (f : ℕ) (r : List Lexeme) → more_members_at one (suc f) (Token fixed.RightBrace ∷ r) ≡ Some (s.no_members, r)
unfolding more_members_at
members_end one f r = refl

members_first : (one : Reader MemberTree) (x : MemberTree) (xs : MemberTrees) (ts next rest : List Lexeme) → one ts ≡ Some (x, next) → more_members_at one (suc (length next)) next ≡ Some (xs, rest)
    → members_at one ts ≡ Some (s.then_member x xs, rest)
unfolding members_at
members_first one x xs ts next rest by later = rw (by, later) refl

-- members and the `}`
abbrev prints_members_inside : MemberTrees → List Lexeme → List Lexeme
prints_members_inside xs r = prints_members xs (Token fixed.RightBrace ∷ r)

mutual
  -- what a base prints is read as that base, where no basic word and no brace follows
  pub form_read : (f : BaseFormTree) (named : Span → Bool) (room : ℕ) (r : List Lexeme) → base_form_placed f ≡ true → base_form_fits named f ≡ true → base_form_nesting f + 1 ≤ room → words_at r ≡ ([], r) → behind_left_brace r ≡ None
      → full_base_at named room (prints_specifier_form f r) ≡ Some (unlaid_base_form f, r)
  form_read f named zero r p q low stays none = absurd (omega arith)
  form_read (s.words []) named (suc inner) r p q low stays none = absurd cc
  form_read (s.words (w ∷ ws)) named (suc inner) r p q low stays none = let a = both_true (is_basic w) (all_basic ws) p in words_form_read named inner w ws r a.0 a.1 stays
  form_read (s.struct_ref tag) named (suc inner) r p q low stays none = struct_ref_read named inner tag r none
  form_read (s.struct_def tag ms) named (suc inner) r p q low stays none =
      let a = both_true (some_members ms) (members_placed ms) p in
      struct_def_read named inner tag (unlaid_members ms) (prints_members_inside ms r) r (members_read ms named inner r a.0 a.1 q (omega arith))
  form_read (s.enum_ref tag) named (suc inner) r p q low stays none = enum_ref_read named inner tag r none
  form_read (s.enum_def tag es comma) named (suc inner) r p q low stays none =
      let a = both_true (some_enumerators es) (enumerators_placed es) p in
      enum_def_read named inner tag (unlaid_enumerators es) comma (prints_enumerators_inside (es, comma) r) r (enumerators_read es named inner comma r a.0 a.1 q (omega arith))
  form_read (s.named at) named (suc inner) r p q low stays none = named_form_read named inner at r q

  members_read : (xs : MemberTrees) (named : Span → Bool) (inner : ℕ) (r : List Lexeme) → some_members xs ≡ true → members_placed xs ≡ true → members_fits named xs ≡ true → members_nesting xs ≤ inner
      → members_at (member_inside named inner) (prints_members_inside xs r) ≡ Some (unlaid_members xs, r)
  members_read s.no_members named inner r c p q low = absurd cc
  members_read (s.then_member x xs) named inner r c p q low =
      let a = both_true (member_placed x) (members_placed xs) p in
      let b = both_true (member_fits named x) (members_fits named xs) q in
      let behind : List Lexeme = prints_members_inside xs r in
      members_first (member_inside named inner) (unlaid_member x) (unlaid_members xs) (prints_member x behind) behind r
      (member_read x named inner behind a.0 b.0 (omega arith))
      (more_members_read xs named inner (suc (length behind)) r a.1 b.1 (omega arith) (omega arith))

  more_members_read : (xs : MemberTrees) (named : Span → Bool) (inner f : ℕ) (r : List Lexeme) → members_placed xs ≡ true → members_fits named xs ≡ true → members_nesting xs ≤ inner → length (prints_members_inside xs r) < f
      → more_members_at (member_inside named inner) f (prints_members_inside xs r) ≡ Some (unlaid_members xs, r)
  more_members_read xs named inner zero r p q low much = absurd (omega arith)
  more_members_read s.no_members named inner (suc f) r p q low much = members_end (member_inside named inner) f r
  more_members_read (s.then_member x xs) named inner (suc f) r p q low much =
      let a = both_true (member_placed x) (members_placed xs) p in
      let b = both_true (member_fits named x) (members_fits named xs) q in
      let behind : List Lexeme = prints_members_inside xs r in
      member_next (member_inside named inner) f (unlaid_member x) (unlaid_members xs) (prints_member x behind) behind r
      (member_no_right_brace x behind a.0)
      (member_read x named inner behind a.0 b.0 (omega arith))
      (more_members_read xs named inner f r a.1 b.1 (omega arith) (omega (arith, member_longer x behind)))

  member_read : (x : MemberTree) (named : Span → Bool) (inner : ℕ) (r : List Lexeme) → member_placed x ≡ true → member_fits named x ≡ true → member_nesting x ≤ inner
      → member_inside named inner (prints_member x r) ≡ Some (unlaid_member x, r)
  member_read (s.member (s.base n f) ds) named inner r p q low =
      let a = member_tests (s.base n f) ds p in
      let b = both_true (base_form_fits named f) (declarators_fits named ds) q in
      let all = members_of ds a.2 a.3 in
      let behind : List Lexeme = prints_declarator_list ds r in
      member_some named inner (unlaid_base_form f) (unlaid_declarators ds) (prints_specifier_form f behind) behind r
      (form_read f named inner behind a.0 b.0 (omega arith) (list_no_words ds r (named_members ds all)) (list_no_left_brace ds r (named_members ds all)))
      (declarators_read ds named (array_placed false) inner (array_declarator_at named inner false) r (array_reads named inner) (true_both _ _ a.1 all) b.1 (omega arith))

-- ---- what was found

-- the nesting of a base whose node isn't laid out
abbrev pub form_nesting : BaseFormTree → ℕ
form_nesting f = base_form_nesting f + 1

abbrev FormStands : (Span → Bool) → ℕ → List Lexeme → BaseFormTree × List Lexeme → Type 0
FormStands named room = Stands prints_specifier_form base_form_placed (base_form_fits named) form_nesting room

abbrev MembersStand : (Span → Bool) → ℕ → List Lexeme → MemberTrees × List Lexeme → Type 0
MembersStand named room = Stands prints_members_inside members_placed (members_fits named) members_nesting room

optional_word_is : (ts : List Lexeme) → ts ≡ prints_name (optional_word_at ts).0 (optional_word_at ts).1
optional_word_is [] = refl
optional_word_is (Leaf Word at ∷ ts) = refl
optional_word_is (t ∷ ts) = refl

words_found : (named : Span → Bool) (room : ℕ) (b : Bool) (f : Fixed) (ts : List Lexeme) (x : BaseFormTree × List Lexeme) → is_basic f ≡ b → cond b (words_base f (words_at ts)) None ≡ Some x → FormStands named (suc room) (Token f ∷ ts) x
words_found named room false f ts x is e = absurd cc
words_found named room true f ts x is e =
    let w = words_are ts in
    subst (FormStands named (suc room) (Token f ∷ ts)) (some_is (s.words (f ∷ (words_at ts).0), (words_at ts).1) x e)
    (record { text = ap (λ r. Token f ∷ r) w.0; placed = true_both _ _ is w.1; fits = refl; low = omega arith })

module _ (named : Span → Bool) (room : ℕ) (base : Reader BaseFormTree) (finds : FindsOnly prints_specifier_form base_form_placed (base_form_fits named) form_nesting room base) where
  abbrev one : Reader MemberTree
  one = member_at named room base

  member_found : FindsOnly prints_member member_placed (member_fits named) member_nesting room one
  member_found ts x e =
      let a = bind_some (base ts) _ x e in
      let b = bind_some (declarators_at (array_declarator_at named room false) a.0.1) _ x a.2 in
      let p = finds ts a.0 a.1 in
      let q = declarators_found named (array_placed false) room (array_declarator_at named room false) (array_declarator_found named room false) a.0.1 b.0 b.1 in
      let c = both_true (some_declarators b.0.0) _ q.placed in
      let d = of_members b.0.0 c.1 in
      subst (Stands prints_member member_placed (member_fits named) member_nesting room ts) (some_is (s.member (s.base no_node a.0.0) b.0.0, b.0.1) x b.2)
      (record {
        text = p.text ∙ ap (prints_specifier_form a.0.0) q.text;
        placed = true_both _ _ (true_both _ _ (true_both _ _ p.placed c.0) d.0) d.1;
        fits = true_both _ _ p.fits q.fits;
        low = omega (arith, p.low, q.low);
      })

  members_on_found : (go_on : Reader MemberTrees) (o : Option (List Lexeme)) (ts : List Lexeme) (x : MemberTrees × List Lexeme)
      → ((us : List Lexeme) (y : MemberTrees × List Lexeme) → go_on us ≡ Some y → MembersStand named room us y)
      → behind_right_brace ts ≡ o → members_on go_on one o ts ≡ Some x → MembersStand named room ts x
  members_on_found go_on (Some rest) ts x later is e =
      subst (MembersStand named room ts) (some_is (s.no_members, rest) x e) (record { text = right_brace_is ts rest is; placed = refl; fits = refl; low = omega arith })
  members_on_found go_on None ts x later is e =
      let a = bind_some (one ts) _ x e in
      let b = bind_some (go_on a.0.1) _ x a.2 in
      let p = member_found ts a.0 a.1 in
      let q = later a.0.1 b.0 b.1 in
      subst (MembersStand named room ts) (some_is (s.then_member a.0.0 b.0.0, b.0.1) x b.2)
      (record { text = p.text ∙ ap (prints_member a.0.0) q.text; placed = true_both _ _ p.placed q.placed; fits = true_both _ _ p.fits q.fits; low = omega (arith, p.low, q.low) })

  more_members_found : (f : ℕ) (ts : List Lexeme) (x : MemberTrees × List Lexeme) → more_members_at one f ts ≡ Some x → MembersStand named room ts x
  unfolding more_members_at
  more_members_found zero ts x e = absurd cc
  more_members_found (suc f) ts x e = members_on_found (more_members_at one f) (behind_right_brace ts) ts x (λ us y d. more_members_found f us y d) refl e

  members_found : FindsOnly prints_members_inside (λ xs. some_members xs && members_placed xs) (members_fits named) members_nesting room (members_at one)
  unfolding members_at
  members_found ts x e =
      let a = bind_some (one ts) _ x e in
      let b = bind_some (more_members_at one (suc (length a.0.1)) a.0.1) _ x a.2 in
      let p = member_found ts a.0 a.1 in
      let q = more_members_found (suc (length a.0.1)) a.0.1 b.0 b.1 in
      subst (Stands prints_members_inside (λ xs. some_members xs && members_placed xs) (members_fits named) members_nesting room ts) (some_is (s.then_member a.0.0 b.0.0, b.0.1) x b.2)
      (record { text = p.text ∙ ap (prints_member a.0.0) q.text; placed = true_both _ _ p.placed q.placed; fits = true_both _ _ p.fits q.fits; low = omega (arith, p.low, q.low) })

  struct_found : (tag : Option Span) (ts : List Lexeme) (o : Option (List Lexeme)) (x : BaseFormTree × List Lexeme) → behind_left_brace ts ≡ o → struct_on (members_at one) tag ts o ≡ Some x
      → FormStands named (suc room) (Token fixed.Struct ∷ prints_name tag ts) x
  struct_found tag ts (Some inside) x is e =
      let a = bind_some (members_at one inside) _ x e in
      let p = members_found inside a.0 a.1 in
      subst (FormStands named (suc room) (Token fixed.Struct ∷ prints_name tag ts)) (some_is (s.struct_def tag a.0.0, a.0.1) x a.2)
      (record { text = ap (λ r. Token fixed.Struct ∷ prints_name tag r) (left_brace_is ts inside is ∙ ap (λ r. Token fixed.LeftBrace ∷ r) p.text); placed = p.placed; fits = p.fits; low = omega (arith, p.low) })
  struct_found (Some tag) ts None x is e =
      subst (FormStands named (suc room) (Token fixed.Struct ∷ Leaf Word tag ∷ ts)) (some_is (s.struct_ref tag, ts) x e) (record { text = refl; placed = refl; fits = refl; low = omega arith })
  struct_found None ts None x is e = absurd cc

  enum_found : (tag : Option Span) (ts : List Lexeme) (o : Option (List Lexeme)) (x : BaseFormTree × List Lexeme) → behind_left_brace ts ≡ o → enum_on (enumerators_at (enumerator_at named room)) tag ts o ≡ Some x
      → FormStands named (suc room) (Token fixed.Enum ∷ prints_name tag ts) x
  enum_found tag ts (Some inside) x is e =
      let a = bind_some (enumerators_at (enumerator_at named room) inside) _ x e in
      let p = enumerators_found named room inside a.0 a.1 in
      subst (FormStands named (suc room) (Token fixed.Enum ∷ prints_name tag ts)) (some_is (s.enum_def tag a.0.0.0 a.0.0.1, a.0.1) x a.2)
      (record { text = ap (λ r. Token fixed.Enum ∷ prints_name tag r) (left_brace_is ts inside is ∙ ap (λ r. Token fixed.LeftBrace ∷ r) p.text); placed = p.placed; fits = p.fits; low = omega (arith, p.low) })
  enum_found (Some tag) ts None x is e =
      subst (FormStands named (suc room) (Token fixed.Enum ∷ Leaf Word tag ∷ ts)) (some_is (s.enum_ref tag, ts) x e) (record { text = refl; placed = refl; fits = refl; low = omega arith })
  enum_found None ts None x is e = absurd cc

  form_on_found : (f : Fixed) (ts : List Lexeme) (x : BaseFormTree × List Lexeme) → full_base_on (members_at one) (enumerators_at (enumerator_at named room)) f ts ≡ Some x → FormStands named (suc room) (Token f ∷ ts) x
  form_on_found fixed.Struct ts x e =
      subst (λ us. FormStands named (suc room) (Token fixed.Struct ∷ us) x) (sym (optional_word_is ts)) (struct_found (optional_word_at ts).0 (optional_word_at ts).1 (behind_left_brace (optional_word_at ts).1) x refl e)
  form_on_found fixed.Enum ts x e =
      subst (λ us. FormStands named (suc room) (Token fixed.Enum ∷ us) x) (sym (optional_word_is ts)) (enum_found (optional_word_at ts).0 (optional_word_at ts).1 (behind_left_brace (optional_word_at ts).1) x refl e)
  form_on_found f ts x e = words_found named room (is_basic f) f ts x refl e

  form_from_found : (ts : List Lexeme) (x : BaseFormTree × List Lexeme) → full_base_from named (members_at one) (enumerators_at (enumerator_at named room)) ts ≡ Some x → FormStands named (suc room) ts x
  form_from_found [] x e = absurd cc
  form_from_found (Leaf Word at ∷ ts) x e =
      let a = if_some (named at) _ x e in
      subst (FormStands named (suc room) (Leaf Word at ∷ ts)) (some_is (s.named at, ts) x a.1) (record { text = refl; placed = refl; fits = a.0; low = omega arith })
  form_from_found (Leaf class at ∷ ts) x e = absurd cc
  form_from_found (Token f ∷ ts) x e = form_on_found f ts x e

-- what is read is a base that stands there
pub form_found : (named : Span → Bool) (room : ℕ) → FindsOnly prints_specifier_form base_form_placed (base_form_fits named) form_nesting room (full_base_at named room)
unfolding full_base_at
form_found named zero ts x e = absurd cc
form_found named (suc inner) ts x e = form_from_found named inner (full_base_at named inner) (form_found named inner) ts x e
