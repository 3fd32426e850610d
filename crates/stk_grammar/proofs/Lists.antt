-- Declarators with a comma between each two, up to the `;`, whatever kind of declarator they are.
use Rattle.std.proofs.Common.{◌≡◌, ℕ, zero, suc, ◌<◌, ◌≤◌, Bool, true, false, not, ◌&&◌, List, [], ◌∷◌, length, Option, Some, None, refl, ap, subst, ◌∙◌, length-append, arith}
use Rattle.stk_base.specs.declared.span.Span.{Span}
use Rattle.stk_tree.specs.declared.fixed.Fixed.TheVariants as fixed
use Rattle.stk_tree.specs.declared.fixed.Lexeme.{Lexeme}
use Rattle.stk_tree.specs.declared.fixed.Lexeme.TheVariants.{Fixed as Token}
use Rattle.stk_tree.specs.Syntax.{DeclrTree, DeclrTrees}
use Rattle.stk_tree.specs.Syntax as s
use Rattle.stk_tree.specs.Nesting.{declarator_nesting, declarators_nesting}
use Rattle.stk_tree.specs.Placed.{declarator_placed, declarators_placed, file_declarators, has_arrays, has_initialiser, has_name, local_declarators, member_declarator, member_declarators, parameter_declarator, some_declarators}
use Rattle.stk_tree.specs.Tokens.{declarator_tokens}
use Rattle.stk_tree.specs.Unlaid.{unlaid_declarator, unlaid_declarators}
use Rattle.stk_tree.specs.Fits.{declarator_fits, declarators_fits}
use Rattle.stk_grammar.specs.Reading.{behind_comma, behind_left_brace, behind_semicolon, words_at}
use Rattle.stk_grammar.proofs.Operators.{bind_some, both_true, some_is, true_both}
use Rattle.stk_grammar.proofs.Sound.{comma_is}
use Rattle.stk_grammar.specs.DeclarationReading.{Reader, declarators_at, declarators_on, more_declarators_at}
use Rattle.stk_grammar.proofs.Arrays.{array_placed, named_declarator_no_words}
use Rattle.stk_grammar.proofs.Declarators.{declares}
use Rattle.stk_grammar.proofs.DeclarationPunctuators.{ends_declarator, semicolon_is}
use Rattle.stk_grammar.proofs.DeclarationPrints.{declarator-append, prints_declarator, prints_declarators, prints_more_declarators}
use Rattle.stk_grammar.proofs.Stands.{FindsOnly, Stands}

-- each declarator passes a test
abbrev pub all_declarators : (DeclrTree → Bool) → DeclrTrees → Bool
all_declarators test s.no_declarators = true
all_declarators test (s.then_declarator x xs) = test x && all_declarators test xs

-- a list of them, with one or more
abbrev pub listed_declarators : (DeclrTree → Bool) → DeclrTrees → Bool
listed_declarators test ds = some_declarators ds && all_declarators test ds

-- declarators with a comma before each, up to the `;`; and with one between each two
abbrev prints_declarators_left : DeclrTrees → List Lexeme → List Lexeme
prints_declarators_left xs r = prints_more_declarators xs (Token fixed.Semicolon ∷ r)

abbrev pub prints_declarator_list : DeclrTrees → List Lexeme → List Lexeme
prints_declarator_list xs r = prints_declarators xs (Token fixed.Semicolon ∷ r)

declarators_left_end : (xs : DeclrTrees) (r : List Lexeme) → ends_declarator (prints_declarators_left xs r) ≡ true
declarators_left_end s.no_declarators r = refl
declarators_left_end (s.then_declarator x xs) r = refl

declarator_longer : (x : DeclrTree) (r : List Lexeme) → length r ≤ length (prints_declarator x r)
declarator_longer x r = omega (arith, ap length (declarator-append x r), length-append (declarator_tokens x) r)

declarator_next : (one : Reader DeclrTree) (f : ℕ) (x : DeclrTree) (xs : DeclrTrees) (ts next rest : List Lexeme) → one ts ≡ Some (x, next) → more_declarators_at one f next ≡ Some (xs, rest)
    → more_declarators_at one (suc f) (Token fixed.Comma ∷ ts) ≡ Some (s.then_declarator x xs, rest)
unfolding more_declarators_at
declarator_next one f x xs ts next rest by later = rw (by, later) refl

declarators_end : (one : Reader DeclrTree) (f : ℕ) (r : List Lexeme) → more_declarators_at one (suc f) (Token fixed.Semicolon ∷ r) ≡ Some (s.no_declarators, r)
unfolding more_declarators_at
declarators_end one f r = refl

declarators_first : (one : Reader DeclrTree) (x : DeclrTree) (xs : DeclrTrees) (ts next rest : List Lexeme) → one ts ≡ Some (x, next) → more_declarators_at one (suc (length next)) next ≡ Some (xs, rest)
    → declarators_at one ts ≡ Some (s.then_declarator x xs, rest)
unfolding declarators_at
declarators_first one x xs ts next rest by later = rw (by, later) refl

-- a reader that reads each declarator that passes a test
abbrev pub ReadsDeclarators : (Span → Bool) → (DeclrTree → Bool) → ℕ → Reader DeclrTree → Type 0
ReadsDeclarators named test room one = (d : DeclrTree) (r : List Lexeme) → test d ≡ true → declarator_fits named d ≡ true → declarator_nesting d ≤ room → ends_declarator r ≡ true → one (prints_declarator d r) ≡ Some (unlaid_declarator d, r)

more_declarators_read : (xs : DeclrTrees) (named : Span → Bool) (test : DeclrTree → Bool) (room : ℕ) (one : Reader DeclrTree) (f : ℕ) (r : List Lexeme) → ReadsDeclarators named test room one
    → all_declarators test xs ≡ true → declarators_fits named xs ≡ true → declarators_nesting xs ≤ room → length (prints_declarators_left xs r) < f
    → more_declarators_at one f (prints_declarators_left xs r) ≡ Some (unlaid_declarators xs, r)
more_declarators_read xs named test room one zero r reads p q low much = absurd (omega arith)
more_declarators_read s.no_declarators named test room one (suc f) r reads p q low much = declarators_end one f r
more_declarators_read (s.then_declarator x xs) named test room one (suc f) r reads p q low much =
    let a = both_true _ _ p in
    let b = both_true _ _ q in
    let behind : List Lexeme = prints_declarators_left xs r in
    declarator_next one f (unlaid_declarator x) (unlaid_declarators xs) (prints_declarator x behind) behind r
    (reads x behind a.0 b.0 (omega arith) (declarators_left_end xs r))
    (more_declarators_read xs named test room one f r reads a.1 b.1 (omega arith) (omega (arith, declarator_longer x behind)))

-- what a list prints is read as that list
pub declarators_read : (xs : DeclrTrees) (named : Span → Bool) (test : DeclrTree → Bool) (room : ℕ) (one : Reader DeclrTree) (r : List Lexeme) → ReadsDeclarators named test room one
    → listed_declarators test xs ≡ true → declarators_fits named xs ≡ true → declarators_nesting xs ≤ room → declarators_at one (prints_declarator_list xs r) ≡ Some (unlaid_declarators xs, r)
declarators_read s.no_declarators named test room one r reads p q low = absurd cc
declarators_read (s.then_declarator x xs) named test room one r reads p q low =
    let a = both_true _ _ p in
    let b = both_true _ _ q in
    let behind : List Lexeme = prints_declarators_left xs r in
    declarators_first one (unlaid_declarator x) (unlaid_declarators xs) (prints_declarator x behind) behind r
    (reads x behind a.0 b.0 (omega arith) (declarators_left_end xs r))
    (more_declarators_read xs named test room one (suc (length behind)) r reads a.1 b.1 (omega arith) (omega arith))

module _ (named : Span → Bool) (test : DeclrTree → Bool) (room : ℕ) (one : Reader DeclrTree) (finds : FindsOnly prints_declarator test (declarator_fits named) declarator_nesting room one) where
  abbrev DeclaratorsStand : List Lexeme → DeclrTrees × List Lexeme → Type 0
  DeclaratorsStand = Stands prints_declarators_left (all_declarators test) (declarators_fits named) declarators_nesting room

  declarators_on_found : (go_on : Reader DeclrTrees) (o : Option (List Lexeme)) (ts : List Lexeme) (x : DeclrTrees × List Lexeme)
      → ((us : List Lexeme) (y : DeclrTrees × List Lexeme) → go_on us ≡ Some y → DeclaratorsStand us y)
      → behind_comma ts ≡ o → declarators_on go_on one o ts ≡ Some x → DeclaratorsStand ts x
  declarators_on_found go_on None ts x later is e =
      let a = bind_some (behind_semicolon ts) _ x e in
      subst (DeclaratorsStand ts) (some_is (s.no_declarators, a.0) x a.2) (record { text = semicolon_is ts a.0 a.1; placed = refl; fits = refl; low = omega arith })
  declarators_on_found go_on (Some next) ts x later is e =
      let a = bind_some (one next) _ x e in
      let b = bind_some (go_on a.0.1) _ x a.2 in
      let p = finds next a.0 a.1 in
      let q = later a.0.1 b.0 b.1 in
      subst (DeclaratorsStand ts) (some_is (s.then_declarator a.0.0 b.0.0, b.0.1) x b.2)
      (record {
        text = comma_is ts next is ∙ ap (λ r. Token fixed.Comma ∷ r) (p.text ∙ ap (prints_declarator a.0.0) q.text);
        placed = true_both _ _ p.placed q.placed;
        fits = true_both _ _ p.fits q.fits;
        low = omega (arith, p.low, q.low);
      })

  more_declarators_found : (f : ℕ) (ts : List Lexeme) (x : DeclrTrees × List Lexeme) → more_declarators_at one f ts ≡ Some x → DeclaratorsStand ts x
  unfolding more_declarators_at
  more_declarators_found zero ts x e = absurd cc
  more_declarators_found (suc f) ts x e = declarators_on_found (more_declarators_at one f) (behind_comma ts) ts x (λ us y d. more_declarators_found f us y d) refl e

  -- what is read is such a list
  pub declarators_found : FindsOnly prints_declarator_list (listed_declarators test) (declarators_fits named) declarators_nesting room (declarators_at one)
  unfolding declarators_at
  declarators_found ts x e =
      let a = bind_some (one ts) _ x e in
      let b = bind_some (more_declarators_at one (suc (length a.0.1)) a.0.1) _ x a.2 in
      let p = finds ts a.0 a.1 in
      let q = more_declarators_found (suc (length a.0.1)) a.0.1 b.0 b.1 in
      subst (Stands prints_declarator_list (listed_declarators test) (declarators_fits named) declarators_nesting room ts) (some_is (s.then_declarator a.0.0 b.0.0, b.0.1) x b.2)
      (record {
        text = p.text ∙ ap (prints_declarator a.0.0) q.text;
        placed = true_both _ _ p.placed q.placed;
        fits = true_both _ _ p.fits q.fits;
        low = omega (arith, p.low, q.low);
      })

-- ---- the tests of the lists of a member, of a block and of the file

member_of : (d : DeclrTree) → member_declarator d ≡ true → declarator_placed d ≡ true → array_placed false d ≡ true
member_of d p q =
    let a = both_true (has_name d && has_arrays d) (not (has_initialiser d)) p in
    let b = both_true (has_name d) (has_arrays d) a.0 in
    true_both _ _ (true_both _ _ (true_both _ _ b.1 a.1) b.0) q

of_member : (d : DeclrTree) → array_placed false d ≡ true → (member_declarator d ≡ true) × (declarator_placed d ≡ true)
of_member d p =
    let a = both_true (parameter_declarator d && has_name d) (declarator_placed d) p in
    let b = both_true (parameter_declarator d) (has_name d) a.0 in
    let c = both_true (has_arrays d) (not (has_initialiser d)) b.0 in
    (true_both _ _ (true_both _ _ b.1 c.0) c.1, a.1)

pub members_of : (ds : DeclrTrees) → member_declarators ds ≡ true → declarators_placed ds ≡ true → all_declarators (array_placed false) ds ≡ true
members_of s.no_declarators p q = refl
members_of (s.then_declarator x xs) p q =
    let a = both_true (member_declarator x) (member_declarators xs) p in
    let b = both_true (declarator_placed x) (declarators_placed xs) q in
    true_both _ _ (member_of x a.0 b.0) (members_of xs a.1 b.1)

pub of_members : (ds : DeclrTrees) → all_declarators (array_placed false) ds ≡ true → (member_declarators ds ≡ true) × (declarators_placed ds ≡ true)
of_members s.no_declarators p = (refl, refl)
of_members (s.then_declarator x xs) p =
    let a = both_true (array_placed false x) (all_declarators (array_placed false) xs) p in
    let b = of_member x a.0 in
    let c = of_members xs a.1 in
    (true_both _ _ b.0 c.0, true_both _ _ b.1 c.1)

pub locals_of : (ds : DeclrTrees) → local_declarators ds ≡ true → declarators_placed ds ≡ true → all_declarators (declares false) ds ≡ true
locals_of s.no_declarators p q = refl
locals_of (s.then_declarator x xs) p q =
    let a = both_true (has_name x && has_arrays x) (local_declarators xs) p in
    let b = both_true (declarator_placed x) (declarators_placed xs) q in
    true_both _ _ (true_both _ _ a.0 b.0) (locals_of xs a.1 b.1)

pub of_locals : (ds : DeclrTrees) → all_declarators (declares false) ds ≡ true → (local_declarators ds ≡ true) × (declarators_placed ds ≡ true)
of_locals s.no_declarators p = (refl, refl)
of_locals (s.then_declarator x xs) p =
    let a = both_true (declares false x) (all_declarators (declares false) xs) p in
    let b = both_true (has_name x && has_arrays x) (declarator_placed x) a.0 in
    let c = of_locals xs a.1 in
    (true_both _ _ b.0 c.0, true_both _ _ b.1 c.1)

pub files_of : (ds : DeclrTrees) → file_declarators ds ≡ true → declarators_placed ds ≡ true → all_declarators (declares true) ds ≡ true
files_of s.no_declarators p q = refl
files_of (s.then_declarator x xs) p q =
    let a = both_true (has_name x) (file_declarators xs) p in
    let b = both_true (declarator_placed x) (declarators_placed xs) q in
    true_both _ _ (true_both _ _ a.0 b.0) (files_of xs a.1 b.1)

pub of_files : (ds : DeclrTrees) → all_declarators (declares true) ds ≡ true → (file_declarators ds ≡ true) × (declarators_placed ds ≡ true)
of_files s.no_declarators p = (refl, refl)
of_files (s.then_declarator x xs) p =
    let a = both_true (declares true x) (all_declarators (declares true) xs) p in
    let b = both_true (has_name x) (declarator_placed x) a.0 in
    let c = of_files xs a.1 in
    (true_both _ _ b.0 c.0, true_both _ _ b.1 c.1)

-- ---- what begins a list

-- the tests of these lists ask for names
abbrev pub all_named : DeclrTrees → Bool
all_named ds = all_declarators has_name ds

pub named_members : (ds : DeclrTrees) → all_declarators (array_placed false) ds ≡ true → all_named ds ≡ true
named_members s.no_declarators p = refl
named_members (s.then_declarator x xs) p =
    let a = both_true (array_placed false x) (all_declarators (array_placed false) xs) p in
    let b = both_true (parameter_declarator x && has_name x) (declarator_placed x) a.0 in
    true_both _ _ (both_true (parameter_declarator x) (has_name x) b.0).1 (named_members xs a.1)

pub named_files : (ds : DeclrTrees) → all_declarators (declares true) ds ≡ true → all_named ds ≡ true
named_files s.no_declarators p = refl
named_files (s.then_declarator x xs) p =
    let a = both_true (declares true x) (all_declarators (declares true) xs) p in
    true_both _ _ (both_true (has_name x) (declarator_placed x) a.0).0 (named_files xs a.1)

pub named_locals : (ds : DeclrTrees) → all_declarators (declares false) ds ≡ true → all_named ds ≡ true
named_locals s.no_declarators p = refl
named_locals (s.then_declarator x xs) p =
    let a = both_true (declares false x) (all_declarators (declares false) xs) p in
    let b = both_true (has_name x && has_arrays x) (declarator_placed x) a.0 in
    true_both _ _ (both_true (has_name x) (has_arrays x) b.0).0 (named_locals xs a.1)

-- no basic word, no brace and no `;` begins a declarator with a name
named_no_left_brace : (d : DeclrTree) (r : List Lexeme) → has_name d ≡ true → behind_left_brace (prints_declarator d r) ≡ None
named_no_left_brace (s.declarator n zero (Some at) t i) r p = refl
named_no_left_brace (s.declarator n (suc count) at t i) r p = refl
named_no_left_brace (s.declarator n zero None t i) r p = absurd cc

named_no_semicolon : (d : DeclrTree) (r : List Lexeme) → has_name d ≡ true → behind_semicolon (prints_declarator d r) ≡ None
named_no_semicolon (s.declarator n zero (Some at) t i) r p = refl
named_no_semicolon (s.declarator n (suc count) at t i) r p = refl
named_no_semicolon (s.declarator n zero None t i) r p = absurd cc

pub list_no_words : (ds : DeclrTrees) (r : List Lexeme) → all_named ds ≡ true → words_at (prints_declarator_list ds r) ≡ ([], prints_declarator_list ds r)
unfolding words_at
list_no_words s.no_declarators r p = refl
list_no_words (s.then_declarator x xs) r p = named_declarator_no_words x (prints_declarators_left xs r) (both_true (has_name x) (all_named xs) p).0

pub list_no_left_brace : (ds : DeclrTrees) (r : List Lexeme) → all_named ds ≡ true → behind_left_brace (prints_declarator_list ds r) ≡ None
list_no_left_brace s.no_declarators r p = refl
list_no_left_brace (s.then_declarator x xs) r p = named_no_left_brace x (prints_declarators_left xs r) (both_true (has_name x) (all_named xs) p).0

pub list_no_semicolon : (x : DeclrTree) (xs : DeclrTrees) (r : List Lexeme) → all_named (s.then_declarator x xs) ≡ true → behind_semicolon (prints_declarator_list (s.then_declarator x xs) r) ≡ None
list_no_semicolon x xs r p = named_no_semicolon x (prints_declarators_left xs r) (both_true (has_name x) (all_named xs) p).0
