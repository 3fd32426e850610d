-- What a well-formed script prints is read as this script.
use Rattle.std.proofs.Common.{◌≡◌, ℕ, zero, suc, ◌<◌, ◌≤◌, ◌^◌, Bool, true, false, List, [], ◌∷◌, ◌++◌, length, length-append, refl, ap, sym, ◌∙◌, append_assoc, arith}
use Rattle.std.specs.Prelude.{Option, Some, None, codes}
use Rattle.stk_scripts.specs.Syntax.{Expr, Declared, Defined, Script}
use Rattle.stk_scripts.specs.Tokens.{Token, opening, closing, word, expr_tokens, sort_tokens, declared_tokens, defined_tokens, assert_tokens, check_tokens, all_tokens, declared_commands, defined_commands, logic_commands, script_tokens}
use Rattle.stk_scripts.specs.Scripts.{depth, names_of, behind_declared, DeclaredFit, DefinedFit, IsWellFormed}
use Rattle.stk_scripts.specs.Laws.{AreSmall}
use Rattle.stk_scripts.specs.Reading.{Front, ◌>>=◌, with_rest, Test, test_of, read_term}
use Rattle.stk_scripts.proofs.Numerals.{numeral_of}
use Rattle.stk_scripts.proofs.ReadBack.{printed_is_read, test_read, term_read}
use Rattle.stk_script_trees.specs.Fronts.{closing_front}
use Rattle.stk_script_trees.specs.Commands.{command_front, read_sort, read_named, read_declared, read_defined, in_front, commands_step, commands_at, declarations, definitions, logic_front, read_assert, read_end, read_behind, read_after, read_tokens}
use Rattle.stk_script_trees.proofs.Printed.{test_before, named_tokens, defined_of, all_printed, all_declared, all_defined, behind_tokens, script_is}
use Rattle.stk_script_trees.proofs.Small.{Held, small_of, all_held, defined_held}

-- ---- parts

sort_read : (w : ℕ) (ts : List Token) → w < 2 ^ 128 → read_sort (sort_tokens w ts) ≡ Some (w, ts)
sort_read w ts h = ap (λ (o : Option ℕ). with_rest (closing ∷ ts) o >>= λ width. closing_front width.1 >>= λ rest. Some (width.0, rest)) (numeral_of w h)

named_read : (d : Declared) (ts : List Token) → d.width < 2 ^ 128 → read_named (named_tokens d ts) ≡ Some (d, ts)
named_read d ts h = ap (λ (o : Front ℕ). o >>= λ width. Some (record { name = d.name; width = width.0 }, width.1)) (sort_read d.width ts h)

declared_read : (d : Declared) (rest : List Token) → d.width < 2 ^ 128 → read_declared (named_tokens d (closing ∷ rest)) ≡ Some (d, rest)
declared_read d rest h = ap (λ (o : Front Declared). o >>= λ d. closing_front d.1 >>= λ r. Some (d.0, r)) (named_read d (closing ∷ rest) h)

-- a definition that can be read
record IsReadable (most : ℕ) (d : Defined) : Type 0 where
  width : d.width < 2 ^ 128
  body : AreSmall d.body
  shallow : depth d.body ≤ most

defined_read : (most : ℕ) (d : Defined) (rest : List Token) → IsReadable most d → read_defined most (named_tokens (record { name = d.name; width = d.width }) (expr_tokens d.body ++ closing ∷ rest)) ≡ Some (d, rest)
defined_read most d rest h =
    ap (λ (o : Front Declared). o >>= λ d. read_term most d.1 >>= λ body. closing_front body.1 >>= λ rest. Some (defined_of d.0 body.0, rest))
    (named_read (record { name = d.name; width = d.width }) (expr_tokens d.body ++ closing ∷ rest) h.width)
    ∙ ap (λ (o : Front Expr). o >>= λ body. closing_front body.1 >>= λ rest. Some (defined_of (record { name = d.name; width = d.width }) body.0, rest))
    (printed_is_read most d.body (closing ∷ rest) h.body h.shallow)

-- ---- commands in a row

module _ {A : Type 0} (print : A → List Token) (w : List ℕ) (read : List Token → Front A) (P : A → Type 0) where
  abbrev pub AllP : List A → Type 0
  AllP [] = Unit {0}
  AllP (x ∷ xs) = P x × AllP xs

  -- a command behind its word, before tokens, is read
  abbrev pub IsReadBack : Type 0
  IsReadBack = (x : A) (rest : List Token) → P x → (behind : List Token) × (command_front w (print x ++ rest) ≡ Some behind) × (read behind ≡ Some (x, rest))

  module _ (reads : IsReadBack) where
    commands_read : (n : ℕ) (xs : List A) (rest : List Token) → length xs < n → AllP xs → command_front w rest ≡ None → commands_at w read n (all_printed print xs ++ rest) ≡ Some (xs, rest)
    commands_read zero xs rest l h stop = absurd (omega arith)
    commands_read (suc n) [] rest l h stop = ap (commands_step read (commands_at w read n) rest) stop
    commands_read (suc n) (x ∷ xs) rest l h stop =
        let k = reads x (all_printed print xs ++ rest) h.0 in
        ap (commands_at w read (suc n)) (append_assoc (print x) (all_printed print xs) rest)
        ∙ ap (commands_step read (commands_at w read n) (print x ++ (all_printed print xs ++ rest))) k.1
        ∙ ap (λ (o : Front A). o >>= λ y. in_front y.0 (commands_at w read n y.1)) k.2
        ∙ ap (in_front x) (commands_read n xs rest (omega (arith, l)) h.1 stop)

  -- what is printed is at least as long as there are commands
  longer : ((x : A) → 1 ≤ length (print x)) → (xs : List A) (rest : List Token) → length xs ≤ length (all_printed print xs ++ rest)
  longer some [] rest = omega arith
  longer some (x ∷ xs) rest =
      let k = longer some xs rest in
      let l = some x in
      let e = ap (λ (u : List Token). length u) (append_assoc (print x) (all_printed print xs) rest) ∙ length-append (print x) (all_printed print xs ++ rest) in
      omega (arith, k, l, e)

IsSmall : Declared → Type 0
IsSmall d = d.width < 2 ^ 128

declared_back : IsReadBack declared_tokens (codes "declare-fun") read_declared IsSmall
unfolding IsSmall
declared_back d rest h = (named_tokens d (closing ∷ rest), refl, declared_read d rest h)

defined_back : (most : ℕ) → IsReadBack defined_tokens (codes "define-fun") (read_defined most) (IsReadable most)
defined_back most d rest h = (
  named_tokens (record { name = d.name; width = d.width }) (expr_tokens d.body ++ closing ∷ rest),
  ap (λ u. Some (named_tokens (record { name = d.name; width = d.width }) u)) (append_assoc (expr_tokens d.body) (closing ∷ []) rest),
  defined_read most d rest h,
)

-- ---- whole scripts

-- tokens that begin with another command
ends_declared : (es : List Defined) (t : Script) → command_front (codes "declare-fun") (all_tokens (defined_commands es) ++ (assert_tokens t.test t.left t.right ++ check_tokens)) ≡ None
ends_declared [] t = refl
ends_declared (e ∷ es) t = refl

no_logic : (ds : List Declared) (es : List Defined) (t : Script) → logic_front (all_tokens (declared_commands ds) ++ (all_tokens (defined_commands es) ++ (assert_tokens t.test t.left t.right ++ check_tokens))) ≡ None
no_logic [] [] t = refl
no_logic [] (e ∷ es) t = refl
no_logic (d ∷ ds) es t = refl

declared_small : (g : List (List ℕ × ℕ)) (ds : List Declared) → DeclaredFit g ds → AllP declared_tokens (codes "declare-fun") read_declared IsSmall ds
unfolding IsSmall
declared_small g [] f = tt
declared_small g (d ∷ ds) f = let few = f.2 in (omega (arith, few), declared_small ((d.name, d.width) ∷ g) ds f.3)

defined_readable : (most : ℕ) → 400 ≤ most → (g : List (List ℕ × ℕ)) (ds : List Defined) → Held g → DefinedFit g ds → AllP defined_tokens (codes "define-fun") (read_defined most) (IsReadable most) ds
defined_readable most l g [] h f = tt
defined_readable most l g (d ∷ ds) h f =
    let k = small_of g d.body d.width h f.1 in
    let low = f.2 in
    (record { width = omega (arith, k.1); body = k.0; shallow = omega (arith, low, l) }, defined_readable most l ((d.name, d.width) ∷ g) ds (k.1, h) f.3)

declarations_read : (ds : List Declared) (rest : List Token) → DeclaredFit [] ds → command_front (codes "declare-fun") rest ≡ None → declarations (all_tokens (declared_commands ds) ++ rest) ≡ Some (ds, rest)
declarations_read ds rest f stop =
    let ts : List Token = all_printed declared_tokens ds ++ rest in
    let l = longer declared_tokens (codes "declare-fun") read_declared IsSmall (λ d. omega arith) ds rest in
    ap (λ u. declarations (u ++ rest)) (sym (all_declared ds))
    ∙ commands_read declared_tokens (codes "declare-fun") read_declared IsSmall declared_back (suc (length ts)) ds rest (omega (arith, l)) (declared_small [] ds f) stop

definitions_read : (most : ℕ) → 400 ≤ most → (g : List (List ℕ × ℕ)) (ds : List Defined) (rest : List Token) → Held g → DefinedFit g ds → command_front (codes "define-fun") rest ≡ None → definitions most (all_tokens (defined_commands ds) ++ rest) ≡ Some (ds, rest)
definitions_read most enough g ds rest h f stop =
    let ts : List Token = all_printed defined_tokens ds ++ rest in
    let l = longer defined_tokens (codes "define-fun") (read_defined most) (IsReadable most) (λ d. omega arith) ds rest in
    ap (λ u. definitions most (u ++ rest)) (sym (all_defined ds))
    ∙ commands_read defined_tokens (codes "define-fun") (read_defined most) (IsReadable most) (defined_back most) (suc (length ts)) ds rest (omega (arith, l)) (defined_readable most enough g ds h f) stop

assert_read : (n : ℕ) (t : Test) (rest : List Token) → AreSmall t.left → AreSmall t.right → depth t.left ≤ n → depth t.right ≤ n → read_assert (suc n) (assert_tokens t.op t.left t.right ++ rest) ≡ Some (t, rest)
assert_read n t rest sl sr dl dr =
    ap (λ u. read_assert (suc n) (opening ∷ word (codes "assert") ∷ u)) (test_before t (closing ∷ []) rest)
    ∙ ap (λ (o : Front Test). o >>= λ t. closing_front t.1 >>= λ r. Some (t.0, r)) (test_read t.op t.left t.right n (closing ∷ rest) (term_read t.left n sl dl) (term_read t.right n sr dr))

module _ (n : ℕ) (enough : 400 ≤ suc n) (s : Script) (formed : IsWellFormed s) where
  abbrev last : List Token
  last = assert_tokens s.test s.left s.right ++ check_tokens

  abbrev test : Test
  test = test_of s.test s.left s.right

  end_read : read_end check_tokens ≡ Some true
  end_read = refl

  left_small : AreSmall s.left
  left_small =
      let h = defined_held (behind_declared [] s.declared) s.defined (all_held s.declared formed.declared) formed.defined in
      (small_of (names_of s) s.left formed.compares.0 h formed.compares.1).0

  right_small : AreSmall s.right
  right_small =
      let h = defined_held (behind_declared [] s.declared) s.defined (all_held s.declared formed.declared) formed.defined in
      (small_of (names_of s) s.right formed.compares.0 h formed.compares.2).0

  behind_read : (b : Bool) → read_behind (suc n) b (behind_tokens s) ≡ Some (record { has_logic = b; declared = s.declared; defined = s.defined; test = s.test; left = s.left; right = s.right })
  behind_read b =
      let made : List Declared → List Defined → Test → Script = λ ds es t. record { has_logic = b; declared = ds; defined = es; test = t.op; left = t.left; right = t.right } in
      let shallow = formed.shallow in
      ap (λ (o : Front (List Declared)). o >>= λ ds. definitions (suc n) ds.1 >>= λ es. read_assert (suc n) es.1 >>= λ t. read_end t.1 >>= λ end. Some (made ds.0 es.0 t.0))
      (declarations_read s.declared (all_tokens (defined_commands s.defined) ++ last) formed.declared (ends_declared s.defined s))
      ∙ ap (λ (o : Front (List Defined)). o >>= λ es. read_assert (suc n) es.1 >>= λ t. read_end t.1 >>= λ end. Some (made s.declared es.0 t.0))
      (definitions_read (suc n) enough (behind_declared [] s.declared) s.defined last (all_held s.declared formed.declared) formed.defined refl)
      ∙ ap (λ (o : Front Test). o >>= λ t. read_end t.1 >>= λ end. Some (made s.declared s.defined t.0))
      (assert_read n test check_tokens left_small right_small (omega (arith, shallow.0, enough)) (omega (arith, shallow.1, enough)))

  after_read : (b : Bool) → s.has_logic ≡ b → read_tokens (suc n) (all_tokens (logic_commands b) ++ behind_tokens s) ≡ Some s
  after_read true e = behind_read true ∙ ap (λ b. Some (record { has_logic = b; declared = s.declared; defined = s.defined; test = s.test; left = s.left; right = s.right })) (sym e)
  after_read false e =
      ap (read_after (suc n) (behind_tokens s)) (no_logic s.declared s.defined s)
      ∙ behind_read false ∙ ap (λ b. Some (record { has_logic = b; declared = s.declared; defined = s.defined; test = s.test; left = s.left; right = s.right })) (sym e)

  -- a well-formed script is read back
  pub printed_reads : read_tokens (suc n) (script_tokens s) ≡ Some s
  printed_reads = ap (read_tokens (suc n)) (script_is s) ∙ after_read s.has_logic refl

pub read_back : (s : Script) → IsWellFormed s → read_tokens 400 (script_tokens s) ≡ Some s
read_back s f = printed_reads 399 (omega arith) s f
