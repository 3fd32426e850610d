-- The numbers of nodes, one after the other.
use Rattle.std.proofs.Common.{◌≡◌, ℕ, zero, suc, ◌+◌, ◌<◌, List, [], ◌∷◌, ◌++◌, map, length, get_or, take, drop, refl, sym, ap, subst, ◌∙◌, arith}
use Rattle.std.proofs.lemmas.List.{length-map, length-take-le, get_or-take, take-append-drop}
use Rattle.stk_terms.specs.declared.term.TermNode.{TermNode}
use Rattle.stk_terms.specs.declared.term.TermId.{TermId}
use Rattle.stk_terms.specs.Terms.{Stored, StandsAt, nth}
use Rattle.stk_terms.specs.Keys.{plain, terms_of, sizes_of, AreKept}
use Rattle.stk_terms.specs.Values.{Bits, none, arg_at, bits_of, number_by, meanings}
use Rattle.stk_terms.specs.Fitting.{AreBelow, AreResidues, Fits}
use Rattle.stk_terms.specs.Applying.{CanApply}
use Rattle.stk_terms.proofs.Growing.{long, behind, meaning_at, arg_front, arg_number, arg_width, number_at, widths_same}
use Rattle.stk_terms.proofs.Below.{AllWide, can_apply, all_below, all_wide, arg_below, arg_most, arg_least, no_bits, no_widths}
use Rattle.stk_terms.proofs.Args.{wider, below_at, fits_at}

term_at : (ns : List TermNode) (i : ℕ) (m : TermNode) → i < length ns → StandsAt (terms_of ns) i (plain (get_or ns i m))
term_at [] i m h = absurd (omega arith)
term_at (n ∷ ns) zero m h = refl
term_at (n ∷ ns) (suc i) m h = term_at ns i m (omega arith)

take_more : (xs : List ℕ) (i : ℕ) → i < length xs → take i xs ++ get_or xs i 0 ∷ [] ≡ take (i + 1) xs
take_more [] i h = absurd (omega arith)
take_more (x ∷ xs) zero h = refl
take_more (x ∷ xs) (suc i) h = let e : suc i + 1 ≡ suc (i + 1) = omega arith in rw e (ap (λ l. x ∷ l) (take_more xs i (omega arith)))

-- what stands for an argument is its number, where that is so of each
arg_alike : (xs : List ℕ) (all : List Bits) (args : List TermId) (k : ℕ) → ((j : ℕ) → j < length args → get_or xs (nth args j) 0 ≡ (get_or all (nth args j) none).number) → arg_at 0 xs args k ≡ (arg_at none all args k).number
arg_alike xs all [] k each = refl
arg_alike xs all (a ∷ args) zero each = each 0 (omega arith)
arg_alike xs all (a ∷ args) (suc k) each = arg_alike xs all args k (λ j l. each (suc j) (omega arith))

module _ (inputs residues : List ℕ) (ns : List TermNode) (kept : AreKept inputs ns) (res : AreResidues inputs residues) where
  abbrev s : Stored
  s = record { inputs = inputs; terms = terms_of ns }

  abbrev all : List Bits
  all = meanings s residues

  abbrev numbers : List ℕ
  numbers = map (λ b. b.number) all

  sizes : sizes_of ns ≡ map (λ b. b.width) all
  sizes = kept.sized ∙ sym (widths_same inputs residues [] (terms_of ns))

  size_is : (args : List TermId) (k : ℕ) → arg_at 0 (sizes_of ns) args k ≡ (arg_at none all args k).width
  size_is args k = ap (λ l. arg_at 0 l args k) sizes ∙ arg_width all args k

  count : length numbers ≡ length ns
  count = length-map all (λ b. b.number) ∙ (long (bits_of inputs residues) [] (terms_of ns) ∙ (omega arith ∙ length-map ns plain))

  module _ (i : ℕ) (m : TermNode) (h : i < length ns) where
    abbrev n : TermNode
    n = get_or ns i m

    stands : StandsAt (terms_of ns) i (plain n)
    stands = term_at ns i m h

    pub under : AreBelow i n.args.items
    under = wider (0 + i) i n.args.items (omega arith) (below_at 0 (terms_of ns) i (plain n) (behind inputs [] (terms_of ns) kept.fit) stands)

    pub among : AreBelow (length ns) n.args.items
    among = wider i (length ns) n.args.items (omega arith) under

    taken : length (take i numbers) ≡ i
    taken = length-take-le i numbers (omega (arith, count))

    pub before : AreBelow (length (take i numbers)) n.args.items
    before = subst (λ j. AreBelow j n.args.items) (sym taken) under

    number_is : (k : ℕ) → arg_at 0 (take i numbers) n.args.items k ≡ (arg_at none all n.args.items k).number
    number_is k = sym (arg_front 0 (take i numbers) (drop i numbers) n.args.items k before) ∙ (ap (λ l. arg_at 0 l n.args.items k) (take-append-drop i numbers) ∙ arg_number all n.args.items k)

    well : Fits inputs (sizes_of ns) (plain n)
    well = subst (λ l. Fits inputs l (plain n)) (sym kept.sized) (fits_at inputs [] (terms_of ns) i (plain n) kept.fit stands)

    pub can : CanApply residues n.op (arg_at 0 (sizes_of ns) n.args.items 0) (arg_at 0 (sizes_of ns) n.args.items 1) (arg_at 0 (take i numbers) n.args.items 0) (arg_at 0 (take i numbers) n.args.items 1)
    can =
        let wide = subst AllWide (sym kept.sized) (all_wide inputs [] (terms_of ns) kept.widths_are kept.fit no_widths) in
        let low = all_below inputs residues [] (terms_of ns) res kept.fit no_bits in
        can_apply inputs residues n.op (arg_at 0 (sizes_of ns) n.args.items 0) (arg_at 0 (sizes_of ns) n.args.items 1) (arg_at 0 (sizes_of ns) n.args.items 2) _ _ res well.widths_fit (arg_most (sizes_of ns) n.args.items 0 wide)
        (λ l. arg_least (sizes_of ns) n.args.items 0 wide (subst (λ j. AreBelow j n.args.items) (sym (length-map ns (λ m. m.width))) among) (subst (λ j. 0 < j) (sym well.arity_is) l))
        (rw (number_is 0, size_is n.args.items 0) (arg_below all n.args.items 0 low))
        (rw (number_is 1, size_is n.args.items 1) (arg_below all n.args.items 1 low))

    pub more : take i numbers ++ number_by residues n.op (arg_at 0 (sizes_of ns) n.args.items 0) (arg_at 0 (sizes_of ns) n.args.items 1) (arg_at 0 (take i numbers) n.args.items 0) (arg_at 0 (take i numbers) n.args.items 1) (arg_at 0 (take i numbers) n.args.items 2) ∷ [] ≡ take (i + 1) numbers
    more =
        let same : number_by residues n.op (arg_at 0 (sizes_of ns) n.args.items 0) (arg_at 0 (sizes_of ns) n.args.items 1) (arg_at 0 (take i numbers) n.args.items 0) (arg_at 0 (take i numbers) n.args.items 1) (arg_at 0 (take i numbers) n.args.items 2) ≡ get_or numbers i 0 =
        rw (size_is n.args.items 0, size_is n.args.items 1, number_is 0, number_is 1, number_is 2) (sym (number_at all i ∙ ap (λ b. b.number) (meaning_at s residues i (plain n) kept.fit stands))) in
        ap (λ x. take i numbers ++ x ∷ []) same ∙ take_more numbers i (omega (arith, count))

    -- the same over the numbers of the arguments, wherever they come from
    module _ (xs : List ℕ) (each : (j : ℕ) → j < length n.args.items → get_or xs (nth n.args.items j) 0 ≡ (get_or all (nth n.args.items j) none).number) where
      given : (k : ℕ) → arg_at 0 xs n.args.items k ≡ (arg_at none all n.args.items k).number
      given k = arg_alike xs all n.args.items k each

      pub can_with : CanApply residues n.op (arg_at 0 (sizes_of ns) n.args.items 0) (arg_at 0 (sizes_of ns) n.args.items 1) (arg_at 0 xs n.args.items 0) (arg_at 0 xs n.args.items 1)
      can_with =
          let wide = subst AllWide (sym kept.sized) (all_wide inputs [] (terms_of ns) kept.widths_are kept.fit no_widths) in
          let low = all_below inputs residues [] (terms_of ns) res kept.fit no_bits in
          can_apply inputs residues n.op (arg_at 0 (sizes_of ns) n.args.items 0) (arg_at 0 (sizes_of ns) n.args.items 1) (arg_at 0 (sizes_of ns) n.args.items 2) _ _ res well.widths_fit (arg_most (sizes_of ns) n.args.items 0 wide)
          (λ l. arg_least (sizes_of ns) n.args.items 0 wide (subst (λ j. AreBelow j n.args.items) (sym (length-map ns (λ m. m.width))) among) (subst (λ j. 0 < j) (sym well.arity_is) l))
          (rw (given 0, size_is n.args.items 0) (arg_below all n.args.items 0 low))
          (rw (given 1, size_is n.args.items 1) (arg_below all n.args.items 1 low))

      pub number_with : number_by residues n.op (arg_at 0 (sizes_of ns) n.args.items 0) (arg_at 0 (sizes_of ns) n.args.items 1) (arg_at 0 xs n.args.items 0) (arg_at 0 xs n.args.items 1) (arg_at 0 xs n.args.items 2) ≡ (get_or all i none).number
      number_with = rw (size_is n.args.items 0, size_is n.args.items 1, given 0, given 1, given 2) (sym (ap (λ b. b.number) (meaning_at s residues i (plain n) kept.fit stands)))

  -- the same of the node that is read, over the numbers that are kept
  moved : (P : TermNode → List ℕ → Type 0) (a b : TermNode) (xs ys : List ℕ) → b ≡ a → ys ≡ xs → P a xs → P b ys
  moved P a b xs ys e d p = subst (λ n. P n ys) (sym e) (subst (P a) (sym d) p)

  module _ (i : ℕ) (m n : TermNode) (done : List ℕ) (h : i < length ns) (e : n ≡ get_or ns i m) (d : done ≡ take i numbers) where
    pub among_is : AreBelow (length ns) n.args.items
    among_is = moved (λ n l. AreBelow (length ns) n.args.items) (get_or ns i m) n (take i numbers) done e d (among i m h)

    pub before_is : AreBelow (length done) n.args.items
    before_is = moved (λ n l. AreBelow (length l) n.args.items) (get_or ns i m) n (take i numbers) done e d (before i m h)

    pub can_is : CanApply residues n.op (arg_at 0 (sizes_of ns) n.args.items 0) (arg_at 0 (sizes_of ns) n.args.items 1) (arg_at 0 done n.args.items 0) (arg_at 0 done n.args.items 1)
    can_is = moved (λ n l. CanApply residues n.op (arg_at 0 (sizes_of ns) n.args.items 0) (arg_at 0 (sizes_of ns) n.args.items 1) (arg_at 0 l n.args.items 0) (arg_at 0 l n.args.items 1)) (get_or ns i m) n (take i numbers) done e d (can i m h)

    pub more_is : done ++ number_by residues n.op (arg_at 0 (sizes_of ns) n.args.items 0) (arg_at 0 (sizes_of ns) n.args.items 1) (arg_at 0 done n.args.items 0) (arg_at 0 done n.args.items 1) (arg_at 0 done n.args.items 2) ∷ [] ≡ take (i + 1) numbers
    more_is = moved (λ n l. l ++ number_by residues n.op (arg_at 0 (sizes_of ns) n.args.items 0) (arg_at 0 (sizes_of ns) n.args.items 1) (arg_at 0 l n.args.items 0) (arg_at 0 l n.args.items 1) (arg_at 0 l n.args.items 2) ∷ [] ≡ take (i + 1) numbers) (get_or ns i m) n (take i numbers) done e d (more i m h)

  -- the last of the numbers
  pub last_is : (i : ℕ) (done : List ℕ) → i < length ns → done ≡ take (i + 1) numbers → (i < length done) × (get_or done i 0 ≡ (get_or all i none).number)
  last_is i done h d =
      let n : i < length (take (i + 1) numbers) = omega (arith, length-take-le (i + 1) numbers (omega (arith, count))) in
      (subst (λ l. i < length l) (sym d) n, ap (λ l. get_or l i 0) d ∙ (get_or-take (i + 1) numbers i 0 (omega arith) ∙ number_at all i))
