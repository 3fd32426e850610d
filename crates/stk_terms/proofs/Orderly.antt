-- The numbers of the terms of an order.
use Rattle.std.proofs.Common.{◌≡◌, ◌≢◌, ℕ, zero, suc, ◌+◌, ◌<◌, ◌≤◌, Bool, true, false, List, [], ◌∷◌, length, get_or, refl, sym, ap, subst, ◌∙◌, arith, nat_eq, nat_lt}
use Rattle.std.proofs.Math.ListN.{set}
use Rattle.std.proofs.lemmas.List.{get_or-set_same, get_or-set_other}
use Rattle.std.proofs.lemmas.Bool.{eqb-true, eq-eqb, ltb-true, ltb-false}
use Rattle.stk_terms.specs.declared.term.TermNode.{TermNode}
use Rattle.stk_terms.specs.declared.term.TermId.{TermId}
use Rattle.stk_terms.specs.Terms.{Term, Stored, term_at, nth}
use Rattle.stk_terms.specs.Keys.{plain, terms_of, sizes_of, stored, AreKept}
use Rattle.stk_terms.specs.Values.{none, arg_at, meanings, number_at, number_by}
use Rattle.stk_terms.specs.Fitting.{AreBelow, AreResidues}
use Rattle.stk_terms.specs.Applying.{CanApply}
use Rattle.stk_terms.specs.Orders.{IsOrder, AreNumbers}
use Rattle.stk_terms.proofs.Args.{wider}
use Rattle.stk_terms.proofs.Evaluating.{among, under, can_with, number_with}

-- the term of a node
plain_at : (ns : List TermNode) (i : ℕ) (m : TermNode) (d : Term) → i < length ns → get_or (terms_of ns) i d ≡ plain (get_or ns i m)
plain_at [] i m d h = absurd (omega arith)
plain_at (n ∷ ns) zero m d h = refl
plain_at (n ∷ ns) (suc i) m d h = plain_at ns i m d (omega arith)

not_both : (b : Bool) → b ≡ true → b ≡ false → ⊥
not_both b h k = cc

-- one more number
pub numbers_more : (s : Stored) (r ps : List ℕ) (i : ℕ) (xs : List ℕ) (v : ℕ) → get_or ps i 0 < length xs → v ≡ number_at s r (get_or ps i 0) → AreNumbers s r ps i xs → AreNumbers s r ps (i + 1) (set xs (get_or ps i 0) v)
numbers_more s r ps i xs v h e are k l = by (nat_eq (get_or ps k 0) (get_or ps i 0)) refl
  where
    by : (b : Bool) → nat_eq (get_or ps k 0) (get_or ps i 0) ≡ b → get_or (set xs (get_or ps i 0) v) (get_or ps k 0) 0 ≡ number_at s r (get_or ps k 0)
    by true q = subst (λ z. get_or (set xs (get_or ps i 0) v) z 0 ≡ number_at s r z) (sym (eqb-true (get_or ps k 0) (get_or ps i 0) q)) (get_or-set_same xs (get_or ps i 0) v 0 h ∙ e)
    by false q =
        let n : get_or ps k 0 ≢ get_or ps i 0 = λ d. not_both (nat_eq (get_or ps k 0) (get_or ps i 0)) (eq-eqb (get_or ps k 0) (get_or ps i 0) d) q in
        get_or-set_other xs (get_or ps i 0) (get_or ps k 0) v 0 n ∙ are k (less n (nat_lt k i) refl)
      where
        less : (get_or ps k 0 ≢ get_or ps i 0) → (b : Bool) → nat_lt k i ≡ b → k < i
        less n true f = ltb-true k i f
        less n false f = let g = ltb-false k i f in let d : k ≡ i = omega (arith, g, l) in absurd (n (ap (λ z. get_or ps z 0) d))

module _ (inputs residues : List ℕ) (ns : List TermNode) (kept : AreKept inputs ns) (res : AreResidues inputs residues) (ps : List ℕ) (xs : List ℕ) (order : IsOrder (stored inputs ns) (length xs) ps) (few : length xs ≤ length ns) (i : ℕ) (h : i < length ps) (are : AreNumbers (stored inputs ns) residues ps i xs) (n : TermNode) (e : n ≡ get_or ns (get_or ps i 0) n) where
  abbrev s : Stored
  s = stored inputs ns

  abbrev p : ℕ
  p = get_or ps i 0

  abbrev m : TermNode
  m = get_or ns p n

  exists : p < length ns
  exists = let b = order.below i h in omega (arith, b, few)

  args_are : (term_at s p).args ≡ m.args.items
  args_are = ap (λ (t : Term). t.args) (plain_at ns p n _ exists)

  each : (j : ℕ) → j < length m.args.items → get_or xs (nth m.args.items j) 0 ≡ (get_or (meanings s residues) (nth m.args.items j) none).number
  each j l =
      let b = order.behind i j h (subst (λ (given : List TermId). j < length given) (sym args_are) l) in
      subst (λ q. get_or xs q 0 ≡ number_at s residues q) (b.is ∙ ap (λ (given : List TermId). nth given j) args_are) (are b.at b.before)

  pub node_among : AreBelow (length ns) n.args.items
  node_among = subst (λ (z : TermNode). AreBelow (length ns) z.args.items) (sym e) (among inputs residues ns kept res p n exists)

  pub node_before : AreBelow (length xs) n.args.items
  node_before = subst (λ (z : TermNode). AreBelow (length xs) z.args.items) (sym e) (wider p (length xs) m.args.items (let b = order.below i h in omega (arith, b)) (under inputs residues ns kept res p n exists))

  pub node_can : CanApply residues n.op (arg_at 0 (sizes_of ns) n.args.items 0) (arg_at 0 (sizes_of ns) n.args.items 1) (arg_at 0 xs n.args.items 0) (arg_at 0 xs n.args.items 1)
  node_can = subst (λ (z : TermNode). CanApply residues z.op (arg_at 0 (sizes_of ns) z.args.items 0) (arg_at 0 (sizes_of ns) z.args.items 1) (arg_at 0 xs z.args.items 0) (arg_at 0 xs z.args.items 1)) (sym e) (can_with inputs residues ns kept res p n exists xs each)

  pub node_number : number_by residues n.op (arg_at 0 (sizes_of ns) n.args.items 0) (arg_at 0 (sizes_of ns) n.args.items 1) (arg_at 0 xs n.args.items 0) (arg_at 0 xs n.args.items 1) (arg_at 0 xs n.args.items 2) ≡ number_at s residues p
  node_number = subst (λ (z : TermNode). number_by residues z.op (arg_at 0 (sizes_of ns) z.args.items 0) (arg_at 0 (sizes_of ns) z.args.items 1) (arg_at 0 xs z.args.items 0) (arg_at 0 xs z.args.items 1) (arg_at 0 xs z.args.items 2) ≡ number_at s residues p) (sym e) (number_with inputs residues ns kept res p n exists xs each)
