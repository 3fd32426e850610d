-- What the call that makes a term has to show.
use Rattle.std.proofs.Common.{◌≡◌, ◌≤◌, ◌+◌, ℕ, List, [], get_or, sym, ap, subst, ◌∙◌, length}
use Rattle.smallvec.specs.SmallVec.{SmallVec}
use Rattle.stk_terms.specs.declared.term.TermNode.{TermNode}
use Rattle.stk_terms.specs.declared.term.TermOp.{TermOp}
use Rattle.stk_terms.specs.declared.term.TermId.{TermId}
use Rattle.stk_terms.specs.Terms.{Stored, StandsAt, Adds, term_of}
use Rattle.stk_terms.specs.Keys.{terms_of, sizes_of, plain, StandsIn, AreKept, Once, AddsNode}
use Rattle.stk_terms.specs.Values.{width_of, widths_of, meaning, meanings, bits_of}
use Rattle.stk_terms.specs.Fitting.{Fits, AreBelow, CanMake, IsSound}
use Rattle.stk_terms.specs.Cost.{total_cost, bound_of}
use Rattle.stk_terms.specs.Growth.{Keeps}
use Rattle.stk_terms.proofs.Adding as adding
use Rattle.stk_terms.proofs.Adding.{store}
use Rattle.stk_terms.proofs.Growing.{long}
use Rattle.std.proofs.Math.Nat.{zero-add}

module _ (inputs : List ℕ) (old new : List TermNode) (op : TermOp) (args : List TermId) (kept_args : SmallVec TermId) (width place : ℕ) (s : Stored)
    (view_is : store inputs old ≡ s) (old_kept : AreKept inputs old) (can : CanMake s (term_of op args))
    (args_are : kept_args.items ≡ args) (width_is : width ≡ width_of inputs (sizes_of old) (term_of op args))
    (once : Once new) (adds : AddsNode old (record { op = op; args = kept_args; width = width }) new) (placed : StandsIn new place (record { op = op; args = kept_args; width = width })) where
  abbrev pub node : TermNode
  node = record { op = op; args = kept_args; width = width }

  same : plain node ≡ term_of op args
  same = ap (term_of op) args_are

  fits : Fits s.inputs (widths_of s) (term_of op args)
  fits = record { arity_is = can.arity_is; exist = subst (λ n. AreBelow n args) (sym (long (width_of s.inputs) [] s.terms ∙ zero-add (length s.terms))) can.exist; widths_fit = can.widths_fit }

  fits_here : Fits inputs (sizes_of old) (plain node)
  fits_here = subst (λ t. Fits inputs (sizes_of old) t) (sym same) (subst (λ l. Fits inputs l (term_of op args)) (sym old_kept.sized) (subst (λ z. Fits z.inputs (widths_of z) (term_of op args)) (sym view_is) fits))

  width_here : width ≡ width_of inputs (sizes_of old) (plain node)
  width_here = width_is ∙ ap (width_of inputs (sizes_of old)) (sym same)

  pub kept : AreKept inputs new
  kept = adding.kept_after inputs old new node old_kept fits_here width_here once adds

  pub stands : StandsAt (terms_of new) place (term_of op args)
  stands = subst (StandsAt (terms_of new) place) same (adding.stands_plain new place node placed)

  pub shared : ((i : ℕ) → StandsIn old i node → place ≡ i) → (i : ℕ) → StandsAt s.terms i (term_of op args) → place ≡ i
  shared f i h = f i (adding.stands_in inputs old i node old_kept width_here (subst (StandsAt (terms_of old) i) (sym same) (subst (λ z. StandsAt z.terms i (term_of op args)) (sym view_is) h)))

  added : Adds (terms_of old) (term_of op args) (terms_of new)
  added = subst (λ t. Adds (terms_of old) t (terms_of new)) same (adding.adds_term old new node adds)

  pub keeps : Keeps s (store inputs new)
  keeps = subst (λ z. Keeps z (store inputs new)) view_is (adding.keeps_adding inputs (terms_of old) (terms_of new) (term_of op args) added)

  pub value : (residues : List ℕ) → meaning (store inputs new) residues place ≡ bits_of s.inputs residues (meanings s residues) (term_of op args)
  value residues =
      subst (λ z. meaning (store inputs new) residues place ≡ bits_of z.inputs residues (meanings z residues) (term_of op args)) view_is
      (adding.value_of_added inputs residues (terms_of old) (terms_of new) (term_of op args) place kept.fit stands added (subst (λ n. AreBelow n args) (adding.sizes_length old) (subst (λ t. AreBelow (length (sizes_of old)) t.args) same fits_here.exist)))

  pub wide : get_or (widths_of (store inputs new)) place 0 ≡ width_of s.inputs (widths_of s) (term_of op args)
  wide =
      subst (λ z. get_or (widths_of (store inputs new)) place 0 ≡ width_of z.inputs (widths_of z) (term_of op args)) view_is
      (adding.width_of_added inputs (terms_of old) (terms_of new) (term_of op args) place kept.fit stands added (subst (λ n. AreBelow n args) (adding.sizes_length old) (subst (λ t. AreBelow (length (sizes_of old)) t.args) same fits_here.exist)))

  pub sound : IsSound (store inputs new)
  sound = record { widths_are = kept.widths_are; fit = kept.fit }

  pub charge : total_cost (store inputs new) ≤ total_cost s + bound_of (widths_of s) (term_of op args)
  charge = subst (λ z. total_cost (store inputs new) ≤ total_cost z + bound_of (widths_of z) (term_of op args)) view_is (adding.cost_adding inputs (terms_of old) (terms_of new) (term_of op args) added)
