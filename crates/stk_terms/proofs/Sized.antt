-- The widths that nodes keep, and the numbers of terms, are in range.
use Rattle.std.proofs.Common.{◌≡◌, ℕ, ◌^◌, ◌<◌, ◌≤◌, List, length, get_or, sym, ap, subst, ◌∙◌, arith}
use Rattle.std.proofs.lemmas.List.{get_or-map, length-map}
use Rattle.stk_terms.specs.declared.term.TermNode.{TermNode}
use Rattle.stk_terms.specs.Terms.{Stored}
use Rattle.stk_terms.specs.Keys.{plain, stored, AreKept}
use Rattle.stk_terms.specs.Fitting.{IsSound, AreResidues}
use Rattle.stk_terms.specs.Values.{width_at, number_at}
use Rattle.stk_terms.proofs.Reading.{below, least, most}

module _ (inputs : List ℕ) (ns : List TermNode) (s : Stored) (i : ℕ) (same : stored inputs ns ≡ s) (kept : AreKept inputs ns) (h : i < length s.terms) where
  sound : IsSound s
  sound = subst IsSound same (record { widths_are = kept.widths_are; fit = kept.fit })

  width_is : (m : TermNode) → (get_or ns i m).width ≡ width_at s i
  width_is m =
      let many : length (stored inputs ns).terms ≡ length s.terms = ap (λ (t : Stored). length t.terms) same in
      let within : i < length ns = omega (arith, many, length-map ns plain) in
      sym (get_or-map (λ n. n.width) ns i m 0 within) ∙ (ap (λ l. get_or l i 0) kept.sized ∙ ap (λ t. width_at t i) same)

  pub some : (m : TermNode) → 1 ≤ (get_or ns i m).width
  some m = subst (λ w. 1 ≤ w) (sym (width_is m)) (least s sound i h)

  pub few : (m : TermNode) → (get_or ns i m).width ≤ 128
  few m = subst (λ w. w ≤ 128) (sym (width_is m)) (most s sound i)

  pub in_range : (r : List ℕ) (n : ℕ) → AreResidues s.inputs r → n ≡ number_at (stored inputs ns) r i → n < 2 ^ width_at s i
  in_range r n ok e = subst (λ k. k < 2 ^ width_at s i) (sym (e ∙ ap (λ t. number_at t r i) same)) (below s sound r i ok)
