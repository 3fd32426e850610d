-- A node more.
use Rattle.std.proofs.Common.{◌≡◌, ℕ, zero, suc, ◌+◌, ◌≤◌, List, [], ◌∷◌, ◌++◌, map, length, get_or, slice_get, Some, refl, sym, ap, subst, ◌∙◌, arith, length-append}
use Rattle.std.proofs.lemmas.List.{length-map, map-append, append-nil}
use Rattle.std.proofs.lemmas.Option.{none-some}
use Rattle.stk_terms.specs.declared.term.TermNode.{TermNode}
use Rattle.stk_terms.specs.Terms.{Term, Stored, StandsAt, Adds}
use Rattle.stk_terms.specs.Terms as terms
use Rattle.stk_terms.specs.Keys.{plain, said, terms_of, sizes_of, AreKept, Once, StandsIn, AddsNode, Same, More}
use Rattle.stk_terms.specs.Values.{Bits, none, evaluated, bits_of, width_of, meanings, meaning, widths_of}
use Rattle.stk_terms.specs.Fitting.{AreBelow, Fits, FitBehind}
use Rattle.stk_terms.specs.Growth.{Keeps}
use Rattle.stk_terms.specs.Cost.{costs, bound_of}
use Rattle.stk_terms.proofs.Growing.{long, push, older, meaning_at, width_at_term, bits_local, width_local}
use Rattle.stk_terms.proofs.Args.{fit_push}
use Rattle.stk_terms.proofs.Sharing.{some_one}

pub stands_plain : (ns : List TermNode) (i : ℕ) (n : TermNode) → StandsIn ns i n → StandsAt (terms_of ns) i (plain n)
stands_plain [] i n h = absurd (none-some _ h)
stands_plain (m ∷ ns) zero n h = ap (λ (p : Term × ℕ). Some p.0) (some_one h)
stands_plain (m ∷ ns) (suc i) n h = stands_plain ns i n h

said_as : (ns : List TermNode) (i : ℕ) (t : Term) → StandsAt (terms_of ns) i t → slice_get (map said ns) i ≡ Some (t, get_or (sizes_of ns) i 0)
said_as [] i t h = absurd (none-some _ h)
said_as (m ∷ ns) zero t h = ap (λ (u : Term). Some (u, m.width)) (some_one h)
said_as (m ∷ ns) (suc i) t h = said_as ns i t h

abbrev pub store : List ℕ → List TermNode → Stored
store inputs ns = record { inputs = inputs; terms = terms_of ns }

-- where the term stands, the node stands
pub stands_in : (inputs : List ℕ) (ns : List TermNode) (i : ℕ) (n : TermNode) → AreKept inputs ns → n.width ≡ width_of inputs (sizes_of ns) (plain n) → StandsAt (terms_of ns) i (plain n) → StandsIn ns i n
stands_in inputs ns i n kept w h =
    said_as ns i (plain n) h
    ∙ ap (λ k. Some (plain n, k)) (ap (λ l. get_or l i 0) kept.sized ∙ (width_at_term (store inputs ns) i (plain n) kept.fit h ∙ (ap (λ l. width_of inputs l (plain n)) (sym kept.sized) ∙ sym w)))

-- the nodes stay kept
pub kept_after : (inputs : List ℕ) (old new : List TermNode) (n : TermNode) → AreKept inputs old → Fits inputs (sizes_of old) (plain n) → n.width ≡ width_of inputs (sizes_of old) (plain n) → Once new → AddsNode old n new → AreKept inputs new
kept_after inputs old new n kept fits w once (Same e) = subst (AreKept inputs) (sym e) kept
kept_after inputs old new n kept fits w once (More e) = record {
  widths_are = kept.widths_are;
  fit = subst (λ ts. FitBehind inputs [] ts) (sym grown) (fit_push inputs [] (terms_of old) (plain n) kept.fit (subst (λ l. Fits inputs l (plain n)) kept.sized fits));
  sized = ap sizes_of e ∙ (map-append (λ m. m.width) old (n ∷ []) ∙ ((λ i. kept.sized i ++ (w ∙ ap (λ l. width_of inputs l (plain n)) kept.sized) i ∷ []) ∙ (sym (push (width_of inputs) [] (terms_of old) (plain n)) ∙ ap (evaluated (width_of inputs) []) (sym grown))));
  shared = once;
}
  where
    grown : terms_of new ≡ terms_of old ++ plain n ∷ []
    grown = ap terms_of e ∙ map-append plain old (n ∷ [])

pub adds_term : (old new : List TermNode) (n : TermNode) → AddsNode old n new → Adds (terms_of old) (plain n) (terms_of new)
adds_term old new n (Same e) = terms.Same (ap terms_of e)
adds_term old new n (More e) = terms.More (ap terms_of e ∙ map-append plain old (n ∷ []))

longer_by : (xs : List Term) (t : Term) → length xs ≤ length (xs ++ t ∷ [])
longer_by xs t = omega (arith, length-append xs (t ∷ []))

stands_still : (xs : List Term) (t : Term) (i : ℕ) (u : Term) → StandsAt xs i u → StandsAt (xs ++ t ∷ []) i u
stands_still [] t i u h = absurd (none-some _ h)
stands_still (x ∷ xs) t zero u h = h
stands_still (x ∷ xs) t (suc i) u h = stands_still xs t i u h

pub keeps_same : (s : Stored) → Keeps s s
keeps_same s = record { inputs_stay = refl; longer = omega arith; stand = λ i t h. h; meant = λ r i h. refl; wide = λ i h. refl }

pub keeps_adding : (inputs : List ℕ) (old new : List Term) (t : Term) → Adds old t new → Keeps (record { inputs = inputs; terms = old }) (record { inputs = inputs; terms = new })
keeps_adding inputs old new t (terms.Same e) = subst (λ (l : List Term). Keeps (record { inputs = inputs; terms = old }) (record { inputs = inputs; terms = l })) (sym e) (keeps_same (record { inputs = inputs; terms = old }))
keeps_adding inputs old new t (terms.More e) = subst (λ (l : List Term). Keeps (record { inputs = inputs; terms = old }) (record { inputs = inputs; terms = l })) (sym e) (record { inputs_stay = refl; longer = longer_by old t; stand = λ i u h. stands_still old t i u h; meant = λ r i h. older (bits_of inputs r) old t i none h; wide = λ i h. older (width_of inputs) old t i 0 h })

before_more : (inputs residues : List ℕ) (old new : List Term) (t : Term) → Adds old t new → (more : List Bits) × (evaluated (bits_of inputs residues) [] new ≡ evaluated (bits_of inputs residues) [] old ++ more)
before_more inputs residues old new t (terms.Same e) = ([], ap (evaluated (bits_of inputs residues) []) e ∙ sym (append-nil _))
before_more inputs residues old new t (terms.More e) = (bits_of inputs residues (evaluated (bits_of inputs residues) [] old) t ∷ [], ap (evaluated (bits_of inputs residues) []) e ∙ push (bits_of inputs residues) [] old t)

-- what the answered term means, over what the older ones mean
pub value_of_added : (inputs residues : List ℕ) (old new : List Term) (t : Term) (i : ℕ) → FitBehind inputs [] new → StandsAt new i t → Adds old t new → AreBelow (length old) t.args → meaning (record { inputs = inputs; terms = new }) residues i ≡ bits_of inputs residues (meanings (record { inputs = inputs; terms = old }) residues) t
value_of_added inputs residues old new t i fit h a b =
    let m = before_more inputs residues old new t a in
    let n : length (evaluated (bits_of inputs residues) [] old) ≡ length old = omega (arith, long (bits_of inputs residues) [] old) in
    meaning_at (record { inputs = inputs; terms = new }) residues i t fit h
    ∙ (ap (λ l. bits_of inputs residues l t) m.1 ∙ bits_local inputs residues (evaluated (bits_of inputs residues) [] old) m.0 t (subst (λ k. AreBelow k t.args) (sym n) b))

wider_more : (inputs : List ℕ) (old new : List Term) (t : Term) → Adds old t new → (more : List ℕ) × (evaluated (width_of inputs) [] new ≡ evaluated (width_of inputs) [] old ++ more)
wider_more inputs old new t (terms.Same e) = ([], ap (evaluated (width_of inputs) []) e ∙ sym (append-nil _))
wider_more inputs old new t (terms.More e) = (width_of inputs (evaluated (width_of inputs) [] old) t ∷ [], ap (evaluated (width_of inputs) []) e ∙ push (width_of inputs) [] old t)

pub width_of_added : (inputs : List ℕ) (old new : List Term) (t : Term) (i : ℕ) → FitBehind inputs [] new → StandsAt new i t → Adds old t new → AreBelow (length old) t.args → get_or (widths_of (record { inputs = inputs; terms = new })) i 0 ≡ width_of inputs (widths_of (record { inputs = inputs; terms = old })) t
width_of_added inputs old new t i fit h a b =
    let m = wider_more inputs old new t a in
    let n : length (evaluated (width_of inputs) [] old) ≡ length old = omega (arith, long (width_of inputs) [] old) in
    width_at_term (record { inputs = inputs; terms = new }) i t fit h
    ∙ (ap (λ l. width_of inputs l t) m.1 ∙ width_local inputs (evaluated (width_of inputs) [] old) m.0 t (subst (λ k. AreBelow k t.args) (sym n) b))

pub sizes_length : (ns : List TermNode) → length (sizes_of ns) ≡ length (terms_of ns)
sizes_length ns = length-map ns (λ n. n.width) ∙ sym (length-map ns plain)

cost_push : (inputs ws : List ℕ) (ts : List Term) (t : Term) → costs inputs ws (ts ++ t ∷ []) ≡ costs inputs ws ts + bound_of (evaluated (width_of inputs) ws ts) t
cost_push inputs ws [] t = omega arith
cost_push inputs ws (s ∷ ts) t = ap (λ n. bound_of ws s + n) (cost_push inputs (ws ++ width_of inputs ws s ∷ []) ts t) ∙ omega arith

pub cost_adding : (inputs : List ℕ) (old new : List Term) (t : Term) → Adds old t new → costs inputs [] new ≤ costs inputs [] old + bound_of (evaluated (width_of inputs) [] old) t
cost_adding inputs old new t (terms.Same e) = rw e (omega arith)
cost_adding inputs old new t (terms.More e) = rw (e, cost_push inputs [] old t) (omega arith)
