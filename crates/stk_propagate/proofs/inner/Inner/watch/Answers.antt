use Rattle.std.proofs.Common.{◌≡◌, ℕ, ◌+◌, ◌*◌, ◌<◌, List, [], length, get_or, set, ◌∙◌, ap, arith, refl, Some}
use Rattle.stk_clauses.specs.declared.literal.Lit.{Lit}
use Rattle.stk_propagate.specs.WatchLists.{Chained}
use Rattle.stk_propagate.specs.Linked.{trailed}
use Rattle.stk_propagate.proofs.Plain.{with_front}
use Rattle.stk_propagate.proofs.Looks.{fits_long}
use Rattle.stk_propagate.proofs.Steps.{member_below, linked_as, as_linked, linked_watch, first_free, second_free}
use Rattle.stk_propagate.proofs.inner.Inner.watch.Goals as goal

pub link-requires-clause-free : goal.link-requires-clause-free
link-requires-clause-free c = let f = c.args.self.now in first_free f.chains f.assigned.vars f.looked f.watches.items (linked_as f c.requires.linked)

pub link-requires-2-clause-free : goal.link-requires-2-clause-free
link-requires-2-clause-free c =
    let f = c.args.self.now in
    let a = c.args.first in
    let ha : a.0 < 2 * f.assigned.vars = member_below f.assigned.vars (get_or c.args._store.now f.looked []) a (c.requires.fits.below f.looked [] c.requires.more) c.requires.watched.0 in
    let e : c.link.new.self.chains ≡ with_front f.chains.chains a.0 (2 * f.looked) = ap (λ (k : Chained). k.chains) c.link.ensures in
    second_free f.chains c.link.new.self.chains f.assigned.vars f.looked f.watches.items a ha e (linked_as f c.requires.linked)

pub returns-clause-linked : goal.returns-clause-linked
returns-clause-linked c =
    let f = c.args.self.now in
    let a = c.args.first in
    let b = c.args.second in
    let i = f.looked in
    let cl : List Lit = get_or c.args._store.now f.looked [] in
    let below = c.requires.fits.below f.looked [] c.requires.more in
    let ha : a.0 < 2 * f.assigned.vars = member_below f.assigned.vars cl a below c.requires.watched.0 in
    let hb : b.0 < 2 * f.assigned.vars = member_below f.assigned.vars cl b below c.requires.watched.1 in
    let e : c.link.new.self.chains ≡ with_front f.chains.chains a.0 (2 * i) = ap (λ (k : Chained). k.chains) c.link.ensures in
    let e' : c.link-2.new.self.chains ≡ with_front (with_front f.chains.chains a.0 (2 * i)) b.0 (2 * i + 1) = ap (λ (k : Chained). k.chains) c.link-2.ensures ∙ ap (λ (ds : List (List ℕ)). with_front ds b.0 (2 * i + 1)) e in
    let n : c.link-2.new.self.numbers ≡ f.chains.numbers = ap (λ (k : Chained). k.numbers) c.link-2.ensures ∙ ap (λ (k : Chained). k.numbers) c.link.ensures in
    let short : i < length f.watches.items = omega (arith, c.requires.more, c.requires.fits.counted) in
    as_linked _ (linked_watch f.chains c.link-2.new.self.chains c.link-2.new.self.numbers f.assigned.vars i f.watches.items a b e' n ha hb short (linked_as f c.requires.linked))

pub returns-clause-fits : goal.returns-clause-fits
returns-clause-fits c =
    let f = c.args.self.now in
    fits_long (trailed f) (set f.watches.items f.looked (Some (c.args.first, c.args.second))) c.args._store.now (c.args.first, c.args.second) c.requires.fits c.requires.more refl c.requires.watched c.requires.calm c.requires.covered
