use Rattle.std.proofs.Common.{◌&&◌, None, sym}
use Rattle.stk_walk_statements.specs.Selected.{goes_if, is_none}
use Rattle.stk_walk_statements.proofs.Sectioning.{tests_made_still, tests_made_set, tests_made_at, tests_still, test_at, default_set, is_at}
use Rattle.stk_walk_statements.proofs.choosing.with_default.Goals as goal

pub either-requires-clause-left : goal.either-requires-clause-left
either-requires-clause-left g c = tests_made_at (g.V.Values.made c.args.values.now) c.args.tests.items c.args.at c.index.result.now c.requires.tests c.requires.within (sym c.index.ensures)

pub returns-clause-tests : goal.returns-clause-tests
returns-clause-tests g c =
    let made = g.V.Values.made in
    let k1 = c.either.ensures.keeps in
    let k2 = c.zero.ensures.keeps in
    tests_made_set (made c.zero.new.values) c.args.tests.items c.args.at c.in_ok-here.here
    (tests_made_still (made c.args.values.now) (made c.zero.new.values) (λ k v a. k2.made_still k v (k1.made_still k v a)) c.args.tests.items c.requires.tests)
    (k2.made_still _ _ c.in_ok-here.ensures.makes)

pub returns-clause-value : goal.returns-clause-value
returns-clause-value g c = λ m a o served ht hl.
    let shows = g.V.Values.shows in
    let k1 = c.either.ensures.keeps in
    let k2 = c.zero.ensures.keeps in
    let items = c.args.tests.items in
    let at = test_at (shows c.args.values.now m) items c.args.at c.index.result.now (goes_if a o) None ht c.requires.within (sym c.index.ensures) in
    let here = k2.shown m _ _ _ (c.in_ok-here.ensures.value m (is_at c.args.at (goes_if a o)) (a && is_none o) served at hl) in
    let still = tests_still (shows c.args.values.now m) (shows c.zero.new.values m) (λ k v z h. k2.shown m k v z (k1.shown m k v z h)) items (goes_if a o) None ht in
    (default_set (shows c.zero.new.values m) items c.args.at c.in_ok-here.here a o still c.requires.within here, c.in_ok-none.ensures.value m (k1.served m served))
