use Rattle.std.proofs.Common.{arith, ◌∙◌, ap, sym, subst}
use Rattle.std.specs.Prelude.{IfSome}
use Rattle.stk_ctype.specs.Names.{find}
use Rattle.stk_ctype.specs.Structs.{structs_of}
use Rattle.stk_ctype.specs.Sound.{IsSoundSymbol}
use Rattle.stk_ctype.proofs.Lookups.{not_found, found_at, found_means}
use Rattle.stk_ctype.proofs.Staying.{found_sound}
use Rattle.stk_ctype.proofs.names.Names.find.Goals as goal

pub returns-in_default-clause-value : goal.returns-in_default-clause-value
returns-in_default-clause-value c = sym (not_found c.args.name.now c.self.inside.entries.items _ (c.get.ensures _ c.self.invariant.0.symbols) c.in_default.is) ∙ ap (find c.args.name.now) c.self.view_is

pub index-requires : goal.index-requires
index-requires c =
    let at = found_at c.args.name.now c.self.inside.entries.items _ c.in-Some.place (c.get.ensures _ c.self.invariant.0.symbols) c.in-Some.is in
    omega (arith, at.high, c.self.inside.entries.ok.0)

pub returns-clause-value : goal.returns-clause-value
returns-clause-value c =
    let at = found_at c.args.name.now c.self.inside.entries.items _ c.in-Some.place (c.get.ensures _ c.self.invariant.0.symbols) c.in-Some.is in
    c.symbol_in.ensures ∙ found_means c.args.name.now c.self.inside.entries.items c.in-Some.place _ at c.index.ensures ∙ ap (find c.args.name.now) c.self.view_is

pub returns-clause-sound : goal.returns-clause-sound
returns-clause-sound c =
    let at = found_at c.args.name.now c.self.inside.entries.items _ c.in-Some.place (c.get.ensures _ c.self.invariant.0.symbols) c.in-Some.is in
    let value = c.symbol_in.ensures ∙ found_means c.args.name.now c.self.inside.entries.items c.in-Some.place _ at c.index.ensures ∙ ap (find c.args.name.now) c.self.view_is in
    let found = subst (λ es. IfSome (find c.args.name.now es) (IsSoundSymbol (structs_of es))) c.self.view_is (found_sound c.self.inside.facts c.self.inside.entries.items c.self.invariant.0 c.args.name.now) in
    subst (λ o. IfSome o (IsSoundSymbol (structs_of c.args.self.now))) (sym value) found
