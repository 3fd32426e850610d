use Rattle.std.proofs.Common.{◌∙◌, ap, sym, subst, arith}
use mathlib.Core.Logic.{inl, inr}
use Rattle.stk_ctype.specs.Types.{type_of}
use Rattle.stk_ctype.specs.Structs.{structs_of}
use Rattle.stk_ctype.specs.Innermost.{size_inside}
use Rattle.stk_ctype.proofs.SizesOfTypes.{HaveSizes, have_sizes, size_of_all, size_of_none}
use Rattle.stk_ctype.proofs.names.Names.size_of.Goals as goal

pub returns-in_default : goal.returns-in_default
returns-in_default c =
    let have = subst (λ es. HaveSizes (structs_of es)) c.self.view_is (have_sizes c.self.inside.facts c.self.inside.entries.items c.self.invariant.0) in
    size_of_none (structs_of c.args.self.now) have (type_of c.args.ty.now) c.requires (inl (sym c.count_in.ensures ∙ c.in_default.is))

pub returns-in_default-size_inside : goal.returns-in_default-size_inside
returns-in_default-size_inside c =
    let have = subst (λ es. HaveSizes (structs_of es)) c.self.view_is (have_sizes c.self.inside.facts c.self.inside.entries.items c.self.invariant.0) in
    let size = ap (size_inside (structs_of c.args.self.now)) (sym c.inmost_of.ensures) ∙ sym c.size_inside.ensures ∙ c.in_default-size_inside.is in
    size_of_none (structs_of c.args.self.now) have (type_of c.args.ty.now) c.requires (inr size)

pub overflow_mul-result : goal.overflow_mul-result
overflow_mul-result c =
    let have = subst (λ es. HaveSizes (structs_of es)) c.self.view_is (have_sizes c.self.inside.facts c.self.inside.entries.items c.self.invariant.0) in
    let size = ap (size_inside (structs_of c.args.self.now)) (sym c.inmost_of.ensures) ∙ sym c.size_inside.ensures ∙ c.in-Some-size_inside.is in
    omega (arith, (size_of_all (structs_of c.args.self.now) have (type_of c.args.ty.now) c.in-Some.count c.in-Some-size_inside.size c.requires (sym c.count_in.ensures ∙ c.in-Some.is) size).1)

pub returns : goal.returns
returns c =
    let have = subst (λ es. HaveSizes (structs_of es)) c.self.view_is (have_sizes c.self.inside.facts c.self.inside.entries.items c.self.invariant.0) in
    let size = ap (size_inside (structs_of c.args.self.now)) (sym c.inmost_of.ensures) ∙ sym c.size_inside.ensures ∙ c.in-Some-size_inside.is in
    (size_of_all (structs_of c.args.self.now) have (type_of c.args.ty.now) c.in-Some.count c.in-Some-size_inside.size c.requires (sym c.count_in.ensures ∙ c.in-Some.is) size).0
