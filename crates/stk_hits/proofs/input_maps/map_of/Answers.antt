use Rattle.std.proofs.Common.{rules, ◌≡◌, ◌≤◌, ◌+◌, ◌-◌, ◌/◌, ◌%◌, ◌^◌, ◌++◌, ◌∷◌, [], sym, ap, ◌∙◌, subst, arith, get_or, drop, List, ℤ, pos}
use Rattle.stk_ctype.specs.declared.kind.IntKind.{IntKind}
use Rattle.stk_ctype.specs.declared.kind.IntKind.TheVariants as kind
use Rattle.stk_hits.specs.InputMaps.{bits_in, map_at}
use Rattle.stk_numbers.specs.Kinds.{width_of, wrap}
use Rattle.stk_hits.proofs.Numbering.{goes_on}
use Rattle.stk_hits.proofs.input_maps.map_of.Goals as goal

pub loop-kind-preserved : goal.loop-kind-preserved
loop-kind-preserved c =
    let i = c.loop-kind.kind-index in
    let ks = c.args.kinds.now in
    let wide : c.from-bits.result ≡ width_of (get_or ks i kind.Bool) = search rules in
    let value : c.first_number.result ≡ wrap (get_or ks i kind.Bool) (pos (c.loop-kind.left / 2 ^ (c.loop-kind.bits - c.from-bits.result))) = search rules in
    let pushed : c.push.new.self.items ≡ c.loop-kind.numbers.items ++ c.first_number.result ∷ [] = search rules in
    let both = goes_on ks i c.args.number c.loop-kind.left c.loop-kind.bits c.from-bits.result c.loop-kind.numbers.items c.first_number.result kind.Bool c.loop-kind-test.true c.loop-kind.invariant.0 c.loop-kind.invariant.1 wide value in
    let left : c.rest_number-left.result ≡ c.loop-kind.left % 2 ^ (c.loop-kind.bits - c.from-bits.result) = c.rest_number-left.ensures in
    let few = c.loop-kind.invariant.2 in
    (ap (λ u. u ++ map_at (drop (i + 1) ks) c.rest_number-left.result) pushed ∙ (ap (λ u. (c.loop-kind.numbers.items ++ c.first_number.result ∷ []) ++ map_at (drop (i + 1) ks) u) left ∙ both.0), both.1, omega arith)
