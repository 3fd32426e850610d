use Rattle.std.proofs.Common.{◌≡◌, ◌-◌, ◌<◌, length, get_or, sym, ap, subst, arith}
use Rattle.stk_gates.proofs.Growth.{extends_twice}
use Rattle.stk_terms.specs.Orders.{AreParts}
use Rattle.stk_terms.specs.Cost.{bound_at}
use Rattle.stk_terms.proofs.Collecting.{last_own}
use Rattle.stk_terms.proofs.Counting.{from_next, from_within}
use Rattle.stk_blast.proofs.Parts.{made_more}
use Rattle.stk_blast.proofs.circuit.blast.Goals as goal

pub row_of-requires-clause-room : goal.row_of-requires-clause-room
row_of-requires-clause-room c =
    let s = c.args.terms.now in
    let id = c.args.id.0 in
    let h = c.requires.exists in
    let sound = c.count-last.ensures.sound in
    let ps = c.as_slice-order.result.now in
    let are = subst (AreParts s id) (sym c.as_slice-order.ensures.value) c.in_ok-parts.ensures.parts in
    let i = c.loop-i.i in
    let l : i < length ps = omega (arith, c.loop-i-test.true) in
    let most = from_within s sound id h ps are i l in
    omega (arith, most, c.loop-i.invariant.adds, c.requires.room)

pub returns-in_err-row-clause-adds : goal.returns-in_err-row-clause-adds
returns-in_err-row-clause-adds c =
    let s = c.args.terms.now in
    let id = c.args.id.0 in
    let h = c.requires.exists in
    let sound = c.count-last.ensures.sound in
    let ps = c.as_slice-order.result.now in
    let are = subst (AreParts s id) (sym c.as_slice-order.ensures.value) c.in_ok-parts.ensures.parts in
    let i = c.loop-i.i in
    let l : i < length ps = omega (arith, c.loop-i-test.true) in
    let most = from_within s sound id h ps are i l in
    omega (arith, most, c.loop-i.invariant.adds, c.row_of.ensures.adds)

pub returns-in_err-push-clause-adds : goal.returns-in_err-push-clause-adds
returns-in_err-push-clause-adds c =
    let s = c.args.terms.now in
    let id = c.args.id.0 in
    let h = c.requires.exists in
    let sound = c.count-last.ensures.sound in
    let ps = c.as_slice-order.result.now in
    let are = subst (AreParts s id) (sym c.as_slice-order.ensures.value) c.in_ok-parts.ensures.parts in
    let i = c.loop-i.i in
    let l : i < length ps = omega (arith, c.loop-i-test.true) in
    let most = from_within s sound id h ps are i l in
    omega (arith, most, c.loop-i.invariant.adds, c.row_of.ensures.adds)

pub loop-i-preserved : goal.loop-i-preserved
loop-i-preserved c =
    let s = c.args.terms.now in
    let id = c.args.id.0 in
    let h = c.requires.exists in
    let sound = c.count-last.ensures.sound in
    let ps = c.as_slice-order.result.now in
    let are = subst (AreParts s id) (sym c.as_slice-order.ensures.value) c.in_ok-parts.ensures.parts in
    let i = c.loop-i.i in
    let l : i < length ps = omega (arith, c.loop-i-test.true) in
    let next = from_next s sound id h ps are i l in
    let old = c.loop-i.invariant in
    record {
      long = omega (arith, c.in_ok-push.ensures.len);
      made = made_more c.loop-i.gates c.row_of.new.gates s ps c.loop-i.rows.items c.push.new.self.items c.in_ok-row.row i c.in_ok-push.ensures.items old.long c.row_of.ensures.extends old.made c.in_ok-row.ensures.row;
      extends = extends_twice _ _ _ old.extends c.row_of.ensures.extends;
      adds = omega (arith, next, old.adds, c.row_of.ensures.adds);
    }

pub row_of-requires-2-clause-rise : goal.row_of-requires-2-clause-rise
row_of-requires-2-clause-rise c =
    let are = subst (AreParts c.args.terms.now c.args.id.0) (sym c.as_slice-order.ensures.value) c.in_ok-parts.ensures.parts in
    are.rise

pub row_of-requires-2-clause-room : goal.row_of-requires-2-clause-room
row_of-requires-2-clause-room c =
    let s = c.args.terms.now in
    let id = c.args.id.0 in
    let h = c.requires.exists in
    let sound = c.count-last.ensures.sound in
    let ps = c.as_slice-order.result.now in
    let are = subst (AreParts s id) (sym c.as_slice-order.ensures.value) c.in_ok-parts.ensures.parts in
    let i = c.loop-i.i in
    let last = last_own s sound id h ps are in
    let least = last.0 in
    let end : i ≡ length ps - 1 = omega (arith, c.loop-i-test.false) in
    let l : i < length ps = omega (arith, end, least) in
    let own : get_or ps i 0 ≡ id = last.1 i (omega (arith, end, least)) in
    let same = ap (bound_at s) own in
    let most = from_within s sound id h ps are i l in
    omega (arith, most, same, c.loop-i.invariant.adds, c.requires.room)

pub returns-in_err-row-2-clause-adds : goal.returns-in_err-row-2-clause-adds
returns-in_err-row-2-clause-adds c =
    let s = c.args.terms.now in
    let id = c.args.id.0 in
    let h = c.requires.exists in
    let sound = c.count-last.ensures.sound in
    let ps = c.as_slice-order.result.now in
    let are = subst (AreParts s id) (sym c.as_slice-order.ensures.value) c.in_ok-parts.ensures.parts in
    let i = c.loop-i.i in
    let last = last_own s sound id h ps are in
    let least = last.0 in
    let end : i ≡ length ps - 1 = omega (arith, c.loop-i-test.false) in
    let l : i < length ps = omega (arith, end, least) in
    let own : get_or ps i 0 ≡ id = last.1 i (omega (arith, end, least)) in
    let same = ap (bound_at s) own in
    let most = from_within s sound id h ps are i l in
    omega (arith, most, same, c.loop-i.invariant.adds, c.row_of-2.ensures.adds)

pub returns-clause-adds : goal.returns-clause-adds
returns-clause-adds c =
    let s = c.args.terms.now in
    let id = c.args.id.0 in
    let h = c.requires.exists in
    let sound = c.count-last.ensures.sound in
    let ps = c.as_slice-order.result.now in
    let are = subst (AreParts s id) (sym c.as_slice-order.ensures.value) c.in_ok-parts.ensures.parts in
    let i = c.loop-i.i in
    let last = last_own s sound id h ps are in
    let least = last.0 in
    let end : i ≡ length ps - 1 = omega (arith, c.loop-i-test.false) in
    let l : i < length ps = omega (arith, end, least) in
    let own : get_or ps i 0 ≡ id = last.1 i (omega (arith, end, least)) in
    let same = ap (bound_at s) own in
    let most = from_within s sound id h ps are i l in
    omega (arith, most, same, c.loop-i.invariant.adds, c.row_of-2.ensures.adds)
