use Rattle.std.proofs.Common.{◌≡◌, ◌<◌, ◌^◌, ℕ, None, nat_eq, get_or, length, rules, arith}
use Rattle.std.proofs.lemmas.Grind.{common_steps}
use Rattle.std.proofs.Math.Nat.{mod-eq_of_lt}
use Rattle.indexmap.specs.IndexMap.{get}
use Rattle.stk_memory.specs.declared.image.Cell.{Cell}
use Rattle.stk_memory.proofs.SeenAddresses.{all_new, next_left, not_left}
use Rattle.stk_memory.proofs.apart.are_apart.Goals as goal

pub loop-cell-init : goal.loop-cell-init
loop-cell-init c =
    let none : (a : ℕ) → get nat_eq c.new-seen.result a ≡ None = λ a. first_of (search rules, grind (arith, common_steps)) in
    (λ k. (k, all_new (get nat_eq c.new-seen.result) c.args.cells.now none), λ k. k.0)

pub loop-cell-preserved : goal.loop-cell-preserved
loop-cell-preserved c =
    let i = c.loop-cell.cell-index in
    let none : Cell = record { at = 0; byte = 0 } in
    let within : i < length c.args.cells.now = search rules in
    let below : (get_or c.args.cells.now i none).at < 2 ^ 64 = search rules in
    next_left (get nat_eq c.loop-cell.seen) c.args.cells.now c.args.cells.now i none within (mod-eq_of_lt below) c.loop-cell.invariant (get nat_eq c.note.new.seen)
    (c.in_ok-note.ensures.is_new.0 c.if-not-branch.false) c.in_ok-note.ensures.noted

pub returns-then-not-branch : goal.returns-then-not-branch
returns-then-not-branch c =
    let i = c.loop-cell.cell-index in
    let none : Cell = record { at = 0; byte = 0 } in
    let within : i < length c.args.cells.now = search rules in
    let below : (get_or c.args.cells.now i none).at < 2 ^ 64 = search rules in (
      λ k. cc,
      λ k. absurd (not_left (get nat_eq c.loop-cell.seen) c.args.cells.now c.args.cells.now i none within (mod-eq_of_lt below) c.loop-cell.invariant
          (λ e. let yes = c.in_ok-note.ensures.is_new.1 e in cc) k),
    )

pub returns : goal.returns
returns c =
    (λ _. c.loop-cell.invariant.1 (first_of (search rules, grind (arith, common_steps))), λ k. first_of (search rules, grind (arith, common_steps)))
