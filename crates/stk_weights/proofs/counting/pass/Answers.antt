use Rattle.std.proofs.Common.{◌≡◌, ◌∷◌, ◌+◌, ◌-◌, ℕ, List, length, take, vec_len, ap, sym, ◌∙◌, subst, arith}
use Rattle.stk_weights.specs.declared.events.Event.{Event}
use Rattle.stk_weights.specs.Counting.{IsCounting}
use Rattle.stk_weights.proofs.Steps.{ended, assigned_slice}
use Rattle.stk_weights.proofs.counting.pass.Goals as goal

pub returns-in-Ends : goal.returns-in-Ends
returns-in-Ends c = λ registers events rest h.
    let xs : List ℕ = c.args.begins.now.items in
    let size : vec_len c.args.begins.now ≡ length xs = omega (arith, c.args.begins.now.ok.0) in
    subst (λ (ys : List ℕ). IsCounting registers events rest (c.args.place + 1) c.args.rows.now.items ys c.args.sum) (sym (c.pop.ensures.rest ∙ ap (λ n. take (n - 1) xs) size))
    (ended registers events rest c.args.place c.args.rows.now.items xs c.args.sum (subst (λ (e : Event). IsCounting registers events (e ∷ rest) c.args.place c.args.rows.now.items xs c.args.sum) c.in-Ends.is h))

pub returns-in-Assigns : goal.returns-in-Assigns
returns-in-Assigns c = λ registers events rest h.
    rw (c.assign-more.ensures.rows, c.saturating_add.ensures)
    (assigned_slice registers events rest c.in-Assigns.register c.args.place c.args.rows.now.items c.args.begins.now.items c.as_slice.result.now c.args.sum c.assign-more.result c.as_slice.ensures.value
    (subst (λ (e : Event). IsCounting registers events (e ∷ rest) c.args.place c.args.rows.now.items c.args.begins.now.items c.args.sum) c.in-Assigns.is h)
    c.assign-more.ensures.known c.assign-more.ensures.unknown)
