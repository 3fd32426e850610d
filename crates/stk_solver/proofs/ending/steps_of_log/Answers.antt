use Rattle.std.proofs.Common.{◌≡◌, ◌+◌, ◌++◌, ◌∷◌, ◌∙◌, ◌-◌, [], ℕ, length, get_or, drop, reverse, ap, sym, refl, arith, length-append}
use Rattle.stk_clauses.specs.declared.derivation.Derived.{Derived}
use Rattle.stk_solver.specs.Searching.{steps_of}
use Rattle.stk_solver.proofs.Logging.{front_made}
use Rattle.stk_solver.proofs.ending.steps_of_log.Goals as goal

pub loop-hints-preserved : goal.loop-hints-preserved
loop-hints-preserved c =
    let i = c.loop-hints.invariant in
    let given = c.args._given.now in
    let store = c.args.store.now in
    let log = c.pop.new.self.items in
    let h = c.in-Some.hints in
    let d : Derived = record { clause = c.from_vec-clause.result; hints = h } in
    let before : c.loop-hints.log.items ≡ log ++ h ∷ [] = c.in-Some.ensures.items in
    let count : c.loop-hints.id ≡ length given + length log + 1 = omega (arith, i.here, ap length before, length-append log (h ∷ [])) in
    let at : c.loop-hints.id - 1 ≡ length given + length log = omega (arith, count) in
    let is : d.clause ≡ get_or store (length given + length log) [] = c.from_vec-clause.ensures ∙ c.in_ok-from_slice.ensures.items ∙ c.clause.ensures.clause ∙ ap (λ (n : ℕ). get_or store n []) at in
    record {
      here = omega (arith, count);
      room = omega (arith, i.room);
      made = ap (λ ds. steps_of log (drop (length given) store) ++ reverse ds) c.in_ok-push.ensures.items ∙ sym (front_made given store log h c.loop-hints.steps.items d (omega (arith, count, i.room)) is refl)
          ∙ ap (λ l. steps_of l (drop (length given) store) ++ reverse c.loop-hints.steps.items) (sym before) ∙ i.made;
    }
