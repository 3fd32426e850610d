use Rattle.std.proofs.Common.{◌+◌, ◌*◌, ◌<◌, [], ◌&&◌, length, subst, sym, ap, ◌∙◌, arith, refl}
use Rattle.std.specs.List.{All}
use Rattle.stk_gates.specs.Edges.{edge_value}
use Rattle.stk_gates.specs.Tables.{gate_count}
use Rattle.stk_cnf.specs.Clauses.{named, all_tied, HasName, IsGrown}
use Rattle.stk_cnf.specs.Marks.{AreMarked}
use Rattle.stk_cnf.specs.Naming.{HasNames}
use Rattle.stk_cnf.proofs.Up.{listed_names, listed_rising, Rises}
use Rattle.stk_cnf.proofs.Stands.{listed_within, goal_name, stands, none_listed}
use Rattle.stk_cnf.proofs.clauses.clauses_of.Goals as goal

pub encoded-requires-clause-ands : goal.encoded-requires-clause-ands
encoded-requires-clause-ands c =
    let t = c.args.gates.now in
    let n = c.in_ok-names.field-0 in
    let m = subst (λ xs. AreMarked t c.args.goal xs 0) (sym c.deref.ensures.value) c.in_ok-marks.ensures in
    subst (λ xs. All (λ k. (t.inputs < k) × (k < gate_count t)) xs) (sym c.deref-3.ensures.value)
    (listed_within t c.args.goal c.deref.result.now n.names.items n.ands.items n.vars c.count.ensures.ordered c.requires m c.in_ok-names.ensures)

pub encoded-requires-clause-names : goal.encoded-requires-clause-names
encoded-requires-clause-names c =
    let t = c.args.gates.now in
    let n = c.in_ok-names.field-0 in
    let m = subst (λ xs. AreMarked t c.args.goal xs 0) (sym c.deref.ensures.value) c.in_ok-marks.ensures in
    let here = listed_names t c.args.goal c.deref.result.now n.names.items n.ands.items n.vars m c.in_ok-names.ensures c.count.ensures.ordered in
    subst (λ xs. All (HasNames t c.deref-2.result.now n.vars) xs) (sym c.deref-3.ensures.value) (subst (λ ns. All (HasNames t ns n.vars) n.ands.items) (sym c.deref-2.ensures.value) here)

pub encoded-requires-clause-rising : goal.encoded-requires-clause-rising
encoded-requires-clause-rising c =
    let t = c.args.gates.now in
    let n = c.in_ok-names.field-0 in
    let m = subst (λ xs. AreMarked t c.args.goal xs 0) (sym c.deref.ensures.value) c.in_ok-marks.ensures in
    let here = listed_rising t c.args.goal c.deref.result.now n.names.items n.ands.items n.vars m c.in_ok-names.ensures c.count.ensures.ordered c.count.ensures.reduced in
    subst (λ xs. All (Rises t c.deref-2.result.now) xs) (sym c.deref-3.ensures.value) (subst (λ ns. All (Rises t ns) n.ands.items) (sym c.deref-2.ensures.value) here)

pub encoded-requires-clause-goal : goal.encoded-requires-clause-goal
encoded-requires-clause-goal c =
    let t = c.args.gates.now in
    let n = c.in_ok-names.field-0 in
    let m = subst (λ xs. AreMarked t c.args.goal xs 0) (sym c.deref.ensures.value) c.in_ok-marks.ensures in
    subst (λ ns. HasName ns n.vars c.args.goal) (sym c.deref-2.ensures.value)
    (goal_name t c.args.goal c.deref.result.now n.names.items n.ands.items n.vars c.count.ensures.ordered c.requires m c.in_ok-names.ensures)

pub encoded-requires-clause-few : goal.encoded-requires-clause-few
encoded-requires-clause-few c = let r = c.in_ok-names.ensures in omega (arith, r.few, c.count.ensures.count, c.count.ensures.few)

pub encoded-requires-clause-room : goal.encoded-requires-clause-room
encoded-requires-clause-room c = let r = c.in_ok-names.ensures in omega (arith, r.few, r.count, c.count.ensures.count, c.count.ensures.few, ap length c.deref-3.ensures.value)

pub returns-clause-stands : goal.returns-clause-stands
returns-clause-stands c =
    let t = c.args.gates.now in
    let n = c.in_ok-names.field-0 in
    let m = subst (λ xs. AreMarked t c.args.goal xs 0) (sym c.deref.ensures.value) c.in_ok-marks.ensures in
    let g = subst (λ ns. IsGrown n.vars (3 * length n.ands.items + 1) [] c.in_ok-store.store (λ v. all_tied t (named ns v) n.ands.items && edge_value (named ns v) c.args.goal)) c.deref-2.ensures.value
    (subst (λ xs. IsGrown n.vars (3 * length xs + 1) [] c.in_ok-store.store (λ v. all_tied t (named c.deref-2.result.now v) xs && edge_value (named c.deref-2.result.now v) c.args.goal)) c.deref-3.ensures.value c.in_ok-store.ensures.grown) in
    stands t c.args.goal c.deref.result.now n.names.items n.ands.items n.vars c.count.ensures.ordered c.requires m c.in_ok-names.ensures (record { vars = n.vars; store = c.in_ok-store.store }) refl g

pub returns-clause-none : goal.returns-clause-none
returns-clause-none c e =
    let t = c.args.gates.now in
    let n = c.in_ok-names.field-0 in
    let m = subst (λ xs. AreMarked t c.args.goal xs 0) (sym c.deref.ensures.value) c.in_ok-marks.ensures in
    let none = none_listed t c.args.goal c.deref.result.now n.names.items n.ands.items n.vars c.count.ensures.ordered (omega (arith, e)) m c.in_ok-names.ensures in
    c.in_ok-store.ensures.none (c.deref-3.ensures.value ∙ none) e

pub returns-clause-empty : goal.returns-clause-empty
returns-clause-empty c e =
    let t = c.args.gates.now in
    let n = c.in_ok-names.field-0 in
    let m = subst (λ xs. AreMarked t c.args.goal xs 0) (sym c.deref.ensures.value) c.in_ok-marks.ensures in
    let none = none_listed t c.args.goal c.deref.result.now n.names.items n.ands.items n.vars c.count.ensures.ordered (omega (arith, e)) m c.in_ok-names.ensures in
    c.in_ok-store.ensures.empty (c.deref-3.ensures.value ∙ none) e
