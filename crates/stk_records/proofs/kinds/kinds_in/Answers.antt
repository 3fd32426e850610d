use Rattle.std.proofs.Common.{◌≡◌, drop, ◌∷◌, Option, sym, ◌∙◌, subst}
use Rattle.std.specs.Prelude.{MatchOption}
use Rattle.stk_numbers.specs.declared.conditions.Kinds.{Kinds}
use Rattle.stk_records.specs.Kinds.{no_kinds, AreNames}
use Rattle.stk_records.proofs.Names.{IsComma, no_name, taken_name, is_last, only_last, goes_on, goes_down, comma_here, none_left}
use Rattle.stk_records.proofs.kinds.kinds_in.Goals as goal

pub returns-in_err-kind : goal.returns-in_err-kind
returns-in_err-kind c =
    let comma : IsComma c.names.left.now c.first_comma-at.result = record { within = c.first_comma-at.ensures.within; before = c.first_comma-at.ensures.before; here = c.first_comma-at.ensures.at } in
    subst (λ (o : Option Kinds). MatchOption o ((ks : Kinds) → AreNames no_kinds c.args.text.now ks → ⊥) (λ ks. AreNames no_kinds c.args.text.now ks × ((other : Kinds) → AreNames no_kinds c.args.text.now other → other ≡ ks))) (sym c.from_residual.ensures)
    (λ ks names. no_name c.first_comma-at.result comma (λ k e. c.in_err-kind.ensures k (c.split_at.ensures.front ∙ e)) (c.names.invariant.0 ks names))

pub returns-then-has : goal.returns-then-has
returns-then-has c ks names =
    let comma : IsComma c.names.left.now c.first_comma-at.result = record { within = c.first_comma-at.ensures.within; before = c.first_comma-at.ensures.before; here = c.first_comma-at.ensures.at } in
    taken_name c.first_comma-at.result c.in_ok-kind.kind comma (sym c.split_at.ensures.front ∙ c.in_ok-kind.ensures) (sym c.has.ensures ∙ c.if-has.true) (c.names.invariant.0 ks names)

pub returns-in-None : goal.returns-in-None
returns-in-None c =
    let comma : IsComma c.names.left.now c.first_comma-at.result = record { within = c.first_comma-at.ensures.within; before = c.first_comma-at.ensures.before; here = c.first_comma-at.ensures.at } in
    let name = sym c.split_at.ensures.front ∙ c.in_ok-kind.ensures in
    let ended = sym c.split_at.ensures.back ∙ none_left c.split_at.result.1.now c.in-None.ensures.cases in (
      c.names.invariant.1 c.with_kind-kinds.result
          (subst (λ ks. AreNames c.names.kinds c.names.left.now ks) (sym c.with_kind-kinds.ensures) (is_last c.first_comma-at.result c.in_ok-kind.kind name (sym c.has.ensures ∙ c.if-has.false) ended)),
      (λ ks names. only_last c.first_comma-at.result c.in_ok-kind.kind comma name ended (c.names.invariant.0 ks names) ∙ sym c.with_kind-kinds.ensures),
    )

pub names-preserved : goal.names-preserved
names-preserved c =
    let comma : IsComma c.names.left.now c.first_comma-at.result = record { within = c.first_comma-at.ensures.within; before = c.first_comma-at.ensures.before; here = c.first_comma-at.ensures.at } in
    let name = sym c.split_at.ensures.front ∙ c.in_ok-kind.ensures in
    let tail : drop c.first_comma-at.result c.names.left.now ≡ 44 ∷ c.in-Some.rest.now = comma_here c.names.left.now c.first_comma-at.result c.in-Some.field-0-0.now c.in-Some.rest.now comma (sym c.split_at.ensures.back ∙ c.in-Some.ensures.cases.0) in (
      (λ ks names. subst (λ b. AreNames b c.in-Some.rest.now ks) (sym c.with_kind-kinds.ensures) (goes_down c.first_comma-at.result c.in_ok-kind.kind c.in-Some.rest.now comma name tail (c.names.invariant.0 ks names))),
      (λ ks names. c.names.invariant.1 ks (goes_on c.first_comma-at.result c.in_ok-kind.kind c.in-Some.rest.now name (sym c.has.ensures ∙ c.if-has.false) tail (subst (λ b. AreNames b c.in-Some.rest.now ks) c.with_kind-kinds.ensures names))),
    )
