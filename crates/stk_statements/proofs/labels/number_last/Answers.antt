use Rattle.std.proofs.Common.{ℕ, ◌≡◌, ◌<◌, ◌-◌, ◌∙◌, suc, map, length, ap, arith}
use Rattle.stk_type_rules.specs.Facts.{Fact, fact_at, fact_of}
use Rattle.stk_type_rules.proofs.FactsAt.{at_view}
use Rattle.stk_function_types.specs.Sections.{number_in}
use Rattle.stk_statements.proofs.Counts.{last_behind, numbered_is, set_sound}
use Rattle.stk_statements.proofs.labels.number_last.Goals as goal

pub returns-then-before-count-clause-is : goal.returns-then-before-count-clause-is
returns-then-before-count-clause-is c = λ a t h e.
    let xs = c.args.facts.now.items in
    let k : ℕ = c.len-count.result - 1 in
    let some : suc k ≡ length xs = omega (arith, c.len-count.ensures, c.args.facts.now.ok.0, c.if-before-count.true) in
    let below : k < length xs = omega (arith, some) in
    let less : length a < length xs = omega (arith, c.len-count.ensures, c.args.facts.now.ok.0, c.if-before-count.true, h) in
    let seen : fact_of c.index_mut.result.now ≡ fact_at (map fact_of xs) k = ap fact_of c.index_mut.ensures.value ∙ at_view xs k _ below in
    last_behind xs _ a t k some less e (numbered_is c.index_mut.result.now c.number_in-number.result (fact_at (map fact_of xs) k) seen (c.number_in-number.ensures ∙ ap (λ (f : Fact). number_in f.constancy) c.fact.ensures.is))

pub returns-then-before-count-clause-sound : goal.returns-then-before-count-clause-sound
returns-then-before-count-clause-sound c = λ structs all.
    let xs = c.args.facts.now.items in
    let k : ℕ = c.len-count.result - 1 in
    let below : k < length xs = omega (arith, c.len-count.ensures, c.args.facts.now.ok.0, c.if-before-count.true) in
    let seen : fact_of c.index_mut.result.now ≡ fact_at (map fact_of xs) k = ap fact_of c.index_mut.ensures.value ∙ at_view xs k _ below in
    set_sound structs xs k _ below (ap (λ (f : Fact). f.ty) seen) all
