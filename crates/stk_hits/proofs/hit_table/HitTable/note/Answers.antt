use Rattle.std.proofs.Common.{◌≡◌, sym, ap, ◌∙◌, ℕ, List, Option, subst, Some}
use Rattle.stk_numbers.specs.declared.conditions.Candidate.{Candidate}
use Rattle.stk_hits.specs.declared.hit_table.Hit.{Hit}
use Rattle.stk_hits.specs.Tables.{hit_of}
use Rattle.stk_hits.specs.Recording.{noted, noted_of}
use Rattle.stk_hits.proofs.Noting.{inserted, there}
use Rattle.stk_hits.proofs.hit_table.HitTable.note.Goals as goal

-- a hit by its parts
abbrev hit_with : ℕ → ℕ → ℕ → Hit
hit_with node set kind = record { node = node; kind = kind; set = set }

pub returns-in_ok-insert-clause-hits : goal.returns-in_ok-insert-clause-hits
returns-in_ok-insert-clause-hits c =
    let es = c.self.inside.hits.entries in
    let h = hit_with c.in-Some.candidate.node c.args.set c.kind_number.result in
    let h_is = ap (hit_with c.in-Some.candidate.node c.args.set) c.kind_number.ensures in
    let is_new = inserted es h c.args.number (sym c.contains_key.ensures ∙ c.if-not-contains_key.true) in
    subst (λ (o : Option Candidate). c.insert.new.self.entries ≡ noted_of c.args.self.now.hits o c.args.set c.args.number) (sym c.in-Some.is)
    (c.in_ok-insert.ensures.entries ∙ (is_new ∙ (ap (λ t. noted t.hits h c.args.number) c.self.view_is ∙ ap (λ u. noted c.args.self.now.hits u c.args.number) h_is)))

pub returns-else-not-contains_key-clause-hits : goal.returns-else-not-contains_key-clause-hits
returns-else-not-contains_key-clause-hits c =
    let es = c.self.inside.hits.entries in
    let h = hit_with c.in-Some.candidate.node c.args.set c.kind_number.result in
    let h_is = ap (hit_with c.in-Some.candidate.node c.args.set) c.kind_number.ensures in
    let is_old = there es h c.args.number (sym c.contains_key.ensures ∙ c.if-not-contains_key.false) in
    subst (λ (o : Option Candidate). c.args.self.now.hits ≡ noted_of c.args.self.now.hits o c.args.set c.args.number) (sym c.in-Some.is)
    (sym (ap (λ t. t.hits) c.self.view_is) ∙ (sym is_old ∙ (ap (λ t. noted t.hits h c.args.number) c.self.view_is ∙ ap (λ u. noted c.args.self.now.hits u c.args.number) h_is)))
