use Rattle.std.proofs.Common.{◌≡◌, ◌∙◌, ◌&&◌, ◌++◌, ◌∷◌, [], Bool, ap, sym, rules}
use Rattle.stk_compatible.specs.Pairs.{are_same, pairs_of}
use Rattle.stk_compatible.proofs.Pairs.{pairs_more}
use Rattle.stk_compatible.proofs.comparing.are_same.Goals as goal

pub returns-then-not-branch : goal.returns-then-not-branch
returns-then-not-branch c =
    let split : c.loop.waiting.items ≡ c.pop.new.self.items ++ (c.in-Some.first, c.in-Some.second) ∷ [] = search rules in
    sym (ap (λ (b : Bool). b && are_same (pairs_of c.add_parts.new.waiting.items)) c.if-not-branch.true) ∙ c.in_ok-add_parts.ensures ∙ sym (pairs_more c.pop.new.self.items c.loop.waiting.items _ _ split) ∙ c.loop.invariant

pub loop-preserved : goal.loop-preserved
loop-preserved c =
    let split : c.loop.waiting.items ≡ c.pop.new.self.items ++ (c.in-Some.first, c.in-Some.second) ∷ [] = search rules in
    sym (ap (λ (b : Bool). b && are_same (pairs_of c.add_parts.new.waiting.items)) c.if-not-branch.false) ∙ c.in_ok-add_parts.ensures ∙ sym (pairs_more c.pop.new.self.items c.loop.waiting.items _ _ split) ∙ c.loop.invariant
