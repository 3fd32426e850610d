use Rattle.std.proofs.Common.{◌≡◌, ◌<◌, List, Option, length, arith, sym, ◌∙◌, subst}
use Rattle.stk_meaning.specs.declared.finding.Need.{Need}
use Rattle.stk_guess.proofs.Deletion.{IsNeededBehind, none_needed}
use Rattle.stk_wide_judge.specs.declared.guessing.FoundMember.{FoundMember}
use Rattle.stk_wide_judge.specs.Starts.{known_of}
use Rattle.stk_wide_judge.specs.Guesses.{IsBelow}
use Rattle.stk_wide_judge.proofs.Settling.{guessed}
use Rattle.stk_wide_judge.proofs.Skipping.{next_member, last_done}
use Rattle.stk_wide_judge.proofs.guessing.guess.Goals as goal

pub members-init : goal.members-init
members-init c = record {
  within = omega arith;
  set = λ a k known same none. subst (λ (u : List Need). IsNeededBehind (known_of a c.args.known.now.starts.items) k c.args.conditions.now (length c.args.conditions.now) u) (sym c.new-needs.ensures.items) (none_needed (known_of a c.args.known.now.starts.items) k c.args.conditions.now none);
}

pub members-preserved : goal.members-preserved
members-preserved c =
    let less : c.in-Some.found.index < c.members.end = subst (λ (o : Option FoundMember). IsBelow c.members.end o) c.in-Some.is c.in_ok-found.ensures.within in
    record {
      within = (let w = c.members.invariant.within in omega (arith, less, w));
      set = λ a k known same none. next_member a c.args.known.now.starts.items k c.args.conditions.now c.members.end c.members.needs.items c.as_slice.result.now c.push.new.self.items c.in-Some.found c.in_ok-found.field-0 c.members.invariant.within less (c.members.invariant.set a k known same none) c.as_slice.ensures.value c.in-Some.is (c.in_ok-found.ensures.last a k known same) c.in_ok-push.ensures.items;
    }

pub returns : goal.returns
returns c a k known same all none =
    let done = last_done a c.args.known.now.starts.items k c.args.conditions.now c.members.end c.members.needs.items c.as_slice.result.now c.in_ok-found.field-0 c.members.invariant.within (c.members.invariant.set a k known same none) c.as_slice.ensures.value c.in_default.is (c.in_ok-found.ensures.last a k known same) in
    guessed a c.args.known.now.starts.items k c.args.conditions.now 0 c.members.needs.items c.from_vec.result all (omega arith) done (c.from_vec.ensures ∙ c.reverse.ensures.items)
