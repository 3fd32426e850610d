use Rattle.std.proofs.Common.{◌∙◌}
use Rattle.stk_terms.specs.Terms.{term_of}
use Rattle.stk_terms.specs.Keys.{sizes_of}
use Rattle.stk_terms.specs.Values.{width_of}
use Rattle.stk_terms.proofs.Made as made
use Rattle.stk_terms.proofs.table.Terms.make.Goals as goal

pub invariant_of-self-2 : goal.invariant_of-self-2
invariant_of-self-2 c = made.kept c.self.inside.inputs c.self.inside.nodes.keys c.add.new.nodes.keys c.args.op c.args.args.now c.in_ok-args.args c.width_of-width.result c.in_ok-place.place c.args.self.now c.self.view_is c.self.invariant c.requires c.in_ok-args.ensures.ok (c.width_of-width.ensures ∙ (λ i. width_of (c.as_slice-inputs.ensures i) (sizes_of (c.as_slice-nodes.ensures.keys i)) (term_of c.args.op c.args.args.now))) c.in_ok-place.ensures.once c.in_ok-place.ensures.adds c.in_ok-place.ensures.stands

pub returns-clause-made : goal.returns-clause-made
returns-clause-made c = made.stands c.self.inside.inputs c.self.inside.nodes.keys c.add.new.nodes.keys c.args.op c.args.args.now c.in_ok-args.args c.width_of-width.result c.in_ok-place.place c.args.self.now c.self.view_is c.self.invariant c.requires c.in_ok-args.ensures.ok (c.width_of-width.ensures ∙ (λ i. width_of (c.as_slice-inputs.ensures i) (sizes_of (c.as_slice-nodes.ensures.keys i)) (term_of c.args.op c.args.args.now))) c.in_ok-place.ensures.once c.in_ok-place.ensures.adds c.in_ok-place.ensures.stands

pub returns-clause-value : goal.returns-clause-value
returns-clause-value c = made.value c.self.inside.inputs c.self.inside.nodes.keys c.add.new.nodes.keys c.args.op c.args.args.now c.in_ok-args.args c.width_of-width.result c.in_ok-place.place c.args.self.now c.self.view_is c.self.invariant c.requires c.in_ok-args.ensures.ok (c.width_of-width.ensures ∙ (λ i. width_of (c.as_slice-inputs.ensures i) (sizes_of (c.as_slice-nodes.ensures.keys i)) (term_of c.args.op c.args.args.now))) c.in_ok-place.ensures.once c.in_ok-place.ensures.adds c.in_ok-place.ensures.stands

pub returns-clause-keeps : goal.returns-clause-keeps
returns-clause-keeps c = made.keeps c.self.inside.inputs c.self.inside.nodes.keys c.add.new.nodes.keys c.args.op c.args.args.now c.in_ok-args.args c.width_of-width.result c.in_ok-place.place c.args.self.now c.self.view_is c.self.invariant c.requires c.in_ok-args.ensures.ok (c.width_of-width.ensures ∙ (λ i. width_of (c.as_slice-inputs.ensures i) (sizes_of (c.as_slice-nodes.ensures.keys i)) (term_of c.args.op c.args.args.now))) c.in_ok-place.ensures.once c.in_ok-place.ensures.adds c.in_ok-place.ensures.stands

pub returns-clause-charge : goal.returns-clause-charge
returns-clause-charge c = made.charge c.self.inside.inputs c.self.inside.nodes.keys c.add.new.nodes.keys c.args.op c.args.args.now c.in_ok-args.args c.width_of-width.result c.in_ok-place.place c.args.self.now c.self.view_is c.self.invariant c.requires c.in_ok-args.ensures.ok (c.width_of-width.ensures ∙ (λ i. width_of (c.as_slice-inputs.ensures i) (sizes_of (c.as_slice-nodes.ensures.keys i)) (term_of c.args.op c.args.args.now))) c.in_ok-place.ensures.once c.in_ok-place.ensures.adds c.in_ok-place.ensures.stands

pub returns-clause-wide : goal.returns-clause-wide
returns-clause-wide c = made.wide c.self.inside.inputs c.self.inside.nodes.keys c.add.new.nodes.keys c.args.op c.args.args.now c.in_ok-args.args c.width_of-width.result c.in_ok-place.place c.args.self.now c.self.view_is c.self.invariant c.requires c.in_ok-args.ensures.ok (c.width_of-width.ensures ∙ (λ i. width_of (c.as_slice-inputs.ensures i) (sizes_of (c.as_slice-nodes.ensures.keys i)) (term_of c.args.op c.args.args.now))) c.in_ok-place.ensures.once c.in_ok-place.ensures.adds c.in_ok-place.ensures.stands

pub returns-clause-sound : goal.returns-clause-sound
returns-clause-sound c = made.sound c.self.inside.inputs c.self.inside.nodes.keys c.add.new.nodes.keys c.args.op c.args.args.now c.in_ok-args.args c.width_of-width.result c.in_ok-place.place c.args.self.now c.self.view_is c.self.invariant c.requires c.in_ok-args.ensures.ok (c.width_of-width.ensures ∙ (λ i. width_of (c.as_slice-inputs.ensures i) (sizes_of (c.as_slice-nodes.ensures.keys i)) (term_of c.args.op c.args.args.now))) c.in_ok-place.ensures.once c.in_ok-place.ensures.adds c.in_ok-place.ensures.stands

pub returns-clause-shared : goal.returns-clause-shared
returns-clause-shared c = made.shared c.self.inside.inputs c.self.inside.nodes.keys c.add.new.nodes.keys c.args.op c.args.args.now c.in_ok-args.args c.width_of-width.result c.in_ok-place.place c.args.self.now c.self.view_is c.self.invariant c.requires c.in_ok-args.ensures.ok (c.width_of-width.ensures ∙ (λ i. width_of (c.as_slice-inputs.ensures i) (sizes_of (c.as_slice-nodes.ensures.keys i)) (term_of c.args.op c.args.args.now))) c.in_ok-place.ensures.once c.in_ok-place.ensures.adds c.in_ok-place.ensures.stands c.in_ok-place.ensures.shared
