use Rattle.std.proofs.Common.{◌≡◌, ◌&&◌, ◌∙◌, Bool, List, ap, sym, subst, ◌*◌}
use Rattle.stk_ctype.specs.declared.kind.IntKind.TheVariants.{Int, ULong}
use Rattle.stk_meaning.specs.Maps.{addresses_in}
use Rattle.stk_meaning.specs.Operations.{bit}
use Rattle.stk_walk.specs.declared.objects.WalkObject.{WalkObject}
use Rattle.stk_walk.specs.declared.validity.Located.{Located}
use Rattle.stk_walk.specs.Validity.{all_lie, all_apart, pairs_in}
use Rattle.stk_walk.specs.Located.{wrapped_end, AreLocated, objects_of}
use Rattle.stk_walk.proofs.Ends.{valid_wrapped}
use Rattle.stk_walking.proofs.Costing.{plus, free_by}
use Rattle.stk_walk.proofs.validity.addresses_valid.Goals as goal

pub returns-clause-value : goal.returns-clause-value
returns-clause-value g c = λ m served.
    let a = addresses_in (g.O.WalkSetting.under c.args.out.now m) in
    let os = c.args.objects.now in
    let k1 = c.in_ok-placed.ensures.keeps in
    let slice : c.as_slice.result.now ≡ c.in_ok-placed.placed.list.items = c.as_slice.ensures.value in
    let located = subst (λ (xs : List (Located g.row.V-Value.Denot)). AreLocated (g.V.Values.shows c.locate_all.new.values m ULong) a xs) (sym slice) (c.in_ok-placed.ensures.located m served) in
    let found = c.in_ok-found.ensures.value m a (all_lie a os) (k1.served m served) located (c.in_ok-placed.ensures.lie m served) in
    let listed = ap objects_of slice ∙ c.in_ok-placed.ensures.objects in
    let same = ap (λ (xs : List WalkObject). all_lie a os && all_apart a (wrapped_end a) xs) listed ∙ valid_wrapped a os in
    subst (λ (b : Bool). g.V.Values.shows c.all_apart.new.values m Int c.in_ok-found.found (bit b)) same found

pub returns-clause-charge : goal.returns-clause-charge
returns-clause-charge g c =
    let slice : c.as_slice.result.now ≡ c.in_ok-placed.placed.list.items = c.as_slice.ensures.value in
    let listed = ap objects_of slice ∙ c.in_ok-placed.ensures.objects in
    plus _ _ _ c.in_ok-placed.ensures.charge (free_by _ (ap (λ (xs : List WalkObject). 1286 * pairs_in xs) listed) c.in_ok-found.ensures.charge)
