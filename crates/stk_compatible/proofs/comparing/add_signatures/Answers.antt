use Rattle.std.proofs.Common.{◌≡◌, ◌&&◌, ◌∙◌, map, sym, subst, List}
use Rattle.std.specs.Prelude.{IfOk}
use Rattle.stk_ctype.specs.declared.ctype.CType.{CType}
use Rattle.stk_ctype.specs.Types.{type_of, row_of}
use Rattle.stk_compatible.specs.Same.{same, same_row}
use Rattle.stk_compatible.specs.Pairs.{are_same, pairs_of}
use Rattle.stk_compatible.proofs.Pairs.{pairs_more, signatures_same, after_pair, whole_same}
use Rattle.stk_compatible.proofs.comparing.add_signatures.Goals as goal

pub returns : goal.returns
returns c =
    let s = c.args.left.now in
    let t = c.args.right.now in
    let mid = pairs_more c.args.waiting.now.items c.push.new.self.items _ _ c.in_ok-push.ensures.items in
    let now = are_same (pairs_of c.add_rows.new.waiting.items) in
    let before = are_same (pairs_of c.push.new.self.items) in
    let rows = subst (λ (xs : List CType). IfOk c.add_rows.result (λ b. (b && now) ≡ (same_row (row_of (map type_of xs)) (row_of (map type_of t.params)) && before))) c.as_slice.ensures
    (subst (λ (ys : List CType). IfOk c.add_rows.result (λ b. (b && now) ≡ (same_row (row_of (map type_of c.as_slice.result.now)) (row_of (map type_of ys)) && before))) c.as_slice-2.ensures c.add_rows.ensures) in
    whole_same c.add_rows.result _ _ _ _ (sym (signatures_same c.args.left.now c.args.right.now (sym c.same_truth.ensures ∙ c.if-not-same_truth.false)))
    (after_pair c.add_rows.result _ _ _ (same (type_of s.result) (type_of t.result)) (same_row (row_of (map type_of s.params)) (row_of (map type_of t.params))) rows mid)
