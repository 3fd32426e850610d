use Rattle.std.proofs.Common.{rules, ◌≡◌, ◌≤◌, ℕ, List, length, map, take, sym, subst, ap, ◌∙◌, ◌<◌, ◌+◌, get_or, ◌++◌, ◌∷◌, [], arith}
use Rattle.std.proofs.lemmas.List.{length-map, length-take-le, map-append, take_more}
use Rattle.stk_meaning.specs.Keys as runs
use Rattle.stk_function_env.specs.declared.infos.KeyInfo.{KeyInfo}
use Rattle.stk_function_env.specs.Infos.{info_in}
use Rattle.stk_path_runs.specs.Places.{IsKeyIndex}
use Rattle.stk_path_runs.proofs.key_index.KeyIndex.of.Goals as goal

next_keys : (xs : List KeyInfo) (i : ℕ) (d : KeyInfo) → i < length xs → map info_in (take (i + 1) xs) ≡ map info_in (take i xs) ++ info_in (get_or xs i d) ∷ []
next_keys xs i d h = ap (map info_in) (take_more xs i d h) ∙ map-append info_in (take i xs) (get_or xs i d ∷ [])

so_many : (xs : List KeyInfo) (i : ℕ) → i < length xs → length (map info_in (take i xs)) ≡ i
so_many xs i h = let le : i ≤ length xs = omega arith in length-map (take i xs) info_in ∙ length-take-le i xs le

pub loop-place-preserved : goal.loop-place-preserved
loop-place-preserved c =
    let below : c.loop-place.place < length c.args.keys.now = search rules in
    let h = c.in_ok-push.ensures (map info_in (take c.loop-place.place c.args.keys.now)) (so_many c.args.keys.now c.loop-place.place below) c.loop-place.invariant in
    subst (IsKeyIndex c.push.new.self) (sym (next_keys c.args.keys.now c.loop-place.place _ below)) h
