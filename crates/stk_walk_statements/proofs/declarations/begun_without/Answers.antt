use Rattle.std.proofs.Common.{◌≡◌, ◌+◌, ℤ, List, None, set, refl, sym, ap, ◌∙◌, subst, length}
use Rattle.stk_ctype.specs.declared.kind.IntKind.{IntKind}
use Rattle.stk_meaning.specs.Typings.{number_kind}
use Rattle.stk_meaning.specs.Keys.{unset_key}
use Rattle.stk_meaning.specs.Places.{Target, in_register, in_kept, target_at, in_object, unnamed}
use Rattle.stk_operators.specs.Targets.{target_shown}
use Rattle.stk_kinded.specs.Kinds.{Suits, register_kind, cell_kind}
use Rattle.stk_guarded.specs.Standing.{moved_to}
use Rattle.stk_walking.specs.Events.{events_in}
use Rattle.stk_walking.specs.Stands.{RowShows}
use Rattle.stk_walking.proofs.Carried.{is_made_still, stands_still}
use Rattle.stk_walking.proofs.Rows.{row_set, row_made_set, zero_then}
use Rattle.stk_walk_statements.proofs.Walking.{events_none}
use Rattle.stk_walk_statements.proofs.Declaring.{if_same, register_without, kept_without}
use Rattle.stk_walking.proofs.Costing.{costs_free, costs_none}
use Rattle.stk_walk_statements.proofs.declarations.begun_without.Goals as goal

pub returns-in_ok-number-in-Register-clause-walked : goal.returns-in_ok-number-in-Register-clause-walked
returns-in_ok-number-in-Register-clause-walked g c =
    let made = g.V.Values.made in
    let shows = g.V.Values.shows in
    let G = g.O.RunSetting.setting c.args.out.now in
    let K = number_kind (G.typing.type_at c.args.k) in
    let at = c.in-Register.at in
    let n = c.in_ok-number-in-Register in
    let e : target_at G c.args.k ≡ in_register at = sym c.target_at.ensures ∙ ap target_shown c.in-Register.is in
    let suits : register_kind G at ≡ K = subst (λ (t : Target). Suits G t K) e c.requires.suits in
    let same : c.kind_at-kind.result ≡ register_kind G (0 + at) = c.kind_at-kind.ensures ∙ sym (ap (register_kind G) (zero_then at) ∙ suits) in
    let k1 = n.ensures.keeps in
    let still = is_made_still (made c.args.values.now) (made c.input_value.new.values) k1.made_still G c.args.state.now c.requires.made in
    let number = subst (λ (j : IntKind). made c.input_value.new.values j n.number) same n.ensures.makes in
    record {
      made = record {
        guard = still.guard;
        broken = still.broken;
        continued = still.continued;
        registers = rw c.put_register.ensures (row_made_set (made c.input_value.new.values) (register_kind G) 0 c.args.state.now.registers.items at n.number still.registers number);
        cells = still.cells;
        steps = still.steps;
      };
      events = events_none (events_in c.args.state.now.steps.items) (events_in c.args.state.now.steps.items) refl;
      follows = λ m s served at0.
          let I = g.O.WalkSetting.under c.args.out.now m in
          let now = shows c.input_value.new.values m in
          let up = stands_still (shows c.args.values.now m) now (k1.shown m) G c.args.state.now s at0 in
          let y = I (unset_key c.args.k) in
          let here = subst (λ (j : IntKind). now j n.number y) same (n.ensures.value m served) in
          record {
            standing = record s { numbers = set s.numbers at y };
            stands = record {
              guard = up.guard;
              broken = up.broken;
              continued = up.continued;
              numbers = rw c.put_register.ensures (row_set now (register_kind G) 0 c.args.state.now.registers.items s.numbers at n.number y up.numbers here);
              kept = up.kept;
              events = up.events;
            };
            is = register_without G I c.args.k at s e;
          };
      keeps = k1;
    }

pub returns-in_ok-remove_cell-in-Kept-clause-walked : goal.returns-in_ok-remove_cell-in-Kept-clause-walked
returns-in_ok-remove_cell-in-Kept-clause-walked g c =
    let made = g.V.Values.made in
    let shows = g.V.Values.shows in
    let G = g.O.RunSetting.setting c.args.out.now in
    let at = c.in-Kept.at in
    let n = c.in_ok-remove_cell-in-Kept in
    let e : target_at G c.args.k ≡ in_kept at = sym c.target_at.ensures ∙ ap target_shown c.in-Kept.is in
    let k1 = n.ensures.keeps in
    let still = is_made_still (made c.args.values.now) (made c.remove_cell.new.values) k1.made_still G c.args.state.now c.requires.made in
    record {
      made = record {
        guard = still.guard;
        broken = still.broken;
        continued = still.continued;
        registers = still.registers;
        cells = n.ensures.made (cell_kind G) c.requires.made.cells;
        steps = still.steps;
      };
      events = events_none (events_in c.args.state.now.steps.items) (events_in c.args.state.now.steps.items) refl;
      follows = λ m s served at0.
          let now = shows c.remove_cell.new.values m in
          let up = stands_still (shows c.args.values.now m) now (k1.shown m) G c.args.state.now s at0 in
          record {
            standing = moved_to s.numbers (set s.kept at None) s;
            stands = record {
              guard = up.guard;
              broken = up.broken;
              continued = up.continued;
              numbers = subst (λ (xs : List ℤ). RowShows now (register_kind G) 0 c.args.state.now.registers.items xs) (if_same s.alive s.numbers) up.numbers;
              kept = n.ensures.shown m (cell_kind G) s.alive s.kept served at0.guard at0.kept;
              events = up.events;
            };
            is = kept_without G (g.O.WalkSetting.under c.args.out.now m) c.args.k at s e;
          };
      keeps = k1;
    }

pub returns-in_ok-number-in-Register-clause-cost : goal.returns-in_ok-number-in-Register-clause-cost
returns-in_ok-number-in-Register-clause-cost g c =
    let G = g.O.RunSetting.setting c.args.out.now in
    let e : target_at G c.args.k ≡ in_register c.in-Register.at = sym c.target_at.ensures ∙ ap target_shown c.in-Register.is in
    rw e (costs_free refl c.in_ok-number-in-Register.ensures.charge)

pub returns-in_ok-remove_cell-in-Kept-clause-cost : goal.returns-in_ok-remove_cell-in-Kept-clause-cost
returns-in_ok-remove_cell-in-Kept-clause-cost g c =
    let G = g.O.RunSetting.setting c.args.out.now in
    let e : target_at G c.args.k ≡ in_kept c.in-Kept.at = sym c.target_at.ensures ∙ ap target_shown c.in-Kept.is in
    rw e (c.in_ok-remove_cell-in-Kept.ensures.cost (length G.kept))

pub returns-in-Object-clause-cost : goal.returns-in-Object-clause-cost
returns-in-Object-clause-cost g c =
    let G = g.O.RunSetting.setting c.args.out.now in
    let e : target_at G c.args.k ≡ in_object c.in-Object.field-0 = sym c.target_at.ensures ∙ ap target_shown c.in-Object.is in
    rw e costs_none

pub returns-in-Unnamed-clause-cost : goal.returns-in-Unnamed-clause-cost
returns-in-Unnamed-clause-cost g c =
    let G = g.O.RunSetting.setting c.args.out.now in
    let e : target_at G c.args.k ≡ unnamed = sym c.target_at.ensures ∙ ap target_shown c.in-Unnamed.is in
    rw e costs_none
