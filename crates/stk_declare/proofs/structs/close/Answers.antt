use Rattle.std.proofs.Common.{◌≡◌, ◌∙◌, ◌++◌, ◌∷◌, [], Err, ap, subst, sym, refl, List, rules}
use Rattle.stk_ctype.specs.declared.symbol.MemberInfo.{MemberInfo}
use Rattle.stk_ctype.specs.declared.symbol.NameEntry.TheVariants as entry
use Rattle.stk_ctype.specs.Structs.{structs_of}
use Rattle.stk_ctype.specs.Sound.{RestsOn}
use Rattle.stk_ctype.specs.Types.{struct_type}
use Rattle.stk_type_rules.specs.Outcome.{Good, finish}
use Rattle.stk_declare.specs.Shown.{opening_of}
use Rattle.stk_declare.specs.Structs.{struct_rule}
use Rattle.stk_declare.proofs.Answering.{stops}
use Rattle.stk_declare.proofs.Entries.{IsFact, AreBased}
use Rattle.stk_declare.proofs.Extending.{sound_kept}
use Rattle.stk_declare.proofs.Closing.{members_rest, rule_kept, struct_made}
use Rattle.stk_declare.proofs.structs.close.Goals as goal

pub returns-in_err-settled-clause-gives : goal.returns-in_err-settled-clause-gives
returns-in_err-settled-clause-gives c = λ es.
    let same : c.from_residual.result ≡ Err c.in_err-settled.field-0.0 = search rules in
    let now = c.args.names.now in
    let o = opening_of es c.args.o in
    rw same (stops IsFact (AreBased now) (finish c.args.node (struct_rule (structs_of now) o c.args.found)) (λ x. Good (record { entries = now ++ entry.Members o.id c.args.found ∷ []; ty = x.ty }) []) c.in_err-settled.field-0.0 (c.in_err-settled.ensures.fact _ (c.struct_rule.ensures.fact es)))

pub add_entry-requires : goal.add_entry-requires
add_entry-requires c =
    let es = c.args.names.now in
    let kept = rule_kept c.args.node (structs_of es) (opening_of es c.args.o) c.args.found c.in_ok-settled.field-0 (c.in_ok-settled.ensures.fact _ (c.struct_rule.ensures.fact es)) in
    subst (λ (ms : List MemberInfo). RestsOn (structs_of es) (entry.Members c.args.o.id ms)) (sym c.into_list-members.ensures) (members_rest (structs_of es) (opening_of es c.args.o) c.args.found kept c.requires.sound c.requires.members)

pub returns-clause-gives : goal.returns-clause-gives
returns-clause-gives c = λ es.
    let now = c.args.names.now in
    let kept = rule_kept c.args.node (structs_of now) (opening_of es c.args.o) c.args.found c.in_ok-settled.field-0 (c.in_ok-settled.ensures.fact _ (c.struct_rule.ensures.fact es)) in
    struct_made c.args.node (structs_of now) (opening_of es c.args.o) c.args.found (now ++ entry.Members c.args.o.id c.args.found ∷ []) c.add_entry.new.names _ kept
    (c.in_ok-add_entry.ensures.added ∙ ap (λ (ms : List MemberInfo). now ++ entry.Members c.args.o.id ms ∷ []) c.into_list-members.ensures) refl

pub returns-clause-sound : goal.returns-clause-sound
returns-clause-sound c = sound_kept c.args.names.now c.add_entry.new.names (struct_type c.args.o.id) c.in_ok-add_entry.ensures.extends c.requires.sound
