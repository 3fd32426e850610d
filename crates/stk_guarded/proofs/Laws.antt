-- The laws of this crate, from the lemmas.
use Rattle.stk_guarded.specs.Laws.{SequencesCompose, BranchesCompose, ScopesCompose, TurnsCompose, SectionsCompose, StepsFollow, KeptObjectsFollow}
use Rattle.stk_guarded.proofs.Evaluations.{gives_goes, adds_goes, moves_goes, cut_goes, then_goes, branch_goes, either_goes}
use Rattle.stk_guarded.proofs.Statements.{then_flows, next_flows, start_flows, set_declares, break_flows, continue_flows, return_flows, scope_flows, either_flows}
use Rattle.stk_guarded.proofs.Turns.{turn_flows, tested_flows, moved_flows}
use Rattle.stk_guarded.proofs.Sections.{left_flows, falls_next, falls_end}
use Rattle.stk_guarded.proofs.Cells.{read_goes, after_read, after_store, after_removal, set_under, removed_is}

pub sequences_compose : SequencesCompose
sequences_compose = record { expressions = then_goes; statements = next_flows; valued = then_flows; declared = start_flows }

pub branches_compose : BranchesCompose
branches_compose = record { either = either_goes; alone = branch_goes; statements = either_flows }

pub scopes_compose : ScopesCompose
scopes_compose = scope_flows

pub turns_compose : TurnsCompose
turns_compose = record { begins = moved_flows; tested = tested_flows; turned = turn_flows }

pub sections_compose : SectionsCompose
sections_compose = record { whole = left_flows; more = falls_next; none = falls_end }

pub steps_follow : StepsFollow
steps_follow = record { value = gives_goes; entries = adds_goes; moves = moves_goes; cut = cut_goes; breaks = break_flows; continues = continue_flows; returns = return_flows; register = set_declares }

pub kept_objects_follow : KeptObjectsFollow
kept_objects_follow = record { read = read_goes; after_read = after_read; after_store = after_store; after_removal = after_removal; one_set = set_under; removed = removed_is }
