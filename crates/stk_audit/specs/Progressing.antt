-- What an audit knows.
use Rattle.stk_audit.specs.declared.progress.Progress.{Progress}
use Rattle.stk_audit_rules.specs.Knowing.{Known}

abbrev pub known_in : Progress → Known
known_in p = record { without = p.without; at = p.at; last = p.last; members = p.members.items; starts = p.starts.items; clauses = p.clauses; claims = p.claims.items }
