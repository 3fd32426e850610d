use Rattle.std.proofs.Common.{List, ap}
use Rattle.stk_clauses.specs.declared.derivation.Derived.{Derived}
use Rattle.stk_proofs.specs.Words.{words_of}
use Rattle.stk_proofs.proofs.Steps.{one_reading}
use Rattle.stk_proofs.proofs.ReadBack.{cnf_back, derivation_back}
use Rattle.stk_proofs.proofs.Fitting.{list_fits, derivation_fits}
use Rattle.stk_proofs.proofs.laws.texts_are_read_back.Goals as goal

pub returns : goal.returns
returns c = record {
  clauses = cnf_back;
  derivations = derivation_back;
  once = λ given bytes d e h k. ap (λ (ss : List Derived). record { steps = ss }) (one_reading _ (words_of bytes) d.steps e.steps h k);
  clauses_fit = list_fits;
  derivations_fit = derivation_fits;
}
