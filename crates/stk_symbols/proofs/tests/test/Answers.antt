use Rattle.stk_symbols.proofs.tests.test.Goals as goal
