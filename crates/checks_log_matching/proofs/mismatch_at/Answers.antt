-- Made by tools/uniform from proofs.txt, not by hand: de8c353b8b1b01ba
use Rattle.checks_log_matching.specs.Laws.{mismatch_none, mismatch_unshared, mismatch_shared}
use Rattle.checks_log_matching.proofs.mismatch_at.Goals as goal

pub returns-in_err-difference : goal.returns-in_err-difference
returns-in_err-difference c = mismatch_none _ _ _ _ _ _ _ c.in_err-difference.was c.from_residual.ensures

pub returns-in_err-term : goal.returns-in_err-term
returns-in_err-term c = mismatch_unshared _ _ _ _ _ _ _ c.in_ok-difference.was _ c.shared_term.ensures _ c.in_err-term.was c.from_residual-in_err-term.ensures

pub returns : goal.returns
returns c = mismatch_shared _ _ _ _ _ _ _ c.in_ok-difference.was _ c.shared_term.ensures _ c.in_ok-term.was
