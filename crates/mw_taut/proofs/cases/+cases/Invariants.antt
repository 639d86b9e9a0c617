-- Each call of by_cases from branch has one equation less to choose.
use Rattle.std.proofs.Common.{◌+◌, ◌-◌, ◌*◌, length}
use Rattle.mw_taut.proofs.cases.+cases.Given as goal

abbrev pub decreases-branch : goal.decreases-branch
decreases-branch l = 2 * (length l.at.now.equations.now - length l.at.now.chosen.now)

abbrev pub decreases-by_cases : goal.decreases-by_cases
decreases-by_cases l = 2 * (length l.at.now.equations.now - length l.at.now.chosen.now) + 1
