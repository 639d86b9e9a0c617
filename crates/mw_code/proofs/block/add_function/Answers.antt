-- A body is laid out after the code that is there, and no body leaves that as it is.
use Rattle.std.proofs.Common.{sym, subst}
use Rattle.mw_code.specs.Jobs.{Extends}
use Rattle.mw_code.proofs.Forms.{extends-same}
use Rattle.mw_code.proofs.block.add_function.Goals.{in-Some+in_ok-function-in-Some, in-None}
use Rattle.mw_code.proofs.block.add_function.Goals as goal

pub returns-clause-extends : goal.returns-clause-extends
returns-clause-extends c =
    let code = c.args.code.now.items in
    elim c.match-body.branch [
      | in-Some+in_ok-function-in-Some w ↦ subst (λ v. Extends code v.items) (sym w.code-is) w.lay_function.ensures.extends
      | in-None w ↦ subst (λ v. Extends code v.items) (sym w.code-is) (extends-same code)
    ]
