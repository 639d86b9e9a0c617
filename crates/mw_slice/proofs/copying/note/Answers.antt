-- Every other cell keeps its copy.
use Rattle.std.proofs.lemmas.Result.{on_ok_weaker}
use Rattle.mw_slice.proofs.CopiedParts.{copies-put, gets-put}
use Rattle.mw_slice.proofs.copying.note.Goals as goal

pub returns-clause-copies : goal.returns-clause-copies
returns-clause-copies c =
    on_ok_weaker c.put.result (λ e. copies-put c.args.from.now.objects c.args.to.now.objects c.args.copies.now c.put.new.self c.args.x c.args.made e c.requires.within c.requires.same c.requires.copies) c.put.ensures

pub returns-clause-copied : goal.returns-clause-copied
returns-clause-copied c = on_ok_weaker c.put.result (λ e. gets-put c.args.from.now.objects c.args.to.now.objects c.args.copies.now c.put.new.self c.args.x c.args.made e) c.put.ensures
