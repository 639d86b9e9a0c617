use Rattle.mw_read.proofs.Holding.{bare_took, if_ok_all}
use Rattle.mw_read.proofs.parser.Parser.take.Goals as goal

pub returns-clause-took : goal.returns-clause-took
returns-clause-took c =
    let a = c.args.self.now in
    if_ok_all _ _ _ _ c.take.result
    (λ r k d f e t h. bare_took c.args.heap.now.objects c.take.new.heap.objects a.stack c.take.new.self r t c.args.lexeme a.start c.requires.bare h k d f e)
    c.take.ensures.stack c.take.ensures.datum c.take.ensures.turn c.take.ensures.big
