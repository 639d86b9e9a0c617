use Rattle.std.proofs.Common.{◌∙◌, ap}
use Rattle.mw_read.specs.Named.{seen}
use Rattle.mw_read.proofs.Named.{names, join}
use Rattle.mw_read.proofs.labels.look.Goals as goal

pub returns-in-Some-clause-names : goal.returns-in-Some-clause-names
returns-in-Some-clause-names c os ls h = ap (λ o. join (seen os o)) c.in-Some.ensures.value ∙ names os c.args.labels.now.entries ls c.args.n h

pub returns-in-None-clause-names : goal.returns-in-None-clause-names
returns-in-None-clause-names c os ls h = ap (λ o. join (seen os o)) c.in-None.ensures.value ∙ names os c.args.labels.now.entries ls c.args.n h
