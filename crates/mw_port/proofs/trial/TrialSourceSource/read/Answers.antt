use Rattle.std.proofs.Common.{◌-◌, length, rules}
use Rattle.std.proofs.lemmas.List.{places}
use Rattle.mw_port.proofs.Trials.{given_more}
use Rattle.mw_port.proofs.trial.TrialSourceSource.read.Goals as goal

pub loop-at-preserved : goal.loop-at-preserved
loop-at-preserved c =
    let l = c.loop-at in record {
      within = search (rules, places);
      given = given_more c.args.self.now l.self c.give-n.new.self l.buffer c.give-n.new.buffer l.at c.give-n.result (length l.buffer - l.at) l.invariant.within c.give-n.ensures.within l.invariant.given c.give-n.ensures.given;
    }
