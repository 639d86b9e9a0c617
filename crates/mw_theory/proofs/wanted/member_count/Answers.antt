-- Each word has its number, and a word of no event has none.
use Rattle.std.proofs.Common.{option_map, sym, ap}
use Rattle.mw_model.specs.Events.Fate.{member_count}
use Rattle.mw_theory.proofs.EventWords.{none_named}
use Rattle.mw_theory.proofs.wanted.member_count.Goals as goal

pub returns-in_default : goal.returns-in_default
returns-in_default c =
    let d = c.in_default in
    ap (option_map member_count) (sym (none_named c.args.word d.not-Verify d.not-Define d.not-Skolem d.not-Switch d.not-Eval d.not-Print d.not-DefineAll d.not-Profile))
