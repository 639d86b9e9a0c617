-- The call, or its actuals.
use Rattle.std.proofs.Common.{sym, ap, ◌∙◌}
use Rattle.mw_model.specs.Terms.Reading.{term_of}
use Rattle.mw_term.specs.Parts.{names_at}
use Rattle.mw_define.proofs.Opened.{opens-inside, opens-outside}
use Rattle.mw_define.proofs.opening.open_call.Goals as goal

pub returns-in_ok-wait : goal.returns-in_ok-wait
returns-in_ok-wait c = record {
  opens = λ x whole.
      let read = c.requires.read in
      opens-inside (names_at c.args.heap.now.objects c.args.names.now.keys) c.args.heap.now.objects x c.args.tests c.args.waiting.now.items c.requires.tests_in c.args.name c.args.arguments read.0 c.requires.name_in c.requires.within c.requires.symbol read.1 (ap term_of whole ∙ read.2) c.wait.new.waiting.items (sym c.is_among_symbols.ensures.among ∙ c.if-is_among_symbols.true) c.in_ok-wait.ensures;
}

pub returns-in_ok-wait-2 : goal.returns-in_ok-wait-2
returns-in_ok-wait-2 c = record {
  opens = λ x whole.
      let read = c.requires.read in
      opens-outside (names_at c.args.heap.now.objects c.args.names.now.keys) c.args.heap.now.objects x c.args.tests c.args.waiting.now.items c.requires.tests_in c.args.name c.args.arguments read.0 c.requires.name_in c.requires.within c.requires.symbol read.1 (ap term_of whole ∙ read.2) c.wait-else-is_among_symbols.new.waiting.items (sym c.is_among_symbols.ensures.among ∙ c.if-is_among_symbols.false) c.in_ok-wait-2.ensures;
}
