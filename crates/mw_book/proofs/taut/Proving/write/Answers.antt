-- One datum more is answered.
use Rattle.std.proofs.Common.{◌≡◌, ℕ, ◌+◌, List, [], ◌++◌, Option, sym, ap, ◌∙◌, subst}
use Rattle.mw_model.specs.Terms.Object.{Object}
use Rattle.mw_model.specs.Reports.Report.{word_text}
use Rattle.mw_commands.specs.Commands.TautologyBook.{OwesTautology}
use Rattle.mw_read.specs.Shown.{shown_text}
use Rattle.mw_taut.proofs.Verdicts.{verdict_proved}
use Rattle.mw_book.specs.Answered.{ShowsWord}
use Rattle.mw_book.proofs.Counted.{answers_one}
use Rattle.mw_book.proofs.taut.Proving.write.Goals as goal

-- what is shown, written in place of what was there, is the text of the first member
word_is : (os : List Object) (word : Option ℕ) (x : Object) (none now text : List ℕ) → ShowsWord os word x → none ≡ [] → now ≡ none ++ shown_text os word → text ≡ now → text ≡ word_text x
word_is os word x none now text shows empty written same = same ∙ written ∙ ap (λ l. l ++ shown_text os word) empty ∙ shows.1

pub write_shown-requires : goal.write_shown-requires
write_shown-requires c = c.requires.found.1.0

pub write_answer-requires : goal.write_answer-requires
write_answer-requires c = let f = c.requires.found in record { found = (f.0, word_is _ c.args.word f.0 _ _ _ f.1 c.clear.ensures.items c.in_ok-write_shown.ensures c.deref.ensures.value, f.2) }

pub returns-clause-puts : goal.returns-clause-puts
returns-clause-puts c = λ x shows found given.
    let old = c.args.self.now in
    let heap = c.args.heap.now in
    let p = c.in_ok-write_answer.ensures x (word_is _ c.args.word x _ _ _ shows c.clear.ensures.items c.in_ok-write_shown.ensures c.deref.ensures.value) found in
    let piece = p.1 ∙ ap (λ l. l ++ p.0) c.requires.empty in
    answers_one old c.count.new.self heap c.count.new.heap x c.is_theorem.result _ (subst (OwesTautology (old.formulas + 1, x)) (sym piece) p.2) (verdict_proved heap.objects x c.args.verdict.now found ∙ sym c.is_theorem.ensures)
    c.count.ensures.counted c.count.ensures.unproved_counted c.count.ensures.proving given
