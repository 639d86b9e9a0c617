-- The symbol is that of the word, or of none.
use Rattle.std.proofs.Common.{option_map, sym, ap, ◌∙◌}
use Rattle.mw_model.specs.Events.Fate.{member_count}
use Rattle.mw_heap.specs.Objects.{object_at}
use Rattle.mw_heap.proofs.NoPair.{shown_no_pair}
use Rattle.mw_theory.specs.EventWords.{word_at, word_begun}
use Rattle.mw_theory.proofs.EventWords.{none_begun, no_word_at}
use Rattle.mw_theory.proofs.wanted.members_wanted.Goals as goal

pub returns-in_default : goal.returns-in_default
returns-in_default c =
    let os = c.args.heap.now.objects in
    let x = object_at os c.args.x in
    ap (option_map member_count) (sym (none_begun x (shown_no_pair os c.view.result x c.view.ensures.shows c.in_default.not-Pair)))

pub returns-in-Some : goal.returns-in-Some
returns-in-Some c =
    c.member_count.ensures
    ∙ (ap (λ y. option_map member_count (word_at y)) (sym c.in-Some.ensures)
    ∙ ap (λ y. option_map member_count (word_begun y)) (sym c.in-Pair.ensures.shows.2))

pub returns-in-None : goal.returns-in-None
returns-in-None c =
    ap (option_map member_count) (sym (no_word_at (object_at c.args.heap.now.objects c.in-Pair.first) c.in-None.ensures))
    ∙ ap (λ y. option_map member_count (word_begun y)) (sym c.in-Pair.ensures.shows.2)
