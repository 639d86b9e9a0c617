-- A part by what it is.
use Rattle.std.proofs.Common.{[], cond, sym, ap, ◌∙◌}
use Rattle.mw_heap.specs.Objects.{object_at}
use Rattle.mw_heap.proofs.NoPair.{shown_no_pair}
use Rattle.mw_term.specs.Occurrences.{object_occurrences, objects_occurrences, part_occurrences}
use Rattle.mw_term.proofs.Gathering.{looked-none, looked-call, looked-list, no_list-none}
use Rattle.mw_term.proofs.gather.look.Goals as goal

pub returns-in-Nat : goal.returns-in-Nat
returns-in-Nat c =
    let os = c.args.heap.now.objects in
    looked-none os c.args.part c.args.found.now.keys c.args.waiting.now.items c.requires.symbols
    (ap (part_occurrences os) c.in-Term.is ∙ ap object_occurrences c.in-Nat.ensures.shows)

pub returns-in_ok-push-in-Pair : goal.returns-in_ok-push-in-Pair
returns-in_ok-push-in-Pair c =
    let shows = c.in-Pair.ensures.shows in
    looked-call c.args.heap.now.objects c.args.part c.args.found.now.keys c.args.waiting.now.items c.push.new.self.items c.in-Term.x c.in-Pair.head c.in-Pair.actuals c.requires.symbols c.in-Term.is shows.2 (sym c.is_word.ensures ∙ c.if-not-is_word.true) shows.1 c.in-Pair.ensures.below.1 c.in_ok-push-in-Pair.ensures.items

pub returns-else-not-is_word : goal.returns-else-not-is_word
returns-else-not-is_word c =
    let os = c.args.heap.now.objects in
    looked-none os c.args.part c.args.found.now.keys c.args.waiting.now.items c.requires.symbols
    (ap (part_occurrences os) c.in-Term.is
    ∙ (ap object_occurrences c.in-Pair.ensures.shows.2
    ∙ ap (λ b. cond b [] (objects_occurrences (object_at os c.in-Pair.actuals))) (sym c.is_word.ensures ∙ c.if-not-is_word.false)))

pub returns-in_ok-push-in-Terms-2 : goal.returns-in_ok-push-in-Terms-2
returns-in_ok-push-in-Terms-2 c =
    let pair = c.in-Pair-view.ensures in
    looked-list c.args.heap.now.objects c.args.part c.args.found.now.keys c.args.waiting.now.items c.push-in-Pair-view.new.self.items c.push-in-Pair-view-2.new.self.items c.in-Terms.x c.in-Pair-view.first c.in-Pair-view.rest c.requires.symbols c.in-Terms.is pair.shows.2 pair.shows.0 pair.shows.1 pair.below.0 pair.below.1 c.in_ok-push-in-Terms.ensures.items c.in_ok-push-in-Terms-2.ensures.items

pub returns-in_default : goal.returns-in_default
returns-in_default c =
    let os = c.args.heap.now.objects in
    let x = c.in-Terms.x in
    looked-none os c.args.part c.args.found.now.keys c.args.waiting.now.items c.requires.symbols
    (no_list-none os c.args.part x c.in-Terms.is (shown_no_pair os c.view-in-Terms.result (object_at os x) c.view-in-Terms.ensures.shows c.in_default.not-Pair))
