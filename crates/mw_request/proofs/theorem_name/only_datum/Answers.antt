-- What comes first, and second.
use Rattle.std.proofs.Common.{◌∙◌, [], ◌∷◌, None, sym, ap}
use Rattle.mw_model.specs.Texts.Grammar.{book}
use Rattle.mw_heap.proofs.Objects.{IsIn-Grows, object_at-Grows}
use Rattle.mw_request.proofs.OneDatum.{none_first, none_second, one_read}
use Rattle.mw_request.proofs.theorem_name.only_datum.Goals as goal

pub returns-in-End-clause-within : goal.returns-in-End-clause-within
returns-in-End-clause-within c =
    let d = c.in-Datum.ensures.continues [] [] c.requires.stands in
    IsIn-Grows c.next.new.heap.objects c.next-in-Datum.new.heap.objects c.in-End.ensures.grows c.in-Datum.x d.1.0

pub returns-in-End-clause-some : goal.returns-in-End-clause-some
returns-in-End-clause-some c =
    let d = c.in-Datum.ensures.continues [] [] c.requires.stands in
    let first = c.next.new.heap.objects in
    let last = c.next-in-Datum.new.heap.objects in
    one_read c.args.reader.now c.requires.finished c.next.new.self d.0 d.2 last c.next-in-Datum.new.self (c.in-End.ensures.continues d.2.taken (d.0 ∷ []) (d.2.stands first))
    ∙ ap (λ y. book (y ∷ []) None) (sym (object_at-Grows first last c.in-End.ensures.grows c.in-Datum.x d.1.0 ∙ d.1.1))

pub returns-in_default-next : goal.returns-in_default-next
returns-in_default-next c =
    let d = c.in-Datum.ensures.continues [] [] c.requires.stands in
    record {
      within = tt;
      some = tt;
      none = none_second c.args.reader.now c.requires.finished c.next.new.self d.0 d.2 c.next-in-Datum.new.heap.objects c.next-in-Datum.result c.next-in-Datum.new.self
          c.in_default-next.not-End c.in_default-next.not-Memory (c.next-in-Datum.ensures.continues d.2.taken (d.0 ∷ []) (d.2.stands c.next.new.heap.objects));
    }

pub returns-in_default : goal.returns-in_default
returns-in_default c = record {
  within = tt;
  some = tt;
  none = none_first c.args.reader.now c.requires.finished c.next.new.heap.objects c.next.result c.next.new.self c.in_default.not-Datum c.in_default.not-Memory (c.next.ensures.continues [] [] c.requires.stands);
}
