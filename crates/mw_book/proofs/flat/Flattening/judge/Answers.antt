-- The event is judged, and the text of it left where it is one of the log.
use Rattle.std.proofs.Common.{◌≡◌, ◌∙◌, ◌+◌, IfOk, true, cond, [], refl, sym, ap, subst, arith}
use Rattle.mw_model.specs.Events.Fate.{event_word}
use Rattle.mw_commands.specs.Commands.Slice.{begins_with}
use Rattle.mw_commands.specs.Commands.Flattening.{OwesFlat, is_logged_word}
use Rattle.mw_heap.specs.Objects.{object_at}
use Rattle.mw_kernel.specs.Fates.{fate_of}
use Rattle.mw_book.proofs.FlattenedOne.{judged_flat}
use Rattle.mw_book.proofs.flat.Flattening.judge.Goals as goal

pub returns-then-is_logged-clause-puts : goal.returns-then-is_logged-clause-puts
returns-then-is_logged-clause-puts c given =
    let old = c.args.self.now in
    let k = c.args.kernel.now in
    let x = c.args.x in
    let mid = record old { copies = c.write_flat-logged.new.copies } in
    let text = c.write_flat-logged.new.piece.items in
    let event = c.in_ok-fate.ensures in
    let put = c.in_ok-is_logged.is_logged in
    let ended = c.end_event.new.self in
    judged_flat old mid ended _ k _ (object_at k.objects x) (fate_of c.in_ok-fate.fate) c.write_flat-logged.result c.is_headed-is_switch.result put text _
    c.requires.plain event.fate event.theory event.steps refl
    (c.is_headed-is_switch.ensures ∙ ap (λ os. begins_with "SWITCH" (object_at os x)) c.heap.ensures)
    (subst (λ os. IfOk c.write_flat-logged.result (λ b. b ≡ is_logged_word (event_word (object_at os x)))) c.heap-2.ensures c.write_flat-logged.ensures.word)
    (subst (λ os. IfOk c.write_flat-logged.result (λ b. b ≡ true → OwesFlat (object_at os x) text)) c.heap-2.ensures c.write_flat-logged.ensures.written)
    c.in_ok-is_logged.ensures.ended refl (ap (λ b. ended.written + cond b 1 0) (sym c.if-is_logged.true)) (ap (λ b. cond b text []) (sym c.if-is_logged.true)) given

pub returns-clause-puts : goal.returns-clause-puts
returns-clause-puts c given =
    let old = c.args.self.now in
    let k = c.args.kernel.now in
    let x = c.args.x in
    let mid = record old { copies = c.write_flat-logged.new.copies } in
    let text = c.write_flat-logged.new.piece.items in
    let event = c.in_ok-fate.ensures in
    let put = c.in_ok-is_logged.is_logged in
    let ended = c.end_event.new.self in
    let none : ended.written ≡ ended.written + 0 = omega arith in
    judged_flat old mid ended _ k _ (object_at k.objects x) (fate_of c.in_ok-fate.fate) c.write_flat-logged.result c.is_headed-is_switch.result put text _
    c.requires.plain event.fate event.theory event.steps refl
    (c.is_headed-is_switch.ensures ∙ ap (λ os. begins_with "SWITCH" (object_at os x)) c.heap.ensures)
    (subst (λ os. IfOk c.write_flat-logged.result (λ b. b ≡ is_logged_word (event_word (object_at os x)))) c.heap-2.ensures c.write_flat-logged.ensures.word)
    (subst (λ os. IfOk c.write_flat-logged.result (λ b. b ≡ true → OwesFlat (object_at os x) text)) c.heap-2.ensures c.write_flat-logged.ensures.written)
    c.in_ok-is_logged.ensures.ended refl (none ∙ ap (λ b. ended.written + cond b 1 0) (sym c.if-is_logged.false)) (c.clear.ensures.items ∙ ap (λ b. cond b text []) (sym c.if-is_logged.false)) given
