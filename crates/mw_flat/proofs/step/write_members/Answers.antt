-- Five members, of which the first and the fourth are no objects of the heap.
use Rattle.std.proofs.Common.{[], ◌∷◌, ◌++◌, map, refl, ap, ◌∙◌, subst, append_assoc}
use Rattle.mw_model.specs.Terms.Object.{Natural, car, second_of, third_of, fourth_of}
use Rattle.mw_model.specs.Texts.Printing.{numeral, text_of}
use Rattle.mw_commands.specs.Commands.Flattening.{numbers_among}
use Rattle.mw_heap.specs.Objects.{object_at}
use Rattle.mw_flat.specs.Members.{WritesMember}
use Rattle.mw_flat.proofs.Writing.{writes_none, writes_more, writes_text}
use Rattle.mw_flat.proofs.NumbersWritten.{atom_is_compact, numbers_are_compact}
use Rattle.mw_flat.proofs.step.write_members.Goals as goal

pub returns : goal.returns
returns c =
    let os = c.args.heap.now.objects in
    let x = object_at os c.args.x in
    let qs = map (object_at os) c.args.complete.now.keys in
    let n = c.args.number in
    let start = c.args.line.now.items in
    let a = c.write_number.new.lines.items in
    let b = c.write_member.new.line.items in
    let d = c.write_member-2.new.line.items in
    let e = c.write_numbers.new.line.items in
    let f = c.write_member-3.new.line.items in
    let numbers = numbers_among qs (third_of x) in
    let i = c.in_ok-next.next in
    let j = c.in_ok-next-2.next in
    let k = c.in_ok-write_member.field-0 in
    writes_more (Natural n) (car x ∷ second_of x ∷ numbers ∷ fourth_of x ∷ []) 1 1 start a f
    (writes_text (Natural n) 1 start a (atom_is_compact (Natural n) 1 refl) (c.in_ok-write_number.ensures ∙ (ap (λ l. l ++ numeral n) c.in_ok-push.ensures.items ∙ append_assoc start (32 ∷ []) (numeral n))))
    (writes_more (car x) (second_of x ∷ numbers ∷ fourth_of x ∷ []) 1 i a b f
    (subst (λ y. WritesMember y 1 a b i) c.car.ensures.value c.in_ok-next.ensures.written)
    (writes_more (second_of x) (numbers ∷ fourth_of x ∷ []) i j b d f
    (subst (λ y. WritesMember y i b d j) c.second_of.ensures.value c.in_ok-next-2.ensures.written)
    (writes_more numbers (fourth_of x ∷ []) j j d e f
    (writes_text numbers j d e (numbers_are_compact qs (third_of x) j) (c.in_ok-write_numbers.ensures ∙ ap (λ y. d ++ 32 ∷ text_of (numbers_among qs y)) c.third_of.ensures.value))
    (writes_more (fourth_of x) [] j k e f f
    (subst (λ y. WritesMember y j e f k) c.fourth_of.ensures.value c.in_ok-write_member.ensures.written)
    (writes_none k f)))))
