-- At last nothing is left to be written.
use Rattle.std.proofs.Common.{◌≡◌, [], ◌∷◌, ◌++◌, length, ap, ◌∙◌, subst, arith}
use Rattle.std.proofs.lemmas.List.{append-nil}
use Rattle.mw_print.specs.declared.piece.Piece.TheVariants.{Text}
use Rattle.mw_print.specs.Waiting.{is_one_of}
use Rattle.mw_print.proofs.Waiting.{IsUnderWay, writing_starts, writing_rest, writing_goes_on, pieces_fall, writing_ends, empty_list}
use Rattle.mw_print.proofs.labelled.write_labelled.Goals as goal

pub loop-piece-init : goal.loop-piece-init
loop-piece-init c =
    let os = c.args.heap.now.objects in
    writing_starts (is_one_of os c.args.again.now.keys) os c.args.x c.args.numbers.now.next c.push.new.self.items c.args.numbers.now.given.entries c.args.out.now.items c.requires.within
    (c.in_ok-push.ensures.items ∙ ap (λ ps. ps ++ Text c.args.x ∷ []) c.new-pieces.ensures.items) c.requires.none_given c.requires.empty

pub write_piece-requires : goal.write_piece-requires
write_piece-requires c =
    let os = c.args.heap.now.objects in
    let s = is_one_of os c.args.again.now.keys in
    let p = c.loop-piece in
    let rest = writing_rest s os c.args.x c.args.numbers.now.next c.pop.new.self.items c.in-Some.piece p.numbers.given.entries p.numbers.next p.out.items
    (subst (λ ps. IsUnderWay s os c.args.x c.args.numbers.now.next ps p.numbers.given.entries p.numbers.next p.out.items) c.in-Some.ensures.items p.invariant) in
    record { piece = rest.1; pieces = rest.0 }

pub loop-piece-smaller : goal.loop-piece-smaller
loop-piece-smaller c =
    pieces_fall c.args.heap.now.objects c.pop.new.self.items c.write_piece.new.pieces.items c.loop-piece.pieces.items c.in-Some.piece c.in-Some.ensures.items c.in_ok-write_piece.ensures.lighter

pub loop-piece-preserved : goal.loop-piece-preserved
loop-piece-preserved c =
    let os = c.args.heap.now.objects in
    let s = is_one_of os c.args.again.now.keys in
    let p = c.loop-piece in
    let w = c.write_piece.new in
    writing_goes_on s os c.args.x c.args.numbers.now.next c.pop.new.self.items c.in-Some.piece p.numbers.given.entries p.numbers.next p.out.items
    (subst (λ ps. IsUnderWay s os c.args.x c.args.numbers.now.next ps p.numbers.given.entries p.numbers.next p.out.items) c.in-Some.ensures.items p.invariant)
    w.pieces.items w.numbers.given.entries w.numbers.next w.out.items c.in_ok-write_piece.ensures

pub returns : goal.returns
returns c =
    let os = c.args.heap.now.objects in
    let s = is_one_of os c.args.again.now.keys in
    let p = c.loop-piece in
    let rest = c.pop.new.self.items in
    let gone : length rest ≡ 0 = omega (arith, c.in_default.ensures.cases.1, c.pop.new.self.ok.0) in
    let none : p.pieces.items ≡ [] = c.in_default.ensures.items ∙ (append-nil rest ∙ empty_list rest gone) in
    let ends = writing_ends s os c.args.x c.args.numbers.now.next p.pieces.items p.numbers.given.entries p.numbers.next p.out.items none p.invariant in
    record { text = ends.0; next = ends.1 }
