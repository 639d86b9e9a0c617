-- A call of the block was met, or the pieces of the piece answer, or they wait.
use Rattle.std.proofs.Common.{◌≡◌, List, ◌++◌, ◌∷◌, [], true, sym, ap, ◌∙◌, subst}
use Rattle.std.proofs.lemmas.List.Elements.{All-push, All-append, All-same}
use Rattle.mw_term.specs.Parts.{names_at}
use Rattle.mw_define.specs.declared.piece.Piece.{Piece}
use Rattle.mw_define.specs.Mentioning.{IsLook, IsPiece, some_mentions}
use Rattle.mw_define.proofs.Knowing.{noted, split-mention, split-pieces}
use Rattle.mw_define.proofs.mention.settle.Goals as goal

pub returns-then-branch-clause-known : goal.returns-then-branch-clause-known
returns-then-branch-clause-known c =
    let os = c.args.heap.now.objects in
    let keys = c.args.known.now.names.keys in
    let p = c.args.piece.now in
    let met = subst (IsLook (names_at os keys) os p c.clear.new.self.items c.look.new.waiting.items) c.if-branch.true c.in_ok-look.ensures in
    noted c.note.result os keys c.args.known.now c.note.new.self p true c.note.ensures.names c.requires.known c.requires.within (λ B n. sym (met B n)) c.note.ensures.noted c.note.ensures.denials

pub returns-in-Some-clause-known : goal.returns-in-Some-clause-known
returns-in-Some-clause-known c =
    let os = c.args.heap.now.objects in
    let keys = c.args.known.now.names.keys in
    let p = c.args.piece.now in
    let split = subst (IsLook (names_at os keys) os p c.clear.new.self.items c.look.new.waiting.items) c.if-branch.false c.in_ok-look.ensures in
    let mention = split-mention (names_at os keys) os p c.look.new.waiting.items c.clear.new.self.items c.clear.ensures.items split in
    let answer = c.in-Some.ensures in
    noted c.note-in-Some.result os keys c.args.known.now c.note-in-Some.new.self p c.in-Some.mentions c.note-in-Some.ensures.names c.requires.known c.requires.within
    (λ B n. subst (λ l. c.in-Some.mentions ≡ some_mentions B os l) c.as_slice.ensures.value (answer (names_at os keys) os c.requires.known.pieces B n) ∙ mention B n)
    c.note-in-Some.ensures.noted c.note-in-Some.ensures.denials

pub returns-clause-waiting : goal.returns-clause-waiting
returns-clause-waiting c =
    let os = c.args.heap.now.objects in
    let keys = c.args.known.now.names.keys in
    let p = c.args.piece.now in
    let split = subst (IsLook (names_at os keys) os p c.clear.new.self.items c.look.new.waiting.items) c.if-branch.false c.in_ok-look.ensures in
    let pieces = split-pieces (names_at os keys) os p c.look.new.waiting.items c.clear.new.self.items c.clear.ensures.items split in
    let pushed = All-push (IsPiece os) c.args.waiting.now.items p c.requires.waiting c.requires.within in
    All-same (IsPiece os) c.append.new.self.items ((c.args.waiting.now.items ++ p ∷ []) ++ c.look.new.waiting.items) (c.in_ok-append.ensures.items ∙ ap (λ (l : List Piece). l ++ c.look.new.waiting.items) c.in_ok-push.ensures.items)
    (All-append (IsPiece os) (c.args.waiting.now.items ++ p ∷ []) c.look.new.waiting.items pushed pieces)
