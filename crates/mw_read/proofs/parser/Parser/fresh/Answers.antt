use Rattle.std.proofs.Common.{◌+◌, sym, refl, arith}
use Rattle.mw_model.specs.Texts.Lexemes.{Open, Close, Quote}
use Rattle.mw_model.specs.Texts.Lexemes as lex
use Rattle.mw_read.specs.declared.parser.Begun.TheVariants.{Comment}
use Rattle.mw_read.specs.declared.parser.Parser.{Parser}
use Rattle.mw_read.specs.declared.step.SyntaxKind.TheVariants as kinds
use Rattle.mw_read.proofs.Holding.{sound_clamp}
use Rattle.mw_read.proofs.Advancing.{fault_advances}
use Rattle.mw_read.proofs.Beginning.{byte_faults, white_advances, comment_advances, first_is}
use Rattle.mw_read.proofs.FirstByte.{byte_taken}
use Rattle.mw_read.proofs.Moving.{byte_moved, comment_moved}
use Rattle.mw_read.proofs.parser.Parser.fresh.Goals as goal

pub returns-in-White-clause-moves : goal.returns-in-White-clause-moves
returns-in-White-clause-moves c =
    let a = c.args.self.now in
    let p : Parser = record a { start = a.start + 1 } in
    byte_moved a p c.args.rest.now c.requires.begun c.requires.begun refl

pub returns-in-White-clause-advances : goal.returns-in-White-clause-advances
returns-in-White-clause-advances c t h =
    let a = c.args.self.now in
    let p : Parser = record a { start = a.start + 1 } in
    white_advances c.args.heap.now.objects t a p c.args.rest.now c.requires.some c.requires.begun c.requires.begun refl (sym c.in-White.ensures) h

pub returns-in-Semicolon-clause-moves : goal.returns-in-Semicolon-clause-moves
returns-in-Semicolon-clause-moves c =
    let a = c.args.self.now in
    let p : Parser = record a { begun = Comment } in
    comment_moved a p c.args.rest.now c.requires.begun refl refl

pub returns-in-Semicolon-clause-advances : goal.returns-in-Semicolon-clause-advances
returns-in-Semicolon-clause-advances c t h =
    let a = c.args.self.now in
    let p : Parser = record a { begun = Comment } in
    comment_advances c.args.heap.now.objects t a p c.args.rest.now c.requires.some c.requires.begun refl refl (sym c.in-Semicolon.ensures) h

pub begin-requires-clause-begins : goal.begin-requires-clause-begins
begin-requires-clause-begins c = first_is lex.Bar c.args.rest.now c.requires.some (sym c.in-Bar.ensures)

pub begin-requires-in-Hash-clause-begins : goal.begin-requires-in-Hash-clause-begins
begin-requires-in-Hash-clause-begins c = first_is lex.Hash c.args.rest.now c.requires.some (sym c.in-Hash.ensures)

pub begin-requires-in-Constituent-clause-begins : goal.begin-requires-in-Constituent-clause-begins
begin-requires-in-Constituent-clause-begins c = first_is lex.Constituent c.args.rest.now c.requires.some (sym c.in-Constituent.ensures)

pub returns-in_ok-take-in-Opening : goal.returns-in_ok-take-in-Opening
returns-in_ok-take-in-Opening c =
    let a = c.args.self.now in
    let k =
    byte_taken c.args.heap.now.objects c.take.new.heap.objects a c.take.new.self c.args.rest.now c.in_ok-take-in-Opening.field-0 lex.Opening (Open a.start) c.requires.some c.requires.begun c.take.ensures.begun c.take.ensures.start
    (sym c.in-Opening.ensures) (λ e. cc) tt (λ e b x. refl) c.in_ok-take-in-Opening.ensures.took in
    record { grows = c.in_ok-take-in-Opening.ensures.grows; taken = omega (arith, c.requires.some); moves = k.0; advances = k.1 }

pub returns-in_ok-take-in-Closing : goal.returns-in_ok-take-in-Closing
returns-in_ok-take-in-Closing c =
    let a = c.args.self.now in
    let k =
    byte_taken c.args.heap.now.objects c.take-in-Closing.new.heap.objects a c.take-in-Closing.new.self c.args.rest.now c.in_ok-take-in-Closing.field-0 lex.Closing (Close a.start) c.requires.some c.requires.begun c.take-in-Closing.ensures.begun c.take-in-Closing.ensures.start
    (sym c.in-Closing.ensures) (λ e. cc) tt (λ e b x. refl) c.in_ok-take-in-Closing.ensures.took in
    record { grows = c.in_ok-take-in-Closing.ensures.grows; taken = omega (arith, c.requires.some); moves = k.0; advances = k.1 }

pub returns-in_ok-take-in-Apostrophe : goal.returns-in_ok-take-in-Apostrophe
returns-in_ok-take-in-Apostrophe c =
    let a = c.args.self.now in
    let k =
    byte_taken c.args.heap.now.objects c.take-in-Apostrophe.new.heap.objects a c.take-in-Apostrophe.new.self c.args.rest.now c.in_ok-take-in-Apostrophe.field-0 lex.Apostrophe (Quote a.start) c.requires.some c.requires.begun c.take-in-Apostrophe.ensures.begun c.take-in-Apostrophe.ensures.start
    (sym c.in-Apostrophe.ensures) (λ e. cc) tt (λ e b x. refl) c.in_ok-take-in-Apostrophe.ensures.took in
    record { grows = c.in_ok-take-in-Apostrophe.ensures.grows; taken = omega (arith, c.requires.some); moves = k.0; advances = k.1 }

pub returns-in-Other-clause-advances : goal.returns-in-Other-clause-advances
returns-in-Other-clause-advances c t h =
    let a = c.args.self.now in
    fault_advances c.args.heap.now.objects t a a c.args.rest.now c.fault.result 0 (record { kind = kinds.Byte; offset = a.start }) c.fault.ensures
    (λ e z. byte_faults e t a c.args.rest.now z c.requires.some c.requires.begun (sym c.in-Other.ensures) (sound_clamp c.args.heap.now.objects a.stack t h.means))
