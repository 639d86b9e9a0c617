-- One step: a datum, which is answered, the end of the piece, or a fault.
use Rattle.std.proofs.Common.{◌∙◌, [], ◌∷◌, ◌++◌, refl, ap, subst}
use Rattle.mw_model.specs.Events.Fate.{is_out_of_range}
use Rattle.mw_read.specs.Standing.{Says}
use Rattle.mw_read.specs.declared.step.Step.TheVariants as steps
use Rattle.mw_answers.specs.Answering.{Answers}
use Rattle.mw_answers.proofs.Taken.{taking_expected, datum_taken, rest_taken, fault_taken, known_taken, datum_expected}
use Rattle.mw_answers.proofs.reading.take_datum.Goals as goal

pub answer-requires-clause-within : goal.answer-requires-clause-within
answer-requires-clause-within g c =
    let s = c.requires.stands in
    (subst (λ t. Says (g.A.Answering.objects c.step-step.new.self) c.args.reader.now.parser s.0 s.1 c.args.piece.now t c.step-step.result.1 c.step-step.new.reader.parser) c.in-Datum.is (c.step-step.ensures.says s.0 s.1 s.2)).1.0

pub answer-requires-clause-in_range : goal.answer-requires-clause-in_range
answer-requires-clause-in_range g c =
    let s = c.requires.stands in
    let y = subst (λ t. Says (g.A.Answering.objects c.step-step.new.self) c.args.reader.now.parser s.0 s.1 c.args.piece.now t c.step-step.result.1 c.step-step.new.reader.parser) c.in-Datum.is (c.step-step.ensures.says s.0 s.1 s.2) in
    ap is_out_of_range y.1.1 ∙ y.1.2

pub answer-requires-clause-known : goal.answer-requires-clause-known
answer-requires-clause-known g c =
    known_taken g.A.Answering.objects g.A.Answering.unwritten g.A.Answering.count g.A.Answering.answered c.args.answering.now c.args.reader.now.parser c.args.piece.now c.requires.follows c.requires.known c.step-step.new.self c.step-step.ensures.kept c.step-step.ensures.count c.step-step.result.0 c.step-step.result.1 c.step-step.new.reader.parser

pub answer_large-requires-clause-shows : goal.answer_large-requires-clause-shows
answer_large-requires-clause-shows g c =
    let s = c.requires.stands in
    let w = subst (λ t. Says (g.A.Answering.objects c.step-step.new.self) c.args.reader.now.parser s.0 s.1 c.args.piece.now t c.step-step.result.1 c.step-step.new.reader.parser) c.in-TooBig.is (c.step-step.ensures.says s.0 s.1 s.2) in
    (w.0, w.1.0, w.1.1)

pub answer_large-requires-clause-known : goal.answer_large-requires-clause-known
answer_large-requires-clause-known g c =
    known_taken g.A.Answering.objects g.A.Answering.unwritten g.A.Answering.count g.A.Answering.answered c.args.answering.now c.args.reader.now.parser c.args.piece.now c.requires.follows c.requires.known c.step-step.new.self c.step-step.ensures.kept c.step-step.ensures.count c.step-step.result.0 c.step-step.result.1 c.step-step.new.reader.parser

pub unreachable-requires : goal.unreachable-requires
unreachable-requires g c =
    let s = c.requires.stands in
    subst (λ t. Says (g.A.Answering.objects c.step-step.new.self) c.args.reader.now.parser s.0 s.1 c.args.piece.now t c.step-step.result.1 c.step-step.new.reader.parser) c.in-End.is (c.step-step.ensures.says s.0 s.1 s.2)

pub returns-in_ok-answer-in-Datum-clause-takes : goal.returns-in_ok-answer-in-Datum-clause-takes
returns-in_ok-answer-in-Datum-clause-takes g c =
    let k = c.step-step.ensures in
    let v = c.in_ok-answer-in-Datum.ensures in
    datum_taken g.A.Answering.objects g.A.Answering.unwritten g.A.Answering.count g.A.Answering.answered c.args.answering.now c.args.reader.now.parser c.args.piece.now c.requires.follows c.requires.known c.step-step.new.self k.kept k.count (steps.Datum c.in-Datum.x) c.step-step.result.1 c.step-step.new.reader.parser c.requires.stands c.answer.new.self
    (λ h given s. subst (λ t. Says (g.A.Answering.objects c.step-step.new.self) c.args.reader.now.parser h given c.args.piece.now t c.step-step.result.1 c.step-step.new.reader.parser) c.in-Datum.is (k.says h given s))
    (λ y h given. subst (λ x. Answers g.A.Answering.unwritten g.A.Answering.answered c.step-step.new.self given c.answer.new.self (given ++ x ∷ [])) h.1 (v.answers given))
    v.counted

pub returns-in_ok-answer-in-Datum-clause-expected : goal.returns-in_ok-answer-in-Datum-clause-expected
returns-in_ok-answer-in-Datum-clause-expected g c =
    let k = c.step-step.ensures in
    let v = c.in_ok-answer-in-Datum.ensures in
    taking_expected (datum_taken g.A.Answering.objects g.A.Answering.unwritten g.A.Answering.count g.A.Answering.answered c.args.answering.now c.args.reader.now.parser c.args.piece.now c.requires.follows c.requires.known c.step-step.new.self k.kept k.count (steps.Datum c.in-Datum.x) c.step-step.result.1 c.step-step.new.reader.parser c.requires.stands c.answer.new.self
    (λ h given s. subst (λ t. Says (g.A.Answering.objects c.step-step.new.self) c.args.reader.now.parser h given c.args.piece.now t c.step-step.result.1 c.step-step.new.reader.parser) c.in-Datum.is (k.says h given s))
    (λ y h given. subst (λ x. Answers g.A.Answering.unwritten g.A.Answering.answered c.step-step.new.self given c.answer.new.self (given ++ x ∷ [])) h.1 (v.answers given))
    v.counted).0

pub returns-in_err-answer-in-Datum-clause-expected : goal.returns-in_err-answer-in-Datum-clause-expected
returns-in_err-answer-in-Datum-clause-expected g c h given s =
    datum_expected g.A.Answering.objects g.A.Answering.unwritten g.A.Answering.count g.A.Answering.answered c.args.answering.now c.args.reader.now.parser c.args.piece.now c.requires.follows c.requires.known c.step-step.new.self c.step-step.ensures.kept c.step-step.ensures.count c.step-step.result.0 c.step-step.result.1 c.step-step.new.reader.parser h given s c.answer.new.self c.in_err-answer-in-Datum.ensures.kept

pub returns-in_ok-answer_large-in-TooBig-clause-takes : goal.returns-in_ok-answer_large-in-TooBig-clause-takes
returns-in_ok-answer_large-in-TooBig-clause-takes g c =
    let k = c.step-step.ensures in
    let v = c.in_ok-answer_large-in-TooBig.ensures in
    datum_taken g.A.Answering.objects g.A.Answering.unwritten g.A.Answering.count g.A.Answering.answered c.args.answering.now c.args.reader.now.parser c.args.piece.now c.requires.follows c.requires.known c.step-step.new.self k.kept k.count (steps.TooBig c.in-TooBig.word c.in-TooBig.label) c.step-step.result.1 c.step-step.new.reader.parser c.requires.stands c.answer_large.new.self
    (λ h given s. subst (λ t. Says (g.A.Answering.objects c.step-step.new.self) c.args.reader.now.parser h given c.args.piece.now t c.step-step.result.1 c.step-step.new.reader.parser) c.in-TooBig.is (k.says h given s))
    (λ y h given. v.answers y h.0 h.1 given)
    v.counted

pub returns-in_ok-answer_large-in-TooBig-clause-expected : goal.returns-in_ok-answer_large-in-TooBig-clause-expected
returns-in_ok-answer_large-in-TooBig-clause-expected g c =
    let k = c.step-step.ensures in
    let v = c.in_ok-answer_large-in-TooBig.ensures in
    taking_expected (datum_taken g.A.Answering.objects g.A.Answering.unwritten g.A.Answering.count g.A.Answering.answered c.args.answering.now c.args.reader.now.parser c.args.piece.now c.requires.follows c.requires.known c.step-step.new.self k.kept k.count (steps.TooBig c.in-TooBig.word c.in-TooBig.label) c.step-step.result.1 c.step-step.new.reader.parser c.requires.stands c.answer_large.new.self
    (λ h given s. subst (λ t. Says (g.A.Answering.objects c.step-step.new.self) c.args.reader.now.parser h given c.args.piece.now t c.step-step.result.1 c.step-step.new.reader.parser) c.in-TooBig.is (k.says h given s))
    (λ y h given. v.answers y h.0 h.1 given)
    v.counted).0

pub returns-in_err-answer_large-in-TooBig-clause-expected : goal.returns-in_err-answer_large-in-TooBig-clause-expected
returns-in_err-answer_large-in-TooBig-clause-expected g c h given s =
    datum_expected g.A.Answering.objects g.A.Answering.unwritten g.A.Answering.count g.A.Answering.answered c.args.answering.now c.args.reader.now.parser c.args.piece.now c.requires.follows c.requires.known c.step-step.new.self c.step-step.ensures.kept c.step-step.ensures.count c.step-step.result.0 c.step-step.result.1 c.step-step.new.reader.parser h given s c.answer_large.new.self c.in_err-answer_large-in-TooBig.ensures.kept

pub returns-in-More-clause-takes : goal.returns-in-More-clause-takes
returns-in-More-clause-takes g c =
    let k = c.step-step.ensures in
    rest_taken g.A.Answering.objects g.A.Answering.unwritten g.A.Answering.count g.A.Answering.answered c.args.answering.now c.args.reader.now.parser c.args.piece.now c.requires.follows c.requires.known c.step-step.new.self k.kept k.count steps.More c.step-step.result.1 c.step-step.new.reader.parser c.requires.stands c.requires.some
    (λ h given s. subst (λ t. Says (g.A.Answering.objects c.step-step.new.self) c.args.reader.now.parser h given c.args.piece.now t c.step-step.result.1 c.step-step.new.reader.parser) c.in-More.is (k.says h given s))

pub returns-in-More-clause-expected : goal.returns-in-More-clause-expected
returns-in-More-clause-expected g c h given s =
    datum_expected g.A.Answering.objects g.A.Answering.unwritten g.A.Answering.count g.A.Answering.answered c.args.answering.now c.args.reader.now.parser c.args.piece.now c.requires.follows c.requires.known c.step-step.new.self c.step-step.ensures.kept c.step-step.ensures.count c.step-step.result.0 c.step-step.result.1 c.step-step.new.reader.parser h given s c.step-step.new.self refl

pub returns-in-Syntax-clause-takes : goal.returns-in-Syntax-clause-takes
returns-in-Syntax-clause-takes g c =
    let k = c.step-step.ensures in
    fault_taken g.A.Answering.objects g.A.Answering.unwritten g.A.Answering.count g.A.Answering.answered c.args.answering.now c.args.reader.now.parser c.args.piece.now c.requires.follows c.requires.known c.step-step.new.self k.kept k.count (steps.Syntax c.in-Syntax.kind c.in-Syntax.offset) c.step-step.result.1 c.step-step.new.reader.parser c.in-Syntax.kind c.in-Syntax.offset
    (λ h given s. subst (λ t. Says (g.A.Answering.objects c.step-step.new.self) c.args.reader.now.parser h given c.args.piece.now t c.step-step.result.1 c.step-step.new.reader.parser) c.in-Syntax.is (k.says h given s))

pub returns-in-Syntax-clause-expected : goal.returns-in-Syntax-clause-expected
returns-in-Syntax-clause-expected g c h given s =
    datum_expected g.A.Answering.objects g.A.Answering.unwritten g.A.Answering.count g.A.Answering.answered c.args.answering.now c.args.reader.now.parser c.args.piece.now c.requires.follows c.requires.known c.step-step.new.self c.step-step.ensures.kept c.step-step.ensures.count c.step-step.result.0 c.step-step.result.1 c.step-step.new.reader.parser h given s c.step-step.new.self refl

pub returns-in-Memory-clause-expected : goal.returns-in-Memory-clause-expected
returns-in-Memory-clause-expected g c h given s =
    datum_expected g.A.Answering.objects g.A.Answering.unwritten g.A.Answering.count g.A.Answering.answered c.args.answering.now c.args.reader.now.parser c.args.piece.now c.requires.follows c.requires.known c.step-step.new.self c.step-step.ensures.kept c.step-step.ensures.count c.step-step.result.0 c.step-step.result.1 c.step-step.new.reader.parser h given s c.step-step.new.self refl
