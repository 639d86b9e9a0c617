-- Each datum that the end of the book completes, and the end.
use Rattle.std.proofs.Common.{[], ◌∷◌, ◌++◌, ◌∙◌, true, true≢false, refl, sym, ap, subst, inl, inr}
use Rattle.mw_model.specs.Events.Fate.{is_out_of_range}
use Rattle.mw_read.specs.Feeding.{Continues}
use Rattle.mw_read.specs.declared.step.Step.TheVariants as steps
use Rattle.mw_answers.specs.Answering.{Answers}
use Rattle.mw_answers.proofs.Taken.{Finishing, finishing_none, standing_last, known_last, finishing_more, finishing_next, finishing_expected, finished_whole, finished_fault}
use Rattle.mw_answers.proofs.reading.finish.Goals as goal

pub loop-x-init : goal.loop-x-init
loop-x-init g c =
    subst (Finishing g.A.Answering.objects g.A.Answering.unwritten g.A.Answering.count g.A.Answering.answered c.args.answering.now c.args.reader.now.parser c.args.answering.now) (sym c.finish.ensures.finished)
    (finishing_none c.args.answering.now (record c.args.reader.now { finished = true }) c.requires.awaits.0 refl c.requires.known)

pub next-requires : goal.next-requires
next-requires g c = record {
  ready = inl (
    standing_last c.loop-x.invariant c.requires.stands,
    inr (c.loop-x.invariant.all_read, c.loop-x.invariant.finished),
  );
}

pub answer-requires-clause-within : goal.answer-requires-clause-within
answer-requires-clause-within g c =
    let s = standing_last c.loop-x.invariant c.requires.stands in
    (subst (λ t. Continues (g.A.Answering.objects c.next.new.self) c.loop-x.reader s.0 s.1 t c.next.new.reader) c.in-Datum.is (c.next.ensures.continues s.0 s.1 s.2)).1.0

pub answer-requires-clause-in_range : goal.answer-requires-clause-in_range
answer-requires-clause-in_range g c =
    let s = standing_last c.loop-x.invariant c.requires.stands in
    let y = subst (λ t. Continues (g.A.Answering.objects c.next.new.self) c.loop-x.reader s.0 s.1 t c.next.new.reader) c.in-Datum.is (c.next.ensures.continues s.0 s.1 s.2) in
    ap is_out_of_range y.1.1 ∙ y.1.2

pub answer-requires-clause-known : goal.answer-requires-clause-known
answer-requires-clause-known g c = known_last c.loop-x.invariant c.next.new.self c.next.ensures.kept c.next.ensures.count (steps.Datum c.in-Datum.x) c.next.new.reader

pub answer_large-requires-clause-shows : goal.answer_large-requires-clause-shows
answer_large-requires-clause-shows g c =
    let s = standing_last c.loop-x.invariant c.requires.stands in
    let v = subst (λ t. Continues (g.A.Answering.objects c.next.new.self) c.loop-x.reader s.0 s.1 t c.next.new.reader) c.in-TooBig.is (c.next.ensures.continues s.0 s.1 s.2) in
    (v.0, v.1.0, v.1.1)

pub answer_large-requires-clause-known : goal.answer_large-requires-clause-known
answer_large-requires-clause-known g c = known_last c.loop-x.invariant c.next.new.self c.next.ensures.kept c.next.ensures.count (steps.TooBig c.in-TooBig.word c.in-TooBig.label) c.next.new.reader

pub unreachable-requires : goal.unreachable-requires
unreachable-requires g c =
    let s = standing_last c.loop-x.invariant c.requires.stands in
    true≢false (sym c.loop-x.invariant.finished ∙ (subst (λ t. Continues (g.A.Answering.objects c.next.new.self) c.loop-x.reader s.0 s.1 t c.next.new.reader) c.in-More.is (c.next.ensures.continues s.0 s.1 s.2)).0)

pub loop-x-smaller-in-Continue-1 : goal.loop-x-smaller-in-Continue-1
loop-x-smaller-in-Continue-1 g c =
    let k = c.next.ensures in
    finishing_next c.loop-x.invariant c.next.new.self k.kept k.count (steps.Datum c.in-Datum.x) c.next.new.reader c.requires.stands
    (λ h given s. subst (λ t. Continues (g.A.Answering.objects c.next.new.self) c.loop-x.reader h given t c.next.new.reader) c.in-Datum.is (k.continues h given s))

pub loop-x-preserved-in-Continue-1 : goal.loop-x-preserved-in-Continue-1
loop-x-preserved-in-Continue-1 g c =
    let k = c.next.ensures in
    let new = c.answer.new.self in
    let v = c.in_ok-answer-in-Datum.ensures in
    finishing_more c.loop-x.invariant c.next.new.self k.kept k.count (steps.Datum c.in-Datum.x) c.next.new.reader c.requires.stands new
    (λ h given s. subst (λ t. Continues (g.A.Answering.objects c.next.new.self) c.loop-x.reader h given t c.next.new.reader) c.in-Datum.is (k.continues h given s))
    (λ y h given. subst (λ x. Answers g.A.Answering.unwritten g.A.Answering.answered c.next.new.self given new (given ++ x ∷ [])) h.1 (v.answers given))
    v.counted

pub loop-x-smaller : goal.loop-x-smaller
loop-x-smaller g c =
    let k = c.next.ensures in
    finishing_next c.loop-x.invariant c.next.new.self k.kept k.count (steps.TooBig c.in-TooBig.word c.in-TooBig.label) c.next.new.reader c.requires.stands
    (λ h given s. subst (λ t. Continues (g.A.Answering.objects c.next.new.self) c.loop-x.reader h given t c.next.new.reader) c.in-TooBig.is (k.continues h given s))

pub loop-x-preserved : goal.loop-x-preserved
loop-x-preserved g c =
    let k = c.next.ensures in
    let v = c.in_ok-answer_large-in-TooBig.ensures in
    finishing_more c.loop-x.invariant c.next.new.self k.kept k.count (steps.TooBig c.in-TooBig.word c.in-TooBig.label) c.next.new.reader c.requires.stands c.answer_large.new.self
    (λ h given s. subst (λ t. Continues (g.A.Answering.objects c.next.new.self) c.loop-x.reader h given t c.next.new.reader) c.in-TooBig.is (k.continues h given s))
    (λ y h given. v.answers y h.0 h.1 given)
    v.counted

pub returns-in-End-clause-ends : goal.returns-in-End-clause-ends
returns-in-End-clause-ends g c =
    let k = c.next.ensures in
    finished_whole c.loop-x.invariant c.next.new.self k.kept k.count steps.End c.next.new.reader
    (λ h given s. subst (λ t. Continues (g.A.Answering.objects c.next.new.self) c.loop-x.reader h given t c.next.new.reader) c.in-End.is (k.continues h given s))

pub returns-in-End-clause-expected : goal.returns-in-End-clause-expected
returns-in-End-clause-expected g c h given s = finishing_expected c.loop-x.invariant c.next.new.self c.next.ensures.kept c.next.ensures.count steps.End c.next.new.reader h given s c.next.new.self refl

pub returns-in-Syntax-clause-ends : goal.returns-in-Syntax-clause-ends
returns-in-Syntax-clause-ends g c =
    let k = c.next.ensures in
    finished_fault c.loop-x.invariant c.next.new.self k.kept k.count (steps.Syntax c.in-Syntax.kind c.in-Syntax.offset) c.next.new.reader c.in-Syntax.kind c.in-Syntax.offset
    (λ h given s. subst (λ t. Continues (g.A.Answering.objects c.next.new.self) c.loop-x.reader h given t c.next.new.reader) c.in-Syntax.is (k.continues h given s))

pub returns-in-Syntax-clause-expected : goal.returns-in-Syntax-clause-expected
returns-in-Syntax-clause-expected g c h given s = finishing_expected c.loop-x.invariant c.next.new.self c.next.ensures.kept c.next.ensures.count (steps.Syntax c.in-Syntax.kind c.in-Syntax.offset) c.next.new.reader h given s c.next.new.self refl

pub returns-in-Memory-clause-expected : goal.returns-in-Memory-clause-expected
returns-in-Memory-clause-expected g c h given s = finishing_expected c.loop-x.invariant c.next.new.self c.next.ensures.kept c.next.ensures.count steps.Memory c.next.new.reader h given s c.next.new.self refl

pub returns-in_err-answer-in-Datum-clause-expected : goal.returns-in_err-answer-in-Datum-clause-expected
returns-in_err-answer-in-Datum-clause-expected g c h given s = finishing_expected c.loop-x.invariant c.next.new.self c.next.ensures.kept c.next.ensures.count (steps.Datum c.in-Datum.x) c.next.new.reader h given s c.answer.new.self c.in_err-answer-in-Datum.ensures.kept

pub returns-in_err-answer_large-in-TooBig-clause-expected : goal.returns-in_err-answer_large-in-TooBig-clause-expected
returns-in_err-answer_large-in-TooBig-clause-expected g c h given s =
    finishing_expected c.loop-x.invariant c.next.new.self c.next.ensures.kept c.next.ensures.count (steps.TooBig c.in-TooBig.word c.in-TooBig.label) c.next.new.reader h given s c.answer_large.new.self c.in_err-answer_large-in-TooBig.ensures.kept
