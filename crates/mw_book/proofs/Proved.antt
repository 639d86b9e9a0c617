-- Where the proving of formulas stands, as its heap grows and is cut.
use Rattle.std.proofs.Common.{◌≡◌, ℕ, ◌≤◌, List, ◌++◌, inl, inr, length, take, Option, Some, None, sym, ap, ◌∙◌, subst, arith}
use Rattle.std.proofs.lemmas.Bool.{cases_lt}
use Rattle.std.proofs.lemmas.List.{length-take-le, take_all}
use Rattle.mw_model.specs.Terms.Object.{Object}
use Rattle.mw_model.specs.Terms.Term.{ArityTable}
use Rattle.mw_model.specs.Values.Primitive.{is_symbol}
use Rattle.mw_model.specs.Reports.Report.{symbol_text}
use Rattle.mw_model.specs.Reports.Request.{Request, Taut}
use Rattle.mw_heap.specs.Contents.{Contents}
use Rattle.mw_heap.specs.Objects.{Grows}
use Rattle.mw_heap.proofs.Objects.{length-Grows, IsIn-Grows, object_at-Grows}
use Rattle.mw_term.proofs.CallerLemmas.{AreMarks-take, AreMarks-cut}
use Rattle.mw_term.specs.Marking.{ObjectMark, AreMarks}
use Rattle.mw_book.specs.Answered.{Answered, IsProving, ProvedFor, ShowsWord}
use Rattle.mw_answers.specs.Answering.{HasAnswered}
use Rattle.mw_answers.specs.Statuses.{AreAnswers}
use Rattle.mw_answers.specs.Writing.{Puts}
use Rattle.mw_book.proofs.AnsweredBy.{writes_by}
use Rattle.mw_book.specs.declared.taut.Proving.{Proving}

pub known_proving : (p : Proving) (k : Contents) → HasAnswered (ProvedFor p) k → IsProving p k
known_proving p k h = h.2.2.0

-- from one state to another
pub proved_by : (old new : Proving) (k l : Contents) (given more : List Object) (piece : List ℕ) →
    (IsProving old k → Answered old given → IsProving new l × Answered new more) →
    (IsProving old k → Answered old given → (written : List ℕ) → AreAnswers Taut given written → AreAnswers Taut more (written ++ piece)) →
    Puts ProvedFor old k given new l more piece
proved_by old new k l given more piece f g =
    writes_by {P = Unit {0}} (λ u. Taut) {A = Proving × Contents} (λ a u xs. IsProving a.0 a.1 × Answered a.0 xs) (old, k) (new, l) given more piece (λ u h. f h.0 h.1) (λ u h. g h.0 h.1)

-- more was made, and perhaps marked
pub proving_marked : (old : Proving) (k l : Contents) (marks : List ObjectMark) → Grows k.objects l.objects → AreMarks old.arity l.objects marks → IsProving old k → IsProving (record old { marks = marks }) l
proving_marked old k l marks g m h = record {
  kept = (let n = length-Grows k.objects l.objects g in let e : old.kept ≤ length l.objects = omega (arith, h.kept, n) in e);
  arity = h.arity;
  marked = m;
  few = h.few;
}

-- more was made and marked, and then a datum was answered
pub puts_after : (old new : Proving) (k l m : Contents) (marks : List ObjectMark) (given more : List Object) (piece : List ℕ) → Grows k.objects l.objects → AreMarks old.arity l.objects marks →
    Puts ProvedFor (record old { marks = marks }) l given new m more piece → Puts ProvedFor old k given new m more piece
puts_after old new k l m marks given more piece g marked w = record {
  known = λ q h. w.known q (before q h);
  expected = λ q h. w.expected q (before q h);
}
  where
    before : (q : Request) → ProvedFor old k q given → ProvedFor (record old { marks = marks }) l q given
    before q h = (h.0, h.1, (proving_marked old k l marks g marked h.2.0, record { counted = h.2.1.counted; unproved_counted = h.2.1.unproved_counted }))

pub shows_grows : (old new : List Object) → Grows old new → (word : Option ℕ) (x : Object) → ShowsWord old word x → ShowsWord new word x
shows_grows old new g None x h = h
shows_grows old new g (Some r) x h =
    let same = object_at-Grows old new g r h.0.0 in
    ((IsIn-Grows old new g r h.0.0, ap is_symbol same ∙ h.0.1), ap symbol_text same ∙ h.1)

pub marks_cut : (A : ArityTable) (os : List Object) (ms : List ObjectMark) (n : ℕ) → n ≤ length os → AreMarks A os ms → AreMarks A (take n os) (take n ms)
marks_cut A os ms n l h = elim (cases_lt n (length ms)) [
  | inl k ↦ AreMarks-cut A os (take n ms) n (let e : length (take n ms) ≤ n = omega (arith, length-take-le n ms (let i : n ≤ length ms = omega (arith, k) in i)) in e) l (AreMarks-take A os ms n h (let i : n ≤ length ms = omega (arith, k) in i))
  | inr k ↦ subst (AreMarks A (take n os)) (sym (take_all n ms k)) (AreMarks-cut A os ms n k l h)
]

-- what was made for a datum was forgotten
pub proving_cut : (old new : Proving) (k l : Contents) → IsProving old k → new.kept ≡ old.kept → new.arity ≡ old.arity → l.objects ≡ take old.kept k.objects → new.marks ≡ take old.kept old.marks → new.unproved ≤ new.formulas → IsProving new l
proving_cut old new k l h kept a e m few = record {
  kept = (let s = length-take-le old.kept k.objects h.kept in let n = ap (λ os. length os) e in let i : new.kept ≤ length l.objects = omega (arith, s, n, kept) in i);
  arity = a ∙ h.arity;
  marked = subst (λ A. AreMarks A l.objects new.marks) (sym a) (subst (λ os. AreMarks old.arity os new.marks) (sym e) (subst (AreMarks old.arity (take old.kept k.objects)) (sym m) (marks_cut old.arity k.objects old.marks old.kept h.kept h.marked)));
  few = few;
}
