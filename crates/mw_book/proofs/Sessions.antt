-- What a session has answered and not yet written.
use Rattle.std.proofs.Common.{◌≡◌, ℕ, List, ◌++◌, sym, ap, ◌∙◌, subst, append_assoc}
use Rattle.mw_model.specs.Terms.Object.{Object}
use Rattle.mw_model.specs.Reports.Request.{Request}
use Rattle.mw_answers.specs.Answering.{Answers}
use Rattle.mw_answers.specs.Statuses.{AreAnswers}
use Rattle.mw_answers.specs.Writing.{Writes}

-- The piece of a datum was put after the lines; state is what was answered of a session.
pub answers_with : {A B : Type 0} (lines : A → List ℕ) (state : A → B) (answered : B → Request → List Object → Type 0) (old new : A) (given more : List Object) (piece : List ℕ) →
    Writes answered (state old) given (state new) more piece → lines new ≡ lines old ++ piece → Answers lines (λ a. answered (state a)) old given new more
answers_with lines state answered old new given more piece w line = record {
  known = w.known;
  expected = λ q h written expected. subst (AreAnswers q more) (append_assoc written (lines old) piece ∙ ap (λ l. written ++ l) (sym line)) (w.expected q h (written ++ lines old) expected);
}
