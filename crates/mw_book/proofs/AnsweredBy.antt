-- What follows for each request from what holds for those that are made.
use Rattle.std.proofs.Common.{◌≡◌, ℕ, Bool, nat_lt, List, ◌++◌, Option, sym, subst}
use Rattle.mw_model.specs.Terms.Object.{Object}
use Rattle.mw_model.specs.Texts.Lexemes.{Fault}
use Rattle.mw_model.specs.Reports.Request.{Request}
use Rattle.mw_answers.specs.Answering.{AnsweredBy}
use Rattle.mw_answers.specs.Writing.{Writes}
use Rattle.mw_answers.specs.Statuses.{AreAnswers}
use Rattle.mw_answers.specs.LastTexts.{IsLastText, refused_for}

module _ {P : Type 0} (make : P → Request) where
  -- from one state to another
  pub writes_by : {A : Type 0} (holds : A → P → List Object → Type 0) (old new : A) (given more : List Object) (text : List ℕ) →
      ((p : P) → holds old p given → holds new p more) →
      ((p : P) → holds old p given → (written : List ℕ) → AreAnswers (make p) given written → AreAnswers (make p) more (written ++ text)) →
      Writes (λ a. AnsweredBy make (holds a)) old given new more text
  writes_by holds old new given more text f g = record {
    known = λ q h. (h.0, h.1, f h.0 h.2);
    expected = λ q h w a. subst (λ r. AreAnswers r more (w ++ text)) (sym h.1) (g h.0 h.2 w (subst (λ r. AreAnswers r given w) h.1 a));
  }

  module _ (holds : P → List Object → Type 0) (q : Request) (given : List Object) (h : AnsweredBy make holds q given) where
    pub last_by : (fault : Option Fault) (text : List ℕ) → ((p : P) → holds p given → IsLastText (make p) given fault text) → IsLastText q given fault text
    last_by fault text f = subst (λ r. IsLastText r given fault text) (sym h.1) (f h.0 h.2)

    pub refused_by : (n : ℕ) → ((p : P) → holds p given → n ≡ refused_for (make p) given) → n ≡ refused_for q given
    refused_by n f = subst (λ r. n ≡ refused_for r given) (sym h.1) (f h.0 h.2)

    pub some_refused_by : (b : Bool) → ((p : P) → holds p given → b ≡ nat_lt 0 (refused_for (make p) given)) → b ≡ nat_lt 0 (refused_for q given)
    some_refused_by b f = subst (λ r. b ≡ nat_lt 0 (refused_for r given)) (sym h.1) (f h.0 h.2)
