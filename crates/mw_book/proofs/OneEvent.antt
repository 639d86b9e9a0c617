-- One event more of a course: the theory after it, how many are refused, and the pieces. And the last line on a course.
use Rattle.std.proofs.Common.{◌≡◌, ℕ, suc, ◌+◌, ◌-◌, ◌≤◌, Bool, true, false, not, cond, List, [], ◌∷◌, ◌++◌, length, codes, refl, sym, ap, ◌∙◌, subst, arith, append_assoc, append-nil}
use Rattle.mw_model.specs.Terms.Object.{Object}
use Rattle.mw_model.specs.Values.Primitive.{One}
use Rattle.mw_model.specs.Events.Theory.{Theory, initial}
use Rattle.mw_model.specs.Events.Refusal.{Refusal, Fate, Refused}
use Rattle.mw_model.specs.Events.Fate.{fate, next}
use Rattle.mw_model.specs.Reports.Request.{Request}
use Rattle.mw_model.specs.Texts.Printing.{numeral}
use Rattle.mw_model.specs.Reports.Report.{fate_text, line, is_accepted, spaced}
use Rattle.mw_model.specs.Texts.Pieces.{InOrder, how_many}
use Rattle.mw_commands.specs.Commands.Transition.{Transition, Effect, course, last_theory, is_acceptance}
use Rattle.mw_commands.specs.Commands.Lowering.{refused_in, course_summary}
use Rattle.mw_kernel.specs.Knowledge.{Knowledge, theory_of}
use Rattle.mw_book.specs.Lines.{line_begun, summary_of}
use Rattle.mw_answers.specs.Statuses.{AreAnswers}
use Rattle.mw_answers.specs.Effects.{plain}
use Rattle.mw_book.specs.Judged.{Tells}
use Rattle.mw_answers.proofs.CallerLemmas.{event_after, course_more, last-append, length-course, in_order_both, how_many-append}
use Rattle.mw_book.proofs.OneMore.{line-parts}

turned : (b : Bool) → ◌≡◌ {A = ℕ} (cond b 0 1) (cond (not b) 1 0)
turned true = refl
turned false = refl

module _ (effect : Effect) (given : List Object) (y : Object) where
  pub theory_more : (t : Theory) → t ≡ (event_after effect given y).next → t ≡ last_theory (course effect (given ++ y ∷ []))
  theory_more t goes = goes ∙ sym (last-append (initial One) (course effect given) (event_after effect given y)) ∙ ap last_theory (sym (course_more effect given y))

  pub refused_more : (f : Fate) (old new : ℕ) → f ≡ (event_after effect given y).fate → old ≡ refused_in (course effect given) → new ≡ old + cond (is_accepted f) 0 1 → new ≡ refused_in (course effect (given ++ y ∷ []))
  refused_more f old new comes before counted =
      let ss = course effect given in
      let s = event_after effect given y in
      counted
      ∙ ap (λ n. n + cond (is_accepted f) 0 1) before
      ∙ ap (λ g. refused_in ss + cond (is_accepted g) 0 1) comes
      ∙ ap (λ n. refused_in ss + n) (turned (is_acceptance s))
      ∙ sym (how_many-append (λ r. not (is_acceptance r)) ss s)
      ∙ ap refused_in (sym (course_more effect given y))

  pub pieces_more : (Owes : Transition → List ℕ → Type 0) (text piece : List ℕ) → InOrder Owes (course effect given) text → Owes (event_after effect given y) piece → InOrder Owes (course effect (given ++ y ∷ [])) (text ++ piece)
  pieces_more Owes text piece expected owed =
      subst (λ l. InOrder Owes l (text ++ piece)) (sym (course_more effect given y))
      (in_order_both Owes (course effect given) (event_after effect given y ∷ []) text piece expected (piece, [], sym (append-nil piece), owed, refl))

-- the comment on an event that is refused
pub refused_text : (r : Refusal) (s : Transition) (remark : List ℕ) → remark ≡ codes "; " ++ line_begun s.number s.event → remark ++ (fate_text (Refused r) ++ 10 ∷ []) ≡ codes "; " ++ line s.number s.event (Refused r)
refused_text r s remark begun =
    ap (λ u. u ++ (fate_text (Refused r) ++ 10 ∷ [])) begun
    ∙ append_assoc (codes "; ") (line_begun s.number s.event) (fate_text (Refused r) ++ 10 ∷ [])
    ∙ ap (λ u. codes "; " ++ u) (line-parts s.number s.event (Refused r))

-- The theory's own checker judged the event: only the answers are left to be shown.
pub tells_plain : (request : ℕ → Request) (k l : Knowledge) (number : ℕ) (y : Object) (f : Fate) (piece : List ℕ) →
    f ≡ fate (theory_of k) y k.steps →
    theory_of l ≡ next (theory_of k) y k.steps →
    l.steps ≡ k.steps →
    ((N : ℕ) (given : List Object) → theory_of k ≡ last_theory (course (plain N) given) → k.steps ≡ N → number ≡ 1 + length given → f ≡ (event_after (plain N) given y).fate → (written : List ℕ) → AreAnswers (request N) given written → AreAnswers (request N) (given ++ y ∷ []) (written ++ piece)) →
    Tells request plain k number y f l piece
tells_plain request k l number y f piece comes goes kept expected N given stands steps count =
    let s = event_after (plain N) given y in
    let fate_is : f ≡ s.fate = comes ∙ ap (λ t. fate t y k.steps) stands ∙ ap (λ n. fate s.before y n) steps in
    record {
      fate = fate_is;
      theory = goes ∙ ap (λ t. next t y k.steps) stands ∙ ap (λ n. next s.before y n) steps;
      steps = kept ∙ steps;
      expected = expected N given stands steps count fate_is;
    }

-- ---- the last line

abbrev text_with : (events accepted refused level : ℕ) → List ℕ
text_with e a r l =
    spaced (codes "events") (spaced (numeral e) (spaced (codes "accepted") (spaced (numeral a) (spaced (codes "refused") (spaced (numeral r) (spaced (codes "level") (numeral l))))))) ++ 10 ∷ []

pub same_text : (e a r l e' a' r' l' : ℕ) → e ≡ e' → a ≡ a' → r ≡ r' → l ≡ l' → text_with e a r l ≡ text_with e' a' r' l'
same_text e a r l e' a' r' l' p q s u =
    ap (λ x. text_with x a r l) p ∙ ap (λ x. text_with e' x r l) q ∙ ap (λ x. text_with e' a' x l) s ∙ ap (λ x. text_with e' a' r' x) u

course_counts : (ss : List Transition) → how_many is_acceptance ss + refused_in ss ≡ length ss
course_counts [] = refl
course_counts (s ∷ ss) = go (is_acceptance s) (course_counts ss)
  where
    go : (b : Bool) → how_many is_acceptance ss + refused_in ss ≡ length ss → (cond b 1 0 + how_many is_acceptance ss) + (cond (not b) 1 0 + refused_in ss) ≡ suc (length ss)
    go true h = omega (arith, h)
    go false h = omega (arith, h)

-- the numbers count these events of a course, and those of them that are refused
module _ (effect : Effect) (given : List Object) (events refused : ℕ) (counted : events ≡ length given) (refused_counted : refused ≡ refused_in (course effect given)) where
  many : events ≡ length (course effect given)
  many = counted ∙ sym (length-course effect 1 (initial One) given)

  pub course_summary_is : (level : ℕ) → level ≡ (last_theory (course effect given)).level → summary_of events refused level ≡ course_summary (course effect given) ++ 10 ∷ []
  course_summary_is level at =
      let ss = course effect given in
      same_text events (events - refused) refused level (length ss) (how_many is_acceptance ss) (refused_in ss) (last_theory ss).level many
      (let a : events - refused ≡ how_many is_acceptance ss = omega (arith, many, refused_counted, course_counts ss) in a)
      refused_counted at

  -- no more are refused than were judged
  pub refused_few : refused ≤ events
  refused_few = omega (arith, course_counts (course effect given), many, refused_counted)
