-- The piece that is owed for each verdict.
use Rattle.std.proofs.Common.{◌≡◌, ℕ, List, [], ◌∷◌, ◌++◌, codes, append_assoc, ap, ◌∙◌, subst}
use Rattle.std.proofs.lemmas.Result.{on_ok_weaker}
use Rattle.mw_model.specs.Terms.Object.{Object}
use Rattle.mw_model.specs.Texts.Printing.{numeral}
use Rattle.mw_model.specs.Reports.Report.{spaced, word_text}
use Rattle.mw_model.specs.Texts.Written.{IsWritten}
use Rattle.mw_commands.specs.Commands.TautologyBook.{remark}
use Rattle.mw_taut.specs.Verdicts.{IsVerdict}
use Rattle.mw_taut.proofs.Verdicts.{owes_shape, owes_many, owes_choice, owes_theorem}
use Rattle.mw_taut.proofs.answer.write_answer.Goals as goal

reason_line : (old number word reason : List ℕ) → old ++ (codes "; " ++ (number ++ 32 ∷ (word ++ 32 ∷ (reason ++ 10 ∷ [])))) ≡ old ++ (codes "; " ++ (spaced number (spaced word reason) ++ 10 ∷ []))
reason_line old number word reason = simp append_assoc

choice_line : (old number word text : List ℕ) → (old ++ (codes "; " ++ (number ++ 32 ∷ (word ++ 32 ∷ codes "FALSE ")))) ++ (text ++ 10 ∷ []) ≡ old ++ (codes "; " ++ (number ++ 32 ∷ (word ++ 32 ∷ (spaced (codes "FALSE") text ++ 10 ∷ []))))
choice_line old number word text = simp append_assoc

-- the word is that of the datum
remarked : (k : ℕ) (x : Object) (old word reason : List ℕ) → word ≡ word_text x → old ++ (codes "; " ++ (numeral k ++ 32 ∷ (word ++ 32 ∷ (reason ++ 10 ∷ [])))) ≡ old ++ remark k x reason
remarked k x old word reason shows = reason_line old (numeral k) word reason ∙ ap (λ word. old ++ (codes "; " ++ (spaced (numeral k) (spaced word reason) ++ 10 ∷ []))) shows

pub returns-in-Shape : goal.returns-in-Shape
returns-in-Shape c =
    let k = c.args.number in
    on_ok_weaker c.write_reason.result (λ e x shows found.
    (remark k x (codes "SHAPE"), e ∙ remarked k x _ _ (codes "SHAPE") shows, owes_shape k x (subst (IsVerdict c.args.heap.now.objects x) c.in-Shape.is found))) c.write_reason.ensures

pub returns-in-Many : goal.returns-in-Many
returns-in-Many c =
    let k = c.args.number in
    on_ok_weaker c.write_reason-in-Many.result (λ e x shows found.
    let v = subst (IsVerdict c.args.heap.now.objects x) c.in-Many.is found in
    (remark k x (codes "MANY"), e ∙ remarked k x _ _ (codes "MANY") shows, owes_many k x v.0 v.1 v.2)) c.write_reason-in-Many.ensures

pub returns-in_ok-write_reason-in-Fails : goal.returns-in_ok-write_reason-in-Fails
returns-in_ok-write_reason-in-Fails c =
    let k = c.args.number in
    let old = c.args.lines.now.items in
    let word = c.args.word.now in
    on_ok_weaker c.write_line.result (λ w x shows found.
    let v = subst (IsVerdict c.args.heap.now.objects x) c.in-Fails.is found in
    let reason = spaced (codes "FALSE") w.0 in
    let line = w.3 ∙ (ap (λ l. l ++ (w.0 ++ 10 ∷ [])) c.in_ok-write_reason-in-Fails.ensures ∙ (choice_line old (numeral k) word w.0 ∙ remarked k x old word reason shows)) in
    (remark k x reason, line, owes_choice k x v.0 v.1 v.2 v.3 w.0 w.1 (subst (λ y. IsWritten y 1 w.0 w.1) v.5 w.2))) c.write_line.ensures

pub returns-in-Theorem : goal.returns-in-Theorem
returns-in-Theorem c =
    on_ok_weaker c.write_line-in-Theorem.result (λ w x shows found.
    let v = subst (IsVerdict c.args.heap.now.objects x) c.in-Theorem.is found in
    (w.0 ++ 10 ∷ [], w.3, owes_theorem c.args.number x v.0 v.1 v.2 v.3 v.4 w.0 w.1 (subst (λ y. IsWritten y 1 w.0 w.1) v.6 w.2))) c.write_line-in-Theorem.ensures
