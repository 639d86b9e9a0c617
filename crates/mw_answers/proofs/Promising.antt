-- Whatever was answered first, the answers can go on to the end of the book.
use Rattle.std.proofs.Common.{◌≡◌, ℕ, suc, ◌+◌, ◌≤◌, true, not, List, [], ◌∷◌, ◌++◌, length, map, Some, None, Option, codes, refl, sym, ap, ap₂, ◌∙◌, subst, append_assoc, append-nil}
use Rattle.mw_model.specs.Terms.Object.{Object, symbol, car, second_of, list4}
use Rattle.mw_model.specs.Terms.Term.{ArityTable, Formula, is_formula}
use Rattle.mw_model.specs.Terms.Reading.{formula_of, formula_under, when, that}
use Rattle.mw_model.specs.Values.Primitive.{One, is_symbol}
use Rattle.mw_model.specs.Events.Fate.{is_out_of_range}
use Rattle.mw_model.specs.Terms.Object.{has_members}
use Rattle.mw_model.specs.Reports.Request.{Request, Check, Trial, Taut, Lower, Slice, Flat, Recheck, Explain, Help, Usage}
use Rattle.mw_model.specs.Texts.Grammar.{Book, book, limit, trees}
use Rattle.mw_model.specs.Events.Theory.{initial}
use Rattle.mw_model.specs.Reports.Report.{spaced, lines, last_line, report, report_of, status_of}
use Rattle.mw_model.specs.Reports.Headline.{Headline}
use Rattle.mw_model.specs.Texts.Pieces.{InOrder, numbered, how_many, comment_ending, ending}
use Rattle.mw_model.specs.Values.Truth.{Each}
use Rattle.mw_model.specs.Events.Fate.{after}
use Rattle.mw_model.specs.Events.Demand.{happens_under}
use Rattle.mw_model.proofs.ReadBack.{when_some}
use Rattle.mw_reflect.specs.Laws.{EventsKeep}
use Rattle.mw_answers.specs.Statuses.{AreAnswers}
use Rattle.mw_answers.specs.LastTexts.{IsLastText, refused_for}
use Rattle.mw_model.proofs.LinesGrow.{lines_first}
use Rattle.mw_commands.specs.Commands.Tautology.{Decision, Many, FailsUnder, Holds, decision, choice_object}
use Rattle.mw_commands.specs.Commands.TautologyBook.{IsPureProof, OwesDecided, OwesGiven, OwesTautology, TautologiesWritten, formula_given, initial_arities, is_proved, remark, tautology_summary}
use Rattle.mw_commands.specs.Commands.Slice.{target}
use Rattle.mw_commands.specs.Commands.Slicing.{accepted_events, SliceWritten}
use Rattle.mw_commands.specs.Commands.Flattening.{OwesFlat, FlatWritten, before_switch, flat_event, flat_events, flat_summary, plain_course}
use Rattle.mw_commands.specs.Commands.LogReport.{log_lines, log_of, log_summary}
use Rattle.mw_commands.specs.Commands.DerivationTest.{derived_as}
use Rattle.mw_commands.specs.Commands.Transition.{Transition, course_from, last_theory, last_theory_from, is_acceptance}
use Rattle.mw_commands.specs.Commands.Lowering.{OwesLowered, LoweredWritten, course_summary, derived_course}
use Rattle.mw_commands.specs.Commands.ExplanationBook.{ExplanationWritten, OwesExplained, explanation_status, reasons}
use Rattle.mw_commands.specs.Headlines.{AcceptsAll, EntryKeeps, LogAccepted, SliceHeadline, Promised, IsBegun}
use Rattle.mw_answers.proofs.Headlines.{AreKept}
use Rattle.mw_answers.specs.Effects.{plain}
use Rattle.mw_answers.proofs.Courses.{course-append}
use Rattle.mw_answers.proofs.FlatPieces.{flat_goes_on}
use Rattle.mw_answers.proofs.Logs.{log_goes_on, log_lines-append}
use Rattle.mw_answers.proofs.LoweredPieces.{HasLowered, each_later, all_lowered}
use Rattle.mw_answers.proofs.Pieces.{LabelledTexts, all_in_order, in_order_both, numbered-append, may_be_written}
use Rattle.mw_answers.proofs.Rounds.{Begins}
use Rattle.mw_answers.proofs.SlicedTexts.{HasSlices, SlicesAgain, sliced_status, some_slice}

-- the answers to these data, and to more after them
pub answers_both : (given more : List Object) (text next : List ℕ) → AreAnswers Taut given text → InOrder OwesTautology (numbered (1 + length given) more) next → AreAnswers Taut (given ++ more) (text ++ next)
answers_both given more text next h k =
    subst (λ l. InOrder OwesTautology l (text ++ next)) (sym (numbered-append 1 given more))
    (in_order_both OwesTautology (numbered 1 given) (numbered (1 + length given) more) text next h k)

-- ---- each datum has a piece

formed_given : (x : Object) (F : Formula) → formula_given x ≡ Some F → is_formula initial_arities F ≡ true
formed_given x F e =
    let a = when_some (not (is_out_of_range x)) (when (has_members 2 x) (when (is_symbol (car x)) (formula_under initial_arities (second_of x)))) F e in
    let b = when_some (has_members 2 x) (when (is_symbol (car x)) (formula_under initial_arities (second_of x))) F a.1 in
    let c = when_some (is_symbol (car x)) (formula_under initial_arities (second_of x)) F b.1 in
    go (formula_of (second_of x)) c.1
  where
    some : (G : Formula) → Some G ≡ Some F → G ≡ F
    some G i = cc

    go : (o : Option Formula) → that (is_formula initial_arities) o ≡ Some F → is_formula initial_arities F ≡ true
    go None h = cc
    go (Some G) h = let p = when_some (is_formula initial_arities G) (Some G) F h in ap (is_formula initial_arities) (sym (some G p.1)) ∙ p.0

module _
    (labelled : LabelledTexts)
    (provable : (A : ArityTable) (F : Formula) → is_formula A F ≡ true → decision F ≡ Holds → (p : Object) × IsPureProof A p F)
    (accepted : (b : Book) (text : List ℕ) → TautologiesWritten b text → length text ≤ limit → (N : ℕ) → AcceptsAll text N (how_many is_proved b.events))
  where
    may_be_decided : (k : ℕ) (x : Object) (F : Formula) → is_formula initial_arities F ≡ true → (d : Decision) → decision F ≡ d → (piece : List ℕ) × OwesDecided k x F d piece
    may_be_decided k x F f Many e = (remark k x (codes "MANY"), refl)
    may_be_decided k x F f (FailsUnder c) e = let w = may_be_written labelled (choice_object c) in (remark k x (spaced (codes "FALSE") w.0), (w.0, w.1, w.2, refl))
    may_be_decided k x F f Holds e =
        let p = provable initial_arities F f e in
        let w = may_be_written labelled (list4 (symbol "VERIFY") (car x) (second_of x) p.0) in
        (w.0 ++ 10 ∷ [], (p.0, p.1, (w.0, w.1, w.2, refl)))

    may_be_given : (k : ℕ) (x : Object) (o : Option Formula) → ((F : Formula) → o ≡ Some F → is_formula initial_arities F ≡ true) → (piece : List ℕ) × OwesGiven k x o piece
    may_be_given k x None h = (remark k x (codes "SHAPE"), refl)
    may_be_given k x (Some F) h = may_be_decided k x F (h F refl) (decision F) refl

    all_may_be : (k : ℕ) (xs : List Object) → (text : List ℕ) × InOrder OwesTautology (numbered k xs) text
    all_may_be k [] = ([], refl)
    all_may_be k (x ∷ xs) =
        let p = may_be_given k x (formula_given x) (formed_given x) in
        let r = all_may_be (suc k) xs in
        (p.0 ++ r.0, (p.0, r.0, refl, p.1, r.1))

    -- ---- what is promised

    module _
        (true_events : EventsKeep)
        (lowered : (es : List Object) (N : ℕ) → Each HasLowered (derived_course es N))
        (lowered_again : (b : Book) (N : ℕ) (text : List ℕ) → LoweredWritten b N text → length text ≤ limit → AcceptsAll text N (how_many is_acceptance (derived_course b.events N)))
        (has_slices : HasSlices)
        (sliced_again : SlicesAgain)
        (may_be_flat : (e : Object) → (piece : List ℕ) × OwesFlat e piece)
        (flattened_again : (b : Book) (N : ℕ) (text : List ℕ) → FlatWritten b N text → length text ≤ limit → LogAccepted (map flat_event (flat_events (plain_course b.events N))) (last_theory_from (initial One) (before_switch (plain_course b.events N))) text)
        (same_theory : (b : Book) (N : ℕ) (text : List ℕ) → LoweredWritten b N text → length text ≤ limit → after (initial One) (trees text).events N ≡ last_theory (derived_course b.events N))
        (true_logs : (xs : List Object) → Each EntryKeeps (log_of xs).entered)
        (may_be_explained : (N : ℕ) (s : Transition) → (piece : List ℕ) × OwesExplained N s piece)
        (explained_again : (b : Book) (N : ℕ) (text : List ℕ) → ExplanationWritten b N text → length text ≤ limit → trees text ≡ book (reasons N (plain_course b.events N)) None)
        (as_check : (b : Book) (N : ℕ) → explanation_status b N ≡ (report_of b N).status)
      where
        reported : (bytes : List ℕ) (N : ℕ) (text : List ℕ) → text ≡ (report bytes N).text → Headline bytes N text (report bytes N).status
        reported bytes N text e = record { exact = e; ends = refl; events_keep = true_events (trees bytes).events N }

        pub whole : AreKept
        whole (Check N) bytes text last h l = reported bytes N (text ++ last) (ap₂ (λ u v. u ++ v) h l)
        whole Taut bytes text last h l =
            let b = trees bytes in
            let all : TautologiesWritten b (text ++ last) = (text, h, ap (λ u. text ++ u) l) in
            record { exact = all; ends = refl; again = accepted b (text ++ last) all }
        whole (Trial m N) bytes text last h l = absurd h
        whole (Lower N) bytes text last h l =
            let b = trees bytes in
            let all : LoweredWritten b N (text ++ last) = (text, h, ap (λ u. text ++ u) l) in
            record { exact = all; ends = refl; again = lowered_again b N (text ++ last) all; theory = same_theory b N (text ++ last) all }
        whole (Slice name N) bytes text last h l =
            let b = trees bytes in
            let owed : (written : List ℕ) → written ≡ last → SliceHeadline bytes N name written (status_of b.fault (refused_for (Slice name N) b.events)) = λ written e.
            let all : SliceWritten b N name written = subst (SliceWritten b N name) (sym e) l in
            let status = sliced_status b.fault (target (accepted_events b.events N) name) in
            record { exact = all; ends = status; again = λ done. sliced_again b N name written all (sym status ∙ done) } in
            owed (text ++ last) (ap (λ u. u ++ last) h)
        whole (Flat N) bytes text last h l =
            let b = trees bytes in
            let all : FlatWritten b N (text ++ last) = (text, h, ap (λ u. text ++ u) l) in
            record { exact = all; ends = refl; again = flattened_again b N (text ++ last) all }
        whole Recheck bytes text last h l = record { exact = ap₂ (λ u v. u ++ v) h l; ends = refl; events_keep = true_logs (trees bytes).events }
        whole (Explain N) bytes text last h l =
            let b = trees bytes in
            let all : ExplanationWritten b N (text ++ last) = (text, h, ap (λ u. text ++ u) l) in
            record { exact = all; ends = refl; as_check = as_check b N; again = explained_again b N (text ++ last) all; events_keep = true_events b.events N }
        whole Help bytes text last h l = absurd h
        whole Usage bytes text last h l = absurd h

        -- the answers to all data go on from those to the first ones
        goes_on : (q : Request) (bytes text rest last : List ℕ) → AreAnswers q (trees bytes).events (text ++ rest) → IsLastText q (trees bytes).events (trees bytes).fault last → IsBegun q bytes text
        goes_on q bytes text rest last h l =
            let b = trees bytes in
            let s = status_of b.fault (refused_for q b.events) in
            (rest ++ last, s, subst (λ u. Promised q bytes u s) (append_assoc text rest last) (whole q bytes (text ++ rest) last h l))

        pub begun : Begins
        begun (Check N) bytes text given more e h =
            let all = (trees bytes).events in
            let r = lines_first (initial One) given more all N [] e in
            goes_on (Check N) bytes text r.0 (last_line (trees bytes) N) (ap (λ u. u ++ r.0) h ∙ sym r.1 ∙ append-nil (lines 1 (initial One) all N)) refl
        begun Taut bytes text given more e h =
            let r = all_may_be (1 + length given) more in
            goes_on Taut bytes text r.0 (comment_ending (trees bytes).fault (tautology_summary (trees bytes).events)) (subst (λ xs. AreAnswers Taut xs (text ++ r.0)) (sym e) (answers_both given more text r.0 h r.1)) refl
        begun (Trial m N) bytes text given more e h = absurd h
        begun (Lower N) bytes text given more e h =
            let ss = derived_course given N in
            let rest = course_from (λ t x. happens_under derived_as t N x) (1 + length given) (last_theory ss) more in
            let whole_course = ap (λ es. derived_course es N) e ∙ course-append (λ t x. happens_under derived_as t N x) 1 (initial One) given more in
            let r = all_lowered labelled rest (each_later ss rest (subst (Each HasLowered) whole_course (lowered (trees bytes).events N))) in
            goes_on (Lower N) bytes text r.0 (comment_ending (trees bytes).fault (course_summary (derived_course (trees bytes).events N))) (subst (λ l. InOrder OwesLowered l (text ++ r.0)) (sym whole_course) (in_order_both OwesLowered ss rest text r.0 h r.1)) refl
        begun (Slice name N) bytes text given more e h =
            let b = trees bytes in
            let accepted = accepted_events b.events N in
            let r = some_slice labelled has_slices b.fault (target accepted name) b.events accepted in
            goes_on (Slice name N) bytes text [] r.0 (ap (λ u. u ++ []) h) r.1
        begun (Flat N) bytes text given more e h =
            let effect = plain N in
            let ss = plain_course given N in
            let rest = course_from effect (1 + length given) (last_theory ss) more in
            let whole_course = ap (λ es. plain_course es N) e ∙ course-append effect 1 (initial One) given more in
            let m = flat_goes_on ss rest in
            let r = all_in_order OwesFlat may_be_flat m.0 in
            goes_on (Flat N) bytes text r.0 (comment_ending (trees bytes).fault (flat_summary (plain_course (trees bytes).events N)))
            (subst (λ es. InOrder OwesFlat es (text ++ r.0)) (sym (ap flat_events whole_course ∙ m.1)) (in_order_both OwesFlat (flat_events ss) m.0 text r.0 h r.1)) refl
        begun Recheck bytes text given more e h =
            let b = trees bytes in
            let r = log_goes_on given more in
            goes_on Recheck bytes text (log_lines r.0) (ending b.fault (log_summary (log_of b.events)))
            (ap (λ u. u ++ log_lines r.0) h ∙ sym (log_lines-append (log_of given).entered r.0) ∙ ap log_lines (sym r.1) ∙ ap (λ xs. log_lines (log_of xs).entered) (sym e)) refl
        begun (Explain N) bytes text given more e h =
            let effect = plain N in
            let ss = plain_course given N in
            let rest = course_from effect (1 + length given) (last_theory ss) more in
            let whole_course = ap (λ es. plain_course es N) e ∙ course-append effect 1 (initial One) given more in
            let r = all_in_order (OwesExplained N) (may_be_explained N) rest in
            goes_on (Explain N) bytes text r.0 (comment_ending (trees bytes).fault (course_summary (plain_course (trees bytes).events N)))
            (subst (λ l. InOrder (OwesExplained N) l (text ++ r.0)) (sym whole_course) (in_order_both (OwesExplained N) ss rest text r.0 h r.1)) refl
        begun Help bytes text given more e h = absurd h
        begun Usage bytes text given more e h = absurd h
