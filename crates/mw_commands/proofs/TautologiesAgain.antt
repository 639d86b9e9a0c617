-- What is owed for a book of formulas is the text of a book of theorems, each proved from nothing, with comments between.
use Rattle.std.proofs.Common.{◌≡◌, ℕ, suc, ◌+◌, ◌≤◌, true, false, not, cond, List, [], ◌∷◌, ◌++◌, length, Option, Some, None, codes, refl, sym, ap, ◌∙◌, subst, arith, append_assoc}
use Rattle.std.proofs.lemmas.Bool.{not-true}
use Rattle.mw_model.specs.Terms.Object.{Object, symbol, NIL, car, second_of, has_members, list1, list2, list4}
use Rattle.mw_model.specs.Terms.Term.{ArityTable, Formula, formula_object, is_formula}
use Rattle.mw_model.specs.Terms.Reading.{formula_of, formula_under, that, when}
use Rattle.mw_model.specs.Values.Primitive.{One, is_symbol}
use Rattle.mw_model.specs.Values.Truth.{Each}
use Rattle.mw_model.specs.Events.Theory.{initial}
use Rattle.mw_model.specs.Events.Fate.{is_out_of_range}
use Rattle.mw_model.specs.Texts.Lexemes.{Fault}
use Rattle.mw_model.specs.Texts.Grammar.{Book, book, limit, trees}
use Rattle.mw_model.specs.Texts.Printing.{numeral}
use Rattle.mw_model.specs.Reports.Report.{status_of, spaced, word_text, report_of, accepted_among}
use Rattle.mw_model.specs.Texts.Written.{IsDatumLine, IsBookText, datum_line}
use Rattle.mw_model.specs.Texts.Pieces.{InOrder, numbered, how_many, comment, comment_ending}
use Rattle.mw_model.proofs.ReadBack.{when_some, formula_back}
use Rattle.mw_model.proofs.TextReadBack.{within_limit}
use Rattle.mw_commands.specs.Commands.Tautology.{Decision, Many, FailsUnder, Holds, decision, choice_object}
use Rattle.mw_commands.specs.Commands.TautologyBook.{IsPureProof, initial_arities, formula_given, decision_on, remark, OwesDecided, OwesGiven, OwesTautology, is_holding, is_proved, tautology_summary, TautologiesWritten}
use Rattle.mw_commands.specs.Headlines.{AcceptsAll}
use Rattle.mw_commands.proofs.Logs.{car_in_range, second_in_range, pair_in_range}
use Rattle.mw_commands.proofs.LexingLines.{no_newline}
use Rattle.mw_commands.proofs.WrittenRead.{text_is_read}
use Rattle.mw_commands.proofs.OneLine.{spaced_line, numeral_line, written_line, word_line}
use Rattle.mw_commands.proofs.Comments.{comment_reads, ending_reads}
use Rattle.mw_commands.proofs.Theorems.{IsTheorem, all_accepted, none_refused}

-- a text that is read as so many theorems
record IsTheoremText (n : ℕ) (text : List ℕ) : Type 0 where
  events : List Object
  reads : IsBookText events text
  theorems : Each (IsTheorem (initial One).definitions) events
  count : length events ≡ n

-- a comment adds no theorem
comment_first : (n : ℕ) (c text : List ℕ) → no_newline c ≡ true → IsTheoremText n text → IsTheoremText (0 + n) (comment c ++ text)
comment_first n c text h r = record { events = r.events; reads = comment_reads r.events c text h r.reads; theorems = r.theorems; count = let c = r.count in omega arith }

remark_first : (n k : ℕ) (x : Object) (reason text : List ℕ) → no_newline reason ≡ true → IsTheoremText n text → IsTheoremText (0 + n) (remark k x reason ++ text)
remark_first n k x reason text h r =
    comment_first n (spaced (numeral k) (spaced (word_text x) reason)) text (spaced_line (numeral k) (spaced (word_text x) reason) (numeral_line k) (spaced_line (word_text x) reason (word_line x) h)) r

-- what is known of a datum that gives a formula
record Given (x : Object) (F : Formula) : Type 0 where
  in_range : is_out_of_range x ≡ false
  named : is_symbol (car x) ≡ true
  claims : formula_under initial_arities (second_of x) ≡ Some F

given : (x : Object) (F : Formula) → formula_given x ≡ Some F → Given x F
given x F h =
    let claim = formula_under initial_arities (second_of x) in
    let p = when_some (not (is_out_of_range x)) (when (has_members 2 x) (when (is_symbol (car x)) claim)) F h in
    let q = when_some (has_members 2 x) (when (is_symbol (car x)) claim) F p.1 in
    let r = when_some (is_symbol (car x)) claim F q.1 in
    record { in_range = not-true (is_out_of_range x) p.0; named = r.0; claims = r.1 }

claimed_object : (A : ArityTable) (y : Object) (F : Formula) → formula_under A y ≡ Some F → formula_object F ≡ y
claimed_object A y F h = go (formula_of y) refl h
  where
    go : (o : Option Formula) → formula_of y ≡ o → that (is_formula A) o ≡ Some F → formula_object F ≡ y
    go None e k = cc
    go (Some G) e k = let p = when_some (is_formula A G) (Some G) F k in formula_back y F (e ∙ p.1)

theorem_first : (n : ℕ) (x p : Object) (F : Formula) (line text : List ℕ) → Given x F → IsPureProof initial_arities p F → IsDatumLine (list4 (symbol "VERIFY") (car x) (second_of x) p) line → IsTheoremText n text → IsTheoremText (1 + n) (line ++ text)
theorem_first n x p F line text g h w r =
    let e = list4 (symbol "VERIFY") (car x) (second_of x) p in
    let claim_in_range = second_in_range x g.in_range in
    let proof_in_range = h.in_range (ap is_out_of_range (claimed_object initial_arities (second_of x) F g.claims) ∙ claim_in_range) in
    let last_in_range = pair_in_range (second_of x) (list1 p) claim_in_range (pair_in_range p NIL proof_in_range refl) in
    let theorem : IsTheorem (initial One).definitions e =
    record {
      name = car x;
      claim = second_of x;
      witness = p;
      F = F;
      is = refl;
      named = g.named;
      claims = g.claims;
      proves = h.proves;
      in_range = pair_in_range (car x) (list2 (second_of x) p) (car_in_range x g.in_range) last_in_range;
    } in
    record { events = e ∷ r.events; reads = datum_line e r.events line text w r.reads; theorems = (theorem, r.theorems); count = let c = r.count in omega arith }

-- ---- piece by piece

decided_first : (k n : ℕ) (x : Object) (F : Formula) (d : Decision) (piece text : List ℕ) → Given x F → OwesDecided k x F d piece → IsTheoremText n text → IsTheoremText (cond (is_holding (Some d)) 1 0 + n) (piece ++ text)
decided_first k n x F Many piece text g w r = subst (λ z. IsTheoremText (0 + n) (z ++ text)) (sym w) (remark_first n k x (codes "MANY") text refl r)
decided_first k n x F (FailsUnder c) piece text g w r =
    subst (λ z. IsTheoremText (0 + n) (z ++ text)) (sym w.3)
    (remark_first n k x (spaced (codes "FALSE") w.0) text (spaced_line (codes "FALSE") w.0 refl (written_line (choice_object c) 1 w.1 w.0 w.2)) r)
decided_first k n x F Holds piece text g w r = theorem_first n x w.0 F piece text g w.1 w.2 r

given_first : (k n : ℕ) (x : Object) (o : Option Formula) (piece text : List ℕ) → formula_given x ≡ o → OwesGiven k x o piece → IsTheoremText n text → IsTheoremText (cond (is_holding (decision_on o)) 1 0 + n) (piece ++ text)
given_first k n x None piece text e w r = subst (λ z. IsTheoremText (0 + n) (z ++ text)) (sym w) (remark_first n k x (codes "SHAPE") text refl r)
given_first k n x (Some F) piece text e w r = decided_first k n x F (decision F) piece text (given x F e) w r

pieces_read : (k : ℕ) (xs : List Object) (body last : List ℕ) → InOrder OwesTautology (numbered k xs) body → IsTheoremText 0 last → IsTheoremText (how_many is_proved xs) (body ++ last)
pieces_read k [] body last w r = subst (λ z. IsTheoremText 0 (z ++ last)) (sym w) r
pieces_read k (x ∷ xs) body last w r =
    let more = pieces_read (suc k) xs w.1 last w.4 r in
    let is : w.0 ++ (w.1 ++ last) ≡ body ++ last = sym (append_assoc w.0 w.1 last) ∙ ap (λ z. z ++ last) (sym w.2) in
    subst (IsTheoremText (how_many is_proved (x ∷ xs))) is (given_first k (how_many is_proved xs) x (formula_given x) w.0 (w.1 ++ last) refl w.3 more)

-- ---- the last line

ending_read : (fault : Option Fault) (summary : List ℕ) → no_newline summary ≡ true → IsTheoremText 0 (comment_ending fault summary)
ending_read fault summary h = record { events = []; reads = ending_reads fault summary h; theorems = tt; count = refl }

summary_line : (xs : List Object) → no_newline (tautology_summary xs) ≡ true
summary_line xs =
    let proved = spaced (codes "proved") (numeral (how_many is_proved xs)) in
    spaced_line (codes "formulas") (spaced (numeral (length xs)) proved) refl
    (spaced_line (numeral (length xs)) proved (numeral_line (length xs)) (spaced_line (codes "proved") (numeral (how_many is_proved xs)) refl (numeral_line (how_many is_proved xs))))

tautologies_read : (b : Book) (text : List ℕ) → TautologiesWritten b text → IsTheoremText (how_many is_proved b.events) text
tautologies_read b text w =
    subst (IsTheoremText (how_many is_proved b.events)) (sym w.2)
    (pieces_read 1 b.events w.0 (comment_ending b.fault (tautology_summary b.events)) w.1 (ending_read b.fault (tautology_summary b.events) (summary_line b.events)))

-- ---- a text of theorems as a book

pub taut_is_accepted : (b : Book) (text : List ℕ) → TautologiesWritten b text → length text ≤ limit → (N : ℕ) → AcceptsAll text N (how_many is_proved b.events)
taut_is_accepted b text w l N =
    let r = tautologies_read b text w in
    let is : trees text ≡ book r.events None = within_limit text l ∙ text_is_read r.events text r.reads in
    record {
      ends = ap (λ z. (report_of z N).status) is ∙ ap (status_of None) (none_refused (initial One) N refl r.events r.theorems);
      accepted = ap (λ z. accepted_among (initial One) z.events N) is ∙ (all_accepted (initial One) N refl r.events r.theorems ∙ r.count);
    }
