-- What is owed for a book of derivations is the text of a book that is accepted event by event, with comments between, and leads to the same theory.
use Rattle.std.proofs.Common.{◌≡◌, ℕ, suc, ◌+◌, ◌≤◌, true, cond, List, [], ◌∷◌, ◌++◌, length, None, codes, refl, sym, ap, ◌∙◌, subst, arith, append_assoc}
use Rattle.mw_model.specs.Terms.Object.{Object}
use Rattle.mw_model.specs.Values.Primitive.{One}
use Rattle.mw_model.specs.Events.Theory.{Theory, initial}
use Rattle.mw_model.specs.Events.Refusal.{Refusal, Fate, Accepted, Refused, reason_of}
use Rattle.mw_model.specs.Events.Fate.{after, happens}
use Rattle.mw_model.specs.Events.Demand.{happens_under}
use Rattle.mw_model.specs.Texts.Grammar.{Book, book, limit, trees}
use Rattle.mw_model.specs.Texts.Printing.{numeral}
use Rattle.mw_model.specs.Reports.Report.{status_of, spaced, word_text, label_text, line, report_of, is_accepted, accepted_among, refused_among}
use Rattle.mw_model.specs.Texts.Written.{IsDatumLine, IsBookText, datum_line}
use Rattle.mw_model.specs.Texts.Pieces.{InOrder, how_many, comment_ending}
use Rattle.mw_model.proofs.TextReadBack.{within_limit}
use Rattle.mw_model.proofs.Unchanged.{unchanged_under}
use Rattle.mw_commands.specs.Commands.Transition.{Effect, Transition, course_from, last_theory, last_theory_from, is_acceptance}
use Rattle.mw_commands.specs.Commands.DerivationTest.{derived_as}
use Rattle.mw_commands.specs.Commands.Lowering.{derived_course, OwesByFate, OwesLowered, refused_in, course_summary, LoweredWritten}
use Rattle.mw_commands.specs.Headlines.{AcceptsAll}
use Rattle.mw_commands.proofs.LexingLines.{no_newline}
use Rattle.mw_commands.proofs.OneLine.{spaced_line, numeral_line, word_line, label_line, reason_line}
use Rattle.mw_commands.proofs.Comments.{comment_reads, ending_reads}
use Rattle.mw_commands.proofs.WrittenRead.{text_is_read}
use Rattle.mw_commands.proofs.FirstAxioms.{HasFirst, initial_first, first_stay}
use Rattle.mw_commands.proofs.LoweredAccepted.{lowered_happens}

module _ (N : ℕ) where
  abbrev derived : Effect
  derived t e = happens_under derived_as t N e

  -- from the theory t on: a text that is read as so many events, each accepted, which lead to this theory
  record Leads (t : Theory) (n : ℕ) (end : Theory) (text : List ℕ) : Type 0 where
    events : List Object
    reads : IsBookText events text
    accepted : accepted_among t events N ≡ n
    refused : refused_among t events N ≡ 0
    theory : after t events N ≡ end

  line_first : (t end : Theory) (n : ℕ) (e lowered : Object) (value piece text : List ℕ) → happens t N lowered ≡ derived t e → (derived t e).0 ≡ Accepted value → IsDatumLine lowered piece → Leads (derived t e).1 n end text → Leads t (1 + n) end (piece ++ text)
  line_first t end n e lowered value piece text same a w r =
      let fate = ap is_accepted a in
      record {
        events = lowered ∷ r.events;
        reads = datum_line lowered r.events piece text w r.reads;
        accepted = ap (λ s. cond (is_accepted s.0) 1 0 + accepted_among s.1 r.events N) same ∙ (ap (λ b. cond b 1 0 + accepted_among (derived t e).1 r.events N) fate ∙ ap (λ k. 1 + k) r.accepted);
        refused = ap (λ s. cond (is_accepted s.0) 0 1 + refused_among s.1 r.events N) same ∙ (ap (λ b. cond b 0 1 + refused_among (derived t e).1 r.events N) fate ∙ ap (λ k. 0 + k) r.refused);
        theory = ap (λ s. after s.1 r.events N) same ∙ r.theory;
      }

  comment_first : (t end : Theory) (n k : ℕ) (e : Object) (x : Refusal) (piece text : List ℕ) → piece ≡ codes "; " ++ line k e (Refused x) → Leads t n end text → Leads t (0 + n) end (piece ++ text)
  comment_first t end n k e x piece text is r =
      let reason = spaced (codes "refused") (reason_of x) in
      let label = spaced (label_text e) reason in
      let word = spaced (word_text e) label in
      let one_line = spaced_line (numeral k) word (numeral_line k) (spaced_line (word_text e) label (word_line e) (spaced_line (label_text e) reason (label_line e) (spaced_line (codes "refused") (reason_of x) refl (reason_line x)))) in
      record {
        events = r.events;
        reads = subst (λ z. IsBookText r.events (z ++ text)) (sym is) (comment_reads r.events (spaced (numeral k) word) text one_line r.reads);
        accepted = let a = r.accepted in omega arith;
        refused = r.refused;
        theory = r.theory;
      }

  -- piece by piece
  piece_first : (t end : Theory) (n k : ℕ) (e : Object) (piece text : List ℕ) → HasFirst t → OwesLowered (record { number = k; before = t; event = e; fate = (derived t e).0; next = (derived t e).1 }) piece → Leads (derived t e).1 n end text → Leads t (cond (is_accepted (derived t e).0) 1 0 + n) end (piece ++ text)
  piece_first t end n k e piece text has w r = go (derived t e).0 refl w
    where
      go : (f : Fate) → (derived t e).0 ≡ f → OwesByFate f (record { number = k; before = t; event = e; fate = (derived t e).0; next = (derived t e).1 }) piece → Leads t (cond (is_accepted f) 1 0 + n) end (piece ++ text)
      go (Accepted value) a o = line_first t end n e o.0 value piece text (lowered_happens t N has e (ap is_accepted a) o.0 o.1) a o.2 r
      go (Refused x) a o = comment_first t end n k e x piece text o (subst (λ u. Leads u n end text) (unchanged_under derived_as t N e x a) r)

  pieces_read : (k : ℕ) (t : Theory) (es : List Object) (body last : List ℕ) → HasFirst t → InOrder OwesLowered (course_from derived k t es) body → IsBookText [] last → Leads t (how_many is_acceptance (course_from derived k t es)) (last_theory_from t (course_from derived k t es)) (body ++ last)
  pieces_read k t [] body last has w r = record { events = []; reads = subst (λ z. IsBookText [] (z ++ last)) (sym w) r; accepted = refl; refused = refl; theory = refl }
  pieces_read k t (e ∷ es) body last has w r =
      let u = (derived t e).1 in
      let ss = course_from derived (suc k) u es in
      let more = pieces_read (suc k) u es w.1 last (first_stay t has derived_as N e) w.4 r in
      let is : w.0 ++ (w.1 ++ last) ≡ body ++ last = sym (append_assoc w.0 w.1 last) ∙ ap (λ z. z ++ last) (sym w.2) in
      subst (Leads t (cond (is_accepted (derived t e).0) 1 0 + how_many is_acceptance ss) (last_theory_from u ss)) is (piece_first t (last_theory_from u ss) (how_many is_acceptance ss) k e w.0 (w.1 ++ last) has w.3 more)

  pub summary_line : (ss : List Transition) → no_newline (course_summary ss) ≡ true
  summary_line ss =
      let level = spaced (codes "level") (numeral (last_theory ss).level) in
      let refused = spaced (codes "refused") (spaced (numeral (refused_in ss)) level) in
      let accepted = spaced (codes "accepted") (spaced (numeral (how_many is_acceptance ss)) refused) in
      spaced_line (codes "events") (spaced (numeral (length ss)) accepted) refl
      (spaced_line (numeral (length ss)) accepted (numeral_line (length ss))
      (spaced_line (codes "accepted") (spaced (numeral (how_many is_acceptance ss)) refused) refl
      (spaced_line (numeral (how_many is_acceptance ss)) refused (numeral_line (how_many is_acceptance ss))
      (spaced_line (codes "refused") (spaced (numeral (refused_in ss)) level) refl
      (spaced_line (numeral (refused_in ss)) level (numeral_line (refused_in ss)) (spaced_line (codes "level") (numeral (last_theory ss).level) refl (numeral_line (last_theory ss).level)))))))

  lowered_read : (b : Book) (text : List ℕ) → LoweredWritten b N text → Leads (initial One) (how_many is_acceptance (derived_course b.events N)) (last_theory (derived_course b.events N)) text
  lowered_read b text w =
      let ss = derived_course b.events N in
      subst (Leads (initial One) (how_many is_acceptance ss) (last_theory ss)) (sym w.2)
      (pieces_read 1 (initial One) b.events w.0 (comment_ending b.fault (course_summary ss)) (initial_first One) w.1 (ending_reads b.fault (course_summary ss) (summary_line ss)))

  module _ (b : Book) (text : List ℕ) (w : LoweredWritten b N text) (l : length text ≤ limit) where
    lowered_trees : trees text ≡ book (lowered_read b text w).events None
    lowered_trees = within_limit text l ∙ text_is_read (lowered_read b text w).events text (lowered_read b text w).reads

    pub lowered_accepted : AcceptsAll text N (how_many is_acceptance (derived_course b.events N))
    lowered_accepted =
        record {
          ends = ap (λ z. (report_of z N).status) lowered_trees ∙ ap (status_of None) (lowered_read b text w).refused;
          accepted = ap (λ z. accepted_among (initial One) z.events N) lowered_trees ∙ (lowered_read b text w).accepted;
        }

    pub lowered_theory : after (initial One) (trees text).events N ≡ last_theory (derived_course b.events N)
    lowered_theory = ap (λ z. after (initial One) z.events N) lowered_trees ∙ (lowered_read b text w).theory
