-- The text of an object may be written for it where that is compact: it is read as this object, and begins no label.
use Rattle.std.proofs.Common.{◌≡◌, ℕ, zero, suc, ◌+◌, ◌≤◌, Bool, true, false, ltb, List, [], ◌∷◌, ◌++◌, length, Some, None, codes, refl, sym, ap, ◌∙◌, arith, append-nil, length-append}
use Rattle.mw_model.specs.Terms.Object.{Object, symbol}
use Rattle.mw_model.specs.Values.Value.{pick}
use Rattle.mw_model.specs.Events.Fate.{longest}
use Rattle.mw_model.specs.Texts.Lexemes.{Lexeme, Atom, End, fault, END, Ends, lexemes}
use Rattle.mw_model.specs.Texts.Grammar.{book, enough, and_events, data_of, reading}
use Rattle.mw_model.specs.Texts.Printing.{text_of}
use Rattle.mw_model.specs.Texts.Written.{labels_begun, IsLabelled, IsWritten, IsCompact}
use Rattle.mw_model.proofs.TextReadBack.{prints, plain_both, data_of-datum, reading-text_of}
use Rattle.mw_commands.proofs.WrittenRead.{enough_is}
use Rattle.mw_commands.proofs.OneLine.{text_line}

module _ (x : Object) where
  -- another datum may stand after it
  with_another : (k : ℕ) (L : List Lexeme) (o : ℕ) → 3 ≤ k → ((k : ℕ) → data_of (suc k) (L ++ Atom o (symbol "A") ∷ End (Some (fault END (suc o))) ∷ []) ≡ and_events x (data_of k (Atom o (symbol "A") ∷ End (Some (fault END (suc o))) ∷ []))) → data_of k (L ++ Atom o (symbol "A") ∷ End (Some (fault END (suc o))) ∷ []) ≡ book (x ∷ symbol "A" ∷ []) None
  with_another zero L o h first = absurd (omega arith)
  with_another (suc zero) L o h first = absurd (omega arith)
  with_another (suc (suc zero)) L o h first = absurd (omega arith)
  with_another (suc (suc (suc k))) L o h first = first (suc (suc k))

  text_reads_on : reading Ends (text_of x ++ codes " a") ≡ book (x ∷ symbol "A" ∷ []) None
  text_reads_on =
      let p = prints x Ends 0 (codes " a") (refl, refl) in
      let o = suc (0 + length (text_of x)) in
      let N = Atom o (symbol "A") ∷ End (Some (fault END (suc o))) ∷ [] in
      ap (λ r. data_of (enough r) r) p.cut
      ∙ with_another (enough (p.lexed ++ N)) p.lexed o (omega (arith, enough_is (p.lexed ++ N), length-append p.lexed N)) (λ k. data_of-datum k x p.lexed N p.begins p.reads)

  no_labels : labels_begun (lexemes Ends (text_of x)) ≡ []
  no_labels =
      let p = prints x Ends 0 [] tt in
      let end = End (Some (fault END (0 + length (text_of x)))) in
      ap (λ t. labels_begun (lexemes Ends t)) (sym (append-nil (text_of x))) ∙ (ap labels_begun p.cut ∙ plain_both p.lexed (end ∷ []) p.plain refl)

  text_labelled : (first : ℕ) → IsLabelled x first (text_of x) first
  text_labelled first = record { reads = reading-text_of x; reads_on = text_reads_on; one_line = text_line x; labels = 0; numbered = no_labels; unused = omega arith }

  pub text_is_written : (first : ℕ) → IsCompact x first (text_of x) → IsWritten x first (text_of x) first
  text_is_written first compact = (go (ltb longest (length (text_of x))), compact)
    where
      go : (b : Bool) → pick b (IsLabelled x first (text_of x) first) ((text_of x ≡ text_of x) × (first ≡ first))
      go true = text_labelled first
      go false = (refl, refl)
