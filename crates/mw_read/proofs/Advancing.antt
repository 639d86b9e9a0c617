-- What a token's end makes of a parser.
use Rattle.std.proofs.Common.{◌≡◌, ℕ, ◌+◌, ◌<◌, Bool, true, false, List, [], ◌∷◌, ◌++◌, length, take, Some, refl, sym, ap, ◌∙◌, subst, true≢false, append_assoc}
use Rattle.mw_model.specs.Terms.Object.{Object}
use Rattle.mw_model.specs.Texts.Lexemes.{Atom, Dot, Wrong, fault, TOKEN, Ending, is_constituent, TokenForm, Whole, Point, Bad, token_form, glued, glued_bar, lexemes_from}
use Rattle.std.specs.List.{list_all}
use Rattle.mw_model.specs.Texts.Grammar.{book, and_events}
use Rattle.mw_read.specs.Machine.{State, Idle, Within, Full, Broken, Members, Tailed, Quoting, Marking, Turn, quiet, event, on, is_full, IsSound}
use Rattle.mw_read.specs.Resume.{resume, onward, following}
use Rattle.mw_read.specs.Lexing.{token_lexeme}
use Rattle.mw_read.specs.Piles.{fault_of}
use Rattle.mw_read.specs.Stacks.{IsStack}
use Rattle.mw_read.specs.Held.{Holds, Took}
use Rattle.mw_read.specs.Parsing.{after, ahead, meaning_of, Fits, IsText, is_inside, IsParser, Advances}
use Rattle.mw_read.specs.declared.parser.Begun.TheVariants.{Token, AfterToken, AfterBar}
use Rattle.mw_read.specs.declared.parser.Parser.{Parser}
use Rattle.mw_read.specs.declared.step.Fault as code
use Rattle.mw_read.specs.declared.step.Outcome.{Outcome}
use Rattle.mw_read.specs.declared.step.Outcome.TheVariants as outcomes
use Rattle.mw_read.proofs.Resuming.{on_step}
use Rattle.mw_read.proofs.Holding.{sound_clamp}
use Rattle.mw_read.proofs.Parsing.{token_faults, token_whole, token_dot, wrong_breaks, following_event}

dot_quiet : (t : State) (o : ℕ) → (on t (Dot o)).events ≡ []
dot_quiet Idle o = refl
dot_quiet (Within (Members []) s ls) o = refl
dot_quiet (Within (Members (x ∷ xs)) s ls) o = refl
dot_quiet (Within (Tailed xs) s ls) o = refl
dot_quiet (Within Quoting s ls) o = refl
dot_quiet (Within (Marking n) s ls) o = refl
dot_quiet (Full xs x s ls) o = refl
dot_quiet (Broken f) o = refl

quiet_is : (w : Turn) → w.events ≡ [] → w ≡ quiet w.state
quiet_is w h = ap (λ (u : List Object). let r : Turn = record { events = u; state = w.state } in r) h

pub after_bar_parser : (os : List Object) (p : Parser) → p.begun ≡ AfterBar → IsStack os p.stack → IsParser os p
after_bar_parser os p e k = record {
  stack = k;
  text = subst (λ u. IsText u p.token.items) (sym e) tt;
  ready = λ h. absurd (true≢false (sym h ∙ ap is_inside e));
}

pub after_parser : (os : List Object) (p : Parser) → p.begun ≡ AfterToken → IsStack os p.stack → IsParser os p
after_parser os p e k = record {
  stack = k;
  text = subst (λ u. IsText u p.token.items) (sym e) tt;
  ready = λ h. absurd (true≢false (sym h ∙ ap is_inside e));
}

module _ (os : List Object) (t : State) (old new : Parser) (rest : List ℕ) (n b : ℕ) (g : Bool) (x : List ℕ) where
  abbrev whole : List ℕ
  whole = old.token.items ++ take n rest

  at_old : old.begun ≡ Token → (e : Ending) (z : List ℕ) → meaning_of e t old (take n rest ++ z) ≡ resume t (lexemes_from e old.start 0 (whole ++ z))
  at_old h e z =
      ap (λ m. resume t (ahead e m old.token.items old.start (take n rest ++ z))) h
      ∙ ap (λ y. resume t (lexemes_from e old.start 0 y)) (sym (append_assoc old.token.items (take n rest) z))

  at_new : (u : State) → new.begun ≡ AfterToken → new.start ≡ old.start + length whole → (e : Ending) (z : List ℕ) → resume u (after glued e (old.start + length whole) z) ≡ meaning_of e u new z
  at_new u h s e z =
      ap (λ o. resume u (after glued e o z)) (sym s) ∙ sym (ap (λ m. resume u (ahead e m new.token.items new.start z)) h)

  fits_new : new.begun ≡ AfterToken → (e : Ending) (z : List ℕ) → Fits new.begun e z → Fits AfterToken e z
  fits_new h e z f = subst (λ m. Fits m e z) h f

  broken_holds : (o : ℕ) → is_full t ≡ false → IsSound t → Holds os new.stack (on t (Wrong o (Some (fault TOKEN (o + 1))))).state → ⊥
  broken_holds o f k h = subst (λ (u : Turn). IsSound u.state) (wrong_breaks t o (fault TOKEN (o + 1)) f k) (sound_clamp os new.stack (on t (Wrong o (Some (fault TOKEN (o + 1))))).state h.means)

  bad_holds : (o : ℕ) → is_full t ≡ false → IsSound t → Holds os new.stack (on t (Wrong o (Some (fault TOKEN o)))).state → ⊥
  bad_holds o f k h = subst (λ (u : Turn). IsSound u.state) (wrong_breaks t o (fault TOKEN o) f k) (sound_clamp os new.stack (on t (Wrong o (Some (fault TOKEN o)))).state h.means)

  no_event : (w : Turn) (y : Object) → w.events ≡ [] → w ≡ event y → ⊥
  no_event w y h e = let q : [] ≡ y ∷ [] = sym h ∙ ap (λ (u : Turn). u.events) e in cc

  wrong_quiet : (o : ℕ) (j : ℕ) → is_full t ≡ false → IsSound t → (on t (Wrong o (Some (fault TOKEN j)))).events ≡ []
  wrong_quiet o j f k = ap (λ (u : Turn). u.events) (wrong_breaks t o (fault TOKEN j) f k)

  module _ (i : old.begun ≡ Token) (f : is_full t ≡ false) (k : IsSound t) (l : 0 < length whole) (a : list_all is_constituent whole ≡ true) (m : new.begun ≡ AfterToken) (s : new.start ≡ old.start + length whole) where
    -- a datum, or a part of what is open
    whole_pending : (y : Object) → token_form whole ≡ Whole y → Took os new.stack outcomes.Pending (on t (Atom old.start y)) → Advances os t old rest outcomes.Pending n new
    whole_pending y v q =
        let w = on t (Atom old.start y) in (
          w.state,
          q.1,
          after_parser os new m q.1.stack,
          λ e z fit.
              at_old i e z
              ∙ ap (resume t) (token_whole e old.start whole z y l a v (fits_new m e z fit))
              ∙ on_step t (Atom old.start y) tt (after glued e (old.start + length whole) z)
              ∙ ap (λ (u : List Object). onward u (resume w.state (after glued e (old.start + length whole) z))) q.0
              ∙ at_new w.state m s e z,
        )

    whole_datum : (r : ℕ) (y : Object) → token_form whole ≡ Whole y → Took os new.stack (outcomes.Datum r) (on t (Atom old.start y)) → Advances os t old rest (outcomes.Datum r) n new
    whole_datum r y v q = (
      q.0,
      q.2,
      after_parser os new m q.2.stack,
      λ e z fit.
          at_old i e z
          ∙ ap (resume t) (token_whole e old.start whole z y l a v (fits_new m e z fit))
          ∙ on_step t (Atom old.start y) tt (after glued e (old.start + length whole) z)
          ∙ following_event (on t (Atom old.start y)) q.0 (after glued e (old.start + length whole) z) q.1
          ∙ ap (and_events q.0) (at_new Idle m s e z),
    )

    point_pending : (h : Bool) → token_form whole ≡ Point → Took os new.stack outcomes.Pending (on t (token_lexeme old.start h Point)) → Advances os t old rest outcomes.Pending n new
    point_pending true v q = absurd (broken_holds old.start f k q.1)
    point_pending false v q =
        let w = on t (Dot old.start) in (
          w.state,
          q.1,
          after_parser os new m q.1.stack,
          λ e z fit.
              at_old i e z
              ∙ token_dot e t w.state old.start whole z l a v f k (quiet_is w q.0) (sound_clamp os new.stack w.state q.1.means) (fits_new m e z fit)
              ∙ at_new w.state m s e z,
        )

    point_datum : (r : ℕ) (h : Bool) → Took os new.stack (outcomes.Datum r) (on t (token_lexeme old.start h Point)) → ⊥
    point_datum r true q = no_event _ q.0 (wrong_quiet old.start (old.start + 1) f k) q.1
    point_datum r false q = no_event _ q.0 (dot_quiet t old.start) q.1

    pub token_pending : (v : TokenForm) → token_form whole ≡ v → Took os new.stack outcomes.Pending (on t (token_lexeme old.start g v)) → Advances os t old rest outcomes.Pending n new
    token_pending (Whole y) v q = whole_pending y v q
    token_pending Point v q = point_pending g v q
    token_pending Bad v q = absurd (bad_holds old.start f k q.1)

    pub token_datum : (r : ℕ) (v : TokenForm) → token_form whole ≡ v → Took os new.stack (outcomes.Datum r) (on t (token_lexeme old.start g v)) → Advances os t old rest (outcomes.Datum r) n new
    token_datum r (Whole y) v q = whole_datum r y v q
    token_datum r Point v q = absurd (point_datum r g q)
    token_datum r Bad v q = absurd (no_event _ q.0 (wrong_quiet old.start old.start f k) q.1)

    pub token_advances : (r : Outcome) → rest ≡ take n rest ++ b ∷ x → is_constituent b ≡ false → glued b ≡ g → Took os new.stack r (on t (token_lexeme old.start g (token_form whole))) → Advances os t old rest r n new
    token_advances outcomes.Pending e c h q = token_pending (token_form whole) refl q
    token_advances (outcomes.Datum r) e c h q = token_datum r (token_form whole) refl q
    token_advances (outcomes.Fault j) e c h q = λ e' z.
        ap (λ u. meaning_of e' t old (u ++ z)) e
        ∙ ap (meaning_of e' t old) (append_assoc (take n rest) (b ∷ x) z)
        ∙ at_old i e' (b ∷ (x ++ z))
        ∙ token_faults e' t old.start b g whole (x ++ z) (fault_of j) l a c h q

-- an atom between bars
pub bars_advance : (os : List Object) (t : State) (old new : Parser) (rest : List ℕ) (n b end : ℕ) (x : List ℕ) (y : Object) (r : Outcome) → ((f : code.Fault) → r ≡ outcomes.Fault f → rest ≡ take n rest ++ b ∷ x) →
    ((e : Ending) (z : List ℕ) → Fits AfterBar e z → meaning_of e t old (take n rest ++ z) ≡ resume t (Atom old.start y ∷ after glued_bar e end z)) →
    Took os new.stack r (on t (Atom old.start y)) → new.begun ≡ AfterBar → new.start ≡ end → Advances os t old rest r n new
bars_advance os t old new rest n b end x y outcomes.Pending e m q i s =
    let w = on t (Atom old.start y) in (
      w.state,
      q.1,
      after_bar_parser os new i q.1.stack,
      λ e' z fit.
          m e' z (subst (λ u. Fits u e' z) i fit)
          ∙ on_step t (Atom old.start y) tt (after glued_bar e' end z)
          ∙ ap (λ (u : List Object). onward u (resume w.state (after glued_bar e' end z))) q.0
          ∙ ap (λ o. resume w.state (after glued_bar e' o z)) (sym s)
          ∙ sym (ap (λ u. resume w.state (ahead e' u new.token.items new.start z)) i),
    )
bars_advance os t old new rest n b end x y (outcomes.Datum r) e m q i s = (
  q.0,
  q.2,
  after_bar_parser os new i q.2.stack,
  λ e' z fit.
      m e' z (subst (λ u. Fits u e' z) i fit)
      ∙ on_step t (Atom old.start y) tt (after glued_bar e' end z)
      ∙ following_event (on t (Atom old.start y)) q.0 (after glued_bar e' end z) q.1
      ∙ ap (λ o. and_events q.0 (resume Idle (after glued_bar e' o z))) (sym s)
      ∙ ap (and_events q.0) (sym (ap (λ u. resume Idle (ahead e' u new.token.items new.start z)) i)),
)
bars_advance os t old new rest n b end x y (outcomes.Fault f) e m q i s = λ e' z.
    ap (λ u. meaning_of e' t old (u ++ z)) (e f refl)
    ∙ ap (meaning_of e' t old) (append_assoc (take n rest) (b ∷ x) z)
    ∙ m e' (b ∷ (x ++ z)) tt
    ∙ on_step t (Atom old.start y) tt (after glued_bar e' end (b ∷ (x ++ z)))
    ∙ ap (λ (u : Turn). following u (after glued_bar e' end (b ∷ (x ++ z)))) q

-- a fault
pub fault_advances : (os : List Object) (t : State) (old new : Parser) (rest : List ℕ) (r : Outcome) (n : ℕ) (f : code.Fault) → r ≡ outcomes.Fault f →
    ((e : Ending) (z : List ℕ) → meaning_of e t old (rest ++ z) ≡ book [] (Some (fault_of f))) → Advances os t old rest r n new
fault_advances os t old new rest r n f e h = subst (λ u. Advances os t old rest u n new) (sym e) h
