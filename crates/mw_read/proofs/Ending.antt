-- The end of the input, for the text that has begun.
use Rattle.std.proofs.Common.{◌≡◌, ℕ, ◌+◌, ◌<◌, ◌≤◌, true, false, List, [], ◌∷◌, ◌++◌, length, Some, suc, refl, sym, ap, ◌∙◌, subst, arith, append-nil, if◌then◌else◌, le-ltb}
use Rattle.std.proofs.lemmas.Bool.{and_parts}
use Rattle.mw_model.specs.Terms.Object.{Object, Symbol, name_of_bytes, is_name_byte}
use Rattle.mw_model.specs.Texts.Lexemes.{Atom, Wrong, Fault, fault, END, LABEL, Ending, Ends, is_constituent, is_digit, TokenForm, Whole, Point, Bad, token_form, token, label, lexemes_from, End, unfinished, glued_bar}
use Rattle.std.specs.List.{list_all}
use Rattle.mw_model.specs.Texts.Grammar.{book}
use Rattle.mw_read.specs.Machine.{State, Turn, on, is_full, IsSound}
use Rattle.mw_read.specs.Resume.{resume, following}
use Rattle.mw_read.specs.Lexing.{token_lexeme}
use Rattle.mw_read.specs.Held.{Took}
use Rattle.mw_read.specs.Piles.{fault_of}
use Rattle.mw_read.specs.Parsing.{ahead, meaning_of, is_inside, offset_of, IsStarted, Fits, after, weight}
use Rattle.mw_read.specs.Standing.{Lasts}
use Rattle.mw_read.specs.declared.parser.Begun.TheVariants.{Token, Bars, Barred, Hash, AfterToken, AfterBar}
use Rattle.mw_read.specs.declared.parser.Parser.{Parser}
use Rattle.mw_read.specs.declared.step.Outcome.{Outcome}
use Rattle.mw_read.specs.declared.step.Outcome.TheVariants as outcomes
use Rattle.mw_read.proofs.Resuming.{on_step}
use Rattle.mw_lex.proofs.Lexemes.{token_ends}
use Rattle.mw_lex.proofs.Lexemes as lexemes
use Rattle.mw_read.proofs.Parsing.{constituent_class, token_solid, bars_whole, wrong_breaks}
use Rattle.mw_read.proofs.Advancing.{token_pending, token_datum, bars_advance}
use Rattle.mw_read.proofs.Beginning.{offset_is}

token_one : (o : ℕ) (t : List ℕ) (f : TokenForm) → token Ends o t f [] ≡ token_lexeme o false f ∷ []
token_one o t (Whole y) = refl
token_one o t Point = refl
token_one o t Bad = refl

token_ends_fault : (s : State) (o : ℕ) (t : List ℕ) (f : Fault) → 0 < length t → list_all is_constituent t ≡ true → following (on s (token_lexeme o false (token_form t))) (End (unfinished Ends (o + length t)) ∷ []) ≡ book [] (Some f) →
    resume s (lexemes_from Ends o 0 t) ≡ book [] (Some f)
token_ends_fault s o [] f l a q = absurd (omega arith)
token_ends_fault s o (c ∷ t) f l a q =
    let k = and_parts (is_constituent c) (list_all is_constituent t) a in
    let v = token_form (c ∷ t) in
    let r = End (unfinished Ends (o + length (c ∷ t))) ∷ [] in
    ap (resume s) (token_ends Ends o c t (constituent_class c k.0) k.1 ∙ ap (λ u. u ++ r) (token_one o (c ∷ t) v)) ∙ on_step s (token_lexeme o false v) (token_solid o false v) r ∙ q

module _ (os : List Object) (t : State) (old new : Parser) (f : is_full t ≡ false) (k : IsSound t) (l : 0 < length old.token.items) where
  module _ (i : old.begun ≡ Token) (a : list_all is_constituent old.token.items ≡ true) (m : new.begun ≡ AfterToken) (s : new.start ≡ old.start + length (old.token.items ++ [])) where
    n : old.token.items ++ [] ≡ old.token.items
    n = append-nil old.token.items

    here : offset_of new ≡ offset_of old
    here = offset_is new AfterToken (length new.token.items) (old.start + length (old.token.items ++ [])) m refl s ∙ ap (λ u. old.start + length u) n ∙ sym (offset_is old Token (length old.token.items) old.start i refl refl)

    pub token_lasts : (r : Outcome) → Took os new.stack r (on t (token_lexeme old.start false (token_form (old.token.items ++ [])))) → Lasts os t old r new
    token_lasts outcomes.Pending q = (
      token_pending os t old new [] 0 0 false [] i f k (subst (λ u. 0 < length u) (sym n) l) (subst (λ u. list_all is_constituent u ≡ true) (sym n) a) m s (token_form (old.token.items ++ [])) refl q,
      ap is_inside m,
      here,
      λ e x h. subst (λ b. Fits b e x) (sym i) tt,
    )
    token_lasts (outcomes.Datum x) q = (
      ap is_inside i,
      token_datum os t old new [] 0 0 false [] i f k (subst (λ u. 0 < length u) (sym n) l) (subst (λ u. list_all is_constituent u ≡ true) (sym n) a) m s x (token_form (old.token.items ++ [])) refl q,
      subst (λ u. IsStarted u new.token.items) (sym m) tt,
      here,
      omega (arith, ap weight m, ap weight i),
    )
    token_lasts (outcomes.Fault x) q =
        ap (λ u. resume t (ahead Ends u old.token.items old.start [])) i
        ∙ ap (λ u. resume t (lexemes_from Ends old.start 0 u)) n
        ∙ token_ends_fault t old.start old.token.items (fault_of x) l a
        (ap (λ (u : Turn). following u (End (unfinished Ends (old.start + length old.token.items)) ∷ [])) (sym (ap (λ u. on t (token_lexeme old.start false (token_form u))) n) ∙ q))

  module _ (i : old.begun ≡ Barred) (a : list_all is_name_byte old.token.items ≡ true) (m : new.begun ≡ AfterBar) (s : new.start ≡ old.start + 2 + length (old.token.items ++ [])) where
    bars_here : offset_of new ≡ offset_of old
    bars_here =
        offset_is new AfterBar (length new.token.items) (old.start + 2 + length (old.token.items ++ [])) m refl s
        ∙ ap (λ u. old.start + 2 + length u) (append-nil old.token.items)
        ∙ (let e : old.start + 2 + length old.token.items ≡ old.start + length old.token.items + 2 = omega arith in e)
        ∙ sym (offset_is old Barred (length old.token.items) old.start i refl refl)

    abbrev y : Object
    y = Symbol (name_of_bytes old.token.items)

    abbrev end : ℕ
    end = old.start + 2 + length old.token.items

    bars_mean : (e : Ending) (z : List ℕ) → Fits AfterBar e z → meaning_of e t old z ≡ resume t (Atom old.start y ∷ after glued_bar e end z)
    bars_mean e z fit = ap (λ m. resume t (ahead e m old.token.items old.start z)) i ∙ ap (resume t) (bars_whole e old.start old.token.items z l a fit)

    ends_at : new.start ≡ end
    ends_at = s ∙ ap (λ u. old.start + 2 + length u) (append-nil old.token.items)

    took_is : (r : Outcome) → Took os new.stack r (on t (Atom old.start (Symbol (name_of_bytes (old.token.items ++ []))))) → Took os new.stack r (on t (Atom old.start y))
    took_is r q = subst (λ u. Took os new.stack r (on t (Atom old.start (Symbol (name_of_bytes u))))) (append-nil old.token.items) q

    pub bars_lasts : (r : Outcome) → Took os new.stack r (on t (Atom old.start (Symbol (name_of_bytes (old.token.items ++ []))))) → Lasts os t old r new
    bars_lasts outcomes.Pending q = (bars_advance os t old new [] 0 0 end [] y outcomes.Pending (λ x e. absurd cc) bars_mean (took_is outcomes.Pending q) m ends_at, ap is_inside m, bars_here, λ e x h. subst (λ b. Fits b e x) (sym i) tt)
    bars_lasts (outcomes.Datum x) q = (
      ap is_inside i,
      bars_advance os t old new [] 0 0 end [] y (outcomes.Datum x) (λ x e. absurd cc) bars_mean (took_is (outcomes.Datum x) q) m ends_at,
      subst (λ u. IsStarted u new.token.items) (sym m) tt,
      bars_here,
      omega (arith, ap weight m, ap weight i),
    )
    bars_lasts (outcomes.Fault x) q =
        bars_mean Ends [] tt
        ∙ on_step t (Atom old.start y) tt (after glued_bar Ends end [])
        ∙ ap (λ (u : Turn). following u (after glued_bar Ends end [])) (took_is (outcomes.Fault x) q)

-- a text that cannot end
pub bars_end : (t : State) (old : Parser) → old.begun ≡ Bars → list_all is_name_byte old.token.items ≡ true → is_full t ≡ false → IsSound t → meaning_of Ends t old [] ≡ book [] (Some (fault END (offset_of old)))
bars_end t old i a f k =
    let o = old.start in
    let n = old.token.items in
    let r = End (unfinished Ends (o + suc (length n))) ∷ [] in
    let l = Wrong o (Some (fault END (o + 1 + length n))) in
    ap (λ u. resume t (ahead Ends u n o [])) i
    ∙ ap (λ u. resume t (lexemes_from Ends o 0 (124 ∷ u))) (append-nil n)
    ∙ ap (resume t) (lexemes.bars_end Ends o n a)
    ∙ on_step t l tt r
    ∙ ap (λ (u : Turn). following u r) (wrong_breaks t o (fault END (o + 1 + length n)) f k)
    ∙ ap (λ j. book [] (Some (fault END j))) ((let e : o + 1 + length n ≡ o + length n + 1 = omega arith in e) ∙ sym (offset_is old Bars (length n) o i refl refl))

pub hash_end : (t : State) (old : Parser) → old.begun ≡ Hash → list_all is_digit old.token.items ≡ true → length old.token.items ≤ 9 → is_full t ≡ false → IsSound t → meaning_of Ends t old [] ≡ book [] (Some (fault END (offset_of old)))
hash_end t old i a c f k =
    let o = old.start in
    let n = old.token.items in
    let r = End (unfinished Ends (o + suc (length n))) ∷ [] in
    let l = Wrong o (Some (fault END (o + 1 + length n))) in
    ap (λ u. resume t (ahead Ends u n o [])) i
    ∙ ap (λ u. resume t (lexemes_from Ends o 0 (35 ∷ u))) (append-nil n)
    ∙ ap (resume t) (lexemes.hash_end Ends o n a ∙ ap (λ v. (if v then Wrong o (Some (fault LABEL o)) ∷ [] else label Ends o n []) ++ r) (le-ltb 9 (length n) c))
    ∙ on_step t l tt r
    ∙ ap (λ (u : Turn). following u r) (wrong_breaks t o (fault END (o + 1 + length n)) f k)
    ∙ ap (λ j. book [] (Some (fault END j))) ((let e : o + 1 + length n ≡ o + length n + 1 = omega arith in e) ∙ sym (offset_is old Hash (length n) o i refl refl))
