-- What a parser does with one part of a piece after another.
use Rattle.std.proofs.Common.{◌≡◌, ℕ, zero, suc, ◌+◌, ◌*◌, ◌<◌, ◌≤◌, true, false, List, [], ◌∷◌, ◌++◌, length, take, drop, get_or, refl, sym, ap, ◌∙◌, subst, arith, append_assoc}
use Rattle.std.proofs.lemmas.List.{length-drop, drop-drop, get_or-drop}
use Rattle.mw_model.specs.Terms.Object.{Object}
use Rattle.mw_model.specs.Texts.Lexemes.{Ending, Goes, is_white}
use Rattle.mw_heap.specs.Objects.{Grows}
use Rattle.mw_read.specs.Machine.{State}
use Rattle.mw_read.specs.Held.{Holds}
use Rattle.mw_read.specs.Parsing.{meaning_of, Fits, Advances, EndsAt, Moves, Moved, is_inside, offset_of, weight}
use Rattle.mw_read.specs.Standing.{Reached, Reaches}
use Rattle.mw_read.specs.declared.parser.Begun.{Begun}
use Rattle.mw_read.specs.declared.parser.Begun.TheVariants.{Nothing, Comment, Token, Bars, Barred, Hash, AfterToken, AfterBar}
use Rattle.mw_read.specs.declared.parser.Parser.{Parser}
use Rattle.mw_read.specs.declared.step.Outcome.{Outcome}
use Rattle.mw_read.specs.declared.step.Outcome.TheVariants as outcomes
use Rattle.mw_heap.proofs.Objects.{Grows-trans}
use Rattle.mw_read.proofs.Bare.{take_cut}

-- what a loop over the piece keeps
pub record Scans (first : List Object) (old : Parser) (piece : List ℕ) (os : List Object) (p : Parser) (n : ℕ) : Type 0 where
  pub kept : Grows first os
  pub within : n ≤ length piece
  pub reached : Reached old piece n p
  pub advances : (t : State) → Holds first old.stack t → Advances os t old piece outcomes.Pending n p

pub fits_more : (m : Begun) (e : Ending) (x y : List ℕ) → Fits m Goes x → Fits m e (x ++ y)
fits_more Nothing e x y h = tt
fits_more Comment e x y h = tt
fits_more Token e x y h = tt
fits_more Bars e x y h = tt
fits_more Barred e x y h = tt
fits_more Hash e x y h = tt
fits_more AfterToken e [] y h = absurd h
fits_more AfterToken e (b ∷ x) y h = h
fits_more AfterBar e [] y h = absurd h
fits_more AfterBar e (b ∷ x) y h = h

fits_take : (m : Begun) (e : Ending) (x y : List ℕ) (n w : ℕ) → Fits m Goes x → w < weight m + 2 * n → Fits m e (take n x ++ y)
fits_take Nothing e x y n w h l = tt
fits_take Comment e x y n w h l = tt
fits_take Token e x y n w h l = tt
fits_take Bars e x y n w h l = tt
fits_take Barred e x y n w h l = tt
fits_take Hash e x y n w h l = tt
fits_take AfterToken e x y zero w h l = absurd (omega (arith, l))
fits_take AfterToken e [] y (suc n) w h l = absurd h
fits_take AfterToken e (b ∷ x) y (suc n) w h l = h
fits_take AfterBar e x y zero w h l = absurd (omega (arith, l))
fits_take AfterBar e [] y (suc n) w h l = absurd h
fits_take AfterBar e (b ∷ x) y (suc n) w h l = h

heavy_inside : (m : Begun) → 0 < weight m → is_inside m ≡ true
heavy_inside Token l = refl
heavy_inside Barred l = refl
heavy_inside m l = absurd (omega arith)

pub take_both : (m n : ℕ) (xs : List ℕ) → take (m + n) xs ≡ take m xs ++ take n (drop m xs)
take_both zero n xs = ap (λ k. take k xs) (let e : 0 + n ≡ n = omega arith in e)
take_both (suc m) n [] = none (suc m + n) ∙ sym (none n)
  where
    none : (k : ℕ) → take {A = ℕ} k [] ≡ []
    none zero = refl
    none (suc k) = refl
take_both (suc m) n (x ∷ xs) = ap (λ k. take k (x ∷ xs)) (let e : suc m + n ≡ suc (m + n) = omega arith in e) ∙ ap (λ u. x ∷ u) (take_both m n xs)

module _ (first : List Object) (old : Parser) (piece : List ℕ) (os : List Object) (mid : Parser) (at : ℕ) (s : Scans first old piece os mid at)
    (os2 : List Object) (new : Parser) (g : Grows os os2) (some : at < length piece) where
  abbrev rest : List ℕ
  rest = drop at piece

  some_rest : 0 < length rest
  some_rest = omega (arith, length-drop at piece, some)

  both : (n : ℕ) → Moved mid rest n new → Reached old piece (at + n) new
  both n m = record {
    offset = (let e : offset_of new ≡ offset_of old + (at + n) = omega (arith, m.offset, s.reached.offset) in e);
    left = subst (λ u. Fits new.begun Goes u) (drop-drop n at piece) m.left;
    started = m.started;
    fits = λ e x h.
        subst (λ u. Fits old.begun e u) (sym (ap (λ y. y ++ x) (take_both at n piece) ∙ append_assoc (take at piece) (take n rest) x))
        (s.reached.fits e (take n rest ++ x) (fits_take mid.begun e rest x n (weight new.begun) s.reached.left (m.less some_rest)));
    less = omega (arith, m.less some_rest, s.reached.less);
    stops = λ l i. omega (arith, m.stops i, length-drop at piece, some);
  }

  -- a datum ends in what was taken last, since a text that goes on comes from another piece
  ends : (n : ℕ) → Moved mid rest n new → EndsAt new.begun rest n → EndsAt new.begun piece (at + n)
  ends n m e = record { between = e.between; last = last n m e }
    where
      last : (n : ℕ) → Moved mid rest n new → EndsAt new.begun rest n → (k : ℕ) → at + n ≡ suc k → is_white (get_or piece k 0) ≡ false
      last zero m e k h =
          let taken : 0 < at = omega (arith, h) in
          let heavy : 0 < weight mid.begun = omega (arith, m.less some_rest) in
          absurd (omega (arith, some, s.reached.stops taken (heavy_inside mid.begun heavy)))
      last (suc n) m e k h =
          ap is_white (ap (λ i. get_or piece i 0) (let j : k ≡ at + n = omega (arith, h) in j) ∙ sym (get_or-drop at piece n 0)) ∙ e.last n refl

  pub scan_reaches : (r : Outcome) (n : ℕ) → Moves r mid rest n new → Reaches r old piece (at + n) new
  scan_reaches outcomes.Pending n m = both n m
  scan_reaches (outcomes.Datum x) n m = (both n m.0, omega (arith, m.0.less some_rest, s.reached.less), ends n m.0 m.1)
  scan_reaches (outcomes.Fault f) n m = tt

  on_again : (t u : State) (n : ℕ) → ((e : Ending) (z : List ℕ) → Fits mid.begun e z → meaning_of e t old (take at piece ++ z) ≡ meaning_of e u mid z) → Moved mid rest n new →
      (e : Ending) (z : List ℕ) → meaning_of e t old (take (at + n) piece ++ z) ≡ meaning_of e u mid (take n rest ++ z)
  on_again t u n f m e z =
      ap (λ y. meaning_of e t old (y ++ z)) (take_both at n piece)
      ∙ ap (meaning_of e t old) (append_assoc (take at piece) (take n rest) z)
      ∙ f e (take n rest ++ z) (fits_take mid.begun e rest z n (weight new.begun) s.reached.left (m.less some_rest))

  pub scan_advances : (r : Outcome) (n : ℕ) → Moves r mid rest n new → ((t : State) → Holds os mid.stack t → Advances os2 t mid rest r n new) →
      (t : State) → Holds first old.stack t → Advances os2 t old piece r (at + n) new
  scan_advances outcomes.Pending n m f t h =
      let a = s.advances t h in
      let q = f a.0 a.1 in
      (q.0, q.1, q.2, λ e z fit. on_again t a.0 n a.3 m e z ∙ q.3 e z fit)
  scan_advances (outcomes.Datum x) n m f t h =
      let a = s.advances t h in
      let q = f a.0 a.1 in
      (q.0, q.1, q.2, λ e z fit. on_again t a.0 n a.3 m.0 e z ∙ q.3 e z fit)
  scan_advances (outcomes.Fault x) n m f t h =
      let a = s.advances t h in
      λ e z. ap (meaning_of e t old) (take_cut [] piece at z) ∙ a.3 e (rest ++ z) (fits_more mid.begun e rest z s.reached.left) ∙ f a.0 a.1 e z

  pub scan_next : (n : ℕ) → n ≤ length rest → Moves outcomes.Pending mid rest n new → ((t : State) → Holds os mid.stack t → Advances os2 t mid rest outcomes.Pending n new) → Scans first old piece os2 new (at + n)
  scan_next n l m f = record {
    kept = Grows-trans first os os2 s.kept g;
    within = omega (arith, l, length-drop at piece, some);
    reached = both n m;
    advances = scan_advances outcomes.Pending n m f;
  }
