-- What a parser's answers say of the whole book.
use Rattle.std.proofs.Common.{◌≡◌, ℕ, zero, suc, ◌+◌, ◌-◌, ◌<◌, ◌≤◌, Bool, true, false, leb, min, List, [], ◌∷◌, ◌++◌, length, take, drop, Option, Some, None, refl, sym, ap, ◌∙◌, subst, arith, true≢false, leb-true, append_assoc, append-nil, length-append, le-ltb, if◌then◌else◌}
use Rattle.std.proofs.lemmas.Bool.{le-leb, and_parts}
use Rattle.std.proofs.lemmas.List.{take_all, drop_all, take_min, take-take, drop-take, length-take-le, length-drop, take-append-le, get_or-take}
use Rattle.std.proofs.Math.Nat.{min-le_left, min-le_right}
use Rattle.mw_model.specs.Terms.Object.{Object}
use Rattle.mw_model.specs.Texts.Lexemes.{Fault, fault, LENGTH, LABEL, Wrong, End, Ending, Ends, Goes, lexemes_from, is_constituent, is_white, token_form}
use Rattle.std.specs.List.{list_all}
use Rattle.mw_model.specs.Texts.Grammar.{book, and_events, reading, limit, cut_short, trees}
use Rattle.mw_read.specs.Machine.{State, Idle, IsSound, is_full, end_fault}
use Rattle.mw_read.specs.Resume.{resume, onward}
use Rattle.mw_read.specs.Held.{Holds, Completes}
use Rattle.mw_read.specs.Parsing.{ahead, meaning_of, Fits, IsText, IsBetween, IsParser, IsStarted, Advances, EndsAt, is_inside, offset_of, offset_at}
use Rattle.mw_read.specs.Standing.{Reached, Reaches, Stands, Follows, Gives, GivesAfter, GivesLast, Says, Finishes, Lasts}
use Rattle.mw_read.specs.declared.parser.Begun.{Begun}
use Rattle.mw_read.specs.declared.parser.Begun.TheVariants.{Nothing, Comment, Token, Bars, Barred, Hash, AfterToken, AfterBar}
use Rattle.mw_read.specs.declared.parser.Parser.{Parser}
use Rattle.mw_read.specs.declared.step.Outcome.TheVariants as outcomes
use Rattle.mw_read.specs.declared.step.Step.{Step}
use Rattle.mw_read.specs.declared.step.Step.TheVariants as steps
use Rattle.mw_read.proofs.Bytes.{onward_book, ended, ended_at, stopped}
use Rattle.mw_lex.proofs.Lexemes.{token_ends, token_open, bars_end, barred_end, hash_end}
use Rattle.mw_read.proofs.Resuming.{onward_append}
use Rattle.mw_read.proofs.Holding.{holds_full, sound_clamp}
use Rattle.mw_read.proofs.Bare.{take_cut}
use Rattle.mw_read.proofs.Parsing.{constituent_class}
use Rattle.mw_read.proofs.Scanning.{fits_more}
use Rattle.mw_read.proofs.Emptied.{emptied}

pub fits_end : (m : Begun) → Fits m Ends []
fits_end Nothing = tt
fits_end Comment = tt
fits_end Token = tt
fits_end Bars = tt
fits_end Barred = tt
fits_end Hash = tt
fits_end AfterToken = tt
fits_end AfterBar = tt

pub fits_any : (m : Begun) (e : Ending) (x : List ℕ) → Fits m Goes [] → Fits m e x
fits_any Nothing e x h = tt
fits_any Comment e x h = tt
fits_any Token e x h = tt
fits_any Bars e x h = tt
fits_any Barred e x h = tt
fits_any Hash e x h = tt
fits_any AfterToken e x h = absurd h
fits_any AfterBar e x h = absurd h

pub fits_inside : (m : Begun) (e : Ending) (x : List ℕ) → is_inside m ≡ true → Fits m e x
fits_inside Token e x h = tt
fits_inside Bars e x h = tt
fits_inside Barred e x h = tt
fits_inside Hash e x h = tt
fits_inside Nothing e x h = tt
fits_inside Comment e x h = tt
fits_inside AfterToken e x h = absurd (true≢false (sym h))
fits_inside AfterBar e x h = absurd (true≢false (sym h))

started_outside : (m : Begun) (t : List ℕ) → is_inside m ≡ false → IsStarted m t
started_outside Token t h = absurd (true≢false h)
started_outside Nothing t h = tt
started_outside Comment t h = tt
started_outside Bars t h = tt
started_outside Barred t h = tt
started_outside Hash t h = tt
started_outside AfterToken t h = tt
started_outside AfterBar t h = tt

-- the end, where no text goes on
pub over_meaning : (u : State) (m : Begun) (t : List ℕ) (o : ℕ) → is_inside m ≡ false → resume u (ahead Ends m t o []) ≡ book [] (end_fault u (offset_at m (length t) o))
over_meaning u Nothing t o h = ended_at u o []
over_meaning u Comment t o h = ended_at u (suc o) [] ∙ ap (λ n. book [] (end_fault u n)) (let e : suc o ≡ o + 1 = omega arith in e)
over_meaning u AfterToken t o h = ended_at u o []
over_meaning u AfterBar t o h = ended_at u o []
over_meaning u Token t o h = absurd (true≢false h)
over_meaning u Bars t o h = absurd (true≢false h)
over_meaning u Barred t o h = absurd (true≢false h)
over_meaning u Hash t o h = absurd (true≢false h)

-- more may follow: no further datum is complete
pub more_meaning : (u : State) (m : Begun) (t : List ℕ) (o : ℕ) → Fits m Goes [] → IsText m t → (is_inside m ≡ true → is_full u ≡ false) → IsSound u → resume u (ahead Goes m t o []) ≡ book [] None
more_meaning u Nothing t o h x f k = ended u [] k
more_meaning u Comment t o h x f k = ended u [] k
more_meaning u Token [] o h x f k = ended u [] k
more_meaning u Token (c ∷ t) o h x f k =
    let a = and_parts (is_constituent c) (list_all is_constituent t) x in
    ap (λ y. resume u (lexemes_from Goes o 0 (c ∷ y))) (append-nil t)
    ∙ ap (resume u) (token_ends Goes o c t (constituent_class c a.0) a.1 ∙ ap (λ l. l ++ End None ∷ []) (token_open o (c ∷ t) (token_form (c ∷ t))))
    ∙ stopped u o (End None ∷ []) (f refl) k
more_meaning u Bars t o h x f k = ap (λ y. resume u (lexemes_from Goes o 0 (124 ∷ y))) (append-nil t) ∙ ap (resume u) (bars_end Goes o t x) ∙ stopped u o (End None ∷ []) (f refl) k
more_meaning u Barred [] o h x f k = absurd (omega (arith, x.1))
more_meaning u Barred (c ∷ t) o h x f k = ap (resume u) (barred_end Goes o c t x.0) ∙ stopped u o (End None ∷ []) (f refl) k
more_meaning u Hash t o h x f k =
    ap (λ y. resume u (lexemes_from Goes o 0 (35 ∷ y))) (append-nil t)
    ∙ ap (resume u) (hash_end Goes o t x.0 ∙ ap (λ v. (if v then Wrong o (Some (fault LABEL o)) ∷ [] else Wrong o None ∷ []) ++ End None ∷ []) (le-ltb 9 (length t) x.1))
    ∙ stopped u o (End None ∷ []) (f refl) k
more_meaning u AfterToken t o h x f k = absurd h
more_meaning u AfterBar t o h x f k = absurd h

-- books that are not too long, and others
trees_short : (g : List ℕ) → length g ≤ limit → trees g ≡ reading Ends g
trees_short g l = ap (λ v. if v then reading Ends g else cut_short (reading Goes (take limit g))) (le-leb (length g) limit l)

take_past : (h w : List ℕ) (m : ℕ) → length h ≤ m → take m (h ++ w) ≡ h ++ take (m - length h) w
take_past [] w m l = ap (λ n. take n w) (let e : m ≡ m - 0 = omega arith in e)
take_past (c ∷ h) w zero l = absurd (omega arith)
take_past (c ∷ h) w (suc m) l = ap (λ u. c ∷ u) (take_past h w m (omega arith) ∙ ap (λ n. h ++ take n w) (let e : m - length h ≡ suc m - suc (length h) = omega arith in e))

pub fault_trees : (h : List ℕ) (given : List Object) (f : Fault) → length h ≤ limit → ((e : Ending) (x : List ℕ) → reading e (h ++ x) ≡ book given (Some f)) → (w : List ℕ) → trees (h ++ w) ≡ book given (Some f)
fault_trees h given f l r w = go (leb (length (h ++ w)) limit)
  where
    go : (v : Bool) → (if v then reading Ends (h ++ w) else cut_short (reading Goes (take limit (h ++ w)))) ≡ book given (Some f)
    go true = r Ends w
    go false = ap (λ y. cut_short (reading Goes y)) (take_past h w limit l) ∙ ap cut_short (r Goes (take (limit - length h) w))

pub long_trees : (h w : List ℕ) (given : List Object) → length h ≡ limit → 0 < length w → reading Goes h ≡ book given None → trees (h ++ w) ≡ book given (Some (fault LENGTH limit))
long_trees h w given l s r =
    ap (λ v. if v then reading Ends (h ++ w) else cut_short (reading Goes (take limit (h ++ w)))) (not-leb (length (h ++ w)) limit (omega (arith, length-append h w)))
    ∙ ap (λ y. cut_short (reading Goes y)) (take-append-le limit h w (omega arith) ∙ take_all limit h (omega arith))
    ∙ ap cut_short r
  where
    not-leb : (a b : ℕ) → b < a → leb a b ≡ false
    not-leb a b k = go (leb a b) refl
      where
        go : (v : Bool) → leb a b ≡ v → leb a b ≡ false
        go true e = absurd (let c = leb-true a b e in omega (arith, c, k))
        go false e = e

pub stands_ends : (os : List Object) (p : Parser) (g : List ℕ) (given : List Object) (s : Stands os p g given) (f : Option Fault) → meaning_of Ends s.state p [] ≡ book [] f → trees g ≡ book given f
stands_ends os p g given s f h =
    trees_short g s.short
    ∙ ap (reading Ends) (sym (append-nil g))
    ∙ s.means Ends [] (fits_end p.begun)
    ∙ ap (onward given) h
    ∙ onward_book given [] f
    ∙ ap (λ u. book u f) (append-nil given)

pub stands_goes : (os : List Object) (p : Parser) (g : List ℕ) (given : List Object) → Stands os p g given → Fits p.begun Goes [] → reading Goes g ≡ book given None
stands_goes os p g given s h =
    ap (reading Goes) (sym (append-nil g))
    ∙ s.means Goes [] h
    ∙ ap (onward given) (more_meaning s.state p.begun p.token.items p.start h s.parser.text (λ i. sym (holds_full os p.stack s.state s.holds) ∙ s.parser.ready i) (sound_clamp os p.stack s.state s.holds.means))
    ∙ onward_book given [] None
    ∙ ap (λ u. book u None) (append-nil given)

-- a parser that has not ended
abbrev pub unended : Parser → Parser
unended p = record p { ended = None }

-- a parser that has not ended, on whose stack no part was cut
abbrev pub uncut : Parser → Parser
uncut p = record p { stack = record p.stack { big = false }; ended = None }

-- a datum is given
module _ (os0 os : List Object) (old mid : Parser) (g : List ℕ) (given : List Object) (s : Stands os0 old g given) where
  pub given_stands : (x : ℕ) (y : Object) (w : List ℕ) → Completes os mid.stack x y → IsParser os mid → IsStarted mid.begun mid.token.items → offset_of mid ≡ length (g ++ w) → length (g ++ w) ≤ limit →
      ((e : Ending) (z : List ℕ) → Fits mid.begun e z → Fits old.begun e (w ++ z)) →
      ((e : Ending) (z : List ℕ) → Fits mid.begun e z → meaning_of e s.state old (w ++ z) ≡ and_events y (meaning_of e Idle mid z)) → (any : List Object) → Stands any (uncut mid) (g ++ w) (given ++ y ∷ [])
  given_stands x y w q k st o l f m any =
      let h = emptied os any mid.stack x y q in
      record {
        state = Idle;
        holds = h;
        parser = record { stack = h.stack; text = k.text; ready = λ i. holds_full any (uncut mid).stack Idle h };
        started = st;
        offset = o;
        short = l;
        goes_on = refl;
        means = λ e z fit.
            ap (reading e) (append_assoc g w z)
            ∙ s.means e (w ++ z) (f e z fit)
            ∙ ap (onward given) (m e z fit)
            ∙ sym (onward_append given (y ∷ []) (meaning_of e Idle mid z));
      }

  -- no datum is given
  pub going_stands : (u : State) (w : List ℕ) → Holds os mid.stack u → IsParser os mid → IsStarted mid.begun mid.token.items → offset_of mid ≡ length (g ++ w) → length (g ++ w) ≤ limit →
      ((e : Ending) (z : List ℕ) → Fits mid.begun e z → Fits old.begun e (w ++ z)) →
      ((e : Ending) (z : List ℕ) → Fits mid.begun e z → meaning_of e s.state old (w ++ z) ≡ meaning_of e u mid z) → Stands os (unended mid) (g ++ w) given
  going_stands u w h k st o l f m = record {
    state = u;
    holds = h;
    parser = record { stack = k.stack; text = k.text; ready = k.ready };
    started = st;
    offset = o;
    short = l;
    goes_on = refl;
    means = λ e z fit. ap (reading e) (append_assoc g w z) ∙ s.means e (w ++ z) (f e z fit) ∙ ap (onward given) (m e z fit);
  }

-- where the book ends no datum is given
pub ended_stands : (os0 os : List Object) (old mid : Parser) (g : List ℕ) (given : List Object) (s : Stands os0 old g given) → Lasts os s.state old outcomes.Pending mid → Stands os (unended mid) g given
ended_stands os0 os old mid g given s q =
    let nil = append-nil g in
    let o : offset_of mid ≡ length (g ++ []) = q.2 ∙ s.offset ∙ sym (ap length nil) in
    subst (λ u. Stands os (unended mid) u given) nil
    (going_stands os0 os old mid g given s q.0.0 [] q.0.1 q.0.2 (started_outside mid.begun mid.token.items q.1) o (subst (λ u. length u ≤ limit) (sym nil) s.short) q.3 q.0.3)

pub finishes_of : (os : List Object) (old : Parser) (g : List ℕ) (given : List Object) (p : Parser) (y : Object) (t : Step) → Gives os y t → GivesLast old g given y p → Finishes os old g given t p
finishes_of os old g given p y (steps.Datum r) h s = (y, h, s)
finishes_of os old g given p y (steps.TooBig w l) h s = (y, h, s)
finishes_of os old g given p y steps.More h s = absurd h
finishes_of os old g given p y steps.End h s = absurd h
finishes_of os old g given p y (steps.Syntax k o) h s = absurd h
finishes_of os old g given p y steps.Memory h s = absurd h

pub says_of : (os : List Object) (old : Parser) (g : List ℕ) (given : List Object) (piece : List ℕ) (n : ℕ) (p : Parser) (y : Object) (t : Step) → Gives os y t → GivesAfter old g given piece y n p → Says os old g given piece t n p
says_of os old g given piece n p y (steps.Datum r) h s = (y, h, s)
says_of os old g given piece n p y (steps.TooBig w l) h s = (y, h, s)
says_of os old g given piece n p y steps.More h s = absurd h
says_of os old g given piece n p y steps.End h s = absurd h
says_of os old g given piece n p y (steps.Syntax k o) h s = absurd h
says_of os old g given piece n p y steps.Memory h s = absurd h

between_ends : (m : Begun) (t : List ℕ) (o : ℕ) → IsBetween m → resume Idle (ahead Ends m t o []) ≡ book [] None
between_ends Nothing t o i = refl
between_ends AfterToken t o i = refl
between_ends AfterBar t o i = refl
between_ends m t o i = absurd i

-- the part of a piece that a book may have
module _ (os0 os : List Object) (old mid : Parser) (g : List ℕ) (given : List Object) (s : Stands os0 old g given) (piece : List ℕ) (k : ℕ) (e : k ≡ min (length piece) (limit - offset_of old)) where
  abbrev part : List ℕ
  part = take k piece

  k_within : k ≤ length piece
  k_within = omega (arith, e, min-le_left (length piece) (limit - offset_of old))

  k_room : length g + k ≤ limit
  k_room = omega (arith, e, min-le_right (length piece) (limit - offset_of old), s.offset, s.short)

  part_length : length part ≡ k
  part_length = length-take-le k piece k_within

  same_take : (a b : ℕ) (xs : List ℕ) → min a (length xs) ≡ min b (length xs) → take a xs ≡ take b xs
  same_take a b xs h = sym (take_min a xs) ∙ ap (λ n. take n xs) h ∙ take_min b xs

  pub part_follows : Follows old piece → Fits old.begun Goes part
  part_follows h = subst (λ u. Fits old.begun Goes u) (same_take (limit - offset_of old) k piece (omega (arith, e))) h

  reached_length : (n : ℕ) → n ≤ length part → length (g ++ take n part) ≡ length g + n
  reached_length n l = length-append g (take n part) ∙ ap (λ m. length g + m) (length-take-le n part l)

  reached_short : (n : ℕ) → n ≤ length part → length (g ++ take n part) ≤ limit
  reached_short n l = omega (arith, reached_length n l, k_room, part_length, l)

  reached_offset : (n : ℕ) → n ≤ length part → Reached old part n mid → offset_of mid ≡ length (g ++ take n part)
  reached_offset n l m = omega (arith, reached_length n l, m.offset, s.offset)

  reached_left : (n : ℕ) → n ≤ length part → Reached old part n mid → Follows mid (drop n piece)
  reached_left n l m =
      subst (λ u. Fits mid.begun Goes u)
      ((ap (λ j. drop n (take j piece)) (let q : k ≡ n + (k - n) = omega (arith, l, part_length) in q) ∙ drop-take n (k - n) piece)
      ∙ same_take (k - n) (limit - offset_of mid) (drop n piece) (omega (arith, e, m.offset, length-drop n piece, l, part_length)))
      m.left

  -- where the book ends there, the datum is its last
  complete_there : (y : Object) (n : ℕ) → Reached old part n mid → IsBetween mid.begun → ((e : Ending) (z : List ℕ) → Fits mid.begun e z → meaning_of e s.state old (take n part ++ z) ≡ and_events y (meaning_of e Idle mid z)) →
      reading Ends (g ++ take n part) ≡ book (given ++ y ∷ []) None
  complete_there y n m i f =
      let fit = fits_end mid.begun in
      ap (reading Ends) (ap (λ u. g ++ u) (sym (append-nil (take n part))))
      ∙ s.means Ends (take n part ++ []) (m.fits Ends [] fit)
      ∙ ap (onward given) (f Ends [] fit ∙ ap (and_events y) (between_ends mid.begun mid.token.items mid.start i))
      ∙ onward_book given (y ∷ []) None

  ends_there : (n : ℕ) → n ≤ length part → EndsAt mid.begun part n → EndsAt mid.begun piece n
  ends_there n l e = record {
    between = e.between;
    last = λ j h. ap is_white (sym (get_or-take k piece j 0 (omega (arith, h, l, part_length)))) ∙ e.last j h;
  }

  pub datum_after : (x : ℕ) (n : ℕ) → n ≤ length part → Reaches (outcomes.Datum x) old part n mid → Advances os s.state old part (outcomes.Datum x) n mid →
      (y : Object) × Completes os mid.stack x y × GivesAfter old g given piece y n (uncut mid)
  datum_after x n l m q = (
    q.0,
    q.1,
    record {
      taken = (let j : n ≤ length piece = omega (arith, l, part_length, k_within) in j);
      complete = subst (λ u. reading Ends (g ++ u) ≡ book (given ++ q.0 ∷ []) None) (take-take n k piece (omega (arith, l, part_length))) (complete_there q.0 n m.0 m.2.between q.3);
      ends = ends_there n l m.2;
      stands = λ any.
          subst (λ u. Stands any (uncut mid) (g ++ u) (given ++ q.0 ∷ [])) (take-take n k piece (omega (arith, l, part_length)))
          (given_stands os0 os old mid g given s x q.0 (take n part) q.1 q.2 m.0.started (reached_offset n l m.0) (reached_short n l) m.0.fits q.3 any);
      left = reached_left n l m.0;
      less = omega (arith, m.1, length-drop n piece, l, part_length, k_within);
    },
  )

  whole_part : take (length part) part ≡ part
  whole_part = take_all (length part) part (omega arith)

  pub all_stands : (n : ℕ) → n ≡ length part → Reached old part n mid → Advances os s.state old part outcomes.Pending n mid → Stands os (unended mid) (g ++ part) given × Fits mid.begun Goes []
  all_stands n h m q =
      let l : n ≤ length part = omega (arith, h) in
      let t : take n part ≡ part = ap (λ j. take j part) h ∙ whole_part in (
        subst (λ u. Stands os (unended mid) (g ++ u) given) t (going_stands os0 os old mid g given s q.0 (take n part) q.1 q.2 m.started (reached_offset n l m) (reached_short n l) m.fits q.3),
        subst (λ u. Fits mid.begun Goes u) (drop_all n part (omega (arith, h))) m.left,
      )

  pub all_says : (n : ℕ) → n ≡ length part → (n < length piece → ⊥) → Reached old part n mid → Advances os s.state old part outcomes.Pending n mid → Says os old g given piece steps.More n (unended mid)
  all_says n h f m q =
      let a = all_stands n h m q in
      let same : k ≡ length piece = omega (arith, f, h, part_length, k_within) in
      let w : part ≡ piece = take_all k piece (omega (arith, same)) in
      let t = subst (λ u. Stands os (unended mid) (g ++ u) given) w a.0 in (
        (let j : n ≡ length piece = omega (arith, same, h, part_length) in j),
        t,
        (λ x. fits_any mid.begun Goes (take (limit - offset_of mid) x) a.1),
        stands_goes os (unended mid) (g ++ piece) given t a.1,
      )

  pub long_says : (n : ℕ) → n ≡ length part → n < length piece → Reached old part n mid → Advances os s.state old part outcomes.Pending n mid → (rest : List ℕ) → trees (g ++ (piece ++ rest)) ≡ book given (Some (fault LENGTH limit))
  long_says n h f m q rest =
      let a = all_stands n h m q in
      let all : length (g ++ part) ≡ limit = omega (arith, length-append g part, part_length, e, h, f, s.offset, s.short) in
      let some : 0 < length (drop k piece ++ rest) = omega (arith, length-append (drop k piece) rest, length-drop k piece, h, f, part_length) in
      ap trees (take_cut g piece k rest) ∙ long_trees (g ++ part) (drop k piece ++ rest) given all some (stands_goes os (unended mid) (g ++ part) given a.0 a.1)

  pub fault_says : (f : Fault) → Fits old.begun Goes part → ((e : Ending) (x : List ℕ) → meaning_of e s.state old (part ++ x) ≡ book [] (Some f)) → (rest : List ℕ) → trees (g ++ (piece ++ rest)) ≡ book given (Some f)
  fault_says f h m rest =
      ap trees (take_cut g piece k rest)
      ∙ fault_trees (g ++ part) given f (omega (arith, length-append g part, part_length, k_room))
      (λ e x.
      ap (reading e) (append_assoc g part x)
      ∙ s.means e (part ++ x) (fits_more old.begun e part x h)
      ∙ ap (onward given) (m e x)
      ∙ onward_book given [] (Some f)
      ∙ ap (λ u. book u (Some f)) (append-nil given))
      (drop k piece ++ rest)
