-- The lexemes of a line without faults are alike whatever stands on the next lines, and wherever the line stands; so are those of a part of a
-- line before another delimiter, unless a comment is begun in it.
use Rattle.std.proofs.Common.{◌≡◌, ℕ, zero, suc, ◌+◌, ◌≤◌, Bool, true, false, ◌&&◌, ◌||◌, not, eqb, ltb, List, [], ◌∷◌, ◌++◌, length, Option, Some, None, refl, sym, ap, ap₂, ◌∙◌, subst, arith, append_assoc, append-nil, if◌then◌else◌}
use Rattle.std.proofs.lemmas.Bool.{and_parts, and_right}
use Rattle.mw_model.specs.Terms.Object.{Object, Symbol, is_name_byte, name_of_bytes}
use Rattle.mw_model.specs.Texts.Lexemes.{Lexeme, fault, TOKEN, BYTE, LABEL, Atom, Open, Close, Dot, Quote, Mark, Ref, Wrong, Stray, End, Fault, Ends, Class, White, Semicolon, Opening, Closing, Apostrophe, Bar, Hash, Constituent, Other, class, piece, extent, lexemes_from, unfinished, run_of, after_run, is_constituent, is_digit, is_inside_comment, glued, glued_bar, atom, dot, refused, token, TokenForm, Whole, Point, Bad, token_form, bar_closed, barred, label, hashed, decimal_value}
use Rattle.std.specs.List.{list_all}
use Rattle.mw_model.proofs.Locality.{Alike, AllAlike, none_alike, more_alike, alike_both}
use Rattle.mw_model.proofs.Numerals.{all_are-append}
use Rattle.mw_model.proofs.Lexing.{Delimits, run_of-append, lexemes_from-taken}
use Rattle.mw_model.proofs.LexingPieces.{IsClean, clean_first, clean_rest, is_comment, piece_fits}

abbrev pub no_newline : List ℕ → Bool
no_newline t = list_all (λ b. not (eqb b 10)) t

-- ---- the pieces of a line

-- in front of what is clean and ends stands what is clean
record Front (P X front : List Lexeme) (s : Option Fault) : Type 0 where
  more : List Lexeme
  is : front ≡ P ++ more
  rest : X ≡ more ++ End s ∷ []
  here : IsClean P
  there : IsClean more

-- no end among them, and each fault is said
abbrev pub NoEnd : List Lexeme → Type 0
NoEnd [] = Unit {0}
NoEnd (End s ∷ L) = ⊥
NoEnd (Wrong o None ∷ L) = ⊥
NoEnd (l ∷ L) = NoEnd L

front_of : (P X front : List Lexeme) (s : Option Fault) → NoEnd P → P ++ X ≡ front ++ End s ∷ [] → IsClean front → Front P X front s
front_of [] X front s n e c = record { more = front; is = refl; rest = e; here = none_alike; there = c }
front_of (End t ∷ P) X front s n e c = absurd n
front_of (Wrong o None ∷ P) X front s n e c = absurd n
front_of (Atom o x ∷ P) X [] s n e c = cc
front_of (Open o ∷ P) X [] s n e c = cc
front_of (Close o ∷ P) X [] s n e c = cc
front_of (Dot o ∷ P) X [] s n e c = cc
front_of (Quote o ∷ P) X [] s n e c = cc
front_of (Mark o k ∷ P) X [] s n e c = cc
front_of (Ref o k ∷ P) X [] s n e c = cc
front_of (Wrong o (Some g) ∷ P) X [] s n e c = cc
front_of (Stray f ∷ P) X [] s n e c = cc
front_of (l ∷ P) X (m ∷ front) s n e c =
    let head : m ≡ l = cc in
    let tail : P ++ X ≡ front ++ End s ∷ [] = cc in
    let r = front_of P X front s n tail (clean_rest m front c) in
    record { more = r.more; is = ap₂ ◌∷◌ head r.is; rest = r.rest; here = more_alike l l P P (subst (λ z. Alike z z) head (clean_first m front c)) r.here; there = r.there }

atom_no_end : (bad : ℕ → Bool) (o end : ℕ) (x : Object) (after : List ℕ) → NoEnd (atom Ends bad o x end after)
atom_no_end bad o end x [] = tt
atom_no_end bad o end x (b ∷ after) = go (bad b)
  where
    go : (v : Bool) → NoEnd (if v then Atom o x ∷ Stray (fault TOKEN end) ∷ [] else Atom o x ∷ [])
    go true = tt
    go false = tt

dot_no_end : (o : ℕ) (after : List ℕ) → NoEnd (dot Ends o after)
dot_no_end o [] = tt
dot_no_end o (b ∷ after) = go (glued b)
  where
    go : (v : Bool) → NoEnd (if v then Wrong o (Some (fault TOKEN (o + 1))) ∷ [] else Dot o ∷ [])
    go true = tt
    go false = tt

refused_no_end : (o : ℕ) (after : List ℕ) → NoEnd (refused Ends o after)
refused_no_end o [] = tt
refused_no_end o (b ∷ after) = tt

token_no_end : (o : ℕ) (t : List ℕ) (f : TokenForm) (after : List ℕ) → NoEnd (token Ends o t f after)
token_no_end o t (Whole x) after = atom_no_end glued o (o + length t) x after
token_no_end o t Point after = dot_no_end o after
token_no_end o t Bad after = refused_no_end o after

bar_no_end : (o : ℕ) (n after : List ℕ) → NoEnd (barred Ends o n after)
bar_no_end o n [] = tt
bar_no_end o n (b ∷ after) = go (eqb b 124) n
  where
    go : (v : Bool) (n : List ℕ) → NoEnd (if v then bar_closed Ends o n after else Wrong o (Some (fault BYTE (o + 1 + length n))) ∷ [])
    go true [] = tt
    go true (d ∷ n) = atom_no_end glued_bar o (o + 2 + length (d ∷ n)) (Symbol (name_of_bytes (d ∷ n))) after
    go false n = tt

label_no_end : (o : ℕ) (d after : List ℕ) → NoEnd (label Ends o d after)
label_no_end o d [] = tt
label_no_end o [] (b ∷ after) = tt
label_no_end o (e ∷ d) (b ∷ after) = go (eqb b 61) (eqb b 35)
  where
    go : (v w : Bool) → NoEnd (if v then Mark o (decimal_value (e ∷ d)) ∷ [] else (if w then Ref o (decimal_value (e ∷ d)) ∷ [] else Wrong o (Some (fault LABEL o)) ∷ []))
    go true w = tt
    go false true = tt
    go false false = tt

hash_no_end : (o : ℕ) (d after : List ℕ) → NoEnd (hashed Ends o d after)
hash_no_end o d after = go (ltb 9 (length d))
  where
    go : (v : Bool) → NoEnd (if v then Wrong o (Some (fault LABEL o)) ∷ [] else label Ends o d after)
    go true = tt
    go false = label_no_end o d after

pub piece_no_end : (c : Class) (b : ℕ) (bs : List ℕ) (o : ℕ) → NoEnd (piece c Ends o b bs)
piece_no_end White b bs o = tt
piece_no_end Semicolon b bs o = tt
piece_no_end Opening b bs o = tt
piece_no_end Closing b bs o = tt
piece_no_end Apostrophe b bs o = tt
piece_no_end Bar b bs o = bar_no_end o (run_of is_name_byte bs) (after_run is_name_byte bs)
piece_no_end Hash b bs o = hash_no_end o (run_of is_digit bs) (after_run is_digit bs)
piece_no_end Constituent b bs o = token_no_end o (b ∷ run_of is_constituent bs) (token_form (b ∷ run_of is_constituent bs)) (after_run is_constituent bs)
piece_no_end Other b bs o = tt

-- ---- a line, or a part of one

-- does a comment begin after the first n bytes?
abbrev pub has_comment : ℕ → List ℕ → Bool
has_comment n [] = false
has_comment (suc n) (b ∷ t) = has_comment n t
has_comment zero (b ∷ t) = is_comment (class b) || has_comment (extent (class b) t) t

comment_class : (c : Class) → is_comment c ≡ true → c ≡ Semicolon
comment_class Semicolon h = refl
comment_class _ h = cc

or_and : (x y z : Bool) → ((x || y) && z) ≡ false → ((x && z) ≡ false) × ((y && z) ≡ false)
or_and true y z h = (h, and_right y z h)
or_and false y z h = (refl, h)

-- a comment that nothing ends
in_comment : (t : List ℕ) (o : ℕ) → no_newline t ≡ true → lexemes_from Ends o (length (run_of is_inside_comment t)) t ≡ End (unfinished Ends (o + length t)) ∷ []
in_comment t o h =
    ap (λ z. lexemes_from Ends o (length z) t) (ap (run_of is_inside_comment) (sym (append-nil t)) ∙ run_of-append is_inside_comment t [] h tt)
    ∙ (ap (lexemes_from Ends o (length t)) (sym (append-nil t)) ∙ lexemes_from-taken Ends t [] o)

empty_front : (front : List Lexeme) (t s : Option Fault) → End t ∷ [] ≡ front ++ End s ∷ [] → IsClean front → [] ≡ front
empty_front [] t s e c = refl
empty_front (m ∷ front) t s e c = let head : m ≡ End t = cc in elim (subst (λ z. Alike z z) head (clean_first m front c)) [ ]

-- a delimiter, and what follows it
module _ (d : ℕ) (ends : Delimits Ends (d ∷ [])) (rest : List ℕ) where
  -- the first piece
  record Step (b : ℕ) (t : List ℕ) (o p : ℕ) (front : List Lexeme) (s : Option Fault) : Type 0 where
    here : List Lexeme
    more : List Lexeme
    within : extent (class b) t ≤ length t
    left : lexemes_from Ends (suc o) (extent (class b) t) t ≡ more ++ End s ∷ []
    there : IsClean more
    joined : (lexed : List Lexeme) → AllAlike more lexed → AllAlike front (here ++ lexed)
    cut : lexemes_from Ends p 0 (b ∷ (t ++ d ∷ rest)) ≡ here ++ lexemes_from Ends (suc p) (extent (class b) t) (t ++ d ∷ rest)

  step : (b : ℕ) (t : List ℕ) (o p : ℕ) (front : List Lexeme) (s : Option Fault) → (is_comment (class b) && is_inside_comment d) ≡ false → lexemes_from Ends o 0 (b ∷ t) ≡ front ++ End s ∷ [] → IsClean front → Step b t o p front s
  step b t o p front s ok e c =
      let f = front_of (piece (class b) Ends o b t) (lexemes_from Ends (suc o) (extent (class b) t) t) front s (piece_no_end (class b) b t o) e c in
      let g = piece_fits d ends rest (class b) b t o p ok f.here in
      let here = piece (class b) Ends p b (t ++ d ∷ rest) in
      record {
        here = here;
        more = f.more;
        within = g.within;
        left = f.rest;
        there = f.there;
        joined = λ lexed a. subst (λ z. AllAlike z (here ++ lexed)) (sym f.is) (alike_both (piece (class b) Ends o b t) here f.more lexed g.alike a);
        cut = ap (λ k. here ++ lexemes_from Ends (suc p) k (t ++ d ∷ rest)) g.same;
      }

  -- what the lexemes become before the delimiter, where it ends each comment or none is begun
  pub record Lined (front : List Lexeme) (t : List ℕ) (p n : ℕ) : Type 0 where
    pub lexed : List Lexeme
    pub alike : AllAlike front lexed
    pub cut : lexemes_from Ends p n (t ++ d ∷ rest) ≡ lexed ++ lexemes_from Ends (p + length t) 0 (d ∷ rest)

  pub line : (t : List ℕ) (o p n : ℕ) (front : List Lexeme) (s : Option Fault) → n ≤ length t → (has_comment n t && is_inside_comment d) ≡ false → lexemes_from Ends o n t ≡ front ++ End s ∷ [] → IsClean front → Lined front t p n
  line [] o p zero front s l ok e c =
      record { lexed = []; alike = subst (λ z. AllAlike z []) (empty_front front (unfinished Ends o) s e c) none_alike; cut = ap (λ k. lexemes_from Ends k 0 (d ∷ rest)) (omega arith) }
  line [] o p (suc n) front s l ok e c = absurd (omega arith)
  line (b ∷ t) o p (suc n) front s l ok e c =
      let r = line t (suc o) (suc p) n front s (omega arith) ok e c in record { lexed = r.lexed; alike = r.alike; cut = r.cut ∙ ap (λ k. r.lexed ++ lexemes_from Ends k 0 (d ∷ rest)) (omega arith) }
  line (b ∷ t) o p zero front s l ok e c =
      let k = or_and (is_comment (class b)) (has_comment (extent (class b) t) t) (is_inside_comment d) ok in
      let f = step b t o p front s k.0 e c in
      let r = line t (suc o) (suc p) (extent (class b) t) f.more s f.within k.1 f.left f.there in
      record {
        lexed = f.here ++ r.lexed;
        alike = f.joined r.lexed r.alike;
        cut = f.cut
            ∙ (ap (λ z. f.here ++ z) r.cut ∙ (sym (append_assoc f.here r.lexed (lexemes_from Ends (suc p + length t) 0 (d ∷ rest))) ∙ ap (λ k. (f.here ++ r.lexed) ++ lexemes_from Ends k 0 (d ∷ rest)) (omega arith)));
      }

  -- where a comment is begun and nothing ends it, the rest is left out
  pub record Commented (front : List Lexeme) (t : List ℕ) (p n : ℕ) : Type 0 where
    pub lexed : List Lexeme
    pub alike : AllAlike front lexed
    pub end : Option Fault
    pub cut : lexemes_from Ends p n (t ++ d ∷ rest) ≡ lexed ++ End end ∷ []

  begun : (b : ℕ) (t : List ℕ) (o p : ℕ) (front : List Lexeme) (s : Option Fault) → class b ≡ Semicolon → no_newline t ≡ true → no_newline (t ++ d ∷ rest) ≡ true → lexemes_from Ends o 0 (b ∷ t) ≡ front ++ End s ∷ [] → IsClean front → Commented front (b ∷ t) p 0
  begun b t o p front s q h k e c =
      let none : End (unfinished Ends (suc o + length t)) ∷ [] ≡ front ++ End s ∷ [] =
      sym (in_comment t (suc o) h) ∙ (ap (λ v. piece v Ends o b t ++ lexemes_from Ends (suc o) (extent v t) t) (sym q) ∙ e) in
      record {
        lexed = [];
        alike = subst (λ z. AllAlike z []) (empty_front front (unfinished Ends (suc o + length t)) s none c) none_alike;
        end = unfinished Ends (suc p + length (t ++ d ∷ rest));
        cut = ap (λ v. piece v Ends p b (t ++ d ∷ rest) ++ lexemes_from Ends (suc p) (extent v (t ++ d ∷ rest)) (t ++ d ∷ rest)) q ∙ in_comment (t ++ d ∷ rest) (suc p) k;
      }

  pub commented : (t : List ℕ) (o p n : ℕ) (front : List Lexeme) (s : Option Fault) → no_newline (d ∷ rest) ≡ true → n ≤ length t → no_newline t ≡ true → has_comment n t ≡ true → lexemes_from Ends o n t ≡ front ++ End s ∷ [] → IsClean front → Commented front t p n
  commented [] o p n front s nd l h k e c = cc
  commented (b ∷ t) o p (suc n) front s nd l h k e c =
      let r = commented t (suc o) (suc p) n front s nd (omega arith) (and_parts (not (eqb b 10)) (no_newline t) h).1 k e c in record { lexed = r.lexed; alike = r.alike; end = r.end; cut = r.cut }
  commented (b ∷ t) o p zero front s nd l h k e c = go (is_comment (class b)) refl k (commented t (suc o) (suc p) (extent (class b) t))
    where
      one_line : no_newline t ≡ true
      one_line = (and_parts (not (eqb b 10)) (no_newline t) h).1

      go : (v : Bool) → is_comment (class b) ≡ v → (v || has_comment (extent (class b) t) t) ≡ true → ((front : List Lexeme) (s : Option Fault) → no_newline (d ∷ rest) ≡ true → extent (class b) t ≤ length t → no_newline t ≡ true → has_comment (extent (class b) t) t ≡ true → lexemes_from Ends (suc o) (extent (class b) t) t ≡ front ++ End s ∷ [] → IsClean front → Commented front t (suc p) (extent (class b) t)) → Commented front (b ∷ t) p 0
      go true q j ih = begun b t o p front s (comment_class (class b) q) one_line (all_are-append (λ b. not (eqb b 10)) t (d ∷ rest) one_line nd) e c
      go false q j ih =
          let f = step b t o p front s (ap (λ v. v && is_inside_comment d) q) e c in
          let r = ih f.more s nd f.within one_line j f.left f.there in
          record { lexed = f.here ++ r.lexed; alike = f.joined r.lexed r.alike; end = r.end; cut = f.cut ∙ (ap (λ z. f.here ++ z) r.cut ∙ sym (append_assoc f.here r.lexed (End r.end ∷ []))) }
