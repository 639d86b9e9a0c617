-- A piece of bytes without faults has like lexemes before a delimiter and whatever follows it, wherever it stands.
use Rattle.std.proofs.Common.{◌≡◌, ℕ, suc, ◌+◌, ◌≤◌, ◌<◌, Bool, true, false, ◌&&◌, ◌||◌, eqb, ltb, List, [], ◌∷◌, ◌++◌, length, Option, Some, refl, sym, ap, ap₂, subst, arith, if◌then◌else◌}
use Rattle.mw_model.specs.Terms.Object.{Object, Symbol, is_name_byte, name_of_bytes}
use Rattle.mw_model.specs.Texts.Lexemes.{Lexeme, fault, TOKEN, BYTE, LABEL, Atom, Open, Close, Dot, Quote, Mark, Ref, Wrong, Stray, Fault, Ends, Class, White, Semicolon, Opening, Closing, Apostrophe, Bar, Hash, Constituent, Other, piece, extent, unfinished, run_of, after_run, is_constituent, is_digit, is_inside_comment, glued, glued_bar, atom, dot, refused, token, TokenForm, Whole, Point, Bad, token_form, bar_closed, barred, label, hashed, decimal_value}
use Rattle.mw_model.proofs.Locality.{Alike, atoms, opens, closes, dots, quotes, marks, refs, AllAlike, none_alike, more_alike}
use Rattle.mw_model.proofs.Lexing.{Delimits}

-- ---- runs

-- one that meets what is not of its class has its end there
run_within : (p : ℕ → Bool) (z bs : List ℕ) → 0 < length (after_run p bs) → (run_of p (bs ++ z) ≡ run_of p bs) × (after_run p (bs ++ z) ≡ after_run p bs ++ z)
run_within p z [] h = absurd (omega arith)
run_within p z (b ∷ bs) h = go (p b) h (run_within p z bs)
  where
    go : (v : Bool) → 0 < length (if v then after_run p bs else b ∷ bs) → (0 < length (after_run p bs) → (run_of p (bs ++ z) ≡ run_of p bs) × (after_run p (bs ++ z) ≡ after_run p bs ++ z)) →
        ((if v then b ∷ run_of p (bs ++ z) else []) ≡ (if v then b ∷ run_of p bs else [])) × ((if v then after_run p (bs ++ z) else b ∷ (bs ++ z)) ≡ (if v then after_run p bs else b ∷ bs) ++ z)
    go true h ih = let r = ih h in (ap (λ u. b ∷ u) r.0, r.1)
    go false h ih = (refl, refl)

-- a byte that is not of the class ends each
module _ (p : ℕ → Bool) (d : ℕ) (stops : p d ≡ false) (rest : List ℕ) where
  run_before : (bs : List ℕ) → run_of p (bs ++ d ∷ rest) ≡ run_of p bs
  run_before [] = ap (λ b. if b then d ∷ run_of p rest else []) stops
  run_before (b ∷ bs) = ap (λ r. if p b then b ∷ r else []) (run_before bs)

  after_before : (bs : List ℕ) → after_run p (bs ++ d ∷ rest) ≡ after_run p bs ++ d ∷ rest
  after_before [] = ap (λ b. if b then after_run p rest else d ∷ rest) stops
  after_before (b ∷ bs) = go (p b) (after_before bs)
    where
      go : (v : Bool) → after_run p (bs ++ d ∷ rest) ≡ after_run p bs ++ d ∷ rest → (if v then after_run p (bs ++ d ∷ rest) else b ∷ (bs ++ d ∷ rest)) ≡ (if v then after_run p bs else b ∷ bs) ++ d ∷ rest
      go true h = h
      go false h = refl

pub run_and_after : (p : ℕ → Bool) (bs : List ℕ) → length (run_of p bs) + length (after_run p bs) ≡ length bs
run_and_after p [] = refl
run_and_after p (b ∷ bs) = go (p b) (run_and_after p bs)
  where
    go : (v : Bool) → length (run_of p bs) + length (after_run p bs) ≡ length bs → length (if v then b ∷ run_of p bs else []) + length (if v then after_run p bs else b ∷ bs) ≡ suc (length bs)
    go true h = omega arith
    go false h = omega arith

-- ---- a piece without a fault

-- no fault, and no end
abbrev pub IsClean : List Lexeme → Type 0
IsClean L = AllAlike L L

pub clean_first : (l : Lexeme) (L : List Lexeme) → IsClean (l ∷ L) → Alike l l
clean_first l L h = go (l ∷ L) (l ∷ L) refl refl h
  where
    go : (K M : List Lexeme) → K ≡ l ∷ L → M ≡ l ∷ L → AllAlike K M → Alike l l
    go K M e f none_alike = cc
    go K M e f (more_alike k m K' M' a h) = let p : k ≡ l = cc in let q : m ≡ l = cc in subst (λ z. Alike z l) p (subst (λ z. Alike k z) q a)

pub clean_rest : (l : Lexeme) (L : List Lexeme) → IsClean (l ∷ L) → IsClean L
clean_rest l L h = go (l ∷ L) (l ∷ L) refl refl h
  where
    go : (K M : List Lexeme) → K ≡ l ∷ L → M ≡ l ∷ L → AllAlike K M → IsClean L
    go K M e f none_alike = cc
    go K M e f (more_alike k m K' M' a h) = let p : K' ≡ L = cc in let q : M' ≡ L = cc in subst (λ z. AllAlike z L) p (subst (λ z. AllAlike K' z) q h)

not_wrong : (o : ℕ) (s : Option Fault) (L : List Lexeme) → IsClean (Wrong o s ∷ L) → ⊥
not_wrong o s L h = elim (clean_first (Wrong o s) L h) [ ]

not_stray : (f : Fault) (L : List Lexeme) → IsClean (Stray f ∷ L) → ⊥
not_stray f L h = elim (clean_first (Stray f) L h) [ ]

one_alike : (l m : Lexeme) → Alike l m → AllAlike (l ∷ []) (m ∷ [])
one_alike l m a = more_alike l m [] [] a none_alike

-- does it begin a comment, which may go on to the end?
abbrev pub is_comment : Class → Bool
is_comment Semicolon = true
is_comment _ = false

-- a delimiter, and what follows it
module _ (d : ℕ) (ends : Delimits Ends (d ∷ [])) (rest : List ℕ) where
  pub record Fits (c : Class) (b : ℕ) (bs : List ℕ) (o p : ℕ) : Type 0 where
    pub alike : AllAlike (piece c Ends o b bs) (piece c Ends p b (bs ++ d ∷ rest))
    pub same : extent c (bs ++ d ∷ rest) ≡ extent c bs
    pub within : extent c bs ≤ length bs

  -- an atom whose end is the delimiter, or what stands there already
  atom_fits : (bad : ℕ → Bool) → bad d ≡ false → (o p end end' : ℕ) (x : Object) (after : List ℕ) → IsClean (atom Ends bad o x end after) → AllAlike (atom Ends bad o x end after) (atom Ends bad p x end' (after ++ d ∷ rest))
  atom_fits bad ok o p end end' x [] c = subst (λ v. AllAlike (Atom o x ∷ []) (if v then Atom p x ∷ Stray (fault TOKEN end') ∷ [] else Atom p x ∷ [])) (sym ok) (one_alike (Atom o x) (Atom p x) (atoms o p x))
  atom_fits bad ok o p end end' x (b ∷ after) c = go (bad b) c
    where
      go : (v : Bool) → IsClean (if v then Atom o x ∷ Stray (fault TOKEN end) ∷ [] else Atom o x ∷ []) → AllAlike (if v then Atom o x ∷ Stray (fault TOKEN end) ∷ [] else Atom o x ∷ []) (if v then Atom p x ∷ Stray (fault TOKEN end') ∷ [] else Atom p x ∷ [])
      go true c = absurd (not_stray (fault TOKEN end) [] (clean_rest (Atom o x) (Stray (fault TOKEN end) ∷ []) c))
      go false c = one_alike (Atom o x) (Atom p x) (atoms o p x)

  dot_fits : (o p : ℕ) (after : List ℕ) → IsClean (dot Ends o after) → AllAlike (dot Ends o after) (dot Ends p (after ++ d ∷ rest))
  dot_fits o p [] c = subst (λ v. AllAlike (Dot o ∷ []) (if v then Wrong p (Some (fault TOKEN (p + 1))) ∷ [] else Dot p ∷ [])) (sym ends.1) (one_alike (Dot o) (Dot p) (dots o p))
  dot_fits o p (b ∷ after) c = go (glued b) c
    where
      go : (v : Bool) → IsClean (if v then Wrong o (Some (fault TOKEN (o + 1))) ∷ [] else Dot o ∷ []) → AllAlike (if v then Wrong o (Some (fault TOKEN (o + 1))) ∷ [] else Dot o ∷ []) (if v then Wrong p (Some (fault TOKEN (p + 1))) ∷ [] else Dot p ∷ [])
      go true c = absurd (not_wrong o (Some (fault TOKEN (o + 1))) [] c)
      go false c = one_alike (Dot o) (Dot p) (dots o p)

  refused_not : (o : ℕ) (after : List ℕ) → IsClean (refused Ends o after) → ⊥
  refused_not o [] c = not_wrong o (Some (fault TOKEN o)) [] c
  refused_not o (b ∷ after) c = not_wrong o (Some (fault TOKEN o)) [] c

  token_fits : (o p : ℕ) (t : List ℕ) (f : TokenForm) (after : List ℕ) → IsClean (token Ends o t f after) → AllAlike (token Ends o t f after) (token Ends p t f (after ++ d ∷ rest))
  token_fits o p t (Whole x) after c = atom_fits glued ends.1 o p (o + length t) (p + length t) x after c
  token_fits o p t Point after c = dot_fits o p after c
  token_fits o p t Bad after c = absurd (refused_not o after c)

  bar_fits : (o p : ℕ) (n after : List ℕ) → IsClean (barred Ends o n after) → AllAlike (barred Ends o n after) (barred Ends p n (after ++ d ∷ rest)) × (0 < length after)
  bar_fits o p n [] c = absurd (not_wrong o (unfinished Ends (o + 1 + length n)) [] c)
  bar_fits o p n (b ∷ after) c = go (eqb b 124) n c
    where
      go : (v : Bool) (n : List ℕ) → IsClean (if v then bar_closed Ends o n after else Wrong o (Some (fault BYTE (o + 1 + length n))) ∷ []) → AllAlike (if v then bar_closed Ends o n after else Wrong o (Some (fault BYTE (o + 1 + length n))) ∷ []) (if v then bar_closed Ends p n (after ++ d ∷ rest) else Wrong p (Some (fault BYTE (p + 1 + length n))) ∷ []) × (0 < suc (length after))
      go true [] c = absurd (not_wrong o (Some (fault TOKEN o)) [] c)
      go true (m ∷ n) c =
          (atom_fits glued_bar (ap₂ (λ u v. u || v) ends.1 ends.0) o p (o + 2 + length (m ∷ n)) (p + 2 + length (m ∷ n)) (Symbol (name_of_bytes (m ∷ n))) after c, omega arith)
      go false n c = absurd (not_wrong o (Some (fault BYTE (o + 1 + length n))) [] c)

  label_fits : (o p : ℕ) (n after : List ℕ) → IsClean (label Ends o n after) → AllAlike (label Ends o n after) (label Ends p n (after ++ d ∷ rest)) × (0 < length after)
  label_fits o p n [] c = absurd (not_wrong o (unfinished Ends (o + 1 + length n)) [] c)
  label_fits o p [] (b ∷ after) c = absurd (not_wrong o (Some (fault LABEL o)) [] c)
  label_fits o p (m ∷ n) (b ∷ after) c = go (eqb b 61) (eqb b 35) c
    where
      go : (v w : Bool) → IsClean (if v then Mark o (decimal_value (m ∷ n)) ∷ [] else (if w then Ref o (decimal_value (m ∷ n)) ∷ [] else Wrong o (Some (fault LABEL o)) ∷ [])) → AllAlike (if v then Mark o (decimal_value (m ∷ n)) ∷ [] else (if w then Ref o (decimal_value (m ∷ n)) ∷ [] else Wrong o (Some (fault LABEL o)) ∷ [])) (if v then Mark p (decimal_value (m ∷ n)) ∷ [] else (if w then Ref p (decimal_value (m ∷ n)) ∷ [] else Wrong p (Some (fault LABEL p)) ∷ [])) × (0 < suc (length after))
      go true w c = (one_alike (Mark o (decimal_value (m ∷ n))) (Mark p (decimal_value (m ∷ n))) (marks o p (decimal_value (m ∷ n))), omega arith)
      go false true c = (one_alike (Ref o (decimal_value (m ∷ n))) (Ref p (decimal_value (m ∷ n))) (refs o p (decimal_value (m ∷ n))), omega arith)
      go false false c = absurd (not_wrong o (Some (fault LABEL o)) [] c)

  hash_fits : (o p : ℕ) (n after : List ℕ) → IsClean (hashed Ends o n after) → AllAlike (hashed Ends o n after) (hashed Ends p n (after ++ d ∷ rest)) × (0 < length after)
  hash_fits o p n after c = go (ltb 9 (length n)) c (label_fits o p n after)
    where
      go : (v : Bool) → IsClean (if v then Wrong o (Some (fault LABEL o)) ∷ [] else label Ends o n after) → (IsClean (label Ends o n after) → AllAlike (label Ends o n after) (label Ends p n (after ++ d ∷ rest)) × (0 < length after)) → AllAlike (if v then Wrong o (Some (fault LABEL o)) ∷ [] else label Ends o n after) (if v then Wrong p (Some (fault LABEL p)) ∷ [] else label Ends p n (after ++ d ∷ rest)) × (0 < length after)
      go true c f = absurd (not_wrong o (Some (fault LABEL o)) [] c)
      go false c f = f c

  -- only a comment does not end at each delimiter
  pub piece_fits : (c : Class) (b : ℕ) (bs : List ℕ) (o p : ℕ) → (is_comment c && is_inside_comment d) ≡ false → IsClean (piece c Ends o b bs) → Fits c b bs o p
  piece_fits White b bs o p ok c = record { alike = none_alike; same = refl; within = omega arith }
  piece_fits Semicolon b bs o p ok c =
      let e = run_and_after is_inside_comment bs in record { alike = none_alike; same = ap length (run_before is_inside_comment d ok rest bs); within = omega arith }
  piece_fits Opening b bs o p ok c = record { alike = one_alike (Open o) (Open p) (opens o p); same = refl; within = omega arith }
  piece_fits Closing b bs o p ok c = record { alike = one_alike (Close o) (Close p) (closes o p); same = refl; within = omega arith }
  piece_fits Apostrophe b bs o p ok c = record { alike = one_alike (Quote o) (Quote p) (quotes o p); same = refl; within = omega arith }
  piece_fits Bar b bs o p ok c =
      let f = bar_fits o p (run_of is_name_byte bs) (after_run is_name_byte bs) c in
      let r = run_within is_name_byte (d ∷ rest) bs f.1 in
      let e = run_and_after is_name_byte bs in
      record {
        alike = subst (λ u. AllAlike (piece Bar Ends o b bs) (barred Ends p u (after_run is_name_byte (bs ++ d ∷ rest)))) (sym r.0) (subst (λ u. AllAlike (piece Bar Ends o b bs) (barred Ends p (run_of is_name_byte bs) u)) (sym r.1) f.0);
        same = ap (λ u. suc (length u)) r.0;
        within = omega (arith, f.1, e);
      }
  piece_fits Hash b bs o p ok c =
      let f = hash_fits o p (run_of is_digit bs) (after_run is_digit bs) c in
      let r = run_within is_digit (d ∷ rest) bs f.1 in
      let e = run_and_after is_digit bs in
      record {
        alike = subst (λ u. AllAlike (piece Hash Ends o b bs) (hashed Ends p u (after_run is_digit (bs ++ d ∷ rest)))) (sym r.0) (subst (λ u. AllAlike (piece Hash Ends o b bs) (hashed Ends p (run_of is_digit bs) u)) (sym r.1) f.0);
        same = ap (λ u. suc (length u)) r.0;
        within = omega (arith, f.1, e);
      }
  piece_fits Constituent b bs o p ok c =
      let f = token_fits o p (b ∷ run_of is_constituent bs) (token_form (b ∷ run_of is_constituent bs)) (after_run is_constituent bs) c in
      let r = run_before is_constituent d ends.0 rest bs in
      let e = run_and_after is_constituent bs in
      record {
        alike = subst (λ u. AllAlike (piece Constituent Ends o b bs) (token Ends p (b ∷ u) (token_form (b ∷ u)) (after_run is_constituent (bs ++ d ∷ rest)))) (sym r) (subst (λ u. AllAlike (piece Constituent Ends o b bs) (token Ends p (b ∷ run_of is_constituent bs) (token_form (b ∷ run_of is_constituent bs)) u)) (sym (after_before is_constituent d ends.0 rest bs)) f);
        same = ap length r;
        within = omega (arith, e);
      }
  piece_fits Other b bs o p ok c = absurd (not_stray (fault BYTE o) [] c)
