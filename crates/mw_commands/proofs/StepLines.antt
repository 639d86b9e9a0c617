-- A step on a line of its own, with its members written apart, is read as just this step.
use Rattle.std.proofs.Common.{◌≡◌, ℕ, suc, ◌+◌, ◌≤◌, List, [], ◌∷◌, ◌++◌, length, map, Option, Some, None, codes, refl, sym, ap, ◌∙◌, subst, arith, append_assoc, length-append}
use Rattle.mw_model.specs.Terms.Object.{Object, Pair, symbol}
use Rattle.mw_model.specs.Texts.Lexemes.{Lexeme, Atom, Open, Close, End, Ends, Fault, fault, END, lexemes, lexemes_from}
use Rattle.mw_model.specs.Texts.Grammar.{Labels, Unused, Got, and_then, pairing, Tail, read, enough, and_data, data_of, book, reading}
use Rattle.mw_model.specs.Texts.Written.{AreWritten}
use Rattle.mw_model.specs.Texts.Pieces.{InOrder}
use Rattle.mw_model.proofs.Lexing.{lexemes_from-token}
use Rattle.mw_commands.specs.Commands.Flattening.{step_members, step_datum, IsStepLine}
use Rattle.mw_commands.proofs.WrittenRead.{enough_is, ReadAs, line_read}
use Rattle.mw_commands.proofs.WrittenMembers.{list_of, delimited, place_members}

-- what a text is read as, wherever it stands
abbrev pub Reads : List Object → List ℕ → Type 0
Reads xs text = (o : ℕ) → ReadAs (lexemes_from Ends o 0 text) xs

abbrev step_text : List ℕ → List ℕ
step_text members = codes "(STEP" ++ (members ++ codes ")")

-- lexemes that are read as a tail, between what begins a step and the end
list_read : (x : Object) (tail : Object) (after : Labels) (L : List Lexeme) (o p : ℕ) (s : Option Fault) → ((k : ℕ) (r : List Lexeme) → length L + length L ≤ k → read k Tail Unused (L ++ r) ≡ Got tail after r) → (K : List Lexeme) → K ≡ Open o ∷ Atom p x ∷ (L ++ End s ∷ []) → data_of (enough K) K ≡ book (Pair x tail ∷ []) None
list_read x tail after L o p s reads K is =
    let e = enough (L ++ End s ∷ []) in
    ap (λ z. data_of (enough z) z) is
    ∙ ap (λ u. and_data (data_of (suc (suc (suc e)))) (and_then u (pairing x))) (reads (suc (suc e)) (End s ∷ []) (omega (arith, enough_is (L ++ End s ∷ []), length-append L (End s ∷ []))))

pub step_is_read : (xs : List Object) (members : List ℕ) → AreWritten xs 1 members → reading Ends (step_text members) ≡ book (Pair (symbol "STEP") (list_of xs) ∷ []) None
step_is_read xs members w =
    let v = delimited xs 1 members [] w in
    let m = place_members xs 1 members [] 5 Unused w tt in
    let q = 5 + length members in
    let end = Some (fault END (suc q)) in
    let word : lexemes_from Ends 1 0 (codes "STEP" ++ (members ++ 41 ∷ [])) ≡ Atom 1 (symbol "STEP") ∷ lexemes_from Ends 5 0 (members ++ 41 ∷ []) =
    ap (λ u. lexemes_from Ends 1 0 (codes "STEP" ++ u)) v.is
    ∙ (lexemes_from-token Ends 1 83 (84 ∷ 69 ∷ 80 ∷ []) (v.d ∷ v.rest) (symbol "STEP") refl refl v.ends ∙ ap (λ u. Atom 1 (symbol "STEP") ∷ lexemes_from Ends 5 0 u) (sym v.is)) in
    list_read (symbol "STEP") (list_of xs) m.after (m.lexed ++ Close q ∷ []) 0 1 end
    (λ k r h. ap (read k Tail Unused) (append_assoc m.lexed (Close q ∷ []) r) ∙ m.reads q k r (omega (arith, length-append m.lexed (Close q ∷ []))))
    (lexemes Ends (step_text members))
    (ap (λ u. Open 0 ∷ u) (word ∙ ap (λ u. Atom 1 (symbol "STEP") ∷ u) (m.cut ∙ sym (append_assoc m.lexed (Close q ∷ []) (End end ∷ [])))))

pub steps_are_read : (qs : List Object) (nps : List (ℕ × Object)) (xs : List Object) (steps rest : List ℕ) → InOrder (IsStepLine qs) nps steps → Reads xs rest → Reads (map (step_datum qs) nps ++ xs) (steps ++ rest)
steps_are_read qs [] xs steps rest w r = subst (λ z. Reads xs (z ++ rest)) (sym w) r
steps_are_read qs (np ∷ nps) xs steps rest w r =
    let l = w.3 in
    let one = codes "(STEP" ++ (l.0 ++ codes ")") in
    let more = steps_are_read qs nps xs w.1 rest w.4 r in
    let is : one ++ 10 ∷ (w.1 ++ rest) ≡ steps ++ rest =
    sym (append_assoc one (10 ∷ []) (w.1 ++ rest)) ∙ (ap (λ z. z ++ (w.1 ++ rest)) (sym l.2) ∙ (sym (append_assoc w.0 w.1 rest) ∙ ap (λ z. z ++ rest) (sym w.2))) in
    subst (Reads (step_datum qs np ∷ (map (step_datum qs) nps ++ xs))) is (line_read (step_datum qs np) (map (step_datum qs) nps ++ xs) one (w.1 ++ rest) (step_is_read (step_members qs np) l.0 l.1) more)
