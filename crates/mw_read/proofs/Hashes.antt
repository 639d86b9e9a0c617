-- Comments and labels.
use Rattle.std.proofs.Common.{◌≡◌, ℕ, Result, Ok, Err, IfOk, suc, ◌+◌, ◌<◌, ◌≤◌, Bool, true, false, not, List, [], ◌∷◌, ◌++◌, length, take, get_or, Some, refl, sym, ap, ap₂, ◌∙◌, subst, arith, true≢false, if◌then◌else◌, append_assoc, eqb, eqb-true, ltb, lt-ltb, le-ltb, length-append}
use Rattle.std.proofs.lemmas.Bool.{and_parts, eqb-false}
use Rattle.mw_model.specs.Terms.Object.{Object}
use Rattle.mw_model.specs.Texts.Lexemes.{Lexeme, Mark, Ref, Wrong, fault, LABEL, Ending, Goes, run_of, after_run, is_digit, is_inside_comment, decimal_value, label, lexemes_from, extent, Hash}
use Rattle.std.specs.List.{list_all}
use Rattle.mw_model.specs.Texts.Grammar.{book, and_events}
use Rattle.mw_read.specs.Machine.{State, Idle, Turn, on, is_full, IsSound}
use Rattle.mw_read.specs.Resume.{resume, onward, following}
use Rattle.mw_read.specs.Lexing.{label_lexeme}
use Rattle.mw_read.specs.Stacks.{IsStack}
use Rattle.mw_read.specs.Held.{Holds, Took}
use Rattle.mw_read.specs.Parsing.{ahead, meaning_of, IsText, is_inside, IsParser, Advances, EndsHash}
use Rattle.mw_read.specs.declared.parser.Begun.TheVariants.{Nothing}
use Rattle.mw_read.specs.declared.parser.Parser.{Parser}
use Rattle.mw_read.specs.declared.stack.Stack.{Stack}
use Rattle.mw_read.specs.declared.step.SyntaxKind.TheVariants as kinds
use Rattle.mw_read.specs.declared.step.Outcome.{Outcome}
use Rattle.mw_read.specs.declared.step.Outcome.TheVariants as outcomes
use Rattle.mw_read.proofs.Resuming.{on_step, IsSolid}
use Rattle.mw_lex.proofs.Lexemes.{hash_lexemes}
use Rattle.mw_lex.proofs.Runs.{run_more, take_more}
use Rattle.mw_read.proofs.Bare.{take_run}
use Rattle.mw_read.proofs.Holding.{sound_clamp}
use Rattle.mw_read.proofs.Parsing.{wrong_breaks, following_event}

pub comment_run : (e : Ending) (o : ℕ) (r z : List ℕ) → list_all is_inside_comment r ≡ true → lexemes_from e o 0 (59 ∷ (r ++ z)) ≡ lexemes_from e (o + length r) 0 (59 ∷ z)
comment_run e o [] z h = ap (λ n. lexemes_from e n 0 (59 ∷ z)) (omega arith)
comment_run e o (b ∷ r) z h =
    let k = and_parts (is_inside_comment b) (list_all is_inside_comment r) h in
    ap (λ v. lexemes_from e (suc o) (length (if v then b ∷ run_of is_inside_comment (r ++ z) else [])) (b ∷ (r ++ z))) k.0
    ∙ comment_run e (suc o) r z k.1
    ∙ ap (λ n. lexemes_from e n 0 (59 ∷ z)) (omega arith)

line_end : (b : ℕ) → is_inside_comment b ≡ false → b ≡ 10
line_end b h = go (eqb b 10) refl h
  where
    go : (v : Bool) → eqb b 10 ≡ v → not v ≡ false → b ≡ 10
    go true e k = eqb-true b 10 e
    go false e k = absurd (true≢false k)

pub comment_line : (e : Ending) (o : ℕ) (rest : List ℕ) (n : ℕ) (z : List ℕ) → n < length rest → list_all is_inside_comment (take n rest) ≡ true → is_inside_comment (get_or rest n 0) ≡ false →
    lexemes_from e o 0 (59 ∷ (take (n + 1) rest ++ z)) ≡ lexemes_from e (o + n + 2) 0 z
comment_line e o rest n z l h k =
    ap (λ u. lexemes_from e o 0 (59 ∷ (u ++ z))) (take_more rest n l)
    ∙ ap (λ u. lexemes_from e o 0 (59 ∷ u)) (append_assoc (take n rest) (get_or rest n 0 ∷ []) z)
    ∙ comment_run e o (take n rest) (get_or rest n 0 ∷ z) h
    ∙ ap₂ (λ i b. lexemes_from e (o + i) 0 (59 ∷ b ∷ z)) (take_run rest n (omega arith)) (line_end (get_or rest n 0) k)
    ∙ ap (λ i. lexemes_from e i 0 z) (omega arith)

-- ten digits are too many
pub hash_long : (e : Ending) (s : State) (o : ℕ) (d x : List ℕ) → list_all is_digit d ≡ true → 9 < length d → is_full s ≡ false → IsSound s → resume s (lexemes_from e o 0 (35 ∷ (d ++ x))) ≡ book [] (Some (fault LABEL o))
hash_long e s o d x a l f k =
    let y = d ++ x in
    let r = lexemes_from e (suc o) (extent Hash y) y in
    let long : ltb 9 (length (run_of is_digit y)) ≡ true =
    ap (λ u. ltb 9 (length u)) (run_more is_digit d x a) ∙ lt-ltb 9 (length (d ++ run_of is_digit x)) (omega (arith, length-append d (run_of is_digit x))) in
    ap (λ v. resume s ((if v then Wrong o (Some (fault LABEL o)) ∷ [] else label e o (run_of is_digit y) (after_run is_digit y)) ++ r)) long
    ∙ on_step s (Wrong o (Some (fault LABEL o))) tt r
    ∙ ap (λ (w : Turn). following w r) (wrong_breaks s o (fault LABEL o) f k)

label_is : (o : ℕ) (d : List ℕ) (b : ℕ) → label Goes o d (b ∷ []) ≡ label_lexeme o d b ∷ []
label_is o [] b = refl
label_is o (c ∷ d) b = two (eqb b 61) (eqb b 35)
  where
    two : (p q : Bool) → (if p then Mark o (decimal_value (c ∷ d)) ∷ [] else (if q then Ref o (decimal_value (c ∷ d)) ∷ [] else Wrong o (Some (fault LABEL o)) ∷ []))
        ≡ (if p then Mark o (decimal_value (c ∷ d)) else (if q then Ref o (decimal_value (c ∷ d)) else Wrong o (Some (fault LABEL o)))) ∷ []
    two true q = refl
    two false true = refl
    two false false = refl

label_solid : (o : ℕ) (d : List ℕ) (b : ℕ) → IsSolid (label_lexeme o d b)
label_solid o [] b = tt
label_solid o (c ∷ d) b = two (eqb b 61) (eqb b 35)
  where
    two : (p q : Bool) → IsSolid (if p then Mark o (decimal_value (c ∷ d)) else (if q then Ref o (decimal_value (c ∷ d)) else Wrong o (Some (fault LABEL o))))
    two true q = tt
    two false true = tt
    two false false = tt

pub hash_step : (e : Ending) (s : State) (o b : ℕ) (d z : List ℕ) → list_all is_digit d ≡ true → is_digit b ≡ false → length d ≤ 9 →
    resume s (lexemes_from e o 0 (35 ∷ (d ++ b ∷ z))) ≡ following (on s (label_lexeme o d b)) (lexemes_from e (o + 2 + length d) 0 z)
hash_step e s o b d z a n l =
    let r = lexemes_from e (o + 2 + length d) 0 z in
    ap (resume s) (hash_lexemes e z o b d a n
    ∙ ap (λ v. (if v then Wrong o (Some (fault LABEL o)) ∷ [] else label Goes o d (b ∷ [])) ++ r) (le-ltb 9 (length d) l)
    ∙ ap (λ u. u ++ r) (label_is o d b))
    ∙ on_step s (label_lexeme o d b) (label_solid o d b) r

eqb_is : (a b : ℕ) → a ≡ b → eqb a b ≡ true
eqb_is a b h = ap (λ u. eqb u b) h ∙ eqb_refl b
  where
    eqb_refl : (b : ℕ) → eqb b b ≡ true
    eqb_refl b = go (eqb b b) refl
      where
        go : (v : Bool) → eqb b b ≡ v → eqb b b ≡ true
        go true e = e
        go false e = absurd (eqb-false b b e refl)

pub label_mark : (o : ℕ) (d : List ℕ) (b : ℕ) → 0 < length d → b ≡ 61 → label_lexeme o d b ≡ Mark o (decimal_value d)
label_mark o [] b l h = absurd (omega arith)
label_mark o (c ∷ d) b l h = ap (λ v. if v then Mark o (decimal_value (c ∷ d)) else (if eqb b 35 then Ref o (decimal_value (c ∷ d)) else Wrong o (Some (fault LABEL o)))) (eqb_is b 61 h)

pub label_ref : (o : ℕ) (d : List ℕ) (b : ℕ) → 0 < length d → b ≡ 35 → label_lexeme o d b ≡ Ref o (decimal_value d)
label_ref o [] b l h = absurd (omega arith)
label_ref o (c ∷ d) b l h = ap (λ u. if eqb u 61 then Mark o (decimal_value (c ∷ d)) else (if eqb u 35 then Ref o (decimal_value (c ∷ d)) else Wrong o (Some (fault LABEL o)))) h

pub label_none : (o : ℕ) (d : List ℕ) (b : ℕ) → d ≡ [] → label_lexeme o d b ≡ Wrong o (Some (fault LABEL o))
label_none o d b h = ap (λ x. label_lexeme o x b) h

-- what is no label breaks what is open
pub label_breaks : (os : List Object) (s : Stack) (t : State) (o : ℕ) (d : List ℕ) (b : ℕ) (r : Outcome) → label_lexeme o d b ≡ Wrong o (Some (fault LABEL o)) → r ≡ outcomes.Fault (record { kind = kinds.Label; offset = o }) → Holds os s t → is_full t ≡ false →
    Took os s r (on t (label_lexeme o d b))
label_breaks os s t o d b r l e h full = subst (λ u. Took os s u (on t (label_lexeme o d b))) (sym e) (ap (on t) l ∙ wrong_breaks t o (fault LABEL o) full (sound_clamp os s t h.means))

-- a label whose digits are this number is the lexeme of that number
pub label_ends : (o : ℕ) (x d : List ℕ) (b n : ℕ) (l : ℕ → ℕ → Lexeme) → x ≡ d → n ≡ decimal_value x → 0 < length x → (0 < length d → label_lexeme o d b ≡ l o (decimal_value d)) → l o n ≡ label_lexeme o d b
label_ends o x d b n l w e some h = ap (l o) (e ∙ ap decimal_value w) ∙ sym (h (subst (λ u. 0 < length u) w some))

-- what that lexeme did, the label did
pub label_took : {E : Type 0} (os0 os : List Object) (s0 s : Stack) (l k : Lexeme) (r : Result Outcome E) → l ≡ k →
    IfOk r (λ o. (t : State) → Holds os0 s0 t → Took os s o (on t l)) → IfOk r (λ o. (t : State) → Holds os0 s0 t → is_full t ≡ false → Took os s o (on t k))
label_took os0 os s0 s l k (Ok o) e f = λ t h full. subst (λ u. Took os s o (on t u)) e (f t h)
label_took os0 os s0 s l k (Err x) e f = f

pub free_parser : (os : List Object) (p : Parser) → p.begun ≡ Nothing → IsStack os p.stack → IsParser os p
free_parser os p e k = record {
  stack = k;
  text = subst (λ u. IsText u p.token.items) (sym e) tt;
  ready = λ h. absurd (true≢false (sym h ∙ ap is_inside e));
}

-- a label, or a fault in its place
pub hash_advance : (os : List Object) (t : State) (old new : Parser) (rest : List ℕ) (n : ℕ) (d x : List ℕ) (b : ℕ) (r : Outcome) →
    ((z : List ℕ) → rest ++ z ≡ take n rest ++ (x ++ z)) → list_all is_digit d ≡ true → is_digit b ≡ false → length d ≤ 9 →
    ((e : Ending) (z : List ℕ) → meaning_of e t old (take n rest ++ z) ≡ resume t (lexemes_from e old.start 0 (35 ∷ (d ++ b ∷ z)))) →
    Took os new.stack r (on t (label_lexeme old.start d b)) → EndsHash r (length d) b old new → Advances os t old rest r n new
hash_advance os t old new rest n d x b outcomes.Pending e a c l m q s =
    let w = on t (label_lexeme old.start d b) in
    let o : old.start + 2 + length d ≡ new.start = sym s.1 in (
      w.state,
      q.1,
      free_parser os new s.0 q.1.stack,
      λ e' z fit.
          m e' z
          ∙ hash_step e' t old.start b d z a c l
          ∙ ap (λ (u : List Object). onward u (resume w.state (lexemes_from e' (old.start + 2 + length d) 0 z))) q.0
          ∙ ap (λ k. resume w.state (lexemes_from e' k 0 z)) o
          ∙ sym (ap (λ u. resume w.state (ahead e' u new.token.items new.start z)) s.0),
    )
hash_advance os t old new rest n d x b (outcomes.Datum r) e a c l m q s =
    let o : old.start + 2 + length d ≡ new.start = sym s.1 in (
      q.0,
      q.2,
      free_parser os new s.0 q.2.stack,
      λ e' z fit.
          m e' z
          ∙ hash_step e' t old.start b d z a c l
          ∙ following_event (on t (label_lexeme old.start d b)) q.0 (lexemes_from e' (old.start + 2 + length d) 0 z) q.1
          ∙ ap (λ k. and_events q.0 (resume Idle (lexemes_from e' k 0 z))) o
          ∙ ap (and_events q.0) (sym (ap (λ u. resume Idle (ahead e' u new.token.items new.start z)) s.0)),
    )
hash_advance os t old new rest n d x b (outcomes.Fault f) e a c l m q s = λ e' z.
    ap (meaning_of e' t old) (e z)
    ∙ m e' (x ++ z)
    ∙ hash_step e' t old.start b d (x ++ z) a c l
    ∙ ap (λ (u : Turn). following u (lexemes_from e' (old.start + 2 + length d) 0 (x ++ z))) q
