-- A form by its word and what follows it.
use Rattle.std.proofs.Common.{◌≡◌, ℕ, Bool, true, false, ◌&&◌, ◌||◌, not, cond, List, Option, Some, None, option_map, refl, sym, ap, ap₂, ◌∙◌, subst, option_and_then}
use Rattle.mw_model.specs.Terms.Object.{Name, Object, Natural, Symbol, Pair, named, symbol, same_name, same_object, nil_name, NIL, T, list2, has_members}
use Rattle.mw_model.specs.Terms.Term.{Term, Terms, Constant, Variable, NoTerms, ArityTable, More}
use Rattle.mw_model.specs.Terms.Reading.{constant_of, when, map2}
use Rattle.mw_model.specs.Events.Expansion.{Abbreviation, AND, OR, COND, LIST, LET, LETSTAR, FIRST, SECOND, THIRD, FOURTH, FIFTH, QUOTE, Other, abbreviation_of, expanded, expanded_each, form, clause, clauses, cond_term, bindings, let_star, let_term}
use Rattle.mw_model.proofs.Names.{same_name-eq}
use Rattle.mw_translate.specs.Meaning.{Meaning, of_term, meaning}
use Rattle.mw_translate.specs.Forms.{with_terms, let_form, let_star_form}
use Rattle.mw_heap.specs.Objects.{object_at, IsIn}
use Rattle.mw_translate.specs.Memo.{Entries, IsStep}
use Rattle.mw_translate.specs.Terms.{IsAtom, IsQuoted}
use Rattle.mw_translate.specs.declared.progress.Progress.{Progress}
use Rattle.mw_translate.specs.declared.progress.Progress.TheVariants as progress
use Rattle.mw_translate.specs.declared.part.Kind.TheVariants as kind

-- what a form expands to, by its word
abbrev pub by_word : Abbreviation → Name → Object → Option Term
by_word COND f r = clauses r
by_word LET f r = let_form r
by_word LETSTAR f r = let_star_form r
by_word QUOTE f r = constant_of r
by_word w f r = option_and_then (form w f) (expanded_each r)

no_first : (o : Option (Term × Term)) → cond_term o None ≡ None
no_first None = refl
no_first (Some p) = refl

more_false : (w : Abbreviation) (f : Name) (o : Option Term) → option_and_then (form w f) (map2 More o None) ≡ None
more_false w f None = refl
more_false w f (Some t) = refl

-- LET, LET* and QUOTE make nothing of a list of terms
no_form : (w : Abbreviation) (f : Name) → ((ts : Terms) → form w f ts ≡ None) → (p : Option Terms) → option_and_then (form w f) p ≡ None
no_form w f h None = refl
no_form w f h (Some ts) = h ts

module _ (f : Name) where
  none_true : (w v : Abbreviation) (s : Name) → w ≡ v → same_name s nil_name ≡ true → (elim w [ COND ↦ Some (Constant NIL) | _ ↦ form v f NoTerms ]) ≡ by_word w f (Symbol s)
  none_true COND v s e h = ap (λ b. cond b (Some (Constant NIL)) None) (sym h)
  none_true LET v s e h = ap (λ z. form z f NoTerms) (sym e)
  none_true LETSTAR v s e h = ap (λ z. form z f NoTerms) (sym e)
  none_true QUOTE v s e h = ap (λ z. form z f NoTerms) (sym e)
  none_true w v s e h = ap (λ z. form z f NoTerms) (sym e) ∙ ap (λ b. option_and_then (form w f) (cond b (Some NoTerms) None)) (sym h)

  none_false : (w : Abbreviation) (s : Name) → same_name s nil_name ≡ false → None ≡ by_word w f (Symbol s)
  none_false COND s h = ap (λ b. cond {A = Option Term} b (Some (Constant NIL)) None) (sym h)
  none_false LET s h = refl
  none_false LETSTAR s h = refl
  none_false QUOTE s h = refl
  none_false w s h = ap (λ b. option_and_then (form w f) (cond b (Some NoTerms) None)) (sym h)

  no_members : (w v : Abbreviation) (s : Name) (b : Bool) → w ≡ v → same_name s nil_name ≡ b → when b (elim w [ COND ↦ Some (Constant NIL) | _ ↦ form v f NoTerms ]) ≡ by_word w f (Symbol s)
  no_members w v s true e h = none_true w v s e h
  no_members w v s false e h = none_false w s h

  one_true : (w v : Abbreviation) (a : Object) (s : Name) → w ≡ v → same_name s nil_name ≡ true → (elim w [ QUOTE ↦ Some (Constant a) | COND ↦ cond_term (clause a) (Some (Constant NIL)) | _ ↦ option_and_then (form v f) (map2 More (expanded a) (Some NoTerms)) ]) ≡ by_word w f (Pair a (Symbol s))
  one_true COND v a s e h = ap (λ b. cond_term (clause a) (cond b (Some (Constant NIL)) None)) (sym h)
  one_true LET v a s e h = no_form v f (λ ts. ap (λ z. form z f ts) (sym e)) (map2 More (expanded a) (Some NoTerms))
  one_true LETSTAR v a s e h = no_form v f (λ ts. ap (λ z. form z f ts) (sym e)) (map2 More (expanded a) (Some NoTerms))
  one_true QUOTE v a s e h = ap (λ b. cond b (Some (Constant a)) None) (sym h)
  one_true w v a s e h =
      ap (λ z. option_and_then (form z f) (map2 More (expanded a) (Some NoTerms))) (sym e)
      ∙ ap (λ b. option_and_then (form w f) (map2 More (expanded a) (cond b (Some NoTerms) None))) (sym h)

  one_false : (w : Abbreviation) (a : Object) (s : Name) → same_name s nil_name ≡ false → None ≡ by_word w f (Pair a (Symbol s))
  one_false COND a s h = sym (ap (λ b. cond_term (clause a) (cond b (Some (Constant NIL)) None)) h ∙ no_first (clause a))
  one_false LET a s h = refl
  one_false LETSTAR a s h = refl
  one_false QUOTE a s h = ap (λ b. cond {A = Option Term} b (Some (Constant a)) None) (sym h)
  one_false w a s h = sym (ap (λ b. option_and_then (form w f) (map2 More (expanded a) (cond b (Some NoTerms) None))) h ∙ more_false w f (expanded a))

  one_member : (w v : Abbreviation) (a : Object) (s : Name) (b : Bool) → w ≡ v → same_name s nil_name ≡ b → when b (elim w [ QUOTE ↦ Some (Constant a) | COND ↦ cond_term (clause a) (Some (Constant NIL)) | _ ↦ option_and_then (form v f) (map2 More (expanded a) (Some NoTerms)) ]) ≡ by_word w f (Pair a (Symbol s))
  one_member w v a s true e h = one_true w v a s e h
  one_member w v a s false e h = one_false w a s h

  more_members : (w v : Abbreviation) (a b z : Object) → w ≡ v → (elim w [ COND ↦ cond_term (clause a) (cond_term (clause b) (clauses z)) | LET ↦ when (same_object z NIL) (map2 let_term (bindings a) (expanded b)) | LETSTAR ↦ when (same_object z NIL) (let_star a (expanded b)) | _ ↦ option_and_then (form v f) (map2 More (expanded a) (map2 More (expanded b) (expanded_each z))) ]) ≡ by_word w f (Pair a (Pair b z))
  more_members COND v a b z e = refl
  more_members LET v a b z e = refl
  more_members LETSTAR v a b z e = refl
  more_members QUOTE v a b z e = no_form v f (λ ts. ap (λ u. form u f ts) (sym e)) (map2 More (expanded a) (map2 More (expanded b) (expanded_each z)))
  more_members w v a b z e = ap (λ u. option_and_then (form u f) (map2 More (expanded a) (map2 More (expanded b) (expanded_each z)))) (sym e)

  number_end : (w : Abbreviation) (n : ℕ) → None ≡ by_word w f (Natural n)
  number_end COND n = refl
  number_end LET n = refl
  number_end LETSTAR n = refl
  number_end QUOTE n = refl
  number_end w n = refl

  number_second : (w : Abbreviation) (a : Object) (n : ℕ) → None ≡ by_word w f (Pair a (Natural n))
  number_second COND a n = sym (no_first (clause a))
  number_second LET a n = refl
  number_second LETSTAR a n = refl
  number_second QUOTE a n = refl
  number_second w a n = sym (more_false w f (expanded a))

  pub form_word : (r : Object) → expanded (Pair (Symbol f) r) ≡ by_word (abbreviation_of f) f r
  form_word (Natural n) = number_end (abbreviation_of f) n
  form_word (Symbol s) = no_members (abbreviation_of f) (abbreviation_of f) s (same_name s nil_name) refl refl
  form_word (Pair a (Natural n)) = number_second (abbreviation_of f) a n
  form_word (Pair a (Symbol s)) = one_member (abbreviation_of f) (abbreviation_of f) a s (same_name s nil_name) refl refl
  form_word (Pair a (Pair b z)) = more_members (abbreviation_of f) (abbreviation_of f) a b z refl

module _ (A : ArityTable) (x f r : Object) (name : Name) (named_is : f ≡ Symbol name) (shape : x ≡ Pair f r) where
  -- the meaning of a form, by its word
  pub form_meaning : (w : Abbreviation) → abbreviation_of name ≡ w → meaning A kind.Term x ≡ of_term A (by_word w name r)
  form_meaning w h = ap (λ y. of_term A (expanded y)) (shape ∙ ap (λ g. Pair g r) named_is) ∙ (ap (of_term A) (form_word name r) ∙ ap (λ v. of_term A (by_word v name r)) h)

-- the same meanings as those of parts, where a form makes this of its terms
module _ (A : ArityTable) (w : Abbreviation) (f : Name) (r : Object) where
  pub all_part : (make : Terms → Term) → ((ts : Terms) → form w f ts ≡ Some (make ts)) → of_term A (option_and_then (form w f) (expanded_each r)) ≡ of_term A (option_map make (expanded_each r))
  all_part make h = ap (of_term A) (go (expanded_each r))
    where
      go : (p : Option Terms) → option_and_then (form w f) p ≡ option_map make p
      go None = refl
      go (Some ts) = h ts

  pub some_part : (make : Terms → Option Term) → ((ts : Terms) → form w f ts ≡ make ts) → of_term A (option_and_then (form w f) (expanded_each r)) ≡ of_term A (with_terms make (expanded_each r))
  some_part make h = ap (of_term A) (go (expanded_each r))
    where
      go : (p : Option Terms) → option_and_then (form w f) p ≡ with_terms make p
      go None = refl
      go (Some ts) = h ts

-- of another word than QUOTE
pub no_quote : (f : Name) → abbreviation_of f ≡ Other → same_name f (named "QUOTE") ≡ false
no_quote f h = go (same_name f (named "QUOTE")) refl
  where
    go : (b : Bool) → same_name f (named "QUOTE") ≡ b → b ≡ false
    go true e = let k : QUOTE ≡ Other = sym (ap abbreviation_of (same_name-eq f (named "QUOTE") e)) ∙ h in cc
    go false e = refl

-- a constant that is quoted
module _ (A : ArityTable) (f : Name) (is_quote : f ≡ named "QUOTE") where
  pub quoted : (r : Object) → has_members 1 r ≡ true → of_term A (by_word QUOTE f r) ≡ Some (Pair (Symbol f) r, 0)
  quoted (Natural n) h = cc
  quoted (Symbol s) h = cc
  quoted (Pair a (Natural n)) h = cc
  quoted (Pair a (Symbol s)) h =
      ap (λ b. of_term A (cond b (Some (Constant a)) None)) h
      ∙ ap₂ (λ g t. Some (Pair (Symbol g) (Pair a (Symbol t)), 0)) (sym is_quote) (sym (same_name-eq s nil_name h))
  quoted (Pair a (Pair b z)) h = cc

pub unquoted : (A : ArityTable) (f : Name) (r : Object) → has_members 1 r ≡ false → of_term A (by_word QUOTE f r) ≡ None
unquoted A f (Natural n) h = refl
unquoted A f (Symbol s) h = refl
unquoted A f (Pair a (Natural n)) h = refl
unquoted A f (Pair a (Symbol s)) h = ap (λ b. of_term A (cond b (Some (Constant a)) None)) h
unquoted A f (Pair a (Pair b z)) h = refl

-- another word than the first
skip : (b : Bool) (w rest : Abbreviation) → (w ≡ QUOTE → ⊥) → cond b w rest ≡ QUOTE → rest ≡ QUOTE
skip true w rest h e = absurd (h e)
skip false w rest h e = e

-- the word QUOTE is that of one name
pub quote_is : (f : Name) → abbreviation_of f ≡ QUOTE → f ≡ named "QUOTE"
quote_is f h = go (same_name (named "QUOTE") f) refl (skip (same_name (named "FIFTH") f) FIFTH _ (λ e. cc) (skip (same_name (named "FOURTH") f) FOURTH _ (λ e. cc) (skip (same_name (named "THIRD") f) THIRD _ (λ e. cc) (skip (same_name (named "SECOND") f) SECOND _ (λ e. cc) (skip (same_name (named "FIRST") f) FIRST _ (λ e. cc) (skip (same_name (named "LET*") f) LETSTAR _ (λ e. cc) (skip (same_name (named "LET") f) LET _ (λ e. cc) (skip (same_name (named "LIST") f) LIST _ (λ e. cc) (skip (same_name (named "COND") f) COND _ (λ e. cc) (skip (same_name (named "OR") f) OR _ (λ e. cc) (skip (same_name (named "AND") f) AND _ (λ e. cc) h)))))))))))
  where
    go : (b : Bool) → same_name (named "QUOTE") f ≡ b → cond b QUOTE Other ≡ QUOTE → f ≡ named "QUOTE"
    go true e k = sym (same_name-eq (named "QUOTE") f e)
    go false e k = cc

-- a quoted constant goes on as itself
pub quote-step : (A : ArityTable) (os : List Object) (es : Entries) (goal : Option Meaning) (x rest : ℕ) (f : Name) (s : Progress) → f ≡ named "QUOTE" → IsIn os x → object_at os x ≡ Pair (Symbol f) (object_at os rest) → goal ≡ of_term A (by_word QUOTE f (object_at os rest)) → IsQuoted os x rest s → IsStep A os os es goal x s
quote-step A os es goal x rest f (progress.Made m) q i shape e h =
    (subst (IsIn os) (sym h.1) i, e ∙ (quoted A f q (object_at os rest) h.0 ∙ ap₂ (λ o n. Some (o, n)) (sym shape ∙ ap (object_at os) (sym h.1)) (sym h.2)))
quote-step A os es goal x rest f (progress.Wants p) q i shape e h = absurd h
quote-step A os es goal x rest f progress.Fails q i shape e h = e ∙ unquoted A f (object_at os rest) h

-- an atom goes on as itself
pub atom-step : (A : ArityTable) (old new : List Object) (es : Entries) (goal : Option Meaning) (x r : ℕ) (s : Progress) → IsIn new r → goal ≡ Some (object_at new r, 0) → IsAtom r s → IsStep A old new es goal x s
atom-step A old new es goal x r (progress.Made m) i e h = (subst (IsIn new) (sym h.0) i, e ∙ ap₂ (λ o n. Some (o, n)) (ap (object_at new) (sym h.0)) (sym h.1))
atom-step A old new es goal x r (progress.Wants p) i e h = absurd h
atom-step A old new es goal x r progress.Fails i e h = absurd h

-- T and NIL, and another symbol
constant-by : (A : ArityTable) (f : Name) (a b : Bool) → same_name f (named "T") ≡ a → same_name f nil_name ≡ b → (a || b) ≡ true → of_term A (Some (cond a (Constant T) (cond b (Constant NIL) (Variable f)))) ≡ Some (list2 (symbol "QUOTE") (Symbol f), 0)
constant-by A f true b p q h = ap (λ g. Some (list2 (symbol "QUOTE") (Symbol g), 0)) (sym (same_name-eq f (named "T") p))
constant-by A f false true p q h = ap (λ g. Some (list2 (symbol "QUOTE") (Symbol g), 0)) (sym (same_name-eq f nil_name q))
constant-by A f false false p q h = cc

pub constant_symbol : (A : ArityTable) (f : Name) → (same_name f (named "T") || same_name f nil_name) ≡ true → meaning A kind.Term (Symbol f) ≡ Some (list2 (symbol "QUOTE") (Symbol f), 0)
constant_symbol A f h = constant-by A f (same_name f (named "T")) (same_name f nil_name) refl refl h

variable-by : (A : ArityTable) (f : Name) (a b : Bool) → same_name f (named "T") ≡ a → same_name f nil_name ≡ b → (a || b) ≡ false → of_term A (Some (cond a (Constant T) (cond b (Constant NIL) (Variable f)))) ≡ Some (Symbol f, 0)
variable-by A f true b p q h = cc
variable-by A f false true p q h = cc
variable-by A f false false p q h = ap₂ (λ a b. cond {A = Option Meaning} (not a && not b) (Some (Symbol f, 0)) None) p q

pub variable_symbol : (A : ArityTable) (f : Name) → (same_name f (named "T") || same_name f nil_name) ≡ false → meaning A kind.Term (Symbol f) ≡ Some (Symbol f, 0)
variable_symbol A f h = variable-by A f (same_name f (named "T")) (same_name f nil_name) refl refl h
