-- What a block owes, call by call and function by function, as the heap grows.
use Rattle.std.proofs.Common.{◌≡◌, ℕ, zero, suc, ◌+◌, ◌<◌, ◌≤◌, Bool, true, false, ◌||◌, cond, eqb, List, [], ◌∷◌, ◌++◌, length, get_or, take, take_all, map, Some, refl, sym, ap, ap₂, ◌∙◌, subst, arith, append_assoc}
use Rattle.std.proofs.lemmas.List.{append-nil, take_more, map-append}
use Rattle.mw_model.specs.Terms.Object.{Name, Object}
use Rattle.mw_model.specs.Terms.Term.{Formula, are_distinct}
use Rattle.mw_model.specs.Values.Primitive.{name_of}
use Rattle.mw_model.specs.Values.Definition.{Function, function_named}
use Rattle.mw_model.specs.Events.Obligation.{Measures, RecursiveCall, recursive_calls, obligation, obligations, ordinal_formula, measure_of, is_empty, some_nested, is_nested, calls_none, owed}
use Rattle.mw_heap.specs.Objects.{object_at, IsIn, Grows}
use Rattle.mw_heap.proofs.Objects.{object_at-Grows, Grows-refl, Grows-trans}
use Rattle.mw_define.specs.declared.draft.Draft.{Draft as Given}
use Rattle.mw_define.specs.declared.item.FoundCall.{FoundCall}
use Rattle.mw_define.specs.declared.obligations.Obligations.{Obligations}
use Rattle.mw_define.specs.declared.recursion.Recursion.{Recursion}
use Rattle.mw_define.specs.declared.recursion.Recursion.TheVariants as recursion
use Rattle.mw_define.specs.Collecting.{AreFoundCalls, HasNames, found_calls}
use Rattle.mw_define.specs.Blocks.{function_at, functions_at, measures_at, IsDraftIn, AreExpanded}
use Rattle.mw_define.specs.Owed.{Adds, AreBlock, IsNamed, obligation_count, owed_at, calls_of, OwesBy, OwesOne, OwesEach, OwesAll, joined}
use Rattle.mw_define.proofs.Collection.{found-append, found-Grows}
use Rattle.mw_define.proofs.NestedCalls.{one-call}
use Rattle.mw_define.proofs.Witnessed.{symbols-Grows, names-Grows}
use Rattle.mw_define.proofs.Expanding.{each-expanded-Grows, functions-Grows, measures-Grows, function-Grows, measure-Grows, expanded-Grows}
use Rattle.mw_define.proofs.OwedSoFar.{adds-none, adds-both, adds-later}

module _ (old new : List Object) (g : Grows old new) where
  pub block-Grows : (rs : List ℕ) (es : List Given) → AreBlock old rs es → AreBlock new rs es
  block-Grows rs es b = record {
    expanded = each-expanded-Grows old new g es b.expanded;
    symbols = symbols-Grows old new rs g b.symbols;
    refs = b.refs;
    distinct = subst (λ xs. are_distinct xs ≡ true) (sym (names-Grows old new rs g b.symbols)) b.distinct;
  }

  pub named-Grows : (es : List Given) (name : ℕ) (e : Given) → AreExpanded old es → IsIn old name → IsNamed old es name e → IsNamed new es name e
  named-Grows es name e x i n =
      let o = object_at-Grows old new g name i in
      let w = n.expanded.within in
      record {
        same = n.same;
        expanded = expanded-Grows old new g e n.expanded;
        function = ap₂ (λ B y. function_named B (name_of y)) (functions-Grows old new g es x) o ∙ (n.function ∙ ap Some (sym (function-Grows old new g e w)));
        measure = ap₂ (λ M y. measure_of M (name_of y)) (measures-Grows old new g es x) o ∙ (n.measure ∙ sym (measure-Grows old new g e w));
      }

  -- what is owed at calls stays
  pub owed_at-Grows : (es : List Given) (e : Given) (cs : List RecursiveCall) → AreExpanded old es → IsDraftIn old e → owed_at new es e cs ≡ owed_at old es e cs
  owed_at-Grows es e cs x w =
      ap (λ B. map (obligation B (measures_at new es) (function_at new e)) cs) (functions-Grows old new g es x)
      ∙ ap₂ (λ M h. map (obligation (functions_at old es) M h) cs) (measures-Grows old new g es x) (function-Grows old new g e w)

  pub found_at-Grows : (es : List Given) (names : List Name) (fs : List FoundCall) → AreExpanded old es → AreFoundCalls old names fs → found_calls (functions_at new es) new fs ≡ found_calls (functions_at old es) old fs
  found_at-Grows es names fs x h = ap (λ B. found_calls B new fs) (functions-Grows old new g es x) ∙ found-Grows old new names g (functions_at old es) fs h

  pub owed_found-Grows : (es : List Given) (e : Given) (names : List Name) (fs : List FoundCall) → AreExpanded old es → IsDraftIn old e → AreFoundCalls old names fs → owed_at new es e (found_calls (functions_at new es) new fs) ≡ owed_at old es e (found_calls (functions_at old es) old fs)
  owed_found-Grows es e names fs x w h = owed_at-Grows es e (found_calls (functions_at new es) new fs) x w ∙ ap (owed_at old es e) (found_at-Grows es names fs x h)

  pub ordinal-Grows : (es : List Given) (e : Given) → AreExpanded old es → IsDraftIn old e → ordinal_formula (measure_of (measures_at new es) (name_of (object_at new e.name))) ≡ ordinal_formula (measure_of (measures_at old es) (name_of (object_at old e.name)))
  ordinal-Grows es e x w = ap₂ (λ M y. ordinal_formula (measure_of M (name_of y))) (measures-Grows old new g es x) (object_at-Grows old new g e.name w.0)

  pub counted-Grows : (es : List Given) → AreExpanded old es → obligation_count new es ≡ obligation_count old es
  counted-Grows es x = ap₂ (λ B M. length (obligations B M)) (functions-Grows old new g es x) (measures-Grows old new g es x)

pub found-at : (os : List Object) (names : List Name) (fs : List FoundCall) (i : ℕ) (f : FoundCall) → AreFoundCalls os names fs → i < length fs → f ≡ get_or fs i f → AreFoundCalls os names (f ∷ [])
found-at os names fs i f h l is = subst (λ c. AreFoundCalls os names (c ∷ [])) (sym is) (go fs i h l)
  where
    go : (fs : List FoundCall) (i : ℕ) → AreFoundCalls os names fs → i < length fs → AreFoundCalls os names (get_or fs i f ∷ [])
    go [] i h l = absurd (omega arith)
    go (c ∷ fs) zero h l = (h.0, h.1, tt)
    go (c ∷ fs) (suc i) h l = go fs i h.2 (omega arith)

-- the ordinal was added, and what the calls before some one owe
pub record CallsSoFar (old cur : List Object) (es : List Given) (e : Given) (o more : Obligations) (fs : List FoundCall) (i : ℕ) : Type 0 where
  pub grows : Grows old cur
  pub adds : Adds old cur o more (ordinal_formula (measure_of (measures_at old es) (name_of (object_at old e.name))) ∷ owed_at old es e (found_calls (functions_at old es) old (take i fs)))

module _ (old cur new : List Object) (es : List Given) (e : Given) (names : List Name) (o more last : Obligations) (fs : List FoundCall) (i : ℕ) (f : FoundCall) (x : AreExpanded old es) (w : IsDraftIn old e) (h : AreFoundCalls old names fs) (l : i < length fs) (is : f ≡ get_or fs i f) where
  pub calls-next : CallsSoFar old cur es e o more fs i → Grows cur new → Adds cur new more last (owed_at cur es e (found_calls (functions_at cur es) cur (f ∷ []))) → CallsSoFar old new es e o last fs (i + 1)
  calls-next s g a =
      let B = functions_at old es in
      let ordinal = ordinal_formula (measure_of (measures_at old es) (name_of (object_at old e.name))) in
      let first = owed_at old es e (found_calls B old (take i fs)) in
      let one = owed_at old es e (found_calls B old (f ∷ [])) in
      let added : Adds cur new more last one = subst (Adds cur new more last) (owed_found-Grows old cur s.grows es e names (f ∷ []) x w (found-at old names fs i f h l is)) a in
      let both : first ++ one ≡ owed_at old es e (found_calls B old (take (i + 1) fs)) =
      sym (map-append (obligation B (measures_at old es) (function_at old e)) (found_calls B old (take i fs)) (found_calls B old (f ∷ [])))
      ∙ ap (owed_at old es e) (sym (found-append B old (take i fs) (f ∷ [])) ∙ ap (found_calls B old) (sym (take_more fs i f l ∙ ap (λ c. take i fs ++ c ∷ []) (sym is)))) in
      record {
        grows = Grows-trans old cur new s.grows g;
        adds = subst (λ Gs. Adds old new o last (ordinal ∷ Gs)) both (adds-both old cur new o more last (ordinal ∷ first) one s.adds added);
      }

pub calls-end : (old cur : List Object) (es : List Given) (e : Given) (o more : Obligations) (fs : List FoundCall) (i : ℕ) → length fs ≤ i → CallsSoFar old cur es e o more fs i →
    Adds old cur o more (ordinal_formula (measure_of (measures_at old es) (name_of (object_at old e.name))) ∷ owed_at old es e (found_calls (functions_at old es) old fs))
calls-end old cur es e o more fs i l s =
    subst (λ cs. Adds old cur o more (ordinal_formula (measure_of (measures_at old es) (name_of (object_at old e.name))) ∷ owed_at old es e (found_calls (functions_at old es) old cs))) (take_all i fs l) s.adds

-- found calls are calls
pub found-some : (B : List Function) (os : List Object) (names : List Name) (f : FoundCall) (fs : List FoundCall) → HasNames B names → AreFoundCalls os names (f ∷ fs) → is_empty (found_calls B os (f ∷ fs)) ≡ false
found-some B os names f fs n h = ap (λ l. is_empty (l ++ found_calls B os fs)) (one-call B os names f n h.0).calls

pub found-empty : (B : List Function) (os : List Object) (names : List Name) (fs : List FoundCall) → HasNames B names → AreFoundCalls os names fs → eqb (length fs) 0 ≡ false → is_empty (found_calls B os fs) ≡ false
found-empty B os names [] n h e = cc
found-empty B os names (f ∷ fs) n h e = found-some B os names f fs n h

-- function by function
module _ (B : List Function) (M : Measures) where
  nested-push : (hs : List Function) (h : Function) → is_nested B hs ≡ false → some_nested B (recursive_calls B h) ≡ false → is_nested B (hs ++ h ∷ []) ≡ false
  nested-push [] h a b = ap (λ c. c || false) b
  nested-push (k ∷ hs) h a b = go (some_nested B (recursive_calls B k)) a (λ q. nested-push hs h q b)
    where
      go : (c : Bool) → (c || is_nested B hs) ≡ false → (is_nested B hs ≡ false → is_nested B (hs ++ h ∷ []) ≡ false) → (c || is_nested B (hs ++ h ∷ [])) ≡ false
      go true q rest = cc
      go false q rest = rest q

  none-push : (hs : List Function) (h : Function) (b : Bool) → is_empty (recursive_calls B h) ≡ b → calls_none B (hs ++ h ∷ []) ≡ cond b (calls_none B hs) false
  none-push [] h b e = ap (λ c. cond c true false) e
  none-push (k ∷ hs) h b e = ap (λ c. cond (is_empty (recursive_calls B k)) c false) (none-push hs h b e) ∙ go (is_empty (recursive_calls B k)) b
    where
      go : (c b : Bool) → cond c (cond b (calls_none B hs) false) false ≡ cond b (cond c (calls_none B hs) false) false
      go true true = refl
      go true false = refl
      go false true = refl
      go false false = refl

  owed-push : (hs : List Function) (h : Function) → owed B M (hs ++ h ∷ []) ≡ owed B M hs ++ ordinal_formula (measure_of M h.name) ∷ map (obligation B M h) (recursive_calls B h)
  owed-push [] h = ap (λ l. ordinal_formula (measure_of M h.name) ∷ l) (append-nil (map (obligation B M h) (recursive_calls B h)))
  owed-push (k ∷ hs) h =
      let own = map (obligation B M k) (recursive_calls B k) in
      let last = ordinal_formula (measure_of M h.name) ∷ map (obligation B M h) (recursive_calls B h) in
      ap (λ l. ordinal_formula (measure_of M k.name) ∷ l) (ap (λ l. own ++ l) (owed-push hs h) ∙ sym (append_assoc own (owed B M hs) last))

functions-push : (os : List Object) (es : List Given) (e : Given) → functions_at os (es ++ e ∷ []) ≡ functions_at os es ++ function_at os e ∷ []
functions-push os [] e = refl
functions-push os (d ∷ es) e = ap (λ l. function_at os d ∷ l) (functions-push os es e)

-- one of them is nested
pub nested-found : (os : List Object) (es : List Given) (i : ℕ) (e : Given) → i < length es → e ≡ get_or es i e → some_nested (functions_at os es) (calls_of os es e) ≡ true → is_nested (functions_at os es) (functions_at os es) ≡ true
nested-found os es i e l is h = go es i l (subst (λ d. some_nested (functions_at os es) (calls_of os es d) ≡ true) is h)
  where
    B : List Function
    B = functions_at os es

    or-true : (a : Bool) → (a || true) ≡ true
    or-true true = refl
    or-true false = refl

    go : (ds : List Given) (i : ℕ) → i < length ds → some_nested (functions_at os es) (recursive_calls (functions_at os es) (function_at os (get_or ds i e))) ≡ true → is_nested (functions_at os es) (functions_at os ds) ≡ true
    go [] i l h = absurd (omega arith)
    go (d ∷ ds) zero l h = ap (λ b. b || is_nested (functions_at os es) (functions_at os ds)) h
    go (d ∷ ds) (suc i) l h = ap (λ b. some_nested (functions_at os es) (recursive_calls (functions_at os es) (function_at os d)) || b) (go ds i (omega arith) h) ∙ or-true (some_nested (functions_at os es) (recursive_calls (functions_at os es) (function_at os d)))

-- what the functions before some one owe was added
abbrev pub OwesSoFar : List Object → List Object → List Given → ℕ → Obligations → Obligations → Recursion → Type 0
OwesSoFar old cur es i o more recursion.Nested = ⊥
OwesSoFar old cur es i o more recursion.Absent = OwesEach old cur es (take i es) o more true
OwesSoFar old cur es i o more recursion.Present = OwesEach old cur es (take i es) o more false

pub record BlockSoFar (old cur : List Object) (es : List Given) (i : ℕ) (o more : Obligations) (r : Recursion) : Type 0 where
  pub grows : Grows old cur
  pub owes : OwesSoFar old cur es i o more r

module _ (old cur new : List Object) (es : List Given) (i : ℕ) (e : Given) (o more last : Obligations) (x : AreExpanded old es) (w : IsDraftIn old e) (l : i < length es) (is : e ≡ get_or es i e) (grows : Grows old cur) where
  more-functions : functions_at old (take (i + 1) es) ≡ functions_at old (take i es) ++ function_at old e ∷ []
  more-functions = ap (functions_at old) (take_more es i e l ∙ ap (λ d. take i es ++ d ∷ []) (sym is)) ∙ functions-push old (take i es) e

  same-calls : calls_of cur es e ≡ calls_of old es e
  same-calls = ap₂ recursive_calls (functions-Grows old cur grows es x) (function-Grows old cur grows e w)

  pub each-next : (a b : Bool) → OwesEach old cur es (take i es) o more a → OwesBy cur new es e more last b → OwesEach old new es (take (i + 1) es) o last (cond b a false)
  each-next a b s k =
      let B = functions_at old es in
      let M = measures_at old es in
      let h = function_at old e in
      let hs = functions_at old (take i es) in
      let flat : some_nested B (recursive_calls B h) ≡ false = sym (ap₂ (λ D cs. some_nested D cs) (functions-Grows old cur grows es x) same-calls) ∙ k.flat in
      let own : List Formula = ordinal_formula (measure_of M (name_of (object_at old e.name))) ∷ owed_at old es e (calls_of old es e) in
      let added : Adds cur new more last own =
      subst (Adds cur new more last) (ap₂ (λ F Fs. F ∷ Fs) (ordinal-Grows old cur grows es e x w) (owed_at-Grows old cur grows es e (calls_of cur es e) x w ∙ ap (owed_at old es e) same-calls)) k.adds in
      record {
        flat = ap (is_nested B) more-functions ∙ nested-push B M hs h s.flat flat;
        empty =
            ap (calls_none B) more-functions
            ∙ (none-push B M hs h b (ap is_empty (sym same-calls) ∙ k.empty)
            ∙ ap (λ c. cond b c false) s.empty);
        adds = subst (Adds old new o last) (sym (ap (owed B M) more-functions ∙ owed-push B M hs h)) (adds-both old cur new o more last (owed B M hs) own s.adds added);
      }

-- what a function owes, said of the smaller heap
module _ (old cur new : List Object) (g : Grows old cur) (es : List Given) (e : Given) (o more : Obligations) (x : AreExpanded old es) (w : IsDraftIn old e) where
  pub kept-calls : calls_of cur es e ≡ calls_of old es e
  kept-calls = ap₂ recursive_calls (functions-Grows old cur g es x) (function-Grows old cur g e w)

  kept-nested : some_nested (functions_at cur es) (calls_of cur es e) ≡ some_nested (functions_at old es) (calls_of old es e)
  kept-nested = ap₂ some_nested (functions-Grows old cur g es x) kept-calls

  by-later : (b : Bool) → OwesBy cur new es e o more b → OwesBy old new es e o more b
  by-later b k = record {
    flat = sym kept-nested ∙ k.flat;
    empty = ap is_empty (sym kept-calls) ∙ k.empty;
    adds =
        adds-later old cur new o more (ordinal_formula (measure_of (measures_at old es) (name_of (object_at old e.name))) ∷ owed_at old es e (calls_of old es e)) g
        (subst (Adds cur new o more) (ap₂ (λ F Fs. F ∷ Fs) (ordinal-Grows old cur g es e x w) (owed_at-Grows old cur g es e (calls_of cur es e) x w ∙ ap (owed_at old es e) kept-calls)) k.adds);
  }

  pub one-later : (r : Recursion) → OwesOne cur new es e o more r → OwesOne old new es e o more r
  one-later recursion.Nested k = sym kept-nested ∙ k
  one-later recursion.Absent k = by-later true k
  one-later recursion.Present k = by-later false k

pub owes-next : (old cur new : List Object) (es : List Given) (i : ℕ) (e : Given) (o more last : Obligations) → AreExpanded old es → IsDraftIn old e → i < length es → e ≡ get_or es i e → Grows old cur → (r next : Recursion) → (next ≡ recursion.Nested → ⊥) → OwesSoFar old cur es i o more r → OwesOne cur new es e more last next → OwesSoFar old new es (i + 1) o last (joined r next)
owes-next old cur new es i e o more last x w l is g r recursion.Nested n s k = absurd (n refl)
owes-next old cur new es i e o more last x w l is g recursion.Nested recursion.Absent n s k = absurd s
owes-next old cur new es i e o more last x w l is g recursion.Nested recursion.Present n s k = absurd s
owes-next old cur new es i e o more last x w l is g recursion.Absent recursion.Absent n s k = each-next old cur new es i e o more last x w l is g true true s k
owes-next old cur new es i e o more last x w l is g recursion.Absent recursion.Present n s k = each-next old cur new es i e o more last x w l is g true false s k
owes-next old cur new es i e o more last x w l is g recursion.Present recursion.Absent n s k = each-next old cur new es i e o more last x w l is g false true s k
owes-next old cur new es i e o more last x w l is g recursion.Present recursion.Present n s k = each-next old cur new es i e o more last x w l is g false false s k

pub owes-start : (os : List Object) (es : List Given) (o : Obligations) → BlockSoFar os os es 0 o o recursion.Absent
owes-start os es o = record {
  grows = Grows-refl os;
  owes = record { flat = refl; empty = refl; adds = adds-none os os o (Grows-refl os) };
}

pub block-end : (old cur : List Object) (es : List Given) (i : ℕ) (o more : Obligations) (r : Recursion) → length es ≤ i → OwesSoFar old cur es i o more r → OwesAll old cur es o more r
block-end old cur es i o more recursion.Nested l s = absurd s
block-end old cur es i o more recursion.Absent l s = subst (λ ds. OwesEach old cur es ds o more true) (take_all i es l) s
block-end old cur es i o more recursion.Present l s = subst (λ ds. OwesEach old cur es ds o more false) (take_all i es l) s
