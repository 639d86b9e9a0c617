-- Drafts and their expansions, as the heap grows.
use Rattle.std.proofs.Common.{◌≡◌, ℕ, zero, suc, ◌+◌, ◌<◌, ◌≤◌, Bool, true, false, ◌&&◌, List, [], ◌∷◌, ◌++◌, length, get_or, take, take_all, Some, None, inl, inr, refl, sym, ap, ap₂, ◌∙◌, subst, arith}
use Rattle.std.proofs.lemmas.List.{take_more}
use Rattle.mw_model.specs.Terms.Object.{Object}
use Rattle.mw_model.specs.Terms.Term.{Term, ArityTable, term_object, is_closed}
use Rattle.mw_model.specs.Terms.Reading.{term_of}
use Rattle.mw_model.specs.Values.Primitive.{is_symbol, name_of}
use Rattle.mw_model.specs.Values.Definition.{Function}
use Rattle.mw_model.specs.Events.Expansion.{expand}
use Rattle.mw_model.specs.Events.Admission.{formals_of, all_of}
use Rattle.mw_model.proofs.Formed.{formed}
use Rattle.mw_model.proofs.Read.{term_read}
use Rattle.mw_heap.specs.Objects.{object_at, IsIn, Grows}
use Rattle.mw_heap.proofs.Objects.{object_at-Grows, IsIn-Grows, Grows-trans}
use Rattle.mw_define.specs.declared.draft.Draft.{Draft as Given}
use Rattle.mw_define.specs.Collecting.{the_term}
use Rattle.mw_define.specs.Blocks.{IsDraftIn, Each2, IsExpansion, Expands, ExpandsNone, HasNoTerm, IsExpanded, AreExpanded, function_at, measure_at, functions_at, measures_at, the_formals, is_closed_at, are_closed_at}
use Rattle.mw_define.proofs.Members.{each2-push, each2-weaker, all_of-fails}
use Rattle.mw_define.proofs.Witnessed.{expand-term}

pub expansion-from : (A : ArityTable) (os : List Object) (x : Object) (r : ℕ) (t : Term) → expand A x ≡ Some t → IsIn os r → object_at os r ≡ term_object t → IsExpansion A os x r
expansion-from A os x r t e within is = record {
  term = t;
  within = within;
  expands = e;
  read = ap term_of is ∙ term_read A t (formed A t (expand-term A x t e));
}

module _ (old new : List Object) (g : Grows old new) where
  pub expansion-Grows : (A : ArityTable) (x : Object) (r : ℕ) → IsExpansion A old x r → IsExpansion A new x r
  expansion-Grows A x r h = record {
    term = h.term;
    within = IsIn-Grows old new g r h.within;
    expands = h.expands;
    read = ap term_of (object_at-Grows old new g r h.within) ∙ h.read;
  }

  pub draft-Grows : (d : Given) → IsDraftIn old d → IsDraftIn new d
  draft-Grows d h = (IsIn-Grows old new g d.name h.0, IsIn-Grows old new g d.formals h.1, IsIn-Grows old new g d.body h.2, IsIn-Grows old new g d.measure h.3)

  pub function-Grows : (e : Given) → IsDraftIn old e → function_at new e ≡ function_at old e
  function-Grows e h = go (object_at new e.name) (object_at new e.formals) (object_at new e.body) (object_at-Grows old new g e.name h.0) (object_at-Grows old new g e.formals h.1) (object_at-Grows old new g e.body h.2)
    where
      of : Object → Object → Object → Function
      of n f b = record { name = name_of n; formals = the_formals (formals_of f); body = the_term (term_of b) }

      go : (n f b : Object) → n ≡ object_at old e.name → f ≡ object_at old e.formals → b ≡ object_at old e.body → of n f b ≡ function_at old e
      go n f b p q r = ap₂ (λ x y. of x y b) p q ∙ ap (of (object_at old e.name) (object_at old e.formals)) r

  pub measure-Grows : (e : Given) → IsDraftIn old e → measure_at new e ≡ measure_at old e
  measure-Grows e h = ap (λ o. the_term (term_of o)) (object_at-Grows old new g e.measure h.3)

  pub expanded-Grows : (e : Given) → IsExpanded old e → IsExpanded new e
  expanded-Grows e h =
      let w = h.within in
      let f = object_at-Grows old new g e.formals w.1 in
      let b = object_at-Grows old new g e.body w.2 in
      let m = object_at-Grows old new g e.measure w.3 in
      record {
        within = draft-Grows e w;
        symbol = ap is_symbol (object_at-Grows old new g e.name w.0) ∙ h.symbol;
        formals = ap formals_of f ∙ (h.formals ∙ ap (λ o. Some (the_formals (formals_of o))) (sym f));
        body = ap term_of b ∙ (h.body ∙ ap (λ o. Some (the_term (term_of o))) (sym b));
        measure = ap term_of m ∙ (h.measure ∙ ap (λ o. Some (the_term (term_of o))) (sym m));
      }

  pub each-expanded-Grows : (es : List Given) → AreExpanded old es → AreExpanded new es
  each-expanded-Grows [] h = tt
  each-expanded-Grows (e ∷ es) h = (expanded-Grows e h.0, each-expanded-Grows es h.1)

  pub functions-Grows : (es : List Given) → AreExpanded old es → functions_at new es ≡ functions_at old es
  functions-Grows [] h = refl
  functions-Grows (e ∷ es) h = ap₂ (λ f fs. f ∷ fs) (function-Grows e h.0.within) (functions-Grows es h.1)

  pub measures-Grows : (es : List Given) → AreExpanded old es → measures_at new es ≡ measures_at old es
  measures-Grows [] h = refl
  measures-Grows (e ∷ es) h =
      ap₂ (λ p ps. p ∷ ps) (ap₂ (λ n m. (name_of n, m)) (object_at-Grows old new g e.name h.0.within.0) (measure-Grows e h.0.within)) (measures-Grows es h.1)

module _ (N A : ArityTable) where
  -- the draft was expanded in a heap that has grown
  pub expands-later : (old cur new : List Object) (d e : Given) → Grows old cur → IsDraftIn old d → Expands N A cur new d e → Expands N A old new d e
  expands-later old cur new d e g w h = record {
    name = h.name;
    formals = h.formals;
    body = subst (λ x. IsExpansion N new x e.body) (object_at-Grows old cur g d.body w.2) h.body;
    measure = subst (λ x. IsExpansion A new x e.measure) (object_at-Grows old cur g d.measure w.3) h.measure;
  }

  pub expands-Grows : (old cur new : List Object) (d e : Given) → Grows cur new → Expands N A old cur d e → Expands N A old new d e
  expands-Grows old cur new d e g h = record {
    name = h.name;
    formals = h.formals;
    body = expansion-Grows cur new g N (object_at old d.body) e.body h.body;
    measure = expansion-Grows cur new g A (object_at old d.measure) e.measure h.measure;
  }

  -- the drafts before some one were expanded
  pub record ExpandedSoFar (old cur : List Object) (ds : List Given) (i : ℕ) (es : List Given) : Type 0 where
    pub grows : Grows old cur
    pub each : Each2 (Expands N A old cur) (take i ds) es

  module _ (old cur new : List Object) (ds : List Given) (i : ℕ) (d : Given) (l : i < length ds) (is : d ≡ get_or ds i d) (w : IsDraftIn old d) where
    pub expanded-next : (es more : List Given) (e : Given) → ExpandedSoFar old cur ds i es → Grows cur new → Expands N A cur new d e → more ≡ es ++ e ∷ [] → ExpandedSoFar old new ds (i + 1) more
    expanded-next es more e h g x k =
        let t : take (i + 1) ds ≡ take i ds ++ d ∷ [] = take_more ds i d l ∙ ap (λ y. take i ds ++ y ∷ []) (sym is) in
        let R = Expands N A old new in
        record {
          grows = Grows-trans old cur new h.grows g;
          each =
              subst (λ xs. Each2 R xs more) (sym t)
              (subst (Each2 R (take i ds ++ d ∷ [])) (sym k)
              (each2-push R (take i ds) es d e (each2-weaker (Expands N A old cur) R (λ a b. expands-Grows old cur new a b g) (take i ds) es h.each) (expands-later old cur new d e h.grows w x)));
        }

    pub expanded-fails : Grows old cur → ExpandsNone N A cur d → HasNoTerm N A old ds
    expanded-fails g h = elim h [ inl b ↦ inl (none N (λ e. e.body) (object_at-Grows old cur g d.body w.2) b) | inr m ↦ inr (none A (λ e. e.measure) (object_at-Grows old cur g d.measure w.3) m) ]
      where
        none : (T : ArityTable) (p : Given → ℕ) → object_at cur (p d) ≡ object_at old (p d) → expand T (object_at cur (p d)) ≡ None → all_of (λ e. expand T (object_at old (p e))) ds ≡ None
        none T p o k = all_of-fails (λ e. expand T (object_at old (p e))) ds i d l (ap (λ e. expand T (object_at old (p e))) (sym is) ∙ (ap (expand T) (sym o) ∙ k))

  pub expanded-end : (old cur : List Object) (ds : List Given) (i : ℕ) (es : List Given) → length ds ≤ i → ExpandedSoFar old cur ds i es → Each2 (Expands N A old cur) ds es
  expanded-end old cur ds i es l h = subst (λ xs. Each2 (Expands N A old cur) xs es) (take_all i ds l) h.each

module _ (os : List Object) where
  pub expanded-at : (es : List Given) (i : ℕ) (e : Given) → AreExpanded os es → i < length es → e ≡ get_or es i e → IsExpanded os e
  expanded-at es i e h l is = subst (IsExpanded os) (sym is) (go es i h l)
    where
      go : (es : List Given) (i : ℕ) → AreExpanded os es → i < length es → IsExpanded os (get_or es i e)
      go [] i h l = absurd (omega arith)
      go (f ∷ es) zero h l = h.0
      go (f ∷ es) (suc i) h l = go es i h.1 (omega arith)

  and-false : (a b : Bool) → (a && (b && false)) ≡ false
  and-false true true = refl
  and-false true false = refl
  and-false false b = refl

  -- one of them is not closed
  pub closed-fails : (es : List Given) (i : ℕ) (e : Given) → i < length es → e ≡ get_or es i e → is_closed_at os e ≡ false → are_closed_at os es ≡ false
  closed-fails es i e l is h = go es i l (subst (λ f. is_closed_at os f ≡ false) is h)
    where
      go : (es : List Given) (i : ℕ) → i < length es → is_closed_at os (get_or es i e) ≡ false → are_closed_at os es ≡ false
      go [] i l h = absurd (omega arith)
      go (f ∷ es) zero l h = first (is_closed (function_at os f).formals (function_at os f).body) (is_closed (function_at os f).formals (measure_at os f)) h
        where
          first : (a b : Bool) → (a && b) ≡ false → (a && (b && are_closed_at os es)) ≡ false
          first true true k = cc
          first true false k = refl
          first false b k = refl
      go (f ∷ es) (suc i) l h =
          ap (λ c. is_closed (function_at os f).formals (function_at os f).body && (is_closed (function_at os f).formals (measure_at os f) && c)) (go es i (omega arith) h)
          ∙ and-false (is_closed (function_at os f).formals (function_at os f).body) (is_closed (function_at os f).formals (measure_at os f))
