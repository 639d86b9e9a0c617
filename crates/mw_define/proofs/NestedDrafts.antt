-- The nested calls of drafts are those of the functions that they expand to.
use Rattle.std.proofs.Common.{◌≡◌, ℕ, true, ◌&&◌, List, [], ◌∷◌, ◌++◌, length, get_or, take, take_all, map, Option, Some, None, is_some, unwrap_or, inl, inr, refl, sym, ap, ap₂, ◌∙◌, subst, ◌<◌, ◌≤◌, ◌+◌}
use Rattle.std.proofs.lemmas.Bool.{and_parts}
use Rattle.std.proofs.lemmas.List.{take_more}
use Rattle.mw_model.specs.Terms.Object.{Name, Object}
use Rattle.mw_model.specs.Terms.Term.{Term, ArityTable}
use Rattle.mw_model.specs.Terms.Reading.{and_more}
use Rattle.mw_model.specs.Events.Expansion.{expand}
use Rattle.mw_model.specs.Events.Admission.{Draft, all_of, new_names, formals_of, add_names, functions}
use Rattle.mw_model.proofs.ReadBack.{some_one}
use Rattle.mw_heap.specs.Objects.{object_at, Grows}
use Rattle.mw_heap.proofs.Objects.{IsIn-Grows, object_at-Grows}
use Rattle.mw_term.specs.Parts.{names_at, AreSymbols}
use Rattle.mw_translate.specs.Expands.{with_pairs}
use Rattle.mw_define.specs.declared.draft.Draft.{Draft as Given}
use Rattle.mw_define.specs.declared.nested_call.NestedCall.{NestedCall as Nested}
use Rattle.mw_define.specs.Blocks.{draft_at, IsDraftIn, AreDraftsIn, draft_names, formals_of_drafts, measures_of_drafts, bodies_of_drafts, Each2, IsCounted, Expands, HasNoTerm, AreNames, functions_at}
use Rattle.mw_define.specs.Owed.{AreBlock}
use Rattle.mw_define.specs.BlockTests.{the_names, the_formal_lists}
use Rattle.mw_define.specs.NestedCall.{first_nested, the_functions, IsFirstNested, IsNestedFrom, measures_expand, with_measure, HaveNoMeasures}
use Rattle.mw_define.proofs.BlockRead.{of-drafts, names-are, AreCounted, counted, bodies_at, bodies-are, AreRead, read, block-is}

never : {X : Type 0} {x : X} → None ≡ Some x → ⊥
never h = cc

functions-none : (fs : List Name) (xss : List (List Name)) → functions fs xss [] ≡ []
functions-none [] xss = refl
functions-none (f ∷ fs) [] = refl
functions-none (f ∷ fs) (xs ∷ xss) = refl

measures-some : (A : ArityTable) (os : List Object) (ds : List Given) → measures_expand A os ds ≡ true → measures_of_drafts A os ds ≡ None → ⊥
measures-some A os [] h e = cc
measures-some A os (d ∷ ds) h e =
    let p = and_parts (is_some (expand A (object_at os d.measure))) (measures_expand A os ds) h in
    go (expand A (object_at os d.measure)) (measures_of_drafts A os ds) p.0 (measures-some A os ds p.1) e
  where
    go : (o : Option Term) (q : Option (List Term)) → is_some o ≡ true → (q ≡ None → ⊥) → and_more o q ≡ None → ⊥
    go None q s n e = cc
    go (Some t) None s n e = n refl
    go (Some t) (Some ts) s n e = cc

module _ (A : ArityTable) (old : List Object) (ds : List Given) where
  abbrev D : List Draft
  D = map (draft_at old) ds

  -- nothing is said of such drafts
  pub no-names : (os : List Object) (o : Option Nested) → the_names A D ≡ None → IsNestedFrom A D os o
  no-names os o h fs xss n f = absurd (never (sym h ∙ n))

  pub no-formals : (os : List Object) (o : Option Nested) → formals_of_drafts old ds ≡ None → IsNestedFrom A D os o
  no-formals os o h fs xss n f = absurd (never (sym (of-drafts formals_of (λ d. d.formals) old ds ∙ h) ∙ f))

  module _ (rs : List ℕ) (within : AreDraftsIn old ds) (n : AreNames A old ds rs) (ps : List (ℕ × ℕ)) (c : Each2 (IsCounted old) ds ps) where
    abbrev k : AreCounted old ds ps
    k = counted old ds ps c

    -- the bodies are expanded under the names with their formals
    under : (fs : List Name) (xss : List (List Name)) → the_names A D ≡ Some fs → the_formal_lists A D ≡ Some xss → add_names fs xss A ≡ with_pairs old ps A
    under fs xss m f =
        ap₂ (λ gs yss. add_names gs yss A) (some_one (sym m ∙ (names-are A old ds rs n ∙ ap (λ l. Some (names_at old l)) n.refs))) (some_one (sym f ∙ (of-drafts formals_of (λ d. d.formals) old ds ∙ k.are)))
        ∙ sym (k.pairs A)

    pub no-terms-nested : (os : List Object) → measures_expand A old ds ≡ true → HasNoTerm (with_pairs old ps A) A old ds → IsNestedFrom A D os None
    no-terms-nested os s h fs xss m f = ap (λ B. first_nested B 1 B) (elim h [ inl b ↦ none b | inr e ↦ absurd (measures-some A old ds s e) ])
      where
        none : bodies_of_drafts (with_pairs old ps A) old ds ≡ None → the_functions A D fs xss ≡ []
        none b = ap (λ o. functions fs xss (unwrap_or o [])) (ap (λ N. all_of (expand N) (map (λ d. d.body) D)) (under fs xss m f) ∙ (of-drafts (expand (with_pairs old ps A)) (λ d. d.body) old ds ∙ b)) ∙ functions-none fs xss

    module _ (mid : List Object) (es : List Given) (g : Grows old mid) (x : Each2 (Expands (with_pairs old ps A) A old mid) ds es) where
      abbrev r : AreRead (with_pairs old ps A) A old mid g ds es
      r = read (with_pairs old ps A) A old mid g ds es ps within (subst (AreSymbols old) n.refs n.symbols) c x

      pub nested-block : AreBlock mid rs es
      nested-block = block-is A old mid ds es rs g n r.expanded r.same_names

      block-functions : (fs : List Name) (xss : List (List Name)) → the_names A D ≡ Some fs → the_formal_lists A D ≡ Some xss → the_functions A D fs xss ≡ functions_at mid es
      block-functions fs xss m f =
          let N = with_pairs old ps A in
          let bodies : all_of (expand (add_names fs xss A)) (map (λ d. d.body) D) ≡ Some (bodies_at N A old mid g es) =
          ap (λ M. all_of (expand M) (map (λ d. d.body) D)) (under fs xss m f) ∙ (of-drafts (expand N) (λ d. d.body) old ds ∙ bodies-are N A old mid g ds es x) in
          let names : fs ≡ names_at old (draft_names ds) = some_one (sym m ∙ (names-are A old ds rs n ∙ ap (λ l. Some (names_at old l)) n.refs)) in
          let formals : xss ≡ r.formals = some_one (sym f ∙ (of-drafts formals_of (λ d. d.formals) old ds ∙ r.are_formals)) in
          ap (λ o. functions fs xss (unwrap_or o [])) bodies
          ∙ (ap₂ (λ gs yss. functions gs yss (bodies_at N A old mid g es)) names formals
          ∙ sym r.functions_are)

      pub nested-found : (os : List Object) (o : Option Nested) → IsFirstNested (functions_at mid es) os o → IsNestedFrom A D os o
      nested-found os o h fs xss m f = subst (λ B. IsFirstNested B os o) (sym (block-functions fs xss m f)) h

-- drafts without measures
module _ (old new : List Object) (g : Grows old new) (ds es : List Given) (w : AreDraftsIn old ds) (h : HaveNoMeasures new ds es) where
  pub plain-in : AreDraftsIn new es
  plain-in = subst (AreDraftsIn new) (sym h.are) (go ds w)
    where
      go : (ds : List Given) → AreDraftsIn old ds → AreDraftsIn new (map (with_measure h.nil) ds)
      go [] w = tt
      go (d ∷ ds) w = ((IsIn-Grows old new g d.name w.0.0, IsIn-Grows old new g d.formals w.0.1, IsIn-Grows old new g d.body w.0.2, h.nil_in), go ds w.1)

  pub plain-measures : (A : ArityTable) → measures_expand A new es ≡ true
  plain-measures A = ap (measures_expand A new) h.are ∙ go ds
    where
      go : (ds : List Given) → measures_expand A new (map (with_measure h.nil) ds) ≡ true
      go [] = refl
      go (d ∷ ds) = ap₂ (λ x b. is_some (expand A x) && b) h.nil_is (go ds)

  same-part : (p : Draft → Object) → ((d : Given) → IsDraftIn old d → p (draft_at new (with_measure h.nil d)) ≡ p (draft_at old d)) → map p (map (draft_at new) es) ≡ map p (map (draft_at old) ds)
  same-part p same = ap (λ l. map p (map (draft_at new) l)) h.are ∙ go ds w
    where
      go : (ds : List Given) → AreDraftsIn old ds → map p (map (draft_at new) (map (with_measure h.nil) ds)) ≡ map p (map (draft_at old) ds)
      go [] w = refl
      go (d ∷ ds) w = ap₂ (λ x xs. x ∷ xs) (same d w.0) (go ds w.1)

  pub plain-nested : (A : ArityTable) (os : List Object) (o : Option Nested) → IsNestedFrom A (map (draft_at new) es) os o → IsNestedFrom A (map (draft_at old) ds) os o
  plain-nested A os o k fs xss m f =
      let names = same-part (λ d. d.name) (λ d v. object_at-Grows old new g d.name v.0) in
      let formals = same-part (λ d. d.formals) (λ d v. object_at-Grows old new g d.formals v.1) in
      let bodies = same-part (λ d. d.body) (λ d v. object_at-Grows old new g d.body v.2) in
      subst (λ bs. IsFirstNested (functions fs xss (unwrap_or (all_of (expand (add_names fs xss A)) bs) [])) os o) bodies
      (k fs xss (ap (new_names A) names ∙ m) (ap (all_of formals_of) formals ∙ f))

-- one more draft without its measure
pub plain-next : (nil : ℕ) (ds : List Given) (i : ℕ) (d : Given) (es more : List Given) → i < length ds → d ≡ get_or ds i d → es ≡ map (with_measure nil) (take i ds) → more ≡ es ++ with_measure nil d ∷ [] → more ≡ map (with_measure nil) (take (i + 1) ds)
plain-next nil ds i d es more l is h k =
    k
    ∙ (ap (λ q. q ++ with_measure nil d ∷ []) h
    ∙ (sym (pushed (take i ds)) ∙ ap (map (with_measure nil)) (sym (take_more ds i d l ∙ ap (λ e. take i ds ++ e ∷ []) (sym is)))))
  where
    pushed : (xs : List Given) → map (with_measure nil) (xs ++ d ∷ []) ≡ map (with_measure nil) xs ++ with_measure nil d ∷ []
    pushed [] = refl
    pushed (x ∷ xs) = ap (λ q. with_measure nil x ∷ q) (pushed xs)

pub plain-end : (nil : ℕ) (ds : List Given) (i : ℕ) (es : List Given) → length ds ≤ i → es ≡ map (with_measure nil) (take i ds) → es ≡ map (with_measure nil) ds
plain-end nil ds i es l h = h ∙ ap (map (with_measure nil)) (take_all i ds l)
