-- What is shown of drafts, one after another.
use Rattle.std.proofs.Common.{◌≡◌, ℕ, suc, ◌+◌, ◌<◌, ◌≤◌, true, false, eqb, List, [], ◌∷◌, ◌++◌, length, get_or, drop, map, Option, Some, None, is_some, option_map, unwrap_or, IfSome, MatchOption, inl, inr, refl, sym, ap, ap₂, ◌∙◌, subst, add-one}
use Rattle.std.proofs.lemmas.List.{drop_more, drop_all}
use Rattle.mw_model.specs.Terms.Object.{Name, Object, Natural}
use Rattle.mw_model.specs.Terms.Term.{Term, ArityTable, are_distinct}
use Rattle.mw_model.specs.Terms.Reading.{term_of, that}
use Rattle.mw_model.specs.Events.Expansion.{expand}
use Rattle.mw_model.specs.Events.Refusal.{VARIABLES}
use Rattle.mw_model.specs.Events.Admission.{Draft, all_of, new_name, new_names, formals_of, add_names}
use Rattle.mw_model.proofs.ReadBack.{when_some}
use Rattle.mw_heap.specs.Objects.{object_at, IsIn, Grows}
use Rattle.mw_heap.specs.Variants.{refusal_of}
use Rattle.mw_heap.specs.declared.vocabulary.refusal.Refusal.{Refusal as Reason}
use Rattle.mw_heap.specs.declared.vocabulary.refusal.Refusal.TheVariants as reason
use Rattle.mw_heap.proofs.Objects.{IsIn-Grows, object_at-Grows}
use Rattle.mw_term.specs.Parts.{names_at}
use Rattle.mw_define.specs.declared.draft.Draft.{Draft as Given}
use Rattle.mw_define.specs.Blocks.{draft_at, IsDraftIn, IsExpansion}
use Rattle.mw_define.specs.Newer.{HasNoArities, AreArities}
use Rattle.mw_commands.specs.Commands.Explanation.{draft_shown, first_shown}
use Rattle.mw_explain.specs.Drafts.{IsExpandedTo, bodies_under, formals_at}
use Rattle.mw_bad_steps.specs.Shown.{Shows}

-- any reason but two shows the variables
pub other-reasons : (r : Reason) (A B : ArityTable) (d : Draft) → (r ≡ reason.Formals → ⊥) → (r ≡ reason.Term → ⊥) → draft_shown (refusal_of r) A B d ≡ draft_shown VARIABLES A B d
other-reasons reason.Formals A B d f t = absurd (f refl)
other-reasons reason.Term A B d f t = absurd (t refl)
other-reasons _ A B d f t = refl

-- what a raw term expanded to
pub expanded-to : (A : ArityTable) (os : List Object) (x : Object) (o : Option ℕ) → MatchOption o (expand A x ≡ None) (IsExpansion A os x) → IsExpandedTo os (expand A x) o
expanded-to A os x None h = subst (λ t. IsExpandedTo os t None) (sym h) tt
expanded-to A os x (Some r) h = subst (λ t. IsExpandedTo os t (Some r)) (sym h.expands) (h.within, h.read)

pub expanded-in : (os : List Object) (t : Option Term) (o : Option ℕ) → IsExpandedTo os t o → IfSome o (IsIn os)
expanded-in os None None h = tt
expanded-in os (Some t) None h = absurd h
expanded-in os None (Some r) h = absurd h
expanded-in os (Some t) (Some r) h = h.0

pub formals-named : (os : List Object) (o : Option (List ℕ)) (p : Option (List Name)) → option_map (names_at os) o ≡ p → formals_at os o ≡ unwrap_or p []
formals-named os None p e = ap (λ q. unwrap_or q []) e
formals-named os (Some rs) p e = ap (λ q. unwrap_or q []) e

module _ (old new : List Object) (g : Grows old new) where
  pub expanded-Grows : (t : Option Term) (o : Option ℕ) → IsExpandedTo old t o → IsExpandedTo new t o
  expanded-Grows None None h = tt
  expanded-Grows (Some t) None h = absurd h
  expanded-Grows None (Some r) h = absurd h
  expanded-Grows (Some t) (Some r) h = (IsIn-Grows old new g r h.0, ap term_of (object_at-Grows old new g r h.0) ∙ h.1)

  pub draft_at-Grows : (d : Given) → IsDraftIn old d → draft_at new d ≡ draft_at old d
  draft_at-Grows d w =
      ap₂ (λ n f. of n f (object_at new d.body) (object_at new d.measure)) (object_at-Grows old new g d.name w.0) (object_at-Grows old new g d.formals w.1)
      ∙ ap₂ (of (object_at old d.name) (object_at old d.formals)) (object_at-Grows old new g d.body w.2) (object_at-Grows old new g d.measure w.3)
    where
      of : Object → Object → Object → Object → Draft
      of n f b m = record { name = n; formals = f; body = b; measure = m }

-- one draft after another
module _ (show : Draft → List Object) (os : List Object) (ds : List Given) where
  abbrev from : ℕ → List Given → List Object
  from k es = first_shown show k (map (draft_at os) es)

  module _ (i : ℕ) (d : Given) (l : i < length ds) (is : d ≡ get_or ds i d) (h : from (suc i) (drop i ds) ≡ from 1 ds) where
    split : drop i ds ≡ d ∷ drop (i + 1) ds
    split = drop_more ds i d l ∙ ap (λ e. e ∷ drop (i + 1) ds) (sym is)

    abbrev by : List Object → List Object
    by shown = elim shown [ [] ↦ from (suc (suc i)) (drop (i + 1) ds) | y ∷ ys ↦ Natural (suc i) ∷ y ∷ ys ]

    step : by (show (draft_at os d)) ≡ from 1 ds
    step = ap (from (suc i)) (sym split) ∙ h

    pub shown-next : show (draft_at os d) ≡ [] → from (suc (i + 1)) (drop (i + 1) ds) ≡ from 1 ds
    shown-next e = ap (λ k. from (suc k) (drop (i + 1) ds)) (add-one i) ∙ (ap by (sym e) ∙ step)

    pub shown-here : (xs : List Object) → show (draft_at os d) ≡ xs → (xs ≡ [] → ⊥) → Natural (i + 1) ∷ xs ≡ from 1 ds
    shown-here xs e n = ap (λ k. Natural k ∷ xs) (add-one i) ∙ (some xs n ∙ (ap by (sym e) ∙ step))
      where
        some : (xs : List Object) → (xs ≡ [] → ⊥) → Natural (suc i) ∷ xs ≡ by xs
        some [] n = absurd (n refl)
        some (y ∷ ys) n = refl

  pub shown-end : (i : ℕ) → length ds ≤ i → from (suc i) (drop i ds) ≡ from 1 ds → from 1 ds ≡ []
  shown-end i l h = sym h ∙ ap (from (suc i)) (drop_all i ds l)

pub not-empty : (os : List Object) (rs : List ℕ) (xs : List Object) → eqb (length rs) 0 ≡ false → Shows os rs xs → xs ≡ [] → ⊥
not-empty os [] xs e h n = cc
not-empty os (r ∷ rs) xs e h n = cc

-- the arities of recursive functions
module _ (A : ArityTable) (ds : List Draft) where
  pub that-some : (o : Option (List Name)) (fs : List Name) → that are_distinct o ≡ Some fs → o ≡ Some fs
  that-some None fs e = cc
  that-some (Some xs) fs e = (when_some (are_distinct xs) (Some xs) fs e).1

  pub under-newer : (t : ArityTable) → AreArities A ds t → t ++ A ≡ bodies_under true A ds
  under-newer t h =
      h.table ∙ ap₂ (λ o p. add_names (unwrap_or o []) (unwrap_or p []) A) (sym (that-some (all_of (new_name A) (map (λ d. d.name) ds)) h.names h.are_new)) (sym h.are_formals)

  some-none : {X : Type 0} (o : Option X) → is_some o ≡ true → o ≡ None → ⊥
  some-none None e n = cc
  some-none (Some x) e n = cc

  pub has-arities : is_some (new_names A (map (λ d. d.name) ds)) ≡ true → is_some (all_of formals_of (map (λ d. d.formals) ds)) ≡ true → HasNoArities A ds → ⊥
  has-arities n f h = elim h [ inl e ↦ some-none (new_names A (map (λ d. d.name) ds)) n e | inr e ↦ some-none (all_of formals_of (map (λ d. d.formals) ds)) f e ]
