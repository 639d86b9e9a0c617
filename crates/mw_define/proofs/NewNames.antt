-- The names of drafts, one after another.
use Rattle.std.proofs.Common.{◌≡◌, ℕ, zero, suc, ◌+◌, ◌<◌, ◌≤◌, Bool, true, false, ◌&&◌, not, List, [], ◌∷◌, ◌++◌, length, get_or, take, drop, take_all, Option, Some, None, refl, sym, ap, ◌∙◌, subst, arith}
use Rattle.std.proofs.lemmas.List.{take_more}
use Rattle.std.proofs.lemmas.Bool.{and_parts, not-true}
use Rattle.mw_model.specs.Terms.Object.{Name, Object}
use Rattle.mw_model.specs.Terms.Term.{ArityTable, is_among, are_distinct}
use Rattle.mw_model.specs.Terms.Reading.{that, when}
use Rattle.mw_model.specs.Values.Primitive.{is_symbol, name_of}
use Rattle.mw_model.specs.Values.Definition.{is_new}
use Rattle.mw_model.specs.Events.Admission.{new_name, all_of}
use Rattle.mw_heap.specs.Objects.{object_at, IsIn}
use Rattle.mw_term.specs.Parts.{names_at}
use Rattle.mw_term.proofs.FormalList.{names_at-push, symbols-push, distinct-refused, distinct-push}
use Rattle.mw_define.specs.declared.draft.Draft.{Draft as Given}
use Rattle.mw_define.specs.Blocks.{names_of_drafts, draft_names, AreNames, is_next_name, IsDraftIn, AreDraftsIn}
use Rattle.mw_define.proofs.Members.{all_of-fails, all_of-push, all_of-split, split-at}
use Rattle.mw_define.proofs.Witnessed.{new_name-some, new_name-none}

pub draft-in : (os : List Object) (ds : List Given) (i : ℕ) (d : Given) → AreDraftsIn os ds → i < length ds → d ≡ get_or ds i d → IsDraftIn os d
draft-in os ds i d h l e = subst (IsDraftIn os) (sym e) (go ds i h l)
  where
    go : (ds : List Given) (i : ℕ) → AreDraftsIn os ds → i < length ds → IsDraftIn os (get_or ds i d)
    go [] i h l = absurd (omega arith)
    go (e ∷ ds) zero h l = h.0
    go (e ∷ ds) (suc i) h l = go ds i h.1 (omega arith)

names-push : (ds : List Given) (d : Given) → draft_names (ds ++ d ∷ []) ≡ draft_names ds ++ d.name ∷ []
names-push [] d = refl
names-push (e ∷ ds) d = ap (λ l. e.name ∷ l) (names-push ds d)

module _ (A : ArityTable) (os : List Object) where
  pub names-start : (rs : List ℕ) → rs ≡ [] → AreNames A os [] rs
  names-start rs e = subst (AreNames A os []) (sym e) (record { symbols = tt; refs = refl; names = refl; distinct = refl })

  new : (ds : List Given) (rs : List ℕ) (d : Given) → AreNames A os ds rs → IsIn os d.name → is_next_name A (names_at os rs) (object_at os d.name) ≡ true → AreNames A os (ds ++ d ∷ []) (rs ++ d.name ∷ [])
  new ds rs d h within n =
      let x = object_at os d.name in
      let p = and_parts (is_symbol x && is_new A (name_of x)) (not (is_among (name_of x) (names_at os rs))) n in
      let s = and_parts (is_symbol x) (is_new A (name_of x)) p.0 in
      let pushed = names_at-push os rs d.name in
      record {
        symbols = symbols-push os rs d.name h.symbols within s.0;
        refs = ap (λ l. l ++ d.name ∷ []) h.refs ∙ sym (names-push ds d);
        names = all_of-push (λ e. new_name A (object_at os e.name)) ds (names_at os rs) d (name_of x) h.names (new_name-some A x p.0).0 ∙ ap Some (sym pushed);
        distinct = ap are_distinct pushed ∙ distinct-push (names_at os rs) (name_of x) h.distinct (not-true (is_among (name_of x) (names_at os rs)) p.1);
      }

  module _ (ds : List Given) (i : ℕ) (d : Given) (l : i < length ds) (is : d ≡ get_or ds i d) (rs : List ℕ) (h : AreNames A os (take i ds) rs) where
    pub names-next : (more : List ℕ) → IsIn os d.name → is_next_name A (names_at os rs) (object_at os d.name) ≡ true → more ≡ rs ++ d.name ∷ [] → AreNames A os (take (i + 1) ds) more
    names-next more within n e =
        let t : take (i + 1) ds ≡ take i ds ++ d ∷ [] = take_more ds i d l ∙ ap (λ y. take i ds ++ y ∷ []) (sym is) in
        subst (λ xs. AreNames A os xs more) (sym t) (subst (AreNames A os (take i ds ++ d ∷ [])) (sym e) (new (take i ds) rs d h within n))

    pub names-refused : is_next_name A (names_at os rs) (object_at os d.name) ≡ false → that are_distinct (names_of_drafts A os ds) ≡ None
    names-refused n = go (is_symbol x && is_new A (name_of x)) (is_among (name_of x) (names_at os rs)) refl refl n
      where
        x : Object
        x = object_at os d.name

        f : Given → Option Name
        f = λ e. new_name A (object_at os e.name)

        repeated : is_among (name_of x) (names_at os rs) ≡ true → f d ≡ Some (name_of x) → (o : Option (List Name)) → all_of f ds ≡ o → that are_distinct o ≡ None
        repeated k e None a = refl
        repeated k e (Some ws) a =
            let s = all_of-split f (take i ds) d (drop (i + 1) ds) (names_at os rs) (name_of x) ws (ap (all_of f) (sym (split-at ds i d l is)) ∙ a) h.names e in
            ap (λ b. when b (Some ws)) (ap are_distinct s.1 ∙ distinct-refused (names_at os rs) (name_of x) s.0 k)

        go : (a b : Bool) → (is_symbol x && is_new A (name_of x)) ≡ a → is_among (name_of x) (names_at os rs) ≡ b → (a && not b) ≡ false → that are_distinct (names_of_drafts A os ds) ≡ None
        go false b e k r = ap (that are_distinct) (all_of-fails f ds i d l (ap f (sym is) ∙ new_name-none A x e))
        go true true e k r = repeated k (new_name-some A x e).0 (all_of f ds) refl
        go true false e k r = cc

  pub names-end : (ds : List Given) (i : ℕ) (rs : List ℕ) → length ds ≤ i → AreNames A os (take i ds) rs → AreNames A os ds rs
  names-end ds i rs l h = subst (λ xs. AreNames A os xs rs) (take_all i ds l) h
