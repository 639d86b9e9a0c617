-- Looking for the first name that is not new or stands earlier.
use Rattle.std.proofs.Common.{◌≡◌, ℕ, suc, ◌+◌, ◌<◌, ◌≤◌, Bool, true, false, ◌&&◌, ◌||◌, not, cond, List, [], ◌∷◌, ◌++◌, length, get_or, take, drop, map, Some, is_some, refl, sym, ap, ap₂, ◌∙◌, add-one}
use Rattle.std.proofs.lemmas.List.{drop_more, drop_all}
use Rattle.std.specs.List.{list_any}
use Rattle.mw_model.specs.Terms.Object.{Name, Object, Natural, Symbol, Pair, same_name, same_object}
use Rattle.mw_model.specs.Terms.Term.{ArityTable, is_among}
use Rattle.mw_model.specs.Terms.Reading.{when}
use Rattle.mw_model.specs.Values.Primitive.{is_symbol, name_of}
use Rattle.mw_model.specs.Values.Definition.{is_new}
use Rattle.mw_model.specs.Events.Admission.{new_name}
use Rattle.mw_heap.specs.Objects.{object_at, IsIn}
use Rattle.mw_term.specs.Parts.{names_at, AreSymbols}
use Rattle.mw_define.specs.declared.draft.Draft.{Draft as Given}
use Rattle.mw_define.specs.Blocks.{draft_at, AreNames, is_next_name}
use Rattle.mw_define.proofs.NewNames.{names-start, names-next}
use Rattle.mw_commands.specs.Commands.Explanation.{bad_name}
use Rattle.mw_commands.specs.Commands.ExplanationTerms.{arity_shown}

-- the test of one name, in two spellings
new-test : (A : ArityTable) (x : Object) → is_some (new_name A x) ≡ (is_symbol x && is_new A (name_of x))
new-test A (Natural n) = refl
new-test A (Symbol f) = go (is_new A f)
  where
    go : (b : Bool) → is_some (when b (Some f)) ≡ b
    go true = refl
    go false = refl
new-test A (Pair a b) = refl

earlier-test : (os : List Object) (f : Name) (rs : List ℕ) → AreSymbols os rs → list_any (same_object (Symbol f)) (map (object_at os) rs) ≡ is_among f (names_at os rs)
earlier-test os f [] s = refl
earlier-test os f (r ∷ rs) s = ap₂ (λ a b. a || b) (one (object_at os r) s.1) (earlier-test os f rs s.2)
  where
    one : (y : Object) → is_symbol y ≡ true → same_object (Symbol f) y ≡ same_name f (name_of y)
    one (Natural n) h = cc
    one (Symbol g) h = refl
    one (Pair a b) h = cc

both-tests : (A : ArityTable) (os : List Object) (rs : List ℕ) (x : Object) → AreSymbols os rs → (is_some (new_name A x) && not (list_any (same_object x) (map (object_at os) rs))) ≡ is_next_name A (names_at os rs) x
both-tests A os rs (Natural n) s = refl
both-tests A os rs (Symbol f) s = ap₂ (λ a b. a && not b) (new-test A (Symbol f)) (earlier-test os f rs s)
both-tests A os rs (Pair a b) s = refl

module _ (A : ArityTable) (os : List Object) (ds : List Given) where
  -- the names so far, which stand earlier than those that are left
  pub record NamesSoFar (i : ℕ) (rs : List ℕ) : Type 0 where
    pub names : AreNames A os (take i ds) rs
    pub earlier : List Object
    pub same : (x : Object) → list_any (same_object x) earlier ≡ list_any (same_object x) (map (object_at os) rs)
    pub left : bad_name A earlier (suc i) (map (draft_at os) (drop i ds)) ≡ bad_name A [] 1 (map (draft_at os) ds)

  pub so_far-start : (rs : List ℕ) → rs ≡ [] → NamesSoFar 0 rs
  so_far-start rs e = record { names = names-start A os rs e; earlier = []; same = λ x. ap (λ l. list_any (same_object x) (map (object_at os) l)) (sym e); left = refl }

  any-push : (x y : Object) (rs : List ℕ) (r : ℕ) → object_at os r ≡ y → list_any (same_object x) (map (object_at os) (rs ++ r ∷ [])) ≡ (same_object x y || list_any (same_object x) (map (object_at os) rs))
  any-push x y [] r e = ap (λ z. same_object x z || false) e
  any-push x y (q ∷ rs) r e = ap (λ b. same_object x (object_at os q) || b) (any-push x y rs r e) ∙ swap (same_object x (object_at os q)) (same_object x y) (list_any (same_object x) (map (object_at os) rs))
    where
      swap : (a b c : Bool) → (a || (b || c)) ≡ (b || (a || c))
      swap true true c = refl
      swap true false c = refl
      swap false b c = refl

  module _ (i : ℕ) (d : Given) (l : i < length ds) (is : d ≡ get_or ds i d) (rs : List ℕ) (h : NamesSoFar i rs) where
    abbrev x : Object
    x = object_at os d.name

    split : drop i ds ≡ d ∷ drop (i + 1) ds
    split = drop_more ds i d l ∙ ap (λ e. e ∷ drop (i + 1) ds) (sym is)

    step : bad_name A [] 1 (map (draft_at os) ds) ≡ cond (is_next_name A (names_at os rs) x) (bad_name A (x ∷ h.earlier) (suc (suc i)) (map (draft_at os) (drop (i + 1) ds))) (Natural (suc i) ∷ x ∷ arity_shown A x)
    step =
        sym h.left
        ∙ (ap (λ es. bad_name A h.earlier (suc i) (map (draft_at os) es)) split
        ∙ ap (λ b. cond b (bad_name A (x ∷ h.earlier) (suc (suc i)) (map (draft_at os) (drop (i + 1) ds))) (Natural (suc i) ∷ x ∷ arity_shown A x)) (ap (λ b. is_some (new_name A x) && not b) (h.same x) ∙ both-tests A os rs x h.names.symbols))

    pub so_far-next : (more : List ℕ) → IsIn os d.name → is_next_name A (names_at os rs) x ≡ true → more ≡ rs ++ d.name ∷ [] → NamesSoFar (i + 1) more
    so_far-next more within n e = record {
      names = names-next A os ds i d l is rs h.names more within n e;
      earlier = x ∷ h.earlier;
      same = λ y. ap (λ b. same_object y x || b) (h.same y) ∙ (sym (any-push y x rs d.name refl) ∙ ap (λ l. list_any (same_object y) (map (object_at os) l)) (sym e));
      left =
          ap (λ k. bad_name A (x ∷ h.earlier) (suc k) (map (draft_at os) (drop (i + 1) ds))) (add-one i)
          ∙ sym (step ∙ ap (λ b. cond b (bad_name A (x ∷ h.earlier) (suc (suc i)) (map (draft_at os) (drop (i + 1) ds))) (Natural (suc i) ∷ x ∷ arity_shown A x)) n);
    }

    pub so_far-refused : (b : ℕ) → b ≡ i + 1 → is_next_name A (names_at os rs) x ≡ false → bad_name A [] 1 (map (draft_at os) ds) ≡ Natural b ∷ x ∷ arity_shown A x
    so_far-refused b e n =
        step
        ∙ (ap (λ t. cond t (bad_name A (x ∷ h.earlier) (suc (suc i)) (map (draft_at os) (drop (i + 1) ds))) (Natural (suc i) ∷ x ∷ arity_shown A x)) n
        ∙ ap (λ k. Natural k ∷ x ∷ arity_shown A x) (sym (add-one i) ∙ sym e))

  pub so_far-end : (i : ℕ) (rs : List ℕ) → length ds ≤ i → NamesSoFar i rs → bad_name A [] 1 (map (draft_at os) ds) ≡ []
  so_far-end i rs l h = sym h.left ∙ ap (λ es. bad_name A h.earlier (suc i) (map (draft_at os) es)) (drop_all i ds l)
