-- The conclusions that a step names, as objects and as formulas.
use Rattle.std.proofs.Common.{◌≡◌, ℕ, zero, suc, true, false, cond, List, [], ◌∷◌, length, map, Option, Some, None, refl, sym, ap, ap₂, ◌∙◌}
use Rattle.std.proofs.lemmas.List.{length-map}
use Rattle.mw_model.specs.Terms.Object.{Object, Natural, Symbol, Pair, same_name, nil_name}
use Rattle.mw_model.specs.Terms.Term.{Formula, formula_object}
use Rattle.mw_model.specs.Terms.Reading.{and_more}
use Rattle.mw_model.specs.Laws.RulesInduction.{formulas_object}
use Rattle.mw_model.proofs.ReadBack.{some_one}
use Rattle.mw_commands.specs.Commands.Log.{naturals_of, formula_numbered, formulas_numbered, formulas_at}
use Rattle.mw_heap.specs.Objects.{object_at}
use Rattle.mw_heap.specs.Lists.{list_object}
use Rattle.mw_flat.specs.Collecting.{conclusion_numbered, conclusions_listed}

module _ (os : List Object) where
  -- both are missing, or the object is the formula; of lists the same
  abbrev pub IsOne : Option ℕ → Option Formula → Type 0
  IsOne None None = Unit {0}
  IsOne (Some r) (Some F) = object_at os r ≡ formula_object F
  IsOne _ _ = ⊥

  abbrev pub AreAll : Option (List ℕ) → Option (List Formula) → Type 0
  AreAll None None = Unit {0}
  AreAll (Some rs) (Some Fs) = list_object os rs ≡ formulas_object Fs
  AreAll _ _ = ⊥

  pub none-all : (cs : Option (List ℕ)) (o : Option (List Formula)) → AreAll cs o → cs ≡ None → o ≡ None
  none-all None None h e = refl
  none-all None (Some Fs) h e = absurd h
  none-all (Some rs) o h e = cc

  pub same-length : (rs : List ℕ) (Fs : List Formula) → map (object_at os) rs ≡ map formula_object Fs → length rs ≡ length Fs
  same-length rs Fs h = sym (length-map rs (object_at os)) ∙ (ap length h ∙ length-map Fs formula_object)

  pub some-all : (cs : Option (List ℕ)) (o : Option (List Formula)) → AreAll cs o → (ps : List ℕ) → cs ≡ Some ps → (Gs : List Formula) × (o ≡ Some Gs) × (list_object os ps ≡ formulas_object Gs)
  some-all (Some rs) (Some Gs) h ps e = let same : rs ≡ ps = some_one e in (Gs, refl, ap (list_object os) (sym same) ∙ h)
  some-all (Some rs) None h ps e = absurd h
  some-all None o h ps e = cc

  first-same : (r : ℕ) (rs : List ℕ) (F : Formula) (Fs : List Formula) → map (object_at os) (r ∷ rs) ≡ map formula_object (F ∷ Fs) → object_at os r ≡ formula_object F
  first-same r rs F Fs h = cc

  rest-same : (r : ℕ) (rs : List ℕ) (F : Formula) (Fs : List Formula) → map (object_at os) (r ∷ rs) ≡ map formula_object (F ∷ Fs) → map (object_at os) rs ≡ map formula_object Fs
  rest-same r rs F Fs h = cc

  pub numbered-one : (rs : List ℕ) (Fs : List Formula) (n : ℕ) → map (object_at os) rs ≡ map formula_object Fs → IsOne (conclusion_numbered rs n) (formula_numbered Fs n)
  numbered-one [] [] zero h = tt
  numbered-one [] [] (suc n) h = tt
  numbered-one (r ∷ rs) (F ∷ Fs) zero h = tt
  numbered-one (r ∷ rs) (F ∷ Fs) (suc zero) h = first-same r rs F Fs h
  numbered-one (r ∷ rs) (F ∷ Fs) (suc (suc n)) h = numbered-one rs Fs (suc n) (rest-same r rs F Fs h)
  numbered-one [] (F ∷ Fs) n h = cc
  numbered-one (r ∷ rs) [] n h = cc

  all-more : (c : Option ℕ) (o : Option Formula) (cs : Option (List ℕ)) (os : Option (List Formula)) → IsOne c o → AreAll cs os → AreAll (and_more c cs) (and_more o os)
  all-more None None cs os h k = tt
  all-more (Some r) (Some F) None None h k = tt
  all-more (Some r) (Some F) (Some rs) (Some Fs) h k = ap₂ Pair h k
  all-more (Some r) (Some F) None (Some Fs) h k = absurd k
  all-more (Some r) (Some F) (Some rs) None h k = absurd k
  all-more None (Some F) cs os h k = absurd h
  all-more (Some r) None cs os h k = absurd h

  all-none : (c : Option ℕ) (cs : Option (List ℕ)) → AreAll cs None → AreAll (and_more c cs) None
  all-none None cs h = tt
  all-none (Some r) None h = tt
  all-none (Some r) (Some rs) h = absurd h

  module _ (rs : List ℕ) (Fs : List Formula) (same : map (object_at os) rs ≡ map formula_object Fs) where
    one-more : (n : ℕ) (cs : Option (List ℕ)) (ns : Option (List ℕ)) → AreAll cs (formulas_at Fs ns) → AreAll (and_more (conclusion_numbered rs n) cs) (formulas_at Fs (and_more (Some n) ns))
    one-more n cs None h = all-none (conclusion_numbered rs n) cs h
    one-more n cs (Some ns) h = all-more (conclusion_numbered rs n) (formula_numbered Fs n) cs (formulas_numbered Fs ns) (numbered-one rs Fs n same) h

    pub listed-all : (x : Object) → AreAll (conclusions_listed rs x) (formulas_at Fs (naturals_of x))
    listed-all (Pair (Natural n) more) = one-more n (conclusions_listed rs more) (naturals_of more) (listed-all more)
    listed-all (Pair (Symbol s) more) = tt
    listed-all (Pair (Pair a b) more) = tt
    listed-all (Natural n) = tt
    listed-all (Symbol s) = elim (same_name s nil_name) as (λ b. AreAll (cond b (Some []) None) (formulas_at Fs (cond b (Some []) None))) [ true ↦ refl | false ↦ tt ]
