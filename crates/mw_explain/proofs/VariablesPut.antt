-- Symbols by their names, as they are put behind others.
use Rattle.std.proofs.Common.{◌≡◌, ℕ, ◌+◌, ◌<◌, ◌≤◌, true, List, [], ◌∷◌, ◌++◌, length, get_or, take, take_all, map, All, Option, Some, None, refl, sym, ap, ap₂, ◌∙◌, subst}
use Rattle.std.specs.Option.{option_map_or}
use Rattle.std.proofs.lemmas.List.{take_more}
use Rattle.std.proofs.lemmas.List.Elements.{All-nil, All-cons}
use Rattle.mw_model.specs.Terms.Object.{Name, Object, Symbol, same_name}
use Rattle.mw_model.specs.Terms.Term.{Term, firsts, occurrences, variables}
use Rattle.mw_model.specs.Terms.Reading.{term_of}
use Rattle.mw_model.specs.Values.Primitive.{is_symbol, name_of}
use Rattle.mw_heap.specs.Objects.{object_at, IsIn}
use Rattle.mw_term.specs.Parts.{names_at, AreSymbols}
use Rattle.mw_term.proofs.Symbols.{symbol_is, symbols_each}
use Rattle.mw_term.proofs.FormalList.{names_at-push}
use Rattle.mw_explain.specs.Drafts.{IsExpandedTo}
use Rattle.mw_explain.specs.OtherVariables.{put_others}
use Rattle.mw_bad_steps.specs.Shown.{Shows}
use Rattle.mw_explain.proofs.PuttingOthers.{put-append}

pub symbols-none : (os : List Object) (rs : List ℕ) → rs ≡ [] → AreSymbols os rs
symbols-none os rs e = subst (AreSymbols os) (sym e) tt

pub symbol-at : (os : List Object) (rs : List ℕ) (i r : ℕ) → AreSymbols os rs → i < length rs → r ≡ get_or rs i r → IsIn os r × (is_symbol (object_at os r) ≡ true)
symbol-at os rs i r s l e = subst (λ q. IsIn os q × (is_symbol (object_at os q) ≡ true)) (sym e) (symbols_each os rs s i r l)

pub shows-symbols : (os : List Object) (rs : List ℕ) (ns : List Name) → AreSymbols os rs → names_at os rs ≡ ns → Shows os rs (map Symbol ns)
shows-symbols os rs ns s e = subst (λ l. Shows os rs (map Symbol l)) e (within rs s, names rs s)
  where
    within : (qs : List ℕ) → AreSymbols os qs → All (IsIn os) qs
    within [] t = All-nil (IsIn os)
    within (q ∷ qs) t = All-cons (IsIn os) q qs t.0 (within qs t.2)

    names : (qs : List ℕ) → AreSymbols os qs → map (object_at os) qs ≡ map Symbol (names_at os qs)
    names [] t = refl
    names (q ∷ qs) t = ap₂ (λ x xs. x ∷ xs) (symbol_is (object_at os q) t.1) (names qs t.2)

-- one more of the symbols
pub put-next : (os : List Object) (out start : List Name) (rs : List ℕ) (i r : ℕ) (cur more : List ℕ) → i < length rs → r ≡ get_or rs i r → names_at os cur ≡ put_others out start (names_at os (take i rs)) → names_at os more ≡ put_others out (names_at os cur) (name_of (object_at os r) ∷ []) → names_at os more ≡ put_others out start (names_at os (take (i + 1) rs))
put-next os out start rs i r cur more l is h p =
    let f = name_of (object_at os r) in
    let t : take (i + 1) rs ≡ take i rs ++ r ∷ [] = take_more rs i r l ∙ ap (λ q. take i rs ++ q ∷ []) (sym is) in
    p
    ∙ (ap (λ ns. put_others out ns (f ∷ [])) h
    ∙ (sym (put-append out start (names_at os (take i rs)) (f ∷ []))
    ∙ ap (put_others out start) (sym (ap (names_at os) t ∙ names_at-push os (take i rs) r))))

pub put-end : (os : List Object) (out start : List Name) (rs : List ℕ) (i : ℕ) (cur : List ℕ) → length rs ≤ i → names_at os cur ≡ put_others out start (names_at os (take i rs)) → names_at os cur ≡ put_others out start (names_at os rs)
put-end os out start rs i cur l h = h ∙ ap (λ qs. put_others out start (names_at os qs)) (take_all i rs l)

names-from : (os : List Object) (rs : List ℕ) (ns : List Name) → map (object_at os) rs ≡ map Symbol ns → names_at os rs ≡ ns
names-from os [] [] e = refl
names-from os [] (n ∷ ns) e = cc
names-from os (r ∷ rs) [] e = cc
names-from os (r ∷ rs) (n ∷ ns) e =
    let first : object_at os r ≡ Symbol n = cc in
    let others : map (object_at os) rs ≡ map Symbol ns = cc in
    ap₂ (λ x xs. x ∷ xs) (ap name_of first) (names-from os rs ns others)

-- the variables of what was expanded
pub expanded-none : (os : List Object) (o : Option Term) → IsExpandedTo os o None → option_map_or variables o [] ≡ []
expanded-none os None h = refl
expanded-none os (Some t) h = absurd h

pub expanded-some : (os : List Object) (o : Option Term) (r : ℕ) (rs : List ℕ) → IsExpandedTo os o (Some r) → ((u : Term) → term_of (object_at os r) ≡ Some u → map (object_at os) rs ≡ map Symbol (variables u)) → names_at os rs ≡ option_map_or variables o []
expanded-some os None r rs h k = absurd h
expanded-some os (Some t) r rs h k = names-from os rs (variables t) (k t h.1)

pub variables-firsts : (o : Option Term) → option_map_or variables o [] ≡ firsts same_name (option_map_or occurrences o [])
variables-firsts None = refl
variables-firsts (Some t) = refl
