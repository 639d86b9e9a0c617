-- Looking for the first call of a block that has one among its actuals.
use Rattle.std.proofs.Common.{◌≡◌, ℕ, suc, ◌+◌, ◌<◌, ◌≤◌, length, drop, get_or, Bool, true, false, cond, List, [], ◌∷◌, ◌++◌, Option, Some, None, find, refl, sym, ap, ◌∙◌, subst, add-one}
use Rattle.std.proofs.lemmas.List.{drop_more, drop_all}
use Rattle.mw_model.specs.Terms.Object.{Name, Object, Symbol, same_name}
use Rattle.mw_model.specs.Terms.Term.{terms_object}
use Rattle.mw_model.specs.Values.Primitive.{name_of}
use Rattle.mw_model.specs.Values.Definition.{Function, function_named}
use Rattle.mw_model.specs.Events.Obligation.{RecursiveCall, any_mentions, recursive_calls}
use Rattle.mw_model.proofs.Names.{same_name-eq}
use Rattle.mw_model.proofs.ReadBack.{some_one, terms_back}
use Rattle.mw_heap.specs.Objects.{object_at, Grows}
use Rattle.mw_heap.proofs.Objects.{IsIn-Grows, object_at-Grows}
use Rattle.mw_term.proofs.Symbols.{symbol_is}
use Rattle.mw_define.specs.declared.draft.Draft.{Draft as Given}
use Rattle.mw_define.specs.declared.item.FoundCall.{FoundCall}
use Rattle.mw_define.specs.declared.item.Part.TheVariants as part
use Rattle.mw_define.specs.declared.piece.Piece.TheVariants as piece
use Rattle.mw_define.specs.Blocks.{function_at, functions_at}
use Rattle.mw_define.specs.Collecting.{the_terms, found_calls, IsPartOf, AreFoundCalls, HasNames}
use Rattle.mw_define.specs.Mentioning.{piece_mentions, IsPiece}
use Rattle.mw_define.specs.NestedCall.{nests, numbered, first_nested, IsCallOf, IsFirstFound}
use Rattle.mw_define.proofs.NestedCalls.{IsOneCall, one-call}

-- a function is found by its own name
named-by : (B : List Function) (f : Name) (h : Function) → function_named B f ≡ Some h → h.name ≡ f
named-by [] f h e = cc
named-by (g ∷ B) f h e = go (same_name g.name f) refl e (named-by B f h)
  where
    go : (b : Bool) → same_name g.name f ≡ b → cond b (Some g) (function_named B f) ≡ Some h → (function_named B f ≡ Some h → h.name ≡ f) → h.name ≡ f
    go true k e more = ap (λ q. q.name) (sym (some_one e)) ∙ same_name-eq g.name f k
    go false k e more = more e

module _ (B : List Function) (os : List Object) (names : List Name) (n : HasNames B names) where
  call-of : (f : FoundCall) → (h : IsPartOf os names (part.Call f.name f.actuals)) → (o : IsOneCall B os f) → IsCallOf os f.name f.actuals o.call
  call-of f h o = record {
    name_in = h.0;
    name_is = symbol_is (object_at os f.name) h.1 ∙ ap Symbol (sym (named-by B (name_of (object_at os f.name)) o.call.function o.named));
    actuals_in = h.3;
    actuals_are = sym (terms_back (object_at os f.actuals) h.4 h.5) ∙ ap terms_object (sym (o.actuals ∙ ap the_terms h.5));
  }

  find-more : (f : FoundCall) (fs : List FoundCall) → (h : IsPartOf os names (part.Call f.name f.actuals)) → (o : IsOneCall B os f) → find (nests B) (found_calls B os (f ∷ fs)) ≡ cond (piece_mentions B os (piece.Terms f.actuals)) (Some o.call) (find (nests B) (found_calls B os fs))
  find-more f fs h o =
      ap (λ l. find (nests B) (l ++ found_calls B os fs)) o.calls
      ∙ ap (λ ts. cond (any_mentions B ts) (Some o.call) (find (nests B) (found_calls B os fs))) o.actuals

-- none of the calls so far has one among its actuals
pub record IsLooking (names : List Name) (os : List Object) (calls : List FoundCall) (i : ℕ) : Type 0 where
  pub are : AreFoundCalls os names (drop i calls)
  pub same : (B : List Function) → HasNames B names → find (nests B) (found_calls B os (drop i calls)) ≡ find (nests B) (found_calls B os calls)

pub looking-start : (names : List Name) (os : List Object) (calls : List FoundCall) → AreFoundCalls os names calls → IsLooking names os calls 0
looking-start names os calls h = record { are = h; same = λ B n. refl }

module _ (names : List Name) (os : List Object) (calls : List FoundCall) (i : ℕ) (f : FoundCall) (below : i < length calls) (h : IsLooking names os calls i) (is : f ≡ get_or calls i f) where
  shape : drop i calls ≡ f ∷ drop (i + 1) calls
  shape = drop_more calls i f below ∙ ap (λ g. g ∷ drop (i + 1) calls) (sym is)

  left : AreFoundCalls os names (f ∷ drop (i + 1) calls)
  left = subst (AreFoundCalls os names) shape h.are

  pub looking-piece : IsPiece os (piece.Terms f.actuals)
  looking-piece = (left.0.3, left.0.4, left.0.5)

  step : (B : List Function) (n : HasNames B names) → find (nests B) (found_calls B os calls) ≡ cond (piece_mentions B os (piece.Terms f.actuals)) (Some (one-call B os names f n left.0).call) (find (nests B) (found_calls B os (drop (i + 1) calls)))
  step B n = sym (h.same B n) ∙ (ap (λ l. find (nests B) (found_calls B os l)) shape ∙ find-more B os names n f (drop (i + 1) calls) left.0 (one-call B os names f n left.0))

  pub looking-found : (B : List Function) → HasNames B names → piece_mentions B os (piece.Terms f.actuals) ≡ true → IsFirstFound B os (found_calls B os calls) (Some f)
  looking-found B n k =
      let o = one-call B os names f n left.0 in
      (o.call, step B n ∙ ap (λ b. cond b (Some o.call) (find (nests B) (found_calls B os (drop (i + 1) calls)))) k, call-of B os names n f left.0 o)

  pub looking-next : ((B : List Function) → HasNames B names → piece_mentions B os (piece.Terms f.actuals) ≡ false) → IsLooking names os calls (i + 1)
  looking-next k = record {
    are = left.2;
    same = λ B n. sym (step B n ∙ ap (λ b. cond b (Some (one-call B os names f n left.0).call) (find (nests B) (found_calls B os (drop (i + 1) calls)))) (k B n));
  }

pub looking-end : (names : List Name) (os : List Object) (calls : List FoundCall) (i : ℕ) → length calls ≤ i → IsLooking names os calls i → (B : List Function) → HasNames B names → IsFirstFound B os (found_calls B os calls) None
looking-end names os calls i below h B n = sym (h.same B n) ∙ ap (λ l. find (nests B) (found_calls B os l)) (drop_all i calls below)

-- the same call in other words
pub found-as : (B : List Function) (os : List Object) (rs qs : List RecursiveCall) (o : Option FoundCall) → rs ≡ qs → IsFirstFound B os rs o → IsFirstFound B os qs o
found-as B os rs qs o e h = subst (λ l. IsFirstFound B os l o) e h

pub call-Grows : (old new : List Object) → Grows old new → (name actuals : ℕ) (r : RecursiveCall) → IsCallOf old name actuals r → IsCallOf new name actuals r
call-Grows old new g name actuals r h = record {
  name_in = IsIn-Grows old new g name h.name_in;
  name_is = object_at-Grows old new g name h.name_in ∙ h.name_is;
  actuals_in = IsIn-Grows old new g actuals h.actuals_in;
  actuals_are = object_at-Grows old new g actuals h.actuals_in ∙ h.actuals_are;
}

-- one function after another
module _ (os : List Object) (es : List Given) where
  abbrev B : List Function
  B = functions_at os es

  module _ (i : ℕ) (e : Given) (l : i < length es) (is : e ≡ get_or es i e) (h : first_nested B (suc i) (functions_at os (drop i es)) ≡ first_nested B 1 B) where
    step_at : first_nested B 1 B ≡ numbered (suc i) (find (nests B) (recursive_calls B (function_at os e))) (first_nested B (suc (suc i)) (functions_at os (drop (i + 1) es)))
    step_at = sym h ∙ ap (λ l. first_nested B (suc i) (functions_at os l)) (drop_more es i e l ∙ ap (λ g. g ∷ drop (i + 1) es) (sym is))

    pub none-here : find (nests B) (recursive_calls B (function_at os e)) ≡ None → first_nested B (suc (i + 1)) (functions_at os (drop (i + 1) es)) ≡ first_nested B 1 B
    none-here k = ap (λ m. first_nested B (suc m) (functions_at os (drop (i + 1) es))) (add-one i) ∙ sym (step_at ∙ ap (λ o. numbered (suc i) o (first_nested B (suc (suc i)) (functions_at os (drop (i + 1) es)))) k)

    pub some-here : (r : RecursiveCall) → find (nests B) (recursive_calls B (function_at os e)) ≡ Some r → first_nested B 1 B ≡ Some (i + 1, r)
    some-here r k = step_at ∙ (ap (λ o. numbered (suc i) o (first_nested B (suc (suc i)) (functions_at os (drop (i + 1) es)))) k ∙ ap (λ m. Some (m, r)) (sym (add-one i)))

  pub none-left : (i : ℕ) → length es ≤ i → first_nested B (suc i) (functions_at os (drop i es)) ≡ first_nested B 1 B → first_nested B 1 B ≡ None
  none-left i l h = sym h ∙ ap (λ g. first_nested B (suc i) (functions_at os g)) (drop_all i es l)
