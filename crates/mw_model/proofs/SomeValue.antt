-- Not without a value: where calls have values, terms have; witnesses have them.
use Rattle.std.proofs.Common.{◌≡◌, ◌≢◌, ℕ, suc, true, List, [], ◌∷◌, length, Option, Some, None, refl, ap, ◌∙◌, subst, inl, inr}
use Rattle.mw_model.specs.Terms.Object.{Name, Object, NIL}
use Rattle.mw_model.specs.Terms.Term.{Term, Terms, Variable, Constant, If, Call, Lambda, NoTerms, More, ArityTable, arity_of, is_call_name, count}
use Rattle.mw_model.specs.Values.Primitive.{Profile, Primitive, primitive_named, apply}
use Rattle.mw_model.specs.Values.Value.{Environment, lookup, bind, Calls, OnCall, HasValue, HaveValues, Satisfies, IsWitness}
use Rattle.mw_model.proofs.Order.{is_before_ind}
use Rattle.mw_model.proofs.Formed.{Formed, AreFormed}

-- not none
abbrev pub Has : {X : Type 0} → (X → Type 0) → Type 0
Has {X} Q = ((x : X) → Q x → ⊥) → ⊥

-- each call of a function in the table is not without a value
abbrev pub CallsHave : Profile → Calls → ArityTable → Type 0
CallsHave P C A = (f : Name) (n : ℕ) (ws : List Object) → is_call_name f ≡ true → arity_of A f ≡ Some n → primitive_named P f ≡ None → length ws ≡ n → Has (C f ws)

pub evs_length : (P : Profile) (C : Calls) (e : Environment) (ts : Terms) (ws : List Object) → HaveValues P C e ts ws → length ws ≡ count ts
evs_length P C e NoTerms ws h = ap length h
evs_length P C e (More t ts) ws h = ap length h.2 ∙ ap suc (evs_length P C e ts h.1 h.4)

-- where calls have values, terms have
module _ (P : Profile) (C : Calls) (A : ArityTable) (some : CallsHave P C A) where
  pub on_has : (o : Option Primitive) (f : Name) (n : ℕ) (ws : List Object) → primitive_named P f ≡ o → is_call_name f ≡ true → arity_of A f ≡ Some n → length ws ≡ n → Has (OnCall C o f ws)
  on_has None f n ws p c a l k = some f n ws c a p l k
  on_has (Some p) f n ws q c a l k = k (apply p ws) refl

  pub if_has : (w : Object) → (w ≢ NIL → ⊥) → (w ≡ NIL → ⊥) → ⊥
  if_has w f h = f (λ q. h q)

  mutual
    pub term_has : (e : Environment) (t : Term) → Formed A t → Has (HasValue P C e t)
    term_has e (Variable x) i k = k (lookup e x) refl
    term_has e (Constant c) i k = k c refl
    term_has e (If a b c) i k =
        term_has e a i.1 (λ w hw. if_has w
        (λ ne. term_has e b i.2 (λ v hv. k v (inl (w, ne, hw, hv))))
        (λ q. term_has e c i.3 (λ v hv. k v (inr (subst (λ z. HasValue P C e a z) q hw, hv)))))
    term_has e (Call f ts) i k =
        terms_have e ts i.2 (λ ws hws. on_has (primitive_named P f) f (count ts) ws refl i.0 i.1 (evs_length P C e ts ws hws) (λ v hv. k v (ws, hws, hv)))
    term_has e (Lambda ys b ts) i k =
        terms_have e ts i.5 (λ ws hws. term_has (bind ys ws) b i.4 (λ v hv. k v (ws, hws, hv)))

    pub terms_have : (e : Environment) (ts : Terms) → AreFormed A ts → Has (HaveValues P C e ts)
    terms_have e NoTerms i k = k [] refl
    terms_have e (More t ts) i k =
        term_has e t i.0 (λ w hw. terms_have e ts i.1 (λ ws hws. k (w ∷ ws) (w, ws, refl, hw, hws)))

-- a witness is there, or no object satisfies its body: by induction along the order of objects
pub witness_has : (P : Profile) (C : Calls) (y : Name) (xs : List Name) (b : Term) (ws : List Object) → Has (IsWitness P C y xs b ws)
witness_has P C y xs b ws k =
    let none : (x : Object) → Satisfies P C y xs b ws x → ⊥ = is_before_ind (λ x. Satisfies P C y xs b ws x → ⊥) (λ x ih h. k x (inl (h, ih))) in
    k NIL (inr (refl, none))
