-- A step that is shown, and what is shown behind it.
use Rattle.std.proofs.Common.{◌≡◌, ℕ, List, [], ◌∷◌, ◌++◌, refl, sym, ap, ap₂, ◌∙◌, subst}
use Rattle.std.proofs.lemmas.List.Elements.{All-append}
use Rattle.std.proofs.lemmas.List.{map-append}
use Rattle.mw_model.specs.Terms.Object.{Object, Natural, Symbol, Pair, second_of}
use Rattle.mw_heap.specs.Objects.{object_at, IsIn}
use Rattle.mw_commands.specs.Commands.ExplanationSteps.{conclusions_shown, listed}
use Rattle.mw_bad_steps.specs.Shown.{Shows}
use Rattle.mw_bad_steps.specs.Members.{conclusions_in}
use Rattle.mw_bad_steps.proofs.ShownMore.{Shows-push, Shows-none}

pub conclusions_listed : (ps : Object) → conclusions_shown ps ≡ listed (conclusions_in ps)
conclusions_listed (Natural n) = refl
conclusions_listed (Symbol s) = refl
conclusions_listed (Pair p ps) = ap (Pair (second_of p)) (conclusions_listed ps)

pub one_shown : (os : List Object) (had one : List ℕ) (a : ℕ) (x : Object) → had ≡ [] → one ≡ had ++ a ∷ [] → IsIn os a → object_at os a ≡ x → Shows os one (x ∷ [])
one_shown os had one a x e d i f =
    let s = Shows-push os [] [] a x (Shows-none os) i f in
    subst (λ l. Shows os l (x ∷ [])) (sym (d ∙ ap (λ l. l ++ a ∷ []) e)) s

pub two_shown : (os : List Object) (had one two : List ℕ) (a b : ℕ) (x y : Object) → had ≡ [] → one ≡ had ++ a ∷ [] → two ≡ one ++ b ∷ [] → IsIn os a → IsIn os b → object_at os a ≡ x → object_at os b ≡ y → Shows os two (x ∷ y ∷ [])
two_shown os had one two a b x y e d f i j g h =
    subst (λ l. Shows os l (x ∷ y ∷ [])) (sym f) (Shows-push os one (x ∷ []) b y (one_shown os had one a x e d i g) j h)

pub more_shown : (os : List Object) (had has more : List ℕ) (xs ys : List Object) → has ≡ had ++ more → Shows os had xs → Shows os more ys → Shows os has (xs ++ ys)
more_shown os had has more xs ys e s t =
    subst (λ l. Shows os l (xs ++ ys)) (sym e) (All-append (IsIn os) had more s.0 t.0, map-append (object_at os) had more ∙ ap₂ ◌++◌ s.1 t.1)

pub shows_same : (os : List Object) (refs : List ℕ) (xs ys : List Object) → ys ≡ xs → Shows os refs xs → Shows os refs ys
shows_same os refs xs ys e s = subst (Shows os refs) (sym e) s
