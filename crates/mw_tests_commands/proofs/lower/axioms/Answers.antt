-- The first two axioms of the primitives are those of equality.
use Rattle.std.proofs.Common.{◌≡◌, ℕ, List, [], ◌∷◌, map, get_or, refl, sym, ap, ◌∙◌, subst}
use Rattle.mw_model.specs.Terms.Object.{Object, Member, first, later}
use Rattle.mw_model.specs.Terms.Term.{formula_object}
use Rattle.mw_model.specs.Proofs.Axioms.{axiom_1, axiom_2}
use Rattle.mw_heap.specs.Objects.{object_at}
use Rattle.mw_heap.specs.Lists.{list_object}
use Rattle.mw_tests_commands.proofs.lower.axioms.Goals as goal

front : (os : List Object) (refs : List ℕ) (x y : Object) (rest : List Object) (d e : ℕ) → map (object_at os) refs ≡ x ∷ y ∷ rest → (object_at os (get_or refs 0 d) ≡ x) × (object_at os (get_or refs 1 e) ≡ y)
front os [] x y rest d e h = cc
front os (r ∷ []) x y rest d e h = cc
front os (r ∷ s ∷ refs) x y rest d e h = (cc, cc)

newest : (os : List Object) (r : ℕ) (known older : List ℕ) (x : Object) → known ≡ r ∷ older → object_at os r ≡ x → Member x (list_object os known)
newest os r known older x e is = subst (λ k. Member x (list_object os k)) (sym e) (subst (λ y. Member y (list_object os (r ∷ older))) is (first (list_object os older)))

pub returns-clause-first : goal.returns-clause-first
returns-clause-first c =
    let os = c.build.new.heap.objects in
    let made = front os c.in_ok-built.built _ _ _ c.first-item.result c.second-item.result c.in_ok-built.ensures.axioms in
    let is = ap (object_at os) (c.first-item.is ∙ ap (λ refs. get_or refs 0 c.first-item.result) c.as_slice.ensures) ∙ made.0 in
    newest os c.first-item.result c.in_ok-known.known (c.second-item.result ∷ c.args.more ∷ []) (formula_object axiom_1) c.in_ok-known.ensures is

pub returns-clause-second : goal.returns-clause-second
returns-clause-second c =
    let os = c.build.new.heap.objects in
    let made = front os c.in_ok-built.built _ _ _ c.first-item.result c.second-item.result c.in_ok-built.ensures.axioms in
    let is = ap (object_at os) (c.second-item.is ∙ ap (λ refs. get_or refs 1 c.second-item.result) c.as_slice.ensures) ∙ made.1 in
    let older = newest os c.second-item.result (c.second-item.result ∷ c.args.more ∷ []) (c.args.more ∷ []) (formula_object axiom_2) refl is in
    subst (λ k. Member (formula_object axiom_2) (list_object os k)) (sym c.in_ok-known.ensures) (later (object_at os c.first-item.result) (list_object os (c.second-item.result ∷ c.args.more ∷ [])) older)
