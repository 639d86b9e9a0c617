-- One step of building a table.
use Rattle.std.proofs.Common.{◌≡◌, ℕ, ◌<◌, List, [], ◌∷◌, ◌++◌, length, sym, ap, ◌∙◌, subst}
use Rattle.mw_model.specs.Terms.Object.{Object}
use Rattle.mw_model.specs.Terms.Term.{Formula, formula_object, ArityTable}
use Rattle.mw_model.specs.Values.Truth.{Each}
use Rattle.mw_heap.specs.Objects.{object_at, IsIn, AreDistinct}
use Rattle.mw_taut.specs.declared.table.Node.{Node}
use Rattle.mw_taut.specs.declared.table.Progress.TheVariants.{Made, Wants}
use Rattle.mw_taut.specs.Building.{IsNew, IsProgress, IsBuilt, IsHere, here, IsWhole, equations_with, left_over}
use Rattle.mw_taut.proofs.Building.{built_wants, built_puts, wanted, falling_front}
use Rattle.mw_taut.proofs.Elements.{each_front}
use Rattle.mw_taut.proofs.Falls.{falls_wants, falls_put, at_most}

module _ (A : ArityTable) (os : List Object) (F : Formula) (keys : List ℕ) (nodes : List Node) (es rest path : List ℕ) (x : ℕ) (h : IsBuilt A os F keys nodes es (rest ++ x ∷ [])) where
  pub wants_built : (y : ℕ) → IsProgress os keys (length es) x (Wants y) → path ≡ (rest ++ x ∷ []) ++ y ∷ [] → IsBuilt A os F keys nodes es path
  wants_built y p e = subst (IsBuilt A os F keys nodes es) (sym e) (built_wants A os F keys nodes es rest x y h p.0 p.1 p.2)

  pub wants_fall : (f y : ℕ) → IsProgress os keys (length es) x (Wants y) → path ≡ (rest ++ x ∷ []) ++ y ∷ [] → left_over os f keys path < left_over os f keys (rest ++ x ∷ [])
  wants_fall f y p e =
      let w = wanted A os keys es x y (each_front (IsHere A os) rest x h.path_here).1 p.0 h.known p.2 in
      subst (λ l. left_over os f keys l < left_over os f keys (rest ++ x ∷ [])) (sym e) (falls_wants os f keys rest x y w.lighter)

  pub first_is : (f : ℕ) → object_at os f ≡ formula_object F → (r : ℕ) (rs : List ℕ) → rest ≡ r ∷ rs → object_at os r ≡ object_at os f
  first_is f e r rs is =
      let front = (each_front (IsHere A os) rest x h.path_here).0 in
      let here_r = subst (Each (IsHere A os)) is front in
      let whole : here A os r ≡ F = subst (λ l. IsWhole A os F keys (l ++ x ∷ [])) is h.whole in
      here_r.0.shown ∙ (ap formula_object whole ∙ sym e)

  module _ (n : Node) (count : ℕ) (next : List ℕ) (distinct : AreDistinct os) (p : IsProgress os keys count x (Made n)) where
    pub puts_built : (new : List ℕ) (ns : List Node) → count ≡ length es → new ≡ keys ++ x ∷ [] → ns ≡ nodes ++ n ∷ [] → next ≡ equations_with n es x → IsBuilt A os F new ns next rest
    puts_built new ns c a b d =
        subst (λ l. IsBuilt A os F l ns next rest) (sym a) (subst (λ l. IsBuilt A os F (keys ++ x ∷ []) l next rest) (sym b) (subst (λ l. IsBuilt A os F (keys ++ x ∷ []) (nodes ++ n ∷ []) l rest) (sym d)
        (built_puts A os F keys nodes es rest x n distinct h (subst (λ m. IsProgress os keys m x (Made n)) c p))))

  pub puts_fall : (f : ℕ) (new : List ℕ) → object_at os f ≡ formula_object F → IsIn os x → IsNew keys x → new ≡ keys ++ x ∷ [] → left_over os f new rest < left_over os f keys (rest ++ x ∷ [])
  puts_fall f new e i n a =
      subst (λ l. left_over os f l rest < left_over os f keys (rest ++ x ∷ [])) (sym a) (falls_put os f keys rest x i n (at_most A os f rest (falling_front A os rest x h.falling) (first_is f e)))
