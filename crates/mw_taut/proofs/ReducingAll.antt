-- The nodes are reduced in order.
use Rattle.std.proofs.Common.{◌≡◌, ℕ, suc, ◌+◌, ◌<◌, ◌≤◌, arith, Bool, List, [], ◌∷◌, ◌++◌, map, drop, length, get_or, refl, sym, ap, ap₂, ◌∙◌, subst, length-append}
use Rattle.std.proofs.lemmas.List.{map-append}
use Rattle.std.specs.Prelude.{All}
use Rattle.std.proofs.lemmas.List.Elements.{All-push}
use Rattle.mw_model.specs.Terms.Object.{Object}
use Rattle.mw_heap.specs.Objects.{object_at, IsIn, Grows}
use Rattle.mw_heap.proofs.Objects.{object_at-Grows, Grows-refl, Grows-trans}
use Rattle.mw_taut.specs.declared.reduced.Reduced.{Reduced}
use Rattle.mw_taut.specs.declared.table.Node.{Node}
use Rattle.mw_taut.specs.Nodes.{IsNode, AreNodes}
use Rattle.mw_taut.specs.Reducing.{form_at, each_at, IsFormIn, reduce, reduce_all}
use Rattle.mw_taut.proofs.Elements.{dropped, all_dropped}
use Rattle.mw_taut.proofs.Kept.{map_kept, forms_in_kept, forms_kept}

module _ (start : List Object) (d e : ℕ) (b : Bool) (formulas : List ℕ) (nodes : List Node) where
  pub record IsReducing (os : List Object) (done : List Reduced) (i : ℕ) : Type 0 where
    pub grows : Grows start os
    pub within : All (IsFormIn os) done
    pub count : length done ≡ i
    pub nodes_left : (m : ℕ) × AreNodes m (length done) (drop i nodes)
    pub made :
        reduce_all (object_at start d) (object_at start e) b (map (object_at start) formulas) (each_at os done) (drop i nodes)
        ≡ reduce_all (object_at start d) (object_at start e) b (map (object_at start) formulas) [] nodes

  pub reducing-starts : (done : List Reduced) → done ≡ [] → (m : ℕ) × AreNodes m 0 nodes → IsReducing start done 0
  reducing-starts done none h = subst (λ l. IsReducing start l 0) (sym none) (record {
    grows = Grows-refl start;
    within = λ k d l. absurd (omega (arith, l));
    count = refl;
    nodes_left = h;
    made = refl;
  })

  module _ (os : List Object) (done : List Reduced) (i : ℕ) (n : Node) (h : IsReducing os done i) (l : i < length nodes) (is : n ≡ get_or nodes i n) where
    here : AreNodes h.nodes_left.0 (length done) (n ∷ drop (suc i) nodes)
    here = subst (AreNodes h.nodes_left.0 (length done)) (dropped nodes i n l is) h.nodes_left.1

    pub reducing-node : (m : ℕ) × IsNode m (length done) n
    reducing-node = (h.nodes_left.0, here.0)

    pub reducing-more : (new : List Object) (r : Reduced) → All (IsIn start) formulas → IsIn start d → IsIn start e → Grows os new → IsFormIn new r →
        form_at new r ≡ reduce (object_at os d) (object_at os e) b (map (object_at os) formulas) (each_at os done) n → IsReducing new (done ++ r ∷ []) (i + 1)
    reducing-more new r in_formulas in_d in_e grows in_r made =
        let longer : length (done ++ r ∷ []) ≡ suc (length done) = omega (arith, length-append done (r ∷ [])) in
        let next : i + 1 ≡ suc i = omega arith in
        let L = each_at os done in
        let D = object_at start d in
        let E = object_at start e in
        let X = map (object_at start) formulas in
        let same : form_at new r ≡ reduce D E b X L n =
        made
        ∙ (ap (λ x. reduce x (object_at os e) b (map (object_at os) formulas) L n) (object_at-Grows start os h.grows d in_d)
        ∙ (ap (λ x. reduce D x b (map (object_at os) formulas) L n) (object_at-Grows start os h.grows e in_e)
        ∙ ap (λ x. reduce D E b x L n) (map_kept start os h.grows formulas in_formulas))) in
        let wider : each_at new (done ++ r ∷ []) ≡ L ++ reduce D E b X L n ∷ [] =
        map-append (form_at new) done (r ∷ []) ∙ ap₂ (λ x y. x ++ y ∷ []) (forms_kept os new grows done h.within) same in
        record {
          grows = Grows-trans start os new h.grows grows;
          within = All-push (IsFormIn new) done r (forms_in_kept os new grows done h.within) in_r;
          count = omega (arith, longer, h.count);
          nodes_left = (h.nodes_left.0, subst (λ k. AreNodes h.nodes_left.0 (length (done ++ r ∷ [])) (drop k nodes)) (sym next) (subst (λ k. AreNodes h.nodes_left.0 k (drop (suc i) nodes)) (sym longer) here.1));
          made =
              ap₂ (λ x y. reduce_all D E b X x (drop y nodes)) wider next
              ∙ (ap (reduce_all D E b X L) (sym (dropped nodes i n l is)) ∙ h.made);
        }

  pub reducing-ends : (os : List Object) (done : List Reduced) (i : ℕ) → IsReducing os done i → length nodes ≤ i →
      each_at os done ≡ reduce_all (object_at start d) (object_at start e) b (map (object_at start) formulas) [] nodes
  reducing-ends os done i h l = ap (reduce_all (object_at start d) (object_at start e) b (map (object_at start) formulas) (each_at os done)) (sym (all_dropped nodes i l)) ∙ h.made
