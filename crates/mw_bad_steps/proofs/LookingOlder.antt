-- What is open stays open over more objects, and means the same.
use Rattle.std.proofs.Common.{◌≡◌, ℕ, ◌<◌, nat_eq, true, ◌⊎◌, inl, inr, List, [], ◌∷◌, ◌++◌, Option, Some, None, IfSome, refl, sym, ap, ap₂, ◌∙◌, subst, arith}
use Rattle.std.specs.List.{list_any}
use Rattle.mw_model.specs.Terms.Object.{Object, Pair, third_of}
use Rattle.mw_heap.specs.Objects.{IsIn, Grows}
use Rattle.mw_heap.specs.Parts.{part_at, IsPart}
use Rattle.mw_heap.proofs.Objects.{IsIn-Grows, object_at-Grows}
use Rattle.mw_bad_steps.specs.declared.bad_step.Open.{Open}
use Rattle.mw_bad_steps.proofs.Paths.{EachOpen}
use Rattle.mw_bad_steps.specs.BadStep.{IsOpen, IsUnopened, Opens}

module _ (os : List Object) where
  pub each_last : (ws : List Open) (w : Open) → EachOpen os (ws ++ w ∷ []) → EachOpen os ws × IsOpen os w
  each_last [] w h = (tt, h.0)
  each_last (u ∷ ws) w h = let r = each_last ws w h.1 in ((h.0, r.0), r.1)

  each_more : (ws vs : List Open) → EachOpen os ws → EachOpen os vs → EachOpen os (ws ++ vs)
  each_more [] vs h k = k
  each_more (w ∷ ws) vs h k = (h.0, each_more ws vs h.1 k)

  pub popped : (all ws : List Open) (w : Open) → all ≡ ws ++ w ∷ [] → EachOpen os all → EachOpen os ws × IsOpen os w
  popped all ws w e h = each_last ws w (subst (EachOpen os) e h)

  pub unopened_open : (x : ℕ) (u : Open) → IsIn os x → IsUnopened os x u → IsOpen os u
  unopened_open x u h k = (subst (IsIn os) (sym k.0) h, k.3)

  pub opens_each : (w : Open) (good : List ℕ) (ws path : List Open) → IsOpen os w → EachOpen os ws → Opens os w good ws path → EachOpen os path
  opens_each w good ws path h k o = by_cases o.opened
    where
      v_open : IsOpen os o.v
      v_open = (subst (IsIn os) (sym o.v_proof) h.0, subst (IsPart os) (sym o.v_left) o.next.more_in)

      by_cases : ((list_any (nat_eq o.p) good ≡ true) × (path ≡ ws ++ o.v ∷ [])) ⊎ ((u : Open) × IsUnopened os o.p u × (path ≡ (ws ++ o.v ∷ []) ++ u ∷ [])) → EachOpen os path
      by_cases (inl j) = subst (EachOpen os) (sym j.1) (each_more ws (o.v ∷ []) k (v_open, tt))
      by_cases (inr j) = subst (EachOpen os) (sym j.2) (each_more (ws ++ o.v ∷ []) (j.0 ∷ []) (each_more ws (o.v ∷ []) k (v_open, tt)) (unopened_open o.p j.0 o.next.p_in j.1, tt))

module _ (os new : List Object) (g : Grows os new) where
  pub open_grows : (w : Open) → IsOpen os w → IsOpen new w
  open_grows w h = (IsIn-Grows os new g w.proof h.0, part_grows w.left h.1)
    where
      part_grows : (o : Option ℕ) → IsPart os o → IsPart new o
      part_grows None k = tt
      part_grows (Some r) k = IsIn-Grows os new g r k

  pub part_same : (o : Option ℕ) → IsPart os o → part_at new o ≡ part_at os o
  part_same None h = refl
  part_same (Some r) h = object_at-Grows os new g r h

  part_older : (o : Option ℕ) (x : ℕ) → IfSome o (λ r. r < x) → IsIn os x → IsPart os o
  part_older None x h k = tt
  part_older (Some r) x h k = omega (arith, h, k)

  unopened_older : (x : ℕ) (u : Open) → IsIn os x → IsUnopened new x u → IsUnopened os x u
  unopened_older x u h k =
      let part = part_older u.left x k.2 h in
      (k.0, sym (part_same u.left part) ∙ (k.1 ∙ ap third_of (object_at-Grows os new g x h)), k.2, part, k.4)

  pub opens_older : (w : Open) (good : List ℕ) (ws path : List Open) → IsOpen os w → Opens new w good ws path → Opens os w good ws path
  opens_older w good ws path h o =
      let n = o.next in
      let list_in : IsIn os o.list = subst (IsPart os) n.left h.1 in
      let p_in : IsIn os o.p = omega (arith, n.p_older, list_in) in
      let more_in : IsIn os o.more = omega (arith, n.more_older, list_in) in
      record {
        list = o.list;
        p = o.p;
        more = o.more;
        next = record {
          left = n.left;
          pair = sym (object_at-Grows os new g o.list list_in) ∙ (n.pair ∙ ap₂ Pair (object_at-Grows os new g o.p p_in) (object_at-Grows os new g o.more more_in));
          p_in = p_in;
          more_in = more_in;
          p_older = n.p_older;
          more_older = n.more_older;
        };
        v = o.v;
        v_proof = o.v_proof;
        v_left = o.v_left;
        v_number = o.v_number;
        opened = elim o.opened as (λ z. ((list_any (nat_eq o.p) good ≡ true) × (path ≡ ws ++ o.v ∷ [])) ⊎ ((u : Open) × IsUnopened os o.p u × (path ≡ (ws ++ o.v ∷ []) ++ u ∷ []))) [ inl j ↦ inl j | inr j ↦ inr (j.0, unopened_older o.p j.0 p_in j.1, j.2) ];
      }
