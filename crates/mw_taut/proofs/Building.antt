-- A part that is looked at is made of the parts in the table, or wants one that is not there yet.
use Rattle.std.proofs.Common.{◌≡◌, ℕ, suc, ◌+◌, ◌<◌, arith, Bool, true, false, ◌||◌, cond, List, [], ◌∷◌, ◌++◌, map, length, slice_get, Some, ◌⊎◌, inl, inr, refl, sym, ap, ap₂, ◌∙◌, subst, append_assoc, length-append}
use Rattle.std.proofs.lemmas.List.{map-append, append-nil}
use Rattle.mw_model.specs.Terms.Object.{Object, same_object, weight}
use Rattle.mw_model.specs.Terms.Term.{Formula, Equal, Not as Denial, Or as Either, formula_object, ArityTable, is_formula}
use Rattle.mw_model.specs.Terms.Reading.{formula_of}
use Rattle.mw_model.specs.Values.Truth.{Each}
use Rattle.mw_model.specs.Terms.Same.{same_formula}
use Rattle.mw_model.proofs.SameTerms.{same_formula-eq}
use Rattle.mw_model.proofs.Read.{formula_read}
use Rattle.std.proofs.lemmas.Bool.{and_parts}
use Rattle.mw_commands.specs.Commands.Tautology.{all_equations, equations}
use Rattle.mw_heap.specs.Objects.{object_at, IsIn, AreDistinct}
use Rattle.mw_taut.specs.declared.table.Node.{Node}
use Rattle.mw_taut.specs.declared.table.Node.TheVariants.{Equation, Not, Or}
use Rattle.mw_taut.specs.Connectives.{not_object, or_object}
use Rattle.mw_taut.specs.Building.{IsAt, IsNew, IsPartOf, IsMade, equations_with, formula_or, here, IsHere, waiting, IsFalling, IsWhole, Covers, IsBuilt}
use Rattle.mw_taut.specs.Nodes.{IsNode, AreNodes}
use Rattle.mw_taut.specs.Meaning.{IsNodeOf, AreNodesOf, among}
use Rattle.mw_taut.specs.Meaning.{IsEquation}
use Rattle.mw_taut.proofs.FormulaShapes.{not_shape, or_shape, equation_shape}
use Rattle.mw_taut.proofs.Elements.{each_more, each_front, at_more, at_end, at_cases, at_map, at_within, each_at}
use Rattle.mw_taut.proofs.MoreNodes.{nodes_wider, nodes_more, all_valid_wider, all_valid_more}
use Rattle.mw_taut.proofs.FirstOccurrences.{formulas}
use Rattle.mw_term.specs.Occurrences.{gather}
use Rattle.mw_term.proofs.Gathered.{among_left, among_right, among_cases, gather-append, gather-keeps, gather-has, gather-known, gather-all}

module _ (A : ArityTable) (os : List Object) where
  here_is : (r : ℕ) (G : Formula) → object_at os r ≡ formula_object G → is_formula A G ≡ true → (here A os) r ≡ G
  here_is r G e f = ap (λ o. formula_or (formula_of o)) e ∙ ap formula_or (formula_read A G f)

  is_here : (r : ℕ) (G : Formula) → IsIn os r → object_at os r ≡ formula_object G → is_formula A G ≡ true → (IsHere A os) r
  is_here r G i e f = let same = here_is r G e f in record { within = i; shown = e ∙ ap formula_object (sym same); formed = ap (is_formula A) same ∙ f }

  not_here : (x y : ℕ) → (IsHere A os) x → IsIn os y → object_at os x ≡ not_object (object_at os y) → ((here A os) x ≡ Denial ((here A os) y)) × (IsHere A os) y
  not_here x y h i e =
      let s = not_shape ((here A os) x) (object_at os y) (sym h.shown ∙ e) in
      let f : is_formula A s.0 ≡ true = ap (is_formula A) (sym s.1) ∙ h.formed in
      let same = here_is y s.0 (sym s.2) f in
      (s.1 ∙ ap Denial (sym same), is_here y s.0 i (sym s.2) f)

  or_here : (x y z : ℕ) → (IsHere A os) x → IsIn os y → IsIn os z → object_at os x ≡ or_object (object_at os y) (object_at os z) → ((here A os) x ≡ Either ((here A os) y) ((here A os) z)) × (IsHere A os) y × (IsHere A os) z
  or_here x y z h i j e =
      let s = or_shape ((here A os) x) (object_at os y) (object_at os z) (sym h.shown ∙ e) in
      let f = and_parts (is_formula A s.0) (is_formula A s.1) (ap (is_formula A) (sym s.2) ∙ h.formed) in
      let same = here_is y s.0 (sym s.3) f.0 in
      let same' = here_is z s.1 (sym s.4) f.1 in
      (s.2 ∙ ap₂ Either (sym same) (sym same'), is_here y s.0 i (sym s.3) f.0, is_here z s.1 j (sym s.4) f.1)

  waiting_more : (rs : List ℕ) (x : ℕ) → (waiting A os) (rs ++ x ∷ []) ≡ all_equations ((here A os) x) ++ (waiting A os) rs
  waiting_more [] x = sym (append-nil (all_equations ((here A os) x)))
  waiting_more (r ∷ rs) x = ap (λ l. l ++ all_equations ((here A os) r)) (waiting_more rs x) ∙ append_assoc (all_equations ((here A os) x)) ((waiting A os) rs) (all_equations ((here A os) r))

  -- ---- at first, only the whole waits

  pub built_first : (F : Formula) (f : ℕ) → IsIn os f → object_at os f ≡ formula_object F → is_formula A F ≡ true → (IsBuilt A os) F [] [] [] (f ∷ [])
  built_first F f i e g = record {
    keys_here = tt;
    equations_here = tt;
    path_here = (is_here f F i e g, tt);
    nodes_of = tt;
    valid = tt;
    many = refl;
    known = λ j r h. cc;
    listed = λ z h. cc;
    answer = gather-all formulas (all_equations ((here A os) f)) ∙ ap equations (here_is f F e g);
    new = ((λ j h. cc), tt);
    falling = (tt, tt);
    whole = here_is f F e g;
  }

  -- ---- a part that is wanted goes on the path

  falling_more : (rs : List ℕ) (x y : ℕ) → (IsFalling A os) (rs ++ x ∷ []) → weight (object_at os y) < weight (object_at os x) → (IsFalling A os) ((rs ++ x ∷ []) ++ y ∷ [])
  falling_more [] x y h l = ((l, tt), (tt, tt))
  falling_more (r ∷ rs) x y h l =
      let heavy = (each_front (λ s. weight (object_at os s) < weight (object_at os r)) rs x h.0).1 in
      (each_more (λ s. weight (object_at os s) < weight (object_at os r)) (rs ++ x ∷ []) y h.0 (omega (arith, l, heavy)), falling_more rs x y h.1 l)

  whole_more : (F : Formula) (keys rs : List ℕ) (x y : ℕ) → (IsWhole A os) F keys (rs ++ x ∷ []) → (IsWhole A os) F keys ((rs ++ x ∷ []) ++ y ∷ [])
  whole_more F keys [] x y h = h
  whole_more F keys (r ∷ rs) x y h = h

  -- what was gathered once adds nothing
  again : (found ys zs : List Formula) → ((z : Formula) → among z ys ≡ true → among z found ≡ true) → gather among found (ys ++ zs) ≡ gather among found zs
  again found ys zs h = gather-append formulas found ys zs ∙ ap (λ l. gather among l zs) (gather-known formulas found ys h)

  wanted_first : (found ys zs : List Formula) → gather among found (ys ++ (ys ++ zs)) ≡ gather among found (ys ++ zs)
  wanted_first found ys zs =
      gather-append formulas found ys (ys ++ zs) ∙ (again (gather among found ys) ys zs (gather-has formulas found ys) ∙ sym (gather-append formulas found ys zs))

  part_weight : (o u : Object) → u ≡ not_object o → weight o < weight u
  part_weight o u e = omega (arith, ap weight e)

  first_weight : (o p u : Object) → u ≡ or_object o p → weight o < weight u
  first_weight o p u e = omega (arith, ap weight e)

  second_weight : (o p u : Object) → u ≡ or_object o p → weight p < weight u
  second_weight o p u e = omega (arith, ap weight e)

  -- what follows from y being a wanted part of x
  pub record IsWanted (keys es : List ℕ) (x y : ℕ) : Type 0 where
    pub seen : (IsHere A os) y
    pub lighter : weight (object_at os y) < weight (object_at os x)
    pub same : (zs : List Formula) → gather among (map (here A os) es) (all_equations ((here A os) y) ++ (all_equations ((here A os) x) ++ zs)) ≡ gather among (map (here A os) es) (all_equations ((here A os) x) ++ zs)

  pub wanted : (keys es : List ℕ) (x y : ℕ) → (IsHere A os) x → IsIn os y → ((i r : ℕ) → IsAt keys i r → (Covers A os) es r) → IsPartOf os keys x y → IsWanted keys es x y
  wanted keys es x y h i known (inl e) =
      let s = not_here x y h i e in
      record {
        seen = s.1;
        lighter = part_weight (object_at os y) (object_at os x) e;
        same = λ zs.
            let E = all_equations ((here A os) y) in
            subst (λ X. gather among (map (here A os) es) (E ++ (all_equations X ++ zs)) ≡ gather among (map (here A os) es) (all_equations X ++ zs)) (sym s.0) (wanted_first (map (here A os) es) E zs);
      }
  wanted keys es x y h i known (inr (inl k)) =
      let s = or_here x y k.0 h i k.1 k.2 in
      record {
        seen = s.1;
        lighter = first_weight (object_at os y) (object_at os k.0) (object_at os x) k.2;
        same = λ zs.
            let E = all_equations ((here A os) y) in
            let G = all_equations ((here A os) k.0) in
            subst (λ X. gather among (map (here A os) es) (E ++ (all_equations X ++ zs)) ≡ gather among (map (here A os) es) (all_equations X ++ zs)) (sym s.0)
            (ap (λ l. gather among (map (here A os) es) (E ++ l)) (append_assoc E G zs) ∙ (wanted_first (map (here A os) es) E (G ++ zs) ∙ ap (gather among (map (here A os) es)) (sym (append_assoc E G zs))));
      }
  wanted keys es x y h i known (inr (inr k)) =
      let s = or_here x k.0 y h k.2 i k.4 in
      record {
        seen = s.2;
        lighter = second_weight (object_at os k.0) (object_at os y) (object_at os x) k.4;
        same = λ zs.
            let E = all_equations ((here A os) k.0) in
            let G = all_equations ((here A os) y) in
            let found = map (here A os) es in
            let covered = known k.1 k.0 k.3 in
            subst (λ X. gather among found (G ++ (all_equations X ++ zs)) ≡ gather among found (all_equations X ++ zs)) (sym s.0)
            (ap (λ l. gather among found (G ++ l)) (append_assoc E G zs)
            ∙ (gather-append formulas found G (E ++ (G ++ zs))
            ∙ (again (gather among found G) E (G ++ zs) (λ z m. gather-keeps formulas found G z (covered z m))
            ∙ (sym (gather-append formulas found G (G ++ zs))
            ∙ (wanted_first found G zs
            ∙ (sym (again found E (G ++ zs) covered) ∙ ap (gather among found) (sym (append_assoc E G zs))))))));
      }

  pub built_wants : (F : Formula) (keys : List ℕ) (nodes : List Node) (es rest : List ℕ) (x y : ℕ) → (IsBuilt A os) F keys nodes es (rest ++ x ∷ []) → IsIn os y → IsNew keys y → IsPartOf os keys x y → (IsBuilt A os) F keys nodes es ((rest ++ x ∷ []) ++ y ∷ [])
  built_wants F keys nodes es rest x y h i n p =
      let w = wanted keys es x y (each_front (IsHere A os) rest x h.path_here).1 i h.known p in
      record {
        keys_here = h.keys_here;
        equations_here = h.equations_here;
        path_here = each_more (IsHere A os) (rest ++ x ∷ []) y h.path_here w.seen;
        nodes_of = h.nodes_of;
        valid = h.valid;
        many = h.many;
        known = h.known;
        listed = h.listed;
        answer =
            ap (gather among (map (here A os) es)) (waiting_more (rest ++ x ∷ []) y ∙ ap (λ l. all_equations ((here A os) y) ++ l) (waiting_more rest x))
            ∙ (w.same ((waiting A os) rest) ∙ (ap (gather among (map (here A os) es)) (sym (waiting_more rest x)) ∙ h.answer));
        new = each_more (IsNew keys) (rest ++ x ∷ []) y h.new n;
        falling = falling_more rest x y h.falling w.lighter;
        whole = whole_more F keys rest x y h.whole;
      }

  -- ---- a part that is made goes from the path into the table

  -- what follows of x and its node
  record IsPut (keys : List ℕ) (nodes : List Node) (es new : List ℕ) (x : ℕ) (n : Node) : Type 0 where
    equations_here : Each (IsHere A os) new
    nodes_of : AreNodesOf (map (here A os) new) [] (nodes ++ n ∷ []) (map (here A os) keys ++ (here A os) x ∷ [])
    valid : AreNodes (length new) 0 (nodes ++ n ∷ [])
    covers : (Covers A os) new x
    keeps : (z : Formula) → among z (map (here A os) es) ≡ true → among z (map (here A os) new) ≡ true
    listed : (z : Formula) → among z (map (here A os) new) ≡ true → (among z (map (here A os) es) ≡ true) ⊎ ((here A os) x ≡ z)
    gathered : gather among (map (here A os) es) (all_equations ((here A os) x)) ≡ map (here A os) new

  lighter_new : (keys rest : List ℕ) (x : ℕ) → (IsFalling A os) (rest ++ x ∷ []) → Each (IsNew keys) rest → Each (IsNew (keys ++ x ∷ [])) rest
  lighter_new keys [] x f h = tt
  lighter_new keys (r ∷ rs) x f h =
      let heavy = (each_front (λ s. weight (object_at os s) < weight (object_at os r)) rs x f.0).1 in (
        (λ i e. elim (at_cases keys x r i e) [
          | inl k ↦ h.0 i k
          | inr same ↦ omega (arith, subst (λ s. weight (object_at os s) < weight (object_at os r)) same heavy)
        ]),
        lighter_new keys rs x f.1 h.1,
      )

  pub falling_front : (rest : List ℕ) (x : ℕ) → (IsFalling A os) (rest ++ x ∷ []) → (IsFalling A os) rest
  falling_front [] x h = tt
  falling_front (r ∷ rs) x h = ((each_front (λ s. weight (object_at os s) < weight (object_at os r)) rs x h.0).0, falling_front rs x h.1)

  whole_front : (F : Formula) (keys rest : List ℕ) (x : ℕ) → (IsWhole A os) F keys (rest ++ x ∷ []) → (IsWhole A os) F (keys ++ x ∷ []) rest
  whole_front F keys [] x h = (keys, x, refl, h)
  whole_front F keys (r ∷ rs) x h = h

  put : (F : Formula) (keys : List ℕ) (nodes : List Node) (es new rest : List ℕ) (x : ℕ) (n : Node) → (IsBuilt A os) F keys nodes es (rest ++ x ∷ []) → IsPut keys nodes es new x n → (IsBuilt A os) F (keys ++ x ∷ []) (nodes ++ n ∷ []) new rest
  put F keys nodes es new rest x n h p =
      let front = each_front (IsHere A os) rest x h.path_here in
      record {
        keys_here = each_more (IsHere A os) keys x h.keys_here front.1;
        equations_here = p.equations_here;
        path_here = front.0;
        nodes_of = subst (AreNodesOf (map (here A os) new) [] (nodes ++ n ∷ [])) (sym (map-append (here A os) keys (x ∷ []))) p.nodes_of;
        valid = p.valid;
        many = omega (arith, length-append nodes (n ∷ []), length-append keys (x ∷ []), h.many);
        known = λ i r e. elim (at_cases keys x r i e) [
          | inl k ↦ λ z m. p.keeps z (h.known i r k z m)
          | inr same ↦ subst ((Covers A os) new) same p.covers
        ];
        listed = λ z m. elim (p.listed z m) [
          | inl k ↦ let l = h.listed z k in (l.0, l.1, at_more keys x l.1 l.0 l.2, l.3)
          | inr same ↦ (length keys, x, at_end keys x, same)
        ];
        answer =
            ap (λ l. gather among l ((waiting A os) rest)) (sym p.gathered)
            ∙ (sym (gather-append formulas (map (here A os) es) (all_equations ((here A os) x)) ((waiting A os) rest)) ∙ (ap (gather among (map (here A os) es)) (sym (waiting_more rest x)) ∙ h.answer));
        new = lighter_new keys rest x h.falling (each_front (IsNew keys) rest x h.new).0;
        falling = falling_front rest x h.falling;
        whole = whole_front F keys rest x h.whole;
      }

  -- of a node that is no equation
  put_plain : (F : Formula) (keys : List ℕ) (nodes : List Node) (es rest : List ℕ) (x : ℕ) (n : Node) → (IsBuilt A os) F keys nodes es (rest ++ x ∷ []) → IsNodeOf (map (here A os) es) (map (here A os) keys) n ((here A os) x) → IsNode (length es) (length nodes) n → (Covers A os) es x → IsPut keys nodes es es x n
  put_plain F keys nodes es rest x n h is valid covers = record {
    equations_here = h.equations_here;
    nodes_of = nodes_more (map (here A os) es) [] nodes (map (here A os) keys) n ((here A os) x) h.nodes_of is;
    valid = all_valid_more (length es) 0 nodes n h.valid (subst (λ k. IsNode (length es) k n) (zero_plus (length nodes)) valid);
    covers = covers;
    keeps = λ z m. m;
    listed = λ z m. inl m;
    gathered = gather-known formulas (map (here A os) es) (all_equations ((here A os) x)) covers;
  }
    where
      zero_plus : (k : ℕ) → k ≡ 0 + k
      zero_plus k = omega arith

  all_of_equation : (X : Formula) → IsEquation X → all_equations X ≡ X ∷ []
  all_of_equation (Equal a b) h = refl
  all_of_equation (Denial G) h = absurd h
  all_of_equation (Either G H) h = absurd h

  built_made : (F : Formula) (keys : List ℕ) (nodes : List Node) (es rest : List ℕ) (x : ℕ) (n : Node) → AreDistinct os → (IsBuilt A os) F keys nodes es (rest ++ x ∷ []) → IsMade os keys (length es) x n → IsPut keys nodes es (equations_with n es x) x n
  built_made F keys nodes es rest x (Not i) distinct h m =
      let s = not_here x m.0 (each_front (IsHere A os) rest x h.path_here).1 m.1 m.3 in
      put_plain F keys nodes es rest x (Not i) h ((here A os) m.0, at_map (here A os) keys i m.0 m.2, s.0) (omega (arith, at_within keys i m.0 m.2, h.many))
      (subst (λ X. (z : Formula) → among z (all_equations X) ≡ true → among z (map (here A os) es) ≡ true) (sym s.0) (h.known i m.0 m.2))
  built_made F keys nodes es rest x (Or i j) distinct h m =
      let s = or_here x m.0 m.1 (each_front (IsHere A os) rest x h.path_here).1 m.2 m.3 m.6 in
      put_plain F keys nodes es rest x (Or i j) h ((here A os) m.0, (here A os) m.1, at_map (here A os) keys i m.0 m.4, at_map (here A os) keys j m.1 m.5, s.0)
      (omega (arith, at_within keys i m.0 m.4, h.many), omega (arith, at_within keys j m.1 m.5, h.many))
      (subst (λ X. (z : Formula) → among z (all_equations X) ≡ true → among z (map (here A os) es) ≡ true) (sym s.0)
      (λ z k. elim (among_cases formulas z (all_equations ((here A os) m.0)) (all_equations ((here A os) m.1)) k) [ inl a ↦ h.known i m.0 m.4 z a | inr b ↦ h.known j m.1 m.5 z b ]))
  built_made F keys nodes es rest x (Equation k) distinct h m =
      let front = each_front (IsHere A os) rest x h.path_here in
      let X = (here A os) x in
      let E = map (here A os) es in
      let is : IsEquation X = equation_shape X (λ a. ap (λ o. same_object o (not_object a)) (sym front.1.shown) ∙ m.1 a) (λ a b. ap (λ o. same_object o (or_object a b)) (sym front.1.shown) ∙ m.2 a b) in
      let one = all_of_equation X is in
      let more : map (here A os) (es ++ x ∷ []) ≡ E ++ X ∷ [] = map-append (here A os) es (x ∷ []) in
      let fresh : among X E ≡ false = not_among (among X E) refl (λ e.
      let l = h.listed X e in
      let r = each_at (IsHere A os) keys l.0 l.1 h.keys_here l.2 in
      let same : l.1 ≡ x = distinct l.1 x r.within front.1.within (r.shown ∙ (ap formula_object l.3 ∙ sym front.1.shown)) in
      (each_front (IsNew keys) rest x h.new).1 l.0 (subst (IsAt keys l.0) same l.2)) in
      let at : slice_get (map (here A os) (es ++ x ∷ [])) k ≡ Some X = at_map (here A os) (es ++ x ∷ []) k x (ap (slice_get (es ++ x ∷ [])) m.0 ∙ at_end es x) in
      let count : length (es ++ x ∷ []) ≡ suc (length es) = omega (arith, length-append es (x ∷ [])) in
      record {
        equations_here = each_more (IsHere A os) es x h.equations_here front.1;
        nodes_of = nodes_more (map (here A os) (es ++ x ∷ [])) [] nodes (map (here A os) keys) (Equation k) X (subst (λ l. AreNodesOf l [] nodes (map (here A os) keys)) (sym more) (nodes_wider E [] X nodes (map (here A os) keys) h.nodes_of)) at;
        valid = subst (λ c. AreNodes c 0 (nodes ++ Equation k ∷ [])) (sym count) (all_valid_more (suc (length es)) 0 nodes (Equation k) (all_valid_wider (length es) 0 nodes h.valid) (omega (arith, m.0)));
        covers = subst (λ l. (z : Formula) → among z l ≡ true → among z (map (here A os) (es ++ x ∷ [])) ≡ true) (sym one) (subst (λ l. (z : Formula) → among z (X ∷ []) ≡ true → among z l ≡ true) (sym more) (λ z a. among_right formulas z E (X ∷ []) a));
        keeps = subst (λ l. (z : Formula) → among z E ≡ true → among z l ≡ true) (sym more) (λ z a. among_left formulas z E (X ∷ []) a);
        listed = subst (λ l. (z : Formula) → among z l ≡ true → (among z E ≡ true) ⊎ (X ≡ z)) (sym more) (λ z a. elim (among_cases formulas z E (X ∷ []) a) [ inl b ↦ inl b | inr b ↦ inr (only z b) ]);
        gathered = ap (gather among E) one ∙ (ap (λ b. cond b E (E ++ X ∷ [])) fresh ∙ sym more);
      }
    where
      not_among : (b : Bool) → among ((here A os) x) (map (here A os) es) ≡ b → (among ((here A os) x) (map (here A os) es) ≡ true → ⊥) → among ((here A os) x) (map (here A os) es) ≡ false
      not_among true e never = absurd (never e)
      not_among false e never = e

      only : (z : Formula) → among z ((here A os) x ∷ []) ≡ true → (here A os) x ≡ z
      only z a = sym (same_formula-eq z ((here A os) x) (or_false (same_formula z ((here A os) x)) a))
        where
          or_false : (b : Bool) → (b || false) ≡ true → b ≡ true
          or_false true e = e
          or_false false e = e

  pub built_puts : (F : Formula) (keys : List ℕ) (nodes : List Node) (es rest : List ℕ) (x : ℕ) (n : Node) → AreDistinct os → (IsBuilt A os) F keys nodes es (rest ++ x ∷ []) → IsMade os keys (length es) x n → (IsBuilt A os) F (keys ++ x ∷ []) (nodes ++ n ∷ []) (equations_with n es x) rest
  built_puts F keys nodes es rest x n distinct h m = put F keys nodes es (equations_with n es x) rest x n h (built_made F keys nodes es rest x n distinct h m)
