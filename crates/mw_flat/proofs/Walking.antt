-- A walk: as items are done, what is known once all of them are done stays the same.
use Rattle.std.proofs.Common.{◌≡◌, ℕ, nat_eq, Bool, true, false, if◌then◌else◌, List, [], ◌∷◌, ◌++◌, length, map, All, Option, Some, None, inl, inr, append-nil, refl, sym, ap, ap₂, ◌∙◌, subst, arith}
use Rattle.std.specs.List.{list_any}
use Rattle.std.proofs.lemmas.List.Elements.{All-append, All-cons, All-nil, All-push, All-pop}
use Rattle.indexmap.specs.IndexSet.{insert_key}
use Rattle.mw_model.specs.Terms.Object.{Object, Natural, Symbol, Pair, third_of}
use Rattle.mw_model.specs.Values.Primitive.{is_pair}
use Rattle.mw_commands.specs.Commands.Subproofs.{proofs_within}
use Rattle.mw_heap.specs.Objects.{object_at, IsIn, AreDistinct}
use Rattle.mw_heap.specs.Parts.{part_at, IsPart}
use Rattle.mw_term.specs.Occurrences.{gather}
use Rattle.mw_flat.specs.declared.item.Item.{Item}
use Rattle.mw_flat.specs.declared.item.Item.TheVariants.{Proof, Proofs, Complete, AllComplete}
use Rattle.mw_flat.specs.Walk.{is_listed, AreComplete, IsItem, subproofs_met, MeetsProof, MeetsProofs, Advances}
use Rattle.mw_flat.proofs.Listed.{listed_reference, insert_reference}
use Rattle.mw_flat.proofs.Completing.{Known, with_proof, with_list, add_proof, add_proofs, add_proof-is, Adds, adds_by_proof}

module _ (os : List Object) where
  abbrev pub known : List ℕ → List ℕ → Known
  known complete lists = record { proofs = map (object_at os) complete; lists = map (object_at os) lists }

  abbrev done : Item → Known → Known
  done (Proof x) k = add_proof (object_at os x) k
  done (Proofs x) k = add_proofs (object_at os x) k
  done (Complete x) k = with_proof (object_at os x) k
  done (AllComplete x) k = with_list (object_at os x) k

  abbrev all_done : List Item → Known → Known
  all_done [] k = k
  all_done (i ∷ is) k = done i (all_done is k)

  all_done-append : (is js : List Item) (k : Known) → all_done (is ++ js) k ≡ all_done is (all_done js k)
  all_done-append [] js k = refl
  all_done-append (i ∷ is) js k = ap (done i) (all_done-append is js k)

  -- once these items are done, that is known
  pub record IsWalking (target : Known) (complete lists : List ℕ) (waiting : List Item) : Type 0 where
    pub items : All (IsItem os) waiting
    pub within : All (IsIn os) complete
    pub lists_within : All (IsIn os) lists
    pub same : all_done waiting (known complete lists) ≡ target

  part_done : (list : Option ℕ) (k : Known) → all_done (subproofs_met list) k ≡ add_proofs (part_at os list) k
  part_done None k = refl
  part_done (Some r) k = refl

  subproofs_in : (list : Option ℕ) → IsPart os list → All (IsItem os) (subproofs_met list)
  subproofs_in None h = All-nil (IsItem os)
  subproofs_in (Some r) h = All-cons (IsItem os) (Proofs r) [] h (All-nil (IsItem os))

  no_list_adds : (x : Object) (k : Known) → is_pair x ≡ false → add_proofs x k ≡ k
  no_list_adds (Natural n) k h = refl
  no_list_adds (Symbol s) k h = refl
  no_list_adds (Pair a d) k h = cc

  keys_in : (keys : List ℕ) (x : ℕ) → All (IsIn os) keys → IsIn os x → All (IsIn os) (insert_key nat_eq keys x)
  keys_in keys x all x_in = go (list_any (nat_eq x) keys)
    where
      go : (b : Bool) → All (IsIn os) (if b then keys else keys ++ x ∷ [])
      go true = all
      go false = All-push (IsIn os) keys x all x_in

  module _ (target : Known) (i : Item) (complete lists : List ℕ) (rest : List Item) (w : IsWalking target complete lists (rest ++ i ∷ [])) where
    popped : All (IsItem os) rest × IsItem os i
    popped = All-pop (IsItem os) (rest ++ i ∷ []) rest (Some i) refl w.items

    goes_on : (new_complete new_lists : List ℕ) (waiting more : List Item) → waiting ≡ rest ++ more → All (IsItem os) more → All (IsIn os) new_complete → All (IsIn os) new_lists → all_done more (known new_complete new_lists) ≡ done i (known complete lists) → IsWalking target new_complete new_lists waiting
    goes_on new_complete new_lists waiting more e items within lists_within same = record {
      items = subst (All (IsItem os)) (sym e) (All-append (IsItem os) rest more popped.0 items);
      within = within;
      lists_within = lists_within;
      same =
          ap (λ is. all_done is (known new_complete new_lists)) e
          ∙ (all_done-append rest more (known new_complete new_lists)
          ∙ (ap (all_done rest) same ∙ (sym (all_done-append rest (i ∷ []) (known complete lists)) ∙ w.same)));
    }

    -- nothing is left to be done of an item that adds nothing
    stays : (new_complete new_lists : List ℕ) (waiting : List Item) → waiting ≡ rest → new_complete ≡ complete → new_lists ≡ lists → done i (known complete lists) ≡ known complete lists → IsWalking target new_complete new_lists waiting
    stays new_complete new_lists waiting e f g same =
        goes_on new_complete new_lists waiting [] (e ∙ sym (append-nil rest)) (All-nil (IsItem os)) (subst (All (IsIn os)) (sym f) w.within) (subst (All (IsIn os)) (sym g) w.lists_within) (ap₂ known f g ∙ sym same)

    -- what is left of it waits in its place
    waits : (new_complete new_lists : List ℕ) (waiting more : List Item) → waiting ≡ rest ++ more → new_complete ≡ complete → new_lists ≡ lists → All (IsItem os) more → all_done more (known complete lists) ≡ done i (known complete lists) → IsWalking target new_complete new_lists waiting
    waits new_complete new_lists waiting more e f g items same =
        goes_on new_complete new_lists waiting more e items (subst (All (IsIn os)) (sym f) w.within) (subst (All (IsIn os)) (sym g) w.lists_within) (ap (all_done more) (ap₂ known f g) ∙ same)

  module _ (distinct : AreDistinct os) (target : Known) (complete new_complete lists new_lists : List ℕ) (rest waiting : List Item) (x : ℕ) where
    proof_met : IsWalking target complete lists (rest ++ Proof x ∷ []) → MeetsProof os x complete rest waiting → new_complete ≡ complete → new_lists ≡ lists → IsWalking target new_complete new_lists waiting
    proof_met w m f g = elim m [
      | inl n ↦ stays target (Proof x) complete lists rest w new_complete new_lists waiting n.1 f g (by ∙ ap branch (listed ∙ n.0))
      | inr n ↦ waits target (Proof x) complete lists rest w new_complete new_lists waiting (Complete x ∷ subproofs_met n.1) n.5 f g
          (All-cons (IsItem os) (Complete x) (subproofs_met n.1) x_in (subproofs_in n.1 n.2))
          (ap (with_proof (object_at os x)) (part_done n.1 k ∙ ap (λ o. add_proofs o k) n.3) ∙ sym (by ∙ ap branch (listed ∙ n.0)))
    ]
      where
        k : Known
        k = known complete lists

        x_in : IsIn os x
        x_in = (popped target (Proof x) complete lists rest w).1

        branch : Bool → Known
        branch b = if b then k else with_proof (object_at os x) (add_proofs (third_of (object_at os x)) k)

        by : add_proof (object_at os x) k ≡ branch (is_listed (object_at os x) k.proofs)
        by = add_proof-is (object_at os x) k

        listed : is_listed (object_at os x) (map (object_at os) complete) ≡ list_any (nat_eq x) complete
        listed = sym (listed_reference os distinct x x_in complete w.within)

    list_met : IsWalking target complete lists (rest ++ Proofs x ∷ []) → MeetsProofs os x lists rest waiting → new_complete ≡ complete → new_lists ≡ lists → IsWalking target new_complete new_lists waiting
    list_met w m f g = elim m [
      | inl n ↦ stays target (Proofs x) complete lists rest w new_complete new_lists waiting n.1 f g (no_list_adds (object_at os x) k n.0)
      | inr m ↦ elim m [
        | inl n ↦ known_list n.1 (listed ∙ n.0)
        | inr n ↦ waits target (Proofs x) complete lists rest w new_complete new_lists waiting (AllComplete x ∷ Proofs n.2 ∷ Proof n.1 ∷ []) n.8 f g
            (All-cons (IsItem os) (AllComplete x) (Proofs n.2 ∷ Proof n.1 ∷ []) x_in (All-cons (IsItem os) (Proofs n.2) (Proof n.1 ∷ []) n.4 (All-cons (IsItem os) (Proof n.1) [] n.3 (All-nil (IsItem os)))))
            (ap (λ o. with_list o (add_proofs (object_at os n.2) (add_proof (object_at os n.1) k))) n.7
            ∙ (sym (ap (λ b. if b then k else with_list (Pair (object_at os n.1) (object_at os n.2)) (add_proofs (object_at os n.2) (add_proof (object_at os n.1) k))) (ap (λ o. is_listed o k.lists) (sym n.7) ∙ (listed ∙ n.0)))
            ∙ sym (ap (λ o. add_proofs o k) n.7)))
      ]
    ]
      where
        k : Known
        k = known complete lists

        x_in : IsIn os x
        x_in = (popped target (Proofs x) complete lists rest w).1

        listed : is_listed (object_at os x) (map (object_at os) lists) ≡ list_any (nat_eq x) lists
        listed = sym (listed_reference os distinct x x_in lists w.lists_within)

        listed_adds : (o : Object) → is_listed o k.lists ≡ true → add_proofs o k ≡ k
        listed_adds (Natural n) h = refl
        listed_adds (Symbol s) h = refl
        listed_adds (Pair a d) h = ap (λ b. if b then k else with_list (Pair a d) (add_proofs d (add_proof a k))) h

        known_list : waiting ≡ rest → is_listed (object_at os x) k.lists ≡ true → IsWalking target new_complete new_lists waiting
        known_list e h = stays target (Proofs x) complete lists rest w new_complete new_lists waiting e f g (listed_adds (object_at os x) h)

    completes : IsWalking target complete lists (rest ++ Complete x ∷ []) → waiting ≡ rest → new_complete ≡ insert_key nat_eq complete x → new_lists ≡ lists → IsWalking target new_complete new_lists waiting
    completes w e f g =
        let x_in = (popped target (Complete x) complete lists rest w).1 in
        goes_on target (Complete x) complete lists rest w new_complete new_lists waiting [] (e ∙ sym (append-nil rest)) (All-nil (IsItem os))
        (subst (All (IsIn os)) (sym f) (keys_in complete x w.within x_in)) (subst (All (IsIn os)) (sym g) w.lists_within)
        (ap₂ known f g ∙ ap (λ ps. record { proofs = ps; lists = map (object_at os) lists }) (insert_reference os distinct x x_in complete w.within))

    completes_list : IsWalking target complete lists (rest ++ AllComplete x ∷ []) → waiting ≡ rest → new_complete ≡ complete → new_lists ≡ insert_key nat_eq lists x → IsWalking target new_complete new_lists waiting
    completes_list w e f g =
        let x_in = (popped target (AllComplete x) complete lists rest w).1 in
        goes_on target (AllComplete x) complete lists rest w new_complete new_lists waiting [] (e ∙ sym (append-nil rest)) (All-nil (IsItem os))
        (subst (All (IsIn os)) (sym f) w.within) (subst (All (IsIn os)) (sym g) (keys_in lists x w.lists_within x_in))
        (ap₂ known f g ∙ ap (λ ls. record { proofs = map (object_at os) complete; lists = ls }) (insert_reference os distinct x x_in lists w.lists_within))

  pub walking_goes : (distinct : AreDistinct os) (target : Known) (complete new_complete lists new_lists : List ℕ) (rest waiting : List Item) (i : Item) → IsWalking target complete lists (rest ++ i ∷ []) → Advances os i complete new_complete lists new_lists rest waiting → IsWalking target new_complete new_lists waiting
  walking_goes distinct target complete new_complete lists new_lists rest waiting (Proof x) w a = proof_met distinct target complete new_complete lists new_lists rest waiting x w a.0 a.1 a.2
  walking_goes distinct target complete new_complete lists new_lists rest waiting (Proofs x) w a = list_met distinct target complete new_complete lists new_lists rest waiting x w a.0 a.1 a.2
  walking_goes distinct target complete new_complete lists new_lists rest waiting (Complete x) w a = completes distinct target complete new_complete lists new_lists rest waiting x w a.0 a.1 a.2
  walking_goes distinct target complete new_complete lists new_lists rest waiting (AllComplete x) w a = completes_list distinct target complete new_complete lists new_lists rest waiting x w a.0 a.1 a.2

  pub walking_item : (target : Known) (complete lists : List ℕ) (rest : List Item) (i : Item) → IsWalking target complete lists (rest ++ i ∷ []) → IsItem os i
  walking_item target complete lists rest i w = (popped target i complete lists rest w).1

  -- what is known once the proof p is complete
  abbrev pub then_known : ℕ → List ℕ → List ℕ → Known
  then_known p complete lists = add_proof (object_at os p) (known complete lists)

  module _ (p : ℕ) (complete lists : List ℕ) (c : AreComplete os complete lists) where
    pub walking_starts : IsIn os p → (waiting : List Item) → waiting ≡ Proof p ∷ [] → IsWalking (then_known p complete lists) complete lists waiting
    walking_starts p_in waiting e = record {
      items = subst (All (IsItem os)) (sym e) (All-cons (IsItem os) (Proof p) [] p_in (All-nil (IsItem os)));
      within = c.within;
      lists_within = c.lists_within;
      same = ap (λ is. all_done is (known complete lists)) e;
    }

    module _ (new_complete new_lists : List ℕ) (waiting : List Item) (none : waiting ≡ []) (w : IsWalking (then_known p complete lists) new_complete new_lists waiting) where
      is : known new_complete new_lists ≡ then_known p complete lists
      is = ap (λ is. all_done is (known new_complete new_lists)) (sym none) ∙ w.same

      adds : Adds (known complete lists) (known new_complete new_lists) (proofs_within (object_at os p))
      adds = subst (λ k. Adds (known complete lists) k (proofs_within (object_at os p))) (sym is) (adds_by_proof (object_at os p) (known complete lists) (record { made = c.made; each = c.each }))

      pub walked : AreComplete os new_complete new_lists
      walked = record { within = w.within; lists_within = w.lists_within; made = adds.closed.made; each = adds.closed.each }

      pub walked_added : map (object_at os) new_complete ≡ gather is_listed (map (object_at os) complete) (proofs_within (object_at os p))
      walked_added = adds.gathers

-- where there is no item to be popped there is none
pub nothing_left : (waiting rest : List Item) → waiting ≡ rest ++ [] → length rest ≡ 0 → waiting ≡ []
nothing_left waiting [] e l = e
nothing_left waiting (i ∷ is) e l = absurd (omega arith)
