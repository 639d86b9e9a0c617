-- Events whose proofs are rewritten, and a walk over a list of proofs that rewrites them.
use Rattle.std.proofs.Common.{◌≡◌, ℕ, ◌<◌, true, false, Some, None, List, [], ◌∷◌, ◌++◌, refl, sym, ap, ap₂, ◌∙◌, subst, arith}
use Rattle.std.specs.List.{All}
use Rattle.std.proofs.lemmas.List.Elements.{All-head, All-tail, All-nil}
use Rattle.mw_model.specs.Terms.Object.{Object, Pair, NIL, symbol, list1}
use Rattle.mw_model.specs.Values.Primitive.{is_pair}
use Rattle.mw_model.specs.Laws.RulesInduction.{is_list_object}
use Rattle.mw_model.specs.Events.Theory.{Theory}
use Rattle.mw_model.specs.Events.Fate.{Verify}
use Rattle.mw_model.specs.Laws.Rewriting.{Turning, TurnsOrStays, EachTurnsOrStays, IsRewrittenBy, IsRewritten}
use Rattle.mw_heap.specs.Objects.{object_at, IsIn, Grows}
use Rattle.mw_heap.specs.Lists.{list_object}
use Rattle.mw_heap.proofs.Objects.{Grows-refl, Grows-trans, object_at-Grows}
use Rattle.mw_axioms.proofs.OnStack.{AreIn-push}
use Rattle.mw_term.specs.Marking.{ObjectMark, AreMarks}
use Rattle.mw_theory.specs.declared.theory.Theory.{Theory as Kept}
use Rattle.mw_theory.specs.Knowledge.{parts_of, meant, IsHeld}
use Rattle.mw_theory.specs.Words.{verify_event, define_all_event}
use Rattle.mw_theory.specs.Admitting.{AreWithin}
use Rattle.mw_theory.specs.declared.admitting.Drafts.{Drafts}
use Rattle.mw_theory.specs.declared.admitting.Drafts.TheVariants as drafts
use Rattle.mw_theory.proofs.CallerLemmas.{all-grow, meant-grows, put_before, put_before-push, list_object-before, list_end}
use Rattle.mw_theory.proofs.CallerLemmas.{pair_before}
use Rattle.mw_kernel.specs.Rewriting.{defining_event}

-- a VERIFY whose proof turns to q or stays
pub verify-rewritten : (turns : Turning) (t : Theory) → None ≡ t.checker → (x e n f p q : Object) → e ≡ verify_event n f p → TurnsOrStays turns t p q → x ≡ verify_event n f q → IsRewritten turns t e x
verify-rewritten turns t built_in x e n f p q is turned x_is =
    subst (λ y. IsRewritten turns t y x) (sym is) (subst (λ c. IsRewrittenBy c (Some Verify) turns t (verify_event n f p) x) built_in (list1 q, (q, NIL, refl, turned, refl), x_is))

-- the definitions mean in the end what they meant before
pub defining_event-grows : (old new : List Object) → Grows old new → (given : Drafts) → AreWithin old given → (proofs : Object) → defining_event new given proofs ≡ defining_event old given proofs
defining_event-grows old new g (drafts.One d) h proofs =
    ap (Pair (symbol "DEFINE"))
    (ap₂ Pair (object_at-Grows old new g d.name h.0)
    (ap₂ Pair (object_at-Grows old new g d.formals h.1)
    (ap₂ Pair (object_at-Grows old new g d.body h.2)
    (ap₂ Pair (object_at-Grows old new g d.measure h.3) refl))))
defining_event-grows old new g (drafts.All x) h proofs = ap (λ y. define_all_event y proofs) (object_at-Grows old new g x h)

put_before-grow : (old new : List Object) → Grows old new → (xs : List ℕ) → All (IsIn old) xs → (rest : Object) → put_before new xs rest ≡ put_before old xs rest
put_before-grow old new g [] h rest = refl
put_before-grow old new g (x ∷ xs) h rest = ap₂ Pair (object_at-Grows old new g x (All-head (IsIn old) x xs h)) (put_before-grow old new g xs (All-tail (IsIn old) x xs h) rest)

-- A walk over the list of proofs: whatever the rest is rewritten to, with those that are done before it the whole list is.
module _ (turns : Turning) (os : List Object) (t : Kept) (list : ℕ) where
  abbrev theory : Theory
  theory = meant os (parts_of t)

  pub record Rewrites (now : List Object) (marks : List ObjectMark) (rest : ℕ) (done : List ℕ) : Type 0 where
    pub grows : Grows os now
    pub marked : AreMarks t.arity now marks
    pub rest_in : IsIn os rest
    pub within : All (IsIn now) done
    pub proper : is_list_object (object_at os rest) ≡ true
    pub turned : (qs : Object) → EachTurnsOrStays turns theory (object_at os rest) qs → EachTurnsOrStays turns theory (object_at os list) (put_before now done qs)

  pub Rewrites-start : (marks : List ObjectMark) → AreMarks t.arity os marks → IsIn os list → is_list_object (object_at os list) ≡ true → Rewrites os marks list []
  Rewrites-start marks marked list_in proper = record {
    grows = Grows-refl os;
    marked = marked;
    rest_in = list_in;
    within = All-nil (IsIn os);
    proper = proper;
    turned = λ qs each. each;
  }

  module _ (now : List Object) (marks : List ObjectMark) (rest : ℕ) (done : List ℕ) (w : Rewrites now marks rest done) where
    -- one proof more
    pub Rewrites-next : IsHeld os t → (proof more : ℕ) → proof < rest → more < rest → object_at now rest ≡ Pair (object_at now proof) (object_at now more) → (new : List Object) (ms : List ObjectMark) → Grows now new → AreMarks t.arity new ms → (r : ℕ) → IsIn new r → TurnsOrStays turns (meant now (parts_of t)) (object_at now proof) (object_at new r) → (dones : List ℕ) → dones ≡ done ++ r ∷ [] → Rewrites new ms more dones
    Rewrites-next h proof more proof_older more_older shows new ms grows marked r r_in turned dones pushed =
        let rest_is : object_at os rest ≡ Pair (object_at os proof) (object_at os more) = pair_before os now w.grows rest proof more w.rest_in proof_older more_older shows in
        let turned_before : TurnsOrStays turns theory (object_at os proof) (object_at new r) =
        subst (λ u. TurnsOrStays turns u (object_at os proof) (object_at new r)) (meant-grows os now w.grows t h)
        (subst (λ p. TurnsOrStays turns (meant now (parts_of t)) p (object_at new r)) (object_at-Grows os now w.grows proof (omega (arith, proof_older, w.rest_in))) turned) in
        subst (λ xs. Rewrites new ms more xs) (sym pushed) (record {
          grows = Grows-trans os now new w.grows grows;
          marked = marked;
          rest_in = omega (arith, more_older, w.rest_in);
          within = AreIn-push new done r (all-grow now new grows done w.within) r_in;
          proper = ap is_list_object (sym rest_is) ∙ w.proper;
          turned = λ qs each.
              subst (EachTurnsOrStays turns theory (object_at os list))
              (sym (put_before-push new done r qs ∙ put_before-grow now new grows done w.within (Pair (object_at new r) qs)))
              (w.turned (Pair (object_at new r) qs) (subst (λ y. EachTurnsOrStays turns theory y (Pair (object_at new r) qs)) (sym rest_is) (object_at new r, qs, refl, turned_before, each)));
        })

    pub all_rewritten : is_pair (object_at now rest) ≡ false → EachTurnsOrStays turns theory (object_at os list) (list_object now done)
    all_rewritten no_pair =
        let end : NIL ≡ object_at os rest = list_end (object_at os rest) (ap is_pair (sym (object_at-Grows os now w.grows rest w.rest_in)) ∙ no_pair) w.proper in
        subst (EachTurnsOrStays turns theory (object_at os list)) (sym (list_object-before now done)) (w.turned NIL (subst (λ y. EachTurnsOrStays turns theory y NIL) end refl))
