-- The drafts of a list, read from the front.
use Rattle.std.proofs.Common.{◌≡◌, ℕ, true, false, List, [], ◌∷◌, ◌++◌, map, Option, Some, None, refl, sym, ap, ◌∙◌, subst, append_assoc}
use Rattle.std.proofs.lemmas.List.{append-nil, map-append}
use Rattle.mw_model.specs.Terms.Object.{Object, Natural, Symbol, Pair, same_object, NIL}
use Rattle.mw_model.specs.Values.Primitive.{is_pair}
use Rattle.mw_model.specs.Terms.Reading.{and_more, when}
use Rattle.mw_model.specs.Events.Admission.{Draft, drafts_of, draft_of, some_drafts}
use Rattle.mw_heap.specs.Objects.{object_at, IsIn}
use Rattle.mw_define.specs.declared.draft.Draft.{Draft as Given}
use Rattle.mw_define.specs.Blocks.{draft_at, IsDraftIn, AreDraftsIn}

-- the drafts before those of a list
abbrev after : List Draft → Option (List Draft) → Option (List Draft)
after ds None = None
after ds (Some es) = Some (ds ++ es)

after-more : (ds : List Draft) (d : Draft) (o : Option (List Draft)) → after ds (and_more (Some d) o) ≡ after (ds ++ d ∷ []) o
after-more ds d None = refl
after-more ds d (Some es) = ap Some (sym (append_assoc ds (d ∷ []) es))

after-none : (o : Option (List Draft)) → o ≡ after [] o
after-none None = refl
after-none (Some es) = refl

-- what was read before the rest of the list x
pub record DraftsSoFar (os : List Object) (x : ℕ) (ds : List Given) (rest : ℕ) : Type 0 where
  pub within : IsIn os rest
  pub drafts : AreDraftsIn os ds
  pub goes_on : drafts_of (object_at os x) ≡ after (map (draft_at os) ds) (drafts_of (object_at os rest))

pub drafts-start : (os : List Object) (x : ℕ) (ds : List Given) → ds ≡ [] → IsIn os x → DraftsSoFar os x ds x
drafts-start os x ds e i = subst (λ l. DraftsSoFar os x l x) (sym e) (record { within = i; drafts = tt; goes_on = after-none (drafts_of (object_at os x)) })

drafts-push : (os : List Object) (ds : List Given) (d : Given) → AreDraftsIn os ds → IsDraftIn os d → AreDraftsIn os (ds ++ d ∷ [])
drafts-push os [] d h i = (i, tt)
drafts-push os (e ∷ ds) d h i = (h.0, drafts-push os ds d h.1 i)

module _ (os : List Object) (x : ℕ) (ds : List Given) (rest first more : ℕ) (h : DraftsSoFar os x ds rest) (shape : object_at os rest ≡ Pair (object_at os first) (object_at os more)) where
  pub drafts-next : (d : Given) (last : List Given) → IsIn os more → IsDraftIn os d → draft_of (object_at os first) ≡ Some (draft_at os d) → last ≡ ds ++ d ∷ [] → DraftsSoFar os x last more
  drafts-next d last i w e k = subst (λ l. DraftsSoFar os x l more) (sym k) (record {
    within = i;
    drafts = drafts-push os ds d h.drafts w;
    goes_on =
        h.goes_on
        ∙ (ap (λ o. after (map (draft_at os) ds) (drafts_of o)) shape
        ∙ (ap (λ o. after (map (draft_at os) ds) (and_more o (drafts_of (object_at os more)))) e
        ∙ (after-more (map (draft_at os) ds) (draft_at os d) (drafts_of (object_at os more)) ∙ ap (λ l. after l (drafts_of (object_at os more))) (sym (map-append (draft_at os) ds (d ∷ []))))));
  })

  pub drafts-refused : draft_of (object_at os first) ≡ None → drafts_of (object_at os x) ≡ None
  drafts-refused e =
      h.goes_on
      ∙ (ap (λ o. after (map (draft_at os) ds) (drafts_of o)) shape ∙ ap (λ o. after (map (draft_at os) ds) (and_more o (drafts_of (object_at os more)))) e)

end-is : (o : Object) → same_object o NIL ≡ true → drafts_of o ≡ Some []
end-is (Symbol s) h = ap (λ b. when b (Some [])) h
end-is (Natural n) h = cc
end-is (Pair a b) h = cc

no-end : (o : Object) → is_pair o ≡ false → same_object o NIL ≡ false → drafts_of o ≡ None
no-end (Symbol s) p h = ap (λ b. when b (Some [])) h
no-end (Natural n) p h = refl
no-end (Pair a b) p h = cc

pub drafts-end : (os : List Object) (x : ℕ) (ds : List Given) (rest : ℕ) → DraftsSoFar os x ds rest → same_object (object_at os rest) NIL ≡ true → drafts_of (object_at os x) ≡ Some (map (draft_at os) ds)
drafts-end os x ds rest h e = h.goes_on ∙ (ap (after (map (draft_at os) ds)) (end-is (object_at os rest) e) ∙ ap Some (append-nil (map (draft_at os) ds)))

pub drafts-no-end : (os : List Object) (x : ℕ) (ds : List Given) (rest : ℕ) → DraftsSoFar os x ds rest → is_pair (object_at os rest) ≡ false → same_object (object_at os rest) NIL ≡ false → drafts_of (object_at os x) ≡ None
drafts-no-end os x ds rest h p e = h.goes_on ∙ ap (after (map (draft_at os) ds)) (no-end (object_at os rest) p e)

pub some-drafts : (x : Object) → is_pair x ≡ true → some_drafts x ≡ drafts_of x
some-drafts (Pair a b) h = refl
some-drafts (Symbol s) h = cc
some-drafts (Natural n) h = cc

pub no-drafts : (x : Object) → is_pair x ≡ false → some_drafts x ≡ None
no-drafts (Pair a b) h = cc
no-drafts (Symbol s) h = refl
no-drafts (Natural n) h = refl
