-- What a reader's answers say of the bytes fed, by what its parser's answers say.
use Rattle.std.proofs.Common.{◌≡◌, ℕ, ◌≤◌, ◌<◌, ◌⊎◌, true, false, true≢false, Option, List, [], ◌∷◌, ◌++◌, length, take, drop, refl, sym, ap, ◌∙◌, subst, arith, append-nil, inl, inr}
use Rattle.std.proofs.lemmas.List.{take-append-drop, drop_all}
use Rattle.mw_model.specs.Terms.Object.{Object}
use Rattle.mw_model.specs.Texts.Grammar.{book, trees}
use Rattle.mw_model.specs.Texts.Lexemes.{Fault}
use Rattle.mw_read.specs.Standing.{Stands, IsStanding, Follows, IsLast, HasEndedWith, HasEnded, GivesAfter, GivesLast, Says, Finishes, work}
use Rattle.mw_read.specs.Feeding.{GivesNext, MayCome, IsReady, Continues}
use Rattle.mw_read.specs.declared.parser.Parser.{Parser}
use Rattle.mw_read.specs.declared.reader.Reader.{Reader}
use Rattle.mw_read.specs.declared.step.Step.{Step}
use Rattle.mw_read.specs.declared.step.Step.TheVariants as steps
use Rattle.mw_read.proofs.Beginning.{weight_small}

module _ (old : Reader) (g : List ℕ) (given : List Object) (os : List Object) (new : Reader) (same : new.finished ≡ old.finished) where
  next_after : (n : ℕ) (y : Object) → new.unread ≡ drop n old.unread → GivesAfter old.parser g given old.unread y n new.parser → GivesNext old g given y new
  next_after n y e h = record {
    taken = take n old.unread;
    unread = sym (ap (λ v. take n old.unread ++ v) e ∙ take-append-drop n old.unread);
    finished = same;
    stands = h.stands;
    follows = inl (subst (Follows new.parser) (sym e) h.left);
    less = subst (λ v. work new.parser v < work old.parser old.unread) (sym e) h.less;
  }

  -- where bytes are unread, or more may come
  pub says_continues : (t : Step) (n : ℕ) → (t ≡ steps.More → old.finished ≡ false) → new.unread ≡ drop n old.unread → Says os old.parser g given old.unread t n new.parser → Continues os old g given t new
  says_continues (steps.Datum r) n f e v = (v.0, v.1, next_after n v.0 e v.2)
  says_continues (steps.TooBig w l) n f e v = (v.0, v.1, next_after n v.0 e v.2)
  says_continues steps.More n f e v = let none : new.unread ≡ [] = e ∙ drop_all n old.unread (omega (arith, v.0)) in (f refl, (none, same ∙ f refl), v.1, v.2, v.3)
  says_continues steps.End n f e v = absurd v
  says_continues (steps.Syntax k o) n f e v = λ rest h. v rest
  says_continues steps.Memory n f e v = tt

  module _ (f : old.finished ≡ true) (e : new.unread ≡ []) where
    next_last : (mid : Parser) (y : Object) → work mid [] ≤ work old.parser old.unread → GivesLast mid (g ++ old.unread) given y new.parser → GivesNext old g given y new
    next_last mid y l h = record {
      taken = old.unread;
      unread = sym (ap (λ v. old.unread ++ v) e ∙ append-nil old.unread);
      finished = same;
      stands = h.stands;
      follows = inr (e, same ∙ f);
      less = subst (λ v. work new.parser v < work old.parser old.unread) (sym e) (omega (arith, h.less, l));
    }

    -- where all was read and no more comes
    pub finishes_continues : (mid : Parser) (t : Step) → work mid [] ≤ work old.parser old.unread → Finishes os mid (g ++ old.unread) given t new.parser → Continues os old g given t new
    finishes_continues mid (steps.Datum r) l v = (v.0, v.1, next_last mid v.0 l v.2)
    finishes_continues mid (steps.TooBig a b) l v = (v.0, v.1, next_last mid v.0 l v.2)
    finishes_continues mid steps.More l v = absurd v
    finishes_continues mid steps.End l v = (f, e, same ∙ f, v.0, v.1)
    finishes_continues mid (steps.Syntax k o) l v = λ rest h. ap (λ r. trees (g ++ (old.unread ++ r))) (h f) ∙ ap (λ r. trees (g ++ r)) (append-nil old.unread) ∙ v
    finishes_continues mid steps.Memory l v = tt

    -- nothing was unread
    pub finishes_here : (t : Step) → old.unread ≡ [] → Finishes os old.parser g given t new.parser → Continues os old g given t new
    finishes_here t n v =
        finishes_continues old.parser t (subst (λ u. work old.parser [] ≤ work old.parser u) (sym n) (omega arith))
        (subst (λ h. Finishes os old.parser h given t new.parser) (sym (ap (λ r. g ++ r) n ∙ append-nil g)) v)

    -- the unread bytes held no further datum
    pub finishes_after : (mid : Parser) (t : Step) → 0 < length old.unread → Finishes os mid (g ++ old.unread) given t new.parser → Continues os old g given t new
    finishes_after mid t l v = finishes_continues mid t (omega (arith, weight_small mid.begun, l)) v

-- What comes after all bytes fed, where no more come.
module _ (old : Reader) (g : List ℕ) (given : List Object) (e : old.unread ≡ []) where
  parts_empty : (xs ys : List ℕ) → [] ≡ xs ++ ys → (xs ≡ []) × (ys ≡ [])
  parts_empty [] ys h = (refl, sym h)
  parts_empty (x ∷ xs) ys h = absurd cc

  none_left : g ++ old.unread ≡ g
  none_left = ap (λ u. g ++ u) e ∙ append-nil g

  pub last_left : (y : Object) (new : Reader) → GivesNext old g given y new → new.unread ≡ []
  last_left y new h = (parts_empty h.taken new.unread (sym e ∙ h.unread)).1

  pub last_stands : (y : Object) (new : Reader) → GivesNext old g given y new → (os : List Object) → Stands os new.parser g (given ++ y ∷ [])
  last_stands y new h os =
      let none = (parts_empty h.taken new.unread (sym e ∙ h.unread)).0 in
      subst (λ u. Stands os new.parser u (given ++ y ∷ [])) (ap (λ u. g ++ u) none ∙ append-nil g) (h.stands os)

  pub last_whole : (f : Option Fault) → trees (g ++ old.unread) ≡ book given f → trees g ≡ book given f
  last_whole f h = sym (ap trees none_left) ∙ h

  pub last_fault : (f : Option Fault) → ((rest : List ℕ) → MayCome old rest → trees (g ++ (old.unread ++ rest)) ≡ book given f) → trees g ≡ book given f
  last_fault f h = last_whole f (ap (λ u. trees (g ++ u)) (sym (append-nil old.unread)) ∙ h [] (λ n. refl))

-- After each answer the reader may be asked again.
pub ready_again : (os : List Object) (old : Reader) (g : List ℕ) (given : List Object) (t : Step) (new : Reader) → (IsLast t → HasEndedWith t new.parser) → Continues os old g given t new → IsReady os new
ready_again os old g given (steps.Datum r) new f h = inl ((g ++ h.2.taken, given ++ h.0 ∷ [], h.2.stands os), h.2.follows)
ready_again os old g given (steps.TooBig w l) new f h = inl ((g ++ h.2.taken, given ++ h.0 ∷ [], h.2.stands os), h.2.follows)
ready_again os old g given steps.More new f h = inl ((g ++ old.unread, given, h.2), inl (h.3 new.unread))
ready_again os old g given steps.End new f h = inl ((g ++ old.unread, given, h.3), inr (h.1, h.2))
ready_again os old g given (steps.Syntax k o) new f h = inr (steps.Syntax k o, tt, f tt)
ready_again os old g given steps.Memory new f h = inr (steps.Memory, tt, f tt)

pub ready_from : (os0 os : List Object) (old new : Reader) (t : Step) → IsReady os0 old →
    ((g : List ℕ) (given : List Object) → Stands os0 old.parser g given → Continues os old g given t new) →
    (IsLast t → HasEndedWith t new.parser) →
    ((s : Step) → HasEndedWith s old.parser → t ≡ s) → IsReady os new
ready_from os0 os old new t (inl h) f ended again = ready_again os old h.0.0 h.0.1 t new ended (f h.0.0 h.0.1 h.0.2)
ready_from os0 os old new t (inr h) f ended again = let last = subst IsLast (sym (again h.0 h.2)) h.1 in inr (t, last, ended last)

-- more bytes were fed
pub ready_fed : (os : List Object) (r : Reader) (fed piece : List ℕ) → fed ≡ r.unread ++ piece → Follows r.parser (r.unread ++ piece) ⊎ HasEnded r.parser → IsReady os r → IsReady os (record r { unread = fed })
ready_fed os r fed piece is (inl f) (inl h) = inl (h.0, inl (subst (λ x. Follows r.parser x) (sym is) f))
ready_fed os r fed piece is (inl f) (inr h) = inr h
ready_fed os r fed piece is (inr h) k = inr h

pub ready_stands : (os : List Object) (r : Reader) → IsReady os r → IsStanding os r.parser ⊎ HasEnded r.parser
ready_stands os r (inl h) = inl h.0
ready_stands os r (inr h) = inr h

pub ready_follows : (os : List Object) (r : Reader) → IsReady os r → (r.unread ≡ [] → r.finished ≡ false) → Follows r.parser r.unread ⊎ HasEnded r.parser
ready_follows os r (inl (s, inl f)) n = inl f
ready_follows os r (inl (s, inr f)) n = absurd (true≢false (sym f.1 ∙ n f.0))
ready_follows os r (inr h) n = inr h
