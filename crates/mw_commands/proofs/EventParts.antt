-- The word that an event begins with, and what its members are parts of.
use Rattle.std.proofs.Common.{◌≡◌, Bool, true, false, cond, List, [], ◌∷◌, Option, Some, None, refl, sym, ap, ◌∙◌, subst}
use Rattle.mw_model.specs.Terms.Object.{Name, Object, Natural, Symbol, Pair, named, symbol, same_name, same_object, NIL, car, cdr, second_of, third_of, fourth_of, fifth_of, sixth_of, has_members, list1}
use Rattle.mw_model.specs.Values.Truth.{Each}
use Rattle.mw_model.specs.Events.Fate.{EventWord, Verify, Define, Skolem, Switch, Eval, Print, DefineAll, SetProfile, event_words, event_word_among, member_count, event_word}
use Rattle.mw_model.specs.Terms.Reading.{that}
use Rattle.mw_model.specs.Events.Fate.{member_count}
use Rattle.mw_model.specs.Events.Demand.{proofs_of}
use Rattle.mw_model.proofs.Names.{same_name-eq}
use Rattle.mw_model.proofs.ReadBack.{some_one, when_some}
use Rattle.mw_commands.specs.Commands.Slice.{without_name}
use Rattle.mw_commands.proofs.Within.{Within, rest_within, within_trans, members_first, members_rest, members_after, end_within, one_member, second_there, third_there, fourth_there, fifth_there}

abbrev pub word_name : EventWord → Name
word_name Verify = named "VERIFY"
word_name Define = named "DEFINE"
word_name Skolem = named "SKOLEM"
word_name Switch = named "SWITCH"
word_name Eval = named "EVAL"
word_name Print = named "PRINT"
word_name DefineAll = named "DEFINE-ALL"
word_name SetProfile = named "PROFILE"

-- ---- what is known of an event with a word

word_found : (ps : List (Name × EventWord)) (f : Name) (w : EventWord) → Each (λ p. p.0 ≡ word_name p.1) ps → event_word_among ps f ≡ Some w → word_name w ≡ f
word_found [] f w h k = cc
word_found (p ∷ ps) f w h k = go (same_name p.0 f) refl k (word_found ps f w h.1)
  where
    go : (b : Bool) → same_name p.0 f ≡ b → cond b (Some p.1) (event_word_among ps f) ≡ Some w → (event_word_among ps f ≡ Some w → word_name w ≡ f) → word_name w ≡ f
    go true e k ih = ap word_name (sym (some_one k)) ∙ (sym h.0 ∙ same_name-eq p.0 f e)
    go false e k ih = ih k

pub record HasWord (e : Object) (w : EventWord) : Type 0 where
  pub head : car e ≡ Symbol (word_name w)
  pub members : has_members (member_count w) e ≡ true

pub has_word : (e : Object) (w : EventWord) → event_word e ≡ Some w → HasWord e w
has_word (Natural n) w h = cc
has_word (Symbol s) w h = cc
has_word (Pair (Natural n) r) w h = cc
has_word (Pair (Pair a b) r) w h = cc
has_word (Pair (Symbol s) r) w h = go (event_word_among event_words s) refl h
  where
    go : (o : Option EventWord) → event_word_among event_words s ≡ o → that (λ w. has_members (member_count w) (Pair (Symbol s) r)) o ≡ Some w → HasWord (Pair (Symbol s) r) w
    go None k g = cc
    go (Some v) k g =
        let p = when_some (has_members (member_count v) (Pair (Symbol s) r)) (Some v) w g in
        let q : v ≡ w = some_one p.1 in
        record {
          head = ap Symbol (sym (word_found event_words s w (refl, (refl, (refl, (refl, (refl, (refl, (refl, (refl, tt)))))))) (k ∙ ap Some q)));
          members = subst (λ z. has_members (member_count z) (Pair (Symbol s) r) ≡ true) q p.0;
        }

-- ---- the members of an event are parts of it, its own name left out

pub begins_as : (e : Object) (w : EventWord) → HasWord e w → (x : Object) → same_object (car e) x ≡ same_object (Symbol (word_name w)) x
begins_as e w h x = ap (λ z. same_object z x) h.head

whole : (e : Object) (w : EventWord) → HasWord e w → same_name (word_name w) (named "VERIFY") ≡ false → Within e (without_name e)
whole e w h d = subst (Within e) (sym (ap (λ b. cond b (Pair (car e) (cdr (cdr e))) e) (begins_as e w h (symbol "VERIFY") ∙ d))) (λ a k. k)

module _ (e : Object) (h : HasWord e Verify) where
  after_name : Within (cdr (cdr e)) (without_name e)
  after_name = subst (Within (cdr (cdr e))) (sym (ap (λ b. cond b (Pair (car e) (cdr (cdr e))) e) (begins_as e Verify h (symbol "VERIFY")))) (rest_within (car e) (cdr (cdr e)))

  two_left : has_members 2 (cdr (cdr e)) ≡ true
  two_left = members_after 2 (cdr e) (members_after 3 e h.members)

  pub claim_within : Within (third_of e) (without_name e)
  claim_within = within_trans (third_of e) (cdr (cdr e)) (without_name e) (members_first 1 (cdr (cdr e)) two_left) after_name

  proof_within : Within (list1 (fourth_of e)) (without_name e)
  proof_within =
      let last = cdr (cdr (cdr e)) in
      within_trans (list1 (fourth_of e)) last (without_name e) (one_member last (members_after 1 (cdr (cdr e)) two_left)) (within_trans last (cdr (cdr e)) (without_name e) (members_rest 1 (cdr (cdr e)) two_left) after_name)

pub draft_parts : (d : Object) → has_members 4 d ≡ true → Within (third_of d) d × Within (fourth_of d) d
draft_parts d h = (third_there 1 d h, fourth_there 0 d h)

module _ (e : Object) (h : HasWord e Define) where
  pub body_within : Within (fourth_of e) (without_name e)
  body_within = within_trans (fourth_of e) e (without_name e) (fourth_there 2 e h.members) (whole e Define h refl)

  pub measure_within : Within (fifth_of e) (without_name e)
  measure_within = within_trans (fifth_of e) e (without_name e) (fifth_there 1 e h.members) (whole e Define h refl)

  define_proofs_within : Within (sixth_of e) (without_name e)
  define_proofs_within =
      within_trans (sixth_of e) (cdr e) (without_name e) (fifth_there 0 (cdr e) (members_after 5 e h.members)) (within_trans (cdr e) e (without_name e) (members_rest 5 e h.members) (whole e Define h refl))

module _ (e : Object) (h : HasWord e DefineAll) where
  pub drafts_within : Within (second_of e) (without_name e)
  drafts_within = within_trans (second_of e) e (without_name e) (second_there 1 e h.members) (whole e DefineAll h refl)

  define_all_proofs_within : Within (third_of e) (without_name e)
  define_all_proofs_within = within_trans (third_of e) e (without_name e) (third_there 0 e h.members) (whole e DefineAll h refl)

pub witness_within : (e : Object) → HasWord e Skolem → Within (fifth_of e) (without_name e)
witness_within e h = within_trans (fifth_of e) e (without_name e) (fifth_there 0 e h.members) (whole e Skolem h refl)

-- the proofs of an event that has some
pub proofs_are_within : (w : EventWord) (e : Object) → HasWord e w → Within (proofs_of w e) (without_name e)
proofs_are_within Verify e h = proof_within e h
proofs_are_within Define e h = define_proofs_within e h
proofs_are_within DefineAll e h = define_all_proofs_within e h
proofs_are_within Skolem e h = within_trans NIL e (without_name e) (end_within 5 e h.members) (whole e Skolem h refl)
proofs_are_within SetProfile e h = within_trans NIL e (without_name e) (end_within 2 e h.members) (whole e SetProfile h refl)
proofs_are_within Switch e h = within_trans NIL e (without_name e) (end_within 2 e h.members) (whole e Switch h refl)
proofs_are_within Eval e h = within_trans NIL e (without_name e) (end_within 2 e h.members) (whole e Eval h refl)
proofs_are_within Print e h = within_trans NIL e (without_name e) (end_within 2 e h.members) (whole e Print h refl)
