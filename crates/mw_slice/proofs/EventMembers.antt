-- The proofs of an event, by its word and the number of its members.
use Rattle.std.proofs.Common.{◌≡◌, ℕ, suc, ◌-◌, ◌+◌, ◌<◌, ◌≤◌, Bool, true, false, ◌&&◌, cond, List, [], map, filter, Option, Some, None, refl, sym, ap, ◌∙◌, append-nil, arith}
use Rattle.std.proofs.lemmas.Bool.{and_parts}
use Rattle.mw_model.specs.Terms.Object.{Name, Object, Natural, Symbol, Pair, NIL, named, symbol, same_name, same_object, second_of, third_of, fourth_of, sixth_of, has_members, list1}
use Rattle.mw_model.specs.Values.Primitive.{is_pair}
use Rattle.mw_model.specs.Terms.Reading.{when, that}
use Rattle.mw_model.specs.Events.Fate.{EventWord, Verify, Define, Skolem, Switch, Eval, Print, DefineAll, SetProfile, event_word, member_count}
use Rattle.mw_model.proofs.Names.{same_object-eq}
use Rattle.mw_model.proofs.SameObject.{same_object-swap}
use Rattle.mw_commands.specs.Commands.Slice.{begins_with, proofs_by_word, theorems_named}
use Rattle.mw_commands.specs.Commands.Subproofs.{proofs_within, each_within}

-- ---- members are counted one by one

module _ (count i : ℕ) (more : i < count) where
  next_count : count - i ≡ suc (count - (i + 1))
  next_count = omega arith

  pub has_members-rest : (x a d : Object) → x ≡ Pair a d → has_members (count - (i + 1)) d ≡ has_members (count - i) x
  has_members-rest x a d e = sym (ap (λ n. has_members n x) next_count ∙ ap (has_members (suc (count - (i + 1)))) e)

  pub has_members-atom : (x : Object) → is_pair x ≡ false → has_members (count - i) x ≡ false
  has_members-atom x h = ap (λ n. has_members n x) next_count ∙ by x h
    where
      by : (x : Object) → is_pair x ≡ false → has_members (suc (count - (i + 1))) x ≡ false
      by (Natural n) h = refl
      by (Symbol s) h = refl
      by (Pair a d) h = cc

pub has_members-none : (count i : ℕ) (x : Object) → count ≤ i → has_members (count - i) x ≡ same_object x NIL
has_members-none count i x h = let e : count - i ≡ 0 = omega arith in ap (λ n. has_members n x) e

-- ---- the theorems of the steps

abbrev theorems : List Object → List Object
theorems steps = map second_of (filter (begins_with "THEOREM") steps)

module _ (e : Object) where
  by_word : (o : Option EventWord) (ps : Object) → event_word e ≡ o → proofs_by_word o e ≡ ps → theorems_named e ≡ theorems (each_within ps)
  by_word o ps f g = ap (λ p. theorems (each_within p)) (ap (λ o. proofs_by_word o e) f ∙ g)

  counted : (w : EventWord) (b : Bool) → event_word e ≡ when b (Some w) → b ≡ true → event_word e ≡ Some w
  counted w b f g = f ∙ ap (λ b. when b (Some w)) g

verify_word : (e : Object) → begins_with "VERIFY" e ≡ true → event_word e ≡ when (has_members 4 e) (Some Verify)
verify_word (Natural n) h = cc
verify_word (Symbol s) h = cc
verify_word (Pair a r) h = ap (λ x. event_word (Pair x r)) (same_object-eq a (symbol "VERIFY") h)

define_word : (e : Object) → begins_with "DEFINE" e ≡ true → event_word e ≡ when (has_members 6 e) (Some Define)
define_word (Natural n) h = cc
define_word (Symbol s) h = cc
define_word (Pair a r) h = ap (λ x. event_word (Pair x r)) (same_object-eq a (symbol "DEFINE") h)

define_all_word : (e : Object) → begins_with "DEFINE-ALL" e ≡ true → event_word e ≡ when (has_members 3 e) (Some DefineAll)
define_all_word (Natural n) h = cc
define_all_word (Symbol s) h = cc
define_all_word (Pair a r) h = ap (λ x. event_word (Pair x r)) (same_object-eq a (symbol "DEFINE-ALL") h)

module _ (e x : Object) where
  pub theorems_verified : x ≡ fourth_of e → (begins_with "VERIFY" e && has_members 4 e) ≡ true → theorems (proofs_within x) ≡ theorems_named e
  theorems_verified is h =
      let p = and_parts (begins_with "VERIFY" e) (has_members 4 e) h in
      ap (λ y. theorems (proofs_within y)) is
      ∙ (ap theorems (sym (append-nil (proofs_within (fourth_of e))))
      ∙ sym (by_word e (Some Verify) (list1 (fourth_of e)) (counted e Verify (has_members 4 e) (verify_word e p.0) p.1) refl))

  pub theorems_defined : x ≡ sixth_of e → (begins_with "DEFINE" e && has_members 6 e) ≡ true → theorems (each_within x) ≡ theorems_named e
  theorems_defined is h =
      let p = and_parts (begins_with "DEFINE" e) (has_members 6 e) h in
      ap (λ y. theorems (each_within y)) is ∙ sym (by_word e (Some Define) (sixth_of e) (counted e Define (has_members 6 e) (define_word e p.0) p.1) refl)

  pub theorems_all_defined : x ≡ third_of e → (begins_with "DEFINE-ALL" e && has_members 3 e) ≡ true → theorems (each_within x) ≡ theorems_named e
  theorems_all_defined is h =
      let p = and_parts (begins_with "DEFINE-ALL" e) (has_members 3 e) h in
      ap (λ y. theorems (each_within y)) is ∙ sym (by_word e (Some DefineAll) (third_of e) (counted e DefineAll (has_members 3 e) (define_all_word e p.0) p.1) refl)

-- ---- any other event has no proofs

module _ (e : Object) where
  without : (w : EventWord) (b : Bool) → proofs_by_word (Some w) e ≡ NIL → proofs_by_word (when b (Some w)) e ≡ NIL
  without w true h = h
  without w false h = refl

  too_few : (w : EventWord) (b : Bool) → b ≡ false → proofs_by_word (when b (Some w)) e ≡ NIL
  too_few w b h = ap (λ b. proofs_by_word (when b (Some w)) e) h

  no_proofs : (v d k w l p a f : Bool) → (v && has_members 4 e) ≡ false → (d && has_members 6 e) ≡ false → (a && has_members 3 e) ≡ false →
      proofs_by_word (that (λ w. has_members (member_count w) e) (cond v (Some Verify) (cond d (Some Define) (cond k (Some Skolem) (cond w (Some Switch) (cond l (Some Eval) (cond p (Some Print) (cond a (Some DefineAll) (cond f (Some SetProfile) None))))))))) e ≡ NIL
  no_proofs true d k w l p a f hv hd ha = too_few Verify (has_members 4 e) hv
  no_proofs false true k w l p a f hv hd ha = too_few Define (has_members 6 e) hd
  no_proofs false false true w l p a f hv hd ha = without Skolem (has_members 5 e) refl
  no_proofs false false false true l p a f hv hd ha = without Switch (has_members 2 e) refl
  no_proofs false false false false true p a f hv hd ha = without Eval (has_members 2 e) refl
  no_proofs false false false false false true a f hv hd ha = without Print (has_members 2 e) refl
  no_proofs false false false false false false true f hv hd ha = too_few DefineAll (has_members 3 e) ha
  no_proofs false false false false false false false true hv hd ha = without SetProfile (has_members 2 e) refl
  no_proofs false false false false false false false false hv hd ha = refl

swapped : (e : Object) (s : Name) (t : Name) (n : ℕ) → (same_object (Symbol s) (Symbol t) && has_members n e) ≡ false → (same_name t s && has_members n e) ≡ false
swapped e s t n h = ap (λ b. b && has_members n e) (same_object-swap (Symbol t) (Symbol s)) ∙ h

pub no_theorems : (e : Object) → (begins_with "VERIFY" e && has_members 4 e) ≡ false → (begins_with "DEFINE" e && has_members 6 e) ≡ false → (begins_with "DEFINE-ALL" e && has_members 3 e) ≡ false → theorems_named e ≡ []
no_theorems (Natural n) hv hd ha = refl
no_theorems (Symbol s) hv hd ha = refl
no_theorems (Pair (Natural n) r) hv hd ha = refl
no_theorems (Pair (Pair a b) r) hv hd ha = refl
no_theorems (Pair (Symbol s) r) hv hd ha =
    let e = Pair (Symbol s) r in
    ap (λ p. theorems (each_within p)) (no_proofs e (same_name (named "VERIFY") s) (same_name (named "DEFINE") s) (same_name (named "SKOLEM") s) (same_name (named "SWITCH") s) (same_name (named "EVAL") s) (same_name (named "PRINT") s) (same_name (named "DEFINE-ALL") s) (same_name (named "PROFILE") s)
    (swapped e s (named "VERIFY") 4 hv) (swapped e s (named "DEFINE") 6 hd) (swapped e s (named "DEFINE-ALL") 3 ha))
