-- Each answer of descending functions is the value of the body, where calls have these answers.
use Rattle.std.proofs.Common.{◌≡◌, ◌≢◌, Bool, true, false, ◌&&◌, ◌||◌, cond, List, [], ◌∷◌, Option, Some, None, refl, sym, ap, ap₂, ◌∙◌, subst, ◌⊎◌, inl, inr, is_some}
use Rattle.std.proofs.lemmas.Bool.{and_parts, and_from, or_cases, or_left, or_right}
use Rattle.mw_model.specs.Terms.Object.{Name, Object, same_name}
use Rattle.mw_model.specs.Terms.Term.{Term, Terms, Variable, Constant, If, Call, Lambda, NoTerms, More, is_among}
use Rattle.mw_model.specs.Values.Primitive.{Profile, Primitive, primitive_named, choose}
use Rattle.mw_model.specs.Values.Definition.{Function, function_named}
use Rattle.mw_model.specs.Values.Value.{Environment, bind, block_calls}
use Rattle.mw_model.proofs.Names.{same_name-eq, same_name-refl, name_cases}
use Rattle.mw_model.proofs.Values.{ev_det}
use Rattle.mw_model.proofs.Depth.{block_unfold, block_calls-det}
use Rattle.mw_model.proofs.BuiltInValue.{Answers, answer_on, value_at, values_at, calls_among, all_calls_among, is_part, tests_pair, actual_for, descends, all_descend, falling, names, are_descending, answers}
use Rattle.mw_model.proofs.BuiltInCalls.{value_among, not_among-other, descending_falls, descending_new, descending_rest, alone, own_answer, own_answer-value, answers_agree}

-- equal answers to the names of a term give it one value
module _ (P : Profile) (R S : Answers) (N : List Name) (same : (f : Name) → is_among f N ≡ true → (vs : List Object) → R f vs ≡ S f vs) where
  answer_on-same : (o : Option Primitive) (f : Name) (vs : List Object) → is_some o || is_among f N ≡ true → answer_on o (R f) vs ≡ answer_on o (S f) vs
  answer_on-same None f vs i = same f i vs
  answer_on-same (Some p) f vs i = refl

  mutual
    pub value_at-same : (e : Environment) (t : Term) → calls_among P N t ≡ true → value_at P R e t ≡ value_at P S e t
    value_at-same e (Variable x) i = refl
    value_at-same e (Constant c) i = refl
    value_at-same e (If a b c) i =
        let p = and_parts (calls_among P N a) (calls_among P N b && calls_among P N c) i in
        let q = and_parts (calls_among P N b) (calls_among P N c) p.1 in
        let ea = value_at-same e a p.0 in
        let eb = value_at-same e b q.0 in
        let ec = value_at-same e c q.1 in
        ap (λ u. choose u (value_at P R e b) (value_at P R e c)) ea ∙ ap₂ (choose (value_at P S e a)) eb ec
    value_at-same e (Call f ts) i =
        let p = and_parts (all_calls_among P N ts) (is_some (primitive_named P f) || is_among f N) i in
        answer_on-same (primitive_named P f) f (values_at P R e ts) p.1 ∙ ap (answer_on (primitive_named P f) (S f)) (values_at-same e ts p.0)
    value_at-same e (Lambda xs b ts) i =
        let p = and_parts (all_calls_among P N ts) (calls_among P N b) i in
        value_at-same (bind xs (values_at P R e ts)) b p.1 ∙ ap (λ vs. value_at P S (bind xs vs) b) (values_at-same e ts p.0)

    values_at-same : (e : Environment) (ts : Terms) → all_calls_among P N ts ≡ true → values_at P R e ts ≡ values_at P S e ts
    values_at-same e NoTerms i = refl
    values_at-same e (More t ts) i =
        let p = and_parts (calls_among P N t) (all_calls_among P N ts) i in
        ap₂ ◌∷◌ (value_at-same e t p.0) (values_at-same e ts p.1)

-- terms over fewer names
module _ (P : Profile) (N M : List Name) (more : (f : Name) → is_among f N ≡ true → is_among f M ≡ true) where
  known_more : (o : Option Primitive) (f : Name) → is_some o || is_among f N ≡ true → is_some o || is_among f M ≡ true
  known_more None f i = more f i
  known_more (Some p) f i = refl

  mutual
    calls_among-more : (t : Term) → calls_among P N t ≡ true → calls_among P M t ≡ true
    calls_among-more (Variable x) i = refl
    calls_among-more (Constant c) i = refl
    calls_among-more (If a b c) i =
        let p = and_parts (calls_among P N a) (calls_among P N b && calls_among P N c) i in
        let q = and_parts (calls_among P N b) (calls_among P N c) p.1 in
        and_from _ _ (calls_among-more a p.0) (and_from _ _ (calls_among-more b q.0) (calls_among-more c q.1))
    calls_among-more (Call f ts) i =
        let p = and_parts (all_calls_among P N ts) (is_some (primitive_named P f) || is_among f N) i in
        and_from _ _ (all_calls_among-more ts p.0) (known_more (primitive_named P f) f p.1)
    calls_among-more (Lambda xs b ts) i =
        let p = and_parts (all_calls_among P N ts) (calls_among P N b) i in
        and_from _ _ (all_calls_among-more ts p.0) (calls_among-more b p.1)

    all_calls_among-more : (ts : Terms) → all_calls_among P N ts ≡ true → all_calls_among P M ts ≡ true
    all_calls_among-more NoTerms i = refl
    all_calls_among-more (More t ts) i =
        let p = and_parts (calls_among P N t) (all_calls_among P N ts) i in
        and_from _ _ (calls_among-more t p.0) (all_calls_among-more ts p.1)

  module _ (g x : Name) (xs : List Name) (own : is_among g M ≡ true) where
    descending_call : (o : Option Primitive) (f : Name) (b : Bool) → is_some o || (is_among f N || (same_name g f && b)) ≡ true → is_some o || is_among f M ≡ true
    descending_call None f b i = go (or_cases (is_among f N) (same_name g f && b) i)
      where
        go : (is_among f N ≡ true) ⊎ ((same_name g f && b) ≡ true) → is_among f M ≡ true
        go (inl h) = more f h
        go (inr h) = subst (λ z. is_among z M ≡ true) (same_name-eq g f (and_parts (same_name g f) b h).0) own
    descending_call (Some p) f b i = refl

    mutual
      descends-among : (k : Bool) (t : Term) → descends P N g x xs k t ≡ true → calls_among P M t ≡ true
      descends-among k (Variable y) i = refl
      descends-among k (Constant c) i = refl
      descends-among k (If a b c) i =
          let p = and_parts (descends P N g x xs k a) (descends P N g x xs (k || tests_pair P x a) b && descends P N g x xs k c) i in
          let q = and_parts (descends P N g x xs (k || tests_pair P x a) b) (descends P N g x xs k c) p.1 in
          and_from _ _ (descends-among k a p.0) (and_from _ _ (descends-among (k || tests_pair P x a) b q.0) (descends-among k c q.1))
      descends-among k (Call f ts) i =
          let p = and_parts (all_descend P N g x xs k ts) (is_some (primitive_named P f) || (is_among f N || (same_name g f && (k && is_part P x (actual_for x xs ts))))) i in
          and_from _ _ (all_descend-among k ts p.0) (descending_call (primitive_named P f) f (k && is_part P x (actual_for x xs ts)) p.1)
      descends-among k (Lambda ys b ts) i =
          let p = and_parts (all_descend P N g x xs k ts) (calls_among P N b) i in
          and_from _ _ (all_descend-among k ts p.0) (calls_among-more b p.1)

      all_descend-among : (k : Bool) (ts : Terms) → all_descend P N g x xs k ts ≡ true → all_calls_among P M ts ≡ true
      all_descend-among k NoTerms i = refl
      all_descend-among k (More t ts) i =
          let p = and_parts (descends P N g x xs k t) (all_descend P N g x xs k ts) i in
          and_from _ _ (descends-among k t p.0) (all_descend-among k ts p.1)

module _ (P : Profile) where
  -- the newest function's body calls itself and older ones alone
  own_body-among : (h : Function) (B : List Function) → are_descending P (h ∷ B) ≡ true → calls_among P (names (h ∷ B)) h.body ≡ true
  own_body-among h B c =
      descends-among P (names B) (names (h ∷ B)) (λ f i. or_right (same_name f h.name) (is_among f (names B)) i) h.name (falling P (names B) h) h.formals (or_left (same_name h.name h.name) (is_among h.name (names B)) (same_name-refl h.name)) false h.body (descending_falls P h B c)

  body_among : (B : List Function) → are_descending P B ≡ true → (f : Name) (h : Function) → function_named B f ≡ Some h → calls_among P (names B) h.body ≡ true
  body_among [] c f h e = cc
  body_among (g ∷ B) c f h e = go (same_name g.name f) e (λ e'. body_among B (descending_rest P g B c) f h e')
    where
      go : (t : Bool) → cond t (Some g) (function_named B f) ≡ Some h → (function_named B f ≡ Some h → calls_among P (names B) h.body ≡ true) → calls_among P (names (g ∷ B)) h.body ≡ true
      go true e' ih = let q : g ≡ h = cc in subst (λ z. calls_among P (names (g ∷ B)) z.body ≡ true) q (own_body-among g B c)
      go false e' ih = calls_among-more P (names B) (names (g ∷ B)) (λ n i. or_right (same_name n g.name) (is_among n (names B)) i) h.body (ih e')

  -- older answers stay
  answers-older : (h : Function) (B : List Function) → are_descending P (h ∷ B) ≡ true → (f : Name) → is_among f (names B) ≡ true → (vs : List Object) → answers P B f vs ≡ answers P (h ∷ B) f vs
  unfolding answers
  answers-older h B c f i vs = ap (λ b. cond b (own_answer P h B vs) (answers P B f vs)) (sym (not_among-other f h.name (names B) (descending_new P h B c) i))

  answers-own : (h : Function) (B : List Function) (vs : List Object) → answers P (h ∷ B) h.name vs ≡ own_answer P h B vs
  unfolding answers
  answers-own h B vs = ap (λ b. cond b (own_answer P h B vs) (answers P B h.name vs)) (same_name-refl h.name)

  answers-own-body : (h : Function) (B : List Function) → are_descending P (h ∷ B) ≡ true → (vs : List Object) → answers P (h ∷ B) h.name vs ≡ value_at P (answers P (h ∷ B)) (bind h.formals vs) h.body
  answers-own-body h B c vs =
      let C = block_calls P (alone (h ∷ B)) in
      let a = own_answer-value P h B c (answers_agree P B (descending_rest P h B c)) vs in
      let u = block_unfold P (block_calls P (alone B)) (h ∷ []) h vs (own_answer P h B vs) a in
      let w = value_among P C (answers P (h ∷ B)) (names (h ∷ B)) (answers_agree P (h ∷ B) c) (bind h.formals vs) h.body (own_body-among h B c) in
      answers-own h B vs ∙ ev_det P C (block_calls-det P (alone (h ∷ B))) (bind h.formals vs) h.body (own_answer P h B vs) (value_at P (answers P (h ∷ B)) (bind h.formals vs) h.body) u w

  named_among : (B : List Function) (f : Name) (h : Function) → function_named B f ≡ Some h → is_among f (names B) ≡ true
  named_among [] f h e = cc
  named_among (g ∷ B) f h e = go (name_cases g.name f) e (λ e'. named_among B f h e')
    where
      go : ((same_name g.name f ≡ true) × (g.name ≡ f)) ⊎ ((same_name g.name f ≡ false) × (g.name ≢ f)) → cond (same_name g.name f) (Some g) (function_named B f) ≡ Some h → (function_named B f ≡ Some h → is_among f (names B) ≡ true) → is_among f (names (g ∷ B)) ≡ true
      go (inl q) e' ih = subst (λ z. is_among z (names (g ∷ B)) ≡ true) q.1 (or_left (same_name g.name g.name) (is_among g.name (names B)) (same_name-refl g.name))
      go (inr q) e' ih = or_right (same_name f g.name) (is_among f (names B)) (ih (subst (λ t. cond t (Some g) (function_named B f) ≡ Some h) q.0 e'))

  -- each answer is the body's value
  pub answers-body : (B : List Function) → are_descending P B ≡ true → (f : Name) (h : Function) (vs : List Object) → function_named B f ≡ Some h → answers P B f vs ≡ value_at P (answers P B) (bind h.formals vs) h.body
  answers-body [] c f h vs e = cc
  answers-body (g ∷ B) c f h vs e = go (name_cases g.name f) e (λ e'. answers-body B (descending_rest P g B c) f h vs e')
    where
      go : ((same_name g.name f ≡ true) × (g.name ≡ f)) ⊎ ((same_name g.name f ≡ false) × (g.name ≢ f)) → cond (same_name g.name f) (Some g) (function_named B f) ≡ Some h → (function_named B f ≡ Some h → answers P B f vs ≡ value_at P (answers P B) (bind h.formals vs) h.body) → answers P (g ∷ B) f vs ≡ value_at P (answers P (g ∷ B)) (bind h.formals vs) h.body
      go (inl q) e' ih =
          let e'' : cond true (Some g) (function_named B f) ≡ Some h = subst (λ t. cond t (Some g) (function_named B f) ≡ Some h) q.0 e' in
          let r : g ≡ h = cc in
          subst (λ z. answers P (g ∷ B) z vs ≡ value_at P (answers P (g ∷ B)) (bind h.formals vs) h.body) q.1 (subst (λ z. answers P (g ∷ B) g.name vs ≡ value_at P (answers P (g ∷ B)) (bind z.formals vs) z.body) r (answers-own-body g B c vs))
      go (inr q) e' ih =
          let e'' : function_named B f ≡ Some h = subst (λ t. cond t (Some g) (function_named B f) ≡ Some h) q.0 e' in
          sym (answers-older g B c f (named_among B f h e'') vs) ∙ (ih e'' ∙ value_at-same P (answers P B) (answers P (g ∷ B)) (names B) (answers-older g B c) (bind h.formals vs) h.body (body_among B (descending_rest P g B c) f h e''))
