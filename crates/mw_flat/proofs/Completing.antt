-- What completing a proof comes to, told of objects: the proofs that it is made of are gathered, each once.
use Rattle.std.proofs.Common.{◌≡◌, ℕ, append-nil, append_assoc, Bool, true, false, ◌||◌, cond, if◌then◌else◌, List, [], ◌∷◌, ◌++◌, ◌⊎◌, inl, inr, refl, sym, ap, ◌∙◌, subst}
use Rattle.indexmap.specs.IndexSet.{insert_key}
use Rattle.mw_model.specs.Terms.Object.{Object, Natural, Symbol, Pair, same_object, third_of}
use Rattle.mw_model.proofs.Names.{same_object-eq, same_object-refl}
use Rattle.mw_commands.specs.Commands.Subproofs.{proofs_within, each_within}
use Rattle.mw_heap.specs.Objects.{object_at}
use Rattle.mw_heap.specs.Lists.{list_object}
use Rattle.mw_term.specs.Occurrences.{gather}
use Rattle.mw_term.proofs.Gathered.{among_cases, gather-append, gather-keeps, gather-has, gather-known}
use Rattle.mw_flat.specs.Walk.{is_listed, AreListed}
use Rattle.mw_flat.proofs.Listed.{listing}

-- the proofs and the lists of proofs that are complete
pub record Known : Type 0 where
  pub proofs : List Object
  pub lists : List Object

abbrev pub with_proof : Object → Known → Known
with_proof p k = record { proofs = insert_key same_object k.proofs p; lists = k.lists }

abbrev pub with_list : Object → Known → Known
with_list ps k = record { proofs = k.proofs; lists = insert_key same_object k.lists ps }

-- what is known once a proof is complete, and once those of a list are
abbrev mutual
  pub add_proof : Object → Known → Known
  add_proof (Pair m (Pair c (Pair ps x))) k = if is_listed (Pair m (Pair c (Pair ps x))) k.proofs then k else with_proof (Pair m (Pair c (Pair ps x))) (add_proofs ps k)
  add_proof p k = if is_listed p k.proofs then k else with_proof p k

  pub add_proofs : Object → Known → Known
  add_proofs (Pair p ps) k = if is_listed (Pair p ps) k.lists then k else with_list (Pair p ps) (add_proofs ps (add_proof p k))
  add_proofs _ k = k

pub add_proof-is : (p : Object) (k : Known) → add_proof p k ≡ (if is_listed p k.proofs then k else with_proof p (add_proofs (third_of p) k))
add_proof-is (Natural n) k = refl
add_proof-is (Symbol s) k = refl
add_proof-is (Pair m (Natural n)) k = refl
add_proof-is (Pair m (Symbol s)) k = refl
add_proof-is (Pair m (Pair c (Natural n))) k = refl
add_proof-is (Pair m (Pair c (Symbol s))) k = refl
add_proof-is (Pair m (Pair c (Pair ps x))) k = refl

proofs_within-is : (p : Object) → proofs_within p ≡ each_within (third_of p) ++ p ∷ []
proofs_within-is (Natural n) = refl
proofs_within-is (Symbol s) = refl
proofs_within-is (Pair m (Natural n)) = refl
proofs_within-is (Pair m (Symbol s)) = refl
proofs_within-is (Pair m (Pair c (Natural n))) = refl
proofs_within-is (Pair m (Pair c (Symbol s))) = refl
proofs_within-is (Pair m (Pair c (Pair ps x))) = refl

-- whatever is complete has all that it is made of among the proofs
pub record IsClosed (k : Known) : Type 0 where
  pub made : (x : Object) → is_listed x k.proofs ≡ true → AreListed k.proofs (proofs_within x)
  pub each : (x : Object) → is_listed x k.lists ≡ true → AreListed k.proofs (each_within x)

-- the proofs of a list came to what was known
pub record Adds (old new : Known) (ys : List Object) : Type 0 where
  pub closed : IsClosed new
  pub gathers : new.proofs ≡ gather is_listed old.proofs ys

-- ---- what is on the list after an object is put there

insert_is : (xs : List Object) (x : Object) → gather is_listed xs (x ∷ []) ≡ insert_key same_object xs x
insert_is xs x = go (is_listed x xs)
  where
    go : (b : Bool) → cond b xs (xs ++ x ∷ []) ≡ (if b then xs else xs ++ x ∷ [])
    go true = refl
    go false = refl

insert_keeps : (xs : List Object) (x z : Object) → is_listed z xs ≡ true → is_listed z (insert_key same_object xs x) ≡ true
insert_keeps xs x z h = subst (λ l. is_listed z l ≡ true) (insert_is xs x) (gather-keeps listing xs (x ∷ []) z h)

one_listed : (x z : Object) → is_listed z (x ∷ []) ≡ true → z ≡ x
one_listed x z h = go (same_object z x) refl h
  where
    go : (b : Bool) → same_object z x ≡ b → is_listed z (x ∷ []) ≡ true → z ≡ x
    go true e h = same_object-eq z x e
    go false e h = cc

insert_has : (xs : List Object) (x : Object) → is_listed x (insert_key same_object xs x) ≡ true
insert_has xs x = subst (λ l. is_listed x l ≡ true) (insert_is xs x) (gather-has listing xs (x ∷ []) x (ap (λ b. b || false) (same_object-refl x)))

insert_cases : (xs : List Object) (x z : Object) → is_listed z (insert_key same_object xs x) ≡ true → (is_listed z xs ≡ true) ⊎ (z ≡ x)
insert_cases xs x z h = go (is_listed x xs) h
  where
    go : (b : Bool) → is_listed z (if b then xs else xs ++ x ∷ []) ≡ true → (is_listed z xs ≡ true) ⊎ (z ≡ x)
    go true h = inl h
    go false h = elim (among_cases listing z xs (x ∷ []) h) [ inl l ↦ inl l | inr e ↦ inr (one_listed x z e) ]

-- ---- completing

adds_nothing : (k : Known) (ys : List Object) → IsClosed k → AreListed k.proofs ys → Adds k k ys
adds_nothing k ys c h = record { closed = c; gathers = sym (gather-known listing k.proofs ys h) }

adds_both : (a b c : Known) (xs ys : List Object) → Adds a b xs → Adds b c ys → Adds a c (xs ++ ys)
adds_both a b c xs ys f g = record { closed = g.closed; gathers = g.gathers ∙ (ap (λ l. gather is_listed l ys) f.gathers ∙ sym (gather-append listing a.proofs xs ys)) }

all_gathered : (old new : Known) (ys : List Object) → Adds old new ys → AreListed new.proofs ys
all_gathered old new ys a z h = subst (λ l. is_listed z l ≡ true) (sym a.gathers) (gather-has listing old.proofs ys z h)

-- the proof p once its subproofs are complete
adds_proof : (p : Object) (old new : Known) → Adds old new (each_within (third_of p)) → Adds old (with_proof p new) (proofs_within p)
adds_proof p old new a = record {
  closed = record {
    made = λ x h. elim (insert_cases new.proofs p x h) [
      | inl l ↦ λ z m. insert_keeps new.proofs p z (a.closed.made x l z m)
      | inr e ↦ subst (λ y. AreListed (insert_key same_object new.proofs p) (proofs_within y)) (sym e) itself
    ];
    each = λ x h z m. insert_keeps new.proofs p z (a.closed.each x h z m);
  };
  gathers =
      sym (insert_is new.proofs p)
      ∙ (ap (λ l. gather is_listed l (p ∷ [])) a.gathers
      ∙ (sym (gather-append listing old.proofs (each_within (third_of p)) (p ∷ [])) ∙ ap (gather is_listed old.proofs) (sym (proofs_within-is p))));
}
  where
    itself : AreListed (insert_key same_object new.proofs p) (proofs_within p)
    itself z m =
        elim (among_cases listing z (each_within (third_of p)) (p ∷ []) (subst (λ l. is_listed z l ≡ true) (proofs_within-is p) m)) [
          | inl l ↦ insert_keeps new.proofs p z (all_gathered old new (each_within (third_of p)) a z l)
          | inr e ↦ subst (λ y. is_listed y (insert_key same_object new.proofs p) ≡ true) (sym (one_listed p z e)) (insert_has new.proofs p)
        ]

-- the list once its proofs are complete
adds_list : (ps : Object) (old new : Known) → Adds old new (each_within ps) → Adds old (with_list ps new) (each_within ps)
adds_list ps old new a = record {
  closed = record {
    made = a.closed.made;
    each = λ x h. elim (insert_cases new.lists ps x h) [
      | inl l ↦ a.closed.each x l
      | inr e ↦ subst (λ y. AreListed new.proofs (each_within y)) (sym e) (all_gathered old new (each_within ps) a)
    ];
  };
  gathers = a.gathers;
}

proof_by : (p : Object) (k : Known) (b : Bool) → is_listed p k.proofs ≡ b → IsClosed k → (IsClosed k → Adds k (add_proofs (third_of p) k) (each_within (third_of p))) → Adds k (if b then k else with_proof p (add_proofs (third_of p) k)) (proofs_within p)
proof_by p k true e c subproofs = adds_nothing k (proofs_within p) c (c.made p e)
proof_by p k false e c subproofs = adds_proof p k (add_proofs (third_of p) k) (subproofs c)

list_by : (p ps : Object) (k : Known) (b : Bool) → is_listed (Pair p ps) k.lists ≡ b → IsClosed k → (IsClosed k → Adds k (add_proof p k) (proofs_within p)) → (IsClosed (add_proof p k) → Adds (add_proof p k) (add_proofs ps (add_proof p k)) (each_within ps)) → Adds k (if b then k else with_list (Pair p ps) (add_proofs ps (add_proof p k))) (each_within (Pair p ps))
list_by p ps k true e c first rest = adds_nothing k (each_within (Pair p ps)) c (c.each (Pair p ps) e)
list_by p ps k false e c first rest =
    let f = first c in
    adds_list (Pair p ps) k (add_proofs ps (add_proof p k)) (adds_both k (add_proof p k) (add_proofs ps (add_proof p k)) (proofs_within p) (each_within ps) f (rest f.closed))

no_proofs : (k : Known) → IsClosed k → Adds k k []
no_proofs k c = record { closed = c; gathers = refl }

mutual
  pub adds_by_proof : (p : Object) (k : Known) → IsClosed k → Adds k (add_proof p k) (proofs_within p)
  adds_by_proof (Pair m (Pair c (Pair ps x))) k h = proof_by (Pair m (Pair c (Pair ps x))) k (is_listed (Pair m (Pair c (Pair ps x))) k.proofs) refl h (adds_by_proofs ps k)
  adds_by_proof (Natural n) k h = proof_by (Natural n) k (is_listed (Natural n) k.proofs) refl h (no_proofs k)
  adds_by_proof (Symbol s) k h = proof_by (Symbol s) k (is_listed (Symbol s) k.proofs) refl h (no_proofs k)
  adds_by_proof (Pair m (Natural n)) k h = proof_by (Pair m (Natural n)) k (is_listed (Pair m (Natural n)) k.proofs) refl h (no_proofs k)
  adds_by_proof (Pair m (Symbol s)) k h = proof_by (Pair m (Symbol s)) k (is_listed (Pair m (Symbol s)) k.proofs) refl h (no_proofs k)
  adds_by_proof (Pair m (Pair c (Natural n))) k h = proof_by (Pair m (Pair c (Natural n))) k (is_listed (Pair m (Pair c (Natural n))) k.proofs) refl h (no_proofs k)
  adds_by_proof (Pair m (Pair c (Symbol s))) k h = proof_by (Pair m (Pair c (Symbol s))) k (is_listed (Pair m (Pair c (Symbol s))) k.proofs) refl h (no_proofs k)

  pub adds_by_proofs : (ps : Object) (k : Known) → IsClosed k → Adds k (add_proofs ps k) (each_within ps)
  adds_by_proofs (Pair p ps) k h = list_by p ps k (is_listed (Pair p ps) k.lists) refl h (adds_by_proof p k) (adds_by_proofs ps (add_proof p k))
  adds_by_proofs (Natural n) k h = no_proofs k h
  adds_by_proofs (Symbol s) k h = no_proofs k h

-- the proofs of a list with one proof more
pub each_within-push : (os : List Object) (refs : List ℕ) (r : ℕ) → each_within (list_object os (refs ++ r ∷ [])) ≡ each_within (list_object os refs) ++ proofs_within (object_at os r)
each_within-push os [] r = append-nil (proofs_within (object_at os r))
each_within-push os (q ∷ refs) r = ap (λ l. proofs_within (object_at os q) ++ l) (each_within-push os refs r) ∙ sym (append_assoc (proofs_within (object_at os q)) (each_within (list_object os refs)) (proofs_within (object_at os r)))
