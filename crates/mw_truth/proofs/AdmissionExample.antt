-- The premises of the law of admission are not empty: they hold of a recursive function over the built-in definitions.
use Rattle.std.proofs.Common.{◌≡◌, ◌+◌, true, false, ltb, List, [], ◌∷◌, refl, sym, ap, ap₂, ◌∙◌, subst, arith, lt-ltb}
use Rattle.std.proofs.lemmas.Bool.{and_from}
use Rattle.mw_model.specs.Terms.Object.{Object, Natural, Symbol, Pair, named, NIL, T, truth_of, cdr}
use Rattle.mw_model.specs.Terms.Term.{IsTerm, Term, Constant, If, Equal, Or}
use Rattle.mw_model.specs.Values.Primitive.{Profile, One, Two, number, is_pair}
use Rattle.mw_model.specs.Values.Definition.{Function, Functions, IsWellMade, arities, is_block, are_blocks}
use Rattle.mw_model.specs.Values.Value.{Environment, lookup, HasValue, block_calls, IsTotal}
use Rattle.mw_model.specs.Values.Truth.{IsTrueIn, AreTrueIn}
use Rattle.mw_model.specs.Events.Obligation.{Measures, ordinal_formula, below_formula, obligations}
use Rattle.mw_model.specs.Events.Writing.{var, call}
use Rattle.mw_model.specs.BuiltIns.BuiltIn.{built_in, built_in_definitions}
use Rattle.mw_descent.proofs.Computed.{ord_less_exact, ordp_exact}
use Rattle.mw_model.proofs.BuiltInRead.{well_made}
use Rattle.mw_model.proofs.BuiltInValue.{pairs}
use Rattle.mw_model.proofs.BuiltInAnswers.{built_in_functions, answer, answer-body}
use Rattle.mw_model.proofs.BuiltInTotal.{begun_value, built_in_begins, built_in_total}
use Rattle.mw_truth.specs.Admitted.{IsAdmissible, with_block}
use Rattle.mw_truth.proofs.Admits.{block_total}

-- (define last-cdr (x) (if (consp x) (last-cdr (cdr x)) x) (rank x) ..)
abbrev last_cdr : List Function
last_cdr = record { name = named "LAST-CDR"; formals = named "X" ∷ []; body = If (call "CONSP" (var "X" ∷ [])) (call "LAST-CDR" (call "CDR" (var "X" ∷ []) ∷ [])) (var "X") } ∷ []

abbrev by_rank : Measures
by_rank = (named "LAST-CDR", call "RANK" (var "X" ∷ [])) ∷ []

-- what it owes
two_owed : obligations last_cdr by_rank ≡ ordinal_formula (call "RANK" (var "X" ∷ [])) ∷ Or (Equal (call "CONSP" (var "X" ∷ [])) (Constant NIL)) (below_formula (call "RANK" (call "CDR" (var "X" ∷ []) ∷ [])) (call "RANK" (var "X" ∷ []))) ∷ []
two_owed = refl

module _ (P : Profile) where
  rank_answer : (x : Object) → answer P "RANK" (x ∷ []) ≡ Natural (pairs x)
  rank_answer (Natural n) = answer-body P "RANK" (Natural n ∷ [])
  rank_answer (Symbol s) = answer-body P "RANK" (Symbol s ∷ [])
  rank_answer (Pair a b) = answer-body P "RANK" (Pair a b ∷ []) ∙ (ap₂ (λ u v. Natural (1 + (number u + number v))) (rank_answer a) (rank_answer b) ∙ ap Natural (omega arith))

  rank_call : (x : Object) → block_calls P (built_in P) (named "RANK") (x ∷ []) (Natural (pairs x))
  unfolding built_in_functions
  rank_call x = subst (block_calls P (built_in P) (named "RANK") (x ∷ [])) (rank_answer x) (begun_value P (built_in P) (well_made P) (built_in_begins P) (named "RANK") refl (x ∷ []))

  rank_value : (e : Environment) (t : Term) (x : Object) → HasValue P (block_calls P (built_in P)) e t x → HasValue P (block_calls P (built_in P)) e (call "RANK" (t ∷ [])) (Natural (pairs x))
  rank_value e t x h = (x ∷ [], (x, [], refl, h, refl), rank_call x)

  ordinal_true : IsTrueIn (built_in_definitions P) (ordinal_formula (call "RANK" (var "X" ∷ [])))
  ordinal_true e k =
      let x = lookup e (named "X") in
      let n = Natural (pairs x) in
      k T (n ∷ [], (n, [], refl, rank_value e (var "X") x refl, refl), (ordp_exact P (built_in P) (well_made P) (built_in_begins P) n T).1 refl) refl

  cdr_value : (e : Environment) → HasValue P (block_calls P (built_in P)) e (call "CDR" (var "X" ∷ [])) (cdr (lookup e (named "X")))
  cdr_value e = (lookup e (named "X") ∷ [], (lookup e (named "X"), [], refl, refl, refl), refl)

  consp_value : (e : Environment) → HasValue P (block_calls P (built_in P)) e (call "CONSP" (var "X" ∷ [])) (truth_of (is_pair (lookup e (named "X"))))
  consp_value e = (lookup e (named "X") ∷ [], (lookup e (named "X"), [], refl, refl, refl), refl)

  -- the rest of a pair has a smaller rank
  falls_true : IsTrueIn (built_in_definitions P) (Or (Equal (call "CONSP" (var "X" ∷ [])) (Constant NIL)) (below_formula (call "RANK" (call "CDR" (var "X" ∷ []) ∷ [])) (call "RANK" (var "X" ∷ []))))
  falls_true e no_left no_right = go (lookup e (named "X")) refl
    where
      left : is_pair (lookup e (named "X")) ≡ false → ⊥
      left h = no_left (λ k. k NIL (subst (λ b. HasValue P (block_calls P (built_in P)) e (call "CONSP" (var "X" ∷ [])) (truth_of b)) h (consp_value e)) refl)

      right : ltb (pairs (cdr (lookup e (named "X")))) (pairs (lookup e (named "X"))) ≡ true → ⊥
      right h =
          let x = lookup e (named "X") in
          let m = Natural (pairs (cdr x)) in
          let n = Natural (pairs x) in
          no_right (λ k.
          k T (m ∷ n ∷ [], (m, n ∷ [], refl, rank_value e (call "CDR" (var "X" ∷ [])) (cdr x) (cdr_value e), (n, [], refl, rank_value e (var "X") x refl, refl)), (ord_less_exact P (built_in P) (well_made P) (built_in_begins P) m n T).1 (ap truth_of (sym h))) refl)

      go : (x : Object) → lookup e (named "X") ≡ x → ⊥
      go (Natural n) q = left (ap is_pair q)
      go (Symbol s) q = left (ap is_pair q)
      go (Pair a b) q = right (ap (λ x. ltb (pairs (cdr x)) (pairs x)) q ∙ lt-ltb (pairs b) (pairs (Pair a b)) (omega arith))

  made : IsWellMade (with_block (built_in_definitions P) (Functions last_cdr))
  made = and_from (is_block (arities P (built_in P)) (Functions last_cdr)) (are_blocks P (built_in P)) (block P) (well_made P)
    where
      block : (P : Profile) → is_block (arities P (built_in P)) (Functions last_cdr) ≡ true
      block One = refl
      block Two = refl

  measured : (P : Profile) → IsTerm (arities P (built_in P)) (call "RANK" (var "X" ∷ []))
  measured One = refl
  measured Two = refl

  pub last_cdr-admissible : IsAdmissible (built_in_definitions P) last_cdr by_rank
  last_cdr-admissible = record {
    made = made;
    begun = built_in_begins P;
    total = built_in_total P;
    measured = ((measured P, refl), tt);
    flat = refl;
    owed = subst (AreTrueIn (built_in_definitions P)) (sym two_owed) (ordinal_true, (falls_true, tt));
  }

-- so it is total
pub last_cdr-total : (P : Profile) → IsTotal (with_block (built_in_definitions P) (Functions last_cdr))
last_cdr-total P = block_total P (built_in P) last_cdr by_rank (last_cdr-admissible P)
