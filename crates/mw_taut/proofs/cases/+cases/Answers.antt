-- What comes of a case is what is expected, and what is kept is proved.
use Rattle.std.proofs.Common.{◌≡◌, ℕ, nat_eq, cond, Some, ◌++◌, [], ◌∷◌, length, sym, ap, ap₂, ◌∙◌, subst, arith, rules, true, false, length-append}
use Rattle.std.specs.Option.{option_copied}
use Rattle.mw_model.specs.Terms.Term.{formula_object}
use Rattle.mw_heap.specs.Objects.{object_at}
use Rattle.mw_heap.proofs.Objects.{Grows-refl, Grows-trans, object_at-Grows, IsIn-Grows}
use Rattle.indexmap.specs.IndexMap.{get}
use Rattle.mw_taut.specs.declared.rule.TheConstants.{RESOLVED}
use Rattle.mw_taut.specs.Rules.{rule_made}
use Rattle.mw_taut.specs.Meaning.{IsEquation}
use Rattle.mw_taut.specs.Cases.{Proved, answer_at, step_at, choice_of, IsEntered, IsEnteredIn, IsOutcomeIn, IsPosed, Decides, DecidesWhere}
use Rattle.mw_taut.specs.Asking.{Settles, SettlesWhere}
use Rattle.mw_taut.proofs.CaseDecided.{longer_choice, carried_same, decided_carried}
use Rattle.mw_taut.proofs.Entering.{if_ok, middle}
use Rattle.mw_taut.proofs.Kept.{in_kept, question_kept}
use Rattle.mw_taut.proofs.Posed.{on_ok, proved_kept, next_posed, has_next, proof_kept}
use Rattle.mw_taut.proofs.Settling.{left_with, still_left, settled_first, settled_second, settled_both}
use Rattle.mw_taut.proofs.cases.+cases.Goals as goal

pub branch-enter-requires : goal.branch-enter-requires
branch-enter-requires t c =
    let w = c.requires.posed in
    record {
      at_in = c.requires.at_in;
      table_in = w.5.inside;
      next = (has_next c.args.arity.now c.args.heap.now.objects c.args.at.now.equations.now c.args.at.now.chosen.now c.args.at.now.formula w.0 w.1 (w.2 ∷ w.3) w.4).fewer;
    }

pub branch-returns-in-Ended : goal.branch-returns-in-Ended
branch-returns-in-Ended t c =
    let new = c.enter.new.heap.objects in
    record {
      grows = c.in_ok-outcome.ensures.grows;
      within = subst (IsEnteredIn new) c.in-Ended.is c.in_ok-outcome.ensures.within;
      proved = proved_kept c.args.arity.now c.args.heap.now.objects new c.in_ok-outcome.ensures.grows c.args.proved.now c.requires.proved;
      decides = λ F before E rest p table.
          subst (λ r. IsEntered c.args.arity.now (choice_of before c.args.at.now.chosen.now) E c.args.value rest F (step_at new r)) c.in-Ended.is (c.in_ok-outcome.ensures.entered c.args.arity.now F before E rest p table);
    }

pub branch-by_cases-requires : goal.branch-by_cases-requires
branch-by_cases-requires t c =
    let A = c.args.arity.now in
    let old = c.args.heap.now.objects in
    let h1 = c.enter.new.heap.objects in
    let grows = c.in_ok-outcome.ensures.grows in
    let s = c.in-Goes.s in
    let w = c.requires.posed in
    let entered = c.in_ok-outcome.ensures.entered A w.0 w.1 w.2 w.3 w.4 w.5 in
    let follows = subst (λ r. IsEntered A (choice_of w.1 c.args.at.now.chosen.now) w.2 c.args.value w.3 w.0 (step_at h1 r)) c.in-Goes.is entered in
    let within = subst (IsEnteredIn h1) c.in-Goes.is c.in_ok-outcome.ensures.within in
    let fewer = (has_next A old c.args.at.now.equations.now c.args.at.now.chosen.now c.args.at.now.formula w.0 w.1 (w.2 ∷ w.3) w.4).fewer in
    let longer = c.as_slice.ensures.value ∙ c.in_ok-longer-in-Goes.ensures in
    let count = ap length longer ∙ length-append c.args.at.now.chosen.now (c.args.value ∷ []) in
    let posed = next_posed A old h1 grows c.args.at.now.equations.now c.args.at.now.chosen.now c.args.at.now.formula s.formula c.args.value w.0 follows.0 w.1 w.2 w.3 (object_at h1 s.context) (object_at h1 s.from) c.requires.at_in.equations w.4 follows.1 in (
      omega (arith, count, fewer),
      record {
        at_in = record { formula = within.formula; equations = in_kept old h1 grows c.args.at.now.equations.now c.requires.at_in.equations };
        proved = proved_kept A old h1 grows c.args.proved.now c.requires.proved;
        posed = (follows.0, w.1 ++ w.2 ∷ [], w.3, subst (λ l. IsPosed A h1 c.args.at.now.equations.now l s.formula follows.0 (w.1 ++ w.2 ∷ []) w.3) (sym longer) posed);
      },
    )

pub branch-carried-requires : goal.branch-carried-requires
branch-carried-requires t c =
    let h1 = c.enter.new.heap.objects in
    let h2 = c.by_cases.new.heap.objects in
    let g2 = c.in_ok-outcome-in-Goes.ensures.grows in
    let s = c.in-Goes.s in
    let within = subst (IsEnteredIn h1) c.in-Goes.is c.in_ok-outcome.ensures.within in
    record {
      f_in = IsIn-Grows c.args.heap.now.objects h2 (Grows-trans _ h1 h2 c.in_ok-outcome.ensures.grows g2) c.args.at.now.formula c.requires.at_in.formula;
      s_in = record { context = IsIn-Grows h1 h2 g2 s.context within.context; formula = IsIn-Grows h1 h2 g2 s.formula within.formula; from = IsIn-Grows h1 h2 g2 s.from within.from };
      outcome_in = c.in_ok-outcome-in-Goes.ensures.within;
    }

pub branch-returns-in_ok-outcome-in-Goes : goal.branch-returns-in_ok-outcome-in-Goes
branch-returns-in_ok-outcome-in-Goes t c =
    let A = c.args.arity.now in
    let old = c.args.heap.now.objects in
    let h1 = c.enter.new.heap.objects in
    let h2 = c.by_cases.new.heap.objects in
    let h3 = c.carried.new.heap.objects in
    let g1 = c.in_ok-outcome.ensures.grows in
    let g2 = c.in_ok-outcome-in-Goes.ensures.grows in
    let s = c.in-Goes.s in
    let b = c.args.value in
    let chosen = c.args.at.now.chosen.now in
    let o = c.in_ok-outcome-in-Goes.outcome in
    let within = subst (IsEnteredIn h1) c.in-Goes.is c.in_ok-outcome.ensures.within in
    let longer = c.as_slice.ensures.value ∙ c.in_ok-longer-in-Goes.ensures in
    let at_f = object_at-Grows old h2 (Grows-trans old h1 h2 g1 g2) c.args.at.now.formula c.requires.at_in.formula in
    let at_d = object_at-Grows h1 h2 g2 s.context within.context in
    let at_y = object_at-Grows h1 h2 g2 s.formula within.formula in
    let at_q = object_at-Grows h1 h2 g2 s.from within.from in
    record {
      grows = Grows-trans old h2 h3 (Grows-trans old h1 h2 g1 g2) c.carried.ensures.grows;
      within = c.carried.ensures.within;
      proved = on_ok c.carried.result (proved_kept A h2 h3 c.carried.ensures.grows c.by_cases.new.proved c.in_ok-outcome-in-Goes.ensures.proved);
      decides =
          if_ok _ _ c.carried.result c.carried.ensures.made (λ r made F before E rest p table.
          let entered = subst (λ r. IsEntered A (choice_of before chosen) E b rest F (step_at h1 r)) c.in-Goes.is (c.in_ok-outcome.ensures.entered A F before E rest p table) in
          let H = entered.0 in
          let posed = next_posed A old h1 g1 c.args.at.now.equations.now chosen c.args.at.now.formula s.formula b F H before E rest (object_at h1 s.context) (object_at h1 s.from) c.requires.at_in.equations p entered.1 in
          let expected = c.in_ok-outcome-in-Goes.ensures.decides H (before ++ E ∷ []) rest (subst (λ l. IsPosed A h1 c.args.at.now.equations.now l s.formula H (before ++ E ∷ []) rest) (sym longer) posed) in
          let expected_here = subst (λ z. Decides A z rest H (answer_at h2 o)) (ap (choice_of (before ++ E ∷ [])) longer ∙ longer_choice before chosen E b p.many) expected in
          let done = decided_carried A F before E rest b chosen p.apart (middle IsEquation before E rest p.all) p.many (object_at h1 s.context) (object_at h1 s.formula) (object_at h1 s.from) H (answer_at h2 o) entered.1 expected_here in
          let same = made ∙ carried_same (object_at h2 s.context) (object_at h1 s.context) (object_at h2 c.args.at.now.formula) (formula_object F) (object_at h2 s.formula) (object_at h1 s.formula) (object_at h2 s.from) (object_at h1 s.from) (answer_at h2 o) at_d (at_f ∙ p.object) at_y at_q in
          subst (DecidesWhere A (choice_of before chosen) E b rest F) (sym same) done);
    }

pub by_cases-returns-in-Some : goal.by_cases-returns-in-Some
by_cases-returns-in-Some t c =
    let old = c.args.heap.now.objects in
    let known = c.requires.proved c.args.at.now.formula c.in-Some.p.now (sym c.get.ensures.value ∙ ap option_copied c.in-Some.is) in
    record { grows = Grows-refl old; within = known.1; proved = c.requires.proved; decides = λ F before rest p. known.2 F p.object p.formed }

pub by_cases-table_of-requires : goal.by_cases-table_of-requires
by_cases-table_of-requires t c =
    let w = c.requires.posed in
    record { within = c.requires.at_in.formula; formula = (c.args.arity.now, w.0, w.3.object, w.3.formed) }

pub by_cases-branch-heap-requires : goal.by_cases-branch-heap-requires
by_cases-branch-heap-requires t c =
    let A = c.args.arity.now in
    let left = left_with A c.args.heap.now.objects c.args.at.now c.in_ok-table.table (c.in_ok-table.ensures A) c.requires.posed in
    (omega (arith, c.decreases), record { at_in = c.requires.at_in; proved = c.requires.proved; posed = left })

pub by_cases-returns-in_default-without : goal.by_cases-returns-in_default-without
by_cases-returns-in_default-without t c =
    let A = c.args.arity.now in
    let made = c.in_ok-without.ensures in
    record {
      grows = made.grows;
      within = made.within;
      proved = made.proved;
      decides = settled_first A c.args.heap.now.objects c.args.at.now c.in_ok-table.table (c.in_ok-table.ensures A) c.branch-heap.new.heap.objects c.in_ok-without.without c.in_default-without.not-Proof made.decides;
    }

pub by_cases-branch-heap-requires-2 : goal.by_cases-branch-heap-requires-2
by_cases-branch-heap-requires-2 t c =
    let A = c.args.arity.now in
    let old = c.args.heap.now.objects in
    let h1 = c.branch-heap.new.heap.objects in
    let g1 = c.in_ok-without.ensures.grows in
    let at = c.args.at.now in
    let table = c.in_ok-table.table in
    let left = still_left A old at table h1 g1 c.requires.at_in (left_with A old at table (c.in_ok-table.ensures A) c.requires.posed) in
    (omega (arith, c.decreases), record { at_in = question_kept old h1 g1 at c.requires.at_in; proved = c.in_ok-without.ensures.proved; posed = left })

pub by_cases-returns-in_default-with : goal.by_cases-returns-in_default-with
by_cases-returns-in_default-with t c =
    let A = c.args.arity.now in
    let old = c.args.heap.now.objects in
    let h1 = c.branch-heap.new.heap.objects in
    let g1 = c.in_ok-without.ensures.grows in
    let at = c.args.at.now in
    let table = c.in_ok-table.table in
    let made = c.in_ok-with.ensures in
    let first = subst (λ o. SettlesWhere A old at table false (answer_at h1 o)) c.in-Proof.is c.in_ok-without.ensures.decides in
    record {
      grows = Grows-trans old h1 c.branch-heap-2.new.heap.objects g1 made.grows;
      within = made.within;
      proved = made.proved;
      decides = settled_second A old at table (c.in_ok-table.ensures A) h1 g1 c.requires.at_in (object_at h1 c.in-Proof.p) first c.branch-heap-2.new.heap.objects c.in_ok-with.with c.in_default-with.not-Proof made.decides;
    }

pub by_cases-apply-requires : goal.by_cases-apply-requires
by_cases-apply-requires t c =
    let h1 = c.branch-heap.new.heap.objects in
    let h2 = c.branch-heap-2.new.heap.objects in
    let g2 = c.in_ok-with.ensures.grows in
    let f_in = IsIn-Grows c.args.heap.now.objects h2 (Grows-trans _ h1 h2 c.in_ok-without.ensures.grows g2) c.args.at.now.formula c.requires.at_in.formula in
    let p_in = IsIn-Grows h1 h2 g2 c.in-Proof.p (subst (IsOutcomeIn h1) c.in-Proof.is c.in_ok-without.ensures.within) in
    (f_in, (p_in, (subst (IsOutcomeIn h2) c.in-Proof-with.is c.in_ok-with.ensures.within, tt)))

pub by_cases-returns : goal.by_cases-returns
by_cases-returns t c =
    let A = c.args.arity.now in
    let old = c.args.heap.now.objects in
    let h1 = c.branch-heap.new.heap.objects in
    let h2 = c.branch-heap-2.new.heap.objects in
    let h3 = c.apply.new.heap.objects in
    let g1 = c.in_ok-without.ensures.grows in
    let g2 = c.in_ok-with.ensures.grows in
    let g3 = c.in_ok-proof.ensures.grows in
    let to_h2 = Grows-trans old h1 h2 g1 g2 in
    let to_h3 = Grows-trans old h2 h3 to_h2 g3 in
    let at = c.args.at.now in
    let table = c.in_ok-table.table in
    let f = at.formula in
    let p = c.in-Proof.p in
    let q = c.in-Proof-with.q in
    let had = c.branch-heap-2.new.proved in
    let proof = c.in_ok-proof.proof in
    let first = subst (λ o. SettlesWhere A old at table false (answer_at h1 o)) c.in-Proof.is c.in_ok-without.ensures.decides in
    let second = subst (λ o. SettlesWhere A h1 at table true (answer_at h2 o)) c.in-Proof-with.is c.in_ok-with.ensures.decides in
    let p_in = subst (IsOutcomeIn h1) c.in-Proof.is c.in_ok-without.ensures.within in
    let same = c.in_ok-proof.ensures.made ∙ ap₂ (λ x y. rule_made RESOLVED (x ∷ y ∷ object_at h2 q ∷ [])) (object_at-Grows old h2 to_h2 f c.requires.at_in.formula) (object_at-Grows h1 h2 g2 p p_in) in
    let settles = settled_both A old at table (c.in_ok-table.ensures A) h1 g1 c.requires.at_in (object_at h1 p) first (object_at h2 q) second in
    let decides = subst (λ x. Settles A old at (Proved x)) (sym same) settles in
    let w = c.requires.posed in
    let keeps : (g : ℕ) → get nat_eq c.insert.new.self g ≡ cond (nat_eq f g) (Some proof) (get nat_eq had g) = search rules in
    record {
      grows = to_h3;
      within = c.in_ok-proof.ensures.within;
      proved = proof_kept A h3 had c.insert.new.self f proof w.0 (proved_kept A h2 h3 g3 had c.in_ok-with.ensures.proved) keeps (IsIn-Grows old h3 to_h3 f c.requires.at_in.formula) c.in_ok-proof.ensures.within
          (object_at-Grows old h3 to_h3 f c.requires.at_in.formula ∙ w.3.object) w.3.formed (decides w.0 w.1 w.2 w.3);
      decides = decides;
    }
