-- The tests of a block, from its formals on.
use Rattle.std.proofs.Common.{◌≡◌, ℕ, true, false, List, length, map, Option, Some, None, sym, ap, ap₂, ◌∙◌, subst, true≢false, ltb-true, ltb-false}
use Rattle.mw_model.specs.Terms.Object.{Name, Object}
use Rattle.mw_model.specs.Terms.Term.{Term, ArityTable}
use Rattle.std.specs.Option.{option_zip}
use Rattle.mw_model.specs.Values.Definition.{function_axiom}
use Rattle.mw_model.specs.Events.Obligation.{obligations, is_nested}
use Rattle.mw_model.specs.Events.Expansion.{expand}
use Rattle.mw_model.specs.Events.Admission.{Draft, all_of, formals_of, add_names, functions, measures}
use Rattle.mw_model.specs.Events.Refusal.{Refusal, FORMALS, TERM, VARIABLES, NESTED}
use Rattle.mw_model.specs.Laws.RulesInduction.{formulas_object}
use Rattle.mw_model.proofs.ReadBack.{some_one}
use Rattle.mw_heap.specs.Objects.{Grows}
use Rattle.mw_heap.specs.Variants.{refusal_of}
use Rattle.mw_term.specs.Parts.{names_at, AreSymbols}
use Rattle.mw_translate.specs.Expands.{with_pairs}
use Rattle.mw_define.specs.declared.draft.Draft.{Draft as Given}
use Rattle.mw_define.specs.declared.admitted.Admitted.{Admitted}
use Rattle.mw_define.specs.declared.admitted.Admitted.TheVariants as admitted
use Rattle.mw_define.specs.declared.admitted.Owed.{Owed}
use Rattle.mw_define.specs.Blocks.{draft_at, AreDraftsIn, draft_names, formals_of_drafts, Each2, IsCounted, Expands, HasNoTerm, AreNames, functions_at}
use Rattle.mw_define.specs.Owed.{AreBlock, is_past, obligation_count}
use Rattle.mw_define.specs.BlockTests.{FailsBlock, no_formals, no_terms, not_closed, nested, IsWithin, IsPast, PassesBlock, FailsWithin, fails, too_many, IsBlock, IsBlockOf, IsBlockWithin, IsBlockOfWithin, PassesExpanded, FailsExpanded, not_closed_at, nested_at, too_many_at, IsExpandedBlock, IsFunctionEntry, the_names, the_formal_lists, the_terms_under}
use Rattle.mw_define.proofs.BlockRead.{of-drafts, names-are, AreCounted, counted, no-terms, bodies_at, terms_at, terms-are, AreRead, read, block-is, closed-all, entries-are}

-- by the test of the bound
past-bound : (most : Option ℕ) (n : ℕ) → is_past most n ≡ true → IsPast most n
past-bound None n h = absurd (true≢false (sym h))
past-bound (Some most) n h = ltb-true most n h

within-bound : (most : Option ℕ) (n : ℕ) → is_past most n ≡ false → IsWithin most n
within-bound None n h = tt
within-bound (Some most) n h = ltb-false most n h

-- where there is no bound
unbounded-fails : (A : ArityTable) (ds : List Draft) (r : Refusal) → FailsWithin None A ds r → FailsBlock A ds r
unbounded-fails A ds r (fails q k) = k
unbounded-fails A ds r (too_many fs xss bs ms a b c d e past) = absurd past

pub unbounded : (A : ArityTable) (ds : List Draft) (os : List Object) (o : Admitted) → IsBlockWithin None A ds os o → IsBlock A ds os o
unbounded A ds os (admitted.Obligations owed) h = h.passes
unbounded A ds os (admitted.Refused r) h = unbounded-fails A ds (refusal_of r) h
unbounded A ds os admitted.Memory h = tt

pub unbounded-list : (A : ArityTable) (given : Option (List Draft)) (os : List Object) (o : Admitted) → IsBlockOfWithin None A given os o → IsBlockOf A given os o
unbounded-list A None os o h = h
unbounded-list A (Some ds) os o h = unbounded A ds os o h

module _ (A : ArityTable) (old : List Object) (ds : List Given) (rs : List ℕ) (within : AreDraftsIn old ds) (n : AreNames A old ds rs) where
  abbrev fs : List Name
  fs = names_at old (draft_names ds)

  named : the_names A (map (draft_at old) ds) ≡ Some fs
  named = names-are A old ds rs n ∙ ap (λ l. Some (names_at old l)) n.refs

  pub fails-formals : formals_of_drafts old ds ≡ None → FailsBlock A (map (draft_at old) ds) FORMALS
  fails-formals h = no_formals fs named (of-drafts formals_of (λ d. d.formals) old ds ∙ h)

  module _ (ps : List (ℕ × ℕ)) (c : Each2 (IsCounted old) ds ps) where
    abbrev k : AreCounted old ds ps
    k = counted old ds ps c

    -- the bodies are expanded under the names with their formals
    under : (xss : List (List Name)) → formals_of_drafts old ds ≡ Some xss → with_pairs old ps A ≡ add_names fs xss A
    under xss e = k.pairs A ∙ ap (λ yss. add_names fs yss A) (some_one (sym k.are ∙ e))

    pub fails-terms : HasNoTerm (with_pairs old ps A) A old ds → FailsBlock A (map (draft_at old) ds) TERM
    fails-terms h =
        no_terms fs k.formals named (of-drafts formals_of (λ d. d.formals) old ds ∙ k.are)
        (ap (λ N. option_zip (all_of (expand N) (map (λ d. d.body) (map (draft_at old) ds))) (all_of (expand A) (map (λ d. d.measure) (map (draft_at old) ds)))) (sym (under k.formals k.are))
        ∙ no-terms (with_pairs old ps A) A old ds h)

    module _ (mid : List Object) (es : List Given) (g : Grows old mid) (x : Each2 (Expands (with_pairs old ps A) A old mid) ds es) where
      abbrev r : AreRead (with_pairs old ps A) A old mid g ds es
      r = read (with_pairs old ps A) A old mid g ds es ps within (subst (AreSymbols old) n.refs n.symbols) c x

      pub is-block : AreBlock mid rs es
      is-block = block-is A old mid ds es rs g n r.expanded r.same_names

      abbrev bs : List Term
      bs = bodies_at (with_pairs old ps A) A old mid g es

      abbrev ms : List Term
      ms = terms_at (with_pairs old ps A) A old mid g es

      formals : the_formal_lists A (map (draft_at old) ds) ≡ Some r.formals
      formals = of-drafts formals_of (λ d. d.formals) old ds ∙ r.are_formals

      terms : the_terms_under A (map (draft_at old) ds) fs r.formals ≡ Some (bs, ms)
      terms =
          ap (λ N. option_zip (all_of (expand N) (map (λ d. d.body) (map (draft_at old) ds))) (all_of (expand A) (map (λ d. d.measure) (map (draft_at old) ds)))) (sym (under r.formals r.are_formals))
          ∙ terms-are (with_pairs old ps A) A old mid g ds es x

      -- the last tests decide
      counted-same : obligation_count mid es ≡ length (obligations (functions fs r.formals bs) (measures fs ms))
      counted-same = ap₂ (λ B M. length (obligations B M)) r.functions_are r.measures_are

      tested-passes : (most : Option ℕ) (new : List Object) → Grows mid new → (owed : Owed) → PassesExpanded most mid new es owed → PassesBlock A (map (draft_at old) ds) new owed
      tested-passes most new h owed p =
          let same : (functions_at mid es ≡ functions fs r.formals bs) = r.functions_are in
          record {
            names = fs;
            formals = r.formals;
            bodies = bs;
            measures_of = ms;
            are_new = named;
            are_formals = formals;
            expand = terms;
            closed = sym r.closed ∙ closed-all mid es owed.entries.items p.entries;
            flat = sym (ap (λ B. is_nested B B) same) ∙ p.obligations.flat;
            obligations_in = p.obligations.within;
            obligations = p.obligations.obligations ∙ ap₂ (λ B M. formulas_object (obligations B M)) same r.measures_are;
            axioms_in = p.axioms_in;
            axioms = p.axioms ∙ ap (λ B. formulas_object (map function_axiom B)) same;
            entries = subst (λ B. Each2 (IsFunctionEntry new) B owed.entries.items) same (entries-are mid new es owed.entries.items h r.expanded p.entries);
          }

      tested-fails : (most : Option ℕ) (q : Refusal) → FailsExpanded most mid es q → FailsWithin most A (map (draft_at old) ds) q
      tested-fails most q (not_closed_at c) = fails VARIABLES (not_closed fs r.formals bs ms named formals terms (sym r.closed ∙ c))
      tested-fails most q (nested_at c n) = fails NESTED (nested fs r.formals bs ms named formals terms (sym r.closed ∙ c) (sym (ap (λ B. is_nested B B) r.functions_are) ∙ n))
      tested-fails most q (too_many_at c n m) =
          too_many fs r.formals bs ms named formals terms (sym r.closed ∙ c) (sym (ap (λ B. is_nested B B) r.functions_are) ∙ n)
          (past-bound most (length (obligations (functions fs r.formals bs) (measures fs ms))) (ap (is_past most) (sym counted-same) ∙ m))

      pub block-tested : (most : Option ℕ) (new : List Object) → Grows mid new → (o : Admitted) → IsExpandedBlock most mid new es o → IsBlockWithin most A (map (draft_at old) ds) new o
      unfolding tested-passes
      block-tested most new h (admitted.Obligations owed) p = record {
        passes = tested-passes most new h owed p;
        few = within-bound most (length (obligations (functions fs r.formals bs) (measures fs ms))) (ap (is_past most) (sym counted-same) ∙ p.obligations.few);
      }
      block-tested most new h (admitted.Refused q) p = tested-fails most (refusal_of q) p
      block-tested most new h admitted.Memory p = tt
