-- What is kept is that of the initial theory.
use Rattle.std.proofs.Common.{None, refl, ap, ◌∙◌}
use Rattle.mw_model.specs.Terms.Term.{table_object}
use Rattle.mw_heap.specs.Variants.{profile_of}
use Rattle.mw_code.proofs.CallerLemmas.{stands-grows}
use Rattle.mw_preamble.specs.Admitted.{definitions_of}
use Rattle.mw_preamble.specs.Entries.{AreEntries}
use Rattle.mw_preamble.proofs.CallerLemmas.{AreEntries-grows}
use Rattle.mw_theory.specs.declared.theory.Theory.{Theory as Kept}
use Rattle.mw_theory.proofs.Initial.{begun_theory, begins, begun_initial}
use Rattle.mw_heap.proofs.Objects.{Grows-trans}
use Rattle.mw_theory.proofs.beginning.begin.Goals as goal

entered : (c : goal.After-drop-preamble-2) → AreEntries c.first_lists.new.heap.objects c.in_ok-preamble.preamble.definitions (definitions_of (profile_of c.args.profile)).blocks
entered c =
    AreEntries-grows c.admit_all.new.heap.objects c.first_lists.new.heap.objects c.first_lists.ensures.grows c.in_ok-preamble.preamble.definitions (definitions_of (profile_of c.args.profile)).blocks c.in_ok-preamble.ensures.definitions

made : goal.After-drop-preamble-2 → Kept
made c = record {
  profile = c.args.profile;
  known_axioms = c.first_lists.new.known;
  known_theorems = c.new.result;
  arity = c.in_ok-preamble.preamble.arity;
  watch = c.new-watch.result;
  axioms = c.in_ok-lists.lists.axioms;
  theorems = c.in_ok-lists.lists.theorems;
  arity_list = c.in_ok-lists.lists.arity_list;
  entries = c.in_ok-preamble.preamble.definitions;
  table = c.in_ok-preamble.preamble.table;
  checker = None;
  level = 1;
  is_initial = c.is_first.result;
}

pub returns-clause-theory : goal.returns-clause-theory
unfolding made
returns-clause-theory c =
    let lists = c.in_ok-lists.ensures in
    let P = profile_of c.args.profile in
    begun_initial c.first_lists.new.heap.objects (made c) P refl refl refl (entered c) (begun_theory P _ _ lists.axioms.1 lists.theorems.1) (c.initial_sound.ensures P)

pub returns-clause-held : goal.returns-clause-held
unfolding made
returns-clause-held c =
    let P = profile_of c.args.profile in
    let q = c.first_lists.new.heap.objects in
    let lists = c.in_ok-lists.ensures in
    let code = c.in_ok-preamble.preamble.table.value in
    begins q (made c) P refl refl refl (entered c) (begun_theory P _ _ lists.axioms.1 lists.theorems.1) (c.initial_sound.ensures P)
    lists.axioms.0
    lists.theorems.0
    lists.arity_list.0
    lists.each_axiom_in
    c.new.ensures
    lists.axioms_known
    (lists.arity_list.1 ∙ ap table_object c.in_ok-preamble.ensures.arity)
    c.in_ok-preamble.ensures.arity
    (stands-grows c.admit_all.new.heap.objects q c.first_lists.ensures.grows code.signature code.profile code.functions.items code.code.items code.kept (definitions_of P) c.in_ok-preamble.ensures.table)
    c.is_first.ensures

pub returns-in_err-lists-clause-grows : goal.returns-in_err-lists-clause-grows
returns-in_err-lists-clause-grows c = Grows-trans _ _ _ c.in_ok-preamble.ensures.grows c.first_lists.ensures.grows

pub returns-clause-grows : goal.returns-clause-grows
returns-clause-grows c = Grows-trans _ _ _ c.in_ok-preamble.ensures.grows c.first_lists.ensures.grows

pub returns-clause-watched : goal.returns-clause-watched
returns-clause-watched c = c.new-watch.ensures c.in_ok-preamble.preamble.arity c.first_lists.new.heap.objects
