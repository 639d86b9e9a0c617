-- A term that mentions none of the functions has no calls of them; of another, one item after another is opened.
use Rattle.std.proofs.Common.{◌≡◌, List, ◌∷◌, [], ◌++◌, sym, ap, ◌∙◌, subst, rules, false}
use Rattle.std.proofs.lemmas.List.{append-nil}
use Rattle.mw_model.specs.Terms.Object.{Object}
use Rattle.mw_model.specs.Events.Obligation.{mentions}
use Rattle.mw_heap.specs.Objects.{Grows}
use Rattle.mw_heap.proofs.Objects.{Grows-trans}
use Rattle.mw_term.specs.Parts.{names_at}
use Rattle.mw_define.specs.declared.item.Part.TheVariants as part
use Rattle.mw_define.specs.declared.item.Item.{Item}
use Rattle.mw_define.specs.Collecting.{the_term, AreTests, tests_of, Advances, IsPartOf, AreFoundCalls, found_calls}
use Rattle.mw_define.specs.Knowing.{AreKnown}
use Rattle.mw_define.proofs.Knowing.{known-Grows, known-own, known-before, known-names}
use Rattle.mw_define.proofs.Collection.{IsCollecting, collecting-start, collecting-item, collecting-step}
use Rattle.mw_define.proofs.Unmentioned.{no-calls}
use Rattle.mw_define.proofs.collect.find_calls.Goals as goal

pub mentions_some-requires-clause-within : goal.mentions_some-requires-clause-within
mentions_some-requires-clause-within c = (c.requires.within, c.requires.read.0, c.requires.read.1)

pub returns-then-not-branch-clause-found : goal.returns-then-not-branch-clause-found
returns-then-not-branch-clause-found c = subst (AreFoundCalls c.args.heap.now.objects (names_at c.args.heap.now.objects c.args.known.now.names.keys)) (sym c.new-found.ensures.items) tt

pub returns-then-not-branch-clause-calls : goal.returns-then-not-branch-clause-calls
returns-then-not-branch-clause-calls c = λ B t n e.
    let unmentioned : mentions B t ≡ false = ap (mentions B) (sym (ap the_term e)) ∙ (sym (c.in_ok-mentions_some.ensures.mentions B n) ∙ c.if-not-branch.true) in
    ap (found_calls B c.args.heap.now.objects) c.new-found.ensures.items ∙ sym (no-calls B [] tt t unmentioned)

pub loop-item-init : goal.loop-item-init
loop-item-init c =
    let os = c.args.heap.now.objects in
    let keys = c.args.known.now.names.keys in
    let new = c.nil.new.self.objects in
    let names = names_at os keys in
    let made = c.in_ok-tests.ensures.made in
    let item : Item = record { part = part.Term c.args.term; tests = c.in_ok-tests.tests } in
    let waiting : c.push.new.self.items ≡ item ∷ [] = c.in_ok-push.ensures.items ∙ ap (λ l. l ++ item ∷ []) c.new-waiting.ensures.items in
    let start = collecting-start names os new c.args.term c.in_ok-tests.tests c.in_ok-tests.ensures.grows c.requires.within c.requires.read.0 c.requires.read.1 (made.0, subst AreTests (sym made.1) tt) (ap tests_of made.1) in (
      subst (λ fs. IsCollecting names os new c.args.term fs c.push.new.self.items) (sym c.new-found.ensures.items) (subst (IsCollecting names os new c.args.term []) (sym waiting) start),
      known-Grows os new keys c.mentions_some.new.known c.in_ok-tests.ensures.grows c.in_ok-mentions_some.ensures.known,
    )

pub advance-requires-clause-part : goal.advance-requires-clause-part
advance-requires-clause-part c =
    let os = c.args.heap.now.objects in
    let keys = c.args.known.now.names.keys in
    let now = c.loop-item.heap.objects in
    let names = names_at os keys in
    let h = subst (IsCollecting names os now c.args.term c.loop-item.found.items) c.in-Some.ensures.items c.loop-item.invariant.0 in
    let k = collecting-item names os now now c.args.term c.loop-item.found.items c.pop.new.self.items c.in-Some.item ([], sym (append-nil now)) h in
    subst (λ ns. IsPartOf now ns c.in-Some.item.part) (sym (known-names os now keys c.loop-item.known c.loop-item.invariant.0.grows c.requires.known.symbols c.loop-item.invariant.1)) k.0

pub advance-requires-clause-tests_in : goal.advance-requires-clause-tests_in
advance-requires-clause-tests_in c =
    let os = c.args.heap.now.objects in
    let keys = c.args.known.now.names.keys in
    let now = c.loop-item.heap.objects in
    let names = names_at os keys in
    let h = subst (IsCollecting names os now c.args.term c.loop-item.found.items) c.in-Some.ensures.items c.loop-item.invariant.0 in
    (collecting-item names os now now c.args.term c.loop-item.found.items c.pop.new.self.items c.in-Some.item ([], sym (append-nil now)) h).1

pub advance-requires-clause-known : goal.advance-requires-clause-known
advance-requires-clause-known c = known-own c.loop-item.heap.objects c.args.known.now.names.keys c.loop-item.known c.loop-item.invariant.1

pub returns-clause-known : goal.returns-clause-known
returns-clause-known c = c.loop-item.invariant.1

pub returns-then-looks_left-eq0-clause-grows : goal.returns-then-looks_left-eq0-clause-grows
returns-then-looks_left-eq0-clause-grows c = c.loop-item.invariant.0.grows

pub returns-in_err-advance-clause-grows : goal.returns-in_err-advance-clause-grows
returns-in_err-advance-clause-grows c = Grows-trans c.args.heap.now.objects c.loop-item.heap.objects c.advance.new.heap.objects c.loop-item.invariant.0.grows c.advance.ensures.grows

pub loop-item-preserved : goal.loop-item-preserved
loop-item-preserved c =
    let os = c.args.heap.now.objects in
    let keys = c.args.known.now.names.keys in
    let now = c.loop-item.heap.objects in
    let new = c.advance.new.heap.objects in
    let names = names_at os keys in
    let h = subst (IsCollecting names os now c.args.term c.loop-item.found.items) c.in-Some.ensures.items c.loop-item.invariant.0 in
    let a = subst (λ ns. Advances ns now new c.in-Some.item c.loop-item.found.items c.advance.new.found.items c.pop.new.self.items c.advance.new.waiting.items) (known-names os now keys c.loop-item.known c.loop-item.invariant.0.grows c.requires.known.symbols c.loop-item.invariant.1) c.in_ok-advance.ensures.advances in (
      subst (λ (t : List Object). IsCollecting names os t c.args.term c.advance.new.found.items c.advance.new.waiting.items) (sym c.in_ok-take_searches_since.ensures)
          (collecting-step names os now new c.args.term c.loop-item.found.items c.pop.new.self.items c.in-Some.item c.in_ok-advance.ensures.grows c.advance.new.found.items c.advance.new.waiting.items a h),
      subst (λ (t : List Object). AreKnown t keys c.advance.new.known) (sym c.in_ok-take_searches_since.ensures) (known-before now new keys c.loop-item.known c.advance.new.known c.loop-item.invariant.1 c.in_ok-advance.ensures.known),
    )

pub returns-in_err-take_searches_since-clause-grows : goal.returns-in_err-take_searches_since-clause-grows
returns-in_err-take_searches_since-clause-grows c = subst (Grows c.args.heap.now.objects) (sym c.take_searches_since.ensures) (Grows-trans _ _ _ c.loop-item.invariant.0.grows c.advance.ensures.grows)

pub returns-clause-grows : goal.returns-clause-grows
returns-clause-grows c = c.loop-item.invariant.0.grows

pub returns-clause-found : goal.returns-clause-found
returns-clause-found c = c.loop-item.invariant.0.founds

pub returns-clause-calls : goal.returns-clause-calls
returns-clause-calls c = λ B t n e.
    let os = c.args.heap.now.objects in
    let keys = c.args.known.now.names.keys in
    let now = c.loop-item.heap.objects in
    let found = c.loop-item.found.items in
    let none : c.loop-item.waiting.items ≡ [] = search rules in
    let all = subst (IsCollecting (names_at os keys) os now c.args.term found) none c.loop-item.invariant.0 in
    sym (append-nil (found_calls B now found)) ∙ all.calls B t n e
